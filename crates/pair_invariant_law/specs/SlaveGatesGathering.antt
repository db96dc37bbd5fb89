-- The slave's gate that gathers what hosts wrote, beside the gate by which the whole run is judged.
use Rattle.std.specs.Prelude.{◌≡◌, ℕ, ℤ, List, ◌++◌, Option, Some, None}
use Rattle.runs.specs.State.{Hosts}
use Rattle.policy.specs.Verdicts.{Standing}
use Rattle.pt_core.specs.CodeTree.{ProgramTree}
use Rattle.pt_core.specs.Calls.{signature_in}
use Rattle.pt_core.specs.Steps.{Gate}
use Rattle.core_steps_law.specs.MachinesJudged.{Judgement, Judging}
use Rattle.pair_meaning.specs.SlaveRun.{Heard, slave_gate, way_by}
use Rattle.pair_invariant_law.specs.Hosts.{HostsAgree}

-- ---- the gate

-- what the slave's gate has heard, and all that hosts wrote since
pub record Gathered : Type 0 where
  pub heard : Heard
  pub bytes : List ℕ

abbrev pub heard_in : Gathered → Heard
heard_in g = g.heard

abbrev pub with_written : Option (List ℕ) → List ℕ → List ℕ
with_written None bytes = bytes
with_written (Some more) bytes = bytes ++ more

abbrev pub gathered_answer : Option ℤ × Heard → List ℕ → Option ℤ × Gathered
gathered_answer reply bytes = (reply.0, record { heard = reply.1; bytes = with_written reply.1.wrote bytes })

-- Calls go as through the slave's gate, which keeps the last write alone.
abbrev pub gathering_gate : ProgramTree → Gate Gathered
gathering_gate program = record {
  way = λ g f args. way_by (signature_in program f) args;
  noted = λ active f args g. g;
  answer = λ f numbers g. gathered_answer ((slave_gate program).answer f numbers g.heard) g.bytes;
}

-- ---- beside the whole's

-- What doesn't change while the slave steps: the whole's input and the slave's, the monitor's hosts, and the judgement before: the
-- bytes written, the policy's state and the guarded calls.
pub record Meanwhile : Type 0 where
  pub input : List ℕ
  pub slave_input : List ℕ
  pub monitor_hosts : Hosts
  pub written : List ℕ
  pub state : Standing
  pub calls : ℕ

-- nothing was refused, and these bytes were written since
abbrev pub judgement_at : Meanwhile → List ℕ → Judgement Standing
judgement_at k bytes = record { bytes = k.written ++ bytes; state = k.state; calls = k.calls; refused = None }

-- The whole's judgement has the bytes that the slave's hosts wrote since, its policy stands still, and the hosts agree.
pub record AreAlike (slave monitor : ProgramTree) (k : Meanwhile) (h : Judging Standing) (g : Gathered) : Type 0 where
  pub judgement : h.judgement ≡ judgement_at k g.bytes
  pub input : h.input ≡ k.input
  pub slave_input : g.heard.input ≡ k.slave_input
  pub hosts : HostsAgree slave monitor h.hosts k.input g.heard.hosts k.slave_input k.monitor_hosts
