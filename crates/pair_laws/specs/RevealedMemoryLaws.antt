-- At every step of the pair of an accepted program, in every order of turns, the memory of both sides as one is the whole program's.
use Rattle.std.specs.Prelude.{◌≡◌, ◌+◌, ◌<◌, ◌⊎◌, ℕ, Bool, List, None, length}
use Rattle.pt_base.specs.declared.end.End.{End}
use Rattle.pt_base.specs.declared.end.End.TheVariants.{Spent}
use Rattle.pt_tree.specs.ProgramTree.{ItemTree}
use Rattle.runs.specs.Run.{Expected}
use Rattle.runs.specs.State.{Hosts}
use Rattle.typed_tree.specs.TypedTree.{TypedTree}
use Rattle.host_table.specs.Hosts as table
use Rattle.host_table.specs.RunHosts.{models_of}
use Rattle.policy.specs.Answers.{answers_of}
use Rattle.policy.specs.Verdicts.{Standing}
use Rattle.check_programs.specs.Programs.{checked_program}
use Rattle.flow_rules.specs.declared.accepted.Accepted.{Accepted}
use Rattle.lowering.specs.Functions.{core_program}
use Rattle.wire.specs.declared.message.Message.{Message}
use Rattle.pt_core.specs.Steps.{Step, moved}
use Rattle.pt_core.specs.WellFormed.{slave_program}
use Rattle.core_steps_law.specs.MachinesJudged.{Judging, judged_after}
use Rattle.part_views_law.specs.Views.{has_global}
use Rattle.pair_protocol.specs.Pair.{Both, Going, Who, caught_up, done, goes, run, wrong}
use Rattle.pair_meaning.specs.Monitors.{Monitor}
use Rattle.pair_meaning.specs.Pair.{pair_steps, the_sides}
use Rattle.pair_meaning.specs.Revealed.{revealed_memory}
use Rattle.pair_meaning.specs.Rules.{PeerRule}
use Rattle.pair_meaning.specs.SlaveRun.{Slave}
use Rattle.pair_invariant_law.specs.AcceptedLaws.{monitor_half, slave_half}
use Rattle.pair_laws.specs.PairStartOwn.{HostsAre, with_hosts}
use Rattle.pair_laws.specs.PairStartStart.{boot_at, monitor_at}
use Rattle.pair_laws.specs.AcceptedPairsLaws.{MayRun, expected_of}

-- ---- the whole program

-- the run of the whole program in the normal form after so many steps, judged by the policy as it goes
abbrev pub whole_at : TypedTree → Standing → table.Hosts → List ℕ → ℕ → ℕ → Step (Judging Standing)
whole_at t policy hosts input turns steps = judged_after (answers_of policy) (core_program t) (models_of hosts.models) input turns steps

-- the globals that the slave owns
abbrev pub slave_owns : TypedTree → Accepted → ℕ → Bool
slave_owns t a = has_global (slave_program (slave_half t a))

-- ---- both sides as one

-- The slave was given as many handles as the monitor has stored values. With these in the place of handles, beside the monitor's
-- globals, its memory is the whole's. Both have taken the whole's turns, and have written its bytes; and its policy allowed each
-- guarded call so far and stands as the monitor's.
pub record AreTheWhole (owned : ℕ → Bool) (whole : Step (Judging Standing)) (x : Slave) (m : Monitor) (written : List ℕ) : Type 0 where
  pub goes_on : whole.answer ≡ moved
  pub handles : length x.given ≡ length m.store
  pub memory : whole.machine.blocks ≡ revealed_memory owned x m
  pub turns : whole.machine.turns ≡ x.machine.turns + m.turns
  pub judgement : whole.gate.judgement ≡ record { bytes = written; state = m.policy; calls = m.calls; refused = None }

-- The turns of both are more than there are: the whole's budget is spent, with these bytes.
pub record AreOver (budget : ℕ) (e : Expected) (x : Slave) (m : Monitor) (written : List ℕ) : Type 0 where
  pub over : budget < x.machine.turns + m.turns
  pub expected_is : e ≡ record { bytes = written; end = Spent }

-- Both are the whole after some steps of its run, or over its budget; or they have come to the end and the bytes that are expected.
-- They never break a rule.
abbrev pub ShowTheWhole : (ℕ → Bool) → (ℕ → Step (Judging Standing)) → ℕ → Expected → Both Slave Monitor End PeerRule → Type 0
ShowTheWhole owned whole budget e (run x m written) = ((steps : ℕ) × AreTheWhole owned (whole steps) x m written) ⊎ AreOver budget e x m written
ShowTheWhole owned whole budget e (done bytes end) = e ≡ record { bytes = bytes; end = end }
ShowTheWhole owned whole budget e (wrong bytes rule) = ⊥

-- ---- the law

-- Whatever the window is and whoever takes which turn: as long as the pair goes on, let the monitor serve what waits in the queue, and
-- the slave take the reply that it waits for. Then both show the whole.
abbrev pub PairsRevealTheWhole : Type 0
PairsRevealTheWhole = (items : List ItemTree) (a : Accepted) (policy : Standing) (hosts : table.Hosts) (input : List ℕ) (turns : ℕ) (own : Hosts) → MayRun items a hosts input turns →
    HostsAre (monitor_half (checked_program items).tree a) own (models_of hosts.models) →
    (window : ℕ) (answers : List Who) (p : Going Slave Monitor Message) →
    pair_steps (boot_at (checked_program items).tree a hosts input turns) (with_hosts own (monitor_at (checked_program items).tree a policy hosts input turns)) window answers ≡ goes p →
    ShowTheWhole (slave_owns (checked_program items).tree a) (whole_at (checked_program items).tree policy hosts input turns) turns (expected_of (checked_program items).tree policy hosts input turns) (caught_up the_sides p)
