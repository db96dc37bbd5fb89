-- The gates of a slave and of the whole agree.
use Rattle.std.specs.Prelude.{◌≡◌, ◌<◌, ◌⊎◌, ℕ, suc, Bool, false, List, [], Some, None, All}
use Rattle.runs.specs.State.{Hosts}
use Rattle.policy.specs.Answers.{answers_of}
use Rattle.policy.specs.Verdicts.{Standing}
use Rattle.block_memory.specs.Blocks.{Blocks}
use Rattle.marshalling.specs.Handles.{Entries}
use Rattle.pt_core.specs.CodeTree.{MonitorTree, ProgramTree}
use Rattle.pt_core.specs.Steps.{Machine, Step, moved, step}
use Rattle.pt_core.specs.WellFormed.{monitor_program}
use Rattle.core_steps_law.specs.GatesShown.{step_shown}
use Rattle.core_steps_law.specs.MachinesJudged.{judging_gate}
use Rattle.handle_classes.specs.Computes.{computes_next}
use Rattle.part_views_law.specs.Views.{slave_view}
use Rattle.part_views_law.specs.StepsParts.{CallsFit, GatesAgree}
use Rattle.pair_meaning.specs.SlaveRun.{Heard, slave_gate}
use Rattle.pair_invariant_law.specs.Halves.{AreHalvesOf}
use Rattle.pair_invariant_law.specs.Hosts.{AllHostsFit, HostsAgree}
use Rattle.pair_invariant_law.specs.Live.{Setting, whole_after}
use Rattle.pair_invariant_law.specs.SlaveGatesGathering.{AreAlike, Gathered, Meanwhile, gathering_gate, heard_in}

-- Where each host of a part has a model that fits, it is so after any number of the whole's steps, and the input stays.
abbrev pub HostsGoOnFitting : Type 0
HostsGoOnFitting = (w : Setting) (part : ProgramTree) (k : ℕ) → All (λ b. b < 256) w.input → AllHostsFit part w.hosts →
    AllHostsFit part (whole_after w k).gate.hosts × ((whole_after w k).gate.input ≡ w.input)

-- A slave's gate, whose hosts agree with hosts of the whole that fit the slave's, fits what the slave has signatures for.
abbrev pub SlaveGatesFit : Type 0
SlaveGatesFit = (whole slave : ProgramTree) (monitor : MonitorTree) (hosts : Hosts) (input : List ℕ) (monitor_hosts : Hosts) (g : Heard) →
    AreHalvesOf whole slave monitor → HostsAgree slave (monitor_program monitor) hosts input g.hosts g.input monitor_hosts → AllHostsFit slave hosts → All (λ b. b < 256) g.input →
    CallsFit slave (slave_gate slave) g

-- The gate that gathers what hosts write agrees with the whole's judging one, by the slave's view and beside any memory of the
-- monitor's: what goes on in the slave leaves the monitor's hosts and the policy as they are.
abbrev pub SlaveGatesAgree : Type 0
SlaveGatesAgree = (policy : Standing) (whole slave : ProgramTree) (monitor : MonitorTree) (store : Entries) (beside : Blocks) (k : Meanwhile) → AreHalvesOf whole slave monitor →
    GatesAgree (slave_view slave store beside) slave false (gathering_gate slave) (judging_gate (answers_of policy) whole) (AreAlike slave (monitor_program monitor) k)

-- A step under it is one under the slave's own gate, and meets a handle where that does.
pub record StepsAlike (slave : ProgramTree) (x : Machine) (g : Gathered) : Type 0 where
  pub steps : step slave (slave_gate slave) x g.heard ≡ step_shown heard_in (step slave (gathering_gate slave) x g)
  pub computes : (marked : ℕ → ℕ → Bool) → computes_next marked slave (gathering_gate slave) x g ≡ computes_next marked slave (slave_gate slave) x g.heard

abbrev pub GatheringStepsAlike : Type 0
GatheringStepsAlike = (slave : ProgramTree) (x : Machine) (g : Gathered) → StepsAlike slave x g

-- what was written in a step: nothing; or these bytes, in a turn that moved the machine
pub record WroteBytes (x : Machine) (s : Step Gathered) (bytes : List ℕ) : Type 0 where
  pub wrote : s.gate.heard.wrote ≡ Some bytes
  pub gathered : s.gate.bytes ≡ bytes
  pub moves : s.answer ≡ moved
  pub turn : s.machine.turns ≡ suc x.turns

abbrev pub Wrote : Machine → Step Gathered → Type 0
Wrote x s = ((s.gate.heard.wrote ≡ None) × (s.gate.bytes ≡ [])) ⊎ ((bytes : List ℕ) × WroteBytes x s bytes)

-- In a step a slave's hosts write at most once, and what the gate gathers is what it heard.
abbrev pub SlavesWriteOnce : Type 0
SlavesWriteOnce = (slave : ProgramTree) (x : Machine) (g : Gathered) → g.heard.wrote ≡ None → g.bytes ≡ [] → Wrote x (step slave (gathering_gate slave) x g)
