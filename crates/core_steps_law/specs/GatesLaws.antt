-- Steps under gates that show each other, and what a whole run writes.
use Rattle.std.specs.Prelude.{◌≡◌, ℕ, List, Some}
use Rattle.pt_base.specs.declared.end.End.{End}
use Rattle.runs.specs.Run.{written}
use Rattle.runs.specs.State.{Hosts}
use Rattle.pt_core.specs.CodeTree.{ProgramTree}
use Rattle.pt_core.specs.CoreRun.{core_run}
use Rattle.pt_core.specs.Steps.{Gate, Machine, Step}
use Rattle.core_steps_law.specs.WholeRun.{end_of, steps_run}
use Rattle.core_steps_law.specs.GatesShown.{Shows, step_shown}
use Rattle.core_steps_law.specs.GatesWritten.{Written, bytes_after}

-- So many steps under a gate that shows another one are what is shown of those under the other.
abbrev pub GatesAgree : Type 0 → Type 0 → Type 0 → Type 0
GatesAgree G H K = (shown : G → H) (stays : G → K) (k : K) (from : Gate G) (to : Gate H) → Shows shown stays k from to →
    (program : ProgramTree) (n : ℕ) (m : Machine) (g : G) → stays g ≡ k →
    steps_run program to n m (shown g) ≡ step_shown shown (steps_run program from n m g)

-- it has come to this end, with the bytes, the end and the turns of the program's run
pub record HasRun (program : ProgramTree) (hosts : Hosts) (input : List ℕ) (turns : ℕ) (s : Step Written) (end : End) : Type 0 where
  pub bytes : s.gate.bytes ≡ written (core_run program hosts input turns).events
  pub end_is : end ≡ (core_run program hosts input turns).end
  pub turns_are : s.machine.turns ≡ (core_run program hosts input turns).turns

-- Whatever number of steps a run has come to its end after, it has the bytes of that run.
abbrev pub BytesAreTheRuns : Type 0
BytesAreTheRuns = (program : ProgramTree) (hosts : Hosts) (input : List ℕ) (turns n : ℕ) (end : End) →
    end_of (bytes_after program hosts input turns n).answer ≡ Some end → HasRun program hosts input turns (bytes_after program hosts input turns n) end
