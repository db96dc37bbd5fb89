-- A gate that fits for what the program's functions call.
use Rattle.std.specs.Prelude.{◌≡◌, ℕ, ℤ, Bool, List, map, None, IsTrue, is_some}
use Rattle.block_memory.specs.declared.cell.Cell.{Cell}
use Rattle.pt_core.specs.CodeTree.{ProgramTree}
use Rattle.pt_core.specs.Values.{number_in}
use Rattle.pt_core.specs.Calls.{signature_in}
use Rattle.pt_core.specs.Steps.{Machine, Gate, enters, here, step}
use Rattle.pt_core.specs.WellFormed.{function_at, is_sound}
use Rattle.core_soundness_law.specs.Kept.{Kept}
use Rattle.core_soundness_law.specs.Fits.{Fits}
use Rattle.core_soundness_law.specs.StepLaws.{NumberFits, StepFits}
use Rattle.core_soundness_law.specs.Called.{is_called, CallOwn}

-- Of what the program's functions call, it lets calls enter functions of the program alone, and makes calls of hosts alone
-- here, which answer what is of their results. Nothing is said of a number that no function calls, as a hostile program
-- may have a signature for one without a function.
pub record FitsCalls (program : ProgramTree) {G : Type 0} (gate : Gate G) (g : G) : Type 0 where
  pub entered : (f : ℕ) (args : List Cell) → IsTrue (is_called program f) → gate.way g f args ≡ enters → IsTrue (is_some (function_at program f))
  pub made : (f : ℕ) (args : List Cell) → IsTrue (is_called program f) → gate.way g f args ≡ here → IsTrue (signature_in program f).host
  pub answered : (privileged : Bool) (f : ℕ) (args : List Cell) → IsTrue (is_called program f) → gate.way g f args ≡ here →
      NumberFits (signature_in program f).result (gate.answer f (map number_in args) (gate.noted privileged f args g)).0

abbrev pub StepsKeepCalled : Type 0 → Type 0
StepsKeepCalled G = (kept : Kept) (monitor : Bool) (program : ProgramTree) (gate : Gate G) (m : Machine) (g : G) → IsTrue (is_sound monitor program) → FitsCalls program gate g → CallOwn program m.active →
    Fits kept monitor program m → m.awaits ≡ None → StepFits kept monitor program m.active (step program gate m g)
