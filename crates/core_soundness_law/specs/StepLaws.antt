-- A step keeps that the machine fits.
use Rattle.std.specs.Prelude.{◌≡◌, ℕ, ℤ, Bool, List, [], ◌∷◌, Option, Some, None, IsTrue, length, map, is_some}
use Rattle.pt_base.specs.declared.int_type.IntType.{IntType}
use Rattle.pt_int.specs.Conversion.{is_in_range}
use Rattle.pt_tree.specs.declared.signature.Param.{Param}
use Rattle.block_memory.specs.declared.cell.Cell.{Cell}
use Rattle.block_memory.specs.declared.cell.BlockName.TheVariants.{Received}
use Rattle.block_memory.specs.Block.{Block}
use Rattle.block_memory.specs.Blocks.{Blocks}
use Rattle.pt_core.specs.CodeTree.{ProgramTree}
use Rattle.pt_core.specs.Values.{number_in}
use Rattle.pt_core.specs.Calls.{signature_in}
use Rattle.pt_core.specs.Steps.{Active, Machine, Gate, enters, here, Answer, moved, asked, ended, trapped, spent, idle, Step, step}
use Rattle.pt_core.specs.WellFormed.{function_at, called_signature, is_sound}
use Rattle.core_soundness_law.specs.Kept.{Kept}
use Rattle.core_soundness_law.specs.Fits.{Fits}
use Rattle.core_soundness_law.specs.Outside.{ArgumentsFit, GivenFits}
pub use Rattle.pt_tree.specs.Signatures.{params_of}

-- ---- gates

-- what a host gives is of its result: a number in its range, or none
abbrev pub NumberFits : Option IntType → Option ℤ → Type 0
NumberFits None None = Unit {0}
NumberFits None (Some v) = ⊥
NumberFits (Some t) None = ⊥
NumberFits (Some t) (Some v) = IsTrue (is_in_range t v)

-- A gate in this state lets calls enter functions of the program alone, and makes calls of hosts alone
-- here, which answer what is of their results.
pub record GateFits (program : ProgramTree) {G : Type 0} (gate : Gate G) (g : G) : Type 0 where
  pub entered : (f : ℕ) (args : List Cell) → gate.way g f args ≡ enters → IsTrue (is_some (function_at program f))
  pub made : (f : ℕ) (args : List Cell) → gate.way g f args ≡ here → IsTrue (signature_in program f).host
  pub answered : (privileged : Bool) (f : ℕ) (args : List Cell) → gate.way g f args ≡ here →
      NumberFits (signature_in program f).result (gate.answer f (map number_in args) (gate.noted privileged f args g)).0

-- ---- arguments and results

abbrev pub called_params : Bool → ProgramTree → ℕ → List Param
called_params monitor program f = params_of (called_signature monitor program f)

-- ---- steps

-- as many cells, of the same types
pub record IsSameShape (a b : Block) : Type 0 where
  pub types : a.types ≡ b.types
  pub count : length a.cells ≡ length b.cells

-- what is asked has arguments of its parameters, which the innermost function holds; what the outermost
-- function gives is of its result
abbrev pub AnswerFits : Kept → Bool → ProgramTree → List Active → Blocks → Answer → Type 0
AnswerFits kept monitor program [] blocks answer = Unit {0}
AnswerFits kept monitor program (a ∷ rest) blocks moved = Unit {0}
AnswerFits kept monitor program (a ∷ rest) blocks (asked f args depth) = ArgumentsFit kept program.structs blocks a.depth (called_params monitor program f) args
AnswerFits kept monitor program (a ∷ rest) blocks (ended v) = GivenFits kept (signature_in program a.function).result v
AnswerFits kept monitor program (a ∷ rest) blocks (trapped trap s) = Unit {0}
AnswerFits kept monitor program (a ∷ rest) blocks spent = Unit {0}
AnswerFits kept monitor program (a ∷ rest) blocks idle = Unit {0}

-- the machine fits, whatever the answer, and the answer does
pub record StepFits (kept : Kept) (monitor : Bool) (program : ProgramTree) (before : List Active) {G : Type 0} (s : Step G) : Type 0 where
  pub machine : Fits kept monitor program s.machine
  pub answer : AnswerFits kept monitor program before s.machine.blocks s.answer

abbrev pub StepKeeps : Type 0 → Type 0
StepKeeps G = (kept : Kept) (monitor : Bool) (program : ProgramTree) (gate : Gate G) (m : Machine) (g : G) → IsTrue (is_sound monitor program) → GateFits program gate g → Fits kept monitor program m → m.awaits ≡ None →
    StepFits kept monitor program m.active (step program gate m g)

-- A step changes no types of a received block, and not whether there is one, whatever the machine and its program.
abbrev pub ReceivedStay : Type 0 → Type 0
ReceivedStay G = (program : ProgramTree) (gate : Gate G) (m : Machine) (g : G) (n : ℕ) → IsSameShape ((step program gate m g).machine.blocks (Received n)) (m.blocks (Received n))
