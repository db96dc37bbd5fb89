-- Code that is fine never computes with a handle: it holds of the next step where the invariant does, and
-- a step keeps the invariant, as does what comes from outside.
use Rattle.std.specs.Prelude.{◌≡◌, ◌<◌, ◌+◌, ℕ, Bool, true, false, List, [], ◌∷◌, Option, Some, None, Result, Ok, Err, ◌⊎◌}
use Rattle.block_memory.specs.declared.cell.Cell.{Cell}
use Rattle.block_memory.specs.declared.cell.Cell.TheVariants.{Ptr}
use Rattle.block_memory.specs.declared.cell.Pointer.TheVariants.{At}
use Rattle.block_memory.specs.declared.cell.BlockName.{BlockName}
use Rattle.block_memory.specs.Blocks.{Blocks}
use Rattle.runs.specs.Pointers.{cell_at}
use Rattle.pt_core.specs.CodeTree.{ExprTree, ProgramTree}
use Rattle.pt_core.specs.Values.{Stop, value_of, written}
use Rattle.pt_core.specs.Calls.{context_in}
use Rattle.pt_core.specs.Steps.{Active, Awaited, Machine, Gate, enters, here, Answer, moved, asked, ended, trapped, spent, idle, Step, with_blocks, step, at_rest, started, resumed}
use Rattle.handle_classes.specs.Classes.{Class, World, scope_in, pointed_to, class_of}
use Rattle.handle_classes.specs.Judgment.{IsFine, Flows, IsFineProgram}
use Rattle.handle_classes.specs.Invariant.{block_class, Fits, AllFit, MayLie, cell_of, MemoryFits, Fine}
use Rattle.handle_classes.specs.Computes.{is_sealed, has_handle, meets, computes_next}

-- ---- expressions and places

abbrev pub FitsIf : World → List Active → Class → Result Cell Stop → Type 0
FitsIf w active c (Ok v) = Fits w active c v
FitsIf w active c (Err stop) = Unit {0}

-- a fine expression has a value of its class, and nothing within it computes with a handle
pub record ValueFits (program : ProgramTree) (w : World) (a : Active) (rest : List Active) (blocks : Blocks) (e : ExprTree) : Type 0 where
  pub fits : FitsIf w (a ∷ rest) (class_of (scope_in program w a.function) e) (value_of (context_in program a.function) a.depth e blocks)
  pub unmet : meets (context_in program a.function) a.depth e blocks ≡ false

abbrev pub ValuesFit : Type 0
ValuesFit = (program : ProgramTree) (w : World) (a : Active) (rest : List Active) (blocks : Blocks) (e : ExprTree) →
    IsFineProgram program w → MemoryFits w (a ∷ rest) blocks → IsFine (scope_in program w a.function) e → ValueFits program w a rest blocks e

-- ---- the next step

-- What is run here has no handle among its arguments, or it has no parameter that may be one.
pub record FitsGate (w : World) {G : Type 0} (gate : Gate G) : Type 0 where
  pub run_here : (g : G) (f : ℕ) (args : List Cell) → gate.way g f args ≡ here → (has_handle args ≡ false) ⊎ ((n : ℕ) → (w.param f n).may 0 ≡ false)

-- Where the invariant holds, the code is fine and the gate fits, the next step computes with no handle; the
-- marked parameters are those whose class is that of a handle.
abbrev pub NoHandleIsComputedWith : Type 0 → Type 0
NoHandleIsComputedWith G = (program : ProgramTree) (w : World) (gate : Gate G) (m : Machine) (g : G) →
    IsFineProgram program w → FitsGate w gate → Fine program w m → computes_next (λ f n. (w.param f n).may 0) program gate m g ≡ false

-- ---- after it

-- A parameter of what is entered goes to the variable of its number.
abbrev pub EntersFit : World → {G : Type 0} → Gate G → Type 0
EntersFit w {G} gate = (g : G) (f : ℕ) (args : List Cell) → gate.way g f args ≡ enters → (n : ℕ) → Flows (w.param f n) (w.variable f n)

-- a call of this function may give this
abbrev pub MayGive : World → ℕ → Option Cell → Type 0
MayGive w f None = Unit {0}
MayGive w f (Some v) = is_sealed v ≡ true → w.result f ≡ true

abbrev pub IsNoHandle : Option Cell → Type 0
IsNoHandle None = Unit {0}
IsNoHandle (Some v) = is_sealed v ≡ false

-- The call that is asked for is awaited, and its arguments are of the classes of its parameters; the
-- outermost function gives no handle.
abbrev pub AnswerFits : World → Machine → Answer → Type 0
AnswerFits w m moved = m.awaits ≡ None
AnswerFits w m (asked f args depth) = AllFit w m.active (w.param f) args × ((result : Option ℕ) × (m.awaits ≡ Some (record { callee = f; result = result })))
AnswerFits w m (ended v) = IsNoHandle v × (m.awaits ≡ None)
AnswerFits w m (trapped trap span) = m.awaits ≡ None
AnswerFits w m spent = m.awaits ≡ None
AnswerFits w m idle = m.awaits ≡ None

pub record StaysFine (program : ProgramTree) (w : World) {G : Type 0} (s : Step G) : Type 0 where
  pub fine : Fine program w s.machine
  pub answer : AnswerFits w s.machine s.answer

-- Where the invariant holds of a machine that awaits nothing, it holds after a step.
abbrev pub StepsKeepFine : Type 0 → Type 0
StepsKeepFine G = (program : ProgramTree) (w : World) (gate : Gate G) (m : Machine) (g : G) →
    IsFineProgram program w → EntersFit w gate → Fine program w m → m.awaits ≡ None → StaysFine program w (step program gate m g)

-- ---- what comes from outside

abbrev pub RestIsFine : Type 0
RestIsFine = (program : ProgramTree) (w : World) (budget : ℕ) → Fine program w (at_rest program budget)

-- a function is started with arguments of the classes of its variables, and gives no handle
abbrev pub StartsKeepFine : Type 0
StartsKeepFine = (program : ProgramTree) (w : World) (privileged : Bool) (f depth : ℕ) (args : List Cell) (m : Machine) →
    IsFineProgram program w → Fine program w m → m.active ≡ [] → m.awaits ≡ None → w.result f ≡ false → AllFit w [] (w.variable f) args →
    Fine program w (started program privileged f depth args m)

-- what is given for the call that was asked for
abbrev pub MayResume : World → Option Cell → Option Awaited → Type 0
MayResume w v None = Unit {0}
MayResume w v (Some awaited) = MayGive w awaited.callee v

abbrev pub ResumesKeepFine : Type 0
ResumesKeepFine = (program : ProgramTree) (w : World) (v : Option Cell) (m : Machine) → Fine program w m → MayResume w v m.awaits → Fine program w (resumed v m)

-- a cell that was received is written where such a cell may lie
abbrev pub WritesKeepFine : Type 0
WritesKeepFine = (program : ProgramTree) (w : World) (block : BlockName) (n : ℕ) (v : Cell) (m : Machine) →
    Fine program w m → (block_class w m.active block).pointer ≡ false → MayLie (block_class w m.active block) n v →
    Fine program w (with_blocks (written m.blocks block n v) m)

-- A cell of an element to which a pointer of this class points: a handle lies there only where one may by the
-- class, and one may be written where one must be able to lie.
pub record BehindFits (program : ProgramTree) (w : World) (m : Machine) (c : Class) (block : BlockName) (at n : ℕ) : Type 0 where
  pub lies : MayLie (pointed_to c) n (cell_of m.blocks block at)
  pub takes : (v : Cell) → (is_sealed v ≡ true → c.must n ≡ true) → Fine program w (with_blocks (written m.blocks block at v) m)

-- so it is with what goes along with a call and comes back, behind each argument
abbrev pub CellsBehindFit : Type 0
CellsBehindFit = (program : ProgramTree) (w : World) (m : Machine) (c : Class) (block : BlockName) (base count index i n : ℕ) →
    Fine program w m → Fits w m.active c (Ptr (At block base count index)) → c.pointer ≡ true → i < count → n < c.size →
    BehindFits program w m c block (cell_at c.size base i + n) n
