-- The run of a body as the outermost function, and what it begins with.
use Rattle.std.specs.Prelude.{◌≡◌, ◌<◌, ◌+◌, ◌*◌, ℕ, pos, Bool, true, false, not, ◌&&◌, ◌||◌, List, [], ◌∷◌, Option, Contains, IsTrue, is_some, slice_index_or, take}
use Rattle.std.specs.List.{list_all}
use Rattle.pt_tree.specs.declared.signature.Elem.{Elem}
use Rattle.pt_tree.specs.declared.signature.Signature.{Signature}
use Rattle.typed_tree.specs.declared.types.VarTy.{VarTy}
use Rattle.typed_tree.specs.declared.types.VarTy.TheVariants.{Int, Struct, Array, Pointer}
use Rattle.typed_tree.specs.declared.variable.Var.{Var}
use Rattle.typed_tree.specs.Cells.{cells_of}
use Rattle.typed_tree.specs.TypeTests.{type_of_elem}
use Rattle.runs.specs.State.{Hosts}
use Rattle.host_models.specs.Mixed.{is_mixed}
use Rattle.host_models.specs.Fitting.{fits}
use Rattle.block_memory.specs.declared.cell.Cell.{Cell}
use Rattle.block_memory.specs.declared.cell.Cell.TheVariants as cell
use Rattle.block_memory.specs.declared.cell.Pointer.TheVariants as pointer
use Rattle.block_memory.specs.declared.cell.BlockName.{BlockName}
use Rattle.block_memory.specs.declared.cell.BlockName.TheVariants.{Local, Global, Received}
use Rattle.block_memory.specs.Blocks.{Blocks, IsFree}
use Rattle.pt_core.specs.CodeTree.{MonitorTree, ProgramTree}
use Rattle.pt_core.specs.Statements.{Frame, State, Outcome}
use Rattle.pt_core.specs.Calls.{body_run, calls_within, context_in, function_in, signature_in}
use Rattle.pt_core.specs.WellFormed.{callees, function_at, is_plain_host, monitor_program, signature_at}
use Rattle.monitor_labels.specs.Nodes.{of_global}
use Rattle.monitor_labels.specs.Arrows.{bound_globals}

-- ---- programs

-- no host, or one that is privileged or takes what is secret
abbrev pub is_no_plain_host : ProgramTree → ℕ → Bool
is_no_plain_host p f = not (is_plain_host (signature_at p f)) || is_mixed (signature_in p f)

abbrev pub calls_no_plain_host : ProgramTree → Bool
calls_no_plain_host p = list_all (is_no_plain_host p) (callees p)

-- a function that is marked `priv`, with its body
pub record IsPrivileged (p : ProgramTree) (f : ℕ) : Type 0 where
  pub there : IsTrue (is_some (function_at p f))
  pub privileged : (signature_in p f).privileged ≡ true

-- a host that isn't privileged and takes what is secret
abbrev pub is_mixed_host : Signature → Bool
is_mixed_host s = s.host && is_mixed s

-- the same stands for each mixed host, and may stand for it: it is a table
abbrev pub MixedHostsAreSame : ProgramTree → Hosts → Hosts → Type 0
MixedHostsAreSame p hosts hosts' = (f : ℕ) → IsTrue (is_mixed_host (signature_in p f)) → (hosts f ≡ hosts' f) × IsTrue (fits (hosts f) (signature_in p f))

-- ---- the run

-- a privileged function is entered at this depth where none is active
abbrev pub outermost : ProgramTree → ℕ → ℕ → Frame
outermost p f depth = record { context = context_in p f; depth = depth; privileged = true }

-- its body, from its entry on, where functions may be entered so much deeper
abbrev pub body_of : ProgramTree → ℕ → ℕ → ℕ → List Cell → State → Outcome (Option Cell)
body_of p f depth deeper args st = body_run p (calls_within p deeper) (outermost p f depth) f args st

-- ---- what it begins with

-- which cells of received blocks are reached
abbrev pub Reached : Type 0
Reached = ℕ → ℕ → Bool

abbrev pub all_reached : Reached
all_reached k i = true

-- so many cells of a received block are, from this one on
abbrev pub AreReached : Reached → ℕ → ℕ → ℕ → Type 0
AreReached reached k at count = (i : ℕ) → i < count → reached k (at + i) ≡ true

-- it points to elements of a received block, all of which are reached, or of a global that the function's entry binds
abbrev pub PointsOutside : MonitorTree → ℕ → Reached → Elem → BlockName → ℕ → ℕ → Type 0
PointsOutside p f reached elem (Local depth v) base count = ⊥
PointsOutside p f reached elem (Global g) base count = Contains (bound_globals p f) (of_global g)
PointsOutside p f reached elem (Received k) base count = AreReached reached k base (count * cells_of p.structs (type_of_elem elem))

-- a cell that points to something
abbrev pub is_pointing : Cell → Bool
is_pointing (cell.Int v) = false
is_pointing (cell.Ptr pointer.Null) = false
is_pointing (cell.Ptr (pointer.At block base count index)) = true
is_pointing (cell.Sealed h) = false

-- an argument for a parameter of this type
abbrev pub IsGiven : MonitorTree → ℕ → Reached → VarTy → Cell → Type 0
IsGiven p f reached (Int t) a = is_pointing a ≡ false
IsGiven p f reached (Struct n) a = is_pointing a ≡ false
IsGiven p f reached (Array elem count) a = is_pointing a ≡ false
IsGiven p f reached (Pointer elem fixed) (cell.Int v) = Unit {0}
IsGiven p f reached (Pointer elem fixed) (cell.Ptr pointer.Null) = Unit {0}
IsGiven p f reached (Pointer elem fixed) (cell.Ptr (pointer.At block base count index)) = PointsOutside p f reached elem block base count
IsGiven p f reached (Pointer elem fixed) (cell.Sealed h) = Unit {0}

-- one for each parameter
abbrev pub AreGiven : MonitorTree → ℕ → Reached → List Var → List Cell → Type 0
AreGiven p f reached [] [] = Unit {0}
AreGiven p f reached [] (a ∷ args) = ⊥
AreGiven p f reached (x ∷ xs) [] = ⊥
AreGiven p f reached (x ∷ xs) (a ∷ args) = IsGiven p f reached x.ty a × AreGiven p f reached xs args

-- the variables that take the arguments
abbrev pub own_parameters : ProgramTree → ℕ → List Var
own_parameters p f = take (function_in p f).params (function_in p f).vars

abbrev pub cell_at : Blocks → BlockName → ℕ → Cell
cell_at blocks name i = slice_index_or (blocks name).cells i (cell.Int (pos 0))

-- No variable is live, nothing that is there points to anything, and each argument that does points outside.
pub record Begins (p : MonitorTree) (f : ℕ) (reached : Reached) (args : List Cell) (blocks : Blocks) : Type 0 where
  pub free : IsFree blocks 0
  pub plain : (name : BlockName) (i : ℕ) → is_pointing (cell_at blocks name i) ≡ false
  pub given : AreGiven p f reached (own_parameters (monitor_program p) f) args
