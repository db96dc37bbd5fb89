-- The meaning of expressions: one equation for each form, from left to right (C99 6.5, with this
-- project's order of evaluation).
use Rattle.std.specs.Prelude.{ℕ, ◌+◌, pos, Bool, false, not, List, [], ◌∷◌, Option, Some, None, Result, Ok, Err, if◌then◌else◌, get_or, take, drop}
use Rattle.pt_base.specs.declared.int_type.IntType.TheVariants as i
use Rattle.pt_base.specs.declared.span.Span.{Span}
use Rattle.pt_base.specs.declared.trap.Trap.{Trap}
use Rattle.pt_base.specs.declared.trap.Trap.TheVariants.{Null}
use Rattle.runs.specs.Pointers.{if_ok, reached}
use Rattle.runs.specs.State.{gives, trapped, ◌>>=◌}
use Rattle.typed_tree.specs.declared.types.VarTy.{VarTy}
use Rattle.typed_tree.specs.declared.types.VarTy.TheVariants.{Int, Struct, Array, Pointer}
use Rattle.typed_tree.specs.declared.types.StructInfo.{StructInfo}
use Rattle.typed_tree.specs.declared.link.LinkStep.{LinkStep}
use Rattle.typed_tree.specs.declared.link.LogicalOp.{LogicalOp}
use Rattle.typed_tree.specs.declared.link.LogicalOp.TheVariants.{And, Or}
use Rattle.typed_tree.specs.ExpressionTree as t
use Rattle.typed_tree.specs.ExpressionTree.{ExprTree, typed, FormTree, ExprTrees, no_exprs, expr_and, LinkTrees, no_links, link_and, link, OperandTrees, no_operands, operand_and, operand, PlaceTree, place, RootTree, StepTree, StepTrees, no_steps, step_and}
use Rattle.typed_tree.specs.Sizes.{sizes_of, cells_by, elem_cells, offset_of, fields_of}
use Rattle.typed_tree.specs.TypeTests.{type_of_elem}
use Rattle.source_meaning.specs.Memory.{Block, local, global, Cell, number, null, pointer, read, write, Memory}
use Rattle.source_meaning.specs.State.{State, Outcome}
use Rattle.source_meaning.specs.Values.{Value, holds, whole, nothing, cell_of, number_of, is_true, truth_value, converted, converted_cell, target_of, moved_cell, Location, unary_cell, stepped, unit_step}
pub use Rattle.typed_tree.specs.Cells.{type_at}

-- Where a function's code runs: at which depth it was called, and whether a privileged function is
-- active, itself or one that called it.
pub record Frame : Type 0 where
  pub depth : ℕ
  pub privileged : Bool

-- what a call does: from which frame, at which place of the text, which function, with which values
abbrev pub Calls : Type 0
Calls = Frame → Span → ℕ → List Value → State → Outcome Value

-- What an expression is evaluated with: the program's structs, the types of its globals and of the
-- function's variables, the frame, and what calls do.
pub record Context : Type 0 where
  pub structs : List StructInfo
  pub globals : List VarTy
  pub variables : List VarTy
  pub frame : Frame
  pub calls : Calls

abbrev pub sizes : Context → List ℕ
sizes context = sizes_of context.structs

-- a result of an operator, or its trap at this place
abbrev pub or_trap : {A : Type 0} → Span → Result A Trap → State → Outcome A
or_trap s (Ok a) st = gives a st
or_trap s (Err trap) st = trapped trap s st

-- ---- objects

-- the type of a field
abbrev pub field_type : List StructInfo → ℕ → ℕ → VarTy
field_type structs n k = (get_or (fields_of structs n) k (record { name = []; ty = Int i.Int; marked = false })).ty

-- the field of an object of this type
abbrev pub field_of : Context → ℕ → Location → VarTy → Location
field_of context k at (Struct n) = record { block = at.block; cell = at.cell + offset_of context.structs n k; ty = field_type context.structs n k }
field_of context k at ty = at

-- the field of a struct
abbrev pub field_at : Context → ℕ → Location → Location
field_at context k at = field_of context k at at.ty

-- an array as a pointer to its first element (C99 6.3.2.1p3)
abbrev pub decayed : Location → VarTy → Cell
decayed at (Array elem count) = pointer at.block at.cell count 0
decayed at ty = null

-- `&`: a pointer to one object (C99 6.5.3.2p3)
abbrev pub address_of : Location → Cell
address_of at = pointer at.block at.cell 1 0

-- the object of this type at a cell of a block
abbrev pub object_at : VarTy → Block × ℕ → Location
object_at ty at = record { block = at.0; cell = at.1; ty = ty }

-- what a pointer of this type points to
abbrev pub dereferenced : Context → VarTy → Cell → Result Location Trap
dereferenced context (Pointer elem fixed) cell = if_ok (reached (elem_cells (sizes context) elem) (target_of cell)) (object_at (type_of_elem elem))
dereferenced context ty cell = Err Null

-- the type of an element
abbrev pub element_of : VarTy → VarTy
element_of (Array elem count) = Pointer elem false
element_of ty = ty

-- an element of an array: decayed, moved by the index, and dereferenced
abbrev pub indexed : Context → Span → Location → Value → State → Outcome Location
indexed context s at index st =
    or_trap s (moved_cell (number_of index) (decayed at at.ty)) st >>= λ cell. or_trap s (dereferenced context (element_of at.ty) cell)

-- the cells of an object
abbrev pub cells_at : State → Location → ℕ → List Cell
cells_at st at count = take count (drop at.cell (st.memory at.block))

-- what an object holds: a struct all its cells, another its one cell
abbrev pub loaded : Context → Location → VarTy → State → Value
loaded context at (Struct n) st = whole (cells_at st at (cells_by (sizes context) (Struct n)))
loaded context at ty st = holds (read st.memory at.block at.cell)

-- the memory in which cells are written from a place on, one after the other
abbrev pub write_all : Memory → Block → ℕ → List Cell → Memory
write_all memory block at [] = memory
write_all memory block at (cell ∷ cells) = write_all (write memory block at cell) block (at + 1) cells

-- the memory in which an object holds this value
abbrev pub stored_in : Memory → Location → Value → Memory
stored_in memory at (holds cell) = write memory at.block at.cell cell
stored_in memory at (whole cells) = write_all memory at.block at.cell cells
stored_in memory at nothing = memory

-- the value is stored, and is what the assignment gives
abbrev pub store : Location → Value → State → Outcome Value
store at v st = gives v (record st { memory = stored_in st.memory at v })

-- ---- operators

-- `x op= y`: the left value is read after the right side, and the result is converted to its type
-- (C99 6.5.16.2)
abbrev pub compounded : Context → Span → Location → LinkStep → Value → State → Outcome Value
compounded context s at step v st =
    or_trap s (stepped (sizes context) at.ty step (read st.memory at.block at.cell) (cell_of v)) st >>= λ cell. store at (holds (converted_cell at.ty cell))

-- a cell as a value, or the trap at this place
abbrev pub cell_or_trap : Span → Result Cell Trap → State → Outcome Value
cell_or_trap s r st = or_trap s r st >>= λ cell. gives (holds cell)

-- what a step gives: behind its operand the value before it
abbrev pub step_gives : Bool → Value → Value → Value
step_gives postfix old new = if postfix then old else new

-- `++` and `--` on an object
abbrev pub counted : Context → Span → Bool → Bool → Location → State → Outcome Value
counted context s back postfix at st =
    compounded context s at (unit_step at.ty back) (holds (number (pos 1))) st >>= λ v. gives (step_gives postfix (loaded context at at.ty st) v)

-- `&&` is decided where the value so far is false, `||` where it is true (C99 6.5.13p4, 6.5.14p4)
abbrev pub is_decided : LogicalOp → Bool → Bool
is_decided And b = not b
is_decided Or b = b

abbrev pub link_type : t.LinkTree → VarTy
link_type (link s ty step e) = ty

-- the type of an expression that isn't void
abbrev pub type_or_int : Option VarTy → VarTy
type_or_int (Some ty) = ty
type_or_int None = Int i.Int

abbrev pub type_of : ExprTree → VarTy
type_of (typed s ty form) = type_or_int ty

-- no object
abbrev pub nowhere : Location
nowhere = record { block = global 0; cell = 0; ty = Int i.Int }

abbrev mutual
  -- the value of an expression
  pub value_of : ExprTree → Context → State → Outcome Value
  value_of (typed s ty form) c st = form_value form s ty c st

  pub form_value : FormTree → Span → Option VarTy → Context → State → Outcome Value
  form_value (t.constant v) s ty c st = gives (holds (number v)) st
  form_value t.null s ty c st = gives (holds null) st
  form_value (t.read p) s ty c st = location_of p c st >>= λ at st1. gives (loaded c at at.ty st1) st1
  form_value (t.decay p) s ty c st = location_of p c st >>= λ at. gives (holds (decayed at at.ty))
  form_value (t.address p) s ty c st = location_of p c st >>= λ at. gives (holds (address_of at))
  form_value (t.unary op a) s ty c st = value_of a c st >>= λ v. cell_or_trap s (unary_cell op (type_of a) (cell_of v))
  form_value (t.convert a) s ty c st = value_of a c st >>= λ v. gives (converted (type_or_int ty) v)
  form_value (t.discard a) s ty c st = value_of a c st >>= λ v. gives nothing
  form_value (t.chain a links) s ty c st = value_of a c st >>= λ v. links_value links (type_of a) v c
  form_value (t.logical op a operands) s ty c st = value_of a c st >>= λ v. operands_value operands op (is_true v) c
  form_value (t.choice a b d) s ty c st = value_of a c st >>= λ v. if is_true v then value_of b c else value_of d c
  form_value (t.assign p a) s ty c st = location_of p c st >>= λ at st1. value_of a c st1 >>= store at
  form_value (t.compound p left step a) s ty c st = location_of p c st >>= λ at st1. value_of a c st1 >>= compounded c s at step
  form_value (t.step p left back postfix) s ty c st = location_of p c st >>= counted c s back postfix
  form_value (t.call f arguments) s ty c st = values_of arguments c st >>= c.calls c.frame s f.0

  -- arguments, from the left
  pub values_of : ExprTrees → Context → State → Outcome (List Value)
  values_of no_exprs c st = gives [] st
  values_of (expr_and e rest) c st = value_of e c st >>= λ v st1. values_of rest c st1 >>= λ vs. gives (v ∷ vs)

  -- the links of a chain, from the value so far
  pub links_value : LinkTrees → VarTy → Value → Context → State → Outcome Value
  links_value no_links ty v c st = gives v st
  links_value (link_and l rest) ty v c st = link_value l ty v c st >>= λ w. links_value rest (link_type l) w c

  pub link_value : t.LinkTree → VarTy → Value → Context → State → Outcome Value
  link_value (link s to step e) ty v c st = value_of e c st >>= λ w. cell_or_trap s (stepped (sizes c) ty step (cell_of v) (cell_of w))

  -- the operands of `&&` or `||`, each only where those before leave it open
  pub operands_value : OperandTrees → LogicalOp → Bool → Context → State → Outcome Value
  operands_value no_operands op b c st = gives (truth_value b) st
  operands_value (operand_and o rest) op b c st =
      if is_decided op b then gives (truth_value b) st else (operand_value o c st >>= λ v. operands_value rest op (is_true v) c)

  pub operand_value : t.OperandTree → Context → State → Outcome Value
  operand_value (operand s e) c st = value_of e c st

  -- where a place lies
  pub location_of : PlaceTree → Context → State → Outcome Location
  location_of (place root steps) c st = root_location root c st >>= λ at. steps_location steps at c

  pub root_location : RootTree → Context → State → Outcome Location
  root_location (t.local v) c st = gives (record { block = local c.frame.depth v.0; cell = 0; ty = type_at c.variables v.0 }) st
  root_location (t.global g) c st = gives (record { block = global g.0; cell = 0; ty = type_at c.globals g.0 }) st
  root_location (t.deref e s) c st = value_of e c st >>= λ v. or_trap s (dereferenced c (type_of e) (cell_of v))
  root_location (t.assigned e) c st = assigned_location e c st

  -- the left object of an assignment, after it
  pub assigned_location : ExprTree → Context → State → Outcome Location
  assigned_location (typed s ty form) c st = form_location form c st

  pub form_location : FormTree → Context → State → Outcome Location
  form_location (t.assign p a) c st = location_of p c st >>= λ at st1. value_of a c st1 >>= λ v st2. store at v st2 >>= λ w. gives at
  form_location form c st = gives nowhere st

  pub steps_location : StepTrees → Location → Context → State → Outcome Location
  steps_location no_steps at c st = gives at st
  steps_location (step_and step rest) at c st = step_location step at c st >>= λ next. steps_location rest next c

  pub step_location : StepTree → Location → Context → State → Outcome Location
  step_location (t.field k) at c st = gives (field_at c k at) st
  step_location (t.item e s) at c st = value_of e c st >>= indexed c s at
