-- What expressions give, and what is computed with it (C99 6.5).
use Rattle.std.specs.Prelude.{ℕ, ℤ, pos, Bool, true, false, not, List, [], ◌∷◌, Option, Some, None, Result, Ok, if◌then◌else◌, replicate}
use Rattle.std.specs.Ordering.{int_eq}
use Rattle.pt_base.specs.declared.int_type.IntType.{IntType}
use Rattle.pt_base.specs.declared.int_type.IntType.TheVariants as i
use Rattle.pt_base.specs.IntTypes.{promoted, usual}
use Rattle.pt_base.specs.declared.trap.Trap.{Trap}
use Rattle.pt_int.specs.declared.operator.BinOp.{BinOp}
use Rattle.pt_int.specs.declared.operator.BinOp.TheVariants.{Shl, Shr, Add, Sub}
use Rattle.pt_int.specs.declared.operator.UnOp.{UnOp}
use Rattle.pt_int.specs.declared.operator.UnOp.TheVariants as u
use Rattle.pt_int.specs.Conversion.{conv}
use Rattle.pt_int.specs.Operator.{binary_of, unary_of, truth}
use Rattle.runs.specs.Pointers.{Target, directed, moved, if_ok, compared, difference}
use Rattle.typed_tree.specs.declared.types.VarTy.{VarTy}
use Rattle.typed_tree.specs.declared.types.VarTy.TheVariants.{Int, Struct, Array, Pointer}
use Rattle.typed_tree.specs.declared.link.LinkStep.{LinkStep}
use Rattle.typed_tree.specs.declared.link.LinkStep.TheVariants.{Arithmetic, Shift, Move, MoveBy, Difference, Compare}
use Rattle.typed_tree.specs.Sizes.{cells_by, elem_cells}
use Rattle.source_meaning.specs.Memory.{Block, same_block, Cell, number, null, pointer}

-- The value of an expression: what one cell can hold, the cells of a struct, or nothing where its
-- type is void.
pub data Value : Type 0 where
  holds : Cell → Value
  whole : List Cell → Value
  nothing : Value

abbrev pub cell_of : Value → Cell
cell_of (holds cell) = cell
cell_of (whole cells) = number (pos 0)
cell_of nothing = number (pos 0)

-- the number of a cell, where it is one
abbrev pub number_in : Cell → ℤ
number_in (number v) = v
number_in null = pos 0
number_in (pointer block base count index) = pos 0

abbrev pub number_of : Value → ℤ
number_of v = number_in (cell_of v)

abbrev pub numbers_of : List Value → List ℤ
numbers_of [] = []
numbers_of (v ∷ vs) = number_of v ∷ numbers_of vs

-- a condition holds for each number but 0, and for each pointer but null (C99 6.8.4.1p2)
abbrev pub holds_in : Cell → Bool
holds_in (number v) = not (int_eq v (pos 0))
holds_in null = false
holds_in (pointer block base count index) = true

abbrev pub is_true : Value → Bool
is_true v = holds_in (cell_of v)

abbrev pub truth_value : Bool → Value
truth_value b = holds (number (truth b))

-- the cells that a variable of the type has when its function is entered, and again when its
-- declaration is reached
abbrev pub cleared : List ℕ → VarTy → List Cell
cleared sizes (Pointer elem fixed) = null ∷ []
cleared sizes (Int t) = number (pos 0) ∷ []
cleared sizes (Struct n) = replicate (cells_by sizes (Struct n)) (number (pos 0))
cleared sizes (Array elem count) = replicate (cells_by sizes (Array elem count)) (number (pos 0))

-- the cells of a function's variables when it is called with these values: the parameters, which come
-- first, hold them, and the others are cleared
abbrev pub frame_cells : List ℕ → List VarTy → List Value → List (List Cell)
frame_cells sizes [] values = []
frame_cells sizes (ty ∷ types) [] = cleared sizes ty ∷ frame_cells sizes types []
frame_cells sizes (ty ∷ types) (v ∷ vs) = (cell_of v ∷ []) ∷ frame_cells sizes types vs

-- a cell as one of the type: a number is converted (C99 6.3.1.3), a pointer stays
abbrev pub converted_cell : VarTy → Cell → Cell
converted_cell (Int t) (number v) = number (conv t v)
converted_cell ty cell = cell

abbrev pub converted : VarTy → Value → Value
converted ty v = holds (converted_cell ty (cell_of v))

-- ---- pointers

-- the pointer that a cell holds; a number is none
abbrev pub target_of : Cell → Option (Target Block)
target_of (number v) = None
target_of null = None
target_of (pointer block base count index) = Some (record { block = block; base = base; count = count; index = index })

abbrev pub pointer_to : Target Block → Cell
pointer_to p = pointer p.block p.base p.count p.index

abbrev pub moved_cell : ℤ → Cell → Result Cell Trap
moved_cell amount cell = if_ok (moved amount (target_of cell)) pointer_to

-- where an object lies
pub record Location : Type 0 where
  pub block : Block
  pub cell : ℕ
  pub ty : VarTy

-- ---- operators

-- an operator before its operand, as a number of the type (C99 6.5.3.3); `!` asks whether a pointer is
-- null
abbrev pub unary_cell : UnOp → VarTy → Cell → Result Cell Trap
unary_cell u.Not ty cell = Ok (number (truth (not (holds_in cell))))
unary_cell op (Int t) cell = if_ok (unary_of op t (conv t (number_in cell))) number
unary_cell op ty cell = Ok cell

abbrev pub shift_of : Bool → BinOp
shift_of left = if left then Shl else Shr

-- the elements that a pointer type points to have so many cells
abbrev pub pointee_cells : List ℕ → VarTy → ℕ
pointee_cells sizes (Pointer elem fixed) = elem_cells sizes elem
pointee_cells sizes ty = 0

-- the promoted type of an integer (C99 6.3.1.1p2)
abbrev pub promoted_of : VarTy → IntType
promoted_of (Int t) = promoted t
promoted_of ty = i.Int

-- a step of a chain or of a compound assignment, from the value so far with an operand: an operator
-- computes in its type, to which both are converted (C99 6.3.1.8), a shift in the promoted type of its
-- left operand alone (C99 6.5.7p3)
abbrev pub stepped : List ℕ → VarTy → LinkStep → Cell → Cell → Result Cell Trap
stepped sizes ty (Arithmetic op t) a b = if_ok (binary_of op t (conv t (number_in a)) (conv t (number_in b))) number
stepped sizes ty (Shift left) a b = if_ok (binary_of (shift_of left) (promoted_of ty) (conv (promoted_of ty) (number_in a)) (number_in b)) number
stepped sizes ty (Move back) a b = moved_cell (directed back (number_in b)) a
stepped sizes ty MoveBy a b = moved_cell (number_in a) b
stepped sizes ty Difference a b = if_ok (difference same_block (target_of a) (target_of b)) number
stepped sizes ty (Compare op) a b = if_ok (compared same_block op (pointee_cells sizes ty) (target_of a) (target_of b)) (λ holds. number (truth holds))

-- `++` and `--`: 1 is added or subtracted as a compound assignment does it (C99 6.5.2.4, 6.5.3.1)
abbrev pub unit_step : VarTy → Bool → LinkStep
unit_step (Int t) back = Arithmetic (if back then Sub else Add) (usual t i.Int)
unit_step ty back = Move back
