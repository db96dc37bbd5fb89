-- The values of expressions and the places of objects, over block_memory's own blocks and cells. To
-- evaluate changes nothing; it gives a value, or stops at a trap. Where a number is wanted a handle counts
-- as 0.
use Rattle.std.specs.Prelude.{ℕ, ◌+◌, ℤ, pos, Bool, true, false, not, List, [], ◌∷◌, Option, Some, None, Result, Ok, Err, if◌then◌else◌, slice_index_or, take, drop}
use Rattle.std.specs.Ordering.{int_eq}
use Rattle.pt_base.specs.declared.int_type.IntType.{IntType}
use Rattle.pt_base.specs.declared.span.Span.{Span}
use Rattle.pt_base.specs.declared.trap.Trap.{Trap}
use Rattle.pt_int.specs.declared.operator.BinOp.{BinOp}
use Rattle.pt_int.specs.declared.operator.UnOp.{UnOp}
use Rattle.pt_int.specs.declared.operator.UnOp.TheVariants.{Not}
use Rattle.pt_int.specs.Conversion.{conv}
use Rattle.pt_int.specs.Operator.{binary_of, unary_of, truth, is_shift}
use Rattle.typed_tree.specs.declared.types.VarTy.{VarTy}
use Rattle.typed_tree.specs.declared.types.VarTy.TheVariants.{Int, Struct, Array, Pointer}
use Rattle.typed_tree.specs.declared.types.StructInfo.{StructInfo}
use Rattle.typed_tree.specs.Sizes.{sizes_of, elem_cells, offset_of}
use Rattle.typed_tree.specs.TypeTests.{same_int, type_of_elem}
use Rattle.runs.specs.Pointers.{Target, moved, directed, reached, compared, difference}
use Rattle.block_memory.specs.declared.cell.Cell.{Cell}
use Rattle.block_memory.specs.declared.cell.Cell.TheVariants as cell
use Rattle.block_memory.specs.declared.cell.Pointer.TheVariants as pointer
use Rattle.block_memory.specs.declared.cell.BlockName.{BlockName}
use Rattle.block_memory.specs.declared.cell.BlockName.TheVariants.{Local, Global}
use Rattle.block_memory.specs.Block.{with_cell}
use Rattle.block_memory.specs.Blocks.{Blocks, is_same_name, put}
use Rattle.pt_core.specs.CodeTree.{RootTree, local, global, deref, PlaceTree, place, ExprTree, constant, read, unary, binary, convert, null, address, decay, move, compare, difference as difference_of, ExprTrees, no_exprs, expr_and}
use Rattle.pt_core.specs.Types.{Context, type_of, type_at, global_type, field_type, pointee_cells}

-- ---- cells

-- a trap, and where it is reported
pub record Stop : Type 0 where
  pub trap : Trap
  pub span : Span

infixl 20 ◌>>?◌
-- one evaluation after another
abbrev pub ◌>>?◌ : {A B : Type 0} → Result A Stop → (A → Result B Stop) → Result B Stop
Ok a >>? next = next a
Err stop >>? next = Err stop

-- a result, or its trap at this place of the text
abbrev pub at_span : {A : Type 0} → Span → Result A Trap → Result A Stop
at_span s (Ok a) = Ok a
at_span s (Err trap) = Err (record { trap = trap; span = s })

-- the number that a cell stands for where a number is wanted
abbrev pub number_in : Cell → ℤ
number_in (cell.Int v) = v
number_in (cell.Ptr p) = pos 0
number_in (cell.Sealed h) = pos 0

-- what a cell points to; None is null
abbrev pub target_of : Cell → Option (Target BlockName)
target_of (cell.Int v) = None
target_of (cell.Ptr pointer.Null) = None
target_of (cell.Ptr (pointer.At block base count index)) = Some (record { block = block; base = base; count = count; index = index })
target_of (cell.Sealed h) = None

abbrev pub pointing : Target BlockName → Cell
pointing p = cell.Ptr (pointer.At p.block p.base p.count p.index)

-- a condition holds for each number but 0, and for each pointer but null (C99 6.8.4.1p2)
abbrev pub holds_in : Cell → Bool
holds_in (cell.Int v) = not (int_eq v (pos 0))
holds_in (cell.Ptr pointer.Null) = false
holds_in (cell.Ptr (pointer.At block base count index)) = true
holds_in (cell.Sealed h) = false

-- a conversion to an integer type: of a number that of C99 6.3.1.3; a handle passes one to its own type
abbrev pub converted : Bool → IntType → Cell → Cell
converted same to (cell.Int v) = cell.Int (conv to v)
converted same to (cell.Ptr p) = cell.Int (pos 0)
converted same to (cell.Sealed h) = if same then cell.Sealed h else cell.Int (pos 0)

abbrev pub is_type : VarTy → IntType → Bool
is_type (Int t) to = same_int t to
is_type (Struct n) to = false
is_type (Array elem count) to = false
is_type (Pointer elem fixed) to = false

-- the operand of an operator before it; `!` asks of any number whether it is 0 (C99 6.5.3.3p5)
abbrev pub unary_operand : UnOp → IntType → Cell → ℤ
unary_operand Not t a = number_in a
unary_operand _ t a = conv t (number_in a)

-- the right operand of an operator at a type; a shift's amount is taken as it is (C99 6.5.7p3)
abbrev pub right_operand : BinOp → IntType → Cell → ℤ
right_operand op t b = if is_shift op then number_in b else conv t (number_in b)

abbrev pub numbered : Result ℤ Stop → Result Cell Stop
numbered (Ok v) = Ok (cell.Int v)
numbered (Err stop) = Err stop

abbrev pub pointed : Result (Target BlockName) Stop → Result Cell Stop
pointed (Ok p) = Ok (pointing p)
pointed (Err stop) = Err stop

abbrev pub told : Result Bool Stop → Result Cell Stop
told (Ok b) = Ok (cell.Int (truth b))
told (Err stop) = Err stop

-- ---- objects

-- where an object lies
pub record Location : Type 0 where
  pub block : BlockName
  pub cell : ℕ
  pub ty : VarTy

-- at which cell of an object of this type a field begins
abbrev pub offset_in : List StructInfo → VarTy → ℕ → ℕ
offset_in structs (Struct n) k = offset_of structs n k
offset_in structs ty k = 0

-- a field of an object
abbrev pub field_at : Context → ℕ → Location → Location
field_at c k at = record { block = at.block; cell = at.cell + offset_in c.structs at.ty k; ty = field_type c.structs at.ty k }

abbrev pub along : Context → List ℕ → Location → Location
along c [] at = at
along c (k ∷ ks) at = along c ks (field_at c k at)

-- what a pointer of this type points to
abbrev pub pointee : Context → Span → VarTy → Cell → Result Location Stop
pointee c s (Pointer elem fixed) p =
    at_span s (reached (elem_cells (sizes_of c.structs) elem) (target_of p)) >>? λ at. Ok (record { block = at.0; cell = at.1; ty = type_of_elem elem })
pointee c s ty p = Ok (record { block = Global 0; cell = 0; ty = ty })

-- an array as a pointer to its first element (C99 6.3.2.1p3)
abbrev pub decayed : Location → VarTy → Cell
decayed at (Array elem count) = cell.Ptr (pointer.At at.block at.cell count 0)
decayed at ty = cell.Ptr pointer.Null

abbrev pub cell_in : Blocks → Location → Cell
cell_in blocks at = slice_index_or (blocks at.block).cells at.cell (cell.Int (pos 0))

-- the blocks in which one cell is written
abbrev pub written : Blocks → BlockName → ℕ → Cell → Blocks
written blocks block at c = put blocks block (with_cell (blocks block) at c)

-- ---- expressions

abbrev mutual
  -- the value of an expression of a function that was entered at this depth
  pub value_of : Context → ℕ → ExprTree → Blocks → Result Cell Stop
  value_of c depth (constant t v) blocks = Ok (cell.Int v)
  value_of c depth (read p) blocks = location_of c depth p blocks >>? λ at. Ok (cell_in blocks at)
  value_of c depth (unary op t a s) blocks = value_of c depth a blocks >>? λ v. numbered (at_span s (unary_of op t (unary_operand op t v)))
  value_of c depth (binary op t a b s) blocks =
      value_of c depth a blocks >>? λ v. value_of c depth b blocks >>? λ w. numbered (at_span s (binary_of op t (conv t (number_in v)) (right_operand op t w)))
  value_of c depth (convert to a) blocks = value_of c depth a blocks >>? λ v. Ok (converted (is_type (type_of c a) to) to v)
  value_of c depth (null elem) blocks = Ok (cell.Ptr pointer.Null)
  value_of c depth (address p) blocks = location_of c depth p blocks >>? λ at. Ok (cell.Ptr (pointer.At at.block at.cell 1 0))
  value_of c depth (decay p) blocks = location_of c depth p blocks >>? λ at. Ok (decayed at at.ty)
  value_of c depth (move p by back s) blocks =
      value_of c depth p blocks >>? λ v. value_of c depth by blocks >>? λ w. pointed (at_span s (moved (directed back (number_in w)) (target_of v)))
  value_of c depth (compare op a b s) blocks =
      value_of c depth a blocks >>? λ v. value_of c depth b blocks >>? λ w. told (at_span s (compared is_same_name op (pointee_cells c (type_of c a)) (target_of v) (target_of w)))
  value_of c depth (difference_of a b s) blocks =
      value_of c depth a blocks >>? λ v. value_of c depth b blocks >>? λ w. numbered (at_span s (difference is_same_name (target_of v) (target_of w)))

  -- where the object lies that a place designates
  pub location_of : Context → ℕ → PlaceTree → Blocks → Result Location Stop
  location_of c depth (place root path) blocks = root_location c depth root blocks >>? λ at. Ok (along c path at)

  pub root_location : Context → ℕ → RootTree → Blocks → Result Location Stop
  root_location c depth (local v) blocks = Ok (record { block = Local depth v; cell = 0; ty = type_at c.variables v })
  root_location c depth (global g) blocks = Ok (record { block = Global g; cell = 0; ty = global_type c g })
  root_location c depth (deref p s) blocks = value_of c depth p blocks >>? pointee c s (type_of c p)

-- arguments, from the left
abbrev pub values_of : Context → ℕ → ExprTrees → Blocks → Result (List Cell) Stop
values_of c depth no_exprs blocks = Ok []
values_of c depth (expr_and e rest) blocks = value_of c depth e blocks >>? λ v. values_of c depth rest blocks >>? λ vs. Ok (v ∷ vs)

-- ---- copies of objects

-- the cells of an object
abbrev pub cells_at : Blocks → Location → ℕ → List Cell
cells_at blocks at count = take count (drop at.cell (blocks at.block).cells)

-- cells are written from a place on, one after the other
abbrev pub all_written : Blocks → BlockName → ℕ → List Cell → Blocks
all_written blocks block at [] = blocks
all_written blocks block at (c ∷ cs) = all_written (written blocks block at c) block (at + 1) cs

-- how many cells behind the beginning of an object a path of fields leads
abbrev pub path_offset : List StructInfo → VarTy → List ℕ → ℕ
path_offset structs ty [] = 0
path_offset structs ty (k ∷ ks) = offset_in structs ty k + path_offset structs (field_type structs ty k) ks
