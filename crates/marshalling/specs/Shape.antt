-- When a body is one for a signature.
use Rattle.std.specs.Prelude.{ℕ, suc, ◌+◌, ◌*◌, List, [], ◌∷◌, Bool, true, false, ◌&&◌, ◌||◌, Option, Some, None, length, drop, nat_eq, nat_lt, nat_le, slice_index_or, if◌then◌else◌}
use Rattle.std.specs.List.{list_all, list_any}
use Rattle.pt_base.specs.declared.int_type.IntType.{IntType}
use Rattle.pt_int.specs.Conversion.{is_in_range}
use Rattle.pt_tree.specs.declared.signature.Param.{Param}
use Rattle.pt_tree.specs.declared.signature.ParamKind.{ParamKind}
use Rattle.pt_tree.specs.declared.signature.ParamKind.TheVariants as kind
use Rattle.typed_tree.specs.declared.types.StructInfo.{StructInfo}
use Rattle.typed_tree.specs.Cells.{repeated}
use Rattle.typed_tree.specs.TypeTests.{same_int}
use Rattle.wire.specs.declared.cell.Arg.{Arg}
use Rattle.wire.specs.declared.cell.Arg.TheVariants as argument
use Rattle.wire.specs.declared.cell.WireCell.{WireCell}
use Rattle.wire.specs.declared.cell.WireCell.TheVariants as wire
use Rattle.wire.specs.declared.message.CallBody.{CallBody}
use Rattle.marshalling.specs.declared.leaf.Leaf.{Leaf}
use Rattle.marshalling.specs.Leaves.{leaves_of}

-- ---- arguments

-- an integer parameter has a number in its range, or is marked and has a handle
abbrev pub fits_integer : Bool → IntType → Arg → Bool
fits_integer marked t (argument.Number v) = is_in_range t v
fits_integer marked t (argument.Sealed handle) = marked
fits_integer marked t argument.Null = false
fits_integer marked t (argument.At block base count index) = false

-- a handle stands only where there may be one
abbrev pub may_stand : Bool → WireCell → Bool
may_stand secret (wire.Number v) = true
may_stand secret (wire.Sealed handle) = secret

-- a cell that a pointer reaches has the type of its leaf, and a handle only where the parameter or its leaf is marked
abbrev pub fits_leaf : Bool → Leaf → IntType × WireCell → Bool
fits_leaf marked leaf cell = same_int leaf.ty cell.0 && may_stand (marked || leaf.marked) cell.1

-- the first cells are those of the leaves
abbrev pub fits_range : Bool → List Leaf → List (IntType × WireCell) → Bool
fits_range marked [] cells = true
fits_range marked (leaf ∷ leaves) [] = false
fits_range marked (leaf ∷ leaves) (cell ∷ cells) = fits_leaf marked leaf cell && fits_range marked leaves cells

-- so many elements with these leaves lie in the block from the base on
abbrev pub fits_block : Bool → List Leaf → ℕ → ℕ → List (IntType × WireCell) → Bool
fits_block marked leaves base count cells =
    nat_le (base + count * length leaves) (length cells) && fits_range marked (repeated count leaves) (drop base cells)

-- a pointer parameter has null, or a pointer into a block that is there, to one of at least one element or past the last
abbrev pub fits_pointer : List (List (IntType × WireCell)) → Bool → List Leaf → Arg → Bool
fits_pointer blocks marked leaves (argument.Number v) = false
fits_pointer blocks marked leaves (argument.Sealed handle) = false
fits_pointer blocks marked leaves argument.Null = true
fits_pointer blocks marked leaves (argument.At block base count index) =
    nat_lt block (length blocks) && ((nat_le 1 count && nat_le index count) && fits_block marked leaves base count (slice_index_or blocks block []))

abbrev pub fits_kind : List StructInfo → List (List (IntType × WireCell)) → Bool → ParamKind → Arg → Bool
fits_kind structs blocks marked (kind.Int t) a = fits_integer marked t a
fits_kind structs blocks marked (kind.Ptr elem fixed) a = fits_pointer blocks marked (leaves_of structs elem) a

-- there are as many arguments as parameters, and each fits its own
abbrev pub fit_all : List StructInfo → List (List (IntType × WireCell)) → List Param → List Arg → Bool
fit_all structs blocks [] [] = true
fit_all structs blocks [] (a ∷ args) = false
fit_all structs blocks (p ∷ params) [] = false
fit_all structs blocks (p ∷ params) (a ∷ args) = fits_kind structs blocks p.marked p.kind a && fit_all structs blocks params args

-- ---- what pointers reach

-- a size, where it isn't over this one
abbrev pub up_to : ℕ → ℕ → Option ℕ
up_to most size = if nat_le size most then Some size else None

-- what a pointer to elements of this size reaches lies in a block that is there, with one element at least
abbrev pub lies_within : List (List (IntType × WireCell)) → ℕ → Arg → Bool
lies_within blocks size (argument.Number v) = true
lies_within blocks size (argument.Sealed handle) = true
lies_within blocks size argument.Null = true
lies_within blocks size (argument.At block base count index) =
    nat_lt block (length blocks) && (nat_le 1 count && nat_le (base + count * size) (length (slice_index_or blocks block [])))

abbrev pub kind_within : List StructInfo → List (List (IntType × WireCell)) → ParamKind → Arg → Bool
kind_within structs blocks (kind.Int t) a = true
kind_within structs blocks (kind.Ptr elem fixed) a = lies_within blocks (length (leaves_of structs elem)) a

-- what each pointer reaches does
abbrev pub all_within : List StructInfo → List (List (IntType × WireCell)) → List Param → List Arg → Bool
all_within structs blocks [] args = true
all_within structs blocks (p ∷ params) [] = true
all_within structs blocks (p ∷ params) (a ∷ args) = kind_within structs blocks p.kind a && all_within structs blocks params args

-- ---- blocks

-- the argument points into block k
abbrev pub points_into : ℕ → Arg → Bool
points_into k (argument.Number v) = false
points_into k (argument.Sealed handle) = false
points_into k argument.Null = false
points_into k (argument.At block base count index) = nat_eq block k

-- an argument points into each of these blocks, of which the first has the number k
abbrev pub are_named : List Arg → ℕ → List (List (IntType × WireCell)) → Bool
are_named args k [] = true
are_named args k (block ∷ blocks) = list_any (points_into k) args && are_named args (suc k) blocks

-- a number is one of the type
abbrev pub is_number_of : IntType → WireCell → Bool
is_number_of t (wire.Number v) = is_in_range t v
is_number_of t (wire.Sealed handle) = true

abbrev pub is_typed : IntType × WireCell → Bool
is_typed typed = is_number_of typed.0 typed.1

-- ---- bodies

abbrev pub is_shaped : List StructInfo → List Param → CallBody → Bool
is_shaped structs params body =
    fit_all structs body.blocks params body.args && (are_named body.args 0 body.blocks && list_all (list_all is_typed) body.blocks)
