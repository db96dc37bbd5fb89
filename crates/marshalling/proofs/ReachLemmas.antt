-- Counting what pointers reach.
use Rattle.std.proofs.Common.{◌≡◌, ◌<◌, ◌≤◌, ◌+◌, ◌*◌, ◌-◌, ◌∙◌, sym, ap, refl, ℕ, zero, suc, Bool, true, false, List, [], ◌∷◌, length, drop, get_or, arith, Option, None, Some}
use Rattle.std.specs.Prelude.{◌&&◌, nat_le, nat_lt, slice_index_or, if◌then◌else◌}
use Rattle.std.specs.List.{flat_map}
use Rattle.std.proofs.lemmas.Bool.Decides.{nat_tests}
use Rattle.std.proofs.lemmas.List.{drop_all, length-append, length-map}
use Rattle.pt_base.specs.declared.int_type.IntType.{IntType}
use Rattle.pt_base.proofs.Booleans.{and_true_first, and_true_second}
use Rattle.pt_tree.specs.declared.signature.Elem.{Elem}
use Rattle.pt_tree.specs.declared.signature.Elem.TheVariants as e
use Rattle.pt_tree.specs.declared.signature.Param.{Param}
use Rattle.pt_tree.specs.declared.signature.ParamKind.{ParamKind}
use Rattle.pt_tree.specs.declared.signature.ParamKind.TheVariants as kind
use Rattle.typed_tree.specs.declared.types.VarTy.{VarTy}
use Rattle.typed_tree.specs.declared.types.VarTy.TheVariants.{Array}
use Rattle.typed_tree.specs.declared.types.Field.{Field}
use Rattle.typed_tree.specs.declared.types.StructInfo.{StructInfo}
use Rattle.typed_tree.specs.Cells.{repeated}
use Rattle.wire.specs.declared.cell.Arg.{Arg}
use Rattle.wire.specs.declared.cell.Arg.TheVariants as argument
use Rattle.wire.specs.declared.cell.WireCell.{WireCell}
use Rattle.wire.specs.declared.message.CallBody.{CallBody}
use Rattle.marshalling.specs.Leaves.{field_cells, leaves_of, name_earlier, object_cells, under}
use Rattle.marshalling.specs.Shape.{all_within, fit_all, fits_kind, fits_range, is_shaped, kind_within, up_to}
use Rattle.marshalling.proofs.LeafLemmas.{leaves_of_int, leaves_of_struct}
use Rattle.marshalling.proofs.Lists.{at_drop}

-- ---- sizes up to a most

up_to_some : (most size got : ℕ) → Some got ≡ up_to most size → (got ≡ size) × (size ≤ most)
up_to_some most size got h = go (nat_le size most) refl h
  where
    go : (b : Bool) → nat_le size most ≡ b → Some got ≡ (if b then Some size else None) → (got ≡ size) × (size ≤ most)
    go true is h = (cc, grind (arith, nat_tests, is))
    go false is h = cc

up_to_none : (most size : ℕ) → None ≡ up_to most size → most < size
up_to_none most size h = go (nat_le size most) refl h
  where
    go : (b : Bool) → nat_le size most ≡ b → None ≡ (if b then Some size else None) → most < size
    go true is h = cc
    go false is h = grind (arith, nat_tests, is)

over_most : (most size : ℕ) → most < size → None ≡ up_to most size
over_most most size h = go (nat_le size most) refl
  where
    go : (b : Bool) → nat_le size most ≡ b → None ≡ (if b then Some size else None)
    go true is = absurd (grind (arith, nat_tests, is, h))
    go false is = refl

-- ---- the sizes of elements

pub int_size : (structs : List StructInfo) (t : IntType) (elem : Elem) → elem ≡ e.Int t → length (leaves_of structs elem) ≡ 1
int_size structs t elem is = ap (λ x. length (leaves_of structs x)) is ∙ ap length (leaves_of_int structs t)

-- a struct has the cells of its fields
pub size_starts : (structs : List StructInfo) (n : ℕ) (elem : Elem) (s : StructInfo) (items : List Field) → name_earlier 0 structs ≡ true
    → n < length structs → s ≡ get_or structs n s → elem ≡ e.Struct n → items ≡ s.fields
    → 0 + length (flat_map (field_cells structs) items) ≡ length (leaves_of structs elem)
size_starts structs n elem s items h lt read is same =
    let whole : length (flat_map (field_cells structs) items) ≡ length (leaves_of structs elem) =
    ap (λ fs. length (flat_map (field_cells structs) fs)) same ∙ ap length (sym (leaves_of_struct structs n s h lt read))
    ∙ ap (λ x. length (leaves_of structs x)) (sym is) in
    omega (arith, whole)

-- the cells of one field, and then those of the others
field_first : (structs : List StructInfo) (fields : List Field) (i : ℕ) (f : Field) → i < length fields → f ≡ get_or fields i f
    → length (flat_map (field_cells structs) (drop i fields))
    ≡ length (object_cells structs f.ty) + length (flat_map (field_cells structs) (drop (i + 1) fields))
field_first structs fields i f lt read =
    at_drop (λ fs. length (flat_map (field_cells structs) fs)) fields i f lt read
    ∙ length-append (field_cells structs f) (flat_map (field_cells structs) (drop (i + 1) fields))
    ∙ ap (λ n. n + length (flat_map (field_cells structs) (drop (i + 1) fields))) (length-map (object_cells structs f.ty) (under f.marked))

pub size_more : (structs : List StructInfo) (fields : List Field) (i : ℕ) (f : Field) (size more most whole : ℕ)
    → i < length fields → f ≡ get_or fields i f → size ≤ most → Some more ≡ up_to (most - size) (length (object_cells structs f.ty))
    → size + length (flat_map (field_cells structs) (drop i fields)) ≡ whole
    → (size + more + length (flat_map (field_cells structs) (drop (i + 1) fields)) ≡ whole) × (size + more ≤ most)
size_more structs fields i f size more most whole lt read room got so_far =
    let parts = field_first structs fields i f lt read in
    let found = up_to_some (most - size) (length (object_cells structs f.ty)) more got in
    let same : more ≡ length (object_cells structs f.ty) = found.0 in
    let low : length (object_cells structs f.ty) ≤ most - size = found.1 in
    (omega (arith, parts, same, so_far), omega (arith, same, low, room))

-- a field has too many
pub size_fails : (structs : List StructInfo) (fields : List Field) (i : ℕ) (f : Field) (size most whole : ℕ)
    → i < length fields → f ≡ get_or fields i f → size ≤ most → None ≡ up_to (most - size) (length (object_cells structs f.ty))
    → size + length (flat_map (field_cells structs) (drop i fields)) ≡ whole
    → None ≡ up_to most whole
size_fails structs fields i f size most whole lt read room got so_far =
    let parts = field_first structs fields i f lt read in
    let high = up_to_none (most - size) (length (object_cells structs f.ty)) got in
    over_most most whole (omega (arith, parts, high, room, so_far))

-- ---- the sizes of several elements

pub repeated_size : {X : Type 0} (count : ℕ) (xs : List X) → length (repeated count xs) ≡ count * length xs
repeated_size zero xs = omega arith
repeated_size (suc count) xs =
    let more = length-append xs (repeated count xs) in
    let rest = repeated_size count xs in
    more ∙ ap (λ k. length xs + k) rest ∙ omega arith

-- as many cells as elements, times those of an element
pub several_elements : (structs : List StructInfo) (most : ℕ) (elem : Elem) (count size : ℕ) (ty : VarTy) (got : Option ℕ) → ty ≡ Array elem count
    → Some size ≡ up_to most (length (leaves_of structs elem)) → got ≡ up_to most (count * size)
    → got ≡ up_to most (length (object_cells structs ty))
several_elements structs most elem count size ty got is one all =
    let same : size ≡ length (leaves_of structs elem) = (up_to_some most (length (leaves_of structs elem)) size one).0 in
    all ∙ ap (λ n. up_to most (count * n)) same ∙ ap (up_to most) (sym (repeated_size count (leaves_of structs elem)))
    ∙ sym (ap (λ x. up_to most (length (object_cells structs x))) is)

-- ---- bodies that fit

within_if_fits : (structs : List StructInfo) (blocks : List (List (IntType × WireCell))) (marked : Bool) (of : ParamKind) (a : Arg)
    → fits_kind structs blocks marked of a ≡ true → kind_within structs blocks of a ≡ true
within_if_fits structs blocks marked (kind.Int t) a h = refl
within_if_fits structs blocks marked (kind.Ptr elem fixed) (argument.Number v) h = refl
within_if_fits structs blocks marked (kind.Ptr elem fixed) (argument.Sealed handle) h = refl
within_if_fits structs blocks marked (kind.Ptr elem fixed) argument.Null h = refl
within_if_fits structs blocks marked (kind.Ptr elem fixed) (argument.At block base count index) h =
    let cells = slice_index_or blocks block [] in
    let leaves = leaves_of structs elem in
    both (nat_lt block (length blocks)) (nat_le 1 count) (nat_le index count) (nat_le (base + count * length leaves) (length cells))
    (fits_range marked (repeated count leaves) (drop base cells)) h
  where
    both : (a b c d e : Bool) → (a && ((b && c) && (d && e))) ≡ true → (a && (b && d)) ≡ true
    both true true true true e h = refl
    both true true true false e h = cc
    both true true false d e h = cc
    both true false c d e h = cc
    both false b c d e h = cc

all_within_if_fit : (structs : List StructInfo) (blocks : List (List (IntType × WireCell))) (params : List Param) (args : List Arg)
    → fit_all structs blocks params args ≡ true → all_within structs blocks params args ≡ true
all_within_if_fit structs blocks [] args h = refl
all_within_if_fit structs blocks (p ∷ params) [] h = refl
all_within_if_fit structs blocks (p ∷ params) (a ∷ args) h =
    let here = within_if_fits structs blocks p.marked p.kind a
    (and_true_first (fits_kind structs blocks p.marked p.kind a) (fit_all structs blocks params args) h) in
    let rest = all_within_if_fit structs blocks params args
    (and_true_second (fits_kind structs blocks p.marked p.kind a) (fit_all structs blocks params args) h) in
    ap (λ b. b && all_within structs blocks params args) here ∙ rest

-- what a body of the shape reaches lies within it
pub shaped_within : (structs : List StructInfo) (params : List Param) (body : CallBody) → is_shaped structs params body ≡ true
    → all_within structs body.blocks params body.args ≡ true
shaped_within structs params body h = all_within_if_fit structs body.blocks params body.args (and_true_first (fit_all structs body.blocks params body.args) _ h)

-- so a body that reaches further has no such shape
pub outside : (structs : List StructInfo) (params : List Param) (body : CallBody) (blocks : List (List (IntType × WireCell))) (args : List Arg)
    (within : Bool) → blocks ≡ body.blocks → args ≡ body.args → within ≡ all_within structs blocks params args → within ≡ false
    → false ≡ is_shaped structs params body
outside structs params body blocks args within same_blocks same_args is fails = go (is_shaped structs params body) refl
  where
    go : (b : Bool) → is_shaped structs params body ≡ b → false ≡ b
    go false shaped = refl
    go true shaped =
        sym fails ∙ is ∙ ap (λ bs. all_within structs bs params args) same_blocks ∙ ap (all_within structs body.blocks params) same_args
        ∙ shaped_within structs params body shaped

-- ---- the walk over arguments

none_left : (structs : List StructInfo) (blocks : List (List (IntType × WireCell))) (params : List Param) → all_within structs blocks params [] ≡ true
none_left structs blocks [] = refl
none_left structs blocks (p ∷ params) = refl

pub within_ends : (structs : List StructInfo) (blocks : List (List (IntType × WireCell))) (params : List Param) (args : List Arg) (i : ℕ)
    (whole : Bool) → length args ≤ i → all_within structs blocks params (drop i args) ≡ whole → true ≡ whole
within_ends structs blocks params args i whole past so_far =
    sym (none_left structs blocks params) ∙ ap (all_within structs blocks params) (sym (drop_all i args past)) ∙ so_far
