-- Steps of the tests of a body.
use Rattle.std.proofs.Common.{◌≡◌, ◌≢◌, ◌<◌, ◌≤◌, ◌+◌, ◌-◌, ◌++◌, ◌∙◌, sym, ap, refl, ℕ, zero, suc, Bool, true, false, List, [], ◌∷◌, length, drop, take, arith, add-one}
use Rattle.std.specs.Prelude.{◌&&◌}
use Rattle.std.specs.List.{list_all, list_any, zip}
use Rattle.std.proofs.lemmas.List.{take-append-drop, length-take-le}
use Rattle.pt_base.specs.declared.int_type.IntType.{IntType}
use Rattle.pt_tree.specs.declared.signature.Param.{Param}
use Rattle.typed_tree.specs.declared.types.StructInfo.{StructInfo}
use Rattle.typed_tree.specs.Cells.{repeated}
use Rattle.wire.specs.declared.cell.Arg.{Arg}
use Rattle.wire.specs.declared.cell.WireCell.{WireCell}
use Rattle.marshalling.specs.declared.leaf.Leaf.{Leaf}
use Rattle.marshalling.specs.Shape.{are_named, fit_all, fits_kind, fits_leaf, fits_range, points_into}
use Rattle.marshalling.proofs.Lists.{and_assoc}

-- bodies with more or fewer arguments than parameters are refused
pub unequal : (structs : List StructInfo) (blocks : List (List (IntType × WireCell))) (params : List Param) (args : List Arg)
    → length params ≢ length args → fit_all structs blocks params args ≡ false
unequal structs blocks [] [] h = absurd (h refl)
unequal structs blocks [] (a ∷ args) h = refl
unequal structs blocks (p ∷ params) [] h = refl
unequal structs blocks (p ∷ params) (a ∷ args) h = go (fits_kind structs blocks p.marked p.kind a)
    (unequal structs blocks params args (λ e. h (ap suc e)))
  where
    go : (b : Bool) {c : Bool} → c ≡ false → (b && c) ≡ false
    go true h = h
    go false h = refl

-- ---- ranges

-- the leaves of one element, and then others
pub range_parts : (marked : Bool) (leaves more : List Leaf) (cells rest : List (IntType × WireCell)) → length leaves ≡ length cells
    → fits_range marked (leaves ++ more) (cells ++ rest) ≡
    (list_all (λ given. fits_leaf marked given.0 given.1) (zip leaves cells) && fits_range marked more rest)
range_parts marked [] more [] rest h = refl
range_parts marked [] more (c ∷ cells) rest h = absurd (omega arith)
range_parts marked (leaf ∷ leaves) more [] rest h = absurd (omega arith)
range_parts marked (leaf ∷ leaves) more (c ∷ cells) rest h =
    ap (λ b. fits_leaf marked leaf c && b) (range_parts marked leaves more cells rest (omega arith))
    ∙ sym (and_assoc (fits_leaf marked leaf c) (list_all (λ given. fits_leaf marked given.0 given.1) (zip leaves cells)) (fits_range marked more rest))

-- fewer cells than leaves
pub range_short : (marked : Bool) (leaves more : List Leaf) (cells : List (IntType × WireCell)) → length cells < length leaves
    → fits_range marked (leaves ++ more) cells ≡ false
range_short marked [] more cells h = absurd (omega arith)
range_short marked (leaf ∷ leaves) more [] h = refl
range_short marked (leaf ∷ leaves) more (c ∷ cells) h = go (fits_leaf marked leaf c) (range_short marked leaves more cells (omega arith))
  where
    go : (b : Bool) {r : Bool} → r ≡ false → (b && r) ≡ false
    go true h = h
    go false h = refl

pub repeated_more : {X : Type 0} (xs : List X) (count i : ℕ) → i < count → repeated (count - i) xs ≡ xs ++ repeated (count - (i + 1)) xs
repeated_more xs count i lt = ap (λ k. repeated k xs) (one count i lt)
  where
    one : (count i : ℕ) → i < count → count - i ≡ suc (count - (i + 1))
    one count i lt = omega arith

-- ---- the blocks that are named

named_from : (args : List Arg) (blocks : List (List (IntType × WireCell))) (i k : ℕ) → i < length blocks
    → are_named args k (drop i blocks) ≡ (list_any (points_into k) args && are_named args (suc k) (drop (suc i) blocks))
named_from args [] i k lt = absurd (omega arith)
named_from args (b ∷ bs) zero k lt = refl
named_from args (b ∷ bs) (suc i) k lt = named_from args bs i k (omega arith)

-- one block more
pub named_more : (args : List Arg) (blocks : List (List (IntType × WireCell))) (k : ℕ) → k < length blocks
    → are_named args k (drop k blocks) ≡ (list_any (points_into k) args && are_named args (k + 1) (drop (k + 1) blocks))
named_more args blocks k lt = rw (add-one) (named_from args blocks k k lt)

-- ---- a walk over the elements of a range

abbrev pub element_test : Bool → List Leaf → List (IntType × WireCell) → Bool
element_test marked leaves cells = list_all (λ given. fits_leaf marked given.0 given.1) (zip leaves cells)

range_more : (marked : Bool) (leaves : List Leaf) (count i : ℕ) (rest element others : List (IntType × WireCell)) → i < count
    → length leaves ≤ length rest
    → element ≡ take (length leaves) rest → others ≡ drop (length leaves) rest
    → fits_range marked (repeated (count - i) leaves) rest ≡
    (element_test marked leaves element && fits_range marked (repeated (count - (i + 1)) leaves) others)
range_more marked leaves count i rest element others lt room front back =
    let more = repeated (count - (i + 1)) leaves in
    ap (λ ls. fits_range marked ls rest) (repeated_more leaves count i lt)
    ∙ ap (fits_range marked (leaves ++ more)) (sym (take-append-drop (length leaves) rest))
    ∙ range_parts marked leaves more (take (length leaves) rest) (drop (length leaves) rest) (sym (length-take-le (length leaves) rest room))
    ∙ ap (λ cells. element_test marked leaves cells && fits_range marked more (drop (length leaves) rest)) (sym front)
    ∙ ap (λ cells. element_test marked leaves element && fits_range marked more cells) (sym back)

-- too few cells are left
pub range_ends : (marked : Bool) (leaves : List Leaf) (count i : ℕ) (rest : List (IntType × WireCell)) (whole : Bool) → i < count
    → length rest < length leaves
    → fits_range marked (repeated (count - i) leaves) rest ≡ whole → false ≡ whole
range_ends marked leaves count i rest whole lt short so_far =
    sym (range_short marked leaves (repeated (count - (i + 1)) leaves) rest short)
    ∙ ap (λ ls. fits_range marked ls rest) (sym (repeated_more leaves count i lt)) ∙ so_far

-- an element doesn't fit
pub range_fails : (marked : Bool) (leaves : List Leaf) (count i : ℕ) (rest element others : List (IntType × WireCell)) (fits whole : Bool)
    → i < count → length leaves ≤ length rest
    → element ≡ take (length leaves) rest → others ≡ drop (length leaves) rest → fits ≡ element_test marked leaves element → fits ≡ false
    → fits_range marked (repeated (count - i) leaves) rest ≡ whole → false ≡ whole
range_fails marked leaves count i rest element others fits whole lt room front back is fails so_far =
    ap (λ b. b && fits_range marked (repeated (count - (i + 1)) leaves) others) (sym fails ∙ is)
    ∙ sym (range_more marked leaves count i rest element others lt room front back) ∙ so_far

-- an element fits
pub range_goes : (marked : Bool) (leaves : List Leaf) (count i : ℕ) (rest element others : List (IntType × WireCell)) (fits whole : Bool)
    → i < count → length leaves ≤ length rest
    → element ≡ take (length leaves) rest → others ≡ drop (length leaves) rest → fits ≡ element_test marked leaves element → fits ≡ true
    → fits_range marked (repeated (count - i) leaves) rest ≡ whole → fits_range marked (repeated (count - (i + 1)) leaves) others ≡ whole
range_goes marked leaves count i rest element others fits whole lt room front back is goes so_far =
    ap (λ b. b && fits_range marked (repeated (count - (i + 1)) leaves) others) (sym goes ∙ is)
    ∙ sym (range_more marked leaves count i rest element others lt room front back) ∙ so_far

-- ---- a walk over blocks

-- no argument points into a block
pub named_fails : (args : List Arg) (blocks : List (List (IntType × WireCell))) (k : ℕ) (found whole : Bool) → k < length blocks
    → found ≡ list_any (points_into k) args → found ≡ false
    → are_named args k (drop k blocks) ≡ whole → false ≡ whole
named_fails args blocks k found whole lt is fails so_far = ap (λ b. b && are_named args (k + 1) (drop (k + 1) blocks)) (sym fails ∙ is)
    ∙ sym (named_more args blocks k lt) ∙ so_far

pub named_goes : (args : List Arg) (blocks : List (List (IntType × WireCell))) (k : ℕ) (found whole : Bool) → k < length blocks
    → found ≡ list_any (points_into k) args → found ≡ true
    → are_named args k (drop k blocks) ≡ whole → are_named args (k + 1) (drop (k + 1) blocks) ≡ whole
named_goes args blocks k found whole lt is goes so_far = ap (λ b. b && are_named args (k + 1) (drop (k + 1) blocks)) (sym goes ∙ is)
    ∙ sym (named_more args blocks k lt) ∙ so_far
