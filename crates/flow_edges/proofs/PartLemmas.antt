-- What is left of an object whose items are being found, one part after the other.
use Rattle.std.proofs.Common.{◌≡◌, ◌∙◌, ◌≤◌, ◌<◌, ◌-◌, ◌+◌, ℕ, zero, suc, refl, ap, sym, arith, ◌⊎◌, inl, inr, List, [], ◌∷◌, ◌++◌, Some, None, length, length-append, take, drop, append_assoc, append-nil, slice_get}
use Rattle.std.specs.Prelude.{option_map}
use Rattle.pt_base.proofs.Places.{drop_front}
use Rattle.pt_tree.specs.declared.signature.Elem.{Elem}
use Rattle.pt_tree.specs.declared.signature.Elem.TheVariants as e
use Rattle.sides.specs.Leaves.{leaf_count}
use Rattle.typed_tree.specs.declared.types.Field.{Field}
use Rattle.typed_tree.specs.declared.types.StructInfo.{StructInfo}
use Rattle.typed_tree.specs.declared.types.VarTy.{VarTy}
use Rattle.typed_tree.specs.Cells.{repeated}
use Rattle.typed_tree.specs.Sizes.{fields_of}
use Rattle.typed_tree.specs.TypeTests.{type_of_elem}
use Rattle.flow_edges.specs.declared.items.Part.{Part}
use Rattle.flow_edges.specs.declared.items.Part.TheVariants.{Object, Fields, Again}
use Rattle.flow_edges.specs.ItemParts.{added, finished}
use Rattle.flow_edges.specs.Items.{elem_items, fields_items, struct_items, type_items}
use Rattle.typed_tree.proofs.AlikeLists.{AreAlike, alike_full}

-- ---- lists of parts

last_first : (structs : List StructInfo) (ps : List Part) (p : Part) (zs : List ℕ) → finished structs (ps ++ p ∷ []) zs ≡ finished structs ps (added structs p zs)
last_first structs [] p zs = refl
last_first structs (q ∷ ps) p zs = ap (added structs q) (last_first structs ps p zs)

pub pushed : (structs : List StructInfo) (ps ps' : List Part) (p : Part) (zs : List ℕ) → ps' ≡ ps ++ p ∷ [] → finished structs ps' zs ≡ finished structs ps (added structs p zs)
pushed structs ps ps' p zs is = ap (λ xs. finished structs xs zs) is ∙ last_first structs ps p zs

pub pushed_two : (structs : List StructInfo) (ps ps' ps'' : List Part) (p q : Part) (zs : List ℕ) → ps' ≡ ps ++ p ∷ [] → ps'' ≡ ps' ++ q ∷ [] → finished structs ps'' zs ≡ finished structs ps (added structs p (added structs q zs))
pushed_two structs ps ps' ps'' p q zs one two = pushed structs ps' ps'' q zs two ∙ pushed structs ps ps' p (added structs q zs) one

-- a part only adds
longer : (structs : List StructInfo) (w : ℕ) (p : Part) (zs : List ℕ) → w ≤ length zs → (w ≤ length (added structs p zs)) × AreAlike w (added structs p zs) zs
longer structs w (Object ty start depth) zs le =
    let xs = type_items (struct_items structs depth) start ty in
    (let l = length-append zs xs in omega (arith, l, le), sym (alike_full w zs xs le))
longer structs w (Fields n next start depth) zs le =
    let xs = fields_items (leaf_count structs) (struct_items structs depth) start (drop next (fields_of structs n)) in
    (let l = length-append zs xs in omega (arith, l, le), sym (alike_full w zs xs le))
longer structs w (Again from more) zs le =
    let xs = repeated more (drop from zs) in
    (let l = length-append zs xs in omega (arith, l, le), sym (alike_full w zs xs le))

all_longer : (structs : List StructInfo) (w : ℕ) (ps : List Part) (zs : List ℕ) → w ≤ length zs → (w ≤ length (finished structs ps zs)) × AreAlike w (finished structs ps zs) zs
all_longer structs w [] zs le = (le, refl)
all_longer structs w (p ∷ ps) zs le =
    let rest = all_longer structs w ps zs le in
    let here = longer structs w p (finished structs ps zs) rest.0 in
    (here.0, here.1 ∙ rest.1)

-- where there are as many as are wanted, the other parts don't matter
pub finished_full : (structs : List StructInfo) (w : ℕ) (ps : List Part) (zs whole : List ℕ) → w ≤ length zs → AreAlike w (finished structs ps zs) whole → AreAlike w zs whole
finished_full structs w ps zs whole le h = sym (all_longer structs w ps zs le).1 ∙ h

-- ---- lists that begin with the same items

alike_long : (w : ℕ) (xs ys : List ℕ) → AreAlike w xs ys → w ≤ length xs → w ≤ length ys
alike_long zero xs ys h le = omega arith
alike_long (suc w) [] ys h le = absurd (omega (arith, le))
alike_long (suc w) (x ∷ xs) [] h le = cc
alike_long (suc w) (x ∷ xs) (y ∷ ys) h le =
    let t : take w xs ≡ take w ys = cc in
    let r : w ≤ length ys = alike_long w xs ys t (omega (arith, le)) in omega (arith, r)

alike_short : (w : ℕ) (xs ys : List ℕ) → AreAlike w xs ys → length xs < w → xs ≡ ys
alike_short zero xs ys h lt = absurd (omega (arith, lt))
alike_short (suc w) [] [] h lt = refl
alike_short (suc w) [] (y ∷ ys) h lt = cc
alike_short (suc w) (x ∷ xs) [] h lt = cc
alike_short (suc w) (x ∷ xs) (y ∷ ys) h lt =
    let e : x ≡ y = cc in
    let t : take w xs ≡ take w ys = cc in
    let r : xs ≡ ys = alike_short w xs ys t (omega (arith, lt)) in cc

enough : (w n : ℕ) → (w ≤ n) ⊎ (n < w)
enough zero n = inl (omega arith)
enough (suc w) zero = inr (omega arith)
enough (suc w) (suc n) = go (enough w n)
  where
    go : (w ≤ n) ⊎ (n < w) → (suc w ≤ suc n) ⊎ (suc n < suc w)
    go (inl le) = inl (omega (arith, le))
    go (inr lt) = inr (omega (arith, lt))

pub finished_alike : (structs : List StructInfo) (w : ℕ) (ps : List Part) (xs ys : List ℕ) → AreAlike w xs ys → AreAlike w (finished structs ps xs) (finished structs ps ys)
finished_alike structs w ps xs ys h = go (enough w (length xs))
  where
    go : (w ≤ length xs) ⊎ (length xs < w) → AreAlike w (finished structs ps xs) (finished structs ps ys)
    go (inl le) = (all_longer structs w ps xs le).1 ∙ h ∙ sym (all_longer structs w ps ys (alike_long w xs ys h le)).1
    go (inr lt) = ap (λ zs. take w (finished structs ps zs)) (alike_short w xs ys h lt)

-- ---- what is left of each part

pub one_slot : (structs : List StructInfo) (ps : List Part) (zs zs' : List ℕ) (start : ℕ) → zs' ≡ zs ++ start ∷ [] → finished structs ps zs' ≡ finished structs ps (zs ++ start ∷ [])
one_slot structs ps zs zs' start is = ap (finished structs ps) is

-- an object of a type that is known
pub as_type : (structs : List StructInfo) (ps : List Part) (zs xs : List ℕ) (start depth : ℕ) (ty u : VarTy) → ty ≡ u → xs ≡ finished structs ps (zs ++ type_items (struct_items structs depth) start u) →
    xs ≡ finished structs ps (added structs (Object ty start depth) zs)
as_type structs ps zs xs start depth ty u is h = h ∙ ap (λ v. finished structs ps (zs ++ type_items (struct_items structs depth) start v)) (sym is)

-- no struct is nested there
pub no_depth : (structs : List StructInfo) (ps : List Part) (zs : List ℕ) (depth start n : ℕ) → depth ≡ 0 → finished structs ps zs ≡ finished structs ps (zs ++ struct_items structs depth start n)
no_depth structs ps zs depth start n is = ap (finished structs ps) (sym (ap (λ d. zs ++ struct_items structs d start n) is ∙ append-nil zs))

all_fields : (structs : List StructInfo) (zs : List ℕ) (depth start n : ℕ) → 0 < depth → added structs (Fields n 0 start (depth - 1)) zs ≡ zs ++ struct_items structs depth start n
all_fields structs zs zero start n lt = absurd (omega (arith, lt))
all_fields structs zs (suc d) start n lt = let e : suc d - 1 ≡ d = omega arith in ap (λ k. added structs (Fields n 0 start k) zs) e

pub struct_left : (structs : List StructInfo) (ps ps' : List Part) (zs : List ℕ) (depth start n : ℕ) → 0 < depth → ps' ≡ ps ++ Fields n 0 start (depth - 1) ∷ [] → finished structs ps' zs ≡ finished structs ps (zs ++ struct_items structs depth start n)
struct_left structs ps ps' zs depth start n lt is = pushed structs ps ps' (Fields n 0 start (depth - 1)) zs is ∙ ap (finished structs ps) (all_fields structs zs depth start n lt)

-- no elements
pub no_elements : (structs : List StructInfo) (ps : List Part) (zs xs : List ℕ) (count : ℕ) → count ≡ 0 → finished structs ps zs ≡ finished structs ps (zs ++ repeated count xs)
no_elements structs ps zs xs count is = ap (finished structs ps) (sym (ap (λ n. zs ++ repeated n xs) is ∙ append-nil zs))

element_is : (within : ℕ → ℕ → List ℕ) (start : ℕ) (elem : Elem) → type_items within start (type_of_elem elem) ≡ elem_items within start elem
element_is within start (e.Int t) = refl
element_is within start (e.Struct n) = refl

again : (zs xs : List ℕ) (from count : ℕ) → length zs ≡ from → 0 < count → (zs ++ xs) ++ repeated (count - 1) (drop from (zs ++ xs)) ≡ zs ++ repeated count xs
again zs xs from zero is lt = absurd (omega (arith, lt))
again zs xs from (suc n) is lt =
    let e : suc n - 1 ≡ n = omega arith in
    ap (λ k. (zs ++ xs) ++ repeated k (drop from (zs ++ xs))) e
    ∙ ap (λ ys. (zs ++ xs) ++ repeated n ys) (ap (λ k. drop k (zs ++ xs)) (sym is) ∙ drop_front zs xs)
    ∙ append_assoc zs xs (repeated n xs)

pub elements_left : (structs : List StructInfo) (ps ps' ps'' : List Part) (zs : List ℕ) (elem : Elem) (ty : VarTy) (count start depth from : ℕ) → ty ≡ type_of_elem elem → 0 < count → length zs ≡ from →
    ps' ≡ ps ++ Again from (count - 1) ∷ [] → ps'' ≡ ps' ++ Object ty start depth ∷ [] →
    finished structs ps'' zs ≡ finished structs ps (zs ++ repeated count (elem_items (struct_items structs depth) start elem))
elements_left structs ps ps' ps'' zs elem ty count start depth from is lt long one two =
    pushed_two structs ps ps' ps'' (Again from (count - 1)) (Object ty start depth) zs one two
    ∙ ap (λ xs. finished structs ps ((zs ++ xs) ++ repeated (count - 1) (drop from (zs ++ xs)))) (ap (type_items (struct_items structs depth) start) is ∙ element_is (struct_items structs depth) start elem)
    ∙ ap (finished structs ps) (again zs (elem_items (struct_items structs depth) start elem) from count long lt)

-- ---- fields

no_field : (fs : List Field) (k : ℕ) → option_map (λ f. f.ty) (slice_get fs k) ≡ None → drop k fs ≡ []
no_field [] zero h = refl
no_field [] (suc k) h = refl
no_field (f ∷ fs) zero h = cc
no_field (f ∷ fs) (suc k) h = no_field fs k h

pub no_fields_left : (structs : List StructInfo) (ps : List Part) (zs : List ℕ) (n next start depth : ℕ) → option_map (λ f. f.ty) (slice_get (fields_of structs n) next) ≡ None → finished structs ps zs ≡ finished structs ps (added structs (Fields n next start depth) zs)
no_fields_left structs ps zs n next start depth h =
    ap (finished structs ps) (sym (ap (λ fs. zs ++ fields_items (leaf_count structs) (struct_items structs depth) start fs) (no_field (fields_of structs n) next h) ∙ append-nil zs))

field_there : (fs : List Field) (k : ℕ) (ty : VarTy) → option_map (λ f. f.ty) (slice_get fs k) ≡ Some ty → (f : Field) × (f.ty ≡ ty) × (drop k fs ≡ f ∷ drop (suc k) fs)
field_there [] k ty h = cc
field_there (f ∷ fs) zero ty h = let e : f.ty ≡ ty = cc in (f, e, refl)
field_there (f ∷ fs) (suc k) ty h = field_there fs k ty h

pub fields_left : (structs : List StructInfo) (ps ps' ps'' : List Part) (zs : List ℕ) (n next after start behind depth : ℕ) (ty : VarTy) → option_map (λ f. f.ty) (slice_get (fields_of structs n) next) ≡ Some ty → behind ≡ start + leaf_count structs ty → after ≡ next + 1 →
    ps' ≡ ps ++ Fields n after behind depth ∷ [] → ps'' ≡ ps' ++ Object ty start depth ∷ [] →
    finished structs ps'' zs ≡ finished structs ps (added structs (Fields n next start depth) zs)
fields_left structs ps ps' ps'' zs n next after start behind depth ty h is on one two =
    pushed_two structs ps ps' ps'' (Fields n after behind depth) (Object ty start depth) zs one two ∙ ap (finished structs ps) (sum_up (field_there (fields_of structs n) next ty h))
  where
    sum_up : (f : Field) × (f.ty ≡ ty) × (drop next (fields_of structs n) ≡ f ∷ drop (suc next) (fields_of structs n)) →
        (zs ++ type_items (struct_items structs depth) start ty) ++ fields_items (leaf_count structs) (struct_items structs depth) behind (drop after (fields_of structs n))
        ≡ zs ++ fields_items (leaf_count structs) (struct_items structs depth) start (drop next (fields_of structs n))
    sum_up (f, same, split) =
        append_assoc zs (type_items (struct_items structs depth) start ty) (fields_items (leaf_count structs) (struct_items structs depth) behind (drop after (fields_of structs n)))
        ∙ ap (λ k. zs ++ (type_items (struct_items structs depth) start ty ++ fields_items (leaf_count structs) (struct_items structs depth) behind (drop k (fields_of structs n)))) (let e : after ≡ suc next = omega (arith, on) in e)
        ∙ ap (λ at. zs ++ (type_items (struct_items structs depth) start ty ++ fields_items (leaf_count structs) (struct_items structs depth) at (drop (suc next) (fields_of structs n)))) is
        ∙ ap (λ u. zs ++ (type_items (struct_items structs depth) start u ++ fields_items (leaf_count structs) (struct_items structs depth) (start + leaf_count structs u) (drop (suc next) (fields_of structs n)))) (sym same)
        ∙ ap (λ fs. zs ++ fields_items (leaf_count structs) (struct_items structs depth) start fs) (sym split)

-- ---- the beginning and the end

pub begun : (structs : List StructInfo) (w : ℕ) (ps0 ps : List Part) (zs : List ℕ) (ty : VarTy) (start depth : ℕ) → ps0 ≡ [] → ps ≡ ps0 ++ Object ty start depth ∷ [] → zs ≡ [] → depth ≡ length structs →
    AreAlike w (finished structs ps zs) (type_items (struct_items structs (length structs)) start ty)
begun structs w ps0 ps zs ty start depth none one empty deep =
    ap (take w) (ap (λ xs. finished structs xs zs) (one ∙ ap (λ xs. xs ++ Object ty start depth ∷ []) none) ∙ ap (λ xs. xs ++ type_items (struct_items structs depth) start ty) empty ∙ ap (λ d. type_items (struct_items structs d) start ty) deep)

-- one part more
pub part_on : (structs : List StructInfo) (w : ℕ) (ps mid new : List Part) (p : Part) (zs zs' whole : List ℕ) → ps ≡ mid ++ p ∷ [] → AreAlike w (finished structs new zs') (finished structs mid (added structs p zs)) →
    AreAlike w (finished structs ps zs) whole → AreAlike w (finished structs new zs') whole
part_on structs w ps mid new p zs zs' whole popped done e = done ∙ ap (take w) (sym (pushed structs mid ps p zs popped)) ∙ e

nothing_in : (ps : List Part) → length ps ≡ 0 → ps ≡ []
nothing_in [] h = refl
nothing_in (p ∷ ps) h = absurd (omega (arith, h))

-- none is left
pub part_none : (structs : List StructInfo) (w : ℕ) (ps : List Part) (zs whole : List ℕ) → length ps ≡ 0 → AreAlike w (finished structs ps zs) whole → AreAlike w zs whole
part_none structs w ps zs whole none e = ap (λ xs. take w (finished structs xs zs)) (sym (nothing_in ps none)) ∙ e
