-- The leaves of structs by those of the structs before, and one part more that is cleared.
use Rattle.std.proofs.Common.{◌≡◌, ℕ, zero, suc, ◌+◌, ◌-◌, ◌<◌, ◌≤◌, List, [], ◌∷◌, ◌++◌, Option, Some, length, get_or, take, drop, map, slice_get, unwrap_or, refl, sym, ap, ◌∙◌, subst, arith, rules, drop-cons, add-one}
use Rattle.std.proofs.lemmas.List.{map-append}
use Rattle.std.specs.List.{flat_map, range_with_len}
use Rattle.std.proofs.lemmas.Option.{slice_get_past}
use Rattle.pt_base.proofs.Lists.{append_grouped, length_pushed}
use Rattle.pt_base.proofs.Members.{range_first}
use Rattle.pt_base.proofs.Places.{get_before, get_pushed, take_whole}
use Rattle.pt_tree.specs.ExpressionTree as e
use Rattle.pt_tree.specs.StatementTree as c
use Rattle.pt_tree.specs.declared.signature.Elem.TheVariants as elem
use Rattle.typed_tree.specs.declared.types.StructInfo.{StructInfo}
use Rattle.typed_tree.specs.declared.types.VarTy.{VarTy}
use Rattle.half_trees.specs.Clearing.{cleared_behind, zeroed, element_below, object_below, struct_at, steps, step}
use Rattle.half_trees.specs.Leaves.{Leaf, behind, object_leaves, struct_leaves, leaves_from, leaves_of}
use Rattle.half_trees.specs.declared.step.Step.{Step}

-- ---- lists

take_less : {A : Type 0} (m n : ℕ) (xs : List A) → m ≤ n → take m (take n xs) ≡ take m xs
take_less zero n xs h = refl
take_less (suc m) zero xs h = absurd (omega (arith, h))
take_less (suc m) (suc n) [] h = refl
take_less (suc m) (suc n) (x ∷ xs) h = ap (λ l. x ∷ l) (take_less m n xs (omega arith))

get_taken : {A : Type 0} (m n : ℕ) (xs : List A) (d : A) → m < n → get_or (take n xs) m d ≡ get_or xs m d
get_taken m zero xs d h = absurd (omega (arith, h))
get_taken m (suc n) [] d h = refl
get_taken zero (suc n) (x ∷ xs) d h = refl
get_taken (suc m) (suc n) (x ∷ xs) d h = get_taken m n xs d (omega arith)

length_taken : {A : Type 0} (n : ℕ) (xs : List A) → n ≤ length xs → length (take n xs) ≡ n
length_taken zero xs h = refl
length_taken (suc n) [] h = absurd (omega (arith, h))
length_taken (suc n) (x ∷ xs) h = ap suc (length_taken n xs (omega arith))

-- ---- the leaves of structs

leaves_kept : (known : List (List Leaf)) (xs : List StructInfo) (i : ℕ) → i < length known → slice_get (leaves_from known xs) i ≡ slice_get known i
leaves_kept known [] i h = refl
leaves_kept known (s ∷ xs) i h =
    leaves_kept (known ++ struct_leaves known s ∷ []) xs i (omega (arith, length_pushed known (struct_leaves known s))) ∙ get_before known _ i h

leaves_length : (known : List (List Leaf)) (xs : List StructInfo) → length (leaves_from known xs) ≡ length known + length xs
leaves_length known [] = omega arith
leaves_length known (s ∷ xs) = omega (arith, leaves_length (known ++ struct_leaves known s ∷ []) xs, length_pushed known (struct_leaves known s))

leaves_at : (known : List (List Leaf)) (xs : List StructInfo) (j i : ℕ) (d : StructInfo) → j < length xs → i ≡ length known + j
    → slice_get (leaves_from known xs) i ≡ Some (struct_leaves (leaves_from known (take j xs)) (get_or xs j d))
leaves_at known [] j i d h is = absurd (omega (arith, h))
leaves_at known (s ∷ xs) zero i d h is =
    ap (slice_get (leaves_from (known ++ struct_leaves known s ∷ []) xs)) (omega arith)
    ∙ leaves_kept (known ++ struct_leaves known s ∷ []) xs (length known) (omega (arith, length_pushed known (struct_leaves known s)))
    ∙ get_pushed known (struct_leaves known s)
leaves_at known (s ∷ xs) (suc j) i d h is = leaves_at (known ++ struct_leaves known s ∷ []) xs j i d (omega arith) (omega (arith, length_pushed known (struct_leaves known s)))

abbrev nothing : StructInfo
nothing = record { name = []; fields = [] }

-- a struct of a number below the others is among them
pub struct_is : (structs : List StructInfo) (below n : ℕ) → n < below → below ≤ length structs → element_below structs below (elem.Struct n) ≡ struct_at structs n
struct_is structs below n within all =
    let long = length_taken below structs all in
    ap (λ o. unwrap_or o []) (leaves_at [] (take below structs) n n nothing (omega (arith, long)) (omega arith))
    ∙ ap (λ ss. struct_leaves (leaves_from [] ss) (get_or (take below structs) n nothing)) (take_less n below structs (omega arith))
    ∙ ap (struct_leaves (leaves_from [] (take n structs))) (get_taken n below structs nothing within)

-- another has no leaves
pub struct_is_none : (structs : List StructInfo) (below n : ℕ) → below ≤ n → below ≤ length structs → element_below structs below (elem.Struct n) ≡ []
struct_is_none structs below n beyond all =
    ap (λ o. unwrap_or o []) (slice_get_past (leaves_from [] (take below structs)) n (omega (arith, leaves_length [] (take below structs), length_taken below structs all)))

-- ---- what is cleared

cleared_parts : (v : ℕ) (path : Leaf) (xs ys : List Leaf) → cleared_behind v path (xs ++ ys) ≡ cleared_behind v path xs ++ cleared_behind v path ys
cleared_parts v path [] ys = refl
cleared_parts v path (x ∷ xs) ys = ap (λ l. zeroed v (path ++ x) ∷ l) (cleared_parts v path xs ys)

cleared_within : (v : ℕ) (path : Leaf) (p : e.PostfixTree) (xs : List Leaf) → cleared_behind v path (behind p xs) ≡ cleared_behind v (path ++ p ∷ []) xs
cleared_within v path p [] = refl
cleared_within v path p (x ∷ xs) =
    ap (λ l. zeroed v l ∷ cleared_behind v path (behind p xs)) (sym (append_grouped path (p ∷ []) x)) ∙ ap (λ l. zeroed v ((path ++ p ∷ []) ++ x) ∷ l) (cleared_within v path p xs)

-- one part more
pub part_more : (v : ℕ) (path inner : Leaf) (p : e.PostfixTree) (part rest : List Leaf) (before now all : List c.StmtTree)
    → inner ≡ path ++ p ∷ [] → now ≡ before ++ cleared_behind v inner part → before ++ cleared_behind v path (behind p part ++ rest) ≡ all → now ++ cleared_behind v path rest ≡ all
part_more v path inner p part rest before now all is more whole =
    ap (λ l. l ++ cleared_behind v path rest) (more ∙ ap (λ l. before ++ cleared_behind v l part) is ∙ ap (λ l. before ++ l) (sym (cleared_within v path p part)))
    ∙ append_grouped before _ _ ∙ ap (λ l. before ++ l) (sym (cleared_parts v path (behind p part) rest)) ∙ whole

pub steps_more : (structs : List StructInfo) (path longer : List Step) (s : Step) → longer ≡ path ++ s ∷ [] → steps structs longer ≡ steps structs path ++ step structs s ∷ []
steps_more structs path longer s is = ap (steps structs) is ∙ map-append (step structs) path (s ∷ [])

-- the leaves of an object, by all structs
pub all_leaves : (structs : List StructInfo) (ty : VarTy) → object_below structs (length structs) ty ≡ leaves_of structs ty
unfolding leaves_of
all_leaves structs ty = ap (λ ss. object_leaves (leaves_from [] ss) ty) (take_whole structs)

-- one element more of those that a function gives
pub element_more : {A : Type 0} (f : ℕ → A) (n count : ℕ) (before now all : List A) → n < count → now ≡ before ++ f n ∷ [] → before ++ map f (range_with_len n (count - n)) ≡ all
    → now ++ map f (range_with_len (n + 1) (count - (n + 1))) ≡ all
element_more f n count before now all h more whole =
    ap (λ l. l ++ map f (range_with_len (n + 1) (count - (n + 1)))) more ∙ append_grouped before (f n ∷ []) _ ∙ ap (λ ns. before ++ map f ns) (sym (range_first n count h)) ∙ whole
