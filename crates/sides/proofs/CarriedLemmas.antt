-- What the forms of an expression carry, in code's steps.
use Rattle.std.proofs.Common.{◌≡◌, ◌∙◌, ◌≤◌, ℕ, zero, suc, ◌+◌, refl, ap, sym, arith, Option, List, [], ◌∷◌, ◌++◌, length, take, drop}
use Rattle.pt_base.specs.declared.ids.FnId.{FnId}
use Rattle.pt_base.proofs.Places.{drop_front, take_front}
use Rattle.typed_tree.specs.declared.types.VarTy.{VarTy}
use Rattle.typed_tree.specs.ExpressionTree as t
use Rattle.typed_tree.specs.ExpressionTree.{ExprTree, FormTree, ExprTrees, LinkTrees, RootTree, StepTrees, place}
use Rattle.sides.specs.Carried.{Scope, carried, form_slots, place_slots, root_slots, root_type, steps_offset}
use Rattle.sides.specs.Moved.{moved, links_moved}
use Rattle.sides.proofs.MovedLemmas.{moved_twice, links_are}

pub take_taken : (n : ℕ) (xs ys : List ℕ) → n ≤ length xs → take n (take n xs ++ ys) ≡ take n xs
take_taken zero xs ys h = refl
take_taken (suc n) [] ys h = absurd (omega arith)
take_taken (suc n) (x ∷ xs) ys h = ap (λ zs. x ∷ zs) (take_taken n xs ys (omega arith))

pub drop_taken : (n : ℕ) (xs ys : List ℕ) → n ≤ length xs → drop n (take n xs ++ ys) ≡ ys
drop_taken zero xs ys h = refl
drop_taken (suc n) [] ys h = absurd (omega arith)
drop_taken (suc n) (x ∷ xs) ys h = drop_taken n xs ys (omega arith)

pub long_taken : (n : ℕ) (xs ys : List ℕ) → n ≤ length xs → n ≤ length (take n xs ++ ys)
long_taken zero xs ys h = omega arith
long_taken (suc n) [] ys h = absurd (omega arith)
long_taken (suc n) (x ∷ xs) ys h = let l = long_taken n xs ys (omega arith) in omega (arith, l)

pub nothing_behind : (n : ℕ) (xs : List ℕ) → drop n (take n xs) ≡ []
nothing_behind zero xs = refl
nothing_behind (suc n) [] = refl
nothing_behind (suc n) (x ∷ xs) = nothing_behind n xs

pub take_again : (n : ℕ) (xs : List ℕ) → take n (take n xs) ≡ take n xs
take_again zero xs = refl
take_again (suc n) [] = refl
take_again (suc n) (x ∷ xs) = ap (λ zs. x ∷ zs) (take_again n xs)

pub long_take : (n : ℕ) (xs : List ℕ) → n ≤ length xs → n ≤ length (take n xs)
long_take zero xs h = omega arith
long_take (suc n) [] h = absurd (omega arith)
long_take (suc n) (x ∷ xs) h = let l = long_take n xs (omega arith) in omega (arith, l)

pub whole_list : (n : ℕ) (xs : List ℕ) → take n xs ++ drop n xs ≡ xs
whole_list zero xs = refl
whole_list (suc n) [] = refl
whole_list (suc n) (x ∷ xs) = ap (λ zs. x ∷ zs) (whole_list n xs)

pub chain_done : (c : Scope) (by : ℕ) (ty : Option VarTy) (form : FormTree) (a a' : ExprTree) (ls ls' : LinkTrees) (before : ℕ) (old mid new : List ℕ) → form ≡ t.chain a ls → a' ≡ a → ls' ≡ ls → before ≡ length old →
    mid ≡ old ++ moved by (carried c a') → new ≡ take before mid ++ links_moved c by (drop before mid) ls' → new ≡ old ++ moved by (form_slots c ty form)
chain_done c by ty form a a' ls ls' before old mid new f ea el eb em en =
    en
    ∙ ap (λ n. take n mid ++ links_moved c by (drop n mid) ls') eb
    ∙ ap (λ xs. take (length old) xs ++ links_moved c by (drop (length old) xs) ls') em
    ∙ ap (λ xs. xs ++ links_moved c by (drop (length old) (old ++ moved by (carried c a'))) ls') (take_front old (moved by (carried c a')))
    ∙ ap (λ xs. old ++ links_moved c by xs ls') (drop_front old (moved by (carried c a')))
    ∙ ap (λ x. old ++ links_moved c by (moved by (carried c x)) ls') ea
    ∙ ap (λ x. old ++ links_moved c by (moved by (carried c a)) x) el
    ∙ ap (λ xs. old ++ xs) (sym (links_are c by (carried c a) ls))
    ∙ ap (λ x. old ++ moved by (form_slots c ty x)) (sym f)

pub place_done : (c : Scope) (behind by more : ℕ) (r : RootTree) (ss ss' : StepTrees) (ty : Option VarTy) (old new : List ℕ) → ty ≡ root_type c r → by ≡ steps_offset c.structs ty ss' → ss' ≡ ss → more ≡ by + behind →
    new ≡ old ++ moved more (root_slots c r) → new ≡ old ++ moved behind (place_slots c (place r ss))
place_done c behind by more r ss ss' ty old new et eb es em en =
    let offset : by ≡ steps_offset c.structs (root_type c r) ss = eb ∙ ap (λ x. steps_offset c.structs ty x) es ∙ ap (λ x. steps_offset c.structs x ss) et in
    en
    ∙ ap (λ n. old ++ moved n (root_slots c r)) em
    ∙ ap (λ xs. old ++ xs) (sym (moved_twice by behind (root_slots c r)))
    ∙ ap (λ n. old ++ moved behind (moved n (root_slots c r))) offset

pub call_done : (c : Scope) (behind slot : ℕ) (ty : Option VarTy) (form : FormTree) (g : FnId) (es : ExprTrees) (old new : List ℕ) → form ≡ t.call g es → slot ≡ c.results + g.0 → new ≡ old ++ moved behind (slot ∷ []) → new ≡ old ++ moved behind (form_slots c ty form)
call_done c behind slot ty form g es old new f e h = h ∙ ap (λ n. old ++ moved behind (n ∷ [])) e ∙ ap (λ x. old ++ moved behind (form_slots c ty x)) (sym f)

-- at the end of the links
pub links_done : (c : Scope) (by before : ℕ) (old new : List ℕ) (ls : LinkTrees) → take before new ≡ take before old → drop before new ≡ links_moved c by (drop before old) ls → new ≡ take before old ++ links_moved c by (drop before old) ls
links_done c by before old new ls k l = sym (whole_list before new) ∙ ap (λ xs. xs ++ drop before new) k ∙ ap (λ xs. take before old ++ xs) l
