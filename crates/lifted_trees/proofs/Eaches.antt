-- What holds of each site of a list, by its place.
use Rattle.std.proofs.Common.{◌≡◌, ◌∙◌, ◌+◌, ℕ, zero, refl, subst, arith, Bool, true, false, Option, Some, List, ◌++◌, length}
use Rattle.std.specs.Prelude.{slice_get}
use Rattle.pt_base.specs.declared.span.Span.{Span}
use Rattle.pt_base.proofs.Places.{get_after, get_kept}
use Rattle.typed_tree.specs.declared.types.VarTy.{VarTy}
use Rattle.lifted_trees.specs.Sites.{Operation, SiteTree, int_of, site_if}

-- it holds of each, of which the first has the place i
abbrev pub Each : (ℕ → SiteTree → Type 0) → ℕ → List SiteTree → Type 0
Each P i xs = (j : ℕ) (x : SiteTree) → slice_get xs j ≡ Some x → P (i + j) x

pub each_first : (P : ℕ → SiteTree → Type 0) (i : ℕ) (xs ys : List SiteTree) → Each P i (xs ++ ys) → Each P i xs
each_first P i xs ys e = λ j x h. e j x (get_kept xs ys j x h)

pub each_second : (P : ℕ → SiteTree → Type 0) (i : ℕ) (xs ys : List SiteTree) → Each P i (xs ++ ys) → Each P (i + length xs) ys
each_second P i xs ys e = λ j x h.
    let moved : i + (length xs + j) ≡ (i + length xs) + j = omega arith in
    subst (λ k. P k x) moved (e (length xs + j) x (get_after xs ys j ∙ h))

-- of the one of a list that has it
pub each_here : (P : ℕ → SiteTree → Type 0) (i : ℕ) (b : Bool) (o : Operation) (to : Option VarTy) (s : Span) → b ≡ true →
    Each P i (site_if b o to s) → P i (record { operation = o; result = int_of to; span = s })
each_here P i true o to s is e = let same : i + 0 ≡ i = omega arith in subst (λ k. P k (record { operation = o; result = int_of to; span = s })) same (e zero (record { operation = o; result = int_of to; span = s }) refl)
each_here P i false o to s is e = cc

-- how many a site is that is there, and one that isn't
pub one_site : (b : Bool) (o : Operation) (to : Option VarTy) (s : Span) → b ≡ true → length (site_if b o to s) ≡ 1
one_site true o to s is = refl
one_site false o to s is = cc

pub no_sites : (b : Bool) (o : Operation) (to : Option VarTy) (s : Span) → b ≡ false → length (site_if b o to s) ≡ 0
no_sites false o to s is = refl
no_sites true o to s is = cc
