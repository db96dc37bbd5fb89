-- One function that is main, and no second.
use Rattle.std.proofs.Common.{◌≡◌, ◌<◌, ◌∙◌, sym, ap, refl, arith, Bool, true, false, List, [], ◌∷◌, drop, get_or, length, map}
use Rattle.std.specs.Prelude.{◌&&◌, ◌||◌, not, if◌then◌else◌}
use Rattle.std.specs.List.{filter, list_any}
use Rattle.pt_base.proofs.Booleans.{and_with_false}
use Rattle.pt_core.specs.declared.function.CoreFn.{CoreFn}
use Rattle.pt_core.specs.CodeTree.{FunctionTree, ProgramTree, view_function}
use Rattle.pt_core.specs.WellFormed.{is_only_start, signature_at, starts_by}

and_true : (a : Bool) → (a && true) ≡ a
and_true true = refl
and_true false = refl

pub only_start : (p : ProgramTree) (f : FunctionTree) (main : FunctionTree → Bool) (gs : List FunctionTree) → (starts_by (signature_at p f.id) && not (list_any main gs)) ≡ is_only_start p (f ∷ filter main gs)
only_start p f main [] = and_true (starts_by (signature_at p f.id))
only_start p f main (g ∷ gs) = go (main g) (only_start p f main gs)
  where
    go : (b : Bool) → (starts_by (signature_at p f.id) && not (list_any main gs)) ≡ is_only_start p (f ∷ filter main gs) →
        (starts_by (signature_at p f.id) && not (b || list_any main gs)) ≡ is_only_start p (f ∷ (if b then g ∷ filter main gs else filter main gs))
    go true later = and_with_false (starts_by (signature_at p f.id))
    go false later = later

pub met : (p : ProgramTree) (f : FunctionTree) (main : FunctionTree → Bool) (gs : List FunctionTree) → main f ≡ true → is_only_start p (filter main (f ∷ gs)) ≡ is_only_start p (f ∷ filter main gs)
met p f main gs is = ap (λ b. is_only_start p (if b then f ∷ filter main gs else filter main gs)) is

split_first : (fs : List CoreFn) (f : CoreFn) → 0 < length fs → f ≡ get_or fs 0 f → fs ≡ f ∷ drop 1 fs
split_first [] f some is = absurd (omega arith)
split_first (g ∷ fs) f some is = ap (λ x. x ∷ fs) (sym is)

-- the first main
pub first_main : (p : ProgramTree) (main : FunctionTree → Bool) (rest others : List CoreFn) (f : CoreFn) (x y whole : Bool) → others ≡ drop 1 rest → 0 < length rest → f ≡ get_or rest 0 f → main (view_function f) ≡ true →
    x ≡ starts_by (signature_at p f.id.0) → x ≡ true → y ≡ list_any main (map view_function others) → is_only_start p (filter main (map view_function rest)) ≡ whole → not y ≡ whole
first_main p main rest others f x y whole behind some is here starts may any all =
    let after = map view_function (drop 1 rest) in
    ap (λ b. b && not y) (sym may)
    ∙ ap (λ b. b && not y) starts
    ∙ ap (λ b. starts_by (signature_at p f.id.0) && not b) (any ∙ ap (λ fs. list_any main (map view_function fs)) behind)
    ∙ only_start p (view_function f) main after
    ∙ sym (met p (view_function f) main after here)
    ∙ ap (λ fs. is_only_start p (filter main (map view_function fs))) (sym (split_first rest f some is))
    ∙ all
