-- The argument of a plain parameter stands among the plain numbers at its place.
use Rattle.std.proofs.Common.{◌≡◌, ◌∙◌, ◌+◌, zero, suc, Bool, true, false, if◌then◌else◌, List, [], ◌∷◌, take, slice_get, refl, ap, one-add, zero-add, cond}
use Rattle.pt_tree.specs.declared.signature.Param.{Param}
use Rattle.std.proofs.lemmas.List.Sums.{sum_by-cons}
use Rattle.pt_tree.specs.PlainNumbers.{is_plain, plain_numbers}
use Rattle.policy.specs.Plain.{plain_place, PlacesAreArguments}

pub no_numbers : (params : List Param) → plain_numbers params [] ≡ []
no_numbers [] = refl
no_numbers (p ∷ ps) = refl

pub places_are_arguments_lem : PlacesAreArguments
places_are_arguments_lem [] arguments i seen = cc
places_are_arguments_lem (p ∷ ps) [] i seen = refl
places_are_arguments_lem (p ∷ ps) (v ∷ vs) zero seen = ap (λ b. slice_get (if b then v ∷ plain_numbers ps vs else plain_numbers ps vs) 0) seen
places_are_arguments_lem (p ∷ ps) (v ∷ vs) (suc i) seen =
    ap (slice_get (plain_numbers (p ∷ ps) (v ∷ vs))) (sum_by-cons (λ q. cond (is_plain q.kind q.marked) 1 0) p (take i ps)) ∙ go (is_plain p.kind p.marked) (places_are_arguments_lem ps vs i seen)
  where
    go : (b : Bool) → slice_get (plain_numbers ps vs) (plain_place ps i) ≡ slice_get vs i
        → slice_get (if b then v ∷ plain_numbers ps vs else plain_numbers ps vs) (cond b 1 0 + plain_place ps i) ≡ slice_get vs i
    go true is = ap (slice_get (v ∷ plain_numbers ps vs)) (one-add (plain_place ps i)) ∙ is
    go false is = ap (slice_get (plain_numbers ps vs)) (zero-add (plain_place ps i)) ∙ is
