-- What was added in several steps.
use Rattle.std.proofs.Common.{◌≡◌, ◌∙◌, ap, sym, List, ◌++◌, append_assoc}

pub one : {X : Type 0} (new old xs whole : List X) → whole ≡ xs → new ≡ old ++ xs → new ≡ old ++ whole
one new old xs whole w h = h ∙ ap (λ ys. old ++ ys) (sym w)

pub two : {X : Type 0} (new mid old xs ys whole : List X) → whole ≡ xs ++ ys → mid ≡ old ++ xs → new ≡ mid ++ ys → new ≡ old ++ whole
two new mid old xs ys whole w h k = k ∙ ap (λ zs. zs ++ ys) h ∙ append_assoc old xs ys ∙ ap (λ zs. old ++ zs) (sym w)

pub three : {X : Type 0} (new late mid old xs ys zs whole : List X) → whole ≡ xs ++ (ys ++ zs) → mid ≡ old ++ xs → late ≡ mid ++ ys → new ≡ late ++ zs → new ≡ old ++ whole
three new late mid old xs ys zs whole w h k l = two new mid old xs (ys ++ zs) whole w h (l ∙ ap (λ us. us ++ zs) k ∙ append_assoc mid ys zs)
