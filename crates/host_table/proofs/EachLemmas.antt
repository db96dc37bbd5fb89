-- One item more of a list of which something is made of every one.
use Rattle.std.proofs.Common.{◌≡◌, ◌<◌, ◌+◌, ℕ, List, [], ◌∷◌, ◌++◌, length, get_or, drop, drop-cons, add-one, map, Option, Some, None, option_map, refl, sym, ap, ap₂, ◌∙◌, append_assoc}
use Rattle.std.specs.Option.{option_and_then}
use Rattle.host_table.specs.Entries.{each}

behind : {B : Type 0} (old : List B) (y : B) (rest : Option (List B)) → option_map (λ ys. old ++ ys) (option_map (λ ys. y ∷ ys) rest) ≡ option_map (λ ys. (old ++ y ∷ []) ++ ys) rest
behind old y None = refl
behind old y (Some ys) = ap Some (sym (append_assoc old (y ∷ []) ys))

pub each-more : {X A B : Type 0} (f : A → Option B) (v : X → A) (xs : List X) (i : ℕ) (x : X) (y : B) (old new : List B) (whole : Option (List B))
    → i < length xs → x ≡ get_or xs i x → Some y ≡ f (v x) → new ≡ old ++ y ∷ []
    → whole ≡ option_map (λ rest. old ++ rest) (each f (map v (drop i xs))) → whole ≡ option_map (λ rest. new ++ rest) (each f (map v (drop (i + 1) xs)))
each-more f v xs i x y old new whole within read made put so_far =
    so_far
    ∙ ap (λ rest. option_map (λ ys. old ++ ys) (each f (map v rest))) (drop-cons xs i x within ∙ ap₂ (λ z n. z ∷ drop n xs) (sym read) (sym (add-one i)))
    ∙ ap (λ o. option_map (λ ys. old ++ ys) (option_and_then (λ z. option_map (λ ys. z ∷ ys) (each f (map v (drop (i + 1) xs)))) o)) (sym made)
    ∙ behind old y (each f (map v (drop (i + 1) xs)))
    ∙ ap (λ zs. option_map (λ ys. zs ++ ys) (each f (map v (drop (i + 1) xs)))) (sym put)
