-- What is appended in parts.
use Rattle.std.proofs.Common.{◌≡◌, ◌∙◌, ℕ, List, ◌++◌, ap, append_assoc}

pub two_parts : (s a b x y : List ℕ) → x ≡ s ++ a → y ≡ x ++ b → y ≡ s ++ (a ++ b)
two_parts s a b x y first second = second ∙ ap (λ xs. xs ++ b) first ∙ append_assoc s a b
