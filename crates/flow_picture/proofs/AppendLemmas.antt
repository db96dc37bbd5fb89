-- What is appended in parts.
use Rattle.std.proofs.Common.{◌≡◌, ◌∙◌, ℕ, List, ◌++◌, ap}
use Rattle.pt_base.proofs.Lists.{bytes_grouped, joined_three}

-- the same in four parts
pub joined_four : (s a b c d x y z w : List ℕ) → x ≡ s ++ a → y ≡ x ++ b → z ≡ y ++ c → w ≡ z ++ d → w ≡ s ++ (((a ++ b) ++ c) ++ d)
joined_four s a b c d x y z w first second third fourth =
    fourth ∙ ap (λ xs. xs ++ d) (joined_three s a b c x y z first second third) ∙ bytes_grouped s ((a ++ b) ++ c) d
