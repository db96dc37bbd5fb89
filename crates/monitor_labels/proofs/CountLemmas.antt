-- Runs of numbers, one behind the other.
use Rattle.std.proofs.Common.{◌≡◌, ℕ, zero, suc, ◌+◌, List, [], ◌∷◌, ◌++◌, take, Some, arith}
use Rattle.std.specs.Prelude.{slice_get, sum_by}
use Rattle.std.proofs.lemmas.List.Sums.{sum_by-cons, sum_by_push}
use Rattle.pt_base.proofs.Options.{some_same}
use Rattle.monitor_labels.specs.Counting.{sums_from}

-- where a run begins
pub sums_at : {X : Type 0} (size : X → ℕ) (n : ℕ) (xs : List X) (i m : ℕ) → slice_get (sums_from size n xs) i ≡ Some m → m ≡ n + sum_by size (take i xs)
sums_at size n [] i m at = cc
sums_at size n (x ∷ xs) zero m at = let same : n ≡ m = some_same n m at in omega (arith, same)
sums_at size n (x ∷ xs) (suc i) m at =
    let rest : m ≡ n + size x + sum_by size (take i xs) = sums_at size (n + size x) xs i m at in
    let first : sum_by size (x ∷ take i xs) ≡ size x + sum_by size (take i xs) = sum_by-cons size x (take i xs) in
    let whole : m ≡ n + sum_by size (x ∷ take i xs) = omega (arith, rest, first) in
    whole

pub sum_pushed : {X : Type 0} (size : X → ℕ) (xs : List X) (x : X) → sum_by size (xs ++ x ∷ []) ≡ sum_by size xs + size x
sum_pushed size xs x = sum_by_push size xs x
