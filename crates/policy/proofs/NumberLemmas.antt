-- What digits spell grows with each digit.
use Rattle.std.proofs.Common.{◌≡◌, ℕ, ◌+◌, ◌*◌, ◌-◌, ◌<◌, ◌≤◌, List, [], ◌∷◌, ◌++◌, length, take, drop, get_or, ap, arith, take-append-drop}
use Rattle.std.specs.List.{fold}
use Rattle.std.proofs.lemmas.List.Sums.{fold_more, fold-append}
use Rattle.policy.specs.Numbers.{decimal_value}

abbrev step : ℕ → ℕ → ℕ
step n d = n * 10 + (d - 48)

grows : (n : ℕ) (ds : List ℕ) → n ≤ fold step n ds
grows n [] = omega arith
grows n (d ∷ ds) =
    let rest : step n d ≤ fold step (step n d) ds = grows (step n d) ds in
    omega (arith, rest)

-- the digits up to one of them spell no more than all
pub value_le : (digits : List ℕ) (i : ℕ) → decimal_value (take i digits) ≤ decimal_value digits
value_le digits i =
    let all : decimal_value (take i digits ++ drop i digits) ≡ decimal_value digits = ap decimal_value (take-append-drop i digits) in
    let split : decimal_value (take i digits ++ drop i digits) ≡ fold step (decimal_value (take i digits)) (drop i digits)
    = fold-append step 0 (take i digits) (drop i digits) in
    omega (arith, all, split, grows (decimal_value (take i digits)) (drop i digits))

-- one more digit
pub value_more : (digits : List ℕ) (i : ℕ) → i < length digits
    → decimal_value (take (i + 1) digits) ≡ decimal_value (take i digits) * 10 + (get_or digits i 0 - 48)
value_more digits i h = fold_more step 0 digits i 0 h
