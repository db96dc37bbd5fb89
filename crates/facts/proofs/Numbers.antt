-- Natural numbers: sums, sizes, and what their tests say.
use Rattle.std.proofs.Common.{Bool, ap, arith, false, nat_lt, pos, refl, suc, true, ℕ, ◌*◌, ◌+ℤ◌, ◌+◌, ◌-◌, ◌<◌, ◌∙◌, ◌≡◌, ◌≤◌}
use Rattle.std.proofs.Math.Nat.{zero-mul}
use Rattle.std.proofs.Props.{props}
use Rattle.std.proofs.lemmas.Bool.Decides.{nat_tests}
use Rattle.std.proofs.lemmas.Int.{ints}
use Rattle.std.specs.Prelude.{IsTrue, nat_eq, nat_le, ◌&&◌}

pub as_zero_plus : (i : ℕ) → i ≡ 0 + i
as_zero_plus i = omega arith

pub zero_plus : (n : ℕ) → 0 + n ≡ n
zero_plus n = omega arith

pub as_plus_zero : (n : ℕ) → n ≡ n + 0
as_plus_zero n = omega arith

pub plus_zero : (k : ℕ) → k + 0 ≡ k
plus_zero k = omega arith

pub plus_zero_times : (k size : ℕ) → k + 0 * size ≡ k
plus_zero_times k size = let none : 0 * size ≡ 0 = zero-mul size in omega (arith, none)

pub as_plus_one : (n : ℕ) → suc n ≡ n + 1
as_plus_one n = omega arith

pub plus_one : (k : ℕ) → k + 1 ≡ suc k
plus_one k = omega arith

pub suc_plus : (n k : ℕ) → suc (n + k) ≡ suc n + k
suc_plus n k = omega arith

pub plus_suc_moved : (k i : ℕ) → k + suc i ≡ suc k + i
plus_suc_moved k i = omega arith

pub as_minus_self : (i : ℕ) → 0 ≡ i - i
as_minus_self i = omega arith

pub positive_from_zero : (k : ℕ) → pos 0 +ℤ pos k ≡ pos k
positive_from_zero k = omega (arith, ints)

pub suc_same : (a b : ℕ) → suc a ≡ suc b → a ≡ b
suc_same a b e = omega (arith, e)

pub zero_not_suc : {A : Type 0} (k : ℕ) → 0 ≡ suc k → A
zero_not_suc k e = absurd (omega (arith, e))

pub at_most_self : (n : ℕ) → n ≤ n
at_most_self n = omega arith

pub at_most_trans : (a b c : ℕ) → a ≤ b → b ≤ c → a ≤ c
at_most_trans a b c h k = omega arith

pub zero_at_most : (n : ℕ) → 0 ≤ n
zero_at_most n = omega arith

pub suc_below : (j k : ℕ) → j < k → suc j < suc k
suc_below j k h = omega (arith, h)

pub below_not_at_most : (m n : ℕ) → m < n → n ≤ m → ⊥
below_not_at_most m n a b = omega arith

pub equal_is_prop : (m n : ℕ) → IsProp (m ≡ n)
equal_is_prop m n = hlevel props

pub below_is_prop : (m n : ℕ) → IsProp (m < n)
below_is_prop m n = hlevel props

pub nat_eq_same : (m n : ℕ) → nat_eq m n ≡ true → m ≡ n
nat_eq_same m n e = grind (arith, e)

pub nat_eq_self : (n : ℕ) → nat_eq n n ≡ true
nat_eq_self n = grind arith

pub nat_eq_true : (m n : ℕ) → m ≡ n → nat_eq m n ≡ true
nat_eq_true m n e = grind (arith, nat_tests)

pub nat_eq_true_turned : (f k : ℕ) → k ≡ f → nat_eq f k ≡ true
nat_eq_true_turned f k e = grind (arith, nat_tests)

pub equal_holds : (f k : ℕ) → IsTrue (nat_eq f k) → f ≡ k
equal_holds f k h = grind (arith, nat_tests, h)

pub nat_eq_turned : (m n : ℕ) → nat_eq m n ≡ nat_eq n m
nat_eq_turned m n = grind (arith, nat_tests)

pub nat_eq_both_turned : (a b x y : ℕ) → (nat_eq a b && nat_eq x y) ≡ (nat_eq b a && nat_eq y x)
nat_eq_both_turned a b x y = ap (λ t. t && nat_eq x y) (nat_eq_turned a b) ∙ ap (λ t. nat_eq b a && t) (nat_eq_turned x y)

pub nat_eq_below : (a b : ℕ) → a < b → nat_eq a b ≡ false
nat_eq_below a b lt = grind (arith, nat_tests)

pub nat_eq_above : (m n : ℕ) → n < m → nat_eq m n ≡ false
nat_eq_above m n lt = grind (arith, nat_tests)

pub nat_eq_from_suc : (f k : ℕ) → suc k ≤ f → nat_eq f k ≡ false
nat_eq_from_suc f k lt = grind (arith, nat_tests)

pub nat_eq_other : (a b : ℕ) → (a ≡ b → ⊥) → nat_eq a b ≡ false
nat_eq_other a b h = go (nat_eq a b) refl
  where
    go : (t : Bool) → nat_eq a b ≡ t → t ≡ false
    go true e = absurd (h (nat_eq_same a b e))
    go false e = refl

pub nat_eq_other_turned : (f k : ℕ) → (k ≡ f → ⊥) → nat_eq f k ≡ false
nat_eq_other_turned f k other = go (nat_eq f k) refl
  where
    same : nat_eq f k ≡ true → k ≡ f
    same e = grind (arith, nat_tests)

    go : (b : Bool) → nat_eq f k ≡ b → nat_eq f k ≡ false
    go false e = e
    go true e = absurd (other (same e))

pub nat_eq_plus_zero : (m n : ℕ) → m ≡ n + 0 → nat_eq m n ≡ true
nat_eq_plus_zero m n h = grind (arith, nat_tests)

pub nat_eq_plus_suc : (m n k : ℕ) → m ≡ n + suc k → nat_eq m n ≡ false
nat_eq_plus_suc m n k h = grind (arith, nat_tests)

pub nat_lt_below : (n m : ℕ) → nat_lt n m ≡ true → n < m
nat_lt_below n m h = grind (arith, nat_tests)

pub nat_lt_true : (d x : ℕ) → d < x → nat_lt d x ≡ true
nat_lt_true d x less = grind (arith, nat_tests)

pub nat_lt_false : (a b : ℕ) → nat_lt a b ≡ false → b ≤ a
nat_lt_false a b h = grind (arith, nat_tests)

pub nat_lt_next : (x : ℕ) → nat_lt x (x + 1) ≡ true
nat_lt_next x = grind (arith, nat_tests)

pub below_holds : (n m : ℕ) → IsTrue (nat_lt n m) → n < m
below_holds n m h = grind (arith, nat_tests)

pub nat_le_at_most : (a b : ℕ) → nat_le a b ≡ true → a ≤ b
nat_le_at_most a b h = grind (arith, nat_tests, h)

pub at_most_holds : (a b : ℕ) → IsTrue (nat_le a b) → a ≤ b
at_most_holds a b h = grind (arith, nat_tests)
