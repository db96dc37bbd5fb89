-- The numbers of a policy. Leading zeros are allowed.
use Rattle.std.specs.Prelude.{◌≡◌, ℕ, ℤ, pos, neg_ℤ, ◌+◌, ◌-◌, ◌*◌, ◌^◌, ◌<◌, ◌≤ℤ◌, ◌<ℤ◌, Bool, ◌&&◌, nat_lt, List, ◌∷◌, length, IsTrue}
use Rattle.std.specs.List.{fold, list_all}
use Rattle.std.specs.Char.{is_ascii_digit}

-- the number that decimal digits spell, the first digit the highest
abbrev pub decimal_value : List ℕ → ℕ
decimal_value digits = fold (λ n d. n * 10 + (d - 48)) 0 digits

-- one digit or more
abbrev pub are_digits : List ℕ → Bool
are_digits word = nat_lt 0 (length word) && list_all is_ascii_digit word

-- digits, with a minus sign before them or without it
pub data IsDecimal : List ℕ → ℤ → Type 0 where
  plain : (digits : List ℕ) → IsTrue (are_digits digits) → IsDecimal digits (pos (decimal_value digits))
  minus : (digits : List ℕ) → IsTrue (are_digits digits) → IsDecimal (45 ∷ digits) (neg_ℤ (pos (decimal_value digits)))

-- a bound of a range: -2^63 to 2^64 - 1
pub record IsBound (word : List ℕ) (value : ℤ) : Type 0 where
  pub spelled : IsDecimal word value
  pub least : neg_ℤ (pos (2 ^ 63)) ≤ℤ value
  pub greatest : value <ℤ pos (2 ^ 64)

-- how often a rule may be used: 0 to 2^32 - 1, without a sign
pub record IsCount (word : List ℕ) (count : ℕ) : Type 0 where
  pub digits : IsTrue (are_digits word)
  pub is : count ≡ decimal_value word
  pub small : count < 2 ^ 32
