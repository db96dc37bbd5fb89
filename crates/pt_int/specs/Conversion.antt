-- Conversion between the integer types (C99 6.3.1.3, signed types keeping the low bits).
use Rattle.std.specs.Prelude.{◌≡◌, ℕ, ◌^◌, ℤ, pos, ◌+ℤ◌, ◌-ℤ◌, ◌*ℤ◌, Bool, ◌&&◌, if◌then◌else◌, int_lt, int_le, unsigned_abs}
use Rattle.std.specs.Int.{int_rem_euclid}
use Rattle.pt_base.specs.declared.int_type.IntType.{IntType}
use Rattle.pt_base.specs.IntTypes.{width_of, low_of, high_of, InRange}

-- v and r are equal modulo m
abbrev pub SameModulo : ℕ → ℤ → ℤ → Type 0
SameModulo m v r = (k : ℤ) × (v ≡ r +ℤ k *ℤ pos m)

-- r is v converted to t: a number of t that is equal to v modulo 2 to the width
pub record IsConversion (t : IntType) (v r : ℤ) : Type 0 where
  pub in_range : InRange t r
  pub same : SameModulo (2 ^ width_of t) v r

-- v modulo 2 to the width: for a number of t its bits, in two's complement where t is signed (C99 6.2.6.2)
abbrev pub bits_of : IntType → ℤ → ℕ
bits_of t v = unsigned_abs (int_rem_euclid v (pos (2 ^ width_of t)))

-- the number of t with these bits
abbrev pub of_bits : IntType → ℕ → ℤ
of_bits t bits = if int_lt (high_of t) (pos bits) then pos bits -ℤ pos (2 ^ width_of t) else pos bits

-- the conversion as a number: that of the low bits
unfoldable pub conv : IntType → ℤ → ℤ
conv t v = of_bits t (bits_of t v)

-- whether v is a number of t
abbrev pub is_in_range : IntType → ℤ → Bool
is_in_range t v = int_le (low_of t) v && int_le v (high_of t)

-- no other number of t is v converted to t
abbrev pub IsOnlyConversion : Type 0
IsOnlyConversion = (t : IntType) (v r : ℤ) → IsConversion t v r → r ≡ conv t v
