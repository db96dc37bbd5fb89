-- The operators on bits, worked out on whole words of 128 bits.
use Rattle.std.proofs.Common.{◌≡◌, ◌⊎◌, inl, inr, ℕ, ◌-◌, ◌/◌, ◌%◌, ◌^◌, ◌<◌, ℤ, pos, negsuc, true, FitsSigned, to_z, of_z, bit_and, bit_or, bit_xor, refl, sym, ap, ap₂, ◌∙◌, subst, arith, rules}
use Rattle.std.specs.Int.Bits.{and_lt, and_self, or_self, xor_self, and_zero_r, or_zero_r, xor_zero_r}
use Rattle.std.proofs.lemmas.Int.{ints, of_z-to_z}
use Rattle.std.proofs.lemmas.Nat.{or_lt, xor_lt, and_mod, or_mod, xor_mod, and_shr, or_shr, xor_shr}
use mir.Syntax.{w128}
use Rattle.pt_base.specs.declared.int_type.IntType.{IntType}
use Rattle.pt_base.specs.declared.int_type.IntType.TheVariants.{Char, SChar, UChar, Short, UShort, Int, UInt, Long, ULong}
use Rattle.pt_base.specs.IntTypes.{InRange, is_signed, width_of}
use Rattle.pt_int.specs.Conversion.{conv, bits_of, of_bits}
use Rattle.pt_int.proofs.Conversions.{conv-same}

-- how many bits stand below the sign
abbrev value_bits : IntType → ℕ
value_bits Char = 7
value_bits SChar = 7
value_bits UChar = 8
value_bits Short = 15
value_bits UShort = 16
value_bits Int = 31
value_bits UInt = 32
value_bits Long = 63
value_bits ULong = 64

-- the bits of a word from the sign up: all 0, or all 1 for a negative number
abbrev IsTop : IntType → ℕ → Type 0
IsTop t h = (h ≡ 0) ⊎ ((is_signed t ≡ true) × (h ≡ 2 ^ (128 - value_bits t) - 1))

top-of : (t : IntType) (v : ℤ) → InRange t v → IsTop t (of_z w128 v / 2 ^ value_bits t)
top-of Char (pos n) h = inl (omega (arith, ints))
top-of Char (negsuc n) h = inr (refl, omega (arith, ints))
top-of SChar (pos n) h = inl (omega (arith, ints))
top-of SChar (negsuc n) h = inr (refl, omega (arith, ints))
top-of UChar (pos n) h = inl (omega (arith, ints))
top-of UChar (negsuc n) h = absurd (omega (arith, ints))
top-of Short (pos n) h = inl (omega (arith, ints))
top-of Short (negsuc n) h = inr (refl, omega (arith, ints))
top-of UShort (pos n) h = inl (omega (arith, ints))
top-of UShort (negsuc n) h = absurd (omega (arith, ints))
top-of Int (pos n) h = inl (omega (arith, ints))
top-of Int (negsuc n) h = inr (refl, omega (arith, ints))
top-of UInt (pos n) h = inl (omega (arith, ints))
top-of UInt (negsuc n) h = absurd (omega (arith, ints))
top-of Long (pos n) h = inl (omega (arith, ints))
top-of Long (negsuc n) h = inr (refl, omega (arith, ints))
top-of ULong (pos n) h = inl (omega (arith, ints))
top-of ULong (negsuc n) h = absurd (omega (arith, ints))

from-top : (t : IntType) (n : ℕ) → n < 2 ^ 128 → IsTop t (n / 2 ^ value_bits t) → InRange t (to_z w128 n)
from-top Char n h top = grind (arith, ints)
from-top SChar n h top = grind (arith, ints)
from-top UChar n h top = grind (arith, ints)
from-top Short n h top = grind (arith, ints)
from-top UShort n h top = grind (arith, ints)
from-top Int n h top = grind (arith, ints)
from-top UInt n h top = grind (arith, ints)
from-top Long n h top = grind (arith, ints)
from-top ULong n h top = grind (arith, ints)

and-top : (t : IntType) (g h : ℕ) → IsTop t g → IsTop t h → IsTop t (bit_and g h)
and-top t g h (inl p) q = inl (rw p refl)
and-top t g h (inr p) (inl q) = inl (rw q (and_zero_r g))
and-top t g h (inr p) (inr q) = inr (p.0, rw (p.1, q.1) (and_self _))

or-top : (t : IntType) (g h : ℕ) → IsTop t g → IsTop t h → IsTop t (bit_or g h)
or-top t g h (inl p) q = rw p q
or-top t g h (inr p) (inl q) = inr (p.0, rw q (or_zero_r g ∙ p.1))
or-top t g h (inr p) (inr q) = inr (p.0, rw (p.1, q.1) (or_self _))

xor-top : (t : IntType) (g h : ℕ) → IsTop t g → IsTop t h → IsTop t (bit_xor g h)
xor-top t g h (inl p) q = rw p q
xor-top t g h (inr p) (inl q) = inr (p.0, rw q (xor_zero_r g ∙ p.1))
xor-top t g h (inr p) (inr q) = inl (rw (p.1, q.1) (xor_self (2 ^ (128 - value_bits t) - 1)))

-- the low bits of a word
word-low : (t : IntType) (v : ℤ) → FitsSigned w128 v → of_z w128 v % 2 ^ width_of t ≡ bits_of t v
word-low Char (pos n) h = refl
word-low Char (negsuc n) h = omega (arith, ints)
word-low SChar (pos n) h = refl
word-low SChar (negsuc n) h = omega (arith, ints)
word-low UChar (pos n) h = refl
word-low UChar (negsuc n) h = omega (arith, ints)
word-low Short (pos n) h = refl
word-low Short (negsuc n) h = omega (arith, ints)
word-low UShort (pos n) h = refl
word-low UShort (negsuc n) h = omega (arith, ints)
word-low Int (pos n) h = refl
word-low Int (negsuc n) h = omega (arith, ints)
word-low UInt (pos n) h = refl
word-low UInt (negsuc n) h = omega (arith, ints)
word-low Long (pos n) h = refl
word-low Long (negsuc n) h = omega (arith, ints)
word-low ULong (pos n) h = refl
word-low ULong (negsuc n) h = omega (arith, ints)

word-lt : (v : ℤ) → FitsSigned w128 v → of_z w128 v < 2 ^ 128
word-lt (pos n) h = omega (arith, ints)
word-lt (negsuc n) h = omega (arith, ints)

word-fits : (n : ℕ) → n < 2 ^ 128 → FitsSigned w128 (to_z w128 n)
word-fits n h = search rules

-- a word in the type's range is the number of its low bits
word-whole : (t : IntType) (n : ℕ) → n < 2 ^ 128 → IsTop t (n / 2 ^ value_bits t) → to_z w128 n ≡ of_bits t (n % 2 ^ width_of t)
unfolding conv
word-whole t n h top =
    sym (conv-same t (to_z w128 n) (from-top t n h top))
    ∙ ap (of_bits t) (sym (word-low t (to_z w128 n) (word-fits n h)) ∙ ap (λ (m : ℕ). m % 2 ^ width_of t) (of_z-to_z w128 n h))

pub and-is : (t : IntType) (a b : ℤ) → FitsSigned w128 a → FitsSigned w128 b → InRange t a → InRange t b → to_z w128 (bit_and (of_z w128 a) (of_z w128 b)) ≡ of_bits t (bit_and (bits_of t a) (bits_of t b))
and-is t a b f g p q =
    word-whole t _ (and_lt 128 _ _ (word-lt a f) (word-lt b g))
    (subst (IsTop t) (sym (and_shr (of_z w128 a) (of_z w128 b) (value_bits t))) (and-top t _ _ (top-of t a p) (top-of t b q)))
    ∙ ap (of_bits t) (and_mod (of_z w128 a) (of_z w128 b) (width_of t) ∙ ap₂ bit_and (word-low t a f) (word-low t b g))

pub or-is : (t : IntType) (a b : ℤ) → FitsSigned w128 a → FitsSigned w128 b → InRange t a → InRange t b → to_z w128 (bit_or (of_z w128 a) (of_z w128 b)) ≡ of_bits t (bit_or (bits_of t a) (bits_of t b))
or-is t a b f g p q =
    word-whole t _ (or_lt 128 _ _ (word-lt a f) (word-lt b g))
    (subst (IsTop t) (sym (or_shr (of_z w128 a) (of_z w128 b) (value_bits t))) (or-top t _ _ (top-of t a p) (top-of t b q)))
    ∙ ap (of_bits t) (or_mod (of_z w128 a) (of_z w128 b) (width_of t) ∙ ap₂ bit_or (word-low t a f) (word-low t b g))

pub xor-is : (t : IntType) (a b : ℤ) → FitsSigned w128 a → FitsSigned w128 b → InRange t a → InRange t b → to_z w128 (bit_xor (of_z w128 a) (of_z w128 b)) ≡ of_bits t (bit_xor (bits_of t a) (bits_of t b))
xor-is t a b f g p q =
    word-whole t _ (xor_lt 128 _ _ (word-lt a f) (word-lt b g))
    (subst (IsTop t) (sym (xor_shr (of_z w128 a) (of_z w128 b) (value_bits t))) (xor-top t _ _ (top-of t a p) (top-of t b q)))
    ∙ ap (of_bits t) (xor_mod (of_z w128 a) (of_z w128 b) (width_of t) ∙ ap₂ bit_xor (word-low t a f) (word-low t b g))
