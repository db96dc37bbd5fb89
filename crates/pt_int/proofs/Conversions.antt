-- The conversion of a number is the number of the type that is equal to it modulo 2 to the width.
use Rattle.std.proofs.Common.{◌≡◌, ℕ, ◌<◌, ◌/◌, ℤ, pos, negsuc, ◌*ℤ◌, ◌+ℤ◌, ◌-ℤ◌, Bool, if◌then◌else◌, int_lt, ◌^◌, arith, true, false, ap}
use Rattle.std.specs.Int.RustNames.{unsigned_abs}
use Rattle.std.specs.Int.{int_rem_euclid}
use Rattle.std.proofs.lemmas.Int.{ints}
use Rattle.std.proofs.lemmas.Nat.{div-add-mod', mod_below, pow_pos}
use Rattle.std.proofs.Math.IntN.{suc_ℤ, suc_ℤ-*ℤ}
use Rattle.pt_base.specs.declared.int_type.IntType.{IntType}
use Rattle.pt_base.specs.declared.int_type.IntType.TheVariants.{Char, SChar, UChar, Short, UShort, Int, UInt, Long, ULong}
use Rattle.pt_base.specs.IntTypes.{InRange, high_of, width_of}
use Rattle.pt_int.specs.Conversion.{conv, bits_of, of_bits, IsConversion, SameModulo}

-- the number of given bits is one of the type
pub of_bits-in_range : (t : IntType) (n : ℕ) → n < 2 ^ width_of t → InRange t (of_bits t n)
of_bits-in_range Char n h = grind (arith, ints)
of_bits-in_range SChar n h = grind (arith, ints)
of_bits-in_range UChar n h = grind (arith, ints)
of_bits-in_range Short n h = grind (arith, ints)
of_bits-in_range UShort n h = grind (arith, ints)
of_bits-in_range Int n h = grind (arith, ints)
of_bits-in_range UInt n h = grind (arith, ints)
of_bits-in_range Long n h = grind (arith, ints)
of_bits-in_range ULong n h = grind (arith, ints)

residue-lt : (m : ℕ) (v : ℤ) → 0 < m → unsigned_abs (int_rem_euclid v (pos m)) < m
residue-lt m (pos n) h = mod_below n m h
residue-lt m (negsuc n) h = omega arith

residue-same : (m : ℕ) (v : ℤ) → 0 < m → SameModulo m v (pos (unsigned_abs (int_rem_euclid v (pos m))))
residue-same m (pos n) h = (pos (n / m), ap pos (omega (arith, div-add-mod' n m)))
residue-same m (negsuc n) h = (negsuc (n / m), omega (arith, ints, div-add-mod' n m))

-- a residue less the modulus is the same modulo it
same-less : (m r : ℕ) (v k : ℤ) → v ≡ pos r +ℤ k *ℤ pos m → v ≡ (pos r -ℤ pos m) +ℤ suc_ℤ k *ℤ pos m
same-less m r v k h = rw (suc_ℤ-*ℤ) (omega (arith, ints))

same-chosen : (b : Bool) (m r : ℕ) (v : ℤ) → SameModulo m v (pos r) → SameModulo m v (if b then pos r -ℤ pos m else pos r)
same-chosen true m r v h = (suc_ℤ h.0, same-less m r v h.0 h.1)
same-chosen false m r v h = h

pub width-pow : (t : IntType) → 0 < 2 ^ width_of t
width-pow t = pow_pos (width_of t)

pub bits_of-lt : (t : IntType) (v : ℤ) → bits_of t v < 2 ^ width_of t
bits_of-lt t v = residue-lt (2 ^ width_of t) v (width-pow t)

pub conv-in_range : (t : IntType) (v : ℤ) → InRange t (conv t v)
unfolding conv
conv-in_range t v = of_bits-in_range t (bits_of t v) (bits_of-lt t v)

pub conversion : (t : IntType) (v : ℤ) → IsConversion t v (conv t v)
unfolding conv
conversion t v = record {
  in_range = conv-in_range t v;
  same = same-chosen (int_lt (high_of t) (pos (bits_of t v))) (2 ^ width_of t) (bits_of t v) v (residue-same (2 ^ width_of t) v (width-pow t));
}

-- a number of the type stays as it is
pub conv-same : (t : IntType) (v : ℤ) → InRange t v → conv t v ≡ v
unfolding conv
conv-same Char (pos n) h = grind (arith, ints)
conv-same Char (negsuc n) h = grind (arith, ints)
conv-same SChar (pos n) h = grind (arith, ints)
conv-same SChar (negsuc n) h = grind (arith, ints)
conv-same UChar (pos n) h = grind (arith, ints)
conv-same UChar (negsuc n) h = absurd (omega (arith, ints))
conv-same Short (pos n) h = grind (arith, ints)
conv-same Short (negsuc n) h = grind (arith, ints)
conv-same UShort (pos n) h = grind (arith, ints)
conv-same UShort (negsuc n) h = absurd (omega (arith, ints))
conv-same Int (pos n) h = grind (arith, ints)
conv-same Int (negsuc n) h = grind (arith, ints)
conv-same UInt (pos n) h = grind (arith, ints)
conv-same UInt (negsuc n) h = absurd (omega (arith, ints))
conv-same Long (pos n) h = grind (arith, ints)
conv-same Long (negsuc n) h = grind (arith, ints)
conv-same ULong (pos n) h = grind (arith, ints)
conv-same ULong (negsuc n) h = absurd (omega (arith, ints))
