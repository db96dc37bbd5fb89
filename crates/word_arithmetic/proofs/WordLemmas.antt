-- The bits of a word are those of its number.
use Rattle.std.proofs.Common.{◌≡◌, ◌↔◌, ℕ, ◌-◌, ◌%◌, ◌^◌, ◌<◌, ℤ, pos, negsuc, Bool, true, false, FitsSigned, to_z, of_z, bit_and, refl, sym, ap, ◌∙◌, arith}
use Rattle.std.specs.Int.{w64}
use Rattle.std.proofs.lemmas.Int.{ints, to_z-of_z}
use Rattle.std.proofs.lemmas.Nat.{and_mask}
use Rattle.pt_base.specs.declared.int_type.IntType.{IntType}
use Rattle.pt_base.specs.declared.int_type.IntType.TheVariants.{Char, SChar, UChar, Short, UShort, Int, UInt, Long, ULong}
use Rattle.pt_base.specs.IntTypes.{is_signed, width_of}
use Rattle.pt_int.specs.Conversion.{conv, bits_of, of_bits}
use Rattle.word_arithmetic.specs.Words.{number_of, is_wide}

-- the number of a wide word
pub wide-number : (w : ℤ) → FitsSigned w64 w → number_of true w ≡ pos (of_z w64 w)
wide-number (pos n) f = grind (arith, ints)
wide-number (negsuc n) f = omega (arith, ints)

pub wide-bits : (n : ℕ) → n < 2 ^ 64 → number_of true (to_z w64 n) ≡ pos n
wide-bits n h = grind (arith, ints)

pub low-own : (t : IntType) (w : ℤ) → FitsSigned w64 w → of_z w64 w % 2 ^ width_of t ≡ bits_of t w
low-own Char (pos n) f = refl
low-own Char (negsuc n) f = omega (arith, ints)
low-own SChar (pos n) f = refl
low-own SChar (negsuc n) f = omega (arith, ints)
low-own UChar (pos n) f = refl
low-own UChar (negsuc n) f = omega (arith, ints)
low-own Short (pos n) f = refl
low-own Short (negsuc n) f = omega (arith, ints)
low-own UShort (pos n) f = refl
low-own UShort (negsuc n) f = omega (arith, ints)
low-own Int (pos n) f = refl
low-own Int (negsuc n) f = omega (arith, ints)
low-own UInt (pos n) f = refl
low-own UInt (negsuc n) f = omega (arith, ints)
low-own Long (pos n) f = refl
low-own Long (negsuc n) f = omega (arith, ints)
low-own ULong (pos n) f = refl
low-own ULong (negsuc n) f = omega (arith, ints)

pub low-same : (wide : Bool) (t : IntType) (w : ℤ) → FitsSigned w64 w → of_z w64 w % 2 ^ width_of t ≡ bits_of t (number_of wide w)
low-same false t w f = low-own t w f
low-same true t w f = ap (bits_of t) (sym (wide-number w f))

pub masked : (wide : Bool) (t : IntType) (w : ℤ) (m : ℕ) → FitsSigned w64 w → m ≡ 2 ^ width_of t - 1 → bit_and (of_z w64 w) m ≡ bits_of t (number_of wide w)
masked wide t w m f e = ap (bit_and (of_z w64 w)) e ∙ and_mask (of_z w64 w) (width_of t) ∙ low-same wide t w f

pub by_bits : (wide : Bool) (t : IntType) (w : ℤ) → FitsSigned w64 w → conv t (number_of wide w) ≡ conv t w
unfolding conv
by_bits wide t w f = ap (of_bits t) (sym (low-same wide t w f) ∙ low-own t w f)

zero-wide : (w : ℤ) → FitsSigned w64 w → (number_of true w ≡ pos 0) ↔ (w ≡ pos 0)
zero-wide (pos n) f = (λ h. sym (wide-number (pos n) f) ∙ h, λ h. wide-number (pos n) f ∙ h)
zero-wide (negsuc n) f = (λ h. let e : pos (of_z w64 (negsuc n)) ≡ pos 0 = sym (wide-number (negsuc n) f) ∙ h in absurd (omega (arith, ints)), λ h. cc)

pub zero : (wide : Bool) (w : ℤ) → FitsSigned w64 w → (number_of wide w ≡ pos 0) ↔ (w ≡ pos 0)
zero false w f = (λ h. h, λ h. h)
zero true w f = zero-wide w f

-- a signed type's words aren't wide
pub signed-narrow : (t : IntType) → is_signed t ≡ true → is_wide t ≡ false
signed-narrow Char h = refl
signed-narrow SChar h = refl
signed-narrow UChar h = cc
signed-narrow Short h = refl
signed-narrow UShort h = cc
signed-narrow Int h = refl
signed-narrow UInt h = cc
signed-narrow Long h = refl
signed-narrow ULong h = cc

-- a word of a signed type is the number itself
pub own-number : (t : IntType) (w v : ℤ) → is_signed t ≡ true → FitsSigned w64 w → number_of (is_wide t) w ≡ v → to_z w64 (of_z w64 w) ≡ v
own-number t w v s f e = to_z-of_z w64 w f ∙ ap (λ (b : Bool). number_of b w) (sym (signed-narrow t s)) ∙ e
