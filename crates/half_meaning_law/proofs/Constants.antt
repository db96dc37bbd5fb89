-- `~n` is -1 - n, and a number of a type is left by a conversion to it.
use Rattle.std.proofs.Common.{◌≡◌, ◌∙◌, ◌<◌, ◌-◌, ◌^◌, ◌%◌, ◌+◌, ◌*◌, ℕ, ℤ, pos, negsuc, ap, arith, Ok, bit_and, bit_xor}
use Rattle.std.specs.Prelude.{IsTrue}
use Rattle.std.specs.Int.Bits.{xor_add_and, and_mask}
use Rattle.std.proofs.lemmas.Int.{ints}
use Rattle.std.proofs.Math.Nat.{mod-eq_of_lt}
use Rattle.pt_base.specs.declared.int_type.IntType.{IntType}
use Rattle.pt_base.specs.declared.int_type.IntType.TheVariants.{Char, SChar, UChar, Short, UShort, Int, UInt, Long, ULong}
use Rattle.pt_base.specs.IntTypes.{InRange}
use Rattle.pt_int.specs.declared.operator.UnOp.TheVariants.{Flip}
use Rattle.pt_int.specs.Conversion.{conv, bits_of, of_bits, is_in_range}
use Rattle.pt_int.specs.Operator.{unary_of}
use Rattle.pt_int.proofs.Conversions.{conv-same}

pub in_range : (t : IntType) (v : ℤ) → IsTrue (is_in_range t v) → InRange t v
in_range t v h = (grind (arith, ints), grind (arith, ints))

-- all bits turned
turned : (w n : ℕ) → n < 2 ^ w → bit_xor n (2 ^ w - 1) ≡ 2 ^ w - 1 - n
turned w n h =
    let sum : bit_xor n (2 ^ w - 1) + bit_and n (2 ^ w - 1) * 2 ≡ n + (2 ^ w - 1) = xor_add_and n (2 ^ w - 1) in
    let low : bit_and n (2 ^ w - 1) ≡ n = and_mask n w ∙ mod-eq_of_lt h in
    omega (arith, sum, low, h)

bits_same : (w n : ℕ) → n < 2 ^ w → n % 2 ^ w ≡ n
bits_same w n h = mod-eq_of_lt h

int_bits : (n : ℕ) → n < 2 ^ 31 → of_bits Int (2 ^ 32 - 1 - n) ≡ negsuc n
int_bits n h = grind (arith, ints)

long_bits : (n : ℕ) → n < 2 ^ 63 → of_bits Long (2 ^ 64 - 1 - n) ≡ negsuc n
long_bits n h = grind (arith, ints)

pub flipped_int : (n : ℕ) → InRange Int (negsuc n) → unary_of Flip Int (conv Int (pos n)) ≡ Ok (negsuc n)
unfolding unary_of
flipped_int n h =
    let small : n < 2 ^ 31 = omega (arith, ints, h.0) in
    let less : n < 2 ^ 32 = omega (arith, small) in
    let same : conv Int (pos n) ≡ pos n = conv-same Int (pos n) (omega (arith, ints), omega (arith, ints, small)) in
    ap (λ v. Ok (of_bits Int (bit_xor (bits_of Int v) (2 ^ 32 - 1)))) same
    ∙ ap (λ b. Ok (of_bits Int (bit_xor b (2 ^ 32 - 1)))) (bits_same 32 n less)
    ∙ ap (λ b. Ok (of_bits Int b)) (turned 32 n less)
    ∙ ap (λ v. Ok v) (int_bits n small)

pub flipped_long : (n : ℕ) → InRange Long (negsuc n) → unary_of Flip Long (conv Long (pos n)) ≡ Ok (negsuc n)
unfolding unary_of
flipped_long n h =
    let small : n < 2 ^ 63 = omega (arith, ints, h.0) in
    let less : n < 2 ^ 64 = omega (arith, small) in
    let same : conv Long (pos n) ≡ pos n = conv-same Long (pos n) (omega (arith, ints), omega (arith, ints, small)) in
    ap (λ v. Ok (of_bits Long (bit_xor (bits_of Long v) (2 ^ 64 - 1)))) same
    ∙ ap (λ b. Ok (of_bits Long (bit_xor b (2 ^ 64 - 1)))) (bits_same 64 n less)
    ∙ ap (λ b. Ok (of_bits Long b)) (turned 64 n less)
    ∙ ap (λ v. Ok v) (long_bits n small)

pub unsigned_int : {X : Type 0} (n : ℕ) → InRange UInt (negsuc n) → X
unsigned_int n h = absurd (omega (arith, ints, h.0))

pub unsigned_long : {X : Type 0} (n : ℕ) → InRange ULong (negsuc n) → X
unsigned_long n h = absurd (omega (arith, ints, h.0))

-- the numbers of a narrow type are numbers of int
pub narrow_char : (v : ℤ) → InRange Char v → InRange Int v
narrow_char v h = (omega (arith, ints, h.0, h.1), omega (arith, ints, h.0, h.1))

pub narrow_schar : (v : ℤ) → InRange SChar v → InRange Int v
narrow_schar v h = (omega (arith, ints, h.0, h.1), omega (arith, ints, h.0, h.1))

pub narrow_uchar : (v : ℤ) → InRange UChar v → InRange Int v
narrow_uchar v h = (omega (arith, ints, h.0, h.1), omega (arith, ints, h.0, h.1))

pub narrow_short : (v : ℤ) → InRange Short v → InRange Int v
narrow_short v h = (omega (arith, ints, h.0, h.1), omega (arith, ints, h.0, h.1))

pub narrow_ushort : (v : ℤ) → InRange UShort v → InRange Int v
narrow_ushort v h = (omega (arith, ints, h.0, h.1), omega (arith, ints, h.0, h.1))
