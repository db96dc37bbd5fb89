-- A global's starting values are those of the half: each is read back from its constant.
use Rattle.std.proofs.Common.{◌≡◌, ◌∙◌, ◌<◌, ◌%◌, ◌^◌, sym, ap, ℕ, suc, ℤ, pos, negsuc, ◌*ℤ◌, neg_ℤ, ◌≤ℤ◌, true, arith}
use Rattle.std.specs.Prelude.{int_le}
use Rattle.std.proofs.lemmas.Int.{ints}
use Rattle.std.proofs.Math.Nat.{mod-eq_of_lt}
use Rattle.pt_base.specs.declared.int_type.IntType.{IntType}
use Rattle.pt_base.specs.declared.int_type.IntType.TheVariants.{Char, SChar, UChar, Short, UShort, Int, UInt, Long, ULong}
use Rattle.pt_base.specs.IntTypes.{InRange, width_of}
use Rattle.pt_int.specs.Conversion.{conv, is_in_range, SameModulo}
use Rattle.pt_int.proofs.Conversions.{conversion, conv-same}
use Rattle.pt_int.proofs.OneConversion.{one-conversion}
use Rattle.pt_int.proofs.Ranges.{in_range-test as in_range}

-- ---- one number

ranges : (a v b : ℤ) → int_le a v ≡ true → int_le v b ≡ true → (a ≤ℤ v) × (v ≤ℤ b)
ranges a v b p q = (grind (arith, ints, p), grind (arith, ints, q))

-- the number that the constant is
abbrev pub cell_number : ℤ → ℤ
cell_number (pos n) = pos (n % 2 ^ 64)
cell_number (negsuc n) = conv ULong (neg_ℤ (conv ULong (pos (suc n % 2 ^ 64))))

pos_below : (t : IntType) (n : ℕ) → InRange t (pos n) → n < 2 ^ 64
pos_below Char n h = omega (arith, ints)
pos_below SChar n h = omega (arith, ints)
pos_below UChar n h = omega (arith, ints)
pos_below Short n h = omega (arith, ints)
pos_below UShort n h = omega (arith, ints)
pos_below Int n h = omega (arith, ints)
pos_below UInt n h = omega (arith, ints)
pos_below Long n h = omega (arith, ints)
pos_below ULong n h = omega (arith, ints)

neg_below : (t : IntType) (n : ℕ) → InRange t (negsuc n) → suc n < 2 ^ 64
neg_below Char n h = omega (arith, ints)
neg_below SChar n h = omega (arith, ints)
neg_below UChar n h = omega (arith, ints)
neg_below Short n h = omega (arith, ints)
neg_below UShort n h = omega (arith, ints)
neg_below Int n h = omega (arith, ints)
neg_below UInt n h = omega (arith, ints)
neg_below Long n h = omega (arith, ints)
neg_below ULong n h = omega (arith, ints)

large_range : (n : ℕ) → n < 2 ^ 64 → InRange ULong (pos n)
large_range n h = (omega (arith, ints), omega (arith, ints, h))

-- what is equal modulo 2 to the 64 is equal modulo 2 to a smaller width
narrower : (t : IntType) (v r : ℤ) → SameModulo (2 ^ 64) v r → SameModulo (2 ^ width_of t) r v
narrower Char v r same = (neg_ℤ same.0 *ℤ pos (2 ^ 56), let e = same.1 in omega (arith, ints, e))
narrower SChar v r same = (neg_ℤ same.0 *ℤ pos (2 ^ 56), let e = same.1 in omega (arith, ints, e))
narrower UChar v r same = (neg_ℤ same.0 *ℤ pos (2 ^ 56), let e = same.1 in omega (arith, ints, e))
narrower Short v r same = (neg_ℤ same.0 *ℤ pos (2 ^ 48), let e = same.1 in omega (arith, ints, e))
narrower UShort v r same = (neg_ℤ same.0 *ℤ pos (2 ^ 48), let e = same.1 in omega (arith, ints, e))
narrower Int v r same = (neg_ℤ same.0 *ℤ pos (2 ^ 32), let e = same.1 in omega (arith, ints, e))
narrower UInt v r same = (neg_ℤ same.0 *ℤ pos (2 ^ 32), let e = same.1 in omega (arith, ints, e))
narrower Long v r same = (neg_ℤ same.0, let e = same.1 in omega (arith, ints, e))
narrower ULong v r same = (neg_ℤ same.0, let e = same.1 in omega (arith, ints, e))

pub number_is : (t : IntType) (v : ℤ) → is_in_range t v ≡ true → conv t (cell_number v) ≡ v
number_is t (pos n) h =
    let range = in_range t (pos n) h in
    let same : n % 2 ^ 64 ≡ n = mod-eq_of_lt (pos_below t n range) in
    ap (λ m. conv t (pos m)) same ∙ conv-same t (pos n) range
number_is t (negsuc n) h =
    let range = in_range t (negsuc n) h in
    let low = neg_below t n range in
    let same : suc n % 2 ^ 64 ≡ suc n = mod-eq_of_lt low in
    let inner : conv ULong (neg_ℤ (conv ULong (pos (suc n % 2 ^ 64)))) ≡ conv ULong (negsuc n) = ap (λ z. conv ULong (neg_ℤ z)) (ap (λ m. conv ULong (pos m)) same ∙ conv-same ULong (pos (suc n)) (large_range (suc n) low)) in
    ap (conv t) inner ∙ sym (one-conversion t (conv ULong (negsuc n)) (negsuc n) (record { in_range = range; same = narrower t (negsuc n) (conv ULong (negsuc n)) (conversion ULong (negsuc n)).same }))
