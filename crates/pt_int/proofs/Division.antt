-- Which quotients are numbers of the type.
use Rattle.std.proofs.Common.{◌≡◌, ◌≢◌, inl, inr, ℕ, zero, suc, ◌/◌, ◌≤◌, ℤ, pos, negsuc, neg_ℤ, Bool, true, false, if◌then◌else◌, FitsSigned, Result, Ok, Err, int_div, refl, sym, ap, ap₂, ◌∙◌, subst, arith}
use Rattle.std.specs.Int.{w64}
use Rattle.std.specs.Ordering.{int_eq}
use Rattle.std.proofs.lemmas.Int.{ints}
use Rattle.std.proofs.Math.Nat.{div-le_self, div-lt_self}
use Rattle.std.proofs.lemmas.Bool.Decides.{Decides-int_eq}
use Rattle.std.proofs.lemmas.Bool.{false_from_ne_true}
use Rattle.pt_base.specs.declared.int_type.IntType.{IntType}
use Rattle.pt_base.specs.declared.int_type.IntType.TheVariants.{Char, SChar, UChar, Short, UShort, Int, UInt, Long, ULong}
use Rattle.pt_base.specs.declared.trap.Trap.{Trap}
use Rattle.pt_base.specs.declared.trap.Trap.TheVariants.{Overflow}
use Rattle.pt_base.specs.IntTypes.{InRange, is_signed, low_of, high_of}
use Rattle.pt_int.specs.Conversion.{conv, is_in_range}
use Rattle.pt_int.specs.Operator.{fitted, quotient_of, HasQuotient}
use Rattle.pt_int.proofs.Conversions.{conv-same}
use Rattle.pt_int.proofs.Ranges.{inside}

-- a type with a number below 0 goes as far below as above
sides : (t : IntType) (m : ℕ) → InRange t (negsuc m) → (h : ℕ) × (low_of t ≡ negsuc h) × (high_of t ≡ pos h)
sides Char m p = (0x7f, refl, refl)
sides SChar m p = (0x7f, refl, refl)
sides UChar m p = absurd (omega (arith, ints))
sides Short m p = (0x7fff, refl, refl)
sides UShort m p = absurd (omega (arith, ints))
sides Int m p = (0x7fff_ffff, refl, refl)
sides UInt m p = absurd (omega (arith, ints))
sides Long m p = (0x7fff_ffff_ffff_ffff, refl, refl)
sides ULong m p = absurd (omega (arith, ints))

-- a positive number by a negative one
across : (t : IntType) (n m q : ℕ) → InRange t (pos n) → InRange t (negsuc m) → q ≤ n → InRange t (neg_ℤ (pos q))
across t n m zero p r le = inside t (negsuc m) (pos 0) r (inr (omega (arith, ints), omega (arith, ints)))
across t n m (suc q) p r le = let s = sides t m r in (omega (arith, ints, s.1, s.2), omega (arith, ints, s.1, s.2))

-- a negative number by one that is below -1
back : (t : IntType) (n q : ℕ) → InRange t (negsuc n) → q ≤ n → InRange t (pos q)
back t n q p le = let s = sides t n p in (omega (arith, ints, s.1, s.2), omega (arith, ints, s.1, s.2))

-- a negative number other than the least, by -1
turned : (t : IntType) (n : ℕ) → InRange t (negsuc n) → negsuc n ≢ low_of t → InRange t (pos (suc n))
turned t n p other =
    let s = sides t n p in
    let differs : n ≢ s.0 = λ e. other (ap negsuc e ∙ sym s.1) in
    (omega (arith, ints, s.1, s.2), omega (arith, ints, s.1, s.2))

half : (n m : ℕ) → suc n / suc (suc m) ≤ n
half n m = omega (arith, div-lt_self {n = suc n} {k = suc (suc m)} (omega arith) (omega arith))

pub quotient-in_range : (t : IntType) (a b : ℤ) → InRange t a → InRange t b → ((b ≡ negsuc 0) → a ≢ low_of t) → InRange t (int_div a b)
quotient-in_range t (pos n) (pos m) p r other = inside t (pos n) _ p (inl (omega (arith, ints), omega (arith, ints, div-le_self n m)))
quotient-in_range t (pos n) (negsuc m) p r other = across t n m (n / suc m) p r (div-le_self n (suc m))
quotient-in_range t (negsuc n) (pos m) p r other = inside t (negsuc n) _ p (inr (omega (arith, ints, div-le_self (suc n) m), omega (arith, ints)))
quotient-in_range t (negsuc n) (negsuc zero) p r other =
    let whole : suc n ≡ suc n / 1 = omega arith in
    subst (λ (q : ℕ). InRange t (pos q)) whole (turned t n p (other refl))
quotient-in_range t (negsuc n) (negsuc (suc m)) p r other = back t n (suc n / suc (suc m)) p (half n m)

pub in_range-test : (t : IntType) (v : ℤ) → InRange t v → is_in_range t v ≡ true
in_range-test t v p = grind (arith, ints)

picked : (s i : Bool) (v w : ℤ) → i ≡ true → w ≡ v → ◌≡◌ {A = Result ℤ Trap} (if s then (if i then Ok v else Err Overflow) else Ok w) (Ok v)
picked true i v w e f = rw e refl
picked false i v w e f = ap Ok f

fitted-same : (t : IntType) (v : ℤ) → InRange t v → fitted t v ≡ Ok v
fitted-same t v p = picked (is_signed t) (is_in_range t v) v (conv t v) (in_range-test t v p) (conv-same t v p)

pub quotient-is : (t : IntType) (a b : ℤ) → HasQuotient t a b → quotient_of t a b ≡ Ok (int_div a b)
quotient-is t a b h =
    let some : int_eq b (pos 0) ≡ false = false_from_ne_true (int_eq b (pos 0)) (λ e. h.0 ((Decides-int_eq b (pos 0)).0 e)) in
    rw some (fitted-same t (int_div a b) h.1)

least-turned : (t : IntType) → InRange t (negsuc 0) → quotient_of t (low_of t) (negsuc 0) ≡ Err Overflow
least-turned Char r = refl
least-turned SChar r = refl
least-turned UChar r = absurd (omega (arith, ints))
least-turned Short r = refl
least-turned UShort r = absurd (omega (arith, ints))
least-turned Int r = refl
least-turned UInt r = absurd (omega (arith, ints))
least-turned Long r = refl
least-turned ULong r = absurd (omega (arith, ints))

pub least-by_minus_one : (t : IntType) (a b : ℤ) → InRange t b → a ≡ low_of t → b ≡ negsuc 0 → quotient_of t a b ≡ Err Overflow
least-by_minus_one t a b r p q = ap₂ (quotient_of t) p q ∙ least-turned t (subst (InRange t) q r)

-- what fits a signed type fits 64 bits
pub narrow-fits : (t : IntType) (v : ℤ) → is_signed t ≡ true → InRange t v → FitsSigned w64 v
narrow-fits Char v s p = grind (arith, ints)
narrow-fits SChar v s p = grind (arith, ints)
narrow-fits UChar v s p = cc
narrow-fits Short v s p = grind (arith, ints)
narrow-fits UShort v s p = cc
narrow-fits Int v s p = grind (arith, ints)
narrow-fits UInt v s p = cc
narrow-fits Long v s p = grind (arith, ints)
narrow-fits ULong v s p = cc
