-- What an operator gives is a number of its type.
use Rattle.std.proofs.Common.{◌≡◌, ◌≤ℤ◌, ◌⊎◌, inl, inr, ℕ, suc, ◌-◌, ◌^◌, ◌<◌, ℤ, pos, negsuc, Bool, true, false, if◌then◌else◌, Result, Ok, Err, IfOk, int_rem, unsigned_abs, refl, sym, subst, arith}
use Rattle.std.specs.Int.{int_div_euclid}
use Rattle.std.specs.Int.Bits.{and_lt}
use Rattle.std.specs.Ordering.{int_eq}
use Rattle.std.proofs.lemmas.Int.{ints}
use Rattle.std.proofs.lemmas.Nat.{or_lt, xor_lt, pow_pos}
use Rattle.std.proofs.Math.Nat.{mod-le, div-le_self}
use Rattle.pt_base.specs.declared.int_type.IntType.{IntType}
use Rattle.pt_base.specs.declared.int_type.IntType.TheVariants.{Char, SChar, UChar, Short, UShort, Int, UInt, Long, ULong}
use Rattle.pt_base.specs.declared.trap.Trap.{Trap}
use Rattle.pt_base.specs.declared.trap.Trap.TheVariants.{Overflow, DivZero, Shift}
use Rattle.pt_base.specs.IntTypes.{InRange, is_signed, width_of, low_of, high_of}
use Rattle.pt_int.specs.declared.operator.BinOp.{BinOp}
use Rattle.pt_int.specs.declared.operator.BinOp.TheVariants.{Mul, Div, Rem, Add, Sub, Shl, Shr, Lt, Gt, Le, Ge, Eq, Ne, And, Xor, Or}
use Rattle.pt_int.specs.declared.operator.UnOp.{UnOp}
use Rattle.pt_int.specs.declared.operator.UnOp.TheVariants.{Minus, Plus, Flip, Not}
use Rattle.pt_int.specs.Conversion.{is_in_range}
use Rattle.pt_int.specs.Operator.{fitted, quotient_of, unless_trap, is_amount, truth, binary_of, unary_of, binary_type, unary_type, is_shift}
use Rattle.pt_int.proofs.Conversions.{bits_of-lt, of_bits-in_range, conv-in_range}

ones-lt : (t : IntType) → 2 ^ width_of t - 1 < 2 ^ width_of t
ones-lt t = omega (arith, pow_pos (width_of t))

-- a fact of what a choice gives
if-ok : (b : Bool) (r s : Result ℤ Trap) (P : ℤ → Type 0) → (b ≡ true → IfOk r P) → IfOk s P → IfOk (if b then r else s) P
if-ok true r s P h k = h refl
if-ok false r s P h k = k

pub in_range-test : (t : IntType) (v : ℤ) → is_in_range t v ≡ true → InRange t v
in_range-test t v h = (grind (arith, ints), grind (arith, ints))

fitted-range : (t : IntType) (v : ℤ) → IfOk (fitted t v) (InRange t)
fitted-range t v =
    if-ok (is_signed t) _ _ (InRange t)
    (λ _. if-ok (is_in_range t v) (Ok v) (Err Overflow) (InRange t) (in_range-test t v) (tt {0}))
    (conv-in_range t v)

pub around_zero : (t : IntType) → (low_of t ≤ℤ pos 0) × (pos 0 ≤ℤ high_of t)
around_zero Char = (omega (arith, ints), omega (arith, ints))
around_zero SChar = (omega (arith, ints), omega (arith, ints))
around_zero UChar = (omega (arith, ints), omega (arith, ints))
around_zero Short = (omega (arith, ints), omega (arith, ints))
around_zero UShort = (omega (arith, ints), omega (arith, ints))
around_zero Int = (omega (arith, ints), omega (arith, ints))
around_zero UInt = (omega (arith, ints), omega (arith, ints))
around_zero Long = (omega (arith, ints), omega (arith, ints))
around_zero ULong = (omega (arith, ints), omega (arith, ints))

-- a number from 0 to a number of the type is one too
pub inside : (t : IntType) (a r : ℤ) → InRange t a → ((pos 0 ≤ℤ r) × (r ≤ℤ a)) ⊎ ((a ≤ℤ r) × (r ≤ℤ pos 0)) → InRange t r
inside t a r h (inl p) = (omega (arith, ints, (around_zero t).0), omega (arith, ints))
inside t a r h (inr p) = (omega (arith, ints), omega (arith, ints, (around_zero t).1))

pub rem-range : (t : IntType) (a b : ℤ) → InRange t a → InRange t (int_rem a b)
rem-range t (pos n) b h = inside t (pos n) _ h (inl (omega (arith, ints), omega (arith, ints, mod-le n (unsigned_abs b))))
rem-range t (negsuc n) b h = inside t (negsuc n) _ h (inr (omega (arith, ints, mod-le (suc n) (unsigned_abs b)), omega (arith, ints)))

shr-range : (t : IntType) (a : ℤ) (m : ℕ) → InRange t a → InRange t (int_div_euclid a (pos m))
shr-range t (pos n) m h = inside t (pos n) _ h (inl (omega (arith, ints), omega (arith, ints, div-le_self n m)))
shr-range t (negsuc n) m h = inside t (negsuc n) _ h (inr (omega (arith, ints, div-le_self n m), omega (arith, ints)))

truth-range : (b : Bool) → InRange Int (truth b)
truth-range true = (omega (arith, ints), omega (arith, ints))
truth-range false = (omega (arith, ints), omega (arith, ints))

quotient-range : (t : IntType) (a b : ℤ) → IfOk (quotient_of t a b) (InRange t)
quotient-range t a b = if-ok (int_eq b (pos 0)) (Err DivZero) _ (InRange t) (λ _. tt {0}) (fitted-range t _)

unless-range : (r : Result ℤ Trap) (v : ℤ) (P : ℤ → Type 0) → P v → IfOk (unless_trap r v) P
unless-range (Ok x) v P h = h
unless-range (Err e) v P h = tt {0}

pub binary_of-range : (op : BinOp) (t : IntType) (a b : ℤ) → InRange t a → (is_shift op ≡ false → InRange t b) → IfOk (binary_of op t a b) (InRange (binary_type op t))
unfolding binary_of
binary_of-range Mul t a b p q = fitted-range t _
binary_of-range Div t a b p q = quotient-range t a b
binary_of-range Rem t a b p q = unless-range (quotient_of t a b) _ (InRange t) (rem-range t a b p)
binary_of-range Add t a b p q = fitted-range t _
binary_of-range Sub t a b p q = fitted-range t _
binary_of-range Shl t a b p q = if-ok (is_amount t b) _ (Err Shift) (InRange t) (λ _. fitted-range t _) (tt {0})
binary_of-range Shr t a b p q = if-ok (is_amount t b) _ (Err Shift) (InRange t) (λ _. shr-range t a _ p) (tt {0})
binary_of-range Lt t a b p q = truth-range _
binary_of-range Gt t a b p q = truth-range _
binary_of-range Le t a b p q = truth-range _
binary_of-range Ge t a b p q = truth-range _
binary_of-range Eq t a b p q = truth-range _
binary_of-range Ne t a b p q = truth-range _
binary_of-range And t a b p q = of_bits-in_range t _ (and_lt (width_of t) _ _ (bits_of-lt t a) (bits_of-lt t b))
binary_of-range Xor t a b p q = of_bits-in_range t _ (xor_lt (width_of t) _ _ (bits_of-lt t a) (bits_of-lt t b))
binary_of-range Or t a b p q = of_bits-in_range t _ (or_lt (width_of t) _ _ (bits_of-lt t a) (bits_of-lt t b))

pub unary_of-range : (op : UnOp) (t : IntType) (a : ℤ) → InRange t a → IfOk (unary_of op t a) (InRange (unary_type op t))
unfolding unary_of
unary_of-range Minus t a p = fitted-range t _
unary_of-range Plus t a p = p
unary_of-range Flip t a p = of_bits-in_range t _ (xor_lt (width_of t) _ _ (bits_of-lt t a) (ones-lt t))
unary_of-range Not t a p = truth-range _

-- the same of what is equal to it
pub binary-range : (op : BinOp) (t : IntType) (a b : ℤ) (r : Result ℤ Trap) → InRange t a → (is_shift op ≡ false → InRange t b) → r ≡ binary_of op t a b → IfOk r (InRange (binary_type op t))
binary-range op t a b r p q e = subst (λ (s : Result ℤ Trap). IfOk s (InRange (binary_type op t))) (sym e) (binary_of-range op t a b p q)

pub unary-range : (op : UnOp) (t : IntType) (a : ℤ) (r : Result ℤ Trap) → InRange t a → r ≡ unary_of op t a → IfOk r (InRange (unary_type op t))
unary-range op t a r p e = subst (λ (s : Result ℤ Trap). IfOk s (InRange (unary_type op t))) (sym e) (unary_of-range op t a p)
