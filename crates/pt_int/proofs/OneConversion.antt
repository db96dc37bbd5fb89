-- Two numbers of a type that are equal modulo 2 to its width are one.
use Rattle.std.proofs.Common.{◌≡◌, ◌<ℤ◌, ℕ, suc, ◌+◌, ◌*◌, ◌^◌, ◌<◌, ◌≤◌, ℤ, pos, negsuc, ◌+ℤ◌, ◌*ℤ◌, neg_ℤ, ◌⊎◌, inl, inr, sym, ap, ◌∙◌, subst, arith}
use Rattle.std.proofs.lemmas.Int.{ints}
use Rattle.std.proofs.lemmas.Bool.{cases_order}
use Rattle.std.proofs.Math.Nat.{mul-le-mul_right, suc-mul}
use Rattle.pt_base.specs.declared.int_type.IntType.{IntType}
use Rattle.pt_base.specs.declared.int_type.IntType.TheVariants.{Char, SChar, UChar, Short, UShort, Int, UInt, Long, ULong}
use Rattle.pt_base.specs.IntTypes.{InRange, width_of}
use Rattle.pt_int.specs.Conversion.{conv, IsOnlyConversion}
use Rattle.pt_int.proofs.Conversions.{conversion}

gap : (m a b : ℕ) → a < b → a * m + m ≤ b * m
gap m a b h = subst (λ (n : ℕ). n ≤ b * m) (suc-mul a m) (mul-le-mul_right m h)

apart_up : (m x y : ℕ) (r s : ℤ) → r <ℤ (s +ℤ pos m) → s <ℤ (r +ℤ pos m) → x + m ≤ y → r +ℤ pos x ≡ s +ℤ pos y → r ≡ s
apart_up m x y r s p q h e = absurd (omega (arith, ints))

opposite : (m x y : ℕ) (r s : ℤ) → r <ℤ (s +ℤ pos m) → s <ℤ (r +ℤ pos m) → m ≤ y → r +ℤ pos x ≡ s +ℤ neg_ℤ (pos y) → r ≡ s
opposite m x y r s p q h e = absurd (omega (arith, ints))

apart_down : (m x y : ℕ) (r s : ℤ) → r <ℤ (s +ℤ pos m) → s <ℤ (r +ℤ pos m) → x + m ≤ y → r +ℤ neg_ℤ (pos x) ≡ s +ℤ neg_ℤ (pos y) → r ≡ s
apart_down m x y r s p q h e = absurd (omega (arith, ints))

level_up : (x y : ℕ) (r s : ℤ) → x ≡ y → r +ℤ pos x ≡ s +ℤ pos y → r ≡ s
level_up x y r s h e = omega (arith, ints)

level_down : (x y : ℕ) (r s : ℤ) → x ≡ y → r +ℤ neg_ℤ (pos x) ≡ s +ℤ neg_ℤ (pos y) → r ≡ s
level_down x y r s h e = omega (arith, ints)

times : (m a b : ℕ) → a ≡ b → a * m ≡ b * m
times m a b e = ap (λ (n : ℕ). n * m) e

once : (m a : ℕ) → m ≤ suc a * m
once m a = omega (arith, suc-mul a m)

both_up : (m a b : ℕ) (r s : ℤ) → r <ℤ (s +ℤ pos m) → s <ℤ (r +ℤ pos m) → r +ℤ pos (a * m) ≡ s +ℤ pos (b * m) → (a ≡ b) ⊎ ((a < b) ⊎ (b < a)) → r ≡ s
both_up m a b r s p q e (inl h) = level_up (a * m) (b * m) r s (times m a b h) e
both_up m a b r s p q e (inr (inl h)) = apart_up m (a * m) (b * m) r s p q (gap m a b h) e
both_up m a b r s p q e (inr (inr h)) = sym (apart_up m (b * m) (a * m) s r q p (gap m b a h) (sym e))

both_down : (m a b : ℕ) (r s : ℤ) → r <ℤ (s +ℤ pos m) → s <ℤ (r +ℤ pos m) → r +ℤ neg_ℤ (pos (a * m)) ≡ s +ℤ neg_ℤ (pos (b * m)) → (a ≡ b) ⊎ ((a < b) ⊎ (b < a)) → r ≡ s
both_down m a b r s p q e (inl h) = level_down (a * m) (b * m) r s (times m a b h) e
both_down m a b r s p q e (inr (inl h)) = apart_down m (a * m) (b * m) r s p q (gap m a b h) e
both_down m a b r s p q e (inr (inr h)) = sym (apart_down m (b * m) (a * m) s r q p (gap m b a h) (sym e))

-- two numbers less than m apart that are equal modulo m are one
apart : (m : ℕ) (r s k l : ℤ) → r <ℤ (s +ℤ pos m) → s <ℤ (r +ℤ pos m) → r +ℤ k *ℤ pos m ≡ s +ℤ l *ℤ pos m → r ≡ s
apart m r s (pos a) (pos b) p q e = both_up m a b r s p q e (cases_order a b)
apart m r s (pos a) (negsuc b) p q e = opposite m (a * m) (suc b * m) r s p q (once m b) e
apart m r s (negsuc a) (pos b) p q e = sym (opposite m (b * m) (suc a * m) s r q p (once m a) (sym e))
apart m r s (negsuc a) (negsuc b) p q e = both_down m (suc a) (suc b) r s p q e (cases_order (suc a) (suc b))

near : (t : IntType) (r s : ℤ) → InRange t r → InRange t s → r <ℤ (s +ℤ pos (2 ^ width_of t))
near Char r s p q = omega (arith, ints)
near SChar r s p q = omega (arith, ints)
near UChar r s p q = omega (arith, ints)
near Short r s p q = omega (arith, ints)
near UShort r s p q = omega (arith, ints)
near Int r s p q = omega (arith, ints)
near UInt r s p q = omega (arith, ints)
near Long r s p q = omega (arith, ints)
near ULong r s p q = omega (arith, ints)

pub one-conversion : IsOnlyConversion
one-conversion t v r h =
    let c = conversion t v in
    apart (2 ^ width_of t) r (conv t v) h.same.0 c.same.0 (near t r (conv t v) h.in_range c.in_range) (near t (conv t v) r c.in_range h.in_range) (sym h.same.1 ∙ c.same.1)
