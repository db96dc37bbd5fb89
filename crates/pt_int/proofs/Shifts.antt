-- Shifts by an amount that is allowed.
use Rattle.std.proofs.Common.{◌≡◌, ℕ, ℤ, pos, ◌*ℤ◌, ◌^◌, Bool, true, false, IsTrue, if◌then◌else◌, Ok, ap, sym, ◌∙◌, refl}
use Rattle.std.specs.Int.RustNames.{unsigned_abs}
use Rattle.std.specs.Int.{int_div_euclid}
use Rattle.pt_base.specs.declared.int_type.IntType.{IntType}
use Rattle.pt_int.specs.Operator.{fitted, is_amount, left_shift_of, right_shift_of}

chosen : {A : Type 0} (b : Bool) (x y : A) → IsTrue b → (if b then x else y) ≡ x
chosen true x y h = refl
chosen false x y h = cc

pub left_shift-is : (t : IntType) (a b : ℤ) (k : ℕ) → IsTrue (is_amount t b) → k ≡ unsigned_abs b → left_shift_of t a b ≡ fitted t (a *ℤ pos (2 ^ k))
left_shift-is t a b k h e = chosen (is_amount t b) _ _ h ∙ ap (λ (n : ℕ). fitted t (a *ℤ pos (2 ^ n))) (sym e)

pub right_shift-is : (t : IntType) (a b : ℤ) (k : ℕ) → IsTrue (is_amount t b) → k ≡ unsigned_abs b → right_shift_of t a b ≡ Ok (int_div_euclid a (pos (2 ^ k)))
right_shift-is t a b k h e = chosen (is_amount t b) _ _ h ∙ ap (λ (n : ℕ). Ok (int_div_euclid a (pos (2 ^ n)))) (sym e)
