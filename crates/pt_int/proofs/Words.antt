-- Numbers in words of 64 and 128 bits.
use Rattle.std.proofs.Common.{◌≡◌, ◌≢◌, ℕ, ◌<◌, ◌≤◌, ◌*◌, ◌%◌, ℤ, pos, negsuc, ◌^◌, arith, to_z, of_z, FitsSigned, sym, ap, ◌∙◌, refl}
use Rattle.std.specs.Int.{w64, IsNonZero, int_div_euclid, int_shr}
use Rattle.std.proofs.lemmas.Int.{ints, to_z_pos, to_z-of_z}
use Rattle.std.proofs.Math.Pow.{pow_mono}
use Rattle.std.proofs.Math.Nat.{mod-eq_of_lt, one-mul}
use Rattle.std.specs.Int.Signed.{shr_z, mag_shr}
use mir.Syntax.{w128}

-- a number that is passed on as 64 bits of 128
pub passed : (z r : ℤ) → FitsSigned w128 z → FitsSigned w64 r → r ≡ to_z w128 (of_z w128 z) → to_z w64 (of_z w64 r) ≡ z
passed z r f g e = to_z-of_z w64 r g ∙ e ∙ to_z-of_z w128 z f

pub passed-is : (z r : ℤ) → FitsSigned w128 z → r ≡ to_z w128 (of_z w128 z) → r ≡ z
passed-is z r f e = e ∙ to_z-of_z w128 z f

-- the number of a word
pub is_word : (z : ℤ) (n : ℕ) → FitsSigned w128 z → of_z w128 z ≡ n → z ≡ to_z w128 n
is_word z n f e = sym (to_z-of_z w128 z f) ∙ ap (to_z w128) e

-- what the code's shift gives
pub one_shifted : (k : ℕ) → k < 63 → to_z w64 (1 * 2 ^ k % 2 ^ 64) ≡ pos (2 ^ k)
one_shifted k h =
    let below : k ≤ 62 = omega arith in
    let le : 2 ^ k ≤ 2 ^ 62 = pow_mono below in
    let small : 1 * 2 ^ k % 2 ^ 64 ≡ 2 ^ k = rw one-mul (mod-eq_of_lt (omega arith)) in
    ap (to_z w64) small ∙ to_z_pos w64 (2 ^ k) (omega arith)

pub is_nonzero : (z : ℤ) → FitsSigned w64 z → z ≢ pos 0 → IsNonZero w64 z
is_nonzero (pos n) f h = grind arith
is_nonzero (negsuc n) f h = omega (arith, ints)

-- a shift to the right divides and rounds down
pub shr-div : (z : ℤ) (k : ℕ) → int_shr z k ≡ int_div_euclid z (pos (2 ^ k))
shr-div (pos n) k = refl
shr-div (negsuc n) k = refl

pub shr_fits : (z : ℤ) (m : ℕ) → FitsSigned w64 z → FitsSigned w64 (shr_z z m)
shr_fits z m f = record { sfits = omega (arith, mag_shr z m) }
