-- The operators of one word, from what was computed.
use Rattle.std.proofs.Common.{◌≡◌, ℤ, pos, neg_ℤ, ◌-ℤ◌, Bool, Option, ap, ◌∙◌, subst, arith}
use Rattle.std.proofs.Math.IntN.{+ℤ_idl}
use Rattle.pt_base.specs.declared.int_type.IntType.{IntType}
use Rattle.pt_int.specs.Conversion.{conv}
use Rattle.pt_int.specs.Operator.{fitted}
use Rattle.word_arithmetic.specs.Words.{number_of, IsWord}

from-zero : (z : ℤ) → pos 0 -ℤ z ≡ neg_ℤ z
from-zero z = grind (arith, +ℤ_idl)

pub negated-words : (g wide : Bool) (t : IntType) (r : Option ℤ) (a x : ℤ) → x ≡ conv t (number_of wide a) → IsWord g r (fitted t (pos 0 -ℤ x)) → IsWord g r (fitted t (neg_ℤ (conv t (number_of wide a))))
negated-words g wide t r a x p h = subst (λ (z : ℤ). IsWord g r (fitted t z)) (from-zero x ∙ ap neg_ℤ p) h
