use Rattle.std.proofs.Common.{FitsSigned, rules, ℕ, ℤ, bit_xor, ap, ap₂, ◌∙◌}
use Rattle.std.specs.Int.{w64}
use Rattle.std.proofs.lemmas.Int.{to_z-of_z}
use Rattle.pt_int.specs.Conversion.{bits_of, of_bits}
use Rattle.word_arithmetic.specs.Words.{number_of, is_wide}
use Rattle.word_arithmetic.proofs.prefixes.flipped.Goals as goal

pub returns : goal.returns
returns c =
    let f : FitsSigned w64 c.of_low_bits.result = search rules in
    ap (number_of (is_wide c.args.t)) (to_z-of_z w64 c.of_low_bits.result f)
    ∙ c.of_low_bits.ensures
    ∙ ap₂ (λ (x y : ℕ). of_bits c.args.t (bit_xor x y))
    (c.low_bits.ensures.value (is_wide c.args.t) ∙ ap (λ (z : ℤ). bits_of c.args.t (number_of (is_wide c.args.t) z)) (to_z-of_z w64 c.args.a c.ranges.a))
    c.all_ones.ensures
