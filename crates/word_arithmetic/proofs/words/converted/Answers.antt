use Rattle.std.proofs.Common.{FitsSigned, rules, ℤ, ap, ◌∙◌}
use Rattle.std.specs.Int.{w64}
use Rattle.std.proofs.lemmas.Int.{to_z-of_z}
use Rattle.pt_int.specs.Conversion.{conv, of_bits}
use Rattle.word_arithmetic.specs.Words.{number_of, is_wide}
use Rattle.word_arithmetic.proofs.words.converted.Goals as goal

pub returns : goal.returns
unfolding conv
returns c = λ from.
    let f : FitsSigned w64 c.of_low_bits.result = search rules in
    ap (number_of (is_wide c.args.to)) (to_z-of_z w64 c.of_low_bits.result f)
    ∙ c.of_low_bits.ensures
    ∙ ap (of_bits c.args.to) (c.low_bits.ensures.value from)
    ∙ ap (λ (z : ℤ). conv c.args.to (number_of from z)) (to_z-of_z w64 c.args.w c.ranges.w)
