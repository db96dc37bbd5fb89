use Rattle.std.proofs.Common.{FitsSigned, rules, ℤ, pos, neg_ℤ, Bool, false, Some, Ok, to_z, of_z, ap, sym, subst, ◌∙◌}
use Rattle.std.specs.Int.{w64}
use Rattle.std.proofs.lemmas.Int.{to_z-of_z}
use Rattle.pt_int.specs.Conversion.{conv}
use Rattle.pt_int.specs.Operator.{fitted}
use Rattle.word_arithmetic.specs.Words.{number_of, is_wide, IsWord}
use Rattle.word_arithmetic.proofs.WordLemmas.{signed-narrow}
use Rattle.word_arithmetic.proofs.PrefixLemmas.{negated-words}
use Rattle.word_arithmetic.proofs.prefixes.negated.Goals as goal

pub returns-then-has_sign : goal.returns-then-has_sign
returns-then-has_sign c = λ wide.
    let f : FitsSigned w64 c.integer.result = search rules in
    let x = to_z-of_z w64 c.integer.result f in
    let a = to_z-of_z w64 c.args.a c.ranges.a in
    subst (λ (g : Bool). IsWord g c.difference.result (fitted c.args.t (neg_ℤ (conv c.args.t (number_of wide c.args.a)))))
    (sym (signed-narrow c.args.t (sym c.has_sign.ensures ∙ c.if-has_sign.true)))
    (negated-words false wide c.args.t c.difference.result c.args.a c.integer.result (simp a at (c.integer.ensures.value wide)) (simp x at c.difference.ensures))

pub returns-else-has_sign : goal.returns-else-has_sign
returns-else-has_sign c = λ wide.
    let f : FitsSigned w64 c.difference-else-has_sign.result = search rules in
    let a = to_z-of_z w64 c.args.a c.ranges.a in
    negated-words (is_wide c.args.t) wide c.args.t (Some (to_z w64 (of_z w64 c.difference-else-has_sign.result))) c.args.a (pos c.natural.result) (simp a at (c.natural.ensures.value wide))
    (c.difference-else-has_sign.ensures ∙ ap (λ (z : ℤ). Ok (number_of (is_wide c.args.t) z)) (sym (to_z-of_z w64 c.difference-else-has_sign.result f)))
