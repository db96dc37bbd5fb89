use Rattle.std.proofs.Common.{FitsSigned, rules, ◌^◌, ◌-◌, ℤ, Some, Ok, bit_xor, to_z, of_z, ap, sym, subst, ◌∙◌}
use Rattle.std.specs.Int.{w64}
use Rattle.std.proofs.lemmas.Int.{to_z-of_z}
use Rattle.pt_base.specs.IntTypes.{width_of}
use Rattle.pt_int.specs.declared.operator.UnOp.{UnOp}
use Rattle.pt_int.specs.Conversion.{bits_of, of_bits}
use Rattle.pt_int.specs.Operator.{unary_of}
use Rattle.word_arithmetic.specs.Words.{number_of, is_wide, PrefixGivesWord}
use Rattle.word_arithmetic.proofs.prefixes.prefix.Goals as goal

pub returns-in-Minus : goal.returns-in-Minus
unfolding unary_of
returns-in-Minus c =
    let a = to_z-of_z w64 c.args.a c.ranges.a in
    subst (λ (op : UnOp). PrefixGivesWord op c.args.ty c.args.a c.negated.result) (sym c.in-Minus.is)
    (λ wide. simp a at (c.negated.ensures wide))

pub returns-in-Flip : goal.returns-in-Flip
unfolding unary_of
returns-in-Flip c =
    let t = c.args.ty in
    let f : FitsSigned w64 c.flipped.result = search rules in
    let g : FitsSigned w64 c.converted-in-Flip.result = search rules in
    let a = to_z-of_z w64 c.args.a c.ranges.a in
    subst (λ (op : UnOp). PrefixGivesWord op c.args.ty c.args.a (Some (to_z w64 (of_z w64 c.flipped.result)))) (sym c.in-Flip.is)
    (λ wide.
    ap (λ (v : ℤ). Ok (of_bits t (bit_xor (bits_of t v) (2 ^ width_of t - 1)))) (sym (simp a at (c.converted-in-Flip.ensures wide)))
    ∙ ap Ok (sym (simp (to_z-of_z w64 c.converted-in-Flip.result g) at c.flipped.ensures))
    ∙ ap (λ (z : ℤ). Ok (number_of (is_wide t) z)) (sym (to_z-of_z w64 c.flipped.result f)))
