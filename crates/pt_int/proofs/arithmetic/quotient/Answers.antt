use Rattle.std.proofs.Common.{FitsSigned, Ok, rules, sym, ap, ◌∙◌, int_div}
use Rattle.std.specs.Int.{w64}
use Rattle.std.proofs.lemmas.Int.{to_z-of_z}
use mir.Syntax.{w128}
use Rattle.pt_int.specs.Operator.{HasQuotient}
use Rattle.pt_int.proofs.Division.{quotient-is, narrow-fits}
use Rattle.pt_int.proofs.Words.{passed, passed-is, is_nonzero}
use Rattle.pt_int.proofs.arithmetic.quotient.Goals as goal

pub nonzero_div-narrow : goal.nonzero_div-narrow
nonzero_div-narrow c =
    let f : FitsSigned w64 c.narrow.result = search rules in
    let g : FitsSigned w64 c.narrow-then-has_sign.result = search rules in
    let a = passed c.args.a c.narrow.result c.ranges.a f c.narrow.ensures in
    let b = passed c.args.b c.narrow-then-has_sign.result c.ranges.b g c.narrow-then-has_sign.ensures in
    let s = sym c.has_sign.ensures ∙ c.if-has_sign.true in
    let q : HasQuotient c.args.t c.args.a c.args.b = simp (to_z-of_z w128 c.args.a c.ranges.a, to_z-of_z w128 c.args.b c.ranges.b) at c.in_default.ensures in
    let y = passed-is c.args.b c.narrow-then-has_sign.result c.ranges.b c.narrow-then-has_sign.ensures in
    (is_nonzero c.narrow-then-has_sign.result g (λ e. q.0 (sym y ∙ e)), simp (a, b) (narrow-fits c.args.t (int_div c.args.a c.args.b) s q.1))

pub returns-then-has_sign : goal.returns-then-has_sign
returns-then-has_sign c =
    let f : FitsSigned w64 c.narrow.result = search rules in
    let g : FitsSigned w64 c.narrow-then-has_sign.result = search rules in
    let a = passed c.args.a c.narrow.result c.ranges.a f c.narrow.ensures in
    let b = passed c.args.b c.narrow-then-has_sign.result c.ranges.b g c.narrow-then-has_sign.ensures in
    let s = sym c.has_sign.ensures ∙ c.if-has_sign.true in
    let q : HasQuotient c.args.t c.args.a c.args.b = simp (to_z-of_z w128 c.args.a c.ranges.a, to_z-of_z w128 c.args.b c.ranges.b) at c.in_default.ensures in
    let r : FitsSigned w128 c.from.result = search rules in
    let e = simp (a, b) at c.from.ensures in
    ap Ok (to_z-of_z w128 c.from.result r ∙ e ∙ to_z-of_z w64 (int_div c.args.a c.args.b) (narrow-fits c.args.t (int_div c.args.a c.args.b) s q.1))
    ∙ sym (quotient-is c.args.t c.args.a c.args.b q)
