use Rattle.std.proofs.Common.{ℤ, FitsSigned, Result, Ok, rules, sym, ap, ◌∙◌, int_div, int_rem}
use Rattle.std.specs.Int.{w64}
use Rattle.std.proofs.lemmas.Int.{to_z-of_z}
use mir.Syntax.{w128}
use Rattle.pt_base.specs.declared.trap.Trap.{Trap}
use Rattle.pt_int.specs.Operator.{HasQuotient, unless_trap}
use Rattle.pt_int.proofs.Division.{quotient-is, narrow-fits}
use Rattle.pt_int.proofs.Ranges.{rem-range}
use Rattle.pt_int.proofs.Words.{passed, passed-is, is_nonzero}
use Rattle.pt_int.proofs.arithmetic.remainder.Goals as goal

pub nonzero_rem-narrow : goal.nonzero_rem-narrow
nonzero_rem-narrow c =
    let f : FitsSigned w64 c.narrow.result = search rules in
    let g : FitsSigned w64 c.narrow-then-has_sign.result = search rules in
    let a = passed c.args.a c.narrow.result c.ranges.a f c.narrow.ensures in
    let b = passed c.args.b c.narrow-then-has_sign.result c.ranges.b g c.narrow-then-has_sign.ensures in
    let s = sym c.has_sign.ensures ∙ c.if-has_sign.true in
    let q : HasQuotient c.args.t c.args.a c.args.b = simp (to_z-of_z w128 c.args.a c.ranges.a, to_z-of_z w128 c.args.b c.ranges.b) at c.in_default.ensures in
    let y = passed-is c.args.b c.narrow-then-has_sign.result c.ranges.b c.narrow-then-has_sign.ensures in
    (is_nonzero c.narrow-then-has_sign.result g (λ e. q.0 (sym y ∙ e)), simp (a, b) (narrow-fits c.args.t (int_div c.args.a c.args.b) s q.1))

pub returns-then-has_sign : goal.returns-then-has_sign
returns-then-has_sign c =
    let f : FitsSigned w64 c.narrow.result = search rules in
    let g : FitsSigned w64 c.narrow-then-has_sign.result = search rules in
    let a = passed c.args.a c.narrow.result c.ranges.a f c.narrow.ensures in
    let b = passed c.args.b c.narrow-then-has_sign.result c.ranges.b g c.narrow-then-has_sign.ensures in
    let s = sym c.has_sign.ensures ∙ c.if-has_sign.true in
    let q : HasQuotient c.args.t c.args.a c.args.b = simp (to_z-of_z w128 c.args.a c.ranges.a, to_z-of_z w128 c.args.b c.ranges.b) at c.in_default.ensures in
    let r : FitsSigned w128 c.from.result = search rules in
    let e = simp (a, b) at c.from.ensures in
    ap Ok (to_z-of_z w128 c.from.result r ∙ e ∙ to_z-of_z w64 (int_rem c.args.a c.args.b) (narrow-fits c.args.t (int_rem c.args.a c.args.b) s (rem-range c.args.t c.args.a c.args.b c.requires.left)))
    ∙ ap (λ (r : Result ℤ Trap). unless_trap r (int_rem c.args.a c.args.b)) (sym (quotient-is c.args.t c.args.a c.args.b q))
