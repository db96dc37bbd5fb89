use Rattle.std.proofs.Common.{◌^◌, ℤ, Ok, FitsSigned, to_z, of_z, rules, ap, sym, subst, ◌∙◌}
use Rattle.std.proofs.lemmas.Int.{to_z-of_z}
use Rattle.std.specs.Int.{w64}
use Rattle.std.specs.Int.Signed.{shr_z}
use mir.Syntax.{w128}
use Rattle.pt_int.proofs.Shifts.{right_shift-is}
use Rattle.pt_int.proofs.Words.{passed, passed-is, shr_fits, shr-div}
use Rattle.pt_int.proofs.arithmetic.right_shift.Goals as goal

pub returns-then-has_sign : goal.returns-then-has_sign
returns-then-has_sign c =
    let f : FitsSigned w64 c.narrow.result = search rules in
    let r : FitsSigned w128 c.from.result = search rules in
    let a = passed c.args.a c.narrow.result c.ranges.a f c.narrow.ensures in
    let g = subst (FitsSigned w64) (passed-is c.args.a c.narrow.result c.ranges.a c.narrow.ensures) f in
    let h = simp (to_z-of_z w128 c.args.b c.ranges.b) at c.in-Some.ensures in
    let shifted = to_z-of_z w64 (shr_z c.args.a (2 ^ c.in-Some.amount)) (shr_fits c.args.a (2 ^ c.in-Some.amount) g) in
    ap Ok (to_z-of_z w128 c.from.result r ∙ c.from.ensures ∙ ap (λ (z : ℤ). to_z w64 (of_z w64 (shr_z z (2 ^ c.in-Some.amount)))) a ∙ shifted ∙ shr-div c.args.a c.in-Some.amount)
    ∙ sym (right_shift-is c.args.t c.args.a c.args.b c.in-Some.amount h.0 h.1)
