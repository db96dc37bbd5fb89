use Rattle.std.proofs.Common.{◌*ℤ◌, ◌^◌, pos, FitsSigned, rules, sym, ◌∙◌}
use Rattle.std.proofs.lemmas.Int.{to_z-of_z}
use Rattle.std.specs.Int.{w64}
use mir.Syntax.{w128}
use Rattle.pt_int.proofs.Shifts.{left_shift-is}
use Rattle.pt_int.proofs.Words.{passed}
use Rattle.pt_int.proofs.arithmetic.left_shift.Goals as goal

pub returns-then-has_sign : goal.returns-then-has_sign
returns-then-has_sign c =
    let f : FitsSigned w64 c.narrow.result = search rules in
    let a = passed c.args.a c.narrow.result c.ranges.a f c.narrow.ensures in
    let h = simp (to_z-of_z w128 c.args.b c.ranges.b) at c.in-Some.ensures in
    c.settled.ensures (c.args.a *ℤ pos (2 ^ c.in-Some.amount)) (simp a at c.scaled.ensures)
    ∙ sym (left_shift-is c.args.t c.args.a c.args.b c.in-Some.amount h.0 h.1)
