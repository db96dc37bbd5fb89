use Rattle.std.proofs.Common.{◌*ℤ◌, FitsSigned, rules}
use Rattle.std.specs.Int.{w64}
use Rattle.pt_int.proofs.Words.{passed}
use Rattle.pt_int.proofs.arithmetic.product.Goals as goal

pub returns-then-has_sign : goal.returns-then-has_sign
returns-then-has_sign c =
    let f : FitsSigned w64 c.narrow.result = search rules in
    let g : FitsSigned w64 c.narrow-then-has_sign.result = search rules in
    let a = passed c.args.a c.narrow.result c.ranges.a f c.narrow.ensures in
    let b = passed c.args.b c.narrow-then-has_sign.result c.ranges.b g c.narrow-then-has_sign.ensures in
    c.settled.ensures (c.args.a *ℤ c.args.b) (simp (a, b) at c.checked_mul.ensures)
