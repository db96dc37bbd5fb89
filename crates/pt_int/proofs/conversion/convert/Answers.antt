use Rattle.std.proofs.Common.{◌≡◌, arith, to_z, of_z, subst, sym}
use Rattle.std.proofs.lemmas.Int.{to_z-of_z}
use mir.Syntax.{w128}
use Rattle.pt_int.specs.Conversion.{conv, IsConversion}
use Rattle.pt_int.proofs.Conversions.{conversion}
use Rattle.pt_int.proofs.conversion.convert.Goals as goal

pub returns-clause-rule : goal.returns-clause-rule
unfolding conv
returns-clause-rule c =
    let e : to_z w128 (of_z w128 c.of_low_bits.result) ≡ conv c.args.t c.args.v = grind (arith, to_z-of_z) in
    subst (IsConversion c.args.t c.args.v) (sym e) (conversion c.args.t c.args.v)
