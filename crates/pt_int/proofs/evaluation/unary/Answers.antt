use Rattle.std.proofs.Common.{arith}
use Rattle.std.proofs.lemmas.Int.{to_z-of_z}
use Rattle.std.proofs.Math.IntN.{+ℤ_idl}
use Rattle.pt_int.specs.Operator.{unary_of}
use Rattle.pt_int.proofs.Ranges.{unary-range}
use Rattle.pt_int.proofs.evaluation.unary.Goals as goal

pub returns-in-Minus-clause-value : goal.returns-in-Minus-clause-value
unfolding unary_of
returns-in-Minus-clause-value c = grind (arith, to_z-of_z, +ℤ_idl)

pub returns-in-Minus-clause-range : goal.returns-in-Minus-clause-range
returns-in-Minus-clause-range c =
    unary-range c.args.op c.args.t c.args.a c.difference.result c.requires (returns-in-Minus-clause-value c)

pub returns-in-Flip-clause-value : goal.returns-in-Flip-clause-value
unfolding unary_of
returns-in-Flip-clause-value c = grind (arith, to_z-of_z)

pub returns-in-Flip-clause-range : goal.returns-in-Flip-clause-range
returns-in-Flip-clause-range c =
    unary-range c.args.op c.args.t c.args.a _ c.requires (returns-in-Flip-clause-value c)
