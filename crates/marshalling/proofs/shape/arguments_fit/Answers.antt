use Rattle.std.proofs.Common.{sym}
use Rattle.marshalling.proofs.ShapeLemmas.{unequal}
use Rattle.marshalling.proofs.shape.arguments_fit.Goals as goal

pub returns-then-params-args : goal.returns-then-params-args
returns-then-params-args c = sym (unequal c.args.structs.now c.args.blocks.now c.args.params.now c.args.args.now c.if-params-args.true)
