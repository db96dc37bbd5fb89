use Rattle.marshalling.proofs.ReachLemmas.{within_ends}
use Rattle.marshalling.proofs.reach.are_within.Goals as goal

pub returns-then-i-args : goal.returns-then-i-args
returns-then-i-args c = within_ends c.args.structs.now c.args.blocks.now _ c.args.args.now c.loop-i.i _ c.if-i-args.true c.loop-i.invariant
