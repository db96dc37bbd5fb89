use Rattle.marshalling.proofs.ReachLemmas.{outside}
use Rattle.marshalling.proofs.shape.is_shaped.Goals as goal

pub returns-then-not-are_within-clause-answer : goal.returns-then-not-are_within-clause-answer
returns-then-not-are_within-clause-answer c =
    outside c.args.structs.now c.args.params.now c.args.body.now _ _ c.are_within.result c.as_slice-blocks.ensures c.as_slice-args.ensures
    c.are_within.ensures c.if-not-are_within.true
