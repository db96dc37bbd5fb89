use Rattle.std.proofs.Common.{FitsSigned, rules, to_z-of_z}
use Rattle.std.specs.Int.{w128}
use Rattle.policy.proofs.BoundLemmas.{bounds_is}
use Rattle.policy.proofs.spelling.bounds.Goals as goal

pub returns : goal.returns
returns c =
    let l : FitsSigned w128 c.in_ok-low.low = search rules in
    let h : FitsSigned w128 c.in_ok-high.high = search rules in
    simp to_z-of_z (bounds_is c.args.word.now c.in_ok-dot.dot c.in_ok-low.low c.in_ok-high.high c.in_ok-dot.ensures.dot c.if-word-dot-ne46.false c.in_ok-low.ensures c.in_ok-high.ensures)
