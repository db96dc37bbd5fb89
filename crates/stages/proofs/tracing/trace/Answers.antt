-- What is asked of seeds, and what comes of them.
use Rattle.std.proofs.Common.{ap, length}
use Rattle.typed_tree.specs.TypedView.{view_typed}
use Rattle.stages.proofs.JudgeLemmas.{marks_are, seeds_within}
use Rattle.stages.proofs.tracing.trace.Goals as goal

pub propagate-requires-clause-seeds : goal.propagate-requires-clause-seeds
propagate-requires-clause-seeds g c =
    seeds_within (view_typed c.args.t.now) c.in_ok-sides.sides _ c.in_ok-sides.ensures (ap length c.as_slice.ensures) _ c.as_slice-2.ensures

pub returns : goal.returns
returns g c =
    let t = view_typed c.args.t.now in
    let s = c.in_ok-sides.sides in
    record {
      sides = c.in_ok-sides.ensures;
      edges = c.in_ok-edges.ensures.edges;
      marks = marks_are t s _ c.in_ok-sides.ensures (ap length c.as_slice.ensures) _ _ c.in_ok-edges.edges c.in_ok-marks.marks c.as_slice-2.ensures c.as_slice-3.ensures c.in_ok-marks.ensures;
    }
