-- One number after the other is kept or not.
use Rattle.std.proofs.Common.{rules, arith, ◌∙◌, ap}
use Rattle.flow_edges.specs.Moves as is
use Rattle.flow_edges.proofs.DistinctLemmas.{next_kept, none_kept}
use Rattle.flow_edges.proofs.distinct.first_of_each.Goals as goal

pub loop-number-init : goal.loop-number-init
loop-number-init c = record {
  same = search rules;
  all = none_kept _ _ c.new-kept.ensures.items ∙ ap is.first_of_each c.deref-number-items.ensures.value;
}

pub loop-number-preserved : goal.loop-number-preserved
loop-number-preserved c = record {
  same = c.in_ok-keep.ensures.same;
  all =
      next_kept c.deref-number-items.result.now c.loop-number.number-index _ c.loop-number.kept.items _ _ (grind arith) (search rules) c.in_ok-keep.ensures.kept c.loop-number.invariant.all;
}
