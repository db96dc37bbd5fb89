-- One leaf after the other.
use Rattle.std.proofs.Common.{◌∙◌, ap, arith, sym}
use Rattle.std.specs.Prelude.{not, slice_index_or}
use Rattle.sides.specs.Slots.{no_slot}
use Rattle.flow_rules.specs.Kept.{is_unmarked_at}
use Rattle.flow_rules.proofs.UnmarkedLemmas.{next_unmarked}
use Rattle.flow_rules.proofs.plain_rule.unmarked_behind.Goals as goal

pub loop-leaf-preserved : goal.loop-leaf-preserved
loop-leaf-preserved c =
    next_unmarked (is_unmarked_at c.args.slots.now c.args.start) c.is_marked-marked.result c.loop-leaf.leaves.items _ _ c.args.count c.loop-leaf.leaf (grind arith)
    (ap not (sym (c.is_marked-marked.ensures ∙ ap (λ s. (slice_index_or c.args.slots.now s no_slot).marked) c.in_ok-slot.ensures)))
    c.in_ok-add_unmarked.ensures c.loop-leaf.invariant
