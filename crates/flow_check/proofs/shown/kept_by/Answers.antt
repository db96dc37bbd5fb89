-- One slot after the other.
use Rattle.std.proofs.Common.{arith}
use Rattle.typed_tree.specs.TypedView.{view_typed}
use Rattle.flow_check.specs.Kept.{is_kept, kept}
use Rattle.flow_check.proofs.NumberLemmas.{next_kept}
use Rattle.flow_check.proofs.shown.kept_by.Goals as goal

pub loop-slot-preserved : goal.loop-slot-preserved
loop-slot-preserved c =
    next_kept (kept (view_typed c.args.t.now) c.args.accepted.now.sides.slots) (is_kept c.args.accepted.now c.args.globals.now)
    c.loop-slot.list.items _ _ c.args.count c.loop-slot.slot (grind arith) c.in_ok-add_slot.ensures c.loop-slot.invariant
