use Rattle.pt_base.proofs.Places.{drop_step as split_or}
use Rattle.typed_tree.specs.TypedView.{view_typed}
use Rattle.flow_picture.specs.Kept.{seed_nodes}
use Rattle.flow_picture.proofs.SameLemmas.{flat_on, same_end}
use Rattle.flow_picture.proofs.secrets.seeds_in.Goals as goal

pub loop-slot-preserved : goal.loop-slot-preserved
loop-slot-preserved c =
    flat_on (seed_nodes (view_typed c.args.t.now) c.args.nodes.now) _ _ _ _ _ _
    (split_or c.args.slots.now c.loop-slot.slot-index (record { 0 = 0 }) c.loop-slot-test.true) c.in_ok-add_seed.ensures c.loop-slot.invariant

pub returns : goal.returns
returns c = same_end (seed_nodes (view_typed c.args.t.now) c.args.nodes.now) c.args.slots.now c.loop-slot.slot-index _ _ c.loop-slot-test.false c.loop-slot.invariant
