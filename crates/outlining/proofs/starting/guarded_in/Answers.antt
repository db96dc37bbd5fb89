use Rattle.pt_base.proofs.Places.{drop_step_at}
use Rattle.typed_tree.specs.TypedView.{view_typed}
use Rattle.outlining.proofs.EntryLemmas.{guarded_on}
use Rattle.outlining.proofs.starting.guarded_in.Goals as goal

pub loop-entry-preserved : goal.loop-entry-preserved
loop-entry-preserved c =
    guarded_on (view_typed c.args.t.now) c.entry-item.result _ _ _ _ _ (drop_step_at c.args.entries.now c.loop-entry.entry-index c.entry-item.result c.loop-entry-test.true c.entry-item.is)
    c.in_ok-add_guarded.ensures c.loop-entry.invariant
