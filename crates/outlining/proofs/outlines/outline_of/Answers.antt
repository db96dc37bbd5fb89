use Rattle.pt_core.specs.CodeTree.{view_monitor, view_slave}
use Rattle.typed_tree.specs.TypedView.{view_typed}
use Rattle.outlining.proofs.OutlineLemmas.{is_outline_of}
use Rattle.outlining.proofs.outlines.outline_of.Goals as goal

pub returns : goal.returns
returns c =
    is_outline_of (view_typed c.args.t.now) (view_slave c.args.slave.now) (view_monitor c.args.monitor.now) _ _ _ _ _
    c.new-text.ensures.items c.in_ok-push_halves.ensures c.in_ok-push_table.ensures c.in_ok-push_policy.ensures c.as_slice-entries.ensures
