use Rattle.pt_core.specs.CodeTree.{view_monitor, view_slave}
use Rattle.typed_tree.specs.TypedView.{view_typed}
use Rattle.outlining.proofs.OutlineLemmas.{of_halves}
use Rattle.outlining.proofs.outlines.written.Goals as goal

pub returns : goal.returns
returns g c =
    of_halves (view_typed c.args.t.now) c.args.accepted.now (view_slave c.in_ok-slave.slave) (view_monitor c.in_ok-slave.monitor) c.in_ok-text.text.items
    c.in_ok-slave.ensures c.in_ok-text.ensures
