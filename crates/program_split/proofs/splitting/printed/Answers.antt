use Rattle.typed_tree.specs.TypedView.{view_typed}
use Rattle.pt_core.specs.CodeTree.{view_monitor, view_slave}
use Rattle.program_split.proofs.Parts.{is_split}
use Rattle.program_split.proofs.splitting.printed.Goals as goal

pub returns : goal.returns
returns g c = λ t has.
    is_split t (view_typed c.args.judged.program) c.args.judged.accepted (view_slave c.in_ok-slave.slave) (view_monitor c.in_ok-slave.monitor) c.in_ok-slave-2.slave.items c.in_ok-monitor.monitor.items
    has c.requires c.in_ok-slave.ensures c.in_ok-slave-2.ensures.text c.in_ok-monitor.ensures.text
