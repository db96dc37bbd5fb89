use Rattle.pt_core.specs.CodeTree.{view_monitor, view_slave}
use Rattle.typed_tree.specs.TypedView.{view_typed}
use Rattle.auditing.proofs.AuditLemmas.{monitor_well_formed, of_half}
use Rattle.auditing.proofs.audits.written.Goals as goal

pub audit_of-requires-clause-well_formed : goal.audit_of-requires-clause-well_formed
audit_of-requires-clause-well_formed g c κs within =
    monitor_well_formed c.accepted_programs_share_nothing.ensures c.monitors_are_well_formed.ensures (view_typed c.args.t.now) c.args.accepted.now (view_slave c.in_ok-slave.slave) (view_monitor c.in_ok-slave.monitor)
    c.args.t.now.well_formed c.requires c.in_ok-slave.ensures

pub returns : goal.returns
returns g c =
    of_half (view_typed c.args.t.now) c.args.accepted.now (view_slave c.in_ok-slave.slave) (view_monitor c.in_ok-slave.monitor) c.in_ok-text.text.items c.in_ok-slave.ensures c.in_ok-text.ensures
