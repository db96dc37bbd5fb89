use Rattle.pt_core.specs.CodeTree.{view_monitor}
use Rattle.auditing.proofs.AuditLemmas.{on_audited}
use Rattle.auditing.proofs.verdicts.verdicts.Goals as goal

pub returns-clause-functions : goal.returns-clause-functions
returns-clause-functions g c = on_audited (view_monitor c.args.p.now) c.in_ok-marks.marks c.in_ok-found.found.items c.in_ok-found.ensures.these
