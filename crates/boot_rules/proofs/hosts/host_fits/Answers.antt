use Rattle.std.proofs.Common.{ap}
use Rattle.host_models.specs.Fitting.{fits}
use Rattle.pt_core.specs.WellFormed.{host_by}
use Rattle.boot_rules.proofs.hosts.host_fits.Goals as goal

pub returns-in-None : goal.returns-in-None
returns-in-None c = ap (host_by fits c.args.model.now) c.in-None.ensures
