use Rattle.pt_core.proofs.BootLemmas.{boots_add_hosts}
use Rattle.pt_core.proofs.laws.boots_add_hosts.Goals as goal

pub returns : goal.returns
returns c = boots_add_hosts
