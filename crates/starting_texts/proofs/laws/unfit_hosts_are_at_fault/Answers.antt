use Rattle.starting_texts.proofs.FaultLemmas.{at_fault}
use Rattle.starting_texts.proofs.laws.unfit_hosts_are_at_fault.Goals as goal

pub returns : goal.returns
returns c = at_fault
