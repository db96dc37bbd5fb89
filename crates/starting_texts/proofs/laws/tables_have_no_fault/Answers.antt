use Rattle.starting_texts.proofs.FaultLemmas.{no_fault}
use Rattle.starting_texts.proofs.laws.tables_have_no_fault.Goals as goal

pub returns : goal.returns
returns c = no_fault
