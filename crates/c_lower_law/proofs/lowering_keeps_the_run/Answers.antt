use Rattle.c_lower_law.proofs.RunsAgree.{lowering_keeps_the_run}
use Rattle.c_lower_law.proofs.lowering_keeps_the_run.Goals as goal

pub returns : goal.returns
returns c = lowering_keeps_the_run
