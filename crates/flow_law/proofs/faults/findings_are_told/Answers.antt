use Rattle.flow_law.proofs.FaultsTold.{findings_told}
use Rattle.flow_law.proofs.faults.findings_are_told.Goals as goal

pub returns : goal.returns
returns c = findings_told
