use Rattle.flow_rules.proofs.ToldLemmas.{refused}
use Rattle.flow_rules.proofs.laws.refused_for_faults_alone.Goals as goal

pub returns : goal.returns
returns c = refused
