use Rattle.part_views_law.proofs.CrossingsMachines.{hosts_answer}
use Rattle.part_views_law.proofs.crossings.hosts_answer.Goals as goal

pub returns : goal.returns
returns g c = hosts_answer
