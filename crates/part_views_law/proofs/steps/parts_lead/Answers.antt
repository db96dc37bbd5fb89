use Rattle.part_views_law.proofs.StepsOutward.{parts_lead}
use Rattle.part_views_law.proofs.steps.parts_lead.Goals as goal

pub returns : goal.returns
returns g c = parts_lead
