use Rattle.part_views_law.proofs.CrossingsMeeting.{views_meet}
use Rattle.part_views_law.proofs.crossings.views_meet.Goals as goal

pub returns : goal.returns
returns c = views_meet
