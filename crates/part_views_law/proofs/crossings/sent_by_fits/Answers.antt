use Rattle.part_views_law.proofs.CrossingsFits.{sent_by_fits}
use Rattle.part_views_law.proofs.crossings.sent_by_fits.Goals as goal

pub returns : goal.returns
returns c = sent_by_fits
