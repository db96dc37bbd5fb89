use Rattle.part_views_law.proofs.CrossingsFits.{worked_by_fits}
use Rattle.part_views_law.proofs.crossings.worked_by_fits.Goals as goal

pub returns : goal.returns
returns c = worked_by_fits
