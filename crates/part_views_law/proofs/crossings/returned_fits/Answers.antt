use Rattle.part_views_law.proofs.CrossingsReturned.{returned_fits}
use Rattle.part_views_law.proofs.crossings.returned_fits.Goals as goal

pub returns : goal.returns
returns c = returned_fits
