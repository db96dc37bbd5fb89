use Rattle.part_views_law.proofs.CrossingsBeginning.{calls_begin}
use Rattle.part_views_law.proofs.crossings.calls_begin.Goals as goal

pub returns : goal.returns
returns c = calls_begin
