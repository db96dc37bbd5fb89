use Rattle.low_views_law.proofs.Streams.{streams_are_low}
use Rattle.low_views_law.proofs.streams_are_low.Goals as goal

pub returns : goal.returns
returns c = streams_are_low
