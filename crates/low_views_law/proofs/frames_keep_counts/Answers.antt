use Rattle.low_views_law.proofs.Streams.{frames_keep_counts}
use Rattle.low_views_law.proofs.frames_keep_counts.Goals as goal

pub returns : goal.returns
returns c = frames_keep_counts
