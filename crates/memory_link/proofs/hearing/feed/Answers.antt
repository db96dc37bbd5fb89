use Rattle.memory_link.proofs.Readings.{feeds}
use Rattle.memory_link.proofs.hearing.feed.Goals as goal

pub returns-clause-reading : goal.returns-clause-reading
returns-clause-reading c = λ r. feeds _ _ _ c.in_ok-feed.ensures.ok c.are_bytes.ensures r
