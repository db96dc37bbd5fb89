use Rattle.memory_link.proofs.Ends.{hears_bytes}
use Rattle.memory_link.proofs.slave_end.SlaveEnd.hear.Goals as goal

pub returns : goal.returns
returns c = hears_bytes _ _ _ _ _ c.in_ok-feed.ensures.reading c.in_ok-feed.ensures.unread c.in_ok-hear_all.ensures
