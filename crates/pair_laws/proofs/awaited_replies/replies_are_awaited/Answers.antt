use Rattle.pair_invariant_law.specs.Slaves.{Stays}
use Rattle.pair_laws.proofs.AwaitedRepliesAwaited.{replies_are_awaited}
use Rattle.pair_laws.proofs.awaited_replies.replies_are_awaited.Goals as goal

pub returns : goal.returns
returns c = replies_are_awaited Stays
