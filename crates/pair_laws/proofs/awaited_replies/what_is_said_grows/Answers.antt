use Rattle.pair_laws.proofs.AwaitedRepliesAwaited.{what_is_said_grows}
use Rattle.pair_laws.proofs.awaited_replies.what_is_said_grows.Goals as goal

pub returns : goal.returns
returns c = what_is_said_grows
