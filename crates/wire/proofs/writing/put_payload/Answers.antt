use Rattle.std.proofs.Common.{subst}
use Rattle.wire.specs.Limits.{KeepsLimits}
use Rattle.wire.proofs.PayloadLaws.{reply_is_short}
use Rattle.wire.proofs.writing.put_payload.Goals as goal

pub put_reply-requires : goal.put_reply-requires
put_reply-requires c = reply_is_short c.in-Reply.body (subst KeepsLimits c.in-Reply.is c.requires)
