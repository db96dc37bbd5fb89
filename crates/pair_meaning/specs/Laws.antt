-- Slaves and monitors are two sides.
use Rattle.pt_base.specs.declared.end.End.{End}
use Rattle.wire.specs.declared.message.Message.{Message}
use Rattle.wire.specs.declared.message.ReplyBody.{ReplyBody}
use Rattle.pt_core.specs.CodeTree.{BootTree}
use Rattle.pair_protocol.specs.Sides.{AreFair}
use Rattle.pair_meaning.specs.BoundsLongest.{HasLongest}
use Rattle.pair_meaning.specs.Monitors.{Monitor}
use Rattle.pair_meaning.specs.Rules.{PeerRule}
use Rattle.pair_meaning.specs.SlaveRun.{Slave, slave_of, longest}
use Rattle.pair_meaning.specs.Pair.{the_sides}

-- A slave waits exactly behind a message that wants a reply, and not once it took one; a monitor replies exactly where
-- a reply is wanted.
abbrev pub TheSidesAreFair : Type 0
TheSidesAreFair = AreFair the_sides

-- Whatever replies it is given, a slave makes no more steps than its boot tells, and after these it waits or is over.
abbrev pub SlavesStop : Type 0
SlavesStop = (b : BootTree) → HasLongest Slave Monitor Message ReplyBody End PeerRule the_sides (longest b) (slave_of b)
