-- The pair of a slave and a monitor: the two sides, of which all that is said of any two sides is said.
use Rattle.std.specs.Prelude.{ℕ, Bool, false, List}
use Rattle.pt_base.specs.declared.end.End.{End}
use Rattle.wire.specs.declared.message.Message.{Message}
use Rattle.wire.specs.declared.message.Message.TheVariants as message
use Rattle.wire.specs.declared.message.ReplyBody.{ReplyBody}
use Rattle.pt_core.specs.CodeTree.{BootTree}
use Rattle.pair_protocol.specs.Sides.{Sides}
use Rattle.pair_protocol.specs.SlaveRun as run
use Rattle.pair_protocol.specs.SlaveRun.{At}
use Rattle.pair_protocol.specs.Serving as serving
use Rattle.pair_protocol.specs.Serving.{All}
use Rattle.pair_protocol.specs.Pair as pair
use Rattle.pair_protocol.specs.Pair.{Both, Pair, Who}
use Rattle.pair_meaning.specs.Monitors.{Monitor}
use Rattle.pair_meaning.specs.Rules.{PeerRule}
use Rattle.pair_meaning.specs.Serving.{serve}
use Rattle.pair_meaning.specs.SlaveRun.{Slave, slave_of, mode_of, slave_step, take, longest}

-- a call says whether it wants a reply; nothing else does
abbrev pub wants_reply : Message → Bool
wants_reply (message.Boot piece) = false
wants_reply (message.Call turns function depth wants body) = wants
wants_reply (message.Emit turns bytes) = false
wants_reply (message.Exit turns status) = false
wants_reply (message.Trap turns kind span) = false
wants_reply (message.Park turns) = false
wants_reply (message.Reply body) = false

abbrev pub the_sides : Sides Slave Monitor Message ReplyBody End PeerRule
the_sides = record { mode = mode_of; step = slave_step; take = take; wants = wants_reply; serve = serve }

-- ---- a slave under a list of replies

-- the slave of a boot after at most so many steps: where it is, what it said, and the replies that it hasn't taken
abbrev pub slave_at : BootTree → List ReplyBody → ℕ → At Slave Message ReplyBody
slave_at b replies k = run.slave_at the_sides k (slave_of b) replies

-- all that it says, up to its last message or to a call whose reply isn't in the list
abbrev pub said : BootTree → List ReplyBody → List Message
said b replies = run.said the_sides (longest b) (slave_of b) replies

-- ---- a monitor over a list of messages

-- the replies, the bytes, and where it stopped
abbrev pub serve_all : Monitor → List Message → All Monitor ReplyBody End PeerRule
serve_all m xs = serving.serve_all the_sides m xs

-- ---- both

-- the pair in which each message is served at once, after so many steps
abbrev pub both : BootTree → Monitor → ℕ → Both Slave Monitor End PeerRule
both b m k = pair.both the_sides (slave_of b) m k

-- the pair with a queue, under a window and the answers of a chooser
abbrev pub pair_steps : BootTree → Monitor → ℕ → List Who → Pair Slave Monitor Message End PeerRule
pair_steps b m window answers = pair.pair_steps the_sides (slave_of b) m window answers

-- the steps under these answers come to this end with the last answer, and not before
abbrev pub IsWhole : BootTree → Monitor → ℕ → List Who → List ℕ → End → Type 0
IsWhole b m window answers bytes end = pair.IsWhole the_sides (slave_of b) m window answers bytes end
