-- The replies that a slave takes from frames.
use Rattle.std.specs.Prelude.{ℕ, Bool, List, [], ◌∷◌, ◌++◌, Option, Some, None, if◌then◌else◌}
use Rattle.wire.specs.declared.message.Message.{Message}
use Rattle.wire.specs.declared.message.Message.TheVariants as message
use Rattle.wire.specs.declared.message.ReplyBody.{ReplyBody}
use Rattle.wire.specs.Frames.{Ending, open_end, bad_frame_at, too_long_at}
use Rattle.pt_core.specs.CodeTree.{BootTree}
use Rattle.pair_meaning.specs.SlaveRun.{Slave, longest, mode_of}
use Rattle.pair_meaning.specs.Pair.{slave_at}
use Rattle.pair_meaning.specs.Peer.{is_awaited}
use Rattle.slave_runner.specs.Rules.{Stopped, has_ended, still_open, at_rule, too_long, bad_reply}
pub use Rattle.pair_protocol.specs.Sides.{is_waiting as is_wait}

-- the reply that a message is
abbrev pub reply_of : Message → Option ReplyBody
reply_of (message.Boot piece) = None
reply_of (message.Call turns function depth wants body) = None
reply_of (message.Emit turns bytes) = None
reply_of (message.Exit turns status) = None
reply_of (message.Trap turns kind span) = None
reply_of (message.Park turns) = None
reply_of (message.Reply body) = Some body

-- the slave of a boot with these replies, where it goes no further
abbrev pub slave_with : BootTree → List ReplyBody → Slave
slave_with b replies = (slave_at b replies (longest b)).slave

abbrev pub is_waiting : Slave → Bool
is_waiting x = is_wait (mode_of x)

-- the replies that it took, and where it stopped
pub record Heard : Type 0 where
  pub replies : List ReplyBody
  pub stopped : Stopped

abbrev pub heard : List ReplyBody → Stopped → Heard
heard replies stopped = record { replies = replies; stopped = stopped }

-- where frames stop behind the boot: one that spells no message is no reply
abbrev pub behind_boot : Ending → Stopped
behind_boot open_end = still_open
behind_boot (bad_frame_at place) = at_rule bad_reply place
behind_boot (too_long_at place) = at_rule too_long place

-- a frame at this place answers the call that it waits for
abbrev pub hear_reply : BootTree → List ReplyBody → ℕ → Option ReplyBody → (List ReplyBody → Heard) → Heard
hear_reply b replies place None more = heard replies (at_rule bad_reply place)
hear_reply b replies place (Some reply) more =
    if is_awaited (slave_with b replies) reply then more (replies ++ reply ∷ []) else heard replies (at_rule bad_reply place)

-- What frames come to for the slave with these replies. Where it has ended they aren't looked at.
abbrev pub hear_replies : BootTree → List ReplyBody → List (Message × ℕ) → Ending → Heard
hear_replies b replies [] ending = heard replies (if is_waiting (slave_with b replies) then behind_boot ending else has_ended)
hear_replies b replies (x ∷ frames) ending =
    if is_waiting (slave_with b replies)
    then hear_reply b replies x.1 (reply_of x.0) (λ more. hear_replies b more frames ending)
    else heard replies has_ended
