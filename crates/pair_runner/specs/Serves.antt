-- A monitor's talk with its peer.
use Rattle.std.specs.Prelude.{◌≡◌, ◌≢◌, ℕ, ◌+◌, List, [], ◌∷◌, ◌++◌, length, IfSome, Option}
use Rattle.pt_base.specs.declared.end.End.{End}
use Rattle.pt_base.specs.Talk.{Event, gave}
use Rattle.wire.specs.declared.message.Message.{Message}
use Rattle.wire.specs.declared.message.ReplyBody.{ReplyBody}
use Rattle.wire.specs.Frames.{IsUnfinished, BeginsBad, BeginsTooLong, Begins}
use Rattle.wire.specs.Spelling.{spelling}
use Rattle.pair_protocol.specs.Sides as sides
use Rattle.pair_protocol.specs.SlaveRun.{listed}
use Rattle.pair_meaning.specs.Monitors.{Monitor}
use Rattle.pair_meaning.specs.Rules.{PeerRule, bad_frame, too_long}
use Rattle.pair_meaning.specs.Serving.{serve}
use Rattle.pair_meaning.specs.Streams.{Stopped, still_open, at_end, at_rule, Talk}
use Rattle.pair_runner.specs.Sending.{IsSpelled, sent_of}

-- it stops there, having written these bytes
abbrev pub stops : List ℕ → Stopped → Talk
stops bytes stopped = record { bytes = bytes; replies = []; stopped = stopped }

-- these bytes and replies, and then the rest
abbrev pub before : List ℕ → List ReplyBody → Talk → Talk
before bytes replies rest = record { bytes = bytes ++ rest.bytes; replies = replies ++ rest.replies; stopped = rest.stopped }

-- From a monitor and bytes that it hasn't served yet, the first of which has this place, by these events to what it comes to.
-- A whole frame is served, and its reply sent, before more bytes are asked for.
pub data Serves : Monitor → ℕ → List ℕ → List Event → Talk → Type 0 where
  asks : {m : Monitor} {at : ℕ} {bytes piece : List ℕ} {talk : List Event} {rest : Talk} → IsUnfinished bytes → piece ≢ [] →
      Serves m at (bytes ++ piece) talk rest → Serves m at bytes (gave piece ∷ talk) rest
  goes_on : {m m' : Monitor} {at : ℕ} {bytes left written : List ℕ} {x : Message} {reply : Option ReplyBody} {talk : List Event} {rest : Talk} → Begins x bytes left → serve m x ≡ sides.goes_on m' reply written → IfSome reply IsSpelled →
      Serves m' (at + length (spelling x)) left talk rest → Serves m at bytes (sent_of reply ++ talk) (before written (listed reply) rest)
  ends : {m : Monitor} {at : ℕ} {bytes left written : List ℕ} {x : Message} {end : End} → Begins x bytes left → serve m x ≡ sides.ends written end → Serves m at bytes [] (stops written (at_end end))
  breaks : {m : Monitor} {at : ℕ} {bytes left : List ℕ} {x : Message} {rule : PeerRule} → Begins x bytes left → serve m x ≡ sides.bad rule → Serves m at bytes [] (stops [] (at_rule rule at))
  is_bad : {m : Monitor} {at : ℕ} {bytes : List ℕ} → BeginsBad bytes → Serves m at bytes [] (stops [] (at_rule bad_frame at))
  is_too_long : {m : Monitor} {at : ℕ} {bytes : List ℕ} → BeginsTooLong bytes → Serves m at bytes [] (stops [] (at_rule too_long at))
  hears_the_end : {m : Monitor} {at : ℕ} {bytes : List ℕ} → IsUnfinished bytes → Serves m at bytes (gave [] ∷ []) (stops [] still_open)
