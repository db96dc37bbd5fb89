-- Whole runs of a pair with a peer, and what the peer sees of them.
use Rattle.std.specs.Prelude.{◌≡◌, ℕ, List, [], ◌++◌}
use Rattle.boot_fields.specs.Limits.{Spells}
use Rattle.pt_base.specs.declared.end.End.{End}
use Rattle.pt_base.specs.Talk.{Event}
use Rattle.pt_base.specs.Told.{IsFrontOf}
use Rattle.pt_core.specs.CodeTree.{BootTree}
use Rattle.pair_meaning.specs.Monitors.{Monitor}
use Rattle.pair_meaning.specs.Peer.{boot_frames}
use Rattle.pair_meaning.specs.Streams.{Stopped, still_open, at_end, Talk}
use Rattle.pair_runner.specs.Sending.{boot_talk, given_in, reply_frames, sent_in}
use Rattle.pair_runner.specs.Serves.{Serves}
use Rattle.low_views_law.specs.Alike.{IsOwn}

-- A run with a peer that gives this stream and then its end, whatever it is sent. It is sent the boot's bytes, and the monitor serves
-- what it gives: a first part of the stream, and all of it where the peer's end is heard.
pub record IsRun (b : BootTree) (m : Monitor) (stream : List ℕ) : Type 0 where
  pub boot : List ℕ
  pub spelled : Spells b boot
  pub talk : List Event
  pub served : Talk
  pub serves : Serves m 0 [] talk served
  pub given : IsFrontOf (given_in talk) stream
  pub whole : served.stopped ≡ still_open → given_in talk ≡ stream

-- all that the peer is sent
abbrev pub sent_by : {b : BootTree} {m : Monitor} {stream : List ℕ} → IsRun b m stream → List ℕ
sent_by run = sent_in (boot_talk run.boot ++ run.talk)

-- the frames of a boot, and then those of the replies in a talk
abbrev pub frames_of : List ℕ → Talk → List ℕ
frames_of boot talk = boot_frames boot ++ reply_frames talk.replies

-- Both peers are sent the same, and both runs stop alike, by the same rule at the same place or with the same end. Or one run comes to
-- a trap or is spent, and what its peer is sent begins what the other's is.
pub data AreSeenAlike (sent sent' : List ℕ) (stopped stopped' : Stopped) : Type 0 where
  alike : sent ≡ sent' → stopped ≡ stopped' → AreSeenAlike sent sent' stopped stopped'
  first_stops : (end : End) → IsOwn end → stopped ≡ at_end end → IsFrontOf sent sent' → AreSeenAlike sent sent' stopped stopped'
  second_stops : (end : End) → IsOwn end → stopped' ≡ at_end end → IsFrontOf sent' sent → AreSeenAlike sent sent' stopped stopped'
