-- Frames come to what their messages come to.
use Rattle.std.proofs.Common.{◌≡◌, ℕ, List, [], ◌∷◌, ◌++◌, map, Option, refl, ap}
use Rattle.pt_base.specs.declared.end.End.{End}
use Rattle.wire.specs.declared.message.Message.{Message}
use Rattle.wire.specs.declared.message.ReplyBody.{ReplyBody}
use Rattle.wire.specs.Frames.{Ending}
use Rattle.pair_protocol.specs.Sides.{Served, goes_on, ends, bad}
use Rattle.pair_protocol.specs.Serving.{All, after}
use Rattle.pair_protocol.specs.SlaveRun.{listed}
use Rattle.pair_meaning.specs.Monitors.{Monitor}
use Rattle.pair_meaning.specs.Pair.{serve_all}
use Rattle.pair_meaning.specs.Rules.{PeerRule}
use Rattle.pair_meaning.specs.Serving.{serve}
use Rattle.pair_meaning.specs.Streams.{Talk, after_frame, serve_frames}
use Rattle.pair_runner.specs.Laws.{StopsAlike, AreMessages}

-- what comes of frames, and of messages
record Alike (ending : Ending) (t : Talk) (a : All Monitor ReplyBody End PeerRule) : Type 0 where
  bytes : t.bytes ≡ a.bytes
  replies : t.replies ≡ a.replies
  stop : StopsAlike ending a.stop t.stopped

alike : (m : Monitor) (frames : List (Message × ℕ)) (ending : Ending) → Alike ending (serve_frames m frames ending) (serve_all m (map (λ x. x.0) frames))
alike m [] ending = record { bytes = refl; replies = refl; stop = refl }
alike m (x ∷ frames) ending = go (λ n. alike n frames ending) (serve m x.0)
  where
    onward : (next : Monitor) (reply : Option ReplyBody) (bytes : List ℕ) → Alike ending (serve_frames next frames ending) (serve_all next (map (λ x. x.0) frames)) →
        Alike ending (after_frame x.1 (goes_on next reply bytes) (λ m. serve_frames m frames ending)) (after (goes_on next reply bytes) (λ m. serve_all m (map (λ x. x.0) frames)))
    onward next reply bytes h = record { bytes = ap (λ l. bytes ++ l) h.bytes; replies = ap (λ l. listed reply ++ l) h.replies; stop = h.stop }

    go : ((n : Monitor) → Alike ending (serve_frames n frames ending) (serve_all n (map (λ x. x.0) frames))) → (served : Served Monitor ReplyBody End PeerRule) → Alike ending (after_frame x.1 served (λ m. serve_frames m frames ending)) (after served (λ m. serve_all m (map (λ x. x.0) frames)))
    go same (goes_on next reply bytes) = onward next reply bytes (same next)
    go same (ends bytes end) = record { bytes = refl; replies = refl; stop = refl }
    go same (bad rule) = record { bytes = refl; replies = refl; stop = (x.1, refl) }

pub frames_are_messages : (m : Monitor) (frames : List (Message × ℕ)) (ending : Ending) → AreMessages m frames ending
frames_are_messages m frames ending = let h = alike m frames ending in record { bytes = h.bytes; replies = h.replies; stop = h.stop }
