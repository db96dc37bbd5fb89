-- What serving frames has to do with serving messages, and with the talk in which they come.
use Rattle.std.specs.Prelude.{◌≡◌, ℕ, List, ◌++◌, map}
use Rattle.pt_base.specs.declared.end.End.{End}
use Rattle.pt_base.specs.Talk.{Event}
use Rattle.wire.specs.declared.message.Message.{Message}
use Rattle.wire.specs.declared.message.Message.TheVariants as message
use Rattle.wire.specs.declared.message.ReplyBody.{ReplyBody}
use Rattle.wire.specs.Frames.{Ending, IsStream}
use Rattle.wire.specs.Limits.{KeepsCounts, KeepsLimits}
use Rattle.std.specs.Prelude.{Some}
use Rattle.pair_protocol.specs.Sides.{goes_on}
use Rattle.pair_protocol.specs.Serving.{Stop, still, ended, broken}
use Rattle.pair_meaning.specs.Monitors.{Monitor}
use Rattle.pair_meaning.specs.Pair.{serve_all}
use Rattle.pair_meaning.specs.Rules.{PeerRule}
use Rattle.pair_meaning.specs.Serving.{serve}
use Rattle.pair_meaning.specs.Streams.{Stopped, at_end, at_rule, stopped_at, Talk, serve_frames}
use Rattle.pair_runner.specs.Sending.{given_in}
use Rattle.pair_runner.specs.Serves.{Serves}

-- where frames stop, said of their messages
abbrev pub StopsAlike : Ending → Stop Monitor End PeerRule → Stopped → Type 0
StopsAlike ending (still m) stopped = stopped ≡ stopped_at ending
StopsAlike ending (ended end) stopped = stopped ≡ at_end end
StopsAlike ending (broken rule) stopped = (place : ℕ) × (stopped ≡ at_rule rule place)

-- frames come to what their messages come to
pub record AreMessages (m : Monitor) (frames : List (Message × ℕ)) (ending : Ending) : Type 0 where
  pub bytes : (serve_frames m frames ending).bytes ≡ (serve_all m (map (λ x. x.0) frames)).bytes
  pub replies : (serve_frames m frames ending).replies ≡ (serve_all m (map (λ x. x.0) frames)).replies
  pub stop : StopsAlike ending (serve_all m (map (λ x. x.0) frames)).stop (serve_frames m frames ending).stopped

abbrev pub FramesAreMessages : Type 0
FramesAreMessages = (m : Monitor) (frames : List (Message × ℕ)) (ending : Ending) → AreMessages m frames ending

-- A talk comes to what serving the frames of its bytes comes to, whatever the pieces are.
abbrev pub TalksAreFrames : Type 0
TalksAreFrames = (m : Monitor) (at : ℕ) (bytes : List ℕ) (talk : List Event) (served : Talk) (frames : List (Message × ℕ)) (ending : Ending) →
    Serves m at bytes talk served → IsStream at (bytes ++ given_in talk) frames ending → serve_frames m frames ending ≡ served

-- The reply to a message within the counts of the format can be sent.
abbrev pub RepliesAreSpelled : Type 0
RepliesAreSpelled = (m next : Monitor) (x : Message) (reply : ReplyBody) (bytes : List ℕ) → KeepsCounts x → serve m x ≡ goes_on next (Some reply) bytes → KeepsLimits (message.Reply reply)
