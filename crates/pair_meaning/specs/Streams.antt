-- A monitor over the frames that a link gives.
use Rattle.std.specs.Prelude.{ℕ, List, [], ◌∷◌, ◌++◌, if◌then◌else◌}
use Rattle.pt_base.specs.declared.end.End.{End}
use Rattle.wire.specs.declared.message.Message.{Message}
use Rattle.wire.specs.declared.message.ReplyBody.{ReplyBody}
use Rattle.wire.specs.Frames.{Ending, open_end, bad_frame_at, too_long_at}
use Rattle.policy.specs.Answers.{function_of}
use Rattle.policy.specs.Verdicts.{Call}
use Rattle.pair_protocol.specs.Sides.{Served, goes_on, ends, bad}
use Rattle.pair_protocol.specs.SlaveRun.{listed}
use Rattle.pair_meaning.specs.Monitors.{Monitor}
use Rattle.pair_meaning.specs.Rules.{PeerRule, bad_frame, too_long, Admitted, Verdict, breaks, writes, makes, plain_of}
use Rattle.pair_meaning.specs.Rules as rule
use Rattle.pair_meaning.specs.Serving.{serve, verdict_on}

-- where it stopped: it would serve more; the run's end; or a rule that is broken by the frame at this place
pub data Stopped : Type 0 where
  still_open : Stopped
  at_end : End → Stopped
  at_rule : PeerRule → ℕ → Stopped

-- the bytes written, the replies sent, and where it stopped
pub record Talk : Type 0 where
  pub bytes : List ℕ
  pub replies : List ReplyBody
  pub stopped : Stopped

abbrev pub stopped_at : Ending → Stopped
stopped_at open_end = still_open
stopped_at (bad_frame_at place) = at_rule bad_frame place
stopped_at (too_long_at place) = at_rule too_long place

abbrev pub after_frame : ℕ → Served Monitor ReplyBody End PeerRule → (Monitor → Talk) → Talk
after_frame place (goes_on m reply bytes) rest = record { bytes = bytes ++ (rest m).bytes; replies = listed reply ++ (rest m).replies; stopped = (rest m).stopped }
after_frame place (ends bytes end) rest = record { bytes = bytes; replies = []; stopped = at_end end }
after_frame place (bad rule) rest = record { bytes = []; replies = []; stopped = at_rule rule place }

-- messages with their places are served up to an end or a broken rule, else up to where the frames stop
abbrev pub serve_frames : Monitor → List (Message × ℕ) → Ending → Talk
serve_frames m [] ending = record { bytes = []; replies = []; stopped = stopped_at ending }
serve_frames m (x ∷ frames) ending = after_frame x.1 (serve m x.0) (λ m. serve_frames m frames ending)

-- ---- the guarded calls that were made

abbrev pub guarded_by : Admitted → List Call
guarded_by call = if call.signature.privileged then record { function = function_of call.function; plain = plain_of call.signature call.body } ∷ [] else []

abbrev pub guarded_in : Verdict → List Call
guarded_in (breaks rule) = []
guarded_in (rule.ends end) = []
guarded_in (writes bytes) = []
guarded_in (makes call) = guarded_by call

-- behind a message that was served
abbrev pub behind : Served Monitor ReplyBody End PeerRule → (Monitor → List Call) → List Call
behind (goes_on m reply bytes) rest = rest m
behind (ends bytes end) rest = []
behind (bad rule) rest = []

-- the guarded calls of these messages that are made, in turn
abbrev pub guarded_calls : Monitor → List Message → List Call
guarded_calls m [] = []
guarded_calls m (x ∷ xs) = guarded_in (verdict_on m x) ++ behind (serve m x) (λ m. guarded_calls m xs)
