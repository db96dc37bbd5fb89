-- Messages that come to a broken rule or to a refusal, alone and in a stream.
use Rattle.std.specs.Prelude.{◌≡◌, ◌⊎◌, ℕ, List, [], ◌∷◌, ◌++◌, map}
use Rattle.pt_base.specs.declared.end.End.{End}
use Rattle.pt_base.specs.declared.end.End.TheVariants.{Exit, Trapped, Spent, Refused}
use Rattle.wire.specs.declared.message.Message.{Message}
use Rattle.wire.specs.declared.message.ReplyBody.{ReplyBody}
use Rattle.wire.specs.Frames.{Ending}
use Rattle.pair_protocol.specs.Sides.{Served, goes_on, ends, bad}
use Rattle.pair_protocol.specs.Serving.{still, all}
use Rattle.pair_meaning.specs.Monitors.{Monitor}
use Rattle.pair_meaning.specs.Rules.{PeerRule, Verdict, breaks}
use Rattle.pair_meaning.specs.Rules as rule
use Rattle.pair_meaning.specs.Serving.{serve}
use Rattle.pair_meaning.specs.Streams.{Stopped, still_open, at_end, at_rule, Talk, stopped_at}
use Rattle.pair_meaning.specs.Pair.{serve_all}

-- what serving a message comes to
abbrev pub Outcome : Type 0
Outcome = Served Monitor ReplyBody End PeerRule

-- ---- one message

abbrev pub IsEndOf : Verdict → List ℕ → End → Type 0
IsEndOf verdict bytes (Exit status) = Unit {0}
IsEndOf verdict bytes (Trapped kind span) = Unit {0}
IsEndOf verdict bytes Spent = Unit {0}
IsEndOf verdict bytes (Refused number function state) = (bytes ≡ []) × (verdict ≡ rule.ends (Refused number function state))

-- a broken rule and a refusal are the verdict itself: no work was begun, and nothing is written
abbrev pub IsVerdict : Verdict → Outcome → Type 0
IsVerdict verdict (goes_on next reply bytes) = Unit {0}
IsVerdict verdict (ends bytes end) = IsEndOf verdict bytes end
IsVerdict verdict (bad rule) = verdict ≡ breaks rule

-- ---- a stream

abbrev pub messages_of : List (Message × ℕ) → List Message
messages_of frames = map (λ x. x.0) frames

-- All these messages were served, and the monitor is as they left it. What was written and replied is theirs.
pub record AreServed (m : Monitor) (messages : List Message) (talk : Talk) : Type 0 where
  pub left : Monitor
  pub served : serve_all m messages ≡ all talk.replies talk.bytes (still left)

-- The message at this place comes to this outcome, and those before it alone were served.
pub record Unserved (m : Monitor) (frames : List (Message × ℕ)) (talk : Talk) (place : ℕ) (outcome : Outcome) : Type 0 where
  pub before : List (Message × ℕ)
  pub message : Message
  pub behind : List (Message × ℕ)
  pub are : frames ≡ before ++ (message, place) ∷ behind
  pub first : AreServed m (messages_of before) talk
  pub comes_to : serve first.left message ≡ outcome

abbrev pub IsUnservedAtEnd : Monitor → List (Message × ℕ) → Talk → End → Type 0
IsUnservedAtEnd m frames talk (Exit status) = Unit {0}
IsUnservedAtEnd m frames talk (Trapped kind span) = Unit {0}
IsUnservedAtEnd m frames talk Spent = Unit {0}
IsUnservedAtEnd m frames talk (Refused number function state) = (place : ℕ) × Unserved m frames talk place (ends [] (Refused number function state))

-- Where the talk stops by a rule or by a refusal, it does so at a message that isn't served; or all were served, and the bytes
-- behind them are no frame.
abbrev pub IsUnservedAt : Monitor → List (Message × ℕ) → Ending → Talk → Stopped → Type 0
IsUnservedAt m frames ending talk still_open = Unit {0}
IsUnservedAt m frames ending talk (at_end end) = IsUnservedAtEnd m frames talk end
IsUnservedAt m frames ending talk (at_rule rule place) =
    Unserved m frames talk place (bad rule) ⊎ ((stopped_at ending ≡ at_rule rule place) × AreServed m (messages_of frames) talk)
