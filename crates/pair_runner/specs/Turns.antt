-- What one turn over a link comes to: the frame at the front is served, or more bytes are asked for.
use Rattle.std.specs.Prelude.{◌≡◌, ◌≢◌, ◌≤◌, ℕ, List, [], ◌∷◌, ◌++◌, length, Option, Some, None, Result, Ok, Err, IfSome, ◌⊎◌}
use Rattle.pt_base.specs.declared.end.End.{End}
use Rattle.pt_base.specs.Talk.{Event, gave}
use Rattle.wire.specs.declared.message.Message.{Message}
use Rattle.wire.specs.declared.message.ReplyBody.{ReplyBody}
use Rattle.wire.specs.Frames.{IsUnfinished, BeginsBad, BeginsTooLong}
use Rattle.wire.specs.Limits.{IsBytes}
use Rattle.wire.specs.Steps.{Takes}
use Rattle.wire.specs.View.{ReaderView}
use Rattle.pair_protocol.specs.Sides.{Served, goes_on, ends, bad}
use Rattle.pair_protocol.specs.SlaveRun.{listed}
use Rattle.pair_meaning.specs.Monitors.{Monitor}
use Rattle.pair_meaning.specs.Rules.{PeerRule, number_of_rule}
use Rattle.pair_meaning.specs.Serving.{serve}
use Rattle.pair_runner.specs.declared.fault.RunFault.{RunFault}
use Rattle.pair_runner.specs.declared.fault.RunFault.TheVariants.{LinkFailed, SinkFailed, BadPeer, PeerEnded, Memory}
use Rattle.pair_runner.specs.Bounds.{most_at_once}
use Rattle.pair_runner.specs.Sending.{IsSpelled, sent_of, reply_frames}

-- It broke off for this reason, which isn't the peer's fault.
abbrev pub Stuck : RunFault → Type 0 → Type 0
Stuck LinkFailed so = so
Stuck SinkFailed so = so
Stuck (BadPeer number offset) so = ⊥
Stuck PeerEnded so = ⊥
Stuck Memory so = so

-- a message broke a rule, unless memory ran out
abbrev pub Refused : (List Event → List ℕ → Type 0) → (List ℕ → List ℕ → List ℕ → Type 0) → ℕ → PeerRule → RunFault → Type 0
Refused moves breaks place rule LinkFailed = ⊥
Refused moves breaks place rule SinkFailed = ⊥
Refused moves breaks place rule (BadPeer number offset) = (number ≡ number_of_rule rule) × (offset ≡ place) × moves [] []
Refused moves breaks place rule PeerEnded = ⊥
Refused moves breaks place rule Memory = breaks [] [] []

-- a message that came to this was answered, up to its end or to where that broke off
abbrev pub Answered : (List Event → List ℕ → Type 0) → (List ℕ → List ℕ → List ℕ → Type 0) → (Monitor → Type 0) → ℕ → Served Monitor ReplyBody End PeerRule → Result (Option End) RunFault → Type 0
Answered moves breaks is place (goes_on m reply bytes) (Ok None) = is m × IfSome reply IsSpelled × moves (sent_of reply) bytes
Answered moves breaks is place (goes_on m reply bytes) (Ok (Some e)) = ⊥
Answered moves breaks is place (goes_on m reply bytes) (Err e) = Stuck e (breaks [] (reply_frames (listed reply)) bytes)
Answered moves breaks is place (ends bytes end) (Ok None) = ⊥
Answered moves breaks is place (ends bytes end) (Ok (Some e)) = (e ≡ end) × moves [] bytes
Answered moves breaks is place (ends bytes end) (Err e) = Stuck e (breaks [] [] bytes)
Answered moves breaks is place (bad rule) (Ok e) = ⊥
Answered moves breaks is place (bad rule) (Err e) = Refused moves breaks place rule e

-- more bytes came, no more than were asked for
abbrev pub Fed : (List Event → List ℕ → Type 0) → ReaderView → ReaderView → Type 0
Fed moves before after = (piece : List ℕ) × (piece ≢ []) × IsBytes piece × (length piece ≤ most_at_once) × (after ≡ record before { unread = before.unread ++ piece }) × moves (gave piece ∷ []) []

-- none came: it was the peer's end, or that broke off
abbrev pub Unfed : (List Event → List ℕ → Type 0) → (List ℕ → List ℕ → List ℕ → Type 0) → RunFault → Type 0
Unfed moves breaks LinkFailed = breaks [] [] []
Unfed moves breaks SinkFailed = ⊥
Unfed moves breaks (BadPeer number offset) = ⊥
Unfed moves breaks PeerEnded = moves (gave [] ∷ []) []
Unfed moves breaks Memory = (piece : List ℕ) × IsBytes piece × (length piece ≤ most_at_once) × breaks piece [] []

-- more bytes were asked for
abbrev pub Heard : (List Event → List ℕ → Type 0) → (List ℕ → List ℕ → List ℕ → Type 0) → ReaderView → ReaderView → Result (Option End) RunFault → Type 0
Heard moves breaks before after (Ok None) = Fed moves before after
Heard moves breaks before after (Ok (Some e)) = ⊥
Heard moves breaks before after (Err e) = Unfed moves breaks e

-- the reader answered a fault, or wanted memory
abbrev pub Faulty : (List Event → List ℕ → Type 0) → (List ℕ → List ℕ → List ℕ → Type 0) → ReaderView → Result (Option End) RunFault → Type 0
Faulty moves breaks before result =
    ((result ≡ Err (BadPeer 1 before.offset)) × BeginsBad before.unread × moves [] [])
    ⊎ (((result ≡ Err (BadPeer 2 before.offset)) × BeginsTooLong before.unread × moves [] []) ⊎ ((result ≡ Err Memory) × breaks [] [] []))

-- a message of the peer was served
pub record Serving (moves : List Event → List ℕ → Type 0) (breaks : List ℕ → List ℕ → List ℕ → Type 0) (is : Monitor → Type 0) (m : Monitor) (before after : ReaderView) (result : Result (Option End) RunFault) : Type 0 where
  pub message : Message
  pub place : ℕ
  pub takes : Takes before (message, place) after
  pub answered : Answered moves breaks is place (serve m message) result

-- what a turn came to, where the reader had no fault
abbrev pub Turned : (List Event → List ℕ → Type 0) → (List ℕ → List ℕ → List ℕ → Type 0) → (Monitor → Type 0) → Monitor → ReaderView → ReaderView → Result (Option End) RunFault → Type 0
Turned moves breaks is m before after result =
    Serving moves breaks is m before after result ⊎ ((IsUnfinished before.unread × is m × Heard moves breaks before after result) ⊎ Faulty moves breaks before result)
