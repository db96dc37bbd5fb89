-- What stands at the front of a reader, and the bytes that come where that is less than a frame.
use Rattle.std.specs.Prelude.{◌≡◌, ◌≢◌, ℕ, Bool, true, false, List, [], ◌∷◌, ◌++◌, Option, Some, None, Result, Ok, Err}
use Rattle.pt_base.specs.Talk.{Event, gave}
use Rattle.wire.specs.Frames.{IsUnfinished, BeginsBad, BeginsTooLong}
use Rattle.wire.specs.Limits.{IsBytes}
use Rattle.wire.specs.Steps.{Takes}
use Rattle.wire.specs.View.{ReaderView}
use Rattle.slave_runner.specs.declared.fault.WorkFault.{WorkFault}
use Rattle.slave_runner.specs.declared.fault.WorkFault.TheVariants.{LinkFailed, BadPeer, PeerEnded, Memory}
use Rattle.slave_runner.specs.declared.hearing.Front.{Front}
use Rattle.slave_runner.specs.declared.hearing.Front.TheVariants.{Unfinished, Framed, Bad}

-- the front of a reader without a fault, and what it is then
abbrev pub IsFront : ReaderView → Result Front WorkFault → ReaderView → Type 0
IsFront before (Ok Unfinished) after = IsUnfinished before.unread × (after ≡ before)
IsFront before (Ok (Framed message place)) after = Takes before (message, place) after
IsFront before (Ok (Bad place)) after = BeginsBad before.unread × (place ≡ before.offset)
IsFront before (Err LinkFailed) after = ⊥
IsFront before (Err (BadPeer number place)) after = (number ≡ 2) × (place ≡ before.offset) × BeginsTooLong before.unread
IsFront before (Err PeerEnded) after = ⊥
IsFront before (Err Memory) after = Unit {0}

-- more bytes came
abbrev pub Fed : (List Event → Type 0) → ReaderView → ReaderView → Type 0
Fed talks before after = (piece : List ℕ) × (piece ≢ []) × IsBytes piece × (after ≡ record before { unread = before.unread ++ piece }) × talks (gave piece ∷ [])

-- none came: it was the peer's end, or that broke off
abbrev pub Unfed : (List Event → Type 0) → (List ℕ → List ℕ → Type 0) → WorkFault → Type 0
Unfed talks parts LinkFailed = parts [] []
Unfed talks parts (BadPeer number place) = ⊥
Unfed talks parts PeerEnded = talks (gave [] ∷ [])
Unfed talks parts Memory = (piece : List ℕ) × IsBytes piece × parts piece []

-- a piece was added, or it is the empty one; where it is none that breaks a rule
abbrev pub Pieced : Option (List ℕ) → List ℕ → List ℕ → Result Bool WorkFault → Type 0
Pieced None before after (Ok done) = ⊥
Pieced None before after (Err e) = e ≡ BadPeer 11 0
Pieced (Some []) before after (Ok done) = (done ≡ true) × (after ≡ before)
Pieced (Some []) before after (Err e) = ⊥
Pieced (Some (b ∷ piece)) before after (Ok done) = (done ≡ false) × (after ≡ before ++ b ∷ piece)
Pieced (Some (b ∷ piece)) before after (Err e) = e ≡ Memory
