-- What the calls of a reader answer and leave.
use Rattle.std.specs.Prelude.{◌≡◌, ℕ, ◌+◌, List, [], ◌∷◌, ◌++◌, length, Option, Some, None, Result, Ok, Err, ◌⊎◌}
use Rattle.wire.specs.declared.message.Message.{Message}
use Rattle.wire.specs.declared.fault.FrameFault.{FrameFault}
use Rattle.wire.specs.declared.fault.FrameFault.TheVariants as fault
use Rattle.wire.specs.declared.fault.WireError.{WireError}
use Rattle.wire.specs.declared.fault.WireError.TheVariants as error
use Rattle.wire.specs.Spelling.{spelling}
use Rattle.wire.specs.Frames.{IsUnfinished, HoldsFrame, BeginsBad, BeginsTooLong, Begins}
use Rattle.wire.specs.View.{ReaderView}

-- a message is given with its place, and its frame is taken off the front
pub record Takes (before : ReaderView) (given : Message × ℕ) (after : ReaderView) : Type 0 where
  pub sound : before.fault ≡ None
  pub begins : Begins given.0 before.unread after.unread
  pub place : given.1 ≡ before.offset
  pub offset : after.offset ≡ before.offset + length (spelling given.0)
  pub stays_sound : after.fault ≡ None

-- the fault was kept or stands at the front, and is kept from then on
pub record Refuses (FaultBegins : List ℕ → Type 0) (kind : FrameFault) (before : ReaderView) (at : ℕ) (after : ReaderView) : Type 0 where
  pub place : at ≡ before.offset
  pub why : (before.fault ≡ Some kind) ⊎ ((before.fault ≡ None) × FaultBegins before.unread)
  pub keeps : after ≡ record before { fault = Some kind }

-- what a call of next answers and leaves
abbrev pub Answers : ReaderView → Result (Option (Message × ℕ)) WireError → ReaderView → Type 0
Answers before (Ok (Some given)) after = Takes before given after
Answers before (Ok None) after = (before.fault ≡ None) × IsUnfinished before.unread × (after ≡ before)
Answers before (Err (error.BadFrame place)) after = Refuses BeginsBad fault.BadFrame before place after
Answers before (Err (error.TooLong place)) after = Refuses BeginsTooLong fault.TooLong before place after
Answers before (Err error.Memory) after = (before.fault ≡ None) × HoldsFrame before.unread × (after ≡ before)

-- ---- whole runs of a reader

-- a piece was fed, or next gave an answer
pub data Step : Type 0 where
  fed : List ℕ → Step
  answered : Result (Option (Message × ℕ)) WireError → Step

abbrev pub Leads : Step → ReaderView → ReaderView → Type 0
Leads (fed piece) before after = after ≡ record before { unread = before.unread ++ piece }
Leads (answered answer) before after = Answers before answer after

-- the steps one after the other
abbrev pub Runs : List Step → ReaderView → ReaderView → Type 0
Runs [] before after = before ≡ after
Runs (step ∷ steps) before after = (between : ReaderView) × Leads step before between × Runs steps between after

-- all bytes that the steps fed
abbrev pub all_fed : List Step → List ℕ
all_fed [] = []
all_fed (fed piece ∷ steps) = piece ++ all_fed steps
all_fed (answered answer ∷ steps) = all_fed steps

abbrev pub message_of : Result (Option (Message × ℕ)) WireError → List (Message × ℕ)
message_of (Ok (Some given)) = given ∷ []
message_of (Ok None) = []
message_of (Err e) = []

-- all messages that the steps gave, with their places
abbrev pub all_given : List Step → List (Message × ℕ)
all_given [] = []
all_given (fed piece ∷ steps) = all_given steps
all_given (answered answer ∷ steps) = message_of answer ++ all_given steps
