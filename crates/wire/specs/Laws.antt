-- The laws of spellings, streams and readers.
use Rattle.std.specs.Prelude.{◌≡◌, ◌≢◌, ℕ, ◌+◌, ◌*◌, ◌≤◌, List, [], ◌++◌, length, Option, IfSome, Result, Err}
use Rattle.wire.specs.declared.message.Message.{Message}
use Rattle.wire.specs.declared.message.Message.TheVariants as message
use Rattle.wire.specs.declared.fault.FrameFault.{FrameFault}
use Rattle.wire.specs.declared.fault.FrameFault.TheVariants as fault
use Rattle.wire.specs.declared.fault.WireError.{WireError}
use Rattle.wire.specs.declared.fault.WireError.TheVariants as error
use Rattle.wire.specs.Limits.{FitsTypes, KeepsCounts, KeepsLimits, IsBytes, Spells, longest_payload}
use Rattle.wire.specs.Frames.{IsUnfinished, Ending, open_end, bad_frame_at, too_long_at, IsStream}
use Rattle.wire.specs.View.{ReaderView, fresh}
use Rattle.wire.specs.Steps.{Answers, Step, Runs, all_fed, all_given}

-- a message within all limits is spelled in exactly one way, any other in none
pub record OneSpelling (m : Message) : Type 0 where
  pub some : FitsTypes m → KeepsLimits m → (bytes : List ℕ) × Spells m bytes
  pub only : (a b : List ℕ) → Spells m a → Spells m b → a ≡ b
  pub none : (a : List ℕ) → Spells m a → FitsTypes m × KeepsLimits m

abbrev pub EachHasOneSpelling : Type 0
EachHasOneSpelling = (m : Message) → OneSpelling m

-- the counts suffice where no long bytes and not very many cells are sent
abbrev pub IsShort : Message → Type 0
IsShort (message.Boot piece) = Unit {0}
IsShort (message.Call turns function depth wants body) = Unit {0}
IsShort (message.Emit turns bytes) = length bytes + 9 ≤ longest_payload
IsShort (message.Exit turns status) = Unit {0}
IsShort (message.Trap turns kind span) = Unit {0}
IsShort (message.Park turns) = Unit {0}
IsShort (message.Reply body) = 17 * length body.cells + 23 ≤ longest_payload

abbrev pub CountsSuffice : Type 0
CountsSuffice = (m : Message) → KeepsCounts m → IsShort m → KeepsLimits m

-- two messages with one spelling are one message
abbrev pub EachHasOneReading : Type 0
EachHasOneReading = (m k : Message) (bytes : List ℕ) → Spells m bytes → Spells k bytes → m ≡ k

-- where a spelling begins another, they are the same
abbrev pub NoneBeginsAnother : Type 0
NoneBeginsAnother = (m k : Message) (bytes more : List ℕ) → Spells m bytes → Spells k (bytes ++ more) → more ≡ []

-- bytes are one stream
pub record OneStream (bytes : List ℕ) : Type 0 where
  pub messages : List (Message × ℕ)
  pub ending : Ending
  pub are : IsStream 0 bytes messages ending
  pub only : (others : List (Message × ℕ)) (other : Ending) → IsStream 0 bytes others other → (others ≡ messages) × (other ≡ ending)

abbrev pub EachHasOneStream : Type 0
EachHasOneStream = (bytes : List ℕ) → IsBytes bytes → OneStream bytes

-- but for want of memory, next has one answer
abbrev pub OneAnswer : Type 0
OneAnswer =
    (before first second : ReaderView) (a b : Result (Option (Message × ℕ)) WireError) → Answers before a first → Answers before b second
    → a ≢ Err error.Memory → b ≢ Err error.Memory → (a ≡ b) × (first ≡ second)

abbrev pub ending_at : FrameFault → ℕ → Ending
ending_at fault.BadFrame place = bad_frame_at place
ending_at fault.TooLong place = too_long_at place

-- The messages given are the first of the stream, and what is unread has the others. There are none where what is
-- unread is unfinished, and none where a fault is kept, which is then the stream's.
pub record Follows (after : ReaderView) (given messages : List (Message × ℕ)) (ending : Ending) : Type 0 where
  pub more : List (Message × ℕ)
  pub first : messages ≡ given ++ more
  pub left : IsStream after.offset after.unread more ending
  pub at_end : IsUnfinished after.unread → (more ≡ []) × (ending ≡ open_end)
  pub at_fault : IfSome after.fault (λ kind. (more ≡ []) × (ending ≡ ending_at kind after.offset))

-- however the bytes are cut, a reader gives the first messages of the stream of all bytes fed
abbrev pub AnyCutting : Type 0
AnyCutting =
    (steps : List Step) (after : ReaderView) (messages : List (Message × ℕ)) (ending : Ending)
    → Runs steps fresh after → IsStream 0 (all_fed steps) messages ending → Follows after (all_given steps) messages ending
