-- Streams of frames: the messages from the front on, and what stands where no further one does.
use Rattle.std.specs.Prelude.{◌≡◌, ℕ, ◌<◌, ◌≤◌, ◌+◌, ◌^◌, List, [], ◌∷◌, ◌++◌, length, ◌⊎◌}
use Rattle.wire.specs.declared.message.Message.{Message}
use Rattle.wire.specs.Spelling.{four_bytes, spelling}
use Rattle.wire.specs.Limits.{longest_payload, Spells}

-- the bytes break off within a frame, and its length is no longer than the limit
pub record EndsInside (bytes : List ℕ) : Type 0 where
  pub size : ℕ
  pub part : List ℕ
  pub are : bytes ≡ four_bytes size ++ part
  pub in_range : size ≤ longest_payload
  pub short : length part < size

-- there are no bytes, or they end inside a frame: inside its length or behind it
abbrev pub IsUnfinished : List ℕ → Type 0
IsUnfinished bytes = (length bytes < 4) ⊎ EndsInside bytes

-- the bytes begin with a whole frame whose length is in range
pub record HoldsFrame (bytes : List ℕ) : Type 0 where
  pub body : List ℕ
  pub rest : List ℕ
  pub are : bytes ≡ four_bytes (length body) ++ (body ++ rest)
  pub in_range : length body ≤ longest_payload

-- the bytes begin with a whole frame that spells no message
pub record BeginsBad (bytes : List ℕ) : Type 0 where
  pub frame : HoldsFrame bytes
  pub no_message : (m : Message) → Spells m (four_bytes (length frame.body) ++ frame.body) → ⊥

-- the bytes begin with a length over the limit
pub record BeginsTooLong (bytes : List ℕ) : Type 0 where
  pub size : ℕ
  pub rest : List ℕ
  pub are : bytes ≡ four_bytes size ++ rest
  pub fits : size < 2 ^ 32
  pub over : longest_payload < size

-- the bytes begin with the spelling of the message
pub record Begins (m : Message) (bytes rest : List ℕ) : Type 0 where
  pub spelled : Spells m (spelling m)
  pub are : bytes ≡ spelling m ++ rest

-- where the messages of a stream stop: at an unfinished frame or the end, or at a faulty frame's place
pub data Ending : Type 0 where
  open_end : Ending
  bad_frame_at : ℕ → Ending
  too_long_at : ℕ → Ending

abbrev pub Stops : Ending → ℕ → List ℕ → Type 0
Stops open_end at bytes = IsUnfinished bytes
Stops (bad_frame_at place) at bytes = (place ≡ at) × BeginsBad bytes
Stops (too_long_at place) at bytes = (place ≡ at) × BeginsTooLong bytes

-- The bytes, whose first has the place at, are the frames of these messages, each with its frame's place,
-- and then there is no further message for the reason that the ending says.
abbrev pub IsStream : ℕ → List ℕ → List (Message × ℕ) → Ending → Type 0
IsStream at bytes [] ending = Stops ending at bytes
IsStream at bytes (given ∷ more) ending =
    (rest : List ℕ) × Begins given.0 bytes rest × (given.1 ≡ at) × IsStream (at + length (spelling given.0)) rest more ending
