-- What the code says of the front of a stream.
use Rattle.std.specs.Prelude.{◌≡◌, ℕ, ◌≤◌, List, length, drop}
use Rattle.wire.specs.declared.message.Message.{Message}
use Rattle.wire.specs.declared.reading.front.Front.{Front}
use Rattle.wire.specs.declared.reading.front.Front.TheVariants as front
use Rattle.wire.specs.Spelling.{spelling}
use Rattle.wire.specs.Frames.{IsUnfinished, BeginsBad, BeginsTooLong, Begins}

-- the first bytes, so many, are the spelling of the message
pub record IsFramed (m : Message) (size : ℕ) (bytes : List ℕ) : Type 0 where
  pub begins : Begins m bytes (drop size bytes)
  pub whole : size ≡ length (spelling m)
  pub inside : size ≤ length bytes

abbrev pub IsFront : Front → List ℕ → Type 0
IsFront front.Unfinished bytes = IsUnfinished bytes
IsFront front.TooLong bytes = BeginsTooLong bytes
IsFront front.BadFrame bytes = BeginsBad bytes
IsFront (front.Framed m size) bytes = IsFramed m size bytes
