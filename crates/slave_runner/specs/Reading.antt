-- The pieces of a boot among frames.
use Rattle.std.specs.Prelude.{ℕ, List, [], ◌∷◌, ◌++◌, Option, Some, None}
use Rattle.wire.specs.declared.message.Message.{Message}
use Rattle.wire.specs.declared.message.Message.TheVariants as message
use Rattle.wire.specs.Frames.{Ending, open_end, bad_frame_at, too_long_at}
use Rattle.slave_runner.specs.Rules.{Stopped, still_open, at_rule, too_long, bad_boot}

-- the piece of a boot that a message is
abbrev pub piece_in : Message → Option (List ℕ)
piece_in (message.Boot piece) = Some piece
piece_in (message.Call turns function depth wants body) = None
piece_in (message.Emit turns bytes) = None
piece_in (message.Exit turns status) = None
piece_in (message.Trap turns kind span) = None
piece_in (message.Park turns) = None
piece_in (message.Reply body) = None

-- where frames stop before the boot is whole: one that spells no message is no piece
abbrev pub before_boot : Ending → Stopped
before_boot open_end = still_open
before_boot (bad_frame_at place) = at_rule bad_boot 0
before_boot (too_long_at place) = at_rule too_long place

-- the bytes before the empty piece, and the frames behind it; or it stops before
pub data Pieces : Type 0 where
  whole : List ℕ → List (Message × ℕ) → Pieces
  stops : Stopped → Pieces

abbrev pub read_piece : List ℕ → Option (List ℕ) → List (Message × ℕ) → (List ℕ → Pieces) → Pieces
read_piece bytes None behind more = stops (at_rule bad_boot 0)
read_piece bytes (Some []) behind more = whole bytes behind
read_piece bytes (Some (b ∷ piece)) behind more = more (bytes ++ b ∷ piece)

-- what frames come to behind pieces with these bytes
abbrev pub read_pieces : List ℕ → List (Message × ℕ) → Ending → Pieces
read_pieces bytes [] ending = stops (before_boot ending)
read_pieces bytes (x ∷ frames) ending = read_piece bytes (piece_in x.0) frames (λ more. read_pieces more frames ending)
