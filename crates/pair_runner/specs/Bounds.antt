-- How many frames a monitor handles, and how many bytes it is given.
use Rattle.std.specs.Prelude.{ℕ, suc, ◌+◌, ◌*◌, ◌≤◌, List, [], ◌∷◌}
use Rattle.pt_base.specs.declared.end.End.{End}
use Rattle.wire.specs.declared.message.Message.{Message}
use Rattle.wire.specs.declared.message.ReplyBody.{ReplyBody}
use Rattle.wire.specs.Limits.{longest_payload}
use Rattle.pair_protocol.specs.Sides.{Served, goes_on, ends, bad}
use Rattle.pair_meaning.specs.Monitors.{Monitor}
use Rattle.pair_meaning.specs.Rules.{PeerRule}
use Rattle.pair_meaning.specs.Serving.{serve}

-- a frame was handled, and those behind it where the monitor goes on
abbrev pub and_behind : Served Monitor ReplyBody End PeerRule → (Monitor → ℕ) → ℕ
and_behind (goes_on m reply bytes) rest = suc (rest m)
and_behind (ends bytes end) rest = 1
and_behind (bad rule) rest = 1

-- how many of these frames are handled: all up to the first at which the monitor doesn't go on
abbrev pub handled : Monitor → List (Message × ℕ) → ℕ
handled m [] = 0
handled m (x ∷ frames) = and_behind (serve m x.0) (λ m. handled m frames)

-- each frame behind which a monitor goes on takes a turn of its budget
abbrev pub FewAreHandled : Type 0
FewAreHandled = (m : Monitor) (frames : List (Message × ℕ)) → handled m frames ≤ m.budget + 1

-- the bytes of the longest frame
abbrev pub longest_frame : ℕ
longest_frame = 4 + longest_payload

-- so many bytes are asked for at once
abbrev pub most_at_once : ℕ
most_at_once = 65_536

-- With so many turns no more bytes are received: the longest frames, one for each turn and one more, and a piece.
abbrev pub most_received : ℕ → ℕ
most_received turns = (turns + 1) * longest_frame + most_at_once
