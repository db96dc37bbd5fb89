-- What is left of turns behind a message.
use Rattle.std.specs.Prelude.{ℕ, ◌-◌, Option, Some, None, if◌then◌else◌, nat_lt}
use Rattle.wire.specs.declared.message.Message.{Message}
use Rattle.pair_meaning.specs.Rules.{needs}

-- of so many, none where it needs more
abbrev pub left_behind : ℕ → Message → Option ℕ
left_behind left x = if nat_lt left (needs x) then None else Some (left - needs x)
