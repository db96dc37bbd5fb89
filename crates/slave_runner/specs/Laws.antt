-- The last message.
use Rattle.std.specs.Prelude.{◌≡◌, ℕ, List, [], ◌∷◌}
use Rattle.wire.specs.declared.message.Message.{Message}
use Rattle.wire.specs.declared.message.Message.TheVariants as message
use Rattle.wire.specs.Frames.{Ending}
use Rattle.pt_core.specs.CodeTree.{BootTree}
use Rattle.pair_meaning.specs.Pair.{said}
use Rattle.slave_runner.specs.Replies.{hear_replies}
use Rattle.slave_runner.specs.Rules.{has_ended}

-- Exit, Trap or Park
abbrev pub IsEnd : Message → Type 0
IsEnd (message.Boot piece) = ⊥
IsEnd (message.Call turns function depth wants body) = ⊥
IsEnd (message.Emit turns bytes) = ⊥
IsEnd (message.Exit turns status) = Unit {0}
IsEnd (message.Trap turns kind span) = Unit {0}
IsEnd (message.Park turns) = Unit {0}
IsEnd (message.Reply body) = ⊥

-- there is a last message, and it is one of these
abbrev pub HasEnd : List Message → Type 0
HasEnd [] = ⊥
HasEnd (x ∷ []) = IsEnd x
HasEnd (x ∷ (y ∷ rest)) = HasEnd (y ∷ rest)

-- Where a slave has ended over the frames behind its boot, the last that it says is its end.
abbrev pub LastMessagesEnd : Type 0
LastMessagesEnd = (b : BootTree) (frames : List (Message × ℕ)) (ending : Ending) → (hear_replies b [] frames ending).stopped ≡ has_ended →
    HasEnd (said b (hear_replies b [] frames ending).replies)
