-- What a slave's side comes to.
use Rattle.std.specs.Prelude.{◌≡◌, ◌⊎◌, ℕ, List, [], ◌∷◌, ◌++◌}
use Rattle.pt_base.specs.Talk.{Event, gave}
use Rattle.wire.specs.declared.message.Message.{Message}
use Rattle.wire.specs.declared.message.ReplyBody.{ReplyBody}
use Rattle.wire.specs.Frames.{Ending, IsStream}
use Rattle.pt_core.specs.CodeTree.{BootTree}
use Rattle.pair_meaning.specs.Pair.{said}
use Rattle.pair_runner.specs.Sending.{given_in, sent_in}
use Rattle.slave_runner.specs.declared.fault.WorkFault.{WorkFault}
use Rattle.slave_runner.specs.declared.fault.WorkFault.TheVariants.{LinkFailed, BadPeer, PeerEnded, Memory}
use Rattle.slave_runner.specs.Rules.{ParentRule, number_of_rule, Stopped, still_open, at_rule}
use Rattle.slave_runner.specs.Reading.{whole, read_pieces}
use Rattle.slave_runner.specs.Replies.{hear_replies}
use Rattle.slave_runner.specs.Comes.{IsBoot, spellings, Comes, InTurn}

-- It went so far as the bytes given let it. What was sent is what their frames come to, and so is where it stopped; and it asked
-- in turn.
pub record Stops (talks : List Event → Type 0) (stopped : Stopped) : Type 0 where
  pub talk : List Event
  pub talked : talks talk
  pub turns : InTurn [] [] talk
  pub frames : List (Message × ℕ)
  pub ending : Ending
  pub stream : IsStream 0 (given_in talk) frames ending
  pub comes : Comes frames ending (sent_in talk) stopped

-- a boot was read, and a first part sent of what its slave says with the first of the replies
pub record PartOf (part : List ℕ → Type 0) (frames : List (Message × ℕ)) (ending : Ending) : Type 0 where
  pub bytes : List ℕ
  pub behind : List (Message × ℕ)
  pub pieces : read_pieces [] frames ending ≡ whole bytes behind
  pub boot : BootTree
  pub is_boot : IsBoot bytes boot
  pub replies : List ReplyBody
  pub later : List ReplyBody
  pub read : (hear_replies boot [] behind ending).replies ≡ replies ++ later
  pub sent : part (spellings (said boot replies))

-- It broke off, and had sent nothing or a first part.
pub record BreaksOff (parts : List ℕ → List ℕ → Type 0) : Type 0 where
  pub given : List ℕ
  pub frames : List (Message × ℕ)
  pub ending : Ending
  pub stream : IsStream 0 given frames ending
  pub broke : parts given [] ⊎ PartOf (parts given) frames ending

-- the peer's end came behind it
abbrev pub then_the_end : (List Event → Type 0) → List Event → Type 0
then_the_end talks talk = talks (talk ++ gave [] ∷ [])

-- a rule is broken at that place; the peer ended where more would be read; or it broke off
abbrev pub IsRefused : (List Event → Type 0) → (List ℕ → List ℕ → Type 0) → WorkFault → Type 0
IsRefused talks parts LinkFailed = BreaksOff parts
IsRefused talks parts (BadPeer number place) = (r : ParentRule) × (number ≡ number_of_rule r) × Stops talks (at_rule r place)
IsRefused talks parts PeerEnded = Stops (then_the_end talks) still_open
IsRefused talks parts Memory = BreaksOff parts
