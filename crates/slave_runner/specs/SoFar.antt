-- How far a slave's side has come.
use Rattle.std.specs.Prelude.{◌≡◌, ℕ, List, [], ◌++◌, Bool, true, false, None}
use Rattle.pt_base.specs.Talk.{Event}
use Rattle.wire.specs.declared.message.Message.{Message}
use Rattle.wire.specs.declared.message.ReplyBody.{ReplyBody}
use Rattle.wire.specs.Frames.{Ending, IsStream}
use Rattle.wire.specs.Limits.{IsBytes}
use Rattle.wire.specs.View.{ReaderView}
use Rattle.pt_core.specs.CodeTree.{BootTree}
use Rattle.pair_protocol.specs.SlaveRun.{came}
use Rattle.pair_meaning.specs.SlaveRun.{Slave}
use Rattle.pair_meaning.specs.Pair.{slave_at}
use Rattle.pair_runner.specs.Sending.{given_in, sent_in}
use Rattle.slave_runner.specs.Reading.{whole, read_pieces}
use Rattle.slave_runner.specs.Replies.{hear_replies}
use Rattle.slave_runner.specs.Comes.{IsBoot, spellings, InTurn}
use Rattle.slave_runner.specs.Outcomes.{Stops}
use Rattle.slave_runner.specs.Rules.{has_ended}

-- a talk of bytes, in turn
pub record Talked (talks : List Event → Type 0) (talk : List Event) : Type 0 where
  pub talked : talks talk
  pub turns : InTurn [] [] talk
  pub given : IsBytes (given_in talk)

-- whatever comes later, these frames and what the reader has yet come to the same, by what the first and the last come to
abbrev pub Follow : {A : Type 0} → List Event → ReaderView → (List (Message × ℕ) → Ending → A) → (List (Message × ℕ) → Ending → A) → Type 0
Follow talk v all left = (later : List ℕ) (frames : List (Message × ℕ)) (ending : Ending) → IsStream 0 (given_in talk ++ later) frames ending →
    (more : List (Message × ℕ)) × IsStream v.offset (v.unread ++ later) more ending × (all frames ending ≡ left more ending)

-- pieces with these bytes were read, and the empty one wasn't
pub record Begun (talks : List Event → Type 0) (bytes : List ℕ) (v : ReaderView) : Type 0 where
  pub talk : List Event
  pub so : Talked talks talk
  pub sound : v.fault ≡ None
  pub silent : sent_in talk ≡ []
  pub follow : Follow talk v (read_pieces []) (read_pieces bytes)

-- the empty one was
pub record Whole (talks : List Event → Type 0) (bytes : List ℕ) (v : ReaderView) : Type 0 where
  pub talk : List Event
  pub so : Talked talks talk
  pub sound : v.fault ≡ None
  pub silent : sent_in talk ≡ []
  pub follow : Follow talk v (read_pieces []) (λ more ending. whole bytes more)

abbrev pub Read : Bool → (List Event → Type 0) → List ℕ → ReaderView → Type 0
Read true talks bytes v = Whole talks bytes v
Read false talks bytes v = Begun talks bytes v

-- The slave of this boot is this one after so many steps with these replies. What it said was sent, but for the bytes that wait.
pub record Working (talks : List Event → Type 0) (b : BootTree) (x : Slave) (waiting : List ℕ) (v : ReaderView) : Type 0 where
  pub talk : List Event
  pub so : Talked talks talk
  pub sound : v.fault ≡ None
  pub bytes : List ℕ
  pub boot : IsBoot bytes b
  pub steps : ℕ
  pub replies : List ReplyBody
  pub messages : List Message
  pub came_to : slave_at b replies steps ≡ came x messages [] steps
  pub sends : sent_in talk ++ waiting ≡ spellings messages
  pub follow : (later : List ℕ) (frames : List (Message × ℕ)) (ending : Ending) → IsStream 0 (given_in talk ++ later) frames ending →
      (more : List (Message × ℕ)) × (behind : List (Message × ℕ)) × IsStream v.offset (v.unread ++ later) more ending
      × (read_pieces [] frames ending ≡ whole bytes behind) × (hear_replies b [] behind ending ≡ hear_replies b replies more ending)

-- it works on as a slave that is this one
abbrev pub WorksOn : (List Event → Type 0) → (Slave → Type 0) → BootTree → List ℕ → ReaderView → Type 0
WorksOn talks is b waiting v = (x : Slave) × is x × Working talks b x waiting v

-- so it does, or it has ended
abbrev pub Worked : Bool → (List Event → Type 0) → (Slave → Type 0) → BootTree → List ℕ → ReaderView → Type 0
Worked true talks is b waiting v = Stops talks has_ended
Worked false talks is b waiting v = WorksOn talks is b waiting v
