-- What goes over a link in memory.
use Rattle.std.specs.Prelude.{◌≡◌, ◌≢◌, ◌⊎◌, ℕ, List, [], ◌∷◌, ◌++◌, Some, None}
use Rattle.pt_base.specs.Talk.{Event, gave, took}
use Rattle.wire.specs.declared.message.Message.{Message}
use Rattle.wire.specs.declared.message.Message.TheVariants as message
use Rattle.wire.specs.Limits.{Spells}
use Rattle.wire.specs.Spelling.{spelling}
use Rattle.pair_protocol.specs.Links.{Half, half, Hands}
use Rattle.pair_protocol.specs.Pair.{Who}
use Rattle.pair_meaning.specs.SlaveRun.{Slave, take}
use Rattle.pair_meaning.specs.Pair.{the_sides}
use Rattle.pair_meaning.specs.Peer.{cut}

-- the slave with its queue, what is left to give of the message that was handed over last, and what was sent and isn't read yet
pub record Side : Type 0 where
  pub slave_half : Half Slave Message
  pub rest : List ℕ
  pub unread : List ℕ

-- it begins with this slave, and nothing was said or sent
abbrev pub begun : Slave → Side
begun x = record { slave_half = half x []; rest = []; unread = [] }

-- ---- what it is sent

-- the slave takes a reply; what else is sent is passed over
abbrev pub heard : Message → Half Slave Message → Half Slave Message
heard (message.Boot piece) h = h
heard (message.Call turns function depth wants body) h = h
heard (message.Emit turns bytes) h = h
heard (message.Exit turns status) h = h
heard (message.Trap turns kind span) h = h
heard (message.Park turns) h = h
heard (message.Reply body) h = half (take body h.slave) h.queue

abbrev pub all_heard : List Message → Half Slave Message → Half Slave Message
all_heard [] h = h
all_heard (x ∷ xs) h = all_heard xs (heard x h)

-- whole frames are heard in turn, and the beginning of one stays unread
abbrev pub hears : List ℕ → Side → Side
hears bytes s = record { slave_half = all_heard (cut (s.unread ++ bytes)).messages s.slave_half; rest = s.rest; unread = (cut (s.unread ++ bytes)).rest }

-- ---- what it gives

-- more of the message that was begun, and nobody is asked
pub record GivesMore (answers : List Who) (s : Side) (piece : List ℕ) (s' : Side) : Type 0 where
  pub unasked : answers ≡ []
  pub some : piece ≢ []
  pub rest : s.rest ≡ piece ++ s'.rest
  pub same : s'.slave_half ≡ s.slave_half
  pub unread : s'.unread ≡ s.unread

-- under these answers a message is handed over, of which these bytes are the first
pub record GivesFirst (window : ℕ) (answers : List Who) (s : Side) (piece : List ℕ) (s' : Side) : Type 0 where
  pub between : s.rest ≡ []
  pub said : Message
  pub hands : Hands the_sides window answers s.slave_half (Some said) s'.slave_half
  pub spelled : Spells said (spelling said)
  pub some : piece ≢ []
  pub rest : spelling said ≡ piece ++ s'.rest
  pub unread : s'.unread ≡ s.unread

-- under these answers the slave comes to where it says nothing more, and nothing waits
pub record GivesEnd (window : ℕ) (answers : List Who) (s : Side) (piece : List ℕ) (s' : Side) : Type 0 where
  pub between : s.rest ≡ []
  pub hands : Hands the_sides window answers s.slave_half None s'.slave_half
  pub none : piece ≡ []
  pub rest : s'.rest ≡ []
  pub unread : s'.unread ≡ s.unread

abbrev pub Gives : ℕ → List Who → Side → List ℕ → Side → Type 0
Gives window answers s piece s' = GivesMore answers s piece s' ⊎ (GivesFirst window answers s piece s' ⊎ GivesEnd window answers s piece s')

-- ---- a talk

-- under exactly these answers this talk leads from there to here
abbrev pub Runs : ℕ → List Who → Side → List Event → Side → Type 0
Runs window answers s [] s' = (answers ≡ []) × (s' ≡ s)
Runs window answers s (took bytes ∷ talk) s' = Runs window answers (hears bytes s) talk s'
Runs window answers s (gave piece ∷ talk) s' =
    (first : List Who) × (others : List Who) × (at : Side) × (answers ≡ first ++ others) × Gives window first s piece at × Runs window others at talk s'
