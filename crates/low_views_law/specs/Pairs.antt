-- Two pairs of one boot, whose monitors a slave may know the same of.
use Rattle.std.specs.Prelude.{◌≡◌, ℕ, zero, suc, List, [], ◌∷◌, Option, Some, None, if◌then◌else◌}
use Rattle.pt_base.specs.declared.end.End.{End}
use Rattle.wire.specs.declared.message.Message.{Message}
use Rattle.pair_protocol.specs.Links.{front}
use Rattle.pair_protocol.specs.Pair.{Both, run, done, wrong, both_step, Who, Going, Pair, goes, stops, breaks, moves, pair_step}
use Rattle.pair_protocol.specs.Sides.{Mode, going, waits, over}
use Rattle.pair_meaning.specs.LowView.{declassified}
use Rattle.pair_meaning.specs.Monitors.{Monitor, low}
use Rattle.pair_meaning.specs.Pair.{the_sides}
use Rattle.pair_meaning.specs.Rules.{PeerRule}
use Rattle.pair_meaning.specs.Serving.{serve}
use Rattle.pair_meaning.specs.SlaveRun.{Slave, mode_of, slave_step}
use Rattle.low_views_law.specs.Alike.{WhereBothGoOn}

-- both tell the same numbers in answer to the message, if there is one and both go on
abbrev pub TellAlike : Monitor → Monitor → Option Message → Type 0
TellAlike m m' None = Unit {0}
TellAlike m m' (Some x) = WhereBothGoOn (serve m x) (serve m' x) (λ next next'. declassified m x ≡ declassified m' x)

-- ---- each message served at once

-- what the slave says in its next step
abbrev pub said_in : Mode → Slave → Option Message
said_in going x = (slave_step x).said
said_in waits x = None
said_in over x = None

abbrev pub StepTellsAlike : Both Slave Monitor End PeerRule → Both Slave Monitor End PeerRule → Type 0
StepTellsAlike (run x m bytes) (run x' m' bytes') = TellAlike m m' (said_in (mode_of x) x)
StepTellsAlike (run x m bytes) (done bytes' end) = Unit {0}
StepTellsAlike (run x m bytes) (wrong bytes' rule) = Unit {0}
StepTellsAlike (done bytes end) other = Unit {0}
StepTellsAlike (wrong bytes rule) other = Unit {0}

-- so in each of so many steps, as far as both go on
abbrev pub StepsTellAlike : ℕ → Both Slave Monitor End PeerRule → Both Slave Monitor End PeerRule → Type 0
StepsTellAlike zero p p' = Unit {0}
StepsTellAlike (suc k) p p' = StepTellsAlike p p' × StepsTellAlike k (both_step the_sides p) (both_step the_sides p')

-- as far as both go on, the slaves are equal, with their memory and all that they are going to do, and so are the views
abbrev pub AreSeenAlike : Both Slave Monitor End PeerRule → Both Slave Monitor End PeerRule → Type 0
AreSeenAlike (run x m bytes) (run x' m' bytes') = (x ≡ x') × (low m ≡ low m')
AreSeenAlike (run x m bytes) (done bytes' end) = Unit {0}
AreSeenAlike (run x m bytes) (wrong bytes' rule) = Unit {0}
AreSeenAlike (done bytes end) other = Unit {0}
AreSeenAlike (wrong bytes rule) other = Unit {0}

-- ---- with a queue, under a window and the answers of a chooser

-- the message that is served in this turn
abbrev pub served_in : ℕ → Who → Going Slave Monitor Message → Option Message
served_in window who p = if moves the_sides window who p.slave p.queue then None else front p.queue

abbrev pub TurnTellsAlike : ℕ → Who → Pair Slave Monitor Message End PeerRule → Pair Slave Monitor Message End PeerRule → Type 0
TurnTellsAlike window who (goes p) (goes p') = TellAlike p.monitor p'.monitor (served_in window who p)
TurnTellsAlike window who (goes p) (stops bytes end) = Unit {0}
TurnTellsAlike window who (goes p) (breaks bytes rule) = Unit {0}
TurnTellsAlike window who (stops bytes end) other = Unit {0}
TurnTellsAlike window who (breaks bytes rule) other = Unit {0}

-- so in each turn, as far as both go on
abbrev pub TurnsTellAlike : ℕ → List Who → Pair Slave Monitor Message End PeerRule → Pair Slave Monitor Message End PeerRule → Type 0
TurnsTellAlike window [] p p' = Unit {0}
TurnsTellAlike window (who ∷ answers) p p' = TurnTellsAlike window who p p' × TurnsTellAlike window answers (pair_step the_sides window who p) (pair_step the_sides window who p')

-- what a slave is, what it asked for that isn't served yet, and what it may know
pub record HasSameView (p p' : Going Slave Monitor Message) : Type 0 where
  pub slave : p.slave ≡ p'.slave
  pub queue : p.queue ≡ p'.queue
  pub view : low p.monitor ≡ low p'.monitor

-- as far as both go on
abbrev pub ArePairsSeenAlike : Pair Slave Monitor Message End PeerRule → Pair Slave Monitor Message End PeerRule → Type 0
ArePairsSeenAlike (goes p) (goes p') = HasSameView p p'
ArePairsSeenAlike (goes p) (stops bytes end) = Unit {0}
ArePairsSeenAlike (goes p) (breaks bytes rule) = Unit {0}
ArePairsSeenAlike (stops bytes end) other = Unit {0}
ArePairsSeenAlike (breaks bytes rule) other = Unit {0}
