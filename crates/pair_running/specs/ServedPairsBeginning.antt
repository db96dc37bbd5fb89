-- Where sessions begin.
use Rattle.std.specs.Prelude.{◌≡◌, ◌<◌, ◌^◌, ℕ, suc, List, [], ◌∷◌, All, None, length, ⊤}
use Rattle.host_table.specs.Hosts.{hosts_of}
use Rattle.host_table.specs.RunHosts.{models_of}
use Rattle.pt_core.specs.CodeTree.{BootTree, view_monitor, view_slave}
use Rattle.pair_meaning.specs.Monitors.{Monitor}
use Rattle.pair_meaning.specs.SlaveRun.{Slave, slave_of}
use Rattle.pair_meaning.specs.Start.{boot_of, monitor_start}
use Rattle.sessions.specs.declared.hub.Hub.{Hub as code_hub}
use Rattle.sessions.specs.Alone.{HubCall, after_calls, opens}
use Rattle.sessions.specs.Hubs.{Hub}
use Rattle.sessions.specs.IsHub.{IsHub}
use Rattle.slave_interp.specs.Slaves.{IsSlave}
use Rattle.pair_texts.specs.declared.sharing.Shared.{Shared}
use Rattle.pair_texts.specs.Several.{AreShared, AreShort, SharedTexts}
use Rattle.pair_running.specs.declared.served_pairs.beginning.Begun.{Begun}
use Rattle.pair_running.specs.declared.served_pairs.turning.Talk.{Talk}
use Rattle.pair_running.specs.LocalPairWhole.{alone}
use Rattle.pair_running.specs.ServedPairsTurns.{AreSeated, AreStartedEach}

abbrev pub AreOfBytes : List (List ℕ) → Type 0
AreOfBytes [] = ⊤
AreOfBytes (input ∷ inputs) = All (λ b. b < 256) input × AreOfBytes inputs

-- the texts pass, and this is what their pairs share
pub record MayBegin (t : SharedTexts) (x : Shared) (inputs : List (List ℕ)) : Type 0 where
  pub shared : AreShared t x
  pub short : AreShort inputs
  pub bytes : AreOfBytes inputs

-- what the slave and the monitor of an input start from
abbrev pub boot_in : Shared → ℕ → List ℕ → BootTree
boot_in x turns input = boot_of (view_slave x.slave) (models_of (hosts_of x.hosts).models) input turns

abbrev pub monitor_in : Shared → ℕ → List ℕ → Monitor
monitor_in x turns input = monitor_start (view_monitor x.monitor) (models_of (hosts_of x.hosts).models) input x.policy turns

-- the talk of this input begins, with this number
abbrev pub IsMade : Shared → ℕ → ℕ → List ℕ → Talk → Type 0
IsMade x turns n input y = (y.session ≡ n) × IsSlave y.slave (slave_of (boot_in x turns input)) × (y.written.items ≡ []) × (y.end ≡ None)

-- those of these inputs begin, numbered from there on
abbrev pub AreMade : Shared → ℕ → ℕ → List (List ℕ) → List Talk → Type 0
AreMade x turns n [] [] = ⊤
AreMade x turns n [] (y ∷ ys) = ⊥
AreMade x turns n (input ∷ inputs) [] = ⊥
AreMade x turns n (input ∷ inputs) (y ∷ ys) = IsMade x turns n input y × AreMade x turns (suc n) inputs ys

-- one more may be opened
pub record HasRoom (h : Hub) : Type 0 where
  pub few : length h.seats < 64
  pub numbered : suc h.opened < 2 ^ 32

-- nothing was opened
pub record IsFresh (h : Hub) : Type 0 where
  pub opened : h.opened ≡ 0
  pub seats : h.seats ≡ []

abbrev pub openings : List (List ℕ) → List HubCall
openings [] = []
openings (input ∷ inputs) = opens input ∷ openings inputs

-- a session was opened for each input
abbrev pub HaveOpened : code_hub → Hub → List (List ℕ) → Type 0
HaveOpened hub h inputs = IsHub hub (after_calls (openings inputs) h)

abbrev pub starts_of : Shared → ℕ → List (List ℕ) → List (Slave × Monitor)
starts_of x turns [] = []
starts_of x turns (input ∷ inputs) = (slave_of (boot_in x turns input), alone (monitor_in x turns input)) ∷ starts_of x turns inputs

-- each session begins with its input
pub record HaveBegun (t : SharedTexts) (x : Shared) (inputs : List (List ℕ)) (turns : ℕ) (begun : Begun) : Type 0 where
  pub h : Hub
  pub hub_is : IsHub begun.hub h
  pub seated : AreSeated h begun.talks.items (starts_of x turns inputs)
  pub started : AreStartedEach t turns inputs (starts_of x turns inputs)
  pub names_are : begun.names ≡ x.names
