-- A hub: one program, and a monitor for each session that is open.
use Rattle.std.specs.Prelude.{◌≡◌, ◌≤◌, ◌<◌, ◌++◌, ℕ, suc, List, [], ◌∷◌, length, Bool, nat_eq, nat_le, Option, Some, None, ⊤}
use Rattle.std.specs.Map.{lookup, remove_entry, set_value}
use Rattle.runs.specs.State.{Hosts}
use Rattle.policy.specs.Verdicts.{Standing}
use Rattle.pt_core.specs.CodeTree.{MonitorTree}
use Rattle.pair_meaning.specs.Monitors.{Monitor}
use Rattle.pair_meaning.specs.Start.{monitor_start}
use Rattle.sessions.specs.declared.hub.TheConstants.{MOST_OPEN}

pub record Hub : Type 0 where
  -- what it was made with
  pub program : MonitorTree
  pub hosts : Hosts
  pub policy : Standing
  pub budget : ℕ
  -- so many sessions were opened, and these are open, by their numbers
  pub opened : ℕ
  pub seats : List (ℕ × Monitor)

abbrev pub is_full : Hub → Bool
is_full h = nat_le MOST_OPEN (length h.seats)

-- the monitor of this session, if it is open
abbrev pub monitor_at : Hub → ℕ → Option Monitor
monitor_at h s = lookup (nat_eq s) h.seats

-- with what a session of this input begins: its own store, globals, hosts, policy and turns
abbrev pub begun_with : Hub → List ℕ → Monitor
begun_with h input = monitor_start h.program h.hosts input h.policy h.budget

abbrev pub with_opened : List ℕ → Hub → Hub
with_opened input h = record h { opened = suc h.opened; seats = h.seats ++ (h.opened, begun_with h input) ∷ [] }

-- this session has this monitor from now on, or is closed
abbrev pub left_with : ℕ → Option Monitor → Hub → Hub
left_with s None h = record h { seats = remove_entry (nat_eq s) h.seats }
left_with s (Some m) h = record h { seats = set_value (nat_eq s) h.seats m }

-- nothing was opened
abbrev pub fresh : MonitorTree → Hosts → Standing → ℕ → Hub
fresh program hosts policy budget = record { program = program; hosts = hosts; policy = policy; budget = budget; opened = 0; seats = [] }

-- ---- what every hub keeps

-- the numbers rise, from this one on, and are below that one
abbrev pub Rise : {X : Type 0} → ℕ → ℕ → List (ℕ × X) → Type 0
Rise least end [] = ⊤
Rise least end (x ∷ xs) = (least ≤ x.0) × (x.0 < end) × Rise (suc x.0) end xs

-- The numbers of what is open rise and were given, and no more is open than may be.
pub record IsKept (h : Hub) : Type 0 where
  pub rising : Rise 0 h.opened h.seats
  pub few : length h.seats ≤ MOST_OPEN

-- ---- two hubs, one behind the other

-- Nothing but this session is changed. Every other one has the monitor that it had, so its store, its globals, its hosts, where its
-- policy stands and what it may still take; or it is closed as before.
pub record OthersStay (s : ℕ) (h next : Hub) : Type 0 where
  pub program : next.program ≡ h.program
  pub hosts : next.hosts ≡ h.hosts
  pub policy : next.policy ≡ h.policy
  pub budget : next.budget ≡ h.budget
  pub others : (t : ℕ) → (t ≡ s → ⊥) → monitor_at next t ≡ monitor_at h t
