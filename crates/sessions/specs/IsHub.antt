-- Which hub the code is.
use Rattle.std.specs.Prelude.{◌≡◌, ◌++◌, ℕ, List, [], ◌∷◌, IsTrue, ⊤}
use Rattle.host_table.specs.Hosts.{hosts_of}
use Rattle.host_table.specs.RunHosts.{models_of}
use Rattle.pt_core.specs.CodeTree.{view_monitor}
use Rattle.pt_core.specs.WellFormed.{is_well_formed_monitor}
use Rattle.pt_core.specs.declared.monitor.MonitorProgram.{MonitorProgram}
use Rattle.pair_meaning.specs.Monitors.{Monitor}
use Rattle.monitor_soundness_law.specs.ServingSound.{HostsServe}
use Rattle.monitor_interp.specs.Gates.{hosts_for}
use Rattle.monitor_interp.specs.Handling.{Goes, Ends, Breaks}
use Rattle.monitor_interp.specs.Monitors.{IsSeat}
use Rattle.monitor_interp.specs.declared.seat.Seat.{Seat}
use Rattle.monitor_interp.specs.declared.handled.Handled.{Handled}
use Rattle.sessions.specs.declared.hub.Hub as code
use Rattle.sessions.specs.Hubs.{Hub, IsKept}
use Rattle.sessions.specs.Alone.{Told, not_open, goes, ended, broke}

-- the seats are these monitors with this program, one for one
abbrev pub AreSeats : MonitorProgram → List (ℕ × Seat) → List (ℕ × Monitor) → Type 0
AreSeats p [] [] = ⊤
AreSeats p [] (m ∷ ms) = ⊥
AreSeats p (x ∷ xs) [] = ⊥
AreSeats p (x ∷ xs) (m ∷ ms) = (x.0 ≡ m.0) × IsSeat p x.1 m.1 × AreSeats p xs ms

-- It was made with this, has opened so many sessions, and these are open. A session may be begun with what it was made with.
pub record IsHub (x : code.Hub) (h : Hub) : Type 0 where
  pub program : view_monitor x.program ≡ h.program
  pub hosts : hosts_for h.program (models_of (hosts_of x.host).models) ≡ h.hosts
  pub policy : x.policy ≡ h.policy
  pub budget : x.budget ≡ h.budget
  pub opened : x.opened ≡ h.opened
  pub seats : AreSeats x.program x.seats.items h.seats
  pub kept : IsKept h
  pub well_formed : IsTrue (is_well_formed_monitor (view_monitor x.program))
  pub serve : HostsServe (view_monitor x.program) (models_of (hosts_of x.host).models)

-- what is answered, and what stood and stands in the list of bytes
abbrev pub Tells : Told → Handled → List ℕ → List ℕ → Type 0
Tells not_open r old new = ⊥
Tells (goes reply bytes) r old new = Goes reply r × (new ≡ old ++ bytes)
Tells (ended bytes end) r old new = Ends end r × (new ≡ old ++ bytes)
Tells (broke rule) r old new = Breaks rule r × (new ≡ old)
