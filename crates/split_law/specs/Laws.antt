-- The programs of both halves are well formed.
use Rattle.std.specs.Prelude.{◌↔◌, ℕ, Contains, IsTrue}
use Rattle.pt_base.specs.declared.ids.FnId.{FnId}
use Rattle.pt_base.specs.declared.ids.GlobalId.{GlobalId}
use Rattle.typed_tree.specs.TypedTree.{TypedTree}
use Rattle.typed_tree.specs.WellFormed.{is_well_formed}
use Rattle.reach.specs.Contexts.{InMonitor, InSlave, IsOwned, globals_in}
use Rattle.flow_rules.specs.declared.accepted.Accepted.{Accepted}
use Rattle.flow_rules.specs.Faults.{IsAccepted}
use Rattle.pt_core.specs.WellFormed.{is_well_formed_monitor, is_well_formed_slave}
use Rattle.lowering.specs.Functions.{functions_from}
use Rattle.splitter.specs.Halves.{Halves, halves_of, monitor_of, slave_of}

-- the lists are those of the program's halves
pub record AreHalves (t : TypedTree) (h : Halves) : Type 0 where
  pub slave : (n : ℕ) → Contains h.slave n ↔ InSlave t (record { 0 = n })
  pub monitor : (n : ℕ) → Contains h.monitor n ↔ InMonitor t (record { 0 = n })
  pub owned : (n : ℕ) → Contains h.owned n ↔ IsOwned t (record { 0 = n })

-- the monitor's code names no global that the slave owns
abbrev pub SharesNothing : TypedTree → Type 0
SharesNothing t = (f : FnId) (g : GlobalId) → InMonitor t f → Contains (globals_in t f) g → IsOwned t g → ⊥

abbrev pub SlavesAreWellFormed : Type 0
SlavesAreWellFormed = (t : TypedTree) (h : Halves) → IsTrue (is_well_formed t) → AreHalves t h → IsTrue (is_well_formed_slave (slave_of t h (functions_from t 0 t.functions)))

abbrev pub MonitorsAreWellFormed : Type 0
MonitorsAreWellFormed = (t : TypedTree) (h : Halves) → IsTrue (is_well_formed t) → AreHalves t h → SharesNothing t → IsTrue (is_well_formed_monitor (monitor_of t h (functions_from t 0 t.functions)))

-- what is kept of an accepted program are its halves, and they share no global
abbrev pub AcceptedShareNothing : Type 0
AcceptedShareNothing = (t : TypedTree) (a : Accepted) → IsAccepted t a → AreHalves t (halves_of a.sides) × SharesNothing t
