-- A slave's steps are bounded by what it begins with, whatever replies it is given.
use Rattle.std.specs.Prelude.{◌≡◌, ◌⊎◌, ℕ, suc, List}
use Rattle.pt_core.specs.CodeTree.{ProgramTree}
use Rattle.pt_core.specs.Steps.{Machine, Gate}
use Rattle.pair_protocol.specs.Sides.{going, waits, over, Sides}
use Rattle.pair_protocol.specs.SlaveRun.{slave_at, IsLongest}
use Rattle.core_steps_law.specs.MachinesRoom.{room}
pub use Rattle.core_steps_law.specs.MachinesBounded.{goes, longest_run, IsLeft, GoesOn}

-- A slave keeps a machine: its step is one of the machine's under some gate from some state, and it is over
-- where that neither moved nor asked; a reply changes of the machine the blocks and what it awaits, or the
-- slave is over.
pub record KeepsMachine (S M X R E Q G : Type 0) (g : Sides S M X R E Q) (program : S → ProgramTree) (machine : S → Machine) : Type 0 where
  pub gate : S → Gate G
  pub heard : S → G
  pub steps : (s : S) → g.mode s ≡ going → (g.mode (g.step s).slave ≡ over) ⊎ GoesOn (program s) (gate s) (heard s) (machine s) (machine (g.step s).slave)
  pub takes : (r : R) (s : S) → g.mode s ≡ waits → (g.mode (g.take r s) ≡ over) ⊎ IsLeft (machine s) (machine (g.take r s))
  pub same_code : (s : S) → program (g.step s).slave ≡ program s
  pub keeps_code : (r : R) (s : S) → program (g.take r s) ≡ program s

abbrev pub longest : {S : Type 0} → (S → ProgramTree) → (S → Machine) → S → ℕ
longest program machine s = suc (room (program s) (machine s))

-- it makes no more steps than these, and after these it is over or waits
pub record HasLongest (S M X R E Q : Type 0) (g : Sides S M X R E Q) (n : ℕ) (s : S) : Type 0 where
  pub bound : IsLongest g n s
  pub stops : (replies : List R) → g.mode (slave_at g n s replies).slave ≡ going → ⊥

abbrev pub SlavesAreBounded : (S M X R E Q G : Type 0) → Type 0
SlavesAreBounded S M X R E Q G = (g : Sides S M X R E Q) (program : S → ProgramTree) (machine : S → Machine) → KeepsMachine S M X R E Q G g program machine →
    (s : S) → HasLongest S M X R E Q g (longest program machine s) s
