-- What a step leaves of a gate's state.
use Rattle.std.specs.Prelude.{◌≡◌, ◌⊎◌, ℕ, suc, Bool, List, map}
use Rattle.block_memory.specs.declared.cell.Cell.{Cell}
use Rattle.pt_core.specs.CodeTree.{ProgramTree}
use Rattle.pt_core.specs.Values.{number_in}
use Rattle.pt_core.specs.Steps.{Gate, Machine, Step, here, moved, step}

-- a call was noted, and made here or not
abbrev pub LeftBy : {G : Type 0} → Gate G → G → Bool → ℕ → List Cell → G → Type 0
LeftBy gate g active f args left =
    (left ≡ gate.noted active f args g) ⊎ ((gate.way g f args ≡ here) × (left ≡ (gate.answer f (map number_in args) (gate.noted active f args g)).1))

-- one call went through the gate, in a turn that moved the machine
pub record CalledOnce {G : Type 0} (gate : Gate G) (m : Machine) (g : G) (s : Step G) : Type 0 where
  pub moves : s.answer ≡ moved
  pub turn : s.machine.turns ≡ suc m.turns
  pub active : Bool
  pub function : ℕ
  pub args : List Cell
  pub left : LeftBy gate g active function args s.gate

-- In a step a gate's state stays, or one call goes through it.
abbrev pub StepsCallOnce : Type 0 → Type 0
StepsCallOnce G = (program : ProgramTree) (gate : Gate G) (m : Machine) (g : G) → ((step program gate m g).gate ≡ g) ⊎ CalledOnce gate m g (step program gate m g)
