-- Gates of which one shows the other.
use Rattle.std.specs.Prelude.{◌≡◌, ℕ, ℤ, Bool, List}
use Rattle.block_memory.specs.declared.cell.Cell.{Cell}
use Rattle.pt_core.specs.Steps.{Gate, Step}

-- Where this stays of the first gate as it is, the second is what is shown of the first: calls go the same
-- way, what is noted shows, and hosts give the same.
pub record Shows {G H K : Type 0} (shown : G → H) (stays : G → K) (k : K) (from : Gate G) (to : Gate H) : Type 0 where
  pub way : (f : ℕ) (args : List Cell) (g : G) → stays g ≡ k → to.way (shown g) f args ≡ from.way g f args
  pub noted : (active : Bool) (f : ℕ) (args : List Cell) (g : G) → stays g ≡ k → to.noted active f args (shown g) ≡ shown (from.noted active f args g)
  pub answer : (f : ℕ) (numbers : List ℤ) (g : G) → stays g ≡ k → to.answer f numbers (shown g) ≡ ((from.answer f numbers g).0, shown (from.answer f numbers g).1)
  pub noted_stays : (active : Bool) (f : ℕ) (args : List Cell) (g : G) → stays (from.noted active f args g) ≡ stays g
  pub answer_stays : (f : ℕ) (numbers : List ℤ) (g : G) → stays (from.answer f numbers g).1 ≡ stays g

-- what is shown of a step
abbrev pub step_shown : {G H : Type 0} → (G → H) → Step G → Step H
step_shown shown s = record { answer = s.answer; machine = s.machine; gate = shown s.gate }
