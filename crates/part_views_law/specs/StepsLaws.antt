-- A part steps as the whole does.
use Rattle.std.specs.Prelude.{◌≡◌, ◌<◌, ◌+◌, ℕ, Bool, false, None, ◌⊎◌}
use Rattle.pt_core.specs.CodeTree.{ProgramTree}
use Rattle.pt_core.specs.Steps.{Answer, Gate, Machine, Step, asked, ended, idle, moved, spent, step, trapped}
use Rattle.handle_classes.specs.Computes.{computes_next}
use Rattle.part_views_law.specs.Machines.{Below, seen_machine}
use Rattle.part_views_law.specs.Views.{View}
use Rattle.part_views_law.specs.StepsParts.{CallsFit, GatesAgree, IsViewed, ShowAlike, Stands}

-- it doesn't go away, and isn't the return of the outermost function
abbrev pub IsOwn : Answer → Type 0
IsOwn moved = Unit {0}
IsOwn (asked f args depth) = ⊥
IsOwn (ended v) = ⊥
IsOwn (trapped trap span) = Unit {0}
IsOwn spent = Unit {0}
IsOwn idle = ⊥

-- the whole's step is what is seen of the part's
pub record Sees {H G : Type 0} (Alike : H → G → Type 0) (v : View) (below : Below) (turns n : ℕ) (big : Step H) (small : Step G) : Type 0 where
  pub answer : big.answer ≡ small.answer
  pub machine : big.machine ≡ seen_machine v below turns n small.machine
  pub gate : Alike big.gate small.gate

-- or the turns of others and the part's own are more than the whole has, so that its budget is spent; nothing more is told than was
pub record IsSpent {H G : Type 0} (turns n : ℕ) (h : H) (big : Step H) (small : Step G) : Type 0 where
  pub answer : big.answer ≡ spent
  pub gate : big.gate ≡ h
  pub over : n < small.machine.turns + turns

abbrev pub StepSeen : {H G : Type 0} → (H → G → Type 0) → View → Below → ℕ → ℕ → H → Step H → Step G → Type 0
StepSeen Alike v below turns n h big small = IsOwn small.answer → Sees Alike v below turns n big small ⊎ IsSpent turns n h big small

-- Where a machine x of a part is shown in the whole's, the gates agree, and the next step computes with no handle: the whole's
-- step on what is seen of x is what is seen of x's step, or the whole's budget is spent by the turns that others took.
abbrev pub PartsStep : Type 0 → Type 0 → Type 0 → Type 0
PartsStep H G K = (told : H → K) (heard : G → K) (marked : ℕ → ℕ → Bool) (whole part : ProgramTree) (outer : Gate H) (inner : Gate G)
    (v : View) (base : ℕ) (monitor : Bool) (below : Below) (turns n : ℕ) (x : Machine) (h : H) (g : G) →
    IsViewed v base monitor part whole → GatesAgree v part monitor inner outer (ShowAlike told heard) → CallsFit part inner g → Stands v base monitor turns n part x → told h ≡ heard g →
    computes_next marked part inner x g ≡ false →
    StepSeen (ShowAlike told heard) v below turns n h (step whole outer (seen_machine v below turns n x) h) (step part inner x g)

-- a machine that has moved
abbrev pub After : {G : Type 0} → (Machine → G → Type 0) → Answer → Machine → G → Type 0
After P moved x g = P x g
After P (asked f args depth) x g = Unit {0}
After P (ended v) x g = Unit {0}
After P (trapped trap span) x g = Unit {0}
After P spent x g = Unit {0}
After P idle x g = Unit {0}

-- it is shown, and awaits nothing where it has moved
pub record StaysShown {G : Type 0} (v : View) (base : ℕ) (monitor : Bool) (turns n : ℕ) (part : ProgramTree) (small : Step G) : Type 0 where
  pub stands : Stands v base monitor turns n part small.machine
  pub awaits : After (λ (x : Machine) (g : G). x.awaits ≡ None) small.answer small.machine small.gate

-- Such a machine that awaits nothing is shown after a step too, whatever its answer.
abbrev pub PartsStand : Type 0 → Type 0 → Type 0 → Type 0
PartsStand H G K = (told : H → K) (heard : G → K) (whole part : ProgramTree) (outer : Gate H) (inner : Gate G)
    (v : View) (base : ℕ) (monitor : Bool) (turns n : ℕ) (x : Machine) (h : H) (g : G) →
    IsViewed v base monitor part whole → GatesAgree v part monitor inner outer (ShowAlike told heard) → CallsFit part inner g → Stands v base monitor turns n part x → x.awaits ≡ None → told h ≡ heard g →
    StaysShown v base monitor turns n part (step part inner x g)
