-- A part runs as the whole does.
use Rattle.std.specs.Prelude.{◌≡◌, ◌≤◌, ◌<◌, ◌+◌, ℕ, zero, suc, Bool, false, None, ◌⊎◌}
use Rattle.pt_core.specs.CodeTree.{ProgramTree}
use Rattle.pt_core.specs.Steps.{Gate, Machine, Step, spent, step}
use Rattle.core_steps_law.specs.WholeRun.{steps_run}
use Rattle.handle_classes.specs.Computes.{computes_next}
use Rattle.part_views_law.specs.Machines.{Below, seen_machine}
use Rattle.part_views_law.specs.Views.{View}
use Rattle.part_views_law.specs.StepsLaws.{After, IsOwn, Sees}
use Rattle.part_views_law.specs.StepsParts.{CallsFit, GatesAgree, IsViewed, ShowAlike, Stands}

-- at each of so many steps the gate fits, and none computes with a handle
abbrev pub AllPlain : {G : Type 0} → (ℕ → ℕ → Bool) → ProgramTree → Gate G → ℕ → Machine → G → Type 0
AllPlain marked part inner zero x g = Unit {0}
AllPlain marked part inner (suc k) x g =
    CallsFit part inner g × (computes_next marked part inner x g ≡ false) × After (AllPlain marked part inner k) (step part inner x g).answer (step part inner x g).machine (step part inner x g).gate

-- behind at most so many steps of the part the budget is spent
abbrev pub IsLate : {G : Type 0} → ProgramTree → Gate G → ℕ → ℕ → ℕ → Machine → G → Type 0
IsLate part inner turns n k x g = (j : ℕ) × (j ≤ k) × (n < (steps_run part inner j x g).machine.turns + turns)

-- the whole's run is what is seen of the part's, or its budget is spent by the turns that others took
abbrev pub RunSeen : {H G : Type 0} → (H → G → Type 0) → View → Below → ℕ → ℕ → ProgramTree → Gate G → ℕ → Machine → G → Step H → Step G → Type 0
RunSeen Alike v below turns n part inner k x g big small =
    Sees Alike v below turns n big small ⊎ ((big.answer ≡ spent) × IsLate part inner turns n k x g)

-- So it is with so many steps, from a machine that is shown. Of the machines between it is asked alone that no step computes with
-- a handle, and of the gate's states that they fit.
abbrev pub PartsRun : Type 0 → Type 0 → Type 0 → Type 0
PartsRun H G K = (told : H → K) (heard : G → K) (marked : ℕ → ℕ → Bool) (whole part : ProgramTree) (outer : Gate H) (inner : Gate G)
    (v : View) (base : ℕ) (monitor : Bool) (below : Below) (turns n k : ℕ) (x : Machine) (h : H) (g : G) →
    IsViewed v base monitor part whole → GatesAgree v part monitor inner outer (ShowAlike told heard) → Stands v base monitor turns n part x → x.awaits ≡ None → told h ≡ heard g →
    AllPlain marked part inner k x g → IsOwn (steps_run part inner k x g).answer →
    RunSeen (ShowAlike told heard) v below turns n part inner k x g (steps_run whole outer k (seen_machine v below turns n x) h) (steps_run part inner k x g)
