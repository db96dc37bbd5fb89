-- A run is seen once, whatever the number of steps.
use Rattle.std.proofs.Common.{◌≡◌, ℕ, ◌+◌, ◌-◌, ◌<◌, ◌≤◌, Some, Bool, true, false, refl, sym, ap, ◌∙◌, arith}
use Rattle.std.specs.Prelude.{nat_lt}
use Rattle.std.proofs.lemmas.Bool.{ltb-true, ltb-false}
use Rattle.runs.specs.Run.{Run}
use Rattle.pt_core.specs.CoreRun.{core_run}
use Rattle.pt_core.specs.Steps.{Machine, Answer, moved, asked, ended, trapped, spent, idle, Step, answers}
use Rattle.core_steps_law.specs.WholeRun.{Outside, whole_gate, begun_machine, begun_outside, further, steps_run, after_steps, run_seen}
use Rattle.core_steps_law.specs.Laws.{OnlyTheRunIsSeen}
use Rattle.core_steps_law.proofs.Leads.{none_yet}
use Rattle.core_steps_law.proofs.Sums.{steps_add}
use Rattle.core_steps_law.proofs.WholeSteps.{steps_are_the_run}

same_run : (a b : Run) → Some a ≡ Some b → a ≡ b
same_run a b e = cc

moved_on : (run : Run) (answer : Answer) (m : Machine) (g : Outside) → answer ≡ moved → run_seen (answers answer m g) ≡ Some run → ⊥
moved_on run answer m g e h = none_yet run (ap (λ a. run_seen (answers a m g)) (sym e) ∙ h)

stays : (run : Run) (answer : Answer) (m : Machine) (g : Outside) (next : Machine → Outside → Step Outside) → run_seen (answers answer m g) ≡ Some run → further (answers answer m g) next ≡ answers answer m g
stays run moved m g next h = none_yet run h
stays run (asked f args depth) m g next h = refl
stays run (ended v) m g next h = refl
stays run (trapped trap span) m g next h = refl
stays run spent m g next h = refl
stays run idle m g next h = refl

pub only_the_run_is_seen : OnlyTheRunIsSeen
only_the_run_is_seen program hosts input turns n seen h = by_order (nat_lt n first.0) refl
  where
    first : (i : ℕ) × (run_seen (after_steps program hosts input turns i) ≡ Some (core_run program hosts input turns)) × ((k : ℕ) → k < i → (after_steps program hosts input turns k).answer ≡ moved)
    first = steps_are_the_run program hosts input turns

    by_order : (b : Bool) → nat_lt n first.0 ≡ b → seen ≡ core_run program hosts input turns
    by_order true e = let s : Step Outside = after_steps program hosts input turns n in absurd (moved_on seen s.answer s.machine s.gate (first.2 n (ltb-true n first.0 e)) h)
    by_order false e =
        let s : Step Outside = after_steps program hosts input turns first.0 in
        let less : first.0 ≤ n = ltb-false n first.0 e in
        let sum : n ≡ first.0 + (n - first.0) = omega arith in
        let more : after_steps program hosts input turns n ≡ s =
        ap (λ k. after_steps program hosts input turns k) sum
        ∙ steps_add Outside program (whole_gate program) first.0 (n - first.0) (begun_machine program turns) (begun_outside hosts input)
        ∙ stays (core_run program hosts input turns) s.answer s.machine s.gate (steps_run program (whole_gate program) (n - first.0)) first.1 in
        same_run seen (core_run program hosts input turns) (sym h ∙ ap run_seen more ∙ first.1)
