-- Runs step by step.
use Rattle.std.proofs.Common.{◌≡◌, ◌∙◌, ℕ, zero, suc, ◌≤◌, ap, sym, refl, subst}
use Rattle.pt_base.proofs.Numbers.{as_plus_one}
use Rattle.pair_invariant_law.proofs.SlaveGatesGathering.{one_run}
use Rattle.pt_core.specs.CodeTree.{ProgramTree}
use Rattle.pt_core.specs.Steps.{Answer, Gate, Machine, Step, answers, asked, ended, idle, moved, spent, step, trapped}
use Rattle.core_steps_law.specs.Laws.{TakesATurn}
use Rattle.core_steps_law.specs.WholeRun.{further, further_by, steps_run}
use Rattle.core_steps_law.proofs.Sums.{steps_add}
use Rattle.core_steps_law.proofs.TurnBounds.{steps_take_a_turn}

further_none : {G : Type 0} (answer : Answer) (m : Machine) (g : G) → further (answers answer m g) (λ m1 g1. answers moved m1 g1) ≡ answers answer m g
further_none moved m g = refl
further_none (asked f args depth) m g = refl
further_none (ended v) m g = refl
further_none (trapped trap span) m g = refl
further_none spent m g = refl
further_none idle m g = refl

-- no step more
pub no_further : {G : Type 0} (program : ProgramTree) (gate : Gate G) (s : Step G) → further s (steps_run program gate 0) ≡ s
no_further program gate s = further_none s.answer s.machine s.gate

-- where it moved, what comes next
pub moved_on : {G : Type 0} (s : Step G) (next : Machine → G → Step G) → s.answer ≡ moved → further s next ≡ next s.machine s.gate
moved_on s next e = ap (λ r. further_by r s next) e

-- one step more, where so many have moved the machine
pub last_step : {G : Type 0} (program : ProgramTree) (gate : Gate G) (k : ℕ) (m : Machine) (g : G) → (steps_run program gate k m g).answer ≡ moved →
    steps_run program gate (suc k) m g ≡ step program gate (steps_run program gate k m g).machine (steps_run program gate k m g).gate
last_step {G} program gate k m g e =
    ap (λ i. steps_run program gate i m g) (as_plus_one k) ∙ steps_add G program gate k 1 m g ∙ moved_on (steps_run program gate k m g) (steps_run program gate 1) e
    ∙ one_run program gate (steps_run program gate k m g).machine (steps_run program gate k m g).gate

-- no turn is taken that the budget doesn't have
pub runs_within : {G : Type 0} (program : ProgramTree) (gate : Gate G) (k : ℕ) (m : Machine) (g : G) → m.turns ≤ m.budget → (steps_run program gate k m g).machine.turns ≤ m.budget
runs_within program gate zero m g h = h
runs_within {G} program gate (suc k) m g h = go (step program gate m g).answer (runs_within program gate k (step program gate m g).machine (step program gate m g).gate)
  where
    one : TakesATurn m.turns m.budget (step program gate m g)
    one = steps_take_a_turn G program gate m g

    within : (step program gate m g).machine.turns ≤ m.budget
    within = one.within h

    go : (a : Answer) → ((step program gate m g).machine.turns ≤ (step program gate m g).machine.budget → (steps_run program gate k (step program gate m g).machine (step program gate m g).gate).machine.turns ≤ (step program gate m g).machine.budget) →
        (further_by a (step program gate m g) (steps_run program gate k)).machine.turns ≤ m.budget
    go moved rest =
        subst (λ b. (steps_run program gate k (step program gate m g).machine (step program gate m g).gate).machine.turns ≤ b) one.same_budget
        (rest (subst (λ b. (step program gate m g).machine.turns ≤ b) (sym one.same_budget) within))
    go (asked f args depth) rest = within
    go (ended v) rest = within
    go (trapped trap span) rest = within
    go spent rest = within
    go idle rest = within
