-- So many steps, and then some more.
use Rattle.std.proofs.Common.{◌≡◌, ℕ, zero, suc, ◌+◌, refl, ap, ◌∙◌, arith}
use Rattle.pt_core.specs.CodeTree.{ProgramTree}
use Rattle.pt_core.specs.Steps.{Machine, Gate, Answer, moved, asked, ended, trapped, spent, idle, Step, answers, step}
use Rattle.core_steps_law.specs.WholeRun.{further, steps_run}
use Rattle.core_steps_law.specs.Laws.{StepsAdd}

further_twice : {G : Type 0} (answer : Answer) (m : Machine) (g : G) (first both next : Machine → G → Step G) → ((m1 : Machine) (g1 : G) → both m1 g1 ≡ further (first m1 g1) next) →
    further (answers answer m g) both ≡ further (further (answers answer m g) first) next
further_twice moved m g first both next h = h m g
further_twice (asked f args depth) m g first both next h = refl
further_twice (ended v) m g first both next h = refl
further_twice (trapped trap span) m g first both next h = refl
further_twice spent m g first both next h = refl
further_twice idle m g first both next h = refl

added : {G : Type 0} (program : ProgramTree) (gate : Gate G) (n k : ℕ) (m : Machine) (g : G) → steps_run program gate (n + k) m g ≡ further (steps_run program gate n m g) (steps_run program gate k)
added program gate zero k m g = let e : zero + k ≡ k = omega arith in ap (λ j. steps_run program gate j m g) e
added {G} program gate (suc n) k m g =
    let e : suc n + k ≡ suc (n + k) = omega arith in
    let s : Step G = step program gate m g in
    ap (λ j. steps_run program gate j m g) e
    ∙ further_twice s.answer s.machine s.gate (steps_run program gate n) (steps_run program gate (n + k)) (steps_run program gate k) (added program gate n k)

pub steps_add : (G : Type 0) → StepsAdd G
steps_add G = added
