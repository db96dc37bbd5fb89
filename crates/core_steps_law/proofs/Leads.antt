-- Steps that lead from one answer to another, and the first step that doesn't move.
use Rattle.std.proofs.Common.{◌≡◌, ℕ, zero, suc, ◌<◌, Some, None, refl, ap, ◌∙◌, arith}
use Rattle.runs.specs.Run.{Run}
use Rattle.pt_core.specs.CodeTree.{ProgramTree}
use Rattle.pt_core.specs.Steps.{Machine, Answer, moved, asked, ended, trapped, spent, idle, Step, answers, step}
use Rattle.core_steps_law.specs.WholeRun.{Outside, whole_gate, further, steps_run, run_seen}
use Rattle.core_steps_law.specs.Laws.{Comes}

-- what follows the first is, after some steps more, what follows the second
pub record Leads (program : ProgramTree) (a b : Step Outside) : Type 0 where
  pub by : (k : ℕ) → (j : ℕ) × (further a (steps_run program (whole_gate program) j) ≡ further b (steps_run program (whole_gate program) k))

pub leads_same : (program : ProgramTree) (a : Step Outside) → Leads program a a
leads_same program a = record { by = λ k. (k, refl) }

pub leads_is : (program : ProgramTree) (a b : Step Outside) → a ≡ b → Leads program a b
leads_is program a b e = record { by = λ k. (k, ap (λ s. further s (steps_run program (whole_gate program) k)) e) }

pub leads_on : {program : ProgramTree} {a b c : Step Outside} → Leads program a b → Leads program b c → Leads program a c
leads_on l m = record { by = λ k. let q = m.by k in let p = l.by q.0 in (p.0, p.1 ∙ q.1) }

pub one_step : (program : ProgramTree) (m : Machine) (g : Outside) → Leads program (answers moved m g) (step program (whole_gate program) m g)
one_step program m g = record { by = λ k. (suc k, refl) }

-- no more steps
no_further : (program : ProgramTree) (answer : Answer) (m : Machine) (g : Outside) → further (answers answer m g) (steps_run program (whole_gate program) zero) ≡ answers answer m g
no_further program moved m g = refl
no_further program (asked f args depth) m g = refl
no_further program (ended v) m g = refl
no_further program (trapped trap span) m g = refl
no_further program spent m g = refl
no_further program idle m g = refl

pub comes_by : (program : ProgramTree) (m : Machine) (g : Outside) (to : Step Outside) → Leads program (answers moved m g) to → Comes program m g to
comes_by program m g to l = let p = l.by zero in (p.0, p.1 ∙ no_further program to.answer to.machine to.gate)

-- ---- the first end

-- the run is seen after so many steps, and not before
abbrev pub First : (ℕ → Step Outside) → Run → Type 0
First after run = (i : ℕ) × (run_seen (after i) ≡ Some run) × ((k : ℕ) → k < i → (after k).answer ≡ moved)

first_further : (program : ProgramTree) (n : ℕ) (run : Run) (answer : Answer) (m : Machine) (g : Outside) →
    (run_seen (steps_run program (whole_gate program) n m g) ≡ Some run → First (λ i. steps_run program (whole_gate program) i m g) run) →
    run_seen (further (answers answer m g) (steps_run program (whole_gate program) n)) ≡ Some run → First (λ i. further (answers answer m g) (steps_run program (whole_gate program) i)) run
first_further program n run moved m g first h = first h
first_further program n run (asked f args depth) m g first h = (zero, h, λ k less. absurd (omega arith))
first_further program n run (ended v) m g first h = (zero, h, λ k less. absurd (omega arith))
first_further program n run (trapped trap span) m g first h = (zero, h, λ k less. absurd (omega arith))
first_further program n run spent m g first h = (zero, h, λ k less. absurd (omega arith))
first_further program n run idle m g first h = (zero, h, λ k less. absurd (omega arith))

one_later : (program : ProgramTree) (m : Machine) (g : Outside) (run : Run) → First (λ i. further (step program (whole_gate program) m g) (steps_run program (whole_gate program) i)) run → First (λ i. steps_run program (whole_gate program) i m g) run
one_later program m g run f = (suc f.0, f.1, before)
  where
    before : (k : ℕ) → k < suc f.0 → (steps_run program (whole_gate program) k m g).answer ≡ moved
    before zero less = refl
    before (suc k) less = f.2 k (omega arith)

pub none_yet : {A : Type 0} (run : Run) → None ≡ Some run → A
none_yet run e = cc

pub first_end : (program : ProgramTree) (n : ℕ) (m : Machine) (g : Outside) (run : Run) → run_seen (steps_run program (whole_gate program) n m g) ≡ Some run → First (λ i. steps_run program (whole_gate program) i m g) run
first_end program zero m g run h = none_yet run h
first_end program (suc n) m g run h =
    let s : Step Outside = step program (whole_gate program) m g in
    one_later program m g run (first_further program n run s.answer s.machine s.gate (first_end program n s.machine s.gate run) h)
