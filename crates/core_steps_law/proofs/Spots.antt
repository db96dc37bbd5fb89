-- A function that is at work somewhere on the stack, and how its steps follow an outcome.
use Rattle.std.proofs.Common.{◌≡◌, ℕ, zero, suc, ◌-◌, ◌≤◌, List, [], ◌∷◌, Option, Bool, true, false, refl, sym, ap, ◌∙◌, subst, arith}
use Rattle.std.specs.Prelude.{Result, Ok, Err, if◌then◌else◌, nat_lt}
use Rattle.std.proofs.lemmas.Bool.{lt-ltb, le-ltb}
use Rattle.runs.specs.State.{gives, trapped, spent, take_turn}
use Rattle.pt_core.specs.CodeTree.{ProgramTree}
use Rattle.pt_core.specs.Values.{Stop}
use Rattle.pt_core.specs.Statements.{State, Outcome, Frame, Flow, goes_on, broke, continues, returned, evaluated}
use Rattle.pt_core.specs.Calls.{context_in}
use Rattle.pt_core.specs.Steps as s
use Rattle.pt_core.specs.Steps.{Work, run, head, Active, Machine, Answer, moved, Step, answers, settled, past_loop, at_head, with_turn, turned, on_value, begins, act, works}
use Rattle.core_steps_law.specs.WholeRun.{Outside, whole_gate}
use Rattle.core_steps_law.specs.Laws.{machine_at, outside_of}
use Rattle.core_steps_law.proofs.Leads.{Leads, leads_is, leads_on, one_step}

-- an active function of a machine, but for its work, with the functions below it
pub record Spot : Type 0 where
  pub program : ProgramTree
  pub machine : Machine
  pub function : ℕ
  pub depth : ℕ
  pub result : Option ℕ
  pub rest : List Active
  pub privileged : Bool

abbrev pub active_in : Spot → List Work → Active
active_in p work = record { function = p.function; depth = p.depth; privileged = p.privileged; result = p.result; work = work }

abbrev pub stack : Spot → List Work → List Active
stack p work = active_in p work ∷ p.rest

abbrev pub frame_in : Spot → Frame
frame_in p = record { context = context_in p.program p.function; depth = p.depth; privileged = p.privileged }

-- the function has this work in this state
abbrev pub with_work : Spot → List Work → State → Step Outside
with_work p work st = answers moved (machine_at p.machine (stack p work) st) (outside_of st)

-- ---- one step of the function

pub step_of : (p : Spot) (work now : List Work) (st : State) → settled work ≡ now →
    Leads p.program (with_work p work st) (works p.program (whole_gate p.program) (machine_at p.machine (stack p work) st) (outside_of st) (active_in p work) p.rest now)
step_of p work now st e =
    leads_on (one_step p.program (machine_at p.machine (stack p work) st) (outside_of st))
    (leads_is p.program _ _ (ap (works p.program (whole_gate p.program) (machine_at p.machine (stack p work) st) (outside_of st) (active_in p work) p.rest) e))

-- ---- outcomes

pub record Reaches (p : Spot) (from : Step Outside) (work : List Work) (st : State) : Type 0 where
  pub left_work : List Work
  pub same : settled left_work ≡ settled work
  pub by : Leads p.program from (with_work p left_work st)

pub record Halts (p : Spot) (from : Step Outside) (answer : Answer) (st : State) : Type 0 where
  pub active : List Active
  pub by : Leads p.program from (answers answer (machine_at p.machine active st) (outside_of st))

-- with at most so many turns left
abbrev pub Runs : Spot → ℕ → Step Outside → List Work → Outcome Flow → Type 0
Runs p n from work (gives goes_on st) = (st.left ≤ n) × Reaches p from work st
Runs p n from work (gives broke st) = (st.left ≤ n) × Reaches p from (past_loop work) st
Runs p n from work (gives continues st) = (st.left ≤ n) × Reaches p from (at_head work) st
Runs p n from work (gives (returned v) st) = (st.left ≤ n) × Leads p.program from (s.returned (machine_at p.machine [] st) (outside_of st) (active_in p []) p.rest v)
Runs p n from work (trapped trap span st) = Halts p from (s.trapped trap span) st
Runs p n from work (spent st) = Halts p from s.spent st

pub reaches_from : (p : Spot) (a b : Step Outside) (work : List Work) (st : State) → Leads p.program a b → Reaches p b work st → Reaches p a work st
reaches_from p a b work st l r = record { left_work = r.left_work; same = r.same; by = leads_on l r.by }

pub halts_from : (p : Spot) (a b : Step Outside) (answer : Answer) (st : State) → Leads p.program a b → Halts p b answer st → Halts p a answer st
halts_from p a b answer st l r = record { active = r.active; by = leads_on l r.by }

pub runs_from : (p : Spot) (n m : ℕ) (a b : Step Outside) (work : List Work) (o : Outcome Flow) → n ≤ m → Leads p.program a b → Runs p n b work o → Runs p m a work o
runs_from p n m a b work (gives goes_on st) le l r = let h : st.left ≤ n = r.0 in (omega arith, reaches_from p a b work st l r.1)
runs_from p n m a b work (gives broke st) le l r = let h : st.left ≤ n = r.0 in (omega arith, reaches_from p a b (past_loop work) st l r.1)
runs_from p n m a b work (gives continues st) le l r = let h : st.left ≤ n = r.0 in (omega arith, reaches_from p a b (at_head work) st l r.1)
runs_from p n m a b work (gives (returned v) st) le l r = let h : st.left ≤ n = r.0 in (omega arith, leads_on l r.1)
runs_from p n m a b work (trapped trap span st) le l r = halts_from p a b (s.trapped trap span) st l r
runs_from p n m a b work (spent st) le l r = halts_from p a b s.spent st l r

-- the very work is reached
pub reached : (p : Spot) (n : ℕ) (from : Step Outside) (work : List Work) (st : State) → st.left ≤ n → Leads p.program from (with_work p work st) → Runs p n from work (gives goes_on st)
reached p n from work st le l = (le, record { left_work = work; same = refl; by = l })

-- ---- values and turns

pub value_runs : {A : Type 0} (p : Spot) (n : ℕ) (from : Step Outside) (work : List Work) (active : List Active) (st : State) (r : Result A Stop) (next : A → Step Outside) (go : A → State → Outcome Flow) →
    Leads p.program from (on_value r (machine_at p.machine active st) (outside_of st) next) → ((a : A) → Leads p.program from (next a) → Runs p n from work (go a st)) → Runs p n from work (evaluated r st go)
value_runs p n from work active st (Ok a) next go l k = k a l
value_runs p n from work active st (Err stop) next go l k = record { active = active; by = l }

abbrev pub with_left : ℕ → State → State
with_left l st = record st { left = l }

turned_spent : (m : Machine) (active : List Active) (st : State) (next : Machine → Step Outside) → st.left ≡ zero → turned (machine_at m active st) (outside_of st) next ≡ answers s.spent (machine_at m active st) (outside_of st)
turned_spent m active st next e =
    let t : nat_lt (m.budget - st.left) m.budget ≡ false = le-ltb (m.budget - st.left) m.budget (omega arith) in
    ap (λ b. if b then next (with_turn (machine_at m active st)) else answers s.spent (machine_at m active st) (outside_of st)) t

turned_on : (m : Machine) (active : List Active) (st : State) (next : Machine → Step Outside) (l : ℕ) → st.left ≡ suc l → st.left ≤ m.budget → turned (machine_at m active st) (outside_of st) next ≡ next (machine_at m active (with_left l st))
turned_on m active st next l e le =
    let t : nat_lt (m.budget - st.left) m.budget ≡ true = lt-ltb (m.budget - st.left) m.budget (omega arith) in
    let one : suc (m.budget - st.left) ≡ m.budget - l = omega arith in
    ap (λ b. if b then next (with_turn (machine_at m active st)) else answers s.spent (machine_at m active st) (outside_of st)) t
    ∙ ap (λ k. next (record m { active = active; blocks = st.memory; turns = k })) one

-- a turn is taken on both sides
pub turn_runs : {A : Type 0} (p : Spot) (active : List Active) (st : State) (f : Outcome A → Outcome Flow) (next : Machine → Step Outside) (go : State → Outcome A) (work : List Work) (k : ℕ) →
    st.left ≡ k → st.left ≤ p.machine.budget → ((st1 : State) → f (spent st1) ≡ spent st1) →
    ((l : ℕ) → suc l ≤ p.machine.budget → suc l ≡ k → Runs p l (next (machine_at p.machine active (with_left l st))) work (f (go (with_left l st)))) →
    Runs p k (turned (machine_at p.machine active st) (outside_of st) next) work (f (take_turn k st go))
turn_runs {A} p active st f next go work zero e le h runs =
    let halts : Runs p zero (turned (machine_at p.machine active st) (outside_of st) next) work (spent st) = record { active = active; by = leads_is p.program _ _ (turned_spent p.machine active st next e) } in
    subst (λ o. Runs p zero (turned (machine_at p.machine active st) (outside_of st) next) work o) (sym (h st)) halts
turn_runs {A} p active st f next go work (suc l) e le h runs =
    runs_from p l (suc l) (turned (machine_at p.machine active st) (outside_of st) next) (next (machine_at p.machine active (with_left l st))) work (f (go (with_left l st))) (omega arith)
    (leads_is p.program _ _ (turned_on p.machine active st next l e le)) (runs l (omega arith) refl)
