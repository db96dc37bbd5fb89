-- Statements, step by step, where calls are followed.
use Rattle.std.proofs.Common.{◌≡◌, ℕ, zero, suc, ◌≤◌, List, [], ◌∷◌, Option, Bool, true, false, refl, arith}
use Rattle.std.specs.Prelude.{if◌then◌else◌}
use Rattle.pt_base.specs.declared.span.Span.{Span}
use Rattle.pt_base.proofs.Numbers.{at_most_self as at_most}
use Rattle.block_memory.specs.declared.cell.Cell.{Cell}
use Rattle.runs.specs.State.{gives, trapped, spent, ◌>>=◌, take_turn}
use Rattle.pt_core.specs.CodeTree.{StmtTree, clear, check, assign, copy, call, choose, repeat, break_out, continue_on, give_back, StmtTrees, no_stmts, stmt_and}
use Rattle.pt_core.specs.Values.{holds_in, value_of, values_of, location_of}
use Rattle.pt_core.specs.Statements as t
use Rattle.pt_core.specs.Statements.{State, Outcome, Calls, Flow, goes_on, broke, continues, returned, assigned, copied, returned_value, after_flow, after_round, looped, kept_in, does, do_all}
use Rattle.pt_core.specs.Steps as s
use Rattle.pt_core.specs.Steps.{Work, run, head, Active, Machine, moved, Step, answers, settled, working, with_blocks, begins, by_way, act}
use Rattle.core_steps_law.specs.WholeRun.{Outside, whole_gate, whole_way}
use Rattle.core_steps_law.specs.Laws.{machine_at, outside_of}
use Rattle.core_steps_law.proofs.Leads.{Leads, leads_same, leads_is, leads_on}
use Rattle.core_steps_law.proofs.Spots.{Spot, active_in, stack, frame_in, with_work, step_of, Runs, runs_from, reached, value_runs, with_left, turn_runs}

-- what a call does in this function, with this work behind it
abbrev pub CallsFollow : Spot → Calls → Type 0
CallsFollow p calls = (s : Span) (f : ℕ) (args : List Cell) (result : Option ℕ) (work : List Work) (st : State) → st.left ≤ p.machine.budget →
    Runs p st.left (by_way p.program (whole_gate p.program) (machine_at p.machine (stack p work) st) (outside_of st) s f args result p.depth (whole_way p.program f)) work
    (calls (frame_in p) s f args st >>= kept_in (frame_in p) result)

-- ---- one after the other

then_runs : (p : Spot) (n : ℕ) (from : Step Outside) (more : StmtTrees) (work : List Work) (go : State → Outcome Flow) →
    ((st : State) (now : List Work) → st.left ≤ n → settled now ≡ settled (run more ∷ work) → Runs p st.left (with_work p now st) work (go st)) →
    (o : Outcome Flow) → Runs p n from (run more ∷ work) o → Runs p n from work (o >>= after_flow go)
then_runs p n from more work go k (gives goes_on st) r = runs_from p st.left n from (with_work p r.1.left_work st) work (go st) r.0 r.1.by (k st r.1.left_work r.0 r.1.same)
then_runs p n from more work go k (gives broke st) r = r
then_runs p n from more work go k (gives continues st) r = r
then_runs p n from more work go k (gives (returned v) st) r = r
then_runs p n from more work go k (trapped trap span st) r = r
then_runs p n from more work go k (spent st) r = r

-- ---- loops

round_runs : (p : Spot) (n : ℕ) (from : Step Outside) (body : StmtTrees) (work : List Work) (more : State → Outcome Flow) →
    ((st : State) (now : List Work) → st.left ≤ n → settled now ≡ head body ∷ work → Runs p st.left (with_work p now st) work (more st)) →
    (o : Outcome Flow) → Runs p n from (head body ∷ work) o → Runs p n from work (o >>= after_round more)
round_runs p n from body work more k (gives goes_on st) r = runs_from p st.left n from (with_work p r.1.left_work st) work (more st) r.0 r.1.by (k st r.1.left_work r.0 r.1.same)
round_runs p n from body work more k (gives broke st) r = r
round_runs p n from body work more k (gives continues st) r = runs_from p st.left n from (with_work p r.1.left_work st) work (more st) r.0 r.1.by (k st r.1.left_work r.0 r.1.same)
round_runs p n from body work more k (gives (returned v) st) r = r
round_runs p n from body work more k (trapped trap span st) r = r
round_runs p n from body work more k (spent st) r = r

-- where a round begins
abbrev beginning : Spot → StmtTrees → List Work → List Work → State → Step Outside
beginning p body work now st = begins (machine_at p.machine (stack p now) st) (outside_of st) (active_in p now) p.rest body work

-- one round, and then at most so many
one_round : (p : Spot) (calls : Calls) (body : StmtTrees) (work now : List Work) (more : State → Outcome Flow) (n : ℕ) (st : State) → st.left ≤ suc n → st.left ≤ p.machine.budget →
    ((st1 : State) → st1.left ≤ p.machine.budget → Runs p st1.left (with_work p (run body ∷ head body ∷ work) st1) (head body ∷ work) (do_all body (frame_in p) calls st1)) →
    ((st1 : State) (now1 : List Work) → st1.left ≤ n → st1.left ≤ p.machine.budget → settled now1 ≡ head body ∷ work → Runs p st1.left (with_work p now1 st1) work (more st1)) →
    Runs p st.left (beginning p body work now st) work (take_turn st.left st (λ st1. do_all body (frame_in p) calls st1 >>= after_round more))
one_round p calls body work now more n st le fits body_runs k =
    turn_runs p (stack p now) st (λ o. o) (λ m1. answers moved (s.working m1 (active_in p now) p.rest (run body ∷ head body ∷ work)) (outside_of st))
    (λ st1. do_all body (frame_in p) calls st1 >>= after_round more) work st.left refl fits (λ st1. refl)
    (λ l room e. round_runs p l (with_work p (run body ∷ head body ∷ work) (with_left l st)) body work more
    (λ st1 now1 below same. k st1 now1 (omega arith) (omega arith) same)
    (do_all body (frame_in p) calls (with_left l st)) (body_runs (with_left l st) (omega arith)))

-- no turn is left
no_round : (p : Spot) (body : StmtTrees) (work now : List Work) (st : State) → st.left ≡ zero → st.left ≤ p.machine.budget → Runs p st.left (beginning p body work now st) work (spent st)
no_round p body work now st e fits =
    turn_runs p (stack p now) st (λ o. o) (λ m1. answers moved (s.working m1 (active_in p now) p.rest (run body ∷ head body ∷ work)) (outside_of st))
    (λ st1. spent st1) work zero e fits (λ st1. refl) (λ l room none. absurd (omega arith))

-- at least as many rounds as turns are left
loop_runs : (n : ℕ) (p : Spot) (calls : Calls) (body : StmtTrees) (work : List Work) →
    ((st1 : State) → st1.left ≤ p.machine.budget → Runs p st1.left (with_work p (run body ∷ head body ∷ work) st1) (head body ∷ work) (do_all body (frame_in p) calls st1)) →
    (now : List Work) (st : State) → st.left ≤ n → st.left ≤ p.machine.budget → Runs p st.left (beginning p body work now st) work (looped n (do_all body (frame_in p) calls) st)
loop_runs zero p calls body work body_runs now st le fits = no_round p body work now st (omega arith) fits
loop_runs (suc n) p calls body work body_runs now st le fits =
    one_round p calls body work now (looped n (do_all body (frame_in p) calls)) n st le fits body_runs
    (λ st1 now1 below room same.
    runs_from p st1.left st1.left (with_work p now1 st1) (beginning p body work now1 st1) work (looped n (do_all body (frame_in p) calls) st1) (at_most st1.left)
    (step_of p now1 (head body ∷ work) st1 same) (loop_runs n p calls body work body_runs now1 st1 below room))

-- ---- branches

branch_runs : (p : Spot) (n : ℕ) (from : Step Outside) (work : List Work) (st : State) (b : Bool) (first second : StmtTrees) (calls : Calls) →
    Leads p.program from (with_work p (run (if b then first else second) ∷ work) st) →
    Runs p n (with_work p (run first ∷ work) st) work (do_all first (frame_in p) calls st) →
    Runs p n (with_work p (run second ∷ work) st) work (do_all second (frame_in p) calls st) →
    Runs p n from work ((if b then do_all first (frame_in p) calls else do_all second (frame_in p) calls) st)
branch_runs p n from work st true first second calls l h k = runs_from p n n from (with_work p (run first ∷ work) st) work (do_all first (frame_in p) calls st) (at_most n) l h
branch_runs p n from work st false first second calls l h k = runs_from p n n from (with_work p (run second ∷ work) st) work (do_all second (frame_in p) calls st) (at_most n) l k

-- ---- returns

returned_same : (p : Spot) (now : List Work) (st : State) (rest : List Active) (v : Option Cell) →
    s.returned (machine_at p.machine (stack p now) st) (outside_of st) (active_in p now) rest v ≡ s.returned (machine_at p.machine [] st) (outside_of st) (active_in p []) rest v
returned_same p now st [] v = refl
returned_same p now st (caller ∷ rest) v = refl

-- ---- statements

mutual
  pub does_runs : (p : Spot) (calls : Calls) → CallsFollow p calls → (c : StmtTree) (more : StmtTrees) (work now : List Work) (st : State) → st.left ≤ p.machine.budget → settled now ≡ run (stmt_and c more) ∷ work →
      Runs p st.left (with_work p now st) (run more ∷ work) (does c (frame_in p) calls st)
  does_runs p calls follow (clear v) more work now st le e =
      reached p st.left (with_work p now st) (run more ∷ work) (t.with_blocks (t.cleared (frame_in p).context p.depth v st.memory) st) (at_most st.left) (step_of p now (run (stmt_and (clear v) more) ∷ work) st e)
  does_runs p calls follow (check q) more work now st le e =
      value_runs p st.left (with_work p now st) (run more ∷ work) (stack p now) st (location_of (frame_in p).context p.depth q st.memory) (λ at. with_work p (run more ∷ work) st) (λ at. gives goes_on)
      (step_of p now (run (stmt_and (check q) more) ∷ work) st e)
      (λ at l. reached p st.left (with_work p now st) (run more ∷ work) st (at_most st.left) l)
  does_runs p calls follow (assign q x) more work now st le e =
      value_runs p st.left (with_work p now st) (run more ∷ work) (stack p now) st (assigned (frame_in p).context p.depth q x st.memory) (λ blocks. with_work p (run more ∷ work) (t.with_blocks blocks st)) (λ blocks st1. gives goes_on (t.with_blocks blocks st1))
      (step_of p now (run (stmt_and (assign q x) more) ∷ work) st e)
      (λ blocks l. reached p st.left (with_work p now st) (run more ∷ work) (t.with_blocks blocks st) (at_most st.left) l)
  does_runs p calls follow (copy to of) more work now st le e =
      value_runs p st.left (with_work p now st) (run more ∷ work) (stack p now) st (copied (frame_in p).context p.depth to of st.memory) (λ blocks. with_work p (run more ∷ work) (t.with_blocks blocks st)) (λ blocks st1. gives goes_on (t.with_blocks blocks st1))
      (step_of p now (run (stmt_and (copy to of) more) ∷ work) st e)
      (λ blocks l. reached p st.left (with_work p now st) (run more ∷ work) (t.with_blocks blocks st) (at_most st.left) l)
  does_runs p calls follow (call f args result span) more work now st le e =
      value_runs p st.left (with_work p now st) (run more ∷ work) (stack p now) st (values_of (frame_in p).context p.depth args st.memory)
      (λ vs. by_way p.program (whole_gate p.program) (machine_at p.machine (stack p (run more ∷ work)) st) (outside_of st) span f vs result p.depth (whole_way p.program f))
      (λ vs st1. calls (frame_in p) span f vs st1 >>= kept_in (frame_in p) result)
      (step_of p now (run (stmt_and (call f args result span) more) ∷ work) st e)
      (λ vs l. runs_from p st.left st.left (with_work p now st)
      (by_way p.program (whole_gate p.program) (machine_at p.machine (stack p (run more ∷ work)) st) (outside_of st) span f vs result p.depth (whole_way p.program f)) (run more ∷ work)
      (calls (frame_in p) span f vs st >>= kept_in (frame_in p) result) (at_most st.left) l (follow span f vs result (run more ∷ work) st le))
  does_runs p calls follow (choose x first second) more work now st le e =
      value_runs p st.left (with_work p now st) (run more ∷ work) (stack p now) st (value_of (frame_in p).context p.depth x st.memory)
      (λ v. with_work p (run (if holds_in v then first else second) ∷ run more ∷ work) st)
      (λ v. if holds_in v then do_all first (frame_in p) calls else do_all second (frame_in p) calls)
      (step_of p now (run (stmt_and (choose x first second) more) ∷ work) st e)
      (λ v l. branch_runs p st.left (with_work p now st) (run more ∷ work) st (holds_in v) first second calls l
      (all_run p calls follow first (run more ∷ work) (run first ∷ run more ∷ work) st le refl)
      (all_run p calls follow second (run more ∷ work) (run second ∷ run more ∷ work) st le refl))
  does_runs p calls follow (repeat body span) more work now st le e =
      runs_from p st.left st.left (with_work p now st) (beginning p body (run more ∷ work) now st) (run more ∷ work) (looped st.left (do_all body (frame_in p) calls) st) (at_most st.left)
      (step_of p now (run (stmt_and (repeat body span) more) ∷ work) st e)
      (loop_runs st.left p calls body (run more ∷ work)
      (λ st1 room. all_run p calls follow body (head body ∷ run more ∷ work) (run body ∷ head body ∷ run more ∷ work) st1 room refl) now st (at_most st.left) le)
  does_runs p calls follow break_out more work now st le e =
      (at_most st.left, record { left_work = s.past_loop work; same = refl; by = step_of p now (run (stmt_and break_out more) ∷ work) st e })
  does_runs p calls follow continue_on more work now st le e =
      (at_most st.left, record { left_work = s.at_head work; same = refl; by = step_of p now (run (stmt_and continue_on more) ∷ work) st e })
  does_runs p calls follow (give_back x) more work now st le e =
      value_runs p st.left (with_work p now st) (run more ∷ work) (stack p now) st (returned_value (frame_in p).context p.depth x st.memory)
      (λ v. s.returned (machine_at p.machine (stack p now) st) (outside_of st) (active_in p now) p.rest v) (λ v. gives (returned v))
      (step_of p now (run (stmt_and (give_back x) more) ∷ work) st e)
      (λ v l. (at_most st.left, leads_on l (leads_is p.program _ _ (returned_same p now st p.rest v))))

  pub all_run : (p : Spot) (calls : Calls) → CallsFollow p calls → (stmts : StmtTrees) (work now : List Work) (st : State) → st.left ≤ p.machine.budget → settled now ≡ settled (run stmts ∷ work) →
      Runs p st.left (with_work p now st) work (do_all stmts (frame_in p) calls st)
  all_run p calls follow no_stmts work now st le e = (at_most st.left, record { left_work = now; same = e; by = leads_same p.program (with_work p now st) })
  all_run p calls follow (stmt_and c more) work now st le e =
      then_runs p st.left (with_work p now st) more work (do_all more (frame_in p) calls)
      (λ st1 now1 below same. all_run p calls follow more work now1 st1 (omega arith) same)
      (does c (frame_in p) calls st) (does_runs p calls follow c more work now st le e)
