-- Calls, step by step, at each depth.
use Rattle.std.proofs.Common.{◌≡◌, ℕ, zero, suc, ◌+◌, ◌-◌, ◌≤◌, ◌<◌, List, [], ◌∷◌, Option, Some, None, Bool, true, false, refl, subst, arith}
use Rattle.std.specs.Prelude.{if◌then◌else◌, ◌||◌, nat_le, map}
use Rattle.std.proofs.lemmas.Bool.{le-leb, lt-leb}
use Rattle.pt_base.specs.declared.int_type.IntType.{IntType}
use Rattle.pt_base.specs.declared.span.Span.{Span}
use Rattle.pt_base.specs.declared.trap.Trap.TheVariants.{Depth}
use Rattle.pt_base.proofs.Booleans.{if_false, if_true}
use Rattle.pt_base.proofs.Numbers.{at_most_self}
use Rattle.pt_tree.specs.HostStep.{host_step}
use Rattle.block_memory.specs.declared.cell.Cell.{Cell}
use Rattle.block_memory.specs.Blocks.{without_frames}
use Rattle.runs.specs.State.{gives, trapped, spent, ◌>>=◌, answer_of, after_answer}
use Rattle.runs.specs.Run.{deepest}
use Rattle.pt_core.specs.CodeTree.{ProgramTree}
use Rattle.pt_core.specs.Values.{number_in}
use Rattle.pt_core.specs.Statements as t
use Rattle.pt_core.specs.Statements.{State, Outcome, Flow, goes_on, broke, continues, returned, kept, kept_in, do_all}
use Rattle.pt_core.specs.Calls as c
use Rattle.pt_core.specs.Calls.{signature_in, function_in, entered, left_at, returned_from, noted_call, number_cell, host_call, inner_frame, body_run, function_call, calls_within}
use Rattle.pt_core.specs.Steps as s
use Rattle.pt_core.specs.Steps.{Work, run, Active, Machine, moved, Step, answers, settled, turned, just_entered, enters_at, made, made_here, by_way, enters, here}
use Rattle.core_steps_law.specs.WholeRun.{Outside, whole_gate, whole_noted, answered}
use Rattle.core_steps_law.specs.Laws.{machine_at, outside_of}
use Rattle.core_steps_law.proofs.Leads.{Leads, leads_same, leads_is, leads_on}
use Rattle.core_steps_law.proofs.Spots.{Spot, active_in, stack, frame_in, with_work, step_of, Runs, runs_from, reached, with_left, turn_runs}
use Rattle.core_steps_law.proofs.StatementSteps.{CallsFollow, all_run}

-- ---- hosts

-- what the machine does with a host's answer
abbrev host_answer : Spot → List Active → State → ℕ → List Cell → Option ℕ → Step Outside
host_answer p active st f args result =
    let g = whole_noted p.program p.privileged f args (outside_of st) in
    made (machine_at p.machine active st) p.depth result (answered f (host_step g.input (g.hosts f) (map number_in args)) g)

-- the state after it
abbrev answered_state : Spot → State → ℕ → List Cell → Option ℕ → State
answered_state p st f args result =
    let st2 = noted_call p.program (frame_in p) f args st in
    let answer = answer_of f (map number_in args) st2 in
    let st3 = after_answer f answer st2 in
    t.with_blocks (kept p.depth result (number_cell answer.result) st3.memory) st3

host_runs : (p : Spot) (f : ℕ) (args : List Cell) (result : Option ℕ) (work : List Work) (st : State) → st.left ≤ p.machine.budget →
    Runs p st.left (made_here p.program (whole_gate p.program) (machine_at p.machine (stack p work) st) (outside_of st) f args result p.depth) work (host_call p.program (frame_in p) f args st >>= kept_in (frame_in p) result)
host_runs p f args result work st le =
    turn_runs p (stack p work) st (λ o. o >>= kept_in (frame_in p) result)
    (λ m1. made m1 p.depth result ((whole_gate p.program).answer f (map number_in args) ((whole_gate p.program).noted p.privileged f args (outside_of st))))
    (λ st1.
    let st2 = noted_call p.program (frame_in p) f args st1 in
    let answer = answer_of f (map number_in args) st2 in
    gives (number_cell answer.result) (after_answer f answer st2))
    work st.left refl le (λ st1. refl)
    (λ l room e.
    reached p l (host_answer p (stack p work) (with_left l st) f args result) work (answered_state p (with_left l st) f args result) (at_most_self l)
    (leads_same p.program (host_answer p (stack p work) (with_left l st) f args result)))

-- ---- functions

-- the function that a call enters
abbrev inner : Spot → ℕ → Option ℕ → List Work → Spot
inner p f result work = record {
  program = p.program;
  machine = p.machine;
  function = f;
  depth = p.depth + 1;
  result = result;
  rest = stack p work;
  privileged = p.privileged || (signature_in p.program f).privileged;
}

-- at the end of its code
end_runs : (p : Spot) (f : ℕ) (result : Option ℕ) (work : List Work) (n : ℕ) (from : Step Outside) (active : List Active) (st : State) (ty : Option IntType) (span : Span) → st.left ≤ n →
    Leads p.program from (s.at_end ty span (machine_at p.machine active st) (outside_of st) (active_in (inner p f result work) []) (stack p work)) →
    Runs p n from work (c.at_end ty span (p.depth + 1) st >>= kept_in (frame_in p) result)
end_runs p f result work n from active st None span le l = reached p n from work (t.with_blocks (kept p.depth result None (without_frames st.memory (p.depth + 1))) (left_at (p.depth + 1) st)) le l
end_runs p f result work n from active st (Some ty) span le l = record { active = active; by = l }

-- only the depth and the result of the function that ends count
end_same : (ty : Option IntType) (span : Span) (p : Spot) (f : ℕ) (result : Option ℕ) (work now : List Work) (m : Machine) (g : Outside) →
    s.at_end ty span m g (active_in (inner p f result work) now) (stack p work) ≡ s.at_end ty span m g (active_in (inner p f result work) []) (stack p work)
end_same None span p f result work now m g = refl
end_same (Some ty) span p f result work now m g = refl

-- with no work left
empty_runs : (p : Spot) (f : ℕ) (result : Option ℕ) (work : List Work) (n : ℕ) (from : Step Outside) (now : List Work) (st : State) → st.left ≤ n → settled now ≡ [] →
    Leads p.program from (with_work (inner p f result work) now st) →
    Runs p n from work (c.at_end (signature_in p.program f).result (function_in p.program f).end (p.depth + 1) st >>= kept_in (frame_in p) result)
empty_runs p f result work n from now st le e l =
    end_runs p f result work n from (stack (inner p f result work) now) st (signature_in p.program f).result (function_in p.program f).end le
    (leads_on l
    (leads_on (step_of (inner p f result work) now [] st e)
    (leads_is p.program _ _ (end_same (signature_in p.program f).result (function_in p.program f).end p f result work now (machine_at p.machine (stack (inner p f result work) now) st) (outside_of st)))))

-- the body's outcome, and then the caller's
body_runs : (p : Spot) (f : ℕ) (result : Option ℕ) (work : List Work) (n : ℕ) (from : Step Outside) (o : Outcome Flow) → Runs (inner p f result work) n from [] o →
    Runs p n from work ((o >>= returned_from (signature_in p.program f).result (function_in p.program f).end (p.depth + 1)) >>= kept_in (frame_in p) result)
body_runs p f result work n from (gives goes_on st) r = empty_runs p f result work n from r.1.left_work st r.0 r.1.same r.1.by
body_runs p f result work n from (gives broke st) r = empty_runs p f result work n from r.1.left_work st r.0 r.1.same r.1.by
body_runs p f result work n from (gives continues st) r = empty_runs p f result work n from r.1.left_work st r.0 r.1.same r.1.by
body_runs p f result work n from (gives (returned v) st) r = reached p n from work (t.with_blocks (kept p.depth result v (without_frames st.memory (p.depth + 1))) (left_at (p.depth + 1) st)) r.0 r.1
body_runs p f result work n from (trapped trap span st) r = record { active = r.active; by = r.by }
body_runs p f result work n from (spent st) r = record { active = r.active; by = r.by }

-- the machine that has entered the function
abbrev entering : Spot → ℕ → List Cell → Option ℕ → List Work → State → Machine → Step Outside
entering p f args result work st m1 =
    answers moved
    (record m1 {
      active = just_entered p.program (p.privileged || (signature_in p.program f).privileged) f (p.depth + 1) result ∷ m1.active;
      blocks = entered p.program f (p.depth + 1) args m1.blocks;
    })
    (whole_noted p.program p.privileged f args (outside_of st))

abbrev entered_state : Spot → ℕ → List Cell → State → State
entered_state p f args st =
    let st2 = noted_call p.program (frame_in p) f args st in
    t.with_blocks (entered p.program f (p.depth + 1) args st2.memory) st2

function_runs : (p : Spot) (calls : t.Calls) → ((q : Spot) → q.program ≡ p.program → q.depth ≡ p.depth + 1 → CallsFollow q calls) → p.depth < deepest →
    (span : Span) (f : ℕ) (args : List Cell) (result : Option ℕ) (work : List Work) (st : State) → st.left ≤ p.machine.budget →
    Runs p st.left (enters_at p.program (whole_gate p.program) (machine_at p.machine (stack p work) st) (outside_of st) span f args result (p.depth + 1)) work (function_call p.program calls (frame_in p) f args st >>= kept_in (frame_in p) result)
function_runs p calls follow deep span f args result work st le =
    let test : nat_le (p.depth + 1) deepest ≡ true = le-leb (p.depth + 1) deepest (omega arith) in
    let q : Spot = inner p f result work in
    runs_from p st.left st.left
    (enters_at p.program (whole_gate p.program) (machine_at p.machine (stack p work) st) (outside_of st) span f args result (p.depth + 1))
    (turned (machine_at p.machine (stack p work) st) (outside_of st) (entering p f args result work st)) work
    (function_call p.program calls (frame_in p) f args st >>= kept_in (frame_in p) result) (at_most_self st.left)
    (leads_is p.program _ _
    (if_true (nat_le (p.depth + 1) deepest)
    (turned (machine_at p.machine (stack p work) st) (outside_of st) (entering p f args result work st))
    (answers (s.trapped Depth span) (machine_at p.machine (stack p work) st) (outside_of st)) test))
    (turn_runs p (stack p work) st (λ o. o >>= kept_in (frame_in p) result) (entering p f args result work st)
    (λ st1. body_run p.program calls (inner_frame p.program (frame_in p) f) f args (noted_call p.program (frame_in p) f args st1))
    work st.left refl le (λ st1. refl)
    (λ l room e.
    runs_from p l l (entering p f args result work st (machine_at p.machine (stack p work) (with_left l st)))
    (with_work q (run (function_in p.program f).body ∷ []) (entered_state p f args (with_left l st))) work
    (body_run p.program calls (inner_frame p.program (frame_in p) f) f args (noted_call p.program (frame_in p) f args (with_left l st)) >>= kept_in (frame_in p) result) (at_most_self l)
    (leads_same p.program (entering p f args result work st (machine_at p.machine (stack p work) (with_left l st))))
    (body_runs p f result work l (with_work q (run (function_in p.program f).body ∷ []) (entered_state p f args (with_left l st)))
    (do_all (function_in p.program f).body (frame_in q) calls (entered_state p f args (with_left l st)))
    (all_run q calls (follow q refl refl) (function_in p.program f).body [] (run (function_in p.program f).body ∷ []) (entered_state p f args (with_left l st)) (omega arith) refl))))

too_deep : (p : Spot) → deepest ≤ p.depth →
    (span : Span) (f : ℕ) (args : List Cell) (result : Option ℕ) (work : List Work) (st : State) →
    Runs p st.left (enters_at p.program (whole_gate p.program) (machine_at p.machine (stack p work) st) (outside_of st) span f args result (p.depth + 1)) work (trapped Depth span st)
too_deep p deep span f args result work st =
    let test : nat_le (p.depth + 1) deepest ≡ false = lt-leb (p.depth + 1) deepest (omega arith) in
    record {
      active = stack p work;
      by = leads_is p.program _ _
          (if_false (nat_le (p.depth + 1) deepest)
          (turned (machine_at p.machine (stack p work) st) (outside_of st) (entering p f args result work st))
          (answers (s.trapped Depth span) (machine_at p.machine (stack p work) st) (outside_of st)) test);
    }

-- ---- calls

by_kind : (p : Spot) (span : Span) (f : ℕ) (args : List Cell) (result : Option ℕ) (work : List Work) (n : ℕ) (m : Machine) (g : Outside) (host : Bool) (x y : Outcome (Option Cell)) →
    Runs p n (made_here p.program (whole_gate p.program) m g f args result p.depth) work (x >>= kept_in (frame_in p) result) →
    Runs p n (enters_at p.program (whole_gate p.program) m g span f args result (p.depth + 1)) work (y >>= kept_in (frame_in p) result) →
    Runs p n (by_way p.program (whole_gate p.program) m g span f args result p.depth (if host then here else enters)) work ((if host then x else y) >>= kept_in (frame_in p) result)
by_kind p span f args result work n m g true x y h k = h
by_kind p span f args result work n m g false x y h k = k

-- so much deeper
pub calls_follow : (deeper : ℕ) (program : ProgramTree) (p : Spot) → p.program ≡ program → deeper ≡ deepest - p.depth → CallsFollow p (calls_within program deeper)
calls_follow zero program p same e =
    subst (λ x. CallsFollow p (calls_within x zero)) same
    (λ span f args result work st le.
    by_kind p span f args result work st.left (machine_at p.machine (stack p work) st) (outside_of st) (signature_in p.program f).host (host_call p.program (frame_in p) f args st) (trapped Depth span st)
    (host_runs p f args result work st le) (too_deep p (omega arith) span f args result work st))
calls_follow (suc deeper) program p same e =
    subst (λ x. CallsFollow p (calls_within x (suc deeper))) same
    (λ span f args result work st le.
    by_kind p span f args result work st.left (machine_at p.machine (stack p work) st) (outside_of st) (signature_in p.program f).host (host_call p.program (frame_in p) f args st) (function_call p.program (calls_within p.program deeper) (frame_in p) f args st)
    (host_runs p f args result work st le)
    (function_runs p (calls_within p.program deeper) (λ q is at. calls_follow deeper p.program q is (omega arith)) (omega arith) span f args result work st le))
