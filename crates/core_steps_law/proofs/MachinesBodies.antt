-- Bodies, step by step.
use Rattle.std.proofs.Common.{◌≡◌, ◌∙◌, ℕ, zero, suc, ◌+◌, ◌-◌, ◌≤◌, ◌<◌, List, [], ◌∷◌, ◌++◌, Option, Some, None, Bool, true, false, refl, sym, ap, subst, append_assoc, append-nil, arith}
use Rattle.std.specs.Prelude.{ℤ, map, nat_lt, if◌then◌else◌, ◌&&◌, not}
use Rattle.pt_tree.specs.PlainNumbers.{plain_numbers}
use Rattle.std.proofs.lemmas.Bool.{ltb-true, ltb-false}
use Rattle.pt_base.specs.declared.int_type.IntType.{IntType}
use Rattle.pt_base.specs.declared.span.Span.{Span}
use Rattle.pt_tree.specs.HostStep.{Answer, host_step}
use Rattle.block_memory.specs.declared.cell.Cell.{Cell}
use Rattle.runs.specs.State as r
use Rattle.runs.specs.State.{Event, guarded, gives, ◌>>=◌, guarded_event, out_event, put_host}
use Rattle.runs.specs.Run.{deepest, written}
use Rattle.pt_tree.specs.declared.signature.Signature.{Signature}
use Rattle.pt_core.specs.CodeTree.{ProgramTree, StmtTrees}
use Rattle.pt_core.specs.Values.{number_in}
use Rattle.pt_core.specs.Statements as t
use Rattle.pt_core.specs.Statements.{State, Outcome, Flow, goes_on, broke, continues, returned, do_all}
use Rattle.pt_core.specs.Calls as c
use Rattle.pt_core.specs.Calls.{signature_in, function_in, returned_from, calls_within, entered}
use Rattle.pt_core.specs.Steps as s
use Rattle.pt_core.specs.Steps.{Work, run, Active, Machine, Gate, moved, asked, ended, trapped, spent, idle, Step, answers, settled, step, started, just_entered}
use Rattle.core_steps_law.specs.WholeRun.{Outside, whole_gate, further, steps_run}
use Rattle.core_steps_law.specs.Laws.{state_of, machine_at, outside_of, frame_of, Comes, Follows}
use Rattle.core_steps_law.proofs.CallSteps.{calls_follow}
use Rattle.core_steps_law.proofs.Spots.{Spot, frame_in, with_work, Runs}
use Rattle.core_steps_law.proofs.StatementSteps.{all_run}
use Rattle.core_steps_law.proofs.Sums.{steps_add}
use Rattle.core_steps_law.proofs.WholeSteps.{steps_follow_statements}
use Rattle.core_steps_law.specs.GatesShown.{Shows, step_shown}
use Rattle.core_steps_law.specs.GatesWritten.{Written, bytes_gate}
use Rattle.core_steps_law.proofs.GatesAgreement.{gates_agree}
use Rattle.core_steps_law.proofs.GatesWrittenBytes.{written-append}
use Rattle.core_steps_law.specs.MachinesBodies.{body_state, body_outcome, IsOutcome, BodiesAreSteps, FirstStop, OneStop, StopsBegin, TakesTurns}

-- ---- one step more, and none

further_none : {G : Type 0} (answer : s.Answer) (m : Machine) (g : G) → further (answers answer m g) (λ m1 g1. answers moved m1 g1) ≡ answers answer m g
further_none moved m g = refl
further_none (asked f args depth) m g = refl
further_none (ended v) m g = refl
further_none (trapped trap span) m g = refl
further_none spent m g = refl
further_none idle m g = refl

-- what has stopped stays
stays : {G : Type 0} (answer : s.Answer) (m : Machine) (g : G) (next : Machine → G → Step G) → (answer ≡ moved → ⊥) → further (answers answer m g) next ≡ answers answer m g
stays moved m g next h = absurd (h refl)
stays (asked f args depth) m g next h = refl
stays (ended v) m g next h = refl
stays (trapped trap span) m g next h = refl
stays spent m g next h = refl
stays idle m g next h = refl

-- more steps than those after which a run has stopped
pub no_more : {G : Type 0} (program : ProgramTree) (gate : Gate G) (m : Machine) (g : G) (n k : ℕ) → n ≤ k → ((steps_run program gate n m g).answer ≡ moved → ⊥) → steps_run program gate k m g ≡ steps_run program gate n m g
no_more {G} program gate m g n k le h =
    let x : Step G = steps_run program gate n m g in
    let sum : k ≡ n + (k - n) = omega arith in
    ap (λ i. steps_run program gate i m g) sum ∙ steps_add G program gate n (k - n) m g ∙ stays x.answer x.machine x.gate (steps_run program gate (k - n)) h

pub one_stop : {G : Type 0} → OneStop G
one_stop {G} program gate m g n k h i = by_order (nat_lt n k) refl
  where
    by_order : (b : Bool) → nat_lt n k ≡ b → steps_run program gate n m g ≡ steps_run program gate k m g
    by_order true e = let less : n < k = ltb-true n k e in sym (no_more program gate m g n k (omega arith) h)
    by_order false e = let less : k ≤ n = ltb-false n k e in no_more program gate m g k n less i

-- ---- the first stop

abbrev FirstOf : {G : Type 0} → (ℕ → Step G) → ℕ → Type 0
FirstOf after i = ((after i).answer ≡ moved → ⊥) × ((k : ℕ) → k < i → (after k).answer ≡ moved)

at_once : {G : Type 0} (after : ℕ → Step G) → ((after 0).answer ≡ moved → ⊥) → (i : ℕ) × FirstOf after i
at_once after h = (0, (h, λ k less. absurd (omega arith)))

first_further : {G : Type 0} (program : ProgramTree) (gate : Gate G) (n : ℕ) (answer : s.Answer) (m : Machine) (g : G) →
    (((steps_run program gate n m g).answer ≡ moved → ⊥) → (i : ℕ) × FirstOf (λ i. steps_run program gate i m g) i) →
    ((further (answers answer m g) (steps_run program gate n)).answer ≡ moved → ⊥) → (i : ℕ) × FirstOf (λ i. further (answers answer m g) (steps_run program gate i)) i
first_further program gate n moved m g first h = first h
first_further program gate n (asked f args depth) m g first h = at_once (λ i. further (answers (asked f args depth) m g) (steps_run program gate i)) h
first_further program gate n (ended v) m g first h = at_once (λ i. further (answers (ended v) m g) (steps_run program gate i)) h
first_further program gate n (trapped trap span) m g first h = at_once (λ i. further (answers (trapped trap span) m g) (steps_run program gate i)) h
first_further program gate n spent m g first h = at_once (λ i. further (answers spent m g) (steps_run program gate i)) h
first_further program gate n idle m g first h = at_once (λ i. further (answers idle m g) (steps_run program gate i)) h

one_later : {G : Type 0} (program : ProgramTree) (gate : Gate G) (m : Machine) (g : G) → (i : ℕ) × FirstOf (λ i. further (step program gate m g) (steps_run program gate i)) i → (i : ℕ) × FirstStop program gate m g i
one_later program gate m g f = (suc f.0, record { stopped = f.1.0; before = before })
  where
    before : (k : ℕ) → k < suc f.0 → (steps_run program gate k m g).answer ≡ moved
    before zero less = refl
    before (suc k) less = f.1.1 k (omega arith)

pub stops_begin : {G : Type 0} → StopsBegin G
stops_begin program gate m g zero h = absurd (h refl)
stops_begin {G} program gate m g (suc n) h =
    let x : Step G = step program gate m g in
    one_later program gate m g
    (first_further program gate n x.answer x.machine x.gate
    (λ h1. let f = stops_begin program gate x.machine x.gate n h1 in (f.0, (f.1.stopped, f.1.before))) h)

comes_further : (program : ProgramTree) (m : Machine) (g : Outside) (m1 : Machine) (g1 : Outside) → Comes program m g (answers moved m1 g1) → Comes program m g (step program (whole_gate program) m1 g1)
comes_further program m g m1 g1 l =
    let x : Step Outside = step program (whole_gate program) m1 g1 in (
      l.0 + 1,
      steps_add Outside program (whole_gate program) l.0 1 m g
          ∙ ap (λ y. further y (steps_run program (whole_gate program) 1)) l.1
          ∙ further_none x.answer x.machine x.gate,
    )

-- ---- under the gate of a whole run

-- what the recursion came to, with its events
abbrev WholeOutcome : Machine → Outcome (Option Cell) → Step Outside → Type 0
WholeOutcome m (gives v st) x = x ≡ answers (ended v) (machine_at m [] st) (outside_of st)
WholeOutcome m (r.trapped trap span st) x = (active : List Active) × (x ≡ answers (trapped trap span) (machine_at m active st) (outside_of st))
WholeOutcome m (r.spent st) x = (active : List Active) × (x ≡ answers spent (machine_at m active st) (outside_of st))

abbrev begun_body : ProgramTree → Bool → ℕ → ℕ → Active
begun_body program privileged f depth = just_entered program privileged f depth None

-- in some number of steps
abbrev ComesTo : ProgramTree → Machine → Machine → Outside → Outcome (Option Cell) → Type 0
ComesTo program m from g o = (n : ℕ) × WholeOutcome m o (steps_run program (whole_gate program) n from g)

-- at the end of its code
at_end : (program : ProgramTree) (m from : Machine) (g : Outside) (active : List Active) (a : Active) (st : State) (ty : Option IntType) (span : Span) →
    Comes program from g (s.at_end ty span (machine_at m active st) (outside_of st) a []) → ComesTo program m from g (c.at_end ty span a.depth st)
at_end program m from g active a st None span l = l
at_end program m from g active a st (Some ty) span l = (l.0, (active, l.1))

-- with no work left
empty : (program : ProgramTree) (m from : Machine) (g : Outside) (privileged : Bool) (f depth : ℕ) (left_work : List Work) (st : State) → settled left_work ≡ [] →
    Comes program from g (answers moved (machine_at m (record (begun_body program privileged f depth) { work = left_work } ∷ []) st) (outside_of st)) →
    ComesTo program m from g (c.at_end (signature_in program f).result (function_in program f).end depth st)
empty program m from g privileged f depth left_work st e l =
    let a : Active = record (begun_body program privileged f depth) { work = left_work } in
    let m1 : Machine = machine_at m (a ∷ []) st in
    let more = comes_further program from g m1 (outside_of st) l in
    at_end program m from g (a ∷ []) a st (signature_in program f).result (function_in program f).end
    (more.0, more.1 ∙ ap (s.works program (whole_gate program) m1 (outside_of st) a []) e)

body_by : (program : ProgramTree) (m : Machine) (g : Outside) (privileged : Bool) (f depth : ℕ) (args : List Cell) (o : Outcome Flow) →
    Follows program (started program privileged f depth args m) g (begun_body program privileged f depth) [] [] o →
    ComesTo program m (started program privileged f depth args m) g (o >>= returned_from (signature_in program f).result (function_in program f).end depth)
body_by program m g privileged f depth args (gives goes_on st) h = empty program m (started program privileged f depth args m) g privileged f depth h.left_work st h.same h.comes
body_by program m g privileged f depth args (gives broke st) h = empty program m (started program privileged f depth args m) g privileged f depth h.left_work st h.same h.comes
body_by program m g privileged f depth args (gives continues st) h = empty program m (started program privileged f depth args m) g privileged f depth h.left_work st h.same h.comes
body_by program m g privileged f depth args (gives (returned v) st) h = h
body_by program m g privileged f depth args (r.trapped trap span st) h = (h.comes.0, (h.active, h.comes.1))
body_by program m g privileged f depth args (r.spent st) h = (h.comes.0, (h.active, h.comes.1))

whole_body : (program : ProgramTree) (m : Machine) (g : Written) (privileged : Bool) (f depth : ℕ) (args : List Cell) → m.turns ≤ m.budget →
    ComesTo program m (started program privileged f depth args m) (outside_of (body_state m g)) (body_outcome program privileged f depth args m g)
whole_body program m g privileged f depth args le =
    let from : Machine = started program privileged f depth args m in
    let a : Active = begun_body program privileged f depth in
    body_by program m (outside_of (body_state m g)) privileged f depth args
    (do_all (function_in program f).body (frame_of program a) (calls_within program (deepest - depth)) (state_of from (outside_of (body_state m g))))
    (steps_follow_statements program from (outside_of (body_state m g)) a [] (function_in program f).body [] refl refl le)

-- ---- under the gate that keeps the written bytes

abbrev bytes_from : List ℕ → Outside → Written
bytes_from bytes g = record { hosts = g.hosts; input = g.input; bytes = bytes ++ written g.events }

abbrev nothing : Outside → ℕ
nothing g = 0

-- a guarded call writes nothing
noted_none : (active : Bool) (sig : Signature) (f : ℕ) (vs : List ℤ) → written (guarded_event active sig f vs) ≡ []
noted_none active sig f vs = by_both active sig.privileged
  where
    by_both : (x y : Bool) → written (if y && not x then guarded f (plain_numbers sig.params vs) ∷ [] else []) ≡ []
    by_both true true = refl
    by_both true false = refl
    by_both false true = refl
    by_both false false = refl

more_bytes : (bytes : List ℕ) (xs ys : List Event) → bytes ++ written (xs ++ ys) ≡ (bytes ++ written xs) ++ written ys
more_bytes bytes xs ys = ap (λ l. bytes ++ l) (written-append xs ys) ∙ sym (append_assoc bytes (written xs) (written ys))

same_bytes : (bytes : List ℕ) (xs ys : List Event) → written ys ≡ [] → bytes ++ written (xs ++ ys) ≡ bytes ++ written xs
same_bytes bytes xs ys e = more_bytes bytes xs ys ∙ ap (λ l. (bytes ++ written xs) ++ l) e ∙ append-nil (bytes ++ written xs)

abbrev with_bytes : Written → List ℕ → Written
with_bytes g bytes = record g { bytes = bytes }

bytes_show : (program : ProgramTree) (bytes : List ℕ) → Shows (bytes_from bytes) nothing 0 (whole_gate program) (bytes_gate program)
bytes_show program bytes = record {
  way = λ f args g e. refl;
  noted = λ active f args g e.
      let numbers : List ℤ = map number_in args in
      ap (with_bytes (bytes_from bytes g)) (sym (same_bytes bytes g.events (guarded_event active (signature_in program f) f numbers) (noted_none active (signature_in program f) f numbers)));
  answer = λ f numbers g e.
      let answer : Answer = host_step g.input (g.hosts f) numbers in
      ap (λ bs. (answer.result, with_bytes (bytes_from bytes (record g { hosts = put_host g.hosts f answer.next })) bs)) (sym (more_bytes bytes g.events (out_event answer.written)));
  noted_stays = λ active f args g. refl;
  answer_stays = λ f numbers g. refl;
}

shown_outcome : (m : Machine) (g : Written) (o : Outcome (Option Cell)) (x : Step Outside) → WholeOutcome m o x → IsOutcome m g o (step_shown (bytes_from g.bytes) x)
shown_outcome m g (gives v st) x h = ap (step_shown (bytes_from g.bytes)) h
shown_outcome m g (r.trapped trap span st) x h = (h.0, ap (step_shown (bytes_from g.bytes)) h.1)
shown_outcome m g (r.spent st) x h = (h.0, ap (step_shown (bytes_from g.bytes)) h.1)

none_written : (g : Written) → bytes_from g.bytes (record { hosts = g.hosts; input = g.input; events = [] }) ≡ g
none_written g = ap (with_bytes g) (append-nil g.bytes)

pub body_comes : (program : ProgramTree) (privileged : Bool) (f depth : ℕ) (args : List Cell) (m : Machine) (g : Written) → m.turns ≤ m.budget →
    (n : ℕ) × IsOutcome m g (body_outcome program privileged f depth args m g) (steps_run program (bytes_gate program) n (started program privileged f depth args m) g)
body_comes program privileged f depth args m g le =
    let from : Machine = started program privileged f depth args m in
    let g0 : Outside = outside_of (body_state m g) in
    let o : Outcome (Option Cell) = body_outcome program privileged f depth args m g in
    let whole = whole_body program m g privileged f depth args le in
    let shown = gates_agree (bytes_from g.bytes) nothing 0 (whole_gate program) (bytes_gate program) (bytes_show program g.bytes) program whole.0 from g0 refl in
    let same : steps_run program (bytes_gate program) whole.0 from g ≡ step_shown (bytes_from g.bytes) (steps_run program (whole_gate program) whole.0 from g0) =
    ap (steps_run program (bytes_gate program) whole.0 from) (sym (none_written g)) ∙ shown in
    (whole.0, subst (λ x. IsOutcome m g o x) (sym same) (shown_outcome m g o (steps_run program (whole_gate program) whole.0 from g0) whole.1))

-- an outcome has stopped
has_stopped : (m : Machine) (g : Written) (o : Outcome (Option Cell)) (x : Step Written) → IsOutcome m g o x → x.answer ≡ moved → ⊥
has_stopped m g (gives v st) x h e = not_moved v (sym (ap (λ (y : Step Written). y.answer) h) ∙ e)
  where
    not_moved : (v : Option Cell) → ended v ≡ moved → ⊥
    not_moved v e = cc
has_stopped m g (r.trapped trap span st) x h e = not_moved (sym (ap (λ (y : Step Written). y.answer) h.1) ∙ e)
  where
    not_moved : trapped trap span ≡ moved → ⊥
    not_moved e = cc
has_stopped m g (r.spent st) x h e = not_moved (sym (ap (λ (y : Step Written). y.answer) h.1) ∙ e)
  where
    not_moved : spent ≡ moved → ⊥
    not_moved e = cc

-- ---- turns

left_end : (n depth : ℕ) (ty : Option IntType) (span : Span) (st : State) → st.left ≤ n → TakesTurns n (c.at_end ty span depth st)
left_end n depth None span st h = h
left_end n depth (Some ty) span st h = tt

left_by : (p : Spot) (n depth : ℕ) (from : Step Outside) (ty : Option IntType) (span : Span) (o : Outcome Flow) → Runs p n from [] o → TakesTurns n (o >>= returned_from ty span depth)
left_by p n depth from ty span (gives goes_on st) h = left_end n depth ty span st h.0
left_by p n depth from ty span (gives broke st) h = left_end n depth ty span st h.0
left_by p n depth from ty span (gives continues st) h = left_end n depth ty span st h.0
left_by p n depth from ty span (gives (returned v) st) h = h.0
left_by p n depth from ty span (r.trapped trap place st) h = tt
left_by p n depth from ty span (r.spent st) h = tt

turns_left : (program : ProgramTree) (privileged : Bool) (f depth : ℕ) (args : List Cell) (m : Machine) (g : Written) → TakesTurns (m.budget - m.turns) (body_outcome program privileged f depth args m g)
turns_left program privileged f depth args m g =
    let p : Spot = record { program = program; machine = m; function = f; depth = depth; result = None; rest = []; privileged = privileged } in
    let st : State = t.with_blocks (entered program f depth args m.blocks) (body_state m g) in
    let body : StmtTrees = (function_in program f).body in
    let calls : t.Calls = calls_within program (deepest - depth) in
    left_by p (m.budget - m.turns) depth (with_work p (run body ∷ []) st) (signature_in program f).result (function_in program f).end (do_all body (frame_in p) calls st)
    (all_run p calls (calls_follow (deepest - depth) program p refl refl) body [] (run body ∷ []) st (omega arith) refl)

pub bodies_are_steps : BodiesAreSteps
bodies_are_steps program privileged f depth args m g le =
    let from : Machine = started program privileged f depth args m in
    let o : Outcome (Option Cell) = body_outcome program privileged f depth args m g in
    let comes = body_comes program privileged f depth args m g le in
    let stopped = has_stopped m g o (steps_run program (bytes_gate program) comes.0 from g) comes.1 in
    let first = stops_begin program (bytes_gate program) from g comes.0 stopped in
    let only : (n : ℕ) → ((steps_run program (bytes_gate program) n from g).answer ≡ moved → ⊥) → IsOutcome m g o (steps_run program (bytes_gate program) n from g) =
    λ n h. subst (λ x. IsOutcome m g o x) (one_stop program (bytes_gate program) from g comes.0 n stopped h) comes.1 in
    record { comes = (first.0, first.1, only first.0 first.1.stopped); only = only; turns = turns_left program privileged f depth args m g }
