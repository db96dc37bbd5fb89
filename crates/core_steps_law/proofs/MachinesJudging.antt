-- Runs that are judged as they go.
use Rattle.std.proofs.Common.{◌≡◌, ◌∙◌, ℕ, ◌+◌, List, [], ◌∷◌, ◌++◌, Option, Some, None, refl, sym, ap, append_assoc, append-nil, arith}
use Rattle.std.specs.Prelude.{map, option_map}
use Rattle.pt_base.specs.declared.end.End.{End}
use Rattle.pt_base.specs.declared.end.End.TheVariants.{Refused}
use Rattle.pt_tree.specs.HostStep.{Answer, host_step}
use Rattle.runs.specs.State.{Event, out, guarded, Hosts, guarded_event, out_event, put_host}
use Rattle.runs.specs.Run as run
use Rattle.runs.specs.Run.{Run, Answers, Expected, expected, expected_from, after_bytes}
use Rattle.pt_core.specs.CodeTree.{ProgramTree}
use Rattle.pt_core.specs.Values.{number_in}
use Rattle.pt_core.specs.Calls.{signature_in}
use Rattle.pt_core.specs.CoreRun.{core_run}
use Rattle.pt_core.specs.Steps as s
use Rattle.pt_core.specs.Steps.{Machine, Step, answers}
use Rattle.core_steps_law.specs.WholeRun.{Outside, whole_gate, after_steps, begun_machine, begun_outside, end_of, further, run_seen, steps_run}
use Rattle.core_steps_law.proofs.Sums.{steps_add}
use Rattle.core_steps_law.proofs.OneRun.{only_the_run_is_seen}
use Rattle.core_steps_law.proofs.WholeSteps.{steps_are_the_run}
use Rattle.core_steps_law.specs.GatesShown.{Shows, step_shown}
use Rattle.core_steps_law.proofs.GatesAgreement.{gates_agree}
use Rattle.core_steps_law.specs.MachinesJudged.{Judgement, Judging, decided, heard, unless, judged_one, judged, unjudged, end_after, judged_end, judging_gate, judging_of, begun_judging, judged_after}
use Rattle.core_steps_law.specs.MachinesJudgedLaws.{JudgedRuns, FoldsAreExpected, RefusalsStay, IsJudged, RunsAreJudged, RefusedRunsAreExpected}
use Rattle.core_steps_law.proofs.MachinesBodies.{no_more}

-- ---- the fold

judged-append : {S : Type 0} (policy : Answers S) (j : Judgement S) (xs ys : List Event) → judged policy j (xs ++ ys) ≡ judged policy (judged policy j xs) ys
judged-append policy j [] ys = refl
judged-append policy j (x ∷ xs) ys = judged-append policy (judged_one policy x j) xs ys

pub refusals_stay : {S : Type 0} → RefusalsStay S
refusals_stay policy j [] refusal h = refl
refusals_stay policy j (x ∷ xs) refusal h =
    let same : judged_one policy x j ≡ j = ap (λ o. unless o (heard policy x) j) h in
    ap (λ i. judged policy i xs) same ∙ refusals_stay policy j xs refusal h

-- an event from a judgement without a refusal
one_heard : {S : Type 0} (policy : Answers S) (x : Event) (j : Judgement S) → j.refused ≡ None → judged_one policy x j ≡ heard policy x j
one_heard policy x j h = ap (λ o. unless o (heard policy x) j) h

after_twice : (xs ys : List ℕ) (e : Expected) → after_bytes (xs ++ ys) e ≡ after_bytes xs (after_bytes ys e)
after_twice xs ys e = ap (λ bs. record { bytes = bs; end = e.end }) (append_assoc xs ys e.bytes)

abbrev Reads : {S : Type 0} → Answers S → Judgement S → List Event → End → Type 0
Reads policy j events end = judged_end (judged policy j events) end ≡ after_bytes j.bytes (expected_from policy j.state j.calls events end)

-- behind a guarded call
call_read : {S : Type 0} (policy : Answers S) (j : Judgement S) (f : ℕ) (events : List Event) (end : End) (next : Option S) → j.refused ≡ None →
    ((i : Judgement S) → i.refused ≡ None → Reads policy i events end) →
    judged_end (judged policy (decided policy f j next) events) end
    ≡ after_bytes j.bytes (run.decided policy j.state (j.calls + 1) f next (λ s. expected_from policy s (j.calls + 1) events end))
call_read policy j f events end (Some s) h each = each (record j { state = s; calls = j.calls + 1 }) h
call_read policy j f events end None h each =
    let refusal : End = Refused (j.calls + 1) (record { 0 = f }) (policy.name j.state) in
    ap (λ i. judged_end i end) (refusals_stay policy (decided policy f j None) events refusal refl)
    ∙ ap (λ bs. record { bytes = bs; end = refusal }) (sym (append-nil j.bytes))

pub folds_are_expected : {S : Type 0} → FoldsAreExpected S
folds_are_expected policy j [] end h =
    ap (λ o. record { bytes = j.bytes; end = end_after o end }) h
    ∙ ap (λ bs. record { bytes = bs; end = end }) (sym (append-nil j.bytes))
folds_are_expected policy j (out bytes ∷ events) end h =
    ap (λ i. judged_end (judged policy i events) end) (one_heard policy (out bytes) j h)
    ∙ folds_are_expected policy (heard policy (out bytes) j) events end h
    ∙ after_twice j.bytes bytes (expected_from policy j.state j.calls events end)
folds_are_expected policy j (guarded f vs ∷ events) end h =
    ap (λ i. judged_end (judged policy i events) end) (one_heard policy (guarded f vs) j h)
    ∙ call_read policy j f events end (policy.next j.state f vs) h (λ i k. folds_are_expected policy i events end k)

-- ---- the gate

-- nothing has to stay
abbrev nothing : Outside → ℕ
nothing g = 0

abbrev with_judgement : {S : Type 0} → Judging S → Judgement S → Judging S
with_judgement g j = record g { judgement = j }

judging_shows : {S : Type 0} (policy : Answers S) (program : ProgramTree) (j : Judgement S) → Shows (judging_of policy j) nothing 0 (whole_gate program) (judging_gate policy program)
judging_shows policy program j = record {
  way = λ f args g e. refl;
  noted = λ active f args g e. ap (with_judgement (judging_of policy j g)) (sym (judged-append policy j g.events (guarded_event active (signature_in program f) f (map number_in args))));
  answer = λ f numbers g e.
      let answer : Answer = host_step g.input (g.hosts f) numbers in
      ap (λ i. (answer.result, with_judgement (judging_of policy j (record g { hosts = put_host g.hosts f answer.next })) i)) (sym (judged-append policy j g.events (out_event answer.written)));
  noted_stays = λ active f args g. refl;
  answer_stays = λ f numbers g. refl;
}

pub judged_runs : {S : Type 0} → JudgedRuns S
judged_runs policy program n m g j = gates_agree (judging_of policy j) nothing 0 (whole_gate program) (judging_gate policy program) (judging_shows policy program j) program n m g refl

-- ---- whole runs

run_same : {S : Type 0} (policy : Answers S) (program : ProgramTree) (hosts : Hosts) (input : List ℕ) (turns n : ℕ) →
    judged_after policy program hosts input turns n ≡ step_shown (judging_of policy (unjudged policy)) (after_steps program hosts input turns n)
run_same policy program hosts input turns n = judged_runs policy program n (begun_machine program turns) (begun_outside hosts input) (unjudged policy)

abbrev run_at : Step Outside → End → Run
run_at s end = record { events = s.gate.events; end = end; turns = s.machine.turns }

seen_at : (s : Step Outside) (end : End) → end_of s.answer ≡ Some end → run_seen s ≡ Some (run_at s end)
seen_at s end h = ap (option_map (λ e. run_at s e)) h

end_seen : (s : Step Outside) (o : Option End) (r : Run) → end_of s.answer ≡ o → option_map (λ e. run_at s e) o ≡ Some r → end_of s.answer ≡ Some r.end
end_seen s None r h e = cc
end_seen s (Some end) r h e = h ∙ ap (option_map (λ (x : Run). x.end)) e

pub run_is_judged : {S : Type 0} (policy : Answers S) (program : ProgramTree) (hosts : Hosts) (input : List ℕ) (turns n : ℕ) (end : End) →
    end_of (judged_after policy program hosts input turns n).answer ≡ Some end → IsJudged policy program hosts input turns (judged_after policy program hosts input turns n) end
run_is_judged {S} policy program hosts input turns n end h =
    let same = run_same policy program hosts input turns n in
    let s : Step Outside = after_steps program hosts input turns n in
    let ends : end_of s.answer ≡ Some end = sym (ap (λ (x : Step (Judging S)). end_of x.answer) same) ∙ h in
    let is : run_at s end ≡ core_run program hosts input turns = only_the_run_is_seen program hosts input turns n (run_at s end) (seen_at s end ends) in
    record {
      judgement_is = ap (λ (x : Step (Judging S)). judged_end x.gate.judgement end) same ∙ folds_are_expected policy (unjudged policy) s.gate.events end refl ∙ ap (expected policy) is;
      end_is = ap (λ (r : Run). r.end) is;
      turns_are = ap (λ (x : Step (Judging S)). x.machine.turns) same ∙ ap (λ (r : Run). r.turns) is;
    }

pub runs_are_judged : {S : Type 0} → RunsAreJudged S
runs_are_judged {S} policy program hosts input turns =
    let first = steps_are_the_run program hosts input turns in
    let s : Step Outside = after_steps program hosts input turns first.0 in
    record {
      ends = run_is_judged policy program hosts input turns;
      comes = (first.0, ap (λ (x : Step (Judging S)). end_of x.answer) (run_same policy program hosts input turns first.0) ∙ end_seen s (end_of s.answer) (core_run program hosts input turns) refl first.1);
    }

-- ---- refusals

abbrev judgement_in : {S : Type 0} → Step (Judging S) → Judgement S
judgement_in x = x.gate.judgement

-- a judgement with a refusal stays, whatever steps follow
stays_judged : {S : Type 0} (policy : Answers S) (program : ProgramTree) (n : ℕ) (m : Machine) (g : Judging S) (refusal : End) → g.judgement.refused ≡ Some refusal →
    judgement_in (steps_run program (judging_gate policy program) n m g) ≡ g.judgement
stays_judged policy program n m g refusal h =
    let g0 : Outside = record { hosts = g.hosts; input = g.input; events = [] } in
    ap judgement_in (judged_runs policy program n m g0 g.judgement)
    ∙ refusals_stay policy g.judgement (steps_run program (whole_gate program) n m g0).gate.events refusal h

further_judged : {S : Type 0} (policy : Answers S) (program : ProgramTree) (n : ℕ) (answer : s.Answer) (m : Machine) (g : Judging S) (refusal : End) → g.judgement.refused ≡ Some refusal →
    judgement_in (further (answers answer m g) (steps_run program (judging_gate policy program) n)) ≡ g.judgement
further_judged policy program n s.moved m g refusal h = stays_judged policy program n m g refusal h
further_judged policy program n (s.asked f args depth) m g refusal h = refl
further_judged policy program n (s.ended v) m g refusal h = refl
further_judged policy program n (s.trapped trap span) m g refusal h = refl
further_judged policy program n s.spent m g refusal h = refl
further_judged policy program n s.idle m g refusal h = refl

seen_stops : (x : Step Outside) (r : Run) → run_seen x ≡ Some r → x.answer ≡ s.moved → ⊥
seen_stops x r h e = none (sym (ap (λ a. run_seen (answers a x.machine x.gate)) e) ∙ h)
  where
    none : None ≡ Some r → ⊥
    none e = cc

refused_end : {S : Type 0} (j : Judgement S) (end refusal : End) → j.refused ≡ Some refusal → judged_end j end ≡ record { bytes = j.bytes; end = refusal }
refused_end j end refusal h = ap (λ o. record { bytes = j.bytes; end = end_after o end }) h

pub refused_runs_are_expected : {S : Type 0} → RefusedRunsAreExpected S
refused_runs_are_expected {S} policy program hosts input turns n refusal h =
    let m : Machine = begun_machine program turns in
    let g : Judging S = begun_judging policy hosts input in
    let first = steps_are_the_run program hosts input turns in
    let whole : Run = core_run program hosts input turns in
    let x : Step (Judging S) = judged_after policy program hosts input turns n in
    let last : ℕ = n + first.0 in
    let same : after_steps program hosts input turns last ≡ after_steps program hosts input turns first.0 =
    no_more program (whole_gate program) m (begun_outside hosts input) first.0 last (omega arith) (seen_stops (after_steps program hosts input turns first.0) whole first.1) in
    let y : Step Outside = after_steps program hosts input turns last in
    let ends : end_of (judged_after policy program hosts input turns last).answer ≡ Some whole.end =
    ap (λ (z : Step (Judging S)). end_of z.answer) (run_same policy program hosts input turns last)
    ∙ end_seen y (end_of y.answer) whole refl (ap run_seen same ∙ first.1) in
    let judgement : judgement_in (judged_after policy program hosts input turns last) ≡ x.gate.judgement =
    ap judgement_in (steps_add (Judging S) program (judging_gate policy program) n first.0 m g)
    ∙ further_judged policy program first.0 x.answer x.machine x.gate refusal h in
    sym (run_is_judged policy program hosts input turns last whole.end ends).judgement_is
    ∙ ap (λ j. judged_end j whole.end) judgement
    ∙ refused_end x.gate.judgement whole.end refusal h
