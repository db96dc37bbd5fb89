-- Lists of statements in any machine, and whole programs.
use Rattle.std.proofs.Common.{◌≡◌, ℕ, ◌-◌, ◌≤◌, List, [], ◌∷◌, Option, Some, None, false, refl, ap, ◌∙◌, arith}
use Rattle.pt_base.specs.declared.int_type.IntType.{IntType}
use Rattle.pt_base.specs.declared.span.Span.{Span}
use Rattle.pt_base.specs.declared.trap.Trap.TheVariants.{NoReturn}
use Rattle.pt_base.proofs.Numbers.{at_most_self}
use Rattle.block_memory.specs.declared.cell.Cell.{Cell}
use Rattle.runs.specs.State.{Hosts, gives, trapped, spent, ◌>>=◌}
use Rattle.runs.specs.Run.{deepest}
use Rattle.pt_core.specs.CodeTree.{ProgramTree, StmtTrees}
use Rattle.pt_core.specs.Statements as t
use Rattle.pt_core.specs.Statements.{State, Outcome, Calls, Flow, goes_on, broke, continues, returned, do_all}
use Rattle.pt_core.specs.Calls as c
use Rattle.pt_core.specs.Calls.{signature_in, function_in, entered, returned_from, calls_within}
use Rattle.pt_core.specs.CoreRun.{main_in, begun, main_frame, run_of, core_run}
use Rattle.pt_core.specs.Steps as s
use Rattle.pt_core.specs.Steps.{Work, run, Active, Machine, Answer, moved, Step, answers, settled, past_loop, at_head, step}
use Rattle.core_steps_law.specs.WholeRun.{Outside, begun_machine, begun_outside, run_seen}
use Rattle.core_steps_law.specs.Laws.{state_of, machine_at, outside_of, frame_of, Comes, Continues, Stops, Follows, StepsFollowStatements, StepsAreTheRun}
use Rattle.core_steps_law.proofs.Leads.{Leads, leads_is, leads_on, comes_by, first_end}
use Rattle.core_steps_law.proofs.Spots.{Spot, active_in, stack, with_work, step_of, Reaches, Halts, Runs, runs_from}
use Rattle.core_steps_law.proofs.StatementSteps.{all_run}
use Rattle.core_steps_law.proofs.CallSteps.{calls_follow}

-- ---- statements in any machine

abbrev spot_of : ProgramTree → Machine → Active → List Active → Spot
spot_of program m a rest = record {
  program = program;
  machine = m;
  function = a.function;
  depth = a.depth;
  result = a.result;
  rest = rest;
  privileged = a.privileged;
}

continues_by : (program : ProgramTree) (m : Machine) (g : Outside) (a : Active) (rest : List Active) (work : List Work) (st : State) → Reaches (spot_of program m a rest) (answers moved m g) work st → Continues program m g a rest work st
continues_by program m g a rest work st r = record {
  left_work = r.left_work;
  same = r.same;
  comes = comes_by program m g (answers moved (machine_at m (record a { work = r.left_work } ∷ rest) st) (outside_of st)) r.by;
}

stops_by : (program : ProgramTree) (m : Machine) (g : Outside) (a : Active) (rest : List Active) (answer : Answer) (st : State) → Halts (spot_of program m a rest) (answers moved m g) answer st → Stops program m g answer st
stops_by program m g a rest answer st r = record { active = r.active; comes = comes_by program m g (answers answer (machine_at m r.active st) (outside_of st)) r.by }

returned_any : (m : Machine) (a : Active) (rest : List Active) (v : Option Cell) (st : State) →
    s.returned (machine_at m [] st) (outside_of st) (record a { work = [] }) rest v ≡ s.returned (machine_at m [] st) (outside_of st) a rest v
returned_any m a [] v st = refl
returned_any m a (caller ∷ rest) v st = refl

follows_by : (program : ProgramTree) (m : Machine) (g : Outside) (a : Active) (rest : List Active) (work : List Work) (n : ℕ) (o : Outcome Flow) → Runs (spot_of program m a rest) n (answers moved m g) work o → Follows program m g a rest work o
follows_by program m g a rest work n (gives goes_on st) r = continues_by program m g a rest work st r.1
follows_by program m g a rest work n (gives broke st) r = continues_by program m g a rest (past_loop work) st r.1
follows_by program m g a rest work n (gives continues st) r = continues_by program m g a rest (at_head work) st r.1
follows_by program m g a rest work n (gives (returned v) st) r =
    comes_by program m g (s.returned (machine_at m [] st) (outside_of st) a rest v) (leads_on r.1 (leads_is program _ _ (returned_any m a rest v st)))
follows_by program m g a rest work n (trapped trap span st) r = stops_by program m g a rest (s.trapped trap span) st r
follows_by program m g a rest work n (spent st) r = stops_by program m g a rest s.spent st r

-- the machine as it is
as_it_is : (m : Machine) (g : Outside) (a : Active) (rest : List Active) → m.active ≡ a ∷ rest → m.turns ≤ m.budget → answers moved m g ≡ answers moved (machine_at m (a ∷ rest) (state_of m g)) (outside_of (state_of m g))
as_it_is m g a rest e le =
    let turns : m.turns ≡ m.budget - (m.budget - m.turns) = omega arith in
    ap (λ active. answers moved (record m { active = active }) g) e ∙ ap (λ k. answers moved (record m { active = a ∷ rest; turns = k }) g) turns

pub steps_follow_statements : StepsFollowStatements
steps_follow_statements program m g a rest stmts work e same le =
    let p : Spot = spot_of program m a rest in
    let calls : Calls = calls_within program (deepest - a.depth) in
    let o : Outcome Flow = do_all stmts (frame_of program a) calls (state_of m g) in
    follows_by program m g a rest work (m.budget - m.turns) o
    (runs_from p (m.budget - m.turns) (m.budget - m.turns) (answers moved m g) (with_work p a.work (state_of m g)) work o (at_most_self (m.budget - m.turns))
    (leads_is program _ _ (as_it_is m g a rest e le))
    (all_run p calls (calls_follow (deepest - a.depth) program p refl refl) stmts work a.work (state_of m g) (omega arith) same))

-- ---- whole programs

abbrev main_spot : ProgramTree → ℕ → Spot
main_spot program turns = record {
  program = program;
  machine = begun_machine program turns;
  function = main_in program;
  depth = 1;
  result = None;
  rest = [];
  privileged = false;
}

-- the run of an outcome of main's is seen
abbrev IsSeen : ProgramTree → ℕ → Step Outside → Outcome (Option Cell) → Type 0
IsSeen program turns from o = (s : Step Outside) × Leads program from s × (run_seen s ≡ Some (run_of turns o))

end_seen : (program : ProgramTree) (turns : ℕ) (from : Step Outside) (active : List Active) (now : List Work) (st : State) (ty : Option IntType) (span : Span) →
    Leads program from (s.at_end ty span (machine_at (begun_machine program turns) active st) (outside_of st) (active_in (main_spot program turns) now) []) → IsSeen program turns from (c.at_end ty span 1 st)
end_seen program turns from active now st None span l = (s.returned (machine_at (begun_machine program turns) active st) (outside_of st) (active_in (main_spot program turns) now) [] None, l, refl)
end_seen program turns from active now st (Some ty) span l = (answers (s.trapped NoReturn span) (machine_at (begun_machine program turns) active st) (outside_of st), l, refl)

empty_seen : (program : ProgramTree) (turns : ℕ) (from : Step Outside) (now : List Work) (st : State) → settled now ≡ [] → Leads program from (with_work (main_spot program turns) now st) →
    IsSeen program turns from (c.at_end (signature_in program (main_in program)).result (function_in program (main_in program)).end 1 st)
empty_seen program turns from now st e l =
    end_seen program turns from (stack (main_spot program turns) now) now st (signature_in program (main_in program)).result (function_in program (main_in program)).end
    (leads_on l (step_of (main_spot program turns) now [] st e))

seen_by : (program : ProgramTree) (turns n : ℕ) (from : Step Outside) (o : Outcome Flow) → Runs (main_spot program turns) n from [] o →
    IsSeen program turns from (o >>= returned_from (signature_in program (main_in program)).result (function_in program (main_in program)).end 1)
seen_by program turns n from (gives goes_on st) r = empty_seen program turns from r.1.left_work st r.1.same r.1.by
seen_by program turns n from (gives broke st) r = empty_seen program turns from r.1.left_work st r.1.same r.1.by
seen_by program turns n from (gives continues st) r = empty_seen program turns from r.1.left_work st r.1.same r.1.by
seen_by program turns n from (gives (returned v) st) r = (s.returned (machine_at (begun_machine program turns) [] st) (outside_of st) (active_in (main_spot program turns) []) [] v, r.1, refl)
seen_by program turns n from (trapped trap span st) r = (answers (s.trapped trap span) (machine_at (begun_machine program turns) r.active st) (outside_of st), r.by, refl)
seen_by program turns n from (spent st) r = (answers s.spent (machine_at (begun_machine program turns) r.active st) (outside_of st), r.by, refl)

abbrev main_state : ProgramTree → Hosts → List ℕ → ℕ → State
main_state program hosts input turns = t.with_blocks (entered program (main_in program) 1 [] (begun program hosts input turns).memory) (begun program hosts input turns)

-- where the functions may be entered so much deeper
main_seen : (deeper : ℕ) (program : ProgramTree) (hosts : Hosts) (input : List ℕ) (turns : ℕ) → deeper ≡ deepest - 1 →
    IsSeen program turns (answers moved (begun_machine program turns) (begun_outside hosts input))
    (do_all (function_in program (main_in program)).body (main_frame program) (calls_within program deeper) (main_state program hosts input turns)
    >>= returned_from (signature_in program (main_in program)).result (function_in program (main_in program)).end 1)
main_seen deeper program hosts input turns e =
    let p : Spot = main_spot program turns in
    let st : State = main_state program hosts input turns in
    let body : StmtTrees = (function_in program (main_in program)).body in
    let from : Step Outside = answers moved (begun_machine program turns) (begun_outside hosts input) in
    let o : Outcome Flow = do_all body (main_frame program) (calls_within program deeper) st in
    let none : 0 ≡ turns - turns = omega arith in
    seen_by program turns turns from o
    (runs_from p turns turns from (with_work p (run body ∷ []) st) [] o (at_most_self turns)
    (leads_is program _ _ (ap (λ k. answers moved (record (begun_machine program turns) { turns = k }) (begun_outside hosts input)) none))
    (all_run p (calls_within program deeper) (calls_follow deeper program p refl e) body [] (run body ∷ []) st (at_most_self turns) refl))

pub steps_are_the_run : StepsAreTheRun
steps_are_the_run program hosts input turns =
    let seen : IsSeen program turns (answers moved (begun_machine program turns) (begun_outside hosts input))
    (do_all (function_in program (main_in program)).body (main_frame program) (calls_within program (deepest - 1)) (main_state program hosts input turns)
    >>= returned_from (signature_in program (main_in program)).result (function_in program (main_in program)).end 1) = main_seen (deepest - 1) program hosts input turns refl in
    let comes : Comes program (begun_machine program turns) (begun_outside hosts input) seen.0 = comes_by program (begun_machine program turns) (begun_outside hosts input) seen.0 seen.1 in
    first_end program comes.0 (begun_machine program turns) (begun_outside hosts input) (core_run program hosts input turns) (ap run_seen comes.1 ∙ seen.2)
