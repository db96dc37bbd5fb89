-- Single steps and the meaning by recursion.
use Rattle.std.specs.Prelude.{◌≡◌, ◌≤◌, ◌<◌, ◌+◌, ◌-◌, ℕ, suc, List, [], ◌∷◌, Some}
use Rattle.runs.specs.State.{Hosts, gives}
use Rattle.runs.specs.State as r
use Rattle.runs.specs.Run.{Run, deepest}
use Rattle.pt_core.specs.CodeTree.{StmtTrees, ProgramTree}
use Rattle.pt_core.specs.Statements.{State, Outcome, Frame, Flow, goes_on, broke, continues, returned, do_all}
use Rattle.pt_core.specs.Calls.{context_in, calls_within}
use Rattle.pt_core.specs.CoreRun.{core_run}
use Rattle.pt_core.specs.Steps as s
use Rattle.pt_core.specs.Steps.{Work, run, Active, Machine, Gate, Answer, moved, Step, answers, settled, past_loop, at_head, step}
use Rattle.core_steps_law.specs.WholeRun.{Outside, whole_gate, further, steps_run, after_steps, run_seen}

-- ---- a whole run

-- Whatever the program is, there is a number of steps after which its run is the one that the recursion
-- gives, with its events, its end and its turns; and each smaller number has only moved the machine.
abbrev pub StepsAreTheRun : Type 0
StepsAreTheRun = (program : ProgramTree) (hosts : Hosts) (input : List ℕ) (turns : ℕ) →
    (n : ℕ) × (run_seen (after_steps program hosts input turns n) ≡ Some (core_run program hosts input turns))
    × ((k : ℕ) → k < n → (after_steps program hosts input turns k).answer ≡ moved)

-- Whatever number of steps a run is seen after, it is that one.
abbrev pub OnlyTheRunIsSeen : Type 0
OnlyTheRunIsSeen = (program : ProgramTree) (hosts : Hosts) (input : List ℕ) (turns n : ℕ) (seen : Run) →
    run_seen (after_steps program hosts input turns n) ≡ Some seen → seen ≡ core_run program hosts input turns

-- ---- a list of statements

-- the state of the recursion that a machine and its gate are in
abbrev pub state_of : Machine → Outside → State
state_of m g = record { memory = m.blocks; hosts = g.hosts; input = g.input; events = g.events; left = m.budget - m.turns }

-- the machine with these active functions in a state of the recursion
abbrev pub machine_at : Machine → List Active → State → Machine
machine_at m active st = record m { active = active; blocks = st.memory; turns = m.budget - st.left }

abbrev pub outside_of : State → Outside
outside_of st = record { hosts = st.hosts; input = st.input; events = st.events }

abbrev pub frame_of : ProgramTree → Active → Frame
frame_of program a = record { context = context_in program a.function; depth = a.depth; privileged = a.privileged }

-- in some number of steps
abbrev pub Comes : ProgramTree → Machine → Outside → Step Outside → Type 0
Comes program m g to = (n : ℕ) × (steps_run program (whole_gate program) n m g ≡ to)

-- the innermost function has come to this work, but for lists that are at their end
pub record Continues (program : ProgramTree) (m : Machine) (g : Outside) (a : Active) (rest : List Active) (work : List Work) (st : State) : Type 0 where
  pub left_work : List Work
  pub same : settled left_work ≡ settled work
  pub comes : Comes program m g (answers moved (machine_at m (record a { work = left_work } ∷ rest) st) (outside_of st))

-- the machine has stopped, in whichever function
pub record Stops (program : ProgramTree) (m : Machine) (g : Outside) (answer : Answer) (st : State) : Type 0 where
  pub active : List Active
  pub comes : Comes program m g (answers answer (machine_at m active st) (outside_of st))

-- the machine comes to where the recursion ends, in a function with this work behind the statements and
-- these active functions below
abbrev pub Follows : ProgramTree → Machine → Outside → Active → List Active → List Work → Outcome Flow → Type 0
Follows program m g a rest work (gives goes_on st) = Continues program m g a rest work st
Follows program m g a rest work (gives broke st) = Continues program m g a rest (past_loop work) st
Follows program m g a rest work (gives continues st) = Continues program m g a rest (at_head work) st
Follows program m g a rest work (gives (returned v) st) = Comes program m g (s.returned (machine_at m [] st) (outside_of st) a rest v)
Follows program m g a rest work (r.trapped trap span st) = Stops program m g (s.trapped trap span) st
Follows program m g a rest work (r.spent st) = Stops program m g s.spent st

-- From any machine whose innermost function has these statements to do and then this work, the steps
-- follow the recursion, whatever lies below.
abbrev pub StepsFollowStatements : Type 0
StepsFollowStatements = (program : ProgramTree) (m : Machine) (g : Outside) (a : Active) (rest : List Active) (stmts : StmtTrees) (work : List Work) →
    m.active ≡ a ∷ rest → settled a.work ≡ settled (run stmts ∷ work) → m.turns ≤ m.budget →
    Follows program m g a rest work (do_all stmts (frame_of program a) (calls_within program (deepest - a.depth)) (state_of m g))

-- ---- turns

-- at most one turn more than these, and none that the budget doesn't have
pub record TakesATurn {G : Type 0} (turns budget : ℕ) (to : Step G) : Type 0 where
  pub same_budget : to.machine.budget ≡ budget
  pub none_back : turns ≤ to.machine.turns
  pub one : to.machine.turns ≤ suc turns
  pub within : turns ≤ budget → to.machine.turns ≤ budget

-- under any gate
abbrev pub StepsTakeATurn : Type 0 → Type 0
StepsTakeATurn G = (program : ProgramTree) (gate : Gate G) (m : Machine) (g : G) → TakesATurn m.turns m.budget (step program gate m g)

-- ---- numbers of steps

-- So many steps and then some more are what follows the first of them: where these moved the machine, the
-- others from there, and else nothing. Under any gate.
abbrev pub StepsAdd : Type 0 → Type 0
StepsAdd G = (program : ProgramTree) (gate : Gate G) (n k : ℕ) (m : Machine) (g : G) →
    steps_run program gate (n + k) m g ≡ further (steps_run program gate n m g) (steps_run program gate k)
