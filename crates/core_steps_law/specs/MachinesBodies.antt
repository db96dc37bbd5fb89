-- A body that is started in a machine at rest.
use Rattle.std.specs.Prelude.{◌≡◌, ◌≤◌, ◌<◌, ℕ, ◌-◌, Bool, List, [], ◌++◌, Option}
use Rattle.block_memory.specs.declared.cell.Cell.{Cell}
use Rattle.runs.specs.State as r
use Rattle.runs.specs.State.{gives}
use Rattle.runs.specs.Run.{deepest, written}
use Rattle.pt_core.specs.CodeTree.{ProgramTree}
use Rattle.pt_core.specs.Statements.{State, Outcome, Frame}
use Rattle.pt_core.specs.Calls.{context_in, body_run, calls_within}
use Rattle.pt_core.specs.Steps as s
use Rattle.pt_core.specs.Steps.{Active, Machine, Gate, moved, Step, answers, started}
use Rattle.core_steps_law.specs.WholeRun.{steps_run}
use Rattle.core_steps_law.specs.Laws.{machine_at}
use Rattle.core_steps_law.specs.GatesWritten.{Written, bytes_gate}

-- what a function comes to by recursion, entered at this depth: from these blocks, with so many turns left,
-- and with no event yet
abbrev pub body_frame : ProgramTree → Bool → ℕ → ℕ → Frame
body_frame program privileged f depth = record { context = context_in program f; depth = depth; privileged = privileged }

abbrev pub body_state : Machine → Written → State
body_state m g = record { memory = m.blocks; hosts = g.hosts; input = g.input; events = []; left = m.budget - m.turns }

abbrev pub body_outcome : ProgramTree → Bool → ℕ → ℕ → List Cell → Machine → Written → Outcome (Option Cell)
body_outcome program privileged f depth args m g =
    body_run program (calls_within program (deepest - depth)) (body_frame program privileged f depth) f args (body_state m g)

-- the hosts then, and the bytes before with those that the body wrote
abbrev pub written_then : Written → State → Written
written_then g st = record { hosts = st.hosts; input = st.input; bytes = g.bytes ++ written st.events }

-- The step is what the recursion came to: its result, its memory, its turns, its bytes; a trap with its
-- place, or no turn left, in whichever function.
abbrev pub IsOutcome : Machine → Written → Outcome (Option Cell) → Step Written → Type 0
IsOutcome m g (gives v st) to = to ≡ answers (s.ended v) (machine_at m [] st) (written_then g st)
IsOutcome m g (r.trapped trap span st) to = (active : List Active) × (to ≡ answers (s.trapped trap span) (machine_at m active st) (written_then g st))
IsOutcome m g (r.spent st) to = (active : List Active) × (to ≡ answers s.spent (machine_at m active st) (written_then g st))

-- ---- any run

-- From one machine a run stops in one way: two numbers of steps after which it has stopped give the same.
abbrev pub OneStop : Type 0 → Type 0
OneStop G = (program : ProgramTree) (gate : Gate G) (m : Machine) (g : G) (n k : ℕ) →
    ((steps_run program gate n m g).answer ≡ moved → ⊥) → ((steps_run program gate k m g).answer ≡ moved → ⊥) → steps_run program gate n m g ≡ steps_run program gate k m g

-- The first number of steps after which it has stopped.
pub record FirstStop {G : Type 0} (program : ProgramTree) (gate : Gate G) (m : Machine) (g : G) (n : ℕ) : Type 0 where
  pub stopped : (steps_run program gate n m g).answer ≡ moved → ⊥
  pub before : (k : ℕ) → k < n → (steps_run program gate k m g).answer ≡ moved

-- Where it has stopped, there is one.
abbrev pub StopsBegin : Type 0 → Type 0
StopsBegin G = (program : ProgramTree) (gate : Gate G) (m : Machine) (g : G) (n : ℕ) →
    ((steps_run program gate n m g).answer ≡ moved → ⊥) → (i : ℕ) × FirstStop program gate m g i

-- ---- a body's steps

-- no turn comes back
abbrev pub TakesTurns : ℕ → Outcome (Option Cell) → Type 0
TakesTurns left (gives v st) = st.left ≤ left
TakesTurns left (r.trapped trap span st) = Unit {0}
TakesTurns left (r.spent st) = Unit {0}

-- In some number of steps a started function comes to what the recursion says; and whatever number of steps
-- it has come to an end after, it is that. The turns that are left are no more than before.
pub record BodyIsSteps (program : ProgramTree) (privileged : Bool) (f depth : ℕ) (args : List Cell) (m : Machine) (g : Written) : Type 0 where
  pub comes : (n : ℕ) × FirstStop program (bytes_gate program) (started program privileged f depth args m) g n
      × IsOutcome m g (body_outcome program privileged f depth args m g) (steps_run program (bytes_gate program) n (started program privileged f depth args m) g)
  pub only : (n : ℕ) → ((steps_run program (bytes_gate program) n (started program privileged f depth args m) g).answer ≡ moved → ⊥) →
      IsOutcome m g (body_outcome program privileged f depth args m g) (steps_run program (bytes_gate program) n (started program privileged f depth args m) g)
  pub turns : TakesTurns (m.budget - m.turns) (body_outcome program privileged f depth args m g)

-- whatever blocks the machine has, its globals or received ones
abbrev pub BodiesAreSteps : Type 0
BodiesAreSteps = (program : ProgramTree) (privileged : Bool) (f depth : ℕ) (args : List Cell) (m : Machine) (g : Written) →
    m.turns ≤ m.budget → BodyIsSteps program privileged f depth args m g
