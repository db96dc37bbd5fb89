-- A machine makes only so many steps.
use Rattle.std.specs.Prelude.{◌≡◌, ◌≤◌, ◌<◌, ℕ, suc, List, Bool, true, false, Some}
use Rattle.runs.specs.State.{Hosts}
use Rattle.pt_core.specs.CodeTree.{ProgramTree}
use Rattle.pt_core.specs.CoreRun.{core_run}
use Rattle.pt_core.specs.Steps.{Machine, Gate, Answer, moved, asked, ended, trapped, spent, idle, step}
use Rattle.core_steps_law.specs.WholeRun.{begun_machine, steps_run, after_steps, run_seen}
use Rattle.core_steps_law.specs.MachinesRoom.{breadth, room_by, room}

-- whether the machine may go on behind it
abbrev pub goes : Answer → Bool
goes moved = true
goes (asked f args depth) = true
goes (ended v) = false
goes (trapped trap span) = false
goes spent = false
goes idle = false

-- less room than so much, and no larger code than this
pub record IsUsed (program : ProgramTree) (wide n : ℕ) (m : Machine) : Type 0 where
  pub less : room_by wide m < n
  pub fits : breadth program m.active ≤ wide

-- Under any gate a step that moves the machine or asks for a call uses up room, measured by any bound on the
-- code. A call's result, and whatever else is done to blocks from outside, changes no room.
abbrev pub StepsUseRoom : Type 0 → Type 0
StepsUseRoom G = (program : ProgramTree) (gate : Gate G) (m : Machine) (g : G) (wide : ℕ) → breadth program m.active ≤ wide →
    goes (step program gate m g).answer ≡ true → IsUsed program wide (room_by wide m) (step program gate m g).machine

-- ---- any number of steps, with what others do between them

-- but for its blocks and the call that it awaits it is the same machine
pub record IsLeft (m m' : Machine) : Type 0 where
  pub active : m'.active ≡ m.active
  pub turns : m'.turns ≡ m.turns
  pub budget : m'.budget ≡ m.budget

-- the step of the one goes on with the other
pub record GoesOn {G : Type 0} (program : ProgramTree) (gate : Gate G) (g : G) (m m' : Machine) : Type 0 where
  pub going : goes (step program gate m g).answer ≡ true
  pub left : IsLeft (step program gate m g).machine m'

-- However a machine is stepped, each step under a gate of its own and from a state of it of any kind, and
-- whatever is told it between steps: it makes at most so many that move it or ask.
abbrev pub StepsAreBounded : Type 0 → Type 0
StepsAreBounded G = (program : ProgramTree) (gates : ℕ → Gate G) (states : ℕ → G) (machines : ℕ → Machine) (n : ℕ) →
    ((k : ℕ) → k < n → GoesOn program (gates k) (states k) (machines k) (machines (suc k))) → n ≤ room program (machines 0)

-- A run of more steps than there is room for has stopped.
abbrev pub RunsAreBounded : Type 0 → Type 0
RunsAreBounded G = (program : ProgramTree) (gate : Gate G) (m : Machine) (g : G) (n : ℕ) → room program m < n → (steps_run program gate n m g).answer ≡ moved → ⊥

-- The run of a whole program is seen after this number of steps.
abbrev pub longest_run : ProgramTree → ℕ → ℕ
longest_run program turns = suc (room program (begun_machine program turns))

abbrev pub RunsAreSeen : Type 0
RunsAreSeen = (program : ProgramTree) (hosts : Hosts) (input : List ℕ) (turns : ℕ) →
    run_seen (after_steps program hosts input turns (longest_run program turns)) ≡ Some (core_run program hosts input turns)
