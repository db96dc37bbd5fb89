-- The work of a call on the machine of a monitor and its hosts.
use Rattle.std.specs.Prelude.{◌≡◌, ◌+◌, ◌-◌, ◌≤◌, ◌^◌, ℕ, true, List, [], Option, None, if◌then◌else◌, map, option_map, take}
use Rattle.pt_base.specs.declared.end.End.TheVariants as end
use Rattle.pt_tree.specs.HostStep.{host_step}
use Rattle.runs.specs.Run.{deepest, written}
use Rattle.runs.specs.State as r
use Rattle.runs.specs.State.{Hosts, gives}
use Rattle.block_memory.specs.declared.cell.Cell.{Cell}
use Rattle.block_memory.specs.Blocks.{Blocks}
use Rattle.pt_core.specs.CodeTree.{ProgramTree}
use Rattle.pt_core.specs.Calls.{body_run, calls_within}
use Rattle.pt_core.specs.Statements.{Outcome, State}
use Rattle.pt_core.specs.Steps as s
use Rattle.pt_core.specs.Steps.{Answer, moved, asked, ended, trapped, spent, idle}
use Rattle.pt_core.specs.Values.{number_in}
use Rattle.core_steps_law.specs.GatesWritten.{Written}
use Rattle.core_steps_law.specs.MachinesBodies.{body_frame}
use Rattle.core_machine.specs.declared.machine.Machine.{Machine}
use Rattle.core_machine.specs.Machines.{Shown}
use Rattle.pair_meaning.specs.Serving.{host_gives}
use Rattle.monitor_interp.specs.declared.work.Task.{Task}
use Rattle.monitor_interp.specs.declared.worked.Worked.{Worked}
use Rattle.monitor_interp.specs.declared.worked.Worked.TheVariants.{Gave, Stopped}
use Rattle.monitor_interp.specs.Heard.{Heard}
use Rattle.monitor_interp.specs.Gates.{hosts_in, is_host_in, told_of}
pub use Rattle.core_steps_law.specs.GatesWritten.{begun_written as at_first}
pub use Rattle.pt_core.specs.Steps.{IsOfABody}

-- ---- where both are

-- no function is active
abbrev pub resting : Blocks → ℕ → ℕ → s.Machine
resting blocks taken limit = record { active = []; blocks = blocks; turns = taken; budget = limit; awaits = None }

-- The machine rests with these blocks, and has taken at most so many turns; the hosts are so far.
pub record IsAt (program : ProgramTree) (x : Machine) (g : Heard) (most : ℕ) (blocks : Blocks) (w : Written) : Type 0 where
  pub taken : ℕ
  pub limit : ℕ
  pub shown : Shown program x (resting blocks taken limit)
  pub few : taken ≤ most
  pub knows : is_host_in g ≡ hosts_in program
  pub heard : told_of g ≡ w

-- so they are for some program
abbrev pub IsSomewhere : Machine → Heard → Type 0
IsSomewhere x g = (program : ProgramTree) × (blocks : Blocks) × (hosts : Hosts) × (input : List ℕ) × IsAt program x g (2 ^ 32) blocks (at_first hosts input)

-- ---- what is to be done

abbrev pub begun_state : Blocks → Hosts → List ℕ → ℕ → State
begun_state blocks hosts input left = record { memory = blocks; hosts = hosts; input = input; events = []; left = left }

abbrev pub host_gives_at : Task → List Cell → Blocks → Hosts → List ℕ → Outcome (Option Cell)
host_gives_at task args blocks hosts input =
    host_gives task.function.0 (host_step input (hosts task.function.0) (map number_in args)) (begun_state blocks hosts input task.left)

abbrev pub body_work : ProgramTree → Task → List Cell → Blocks → Hosts → List ℕ → Outcome (Option Cell)
body_work program task args blocks hosts input =
    body_run program (calls_within program (deepest - task.depth)) (body_frame program true task.function.0 task.depth) task.function.0 args (begun_state blocks hosts input task.left)

abbrev pub work_by : ProgramTree → Task → List Cell → Blocks → Hosts → List ℕ → Outcome (Option Cell)
work_by program task args blocks hosts input =
    if task.host then host_gives_at task args blocks hosts input else body_work program task (take task.own args) blocks hosts input

-- ---- what it comes to

-- The work gives something, and machine and hosts are at its state; or it is an end, with the bytes before it. No more turns are
-- taken than were left.
abbrev pub Works : ProgramTree → ℕ → ℕ → Outcome (Option Cell) → Worked → Machine → Heard → Type 0
Works program most left (gives v st) (Gave value turns) x g =
    (value ≡ option_map number_in v) × (turns ≡ left - st.left) × IsAt program x g (most + turns) st.memory (record { hosts = st.hosts; input = st.input; bytes = written st.events })
Works program most left (gives v st) (Stopped at) x g = ⊥
Works program most left (r.trapped trap span st) (Gave value turns) x g = ⊥
Works program most left (r.trapped trap span st) (Stopped at) x g = (at ≡ end.Trapped trap span) × (g.bytes ≡ written st.events)
Works program most left (r.spent st) (Gave value turns) x g = ⊥
Works program most left (r.spent st) (Stopped at) x g = (at ≡ end.Spent) × (g.bytes ≡ written st.events)

-- ---- the last step of a body

abbrev pub IsWorkedBy : Answer → ℕ → Worked → Type 0
IsWorkedBy moved turns w = ⊥
IsWorkedBy (asked f args depth) turns w = ⊥
IsWorkedBy (ended v) turns w = w ≡ Gave (option_map number_in v) turns
IsWorkedBy (trapped trap span) turns w = w ≡ Stopped (end.Trapped trap span)
IsWorkedBy spent turns w = w ≡ Stopped end.Spent
IsWorkedBy idle turns w = ⊥
