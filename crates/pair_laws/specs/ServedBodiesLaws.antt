-- Serving a call is so many steps of the whole.
use Rattle.std.specs.Prelude.{◌≡◌, ◌≤◌, ◌+◌, ℕ, ℤ, Bool, false, Option, Some, None, [], option_map}
use Rattle.pt_base.specs.declared.end.End.{End}
use Rattle.policy.specs.Verdicts.{Standing}
use Rattle.runs.specs.Run.{written}
use Rattle.runs.specs.State as r
use Rattle.runs.specs.State.{gives}
use Rattle.block_memory.specs.declared.cell.Cell.{Cell}
use Rattle.pt_core.specs.Statements.{State, Outcome}
use Rattle.pt_core.specs.Values.{number_in}
use Rattle.pt_core.specs.Steps.{Answer, Machine, answers, moved, resumed, spent, trapped, with_blocks}
use Rattle.core_steps_law.specs.GatesWritten.{Written}
use Rattle.core_steps_law.specs.MachinesJudged.{Judging}
use Rattle.core_soundness_law.specs.Fits.{MemoryFits}
use Rattle.core_soundness_law.specs.Kept.{none}
use Rattle.marshalling.specs.Handles.{Entries}
use Rattle.marshalling.specs.HonestCalls.{grown}
use Rattle.marshalling.specs.Taking.{Taken}
use Rattle.part_views_law.specs.Machines.{nobody, seen_machine}
use Rattle.part_views_law.specs.Views.{slave_view}
use Rattle.part_views_law.specs.CrossingsCalls.{IsEnded, IsSent, IsWorked}
use Rattle.pair_meaning.specs.Serving.{global_part, turns_taken, work_of}
use Rattle.pair_invariant_law.specs.MonitorGatesLaws.{HaveModels, told_body, told_whole}
use Rattle.pair_laws.specs.ServedBodiesScene.{IsScene, Scene, admitted, called, called_and, code, noted, signature, turns_left}

-- ---- what a state of the work is in the whole

-- what the work's hosts are in a state of it, and the bytes that it wrote
abbrev pub written_in : State → Written
written_in st = record { hosts = st.hosts; input = st.input; bytes = written st.events }

-- The whole's gate has the work's hosts and has written what it wrote; the policy, the guarded calls and all other hosts are as
-- they were behind the call.
abbrev pub IsTold : Scene → State → Judging Standing → Type 0
IsTold s st h = told_whole (noted s) h ≡ told_body (code s) s.fixed (noted s) (written_in st)

-- ---- where it gives a result

-- the number that it gives, if it gives one
abbrev pub number_of : Option Cell → Option ℤ
number_of v = option_map number_in v

-- the store then
abbrev pub store_then : Scene → Option Cell → State → Entries
store_then s v st = grown s.monitor.store s.slave.structs (signature s) s.machine.blocks s.args st.memory (number_of v)

-- the slave with what it took stands in its memory, or what posting gives
abbrev pub taking : Scene → Taken → Machine
taking s t = resumed t.result (with_blocks t.blocks s.machine)

-- the whole has come to the machine that shows the slave going on so, by the new store
pub record ShowsTaking (s : Scene) (v : Option Cell) (st : State) (t : Taken) : Type 0 where
  pub steps : ℕ
  pub gate : Judging Standing
  pub came : called_and s steps
      ≡ answers moved (seen_machine (slave_view s.slave (store_then s v st) (global_part st.memory)) nobody (s.monitor.turns + turns_taken (turns_left s) st) s.budget (taking s t)) gate
  pub told : IsTold s st gate

-- The work took no turn back and left numbers in the monitor's memory, and hosts with models. Whatever the slave takes by which its
-- memory beside the monitor's is the whole's as the work left it, the whole shows the slave going on.
pub record IsWhole (s : Scene) (v : Option Cell) (st : State) : Type 0 where
  pub turns : st.left ≤ turns_left s
  pub memory : MemoryFits none (code s) [] st.memory
  pub models : HaveModels (code s) st.hosts
  pub work : IsWorked (code s) s.caller.depth s.monitor.store s.slave.structs (signature s) s.machine.blocks s.monitor.globals s.args st.memory (global_part st.memory) (number_of v)
  pub shows : (t : Taken) →
      IsEnded s.slave (code s) s.caller.depth s.monitor.store (store_then s v st) s.machine.blocks s.monitor.globals s.args st.memory (global_part st.memory) (number_of v) t →
      ShowsTaking s v st t

-- ---- where it ends the run

pub record Ends (s : Scene) (answer : Answer) (st : State) : Type 0 where
  pub steps : ℕ
  pub came : (called_and s steps).answer ≡ answer
  pub told : IsTold s st (called_and s steps).gate

-- what the work comes to the whole comes to in some number of steps
abbrev pub IsTheWholes : Scene → Outcome (Option Cell) → Type 0
IsTheWholes s (gives v st) = IsWhole s v st
IsTheWholes s (r.trapped trap span st) = Ends s (trapped trap span) st
IsTheWholes s (r.spent st) = Ends s spent st

-- ---- where it isn't made

-- the whole's budget is spent at the call, and nothing is noted
pub record IsSpent (s : Scene) : Type 0 where
  pub answer : (called s).answer ≡ spent
  pub gate : (called s).gate ≡ s.gate

-- what is judged behind the call is what was when it was noted
pub record IsNoted (s : Scene) : Type 0 where
  pub judgement : (called s).gate.judgement ≡ (noted s).judgement

-- ---- laws

-- what it asks for may cross
abbrev pub ScenesAreSent : Type 0
ScenesAreSent = (s : Scene) → IsScene s → IsSent s.slave (code s) s.caller.depth s.monitor.store s.slave.structs (signature s).params s.machine.blocks s.monitor.globals s.args

-- Where the turns of both leave none for the call, the whole's budget is spent at it.
abbrev pub CallsAreSpent : Type 0
CallsAreSpent = (s : Scene) → IsScene s → s.budget ≤ s.machine.turns + s.monitor.turns → IsSpent s

-- Where the policy refuses the call, the refusal stands behind it.
abbrev pub CallsAreNoted : Type 0
CallsAreNoted = (s : Scene) (refusal : End) → IsScene s → (s.machine.turns + 1) + s.monitor.turns ≤ s.budget → (noted s).judgement.refused ≡ Some refusal → IsNoted s

-- A call that is admitted, where the turns of both with its own are in the budget and no refusal was noted: its work, that of a
-- host or the body of a function, is that of the whole's call.
abbrev pub ServedCallsAreTheWholes : Type 0
ServedCallsAreTheWholes = (s : Scene) (depth : ℕ) (wants : Bool) (policy : Standing) (calls : ℕ) → IsScene s → (s.machine.turns + 1) + s.monitor.turns ≤ s.budget → (noted s).judgement.refused ≡ None →
    ((signature s).host ≡ false → depth ≡ s.caller.depth + 1) →
    IsTheWholes s (work_of s.monitor (admitted s depth wants policy calls) (turns_left s))
