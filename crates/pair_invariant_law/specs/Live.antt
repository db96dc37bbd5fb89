-- A slave and a monitor whose messages are served at once, beside the run of the whole program under a policy.
use Rattle.std.specs.Prelude.{◌≡◌, ◌≤◌, ◌<◌, ◌+◌, ◌⊎◌, ℕ, true, false, List, ◌∷◌, [], None, All}
use Rattle.pt_base.specs.declared.end.End.{End}
use Rattle.pt_base.specs.declared.end.End.TheVariants.{Spent}
use Rattle.handle_store.specs.Stored.{AreInRange}
use Rattle.runs.specs.Run.{Expected, expected}
use Rattle.runs.specs.State.{Hosts}
use Rattle.policy.specs.Answers.{answers_of}
use Rattle.policy.specs.Verdicts.{Standing}
use Rattle.block_memory.specs.declared.cell.BlockName.TheVariants.{Received}
use Rattle.block_memory.specs.Block.{no_block}
use Rattle.pt_core.specs.CodeTree.{MonitorTree, ProgramTree}
use Rattle.pt_core.specs.CoreRun.{core_run}
use Rattle.pt_core.specs.Steps.{Active, Step, answers, moved}
use Rattle.pt_core.specs.WellFormed.{monitor_program}
use Rattle.core_soundness_law.specs.Fits.{MemoryFits}
use Rattle.core_soundness_law.specs.Kept.{none}
use Rattle.core_steps_law.specs.MachinesJudged.{Judging, judged_after}
use Rattle.monitor_soundness_law.specs.Laws.{HostsFit}
use Rattle.lent_blocks_law.specs.Lent.{CodeIsSaid}
use Rattle.part_views_law.specs.Machines.{nobody, seen_machine}
use Rattle.part_views_law.specs.Views.{slave_view}
use Rattle.part_views_law.specs.StepsParts.{Stands}
use Rattle.pair_protocol.specs.Pair.{Both, run, done, wrong}
use Rattle.pair_meaning.specs.Monitors.{Monitor, types_in}
use Rattle.pair_meaning.specs.Rules.{PeerRule}
use Rattle.pair_meaning.specs.SlaveRun.{Slave, goes}
use Rattle.pair_invariant_law.specs.Halves.{AreHalvesOf}
use Rattle.pair_invariant_law.specs.Hosts.{AllHostsFit, HostsAgree}
use Rattle.pair_invariant_law.specs.Slaves.{AreKept}

-- a whole program with its halves, and what is run: under which policy, with which hosts and input, for how many turns
pub record Setting : Type 0 where
  pub whole : ProgramTree
  pub slave : ProgramTree
  pub monitor : MonitorTree
  pub policy : Standing
  pub hosts : Hosts
  pub input : List ℕ
  pub budget : ℕ

-- the whole run after so many steps, judged by the policy as it goes
abbrev pub whole_after : Setting → ℕ → Step (Judging Standing)
whole_after w k = judged_after (answers_of w.policy) w.whole w.hosts w.input w.budget k

-- what is expected of the whole program
abbrev pub expected_of : Setting → Expected
expected_of w = expected (answers_of w.policy) (core_run w.whole w.hosts w.input w.budget)

-- Of the setting it is asked that the halves are such, that the budget is one of 32 bits, that the input is of bytes, that each host
-- that a half has a signature for has a model that fits it, and that the monitor's code can be said in C.
pub record IsSetting (w : Setting) (Own : Slave → Type 0) : Type 0 where
  pub halves : AreHalvesOf w.whole w.slave w.monitor
  pub kept : AreKept Own
  pub small : w.budget < 4_294_967_296
  pub bytes : All (λ b. b < 256) w.input
  pub slave_hosts : AllHostsFit w.slave w.hosts
  pub monitor_hosts : AllHostsFit (monitor_program w.monitor) w.hosts
  pub said : CodeIsSaid true (monitor_program w.monitor)

-- ---- live

-- what the monitor has: between messages its globals alone
pub record IsTheirs (w : Setting) (m : Monitor) : Type 0 where
  pub program : m.program ≡ w.monitor
  pub memory : MemoryFits none (monitor_program w.monitor) [] m.globals
  pub received : (k : ℕ) → m.globals (Received k) ≡ no_block
  pub ranged : AreInRange m.store
  pub input : m.input ≡ w.input
  pub budget : m.budget ≡ w.budget
  pub hosts_fit : HostsFit (monitor_program w.monitor) m.hosts

-- what the slave has, beside this monitor
pub record IsBeside (w : Setting) (Own : Slave → Type 0) (x : Slave) (m : Monitor) : Type 0 where
  pub own : Own x
  pub program : x.program ≡ w.slave
  pub doing : x.doing ≡ goes
  pub active : (a : Active) × (rest : List Active) × (x.machine.active ≡ a ∷ rest)
  pub free : x.machine.awaits ≡ None
  pub stands : Stands (slave_view w.slave m.store m.globals) 0 false m.turns w.budget w.slave x.machine
  pub given : x.given ≡ types_in m.store
  pub budget : x.machine.budget ≡ w.budget
  pub calls : x.calls ≤ m.turns
  pub last : m.last ≤ x.machine.turns

-- The whole has come to the machine that both show; it has written the same, and its policy has come as far as the monitor's; the
-- hosts agree; and both have taken no more turns than there are.
pub record IsLive (w : Setting) (Own : Slave → Type 0) (x : Slave) (m : Monitor) (written : List ℕ) : Type 0 where
  pub theirs : IsTheirs w m
  pub beside : IsBeside w Own x m
  pub steps : ℕ
  pub gate : Judging Standing
  pub came : whole_after w steps ≡ answers moved (seen_machine (slave_view w.slave m.store m.globals) nobody m.turns w.budget x.machine) gate
  pub judgement : gate.judgement ≡ record { bytes = written; state = m.policy; calls = m.calls; refused = None }
  pub input : gate.input ≡ w.input
  pub hosts : HostsAgree w.slave (monitor_program w.monitor) gate.hosts w.input x.hosts x.input m.hosts
  pub turns : x.machine.turns + m.turns ≤ w.budget

-- ---- late

-- The slave goes on, but its turns and the monitor's together are more than there are: the whole's budget is spent, with these
-- bytes. Whatever is said, the monitor answers so.
pub record IsLate (w : Setting) (Own : Slave → Type 0) (x : Slave) (m : Monitor) (written : List ℕ) : Type 0 where
  pub own : Own x
  pub program : x.program ≡ w.slave
  pub doing : x.doing ≡ goes
  pub active : (a : Active) × (rest : List Active) × (x.machine.active ≡ a ∷ rest)
  pub slave_budget : x.machine.budget ≡ w.budget
  pub budget : m.budget ≡ w.budget
  pub last : m.last ≤ x.machine.turns
  pub over : w.budget < x.machine.turns + m.turns
  pub expected_is : expected_of w ≡ record { bytes = written; end = Spent }

-- ---- what is kept

-- the pair goes on, live or late, or has come to what is expected; it never breaks a rule
abbrev pub IsKept : Setting → (Slave → Type 0) → Both Slave Monitor End PeerRule → Type 0
IsKept w Own (run x m written) = IsLive w Own x m written ⊎ IsLate w Own x m written
IsKept w Own (done bytes end) = expected_of w ≡ record { bytes = bytes; end = end }
IsKept w Own (wrong bytes rule) = ⊥
