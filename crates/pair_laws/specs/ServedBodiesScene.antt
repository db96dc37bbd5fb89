-- A slave that is shown in the whole's machine has asked for a call, which the monitor serves and the whole makes.
use Rattle.std.specs.Prelude.{◌≡◌, ◌≤◌, ◌<◌, ◌+◌, ◌-◌, ℕ, Bool, true, false, List, map, Option, Some, All}
use Rattle.pt_base.specs.declared.span.Span.{Span}
use Rattle.pt_tree.specs.declared.signature.Signature.{Signature}
use Rattle.runs.specs.Run.{deepest}
use Rattle.handle_store.specs.Stored.{AreInRange}
use Rattle.policy.specs.Answers.{answers_of}
use Rattle.policy.specs.Verdicts.{Standing}
use Rattle.block_memory.specs.declared.cell.Cell.{Cell}
use Rattle.block_memory.specs.declared.cell.BlockName.TheVariants.{Received}
use Rattle.block_memory.specs.Block.{no_block}
use Rattle.wire.specs.declared.message.CallBody.{CallBody}
use Rattle.pt_core.specs.CodeTree.{ProgramTree}
use Rattle.pt_core.specs.Calls.{signature_in}
use Rattle.pt_core.specs.Steps.{Active, Gate, Machine, Step, by_way}
use Rattle.pt_core.specs.WellFormed.{monitor_program}
use Rattle.core_steps_law.specs.WholeRun.{further, steps_run}
use Rattle.core_steps_law.specs.MachinesJudged.{Judging, judging_gate}
use Rattle.core_soundness_law.specs.Outside.{own_params}
use Rattle.marshalling.specs.Packing.{packed}
use Rattle.marshalling_law.specs.CallsPackable.{IsPackable}
use Rattle.part_views_law.specs.Machines.{nobody, seen_machine}
use Rattle.part_views_law.specs.Views.{View, seen_cell, slave_view}
use Rattle.part_views_law.specs.StepsParts.{HasSignature, Stands}
use Rattle.part_views_law.specs.CallsLaws.{AreHalves, Asks}
use Rattle.lent_blocks_law.specs.Lent.{CodeIsSaid}
use Rattle.pair_meaning.specs.Monitors.{Monitor}
use Rattle.pair_meaning.specs.Rules.{Admitted}
use Rattle.pair_invariant_law.specs.MonitorGatesLaws.{AreFixed, HasFunctions, HaveModels, is_host_of}

-- The whole program, which runs under a policy with so many turns; its slave, of which the machine has asked for a call of this
-- function with these arguments, in its innermost function; the monitor; and what the whole's gate is in by then.
pub record Scene : Type 0 where
  pub policy : Standing
  pub whole : ProgramTree
  pub budget : ℕ
  pub slave : ProgramTree
  pub machine : Machine
  pub caller : Active
  pub rest : List Active
  pub function : ℕ
  pub args : List Cell
  pub result : Option ℕ
  pub span : Span
  pub monitor : Monitor
  pub gate : Judging Standing
  -- hosts that answer alike for ever
  pub fixed : ℕ → Bool

-- ---- the slave and the monitor

abbrev pub code : Scene → ProgramTree
code s = monitor_program s.monitor.program

abbrev pub signature : Scene → Signature
signature s = signature_in s.slave s.function

-- how the slave is seen in the whole
abbrev pub view : Scene → View
view s = slave_view s.slave s.monitor.store s.monitor.globals

-- what is sent
abbrev pub sent_body : Scene → CallBody
sent_body s = packed s.machine.blocks (signature s).params s.args

-- the call as it is admitted
abbrev pub admitted : Scene → ℕ → Bool → Standing → ℕ → Admitted
admitted s depth wants policy calls =
    record { function = s.function; signature = signature s; depth = depth; wants = wants; body = sent_body s; policy = policy; calls = calls }

-- the turns that its work has left
abbrev pub turns_left : Scene → ℕ
turns_left s = s.budget - ((s.machine.turns + 1) + s.monitor.turns)

-- ---- the whole

abbrev pub outer : Scene → Gate (Judging Standing)
outer s = judging_gate (answers_of s.policy) s.whole

abbrev pub shown_args : Scene → List Cell
shown_args s = map (seen_cell (view s)) s.args

-- the whole's gate once the call is noted, which may be guarded
abbrev pub noted : Scene → Judging Standing
noted s = (outer s).noted false s.function (shown_args s) s.gate

-- the whole's step at the call
abbrev pub called : Scene → Step (Judging Standing)
called s = by_way s.whole (outer s) (seen_machine (view s) nobody s.monitor.turns s.budget s.machine) s.gate s.span s.function (shown_args s) s.result s.caller.depth
    ((outer s).way s.gate s.function (shown_args s))

-- and after so many steps more
abbrev pub called_and : Scene → ℕ → Step (Judging Standing)
called_and s k = further (called s) (steps_run s.whole (outer s) k)

-- ---- what is asked of them

-- Both are sound halves of the whole; the slave's machine is shown beside the monitor; what it asks for may be packed, is the
-- monitor's, and of the same parameters. The monitor has its globals alone, numbers in its store, and hosts with models, which are
-- the whole's, as is its input.
pub record IsScene (s : Scene) : Type 0 where
  pub halves : AreHalves s.whole s.slave (code s) s.monitor.globals
  pub stands : Stands (view s) 0 false s.monitor.turns s.budget s.slave s.machine
  pub asks : Asks s.slave s.monitor.store s.machine s.caller s.rest s.function s.args
  pub packable : IsPackable s.slave.structs (signature s).params s.machine.blocks s.args
  pub awaits : s.machine.awaits ≡ Some (record { callee = s.function; result = s.result })
  pub shallow : (signature s).host ≡ false → s.caller.depth + 1 ≤ deepest
  pub ranged : AreInRange s.monitor.store
  pub globals_alone : (k : ℕ) → s.monitor.globals (Received k) ≡ no_block
  pub signed : (f : ℕ) → HasSignature (code s) f → signature_in s.whole f ≡ signature_in (code s) f
  pub known : HasSignature (code s) s.function
  pub same : signature_in (code s) s.function ≡ signature s
  pub functions : HasFunctions (code s)
  pub own : (signature s).host ≡ false → own_params (code s) s.function ≡ (signature s).params
  pub guarded : (signature s).host ≡ false → (signature s).privileged ≡ true
  pub said : CodeIsSaid true (code s)
  pub models : HaveModels (code s) s.monitor.hosts
  pub bytes : All (λ b. b < 256) s.monitor.input
  pub hosts : (f : ℕ) → is_host_of (code s) f ≡ true → s.monitor.hosts f ≡ s.gate.hosts f
  pub input : s.monitor.input ≡ s.gate.input
  pub fixed_alone : (f : ℕ) → s.fixed f ≡ true → is_host_of (code s) f ≡ true
  pub lasting : AreFixed (code s) s.fixed s.gate
