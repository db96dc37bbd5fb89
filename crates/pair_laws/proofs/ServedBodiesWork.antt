-- What a scene's call begins with, in the monitor and in the whole.
use Rattle.std.proofs.Common.{◌≡◌, ◌∙◌, ℕ, ◌+◌, ◌-◌, ◌≤◌, ap, sym, subst, arith, [], length, map, take, Bool, true, false, if◌then◌else◌}
use Rattle.std.specs.Prelude.{is_some}
use Rattle.std.proofs.lemmas.List.{length-map}
use Rattle.std.proofs.lemmas.Bool.{and_from}
use Rattle.pt_tree.specs.HostStep.{host_step}
use Rattle.pt_tree.specs.declared.signature.Signature.{Signature}
use Rattle.runs.specs.Run.{deepest}
use Rattle.policy.specs.Verdicts.{Standing}
use Rattle.block_memory.specs.Blocks.{Blocks}
use Rattle.pt_core.specs.Values.{number_in}
use Rattle.pt_core.specs.Calls.{body_run, calls_within, context_in, function_in, signature_in}
use Rattle.pt_core.specs.Steps.{by_way, enters, here, is_active}
use Rattle.pt_core.specs.WellFormed.{signature_at}
use Rattle.core_steps_law.specs.GatesWritten.{Written}
use Rattle.core_soundness_law.specs.Fits.{MemoryFits}
use Rattle.core_soundness_law.specs.Kept.{by_store, none}
use Rattle.core_soundness_law.specs.Outside.{ArgumentsFit}
use Rattle.core_soundness_law.proofs.Programs.{facts_of}
use Rattle.marshalling.specs.declared.inputs.Inputs.{Inputs}
use Rattle.marshalling.specs.Handles.{unpacked}
use Rattle.marshalling.specs.HonestCalls.{for_callee, renamed, revealed}
use Rattle.marshalling.specs.Packing.{names_of}
use Rattle.marshalling.specs.Replies.{types_in}
use Rattle.marshalling_law.proofs.PostingLemmas.{packed_types}
use Rattle.part_views_law.specs.Machines.{joined, nobody, seen_machine}
use Rattle.part_views_law.specs.CrossingsCalls.{IsBegun, IsSent, body_memory}
use Rattle.part_views_law.proofs.CrossingsBeginning.{calls_begin}
use Rattle.part_views_law.proofs.CrossingsStarted.{bodies_fit}
use Rattle.part_views_law.specs.StepsParts.{AllAbove}
use Rattle.part_views_law.proofs.CallsShown.{shown_calls_are_sent}
use Rattle.pair_meaning.specs.Serving.{function_work, host_gives, host_work, inputs_of, state_of, with_brought, work_of}
use Rattle.pair_invariant_law.specs.MonitorGatesLaws.{is_host_of, told_body, told_whole}
use Rattle.pair_invariant_law.proofs.MonitorGatesGates.{begun_alike}
use Rattle.pair_laws.specs.ServedBodiesLaws.{ScenesAreSent}
use Rattle.pair_laws.specs.ServedBodiesScene.{IsScene, Scene, admitted, called, code, noted, outer, sent_body, shown_args, signature, turns_left, view}
use Rattle.pair_laws.proofs.ServedBodiesMemory.{IsOpened, all_taken, brought_received, opened_parts}

pub scenes_are_sent : ScenesAreSent
scenes_are_sent s ok =
    shown_calls_are_sent s.whole s.slave (code s) s.monitor.store s.monitor.globals s.monitor.turns s.budget s.machine s.caller s.rest s.function s.args ok.halves ok.stands ok.asks

module _ (s : Scene) (ok : IsScene s) where
  -- ---- in the monitor

  abbrev pub inputs : Inputs
  inputs = for_callee s.monitor.store s.machine.blocks s.args

  abbrev pub memory : Blocks
  memory = body_memory s.monitor.store (signature s).params s.machine.blocks s.monitor.globals s.args

  abbrev pub start_written : Written
  start_written = record { hosts = s.monitor.hosts; input = s.monitor.input; bytes = [] }

  pub sent : IsSent s.slave (code s) s.caller.depth s.monitor.store s.slave.structs (signature s).params s.machine.blocks s.monitor.globals s.args
  sent = scenes_are_sent s ok

  pub begun : IsBegun s.slave (code s) s.caller.depth s.monitor.store s.slave.structs (signature s).params s.machine.blocks s.monitor.globals s.args
  begun = calls_begin s.slave (code s) s.caller.depth s.monitor.store s.slave.structs (signature s).params s.machine.blocks s.monitor.globals s.args sent

  pub opened : IsOpened s.monitor.store s.slave.structs (signature s).params (sent_body s) (for_callee s.monitor.store s.machine.blocks s.args)
  opened = opened_parts s.monitor.store s.slave.structs (signature s).params (sent_body s) (for_callee s.monitor.store s.machine.blocks s.args) begun.opened

  as_many_blocks : length (types_in (sent_body s)) ≡ length (for_callee s.monitor.store s.machine.blocks s.args).blocks
  as_many_blocks = ap length (packed_types s.machine.blocks (names_of s.args) sent.whole) ∙ length-map (names_of s.args) (λ n. (s.machine.blocks n).types) ∙ sym (length-map (names_of s.args) _)

  pub memory_is : with_brought 0 (types_in (sent_body s)) (unpacked s.monitor.store (sent_body s)).blocks s.monitor.globals ≡ memory
  memory_is =
      ap (λ (i : Inputs). with_brought 0 (types_in (sent_body s)) i.blocks s.monitor.globals) opened.inputs_are
      ∙ brought_received (types_in (sent_body s)) (for_callee s.monitor.store s.machine.blocks s.args).blocks s.monitor.globals as_many_blocks (λ d v. ok.halves.memory.locals d v) ok.globals_alone

  as_many_args : length inputs.args ≡ length (signature s).params
  as_many_args = length-map (map (revealed s.monitor.store) s.args) (renamed (names_of s.args)) ∙ length-map s.args (revealed s.monitor.store) ∙ ok.packable.count

  -- what the body has: the memory and the arguments fit
  pub fits : MemoryFits none (code s) [] memory × ArgumentsFit none (code s).structs memory 0 (signature s).params inputs.args
  fits =
      bodies_fit s.slave (code s) s.monitor.store (signature s).params s.machine.blocks s.monitor.globals s.caller s.rest s.args (facts_of false s.slave ok.halves.slave_sound).structs ok.asks.params
      (sym ok.halves.slave_part.structs ∙ ok.halves.monitor_part.structs)
      (subst (λ active. MemoryFits (by_store s.monitor.store) s.slave active s.machine.blocks) ok.asks.active ok.stands.fits.memory) ok.asks.given ok.halves.memory ok.ranged sent.whole

  pub own_taken : (signature s).host ≡ false → take (function_in (code s) s.function).params inputs.args ≡ inputs.args
  own_taken plain =
      all_taken (function_in (code s) s.function).params (signature_in (code s) s.function).params inputs.args
      (ap length (ok.own plain) ∙ ap (λ (sig : Signature). length sig.params) (sym ok.same))
      (as_many_args ∙ ap (λ (sig : Signature). length sig.params) (sym ok.same))

  -- ---- the work

  module _ (depth : ℕ) (wants : Bool) (policy : Standing) (calls : ℕ) where
    pub function_is : (left : ℕ) → (signature s).host ≡ false → depth ≡ s.caller.depth + 1 → turns_left s ≡ left →
        work_of s.monitor (admitted s depth wants policy calls) (turns_left s)
        ≡ body_run (code s) (calls_within (code s) (deepest - (s.caller.depth + 1))) (record { context = context_in (code s) s.function; depth = s.caller.depth + 1; privileged = true }) s.function inputs.args
        (record { memory = memory; hosts = s.monitor.hosts; input = s.monitor.input; events = []; left = left })
    function_is left plain deep turns =
        ap (λ (b : Bool). if b
        then host_work (admitted s depth wants policy calls) (inputs_of s.monitor (admitted s depth wants policy calls)).args (state_of s.monitor (admitted s depth wants policy calls) (turns_left s))
        else function_work (code s) (admitted s depth wants policy calls) (inputs_of s.monitor (admitted s depth wants policy calls)).args (state_of s.monitor (admitted s depth wants policy calls) (turns_left s))) plain
        ∙ (λ i. body_run (code s) (calls_within (code s) (deepest - deep i)) (record { context = context_in (code s) s.function; depth = deep i; privileged = true }) s.function (given i)
        (record { memory = memory_is i; hosts = s.monitor.hosts; input = s.monitor.input; events = []; left = turns i }))
      where
        given : take (function_in (code s) s.function).params (unpacked s.monitor.store (sent_body s)).args ≡ (for_callee s.monitor.store s.machine.blocks s.args).args
        given = ap (λ (i : Inputs). take (function_in (code s) s.function).params i.args) opened.inputs_are ∙ own_taken plain

    pub host_is : (signature s).host ≡ true →
        work_of s.monitor (admitted s depth wants policy calls) (turns_left s)
        ≡ host_gives s.function (host_step s.monitor.input (s.monitor.hosts s.function) (map number_in inputs.args))
        (record { memory = memory; hosts = s.monitor.hosts; input = s.monitor.input; events = []; left = turns_left s })
    host_is host =
        ap (λ (b : Bool). if b
        then host_work (admitted s depth wants policy calls) (inputs_of s.monitor (admitted s depth wants policy calls)).args (state_of s.monitor (admitted s depth wants policy calls) (turns_left s))
        else function_work (code s) (admitted s depth wants policy calls) (inputs_of s.monitor (admitted s depth wants policy calls)).args (state_of s.monitor (admitted s depth wants policy calls) (turns_left s))) host
        ∙ (λ i. host_gives s.function (host_step s.monitor.input (s.monitor.hosts s.function) (map number_in (opened.inputs_are i).args))
        (record { memory = memory_is i; hosts = s.monitor.hosts; input = s.monitor.input; events = []; left = turns_left s }))

  -- ---- in the whole

  pub whole_same : signature_in s.whole s.function ≡ signature s
  whole_same = ok.signed s.function ok.known ∙ ok.same

  -- where the whole's call goes
  pub called_by : (b : Bool) → (signature s).host ≡ b →
      called s ≡ by_way s.whole (outer s) (seen_machine (view s) nobody s.monitor.turns s.budget s.machine) s.gate s.span s.function (shown_args s) s.result s.caller.depth (if b then here else enters)
  called_by b e =
      ap (λ (host : Bool). by_way s.whole (outer s) (seen_machine (view s) nobody s.monitor.turns s.budget s.machine) s.gate s.span s.function (shown_args s) s.result s.caller.depth (if host then here else enters))
      (ap (λ (sig : Signature). sig.host) whole_same ∙ e)

  -- no privileged function is active in the slave
  pub none_active : is_active (joined nobody s.machine.active) ≡ false
  none_active = subst (λ active. AllAbove 0 false active → is_active (joined nobody active) ≡ false) (sym ok.asks.active) (λ above. above.1) ok.stands.above

  pub alike : told_whole (noted s) (noted s) ≡ told_body (code s) s.fixed (noted s) start_written
  alike = begun_alike (code s) s.fixed (noted s) s.monitor.hosts s.monitor.input ok.hosts ok.fixed_alone ok.input

  -- a host that is asked for is the monitor's
  pub is_its : (signature s).host ≡ true → is_host_of (code s) s.function ≡ true
  is_its host = and_from (is_some (signature_at (code s) s.function)) (signature_in (code s) s.function).host ok.known (ap (λ (sig : Signature). sig.host) ok.same ∙ host)

  pub few : length (names_of s.args) ≤ 8
  few = within (length (names_of s.args)) (length s.args) ok.packable.named ok.packable.few
    where
      within : (a b : ℕ) → a ≤ b → b ≤ 8 → a ≤ 8
      within a b h k = omega (arith, h, k)
