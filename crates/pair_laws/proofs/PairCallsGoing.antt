-- Where the call was served, the pair is live again.
use Rattle.std.proofs.Common.{◌≡◌, ◌∙◌, ℕ, suc, ◌+◌, ◌-◌, ◌≤◌, ap, sym, refl, subst, arith, List, [], ◌∷◌, ◌++◌, Bool, true, false, Option, None, if◌then◌else◌}
use Rattle.std.specs.Prelude.{ℤ, pos, ◌&&◌, is_some}
use Rattle.std.proofs.lemmas.List.{map-append}
use Rattle.std.proofs.lemmas.Bool.{and_from}
use Rattle.monitor_soundness_law.proofs.ServingBlocks.{brought_is, globals_fit}
use Rattle.pt_base.specs.declared.int_type.IntType.{IntType}
use Rattle.pt_base.proofs.Numbers.{at_most_self}
use Rattle.pt_tree.specs.HostStep.{host_step}
use Rattle.pt_tree.specs.declared.host_model.HostModel.{HostModel}
use Rattle.runs.specs.Run.{written as bytes_of}
use Rattle.runs.specs.State.{Hosts}
use Rattle.policy.specs.Verdicts.{Standing}
use Rattle.handle_store.specs.Stored.{AreInRange}
use Rattle.block_memory.specs.declared.cell.Cell.{Cell}
use Rattle.pt_core.specs.CodeTree.{ProgramTree}
use Rattle.pt_core.specs.Statements.{State}
use Rattle.pt_core.specs.Calls.{signature_in}
use Rattle.pt_core.specs.Steps.{answers, asked, moved}
use Rattle.pt_core.specs.WellFormed.{monitor_program, signature_at}
use Rattle.core_steps_law.specs.MachinesJudged.{Judgement, Judging}
use Rattle.marshalling.specs.Handles.{Entries}
use Rattle.marshalling.specs.HonestCalls.{returned}
use Rattle.marshalling.specs.Replies.{Place, kept, kept_by, kept_results, result_places}
use Rattle.marshalling.specs.Taking.{Taken, call_places, zeros}
use Rattle.part_views_law.specs.Machines.{nobody, seen_machine}
use Rattle.part_views_law.specs.Views.{slave_view}
use Rattle.part_views_law.specs.CrossingsStores.{IsGrown, sealed_types, store_types}
use Rattle.part_views_law.proofs.CrossingsEnding.{calls_end}
use Rattle.part_views_law.proofs.CrossingsStores.{stores_grow}
use Rattle.part_views_law.specs.StepsParts.{HasSignature, Stands}
use Rattle.part_views_law.proofs.CallsShown.{slaves_go_on}
use Rattle.pair_meaning.specs.LowView.{types_kept}
use Rattle.pair_meaning.specs.Monitors.{Monitor, types_in}
use Rattle.pair_meaning.specs.Serving.{global_part, served_with, turns_taken}
use Rattle.pair_meaning.specs.SlaveRun.{Slave, goes, machine_step, stepped, types_given}
use Rattle.pair_meaning.specs.Start.{reads_input}
use Rattle.pair_invariant_law.specs.MonitorGatesLaws.{Told, is_host_of}
use Rattle.pair_invariant_law.proofs.MonitorGatesModels.{called_signed}
use Rattle.pair_invariant_law.specs.Halves.{is_own_host}
use Rattle.pair_invariant_law.specs.Hosts.{HostsAgree}
use Rattle.pair_invariant_law.specs.Live.{IsBeside, IsLive, IsSetting, IsTheirs, Setting, whole_after}
use Rattle.pair_laws.specs.ServedBodiesLaws.{IsTold, IsWhole, ShowsTaking, number_of, store_then, taking}
use Rattle.pair_laws.specs.ServedBodiesScene.{IsScene, Scene, admitted, noted, sent_body, signature, turns_left}
use Rattle.pair_laws.proofs.ServedBodiesWork.{sent}
use Rattle.pair_laws.specs.AdmittedCallsLaws.{call_said, holds_number}
use Rattle.pair_laws.proofs.PairCallsScenes.{after_call, asked_by, budget_same, scene, scene_ok, setting_of, shared_hosts}

-- ---- types of what comes back

pub types_same : (places : List Place) → types_kept places ≡ sealed_types places
types_same [] = refl
types_same (p ∷ places) = ap (λ ts. types_in (kept_by p.way p.ty (pos 0)) ++ ts) (types_same places) ∙ sym (joined_types (kept_by p.way p.ty (pos 0)) (kept places (zeros places)))
  where
    joined_types : (a b : Entries) → store_types (a ++ b) ≡ store_types a ++ store_types b
    joined_types a b = map-append (λ (entry : IntType × ℤ). entry.0) a b

-- ---- numbers

turns_in : (t m n l : ℕ) → (t + 1) + m ≤ n → t + (m + suc ((n - ((t + 1) + m)) - l)) ≤ n
turns_in t m n l h = omega (arith, h)

one_more : (c m k : ℕ) → c ≤ m → c + 1 ≤ m + suc k
one_more c m k h = omega (arith, h)

enough : (a b c : ℕ) → a ≡ b → b ≤ a + c
enough a b c e = omega (arith, e)

module _ (whole : ProgramTree) (policy : Standing) (hosts : Hosts) (Own : Slave → Type 0) (x : Slave) (m : Monitor) (written : List ℕ)
    (setting : IsSetting (setting_of whole policy hosts x m) Own) (live : IsLive (setting_of whole policy hosts x m) Own x m written)
    (f : ℕ) (args : List Cell) (depth : ℕ) (is : (machine_step x).answer ≡ asked f args depth) where
  abbrev s : Scene
  s = scene whole policy hosts Own x m written setting live f args depth is

  abbrev w : Setting
  w = setting_of whole policy hosts x m

  pub ok : IsScene s
  ok = scene_ok whole policy hosts Own x m written setting live f args depth is

  abbrev code : ProgramTree
  code = monitor_program m.program

  module _ (next_policy : Standing) (next_calls : ℕ) (v : Option Cell) (st : State)
      (in_budget : (s.machine.turns + 1) + m.turns ≤ m.budget)
      (judged : (noted s).judgement ≡ record { bytes = live.gate.judgement.bytes; state = next_policy; calls = next_calls; refused = None })
      (work : IsWhole s v st) where
    -- the slave that has taken the reply, or has posted the call
    abbrev pub back : Taken
    back = returned m.store x.program.structs (signature s) s.machine.blocks args st.memory (number_of v)

    abbrev pub next_slave : Slave
    next_slave = record (stepped x (machine_step x)) { machine = taking s back; given = x.given ++ types_given (stepped x (machine_step x)) f args; calls = x.calls + 1; doing = goes }

    abbrev pub next_monitor : Monitor
    next_monitor = served_with m (call_said s depth) (admitted s depth (holds_number s) next_policy next_calls) (turns_left s) (number_of v) st

    shows : ShowsTaking s v st back
    shows = work.shows back (calls_end x.program code s.caller.depth m.store x.program.structs (signature s) s.machine.blocks m.globals args st.memory (global_part st.memory) (number_of v) (sent s ok) work.work).1

    grows : IsGrown m.store (store_then s v st) s.machine.blocks x.program.structs (signature s) args
    grows = stores_grow m.store x.program.structs (signature s) s.machine.blocks args st.memory (number_of v) (sent s ok).whole work.work.numbers work.work.result

    same_structs : m.program.structs ≡ x.program.structs
    same_structs = sym ok.halves.monitor_part.structs ∙ ok.halves.slave_part.structs

    store_is : next_monitor.store ≡ store_then s v st
    store_is = λ i. m.store ++ kept_results (same_structs i) (signature s) (sent_body s) (brought_is st.memory i) (number_of v)

    -- ---- the monitor

    their : IsTheirs w next_monitor
    their = record {
      program = refl;
      memory = globals_fit code st.memory work.memory;
      received = λ k. refl;
      ranged = subst AreInRange (sym store_is) (grows.ranged live.theirs.ranged);
      input = live.theirs.input;
      budget = live.theirs.budget;
      hosts_fit = λ g own host. work.models g (and_from (is_some (signature_at code g)) (signature_in code g).host (called_signed code g setting.halves.monitor_sound own) host);
    }

    -- ---- the slave

    slave_stands : Stands (slave_view x.program next_monitor.store next_monitor.globals) 0 false next_monitor.turns m.budget x.program next_slave.machine
    slave_stands =
        subst (λ (store : Entries). Stands (slave_view x.program store (global_part st.memory)) 0 false (m.turns + turns_taken (turns_left s) st) m.budget x.program (taking s back)) (sym store_is)
        (slaves_go_on whole x.program code m.store m.globals m.turns m.budget s.machine s.caller s.rest f args (record { callee = f; result = s.result }) st.memory (global_part st.memory) (number_of v) (m.turns + turns_taken (turns_left s) st)
        ok.halves ok.ranged ok.stands ok.asks work.work ok.awaits refl
        (enough s.machine.budget m.budget (m.turns + turns_taken (turns_left s) st) (budget_same whole policy hosts Own x m written setting live f args depth is))).1

    given_is : next_slave.given ≡ types_in next_monitor.store
    given_is =
        (λ i. live.beside.given i ++ (types_same (result_places (signature s) (signature s).result) i ++ types_same (call_places s.machine.blocks x.program.structs (signature s).params args) i))
        ∙ sym grows.types
        ∙ ap types_in (sym store_is)

    beside : Own next_slave → IsBeside w Own next_slave next_monitor
    beside own = record {
      own = own;
      program = refl;
      doing = refl;
      active = (s.caller, s.rest, ok.asks.active);
      free = refl;
      stands = slave_stands;
      given = given_is;
      budget = budget_same whole policy hosts Own x m written setting live f args depth is;
      calls = one_more x.calls m.turns (turns_left s - st.left) live.beside.calls;
      last = at_most_self s.machine.turns;
    }

    -- ---- the whole's hosts

    abbrev gate_now : Judging Standing
    gate_now = shows.gate

    told : IsTold s st gate_now
    told = shows.told

    hosts_told : (g : ℕ) → gate_now.hosts g ≡ (if is_host_of code g then st.hosts g else live.gate.hosts g)
    hosts_told g = ap (λ (t : Told Standing). t.judging.hosts g) told

    fixed_told : (g : ℕ) → live.gate.hosts g ≡ (if shared_hosts x.program code g then st.hosts g else live.gate.hosts g)
    fixed_told g = ap (λ (t : Told Standing). t.hosts g) told

    -- of a host that the slave calls itself nothing has changed
    own_stays : (g : ℕ) → HasSignature x.program g → is_own_host (signature_in x.program g) ≡ true → gate_now.hosts g ≡ live.gate.hosts g
    own_stays g known own = go (is_host_of code g) refl
      where
        go : (b : Bool) → is_host_of code g ≡ b → gate_now.hosts g ≡ live.gate.hosts g
        go true e =
            hosts_told g ∙ ap (λ (b : Bool). if b then st.hosts g else live.gate.hosts g) e
            ∙ sym (fixed_told g ∙ ap (λ (b : Bool). if b then st.hosts g else live.gate.hosts g)
            (and_from (is_some (signature_at x.program g) && is_own_host (signature_in x.program g)) (is_host_of code g) (and_from (is_some (signature_at x.program g)) (is_own_host (signature_in x.program g)) known own) e))
        go false e = hosts_told g ∙ ap (λ (b : Bool). if b then st.hosts g else live.gate.hosts g) e

    hosts_agree : HostsAgree x.program code gate_now.hosts m.input next_slave.hosts x.input st.hosts
    hosts_agree = record {
      slave_has = λ g known own. ap (λ h. h.hosts g) (asked_by whole policy hosts Own x m written setting live f args depth is).same ∙ live.hosts.slave_has g known own ∙ sym (own_stays g known own);
      monitor_has = λ g known host. sym (hosts_told g ∙ ap (λ (b : Bool). if b then st.hosts g else live.gate.hosts g) (and_from (is_some (signature_at code g)) (signature_in code g).host known host));
      reads = λ g known own reads. live.hosts.reads g known own (subst (λ (now : HostModel). reads_input now ≡ true) (own_stays g known own) reads);
      stays = λ g known own its numbers. subst (λ (now : HostModel). (host_step m.input now numbers).next ≡ now) (sym (own_stays g known own)) (live.hosts.stays g known own its numbers);
    }

    -- ---- live again

    judgement_is : gate_now.judgement ≡ record { bytes = written ++ bytes_of st.events; state = next_policy; calls = next_calls; refused = None }
    judgement_is =
        ap (λ (t : Told Standing). t.judging.judgement) told
        ∙ ap (λ (j : Judgement Standing). record j { bytes = j.bytes ++ bytes_of st.events }) (judged ∙ ap (λ (bytes : List ℕ). record { bytes = bytes; state = next_policy; calls = next_calls; refused = None }) (ap (λ (j : Judgement Standing). j.bytes) live.judgement))

    input_is : gate_now.input ≡ m.input
    input_is = ap (λ (t : Told Standing). t.judging.input) told ∙ sym (ap (λ (t : Told Standing). t.input) told) ∙ live.input

    came : whole_after w (live.steps + suc shows.steps) ≡ answers moved (seen_machine (slave_view x.program next_monitor.store next_monitor.globals) nobody next_monitor.turns m.budget next_slave.machine) gate_now
    came =
        after_call whole policy hosts Own x m written setting live f args depth is shows.steps
        ∙ shows.came
        ∙ ap (λ (store : Entries). answers moved (seen_machine (slave_view x.program store (global_part st.memory)) nobody (m.turns + turns_taken (turns_left s) st) m.budget (taking s back)) gate_now) (sym store_is)

    pub live_again : Own next_slave → IsLive w Own next_slave next_monitor (written ++ bytes_of st.events)
    live_again own = record {
      theirs = their;
      beside = beside own;
      steps = live.steps + suc shows.steps;
      gate = gate_now;
      came = came;
      judgement = judgement_is;
      input = input_is;
      hosts = hosts_agree;
      turns = turns_in s.machine.turns m.turns m.budget st.left in_budget;
    }
