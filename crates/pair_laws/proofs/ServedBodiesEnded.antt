-- Where a body has ended, the whole shows the slave going on.
use Rattle.std.proofs.Common.{◌≡◌, ◌∙◌, ℕ, suc, ◌+◌, ◌-◌, ◌≤◌, ap, sym, refl, subst, arith, List, [], ◌∷◌, length, true, false, Option, Some, None}
use Rattle.std.specs.Prelude.{ℤ, option_map, slice_get}
use Rattle.pt_base.proofs.Numbers.{as_plus_one}
use Rattle.pt_tree.specs.declared.signature.Signature.{Signature}
use Rattle.typed_tree.specs.declared.types.StructInfo.{StructInfo}
use Rattle.runs.specs.State.{gives}
use Rattle.policy.specs.Verdicts.{Standing}
use Rattle.block_memory.specs.declared.cell.Cell.{Cell}
use Rattle.block_memory.specs.declared.cell.BlockName.TheVariants.{Received}
use Rattle.block_memory.specs.Blocks.{Blocks, without_frames}
use Rattle.pt_core.specs.Statements.{State}
use Rattle.pt_core.specs.Calls.{number_cell, signature_in}
use Rattle.pt_core.specs.Steps as p
use Rattle.pt_core.specs.Steps.{Active, Awaited, Machine, Step, answers, by_way, enters, is_active, moved, resumed_in, returned, spent, started, step}
use Rattle.core_steps_law.specs.Laws.{machine_at}
use Rattle.core_steps_law.specs.WholeRun.{further, steps_run}
use Rattle.core_steps_law.specs.GatesWritten.{Written}
use Rattle.core_steps_law.specs.MachinesBodies.{body_outcome, written_then}
use Rattle.core_steps_law.specs.MachinesJudged.{Judging}
use Rattle.core_soundness_law.specs.Fits.{Fits}
use Rattle.core_soundness_law.specs.Kept.{by_store, none}
use Rattle.core_soundness_law.specs.Outside.{ArgumentsFit, GivenFits, own_params}
use Rattle.core_soundness_law.proofs.More.{more_is_kept}
use Rattle.marshalling.specs.Taking.{Taken, call_crossing, comes_back}
use Rattle.part_views_law.specs.Machines.{joined, nobody, seated, seen_machine}
use Rattle.part_views_law.specs.Views.{View, seen, seen_cell, slave_view}
use Rattle.marshalling_law.specs.CallsServed.{IsNumber}
use Rattle.marshalling_law.proofs.CallsServed.{results_are_numbers}
use Rattle.part_views_law.specs.CrossingsCalls.{IsEnded, IsWorked}
use Rattle.part_views_law.proofs.CrossingsFits.{worked_by_fits}
use Rattle.part_views_law.specs.StepsLaws.{Sees}
use Rattle.part_views_law.specs.StepsOutward.{EndSeen, Outward}
use Rattle.part_views_law.proofs.StepsOutward.{parts_lead}
use Rattle.part_views_law.proofs.CallsWhole.{calls_return}
use Rattle.lent_blocks_law.proofs.Bodies.{bodies_keep_what_stays}
use Rattle.monitor_soundness_law.specs.Laws.{LeavesNumbers}
use Rattle.monitor_soundness_law.proofs.Bodies.{bodies_leave_numbers}
use Rattle.pair_meaning.specs.Serving.{global_part}
use Rattle.pair_invariant_law.specs.MonitorGatesLaws.{HaveModels, told_body}
use Rattle.pair_invariant_law.proofs.MonitorGatesModels.{Fitting, fitting_fits, fitting_gate, fitting_run, hosts_keep_models}
use Rattle.pair_invariant_law.proofs.MonitorGatesNumbers.{none_by_fits, plain_next}
use Rattle.pair_laws.specs.ServedBodiesLaws.{IsWhole, ShowsTaking, number_of, store_then}
use Rattle.pair_laws.specs.ServedBodiesScene.{IsScene, Scene, called_and, code, noted, outer, signature}
use Rattle.pair_laws.proofs.ServedBodiesBody.{Alike, Goes, at_rest, below, big, body, body_budget, deep, given, goes_at, inner, known, moved_sees, no_marks, rest_fits, seen_body, shown, shows_body, small}
use Rattle.pair_laws.proofs.ServedBodiesCalled.{enters_noted, frames_are, joined_machine, joined_twice}
use Rattle.pair_laws.proofs.ServedBodiesHosts.{models_fit}
use Rattle.pair_laws.proofs.ServedBodiesOutermost.{HasDepth, ends_still}
use Rattle.pair_laws.proofs.ServedBodiesRuns.{last_step}
use Rattle.pair_laws.proofs.ServedBodiesWork.{few, fits, inputs, memory, own_taken, sent, start_written}

resumed_same : (v : Option Cell) (o : Option Awaited) (active : List Active) (blocks : Blocks) → resumed_in v o (joined nobody active) blocks ≡ resumed_in v o active blocks
resumed_same v None active blocks = refl
resumed_same v (Some awaited) [] blocks = refl
resumed_same v (Some awaited) (a ∷ rest) blocks = refl

-- a number, or nothing, is seen as it is
seen_number : (v : View) (o : Option ℤ) → option_map (seen_cell v) (number_cell o) ≡ number_cell o
seen_number v None = refl
seen_number v (Some n) = refl

-- what both have taken by then
turns_then : (z m n t l : ℕ) → (n - suc t) - l ≡ z → l ≤ (n - suc t) - m → (t + 1) + m ≤ n → z + 1 ≡ m + suc ((n - ((t + 1) + m)) - l)
turns_then z m n t l e h k = omega (arith, e, h, k)

pub left_same : (n t m : ℕ) → (n - suc t) - m ≡ n - ((t + 1) + m)
left_same n t m = omega arith

module _ (s : Scene) (ok : IsScene s) (plain : (signature s).host ≡ false) (in_budget : (s.machine.turns + 1) + s.monitor.turns ≤ s.budget) (unrefused : (noted s).judgement.refused ≡ None) where
  abbrev frames : List Active
  frames = joined nobody s.machine.active

  pub called_big : (k : ℕ) → called_and s k ≡ big s ok plain in_budget unrefused k
  called_big k = ap (λ (y : Step (Judging Standing)). further y (steps_run s.whole (outer s) k)) (enters_noted s ok (body_budget s ok plain in_budget unrefused) plain in_budget)

  -- ---- where the body has ended

  module _ (v : Option Cell) (st : State) (i : ℕ) (all : (l : ℕ) → l ≤ i → (small s ok plain in_budget unrefused l).answer ≡ moved)
      (end : small s ok plain in_budget unrefused (suc i) ≡ answers (p.ended v) (machine_at (at_rest s ok plain in_budget unrefused) [] st) (written_then (start_written s ok) st))
      (kept_turns : st.left ≤ body_budget s ok plain in_budget unrefused - s.monitor.turns)
      (result_is : body_outcome (code s) true s.function (s.caller.depth + 1) (inputs s ok).args (at_rest s ok plain in_budget unrefused) (start_written s ok) ≡ gives v st) where
    abbrev x : Machine
    x = (small s ok plain in_budget unrefused i).machine

    abbrev g : Written
    g = (small s ok plain in_budget unrefused i).gate

    abbrev h : Judging Standing
    h = (big s ok plain in_budget unrefused i).gate

    self : (n : ℕ) → n ≤ n
    self n = omega arith

    goes : Goes s ok plain in_budget unrefused i
    goes = goes_at s ok plain in_budget unrefused i all

    moves : (small s ok plain in_budget unrefused i).answer ≡ moved
    moves = all i (self i)

    seen_there : Sees (Alike s ok plain in_budget unrefused) (shows_body s ok plain in_budget unrefused) (below s ok plain in_budget unrefused) (suc s.machine.turns) s.budget (big s ok plain in_budget unrefused i) (small s ok plain in_budget unrefused i)
    seen_there = moved_sees s ok plain in_budget unrefused i moves

    -- the last step, in the monitor and in the whole
    step_is : step (code s) (inner s ok plain in_budget unrefused) x g ≡ answers (p.ended v) (machine_at (at_rest s ok plain in_budget unrefused) [] st) (written_then (start_written s ok) st)
    step_is = sym (last_step (code s) (inner s ok plain in_budget unrefused) i (body s ok plain in_budget unrefused) (start_written s ok) moves) ∙ end

    fits_none : Fits none true (code s) x
    fits_none = more_is_kept (by_store []) none true (code s) x (λ t n k. k) goes.stands.fits

    abbrev whole_step : Step (Judging Standing)
    whole_step = step s.whole (outer s) (seen_body s ok plain in_budget unrefused x) h

    leads : EndSeen (shows_body s ok plain in_budget unrefused) (below s ok plain in_budget unrefused) (suc s.machine.turns) s.budget h whole_step x (machine_at (at_rest s ok plain in_budget unrefused) [] st) v
    leads =
        subst (λ (y : Step Written). Outward s.whole (outer s) (shows_body s ok plain in_budget unrefused) (below s ok plain in_budget unrefused) (suc s.machine.turns) s.budget h whole_step x y.machine y.answer) step_is
        (parts_lead no_marks s.whole (code s) (outer s) (inner s ok plain in_budget unrefused) (shows_body s ok plain in_budget unrefused) s.caller.depth true (below s ok plain in_budget unrefused) (suc s.machine.turns) s.budget x h g
        (shown s ok plain in_budget unrefused).0 goes.stands (plain_next no_marks (inner s ok plain in_budget unrefused) g (code s) x (none_by_fits (code s) x.active x.blocks fits_none.memory)))

    last_depth : leads.last.depth ≡ s.caller.depth + 1
    last_depth = subst (λ active. HasDepth (s.caller.depth + 1) active) leads.active goes.outermost

    memory_then : st.memory ≡ without_frames x.blocks leads.last.depth
    memory_then = ap (λ (m : Machine). m.blocks) leads.left

    turns_there : body_budget s ok plain in_budget unrefused - st.left ≡ x.turns
    turns_there = ap (λ (m : Machine). m.turns) leads.left

    gate_same : written_then (start_written s ok) st ≡ g
    gate_same =
        ap (λ (y : Step Written). y.gate) (sym step_is)
        ∙ ends_still (code s) (inner s ok plain in_budget unrefused) (s.caller.depth + 1) g x v goes.outermost (ap (λ (y : Step Written). y.answer) step_is)

    -- ---- what it left

    leaves : LeavesNumbers (code s) s.function (memory s ok) v st
    leaves =
        bodies_leave_numbers (code s) true s.function (s.caller.depth + 1) (inputs s ok).args (memory s ok) s.monitor.hosts s.monitor.input (body_budget s ok plain in_budget unrefused - s.monitor.turns) v st
        (record { sound = ok.halves.monitor_sound; memory = (fits s ok).0; hosts_fit = models_fit s ok; bytes = ok.bytes }) (known s ok plain in_budget unrefused) (deep s ok plain in_budget unrefused) (ok.shallow plain) (given s ok plain in_budget unrefused) result_is

    numbers : IsNumber (signature_in (code s) s.function).result v
    numbers = results_are_numbers (signature_in (code s) s.function).result v leaves.result

    result_fits : GivenFits none (signature s).result (number_cell (number_of v))
    result_fits =
        subst (λ (o : Option Cell). GivenFits none (signature s).result o) (sym numbers.same)
        (subst (λ (sig : Signature). GivenFits none sig.result v) ok.same leaves.result)

    abbrev begun_fitting : Fitting (code s)
    begun_fitting = record { now = start_written s ok; models = ok.models; bytes = ok.bytes }

    same_structs : s.slave.structs ≡ (code s).structs
    same_structs = sym ok.halves.slave_part.structs ∙ ok.halves.monitor_part.structs

    crossing_same : (k j : ℕ) → comes_back (call_crossing s.slave.structs (signature s).params s.args k j) ≡ false → comes_back (call_crossing (code s).structs (signature_in (code s) s.function).params s.args k j) ≡ false
    crossing_same k j back =
        subst (λ (sig : Signature). comes_back (call_crossing (code s).structs sig.params s.args k j) ≡ false) (sym ok.same)
        (subst (λ (structs : List StructInfo). comes_back (call_crossing structs (signature s).params s.args k j) ≡ false) same_structs back)

    abbrev body_with : List Cell → Machine
    body_with given_args = started (code s) true s.function (s.caller.depth + 1) given_args (at_rest s ok plain in_budget unrefused)

    kept_run : (k j : ℕ) → comes_back (call_crossing s.slave.structs (signature s).params s.args k j) ≡ false →
        slice_get ((steps_run (code s) (fitting_gate (code s)) (suc i) (body s ok plain in_budget unrefused) begun_fitting).machine.blocks (Received k)).cells j ≡ slice_get (memory s ok (Received k)).cells j
    kept_run k j back =
        subst (λ (given_args : List Cell). slice_get ((steps_run (code s) (fitting_gate (code s)) (suc i) (body_with given_args) begun_fitting).machine.blocks (Received k)).cells j ≡ slice_get (memory s ok (Received k)).cells j) (own_taken s ok plain)
        (bodies_keep_what_stays none true (code s) (fitting_gate (code s)) (at_rest s ok plain in_budget unrefused) begun_fitting true s.function (s.caller.depth + 1) (suc i) s.monitor.store s.machine.blocks s.args
        ok.halves.monitor_sound ok.said (fitting_fits (code s) ok.halves.monitor_sound ok.functions) (rest_fits s ok plain in_budget unrefused) refl refl (known s ok plain in_budget unrefused) (deep s ok plain in_budget unrefused) (ok.shallow plain)
        (ap (λ (sig : Signature). length sig.params) ok.same ∙ sym ok.packable.count)
        (subst (λ (given_args : List Cell). ArgumentsFit none (code s).structs (memory s ok) 0 (own_params (code s) s.function) given_args) (sym (own_taken s ok plain)) (given s ok plain in_budget unrefused))
        k j (crossing_same k j back))

    machine_then : (steps_run (code s) (fitting_gate (code s)) (suc i) (body s ok plain in_budget unrefused) begun_fitting).machine ≡ machine_at (at_rest s ok plain in_budget unrefused) [] st
    machine_then = ap (λ (y : Step Written). y.machine) (sym (fitting_run (code s) (suc i) (body s ok plain in_budget unrefused) begun_fitting) ∙ end)

    keeps : (k j : ℕ) → comes_back (call_crossing s.slave.structs (signature s).params s.args k j) ≡ false → slice_get (st.memory (Received k)).cells j ≡ slice_get (memory s ok (Received k)).cells j
    keeps k j back = subst (λ (m : Machine). slice_get (m.blocks (Received k)).cells j ≡ slice_get (memory s ok (Received k)).cells j) machine_then (kept_run k j back)

    work : IsWorked (code s) s.caller.depth s.monitor.store s.slave.structs (signature s) s.machine.blocks s.monitor.globals s.args st.memory (global_part st.memory) (number_of v)
    work =
        worked_by_fits (code s) s.caller.depth s.monitor.store s.slave.structs (signature s) s.machine.blocks s.monitor.globals s.args st.memory (global_part st.memory) (number_of v)
        ok.halves.memory leaves.memory result_fits (few s ok) (λ k. (leaves.received k).types) keeps (λ j. refl) (sent s ok).whole

    models : HaveModels (code s) st.hosts
    models = subst (λ (y : Step Written). HaveModels (code s) y.gate.hosts) end (hosts_keep_models (code s) (suc i) (body s ok plain in_budget unrefused) (start_written s ok) ok.models ok.bytes)

    -- ---- the whole goes on

    abbrev after_view : View
    after_view = slave_view s.slave (store_then s v st) (global_part st.memory)

    -- the last step of the whole returns
    returns : big s ok plain in_budget unrefused (suc i)
        ≡ returned (seen_body s ok plain in_budget unrefused x) h (seated (below s ok plain in_budget unrefused) [] leads.last) frames (option_map (seen_cell (shows_body s ok plain in_budget unrefused)) v)
    returns =
        last_step s.whole (outer s) i (seen_body s ok plain in_budget unrefused (body s ok plain in_budget unrefused)) (noted s) (seen_there.answer ∙ moves)
        ∙ ap (λ (m : Machine). step s.whole (outer s) m h) seen_there.machine
        ∙ leads.returns

    shows : (t : Taken) →
        IsEnded s.slave (code s) s.caller.depth s.monitor.store (store_then s v st) s.machine.blocks s.monitor.globals s.args st.memory (global_part st.memory) (number_of v) t → ShowsTaking s v st t
    shows t ended = record {
      steps = suc i;
      gate = h;
      came =
          called_big (suc i)
          ∙ returns
          ∙ (λ j. returned (seen_machine (shows_body s ok plain in_budget unrefused) (record { result = s.result; frames = frames_are s ok j }) (as_plus_one s.machine.turns j) s.budget x) h
          (seated (record { result = s.result; frames = frames_are s ok j }) [] leads.last) (frames_are s ok j) (option_map (seen_cell (shows_body s ok plain in_budget unrefused)) (sym numbers.same j)))
          ∙ calls_return s.slave (code s) s.monitor.store (store_then s v st) (joined_machine s ok) x (seated nobody s.rest s.caller) leads.last (joined nobody s.rest) (record { callee = s.function; result = s.result })
          s.args s.monitor.globals (global_part st.memory) (number_of v) t 1 s.budget h (frames_are s ok) (joined_twice s.machine.active) ok.awaits last_depth
          (subst (λ (z : Blocks). IsEnded s.slave (code s) s.caller.depth s.monitor.store (store_then s v st) s.machine.blocks s.monitor.globals s.args z (global_part st.memory) (number_of v) t) memory_then ended)
          ∙ (λ j. answers moved
          (record {
            active = joined_twice s.machine.active j;
            blocks = seen after_view (resumed_same t.result s.machine.awaits s.machine.active t.blocks j);
            turns = s.machine.turns + turns_then x.turns s.monitor.turns s.budget s.machine.turns st.left turns_there kept_turns in_budget j;
            budget = s.budget;
            awaits = None;
          })
          h);
      told = seen_there.gate ∙ ap (told_body (code s) s.fixed (noted s)) (sym gate_same);
    }

    pub ended_whole : IsWhole s v st
    ended_whole = record {
      turns = subst (λ n. st.left ≤ n) (left_same s.budget s.machine.turns s.monitor.turns) kept_turns;
      memory = leaves.memory;
      models = models;
      work = work;
      shows = shows;
    }
