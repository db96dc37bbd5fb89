-- A host of the monitor's answers as the whole's call of it does.
use Rattle.std.proofs.Common.{◌≡◌, ◌∙◌, ℕ, suc, ◌+◌, ◌-◌, ◌≤◌, ap, sym, refl, subst, arith, List, [], map, true, Option, Some, None}
use Rattle.std.specs.Prelude.{ℤ, is_some, option_map}
use Rattle.std.proofs.lemmas.Bool.{and_from}
use Rattle.pt_tree.specs.HostStep.{Answer, host_step}
use Rattle.pt_tree.specs.declared.signature.Signature.{Signature}
use Rattle.runs.specs.State.{after_answer}
use Rattle.policy.specs.Answers.{answers_of}
use Rattle.policy.specs.Verdicts.{Standing}
use Rattle.block_memory.specs.declared.cell.Cell.{Cell}
use Rattle.pt_core.specs.Statements.{State}
use Rattle.pt_core.specs.Values.{number_in}
use Rattle.pt_core.specs.Calls.{number_cell, signature_in}
use Rattle.pt_core.specs.Steps.{answers, made, moved, with_turn}
use Rattle.pt_core.specs.WellFormed.{signature_at}
use Rattle.core_steps_law.specs.MachinesJudged.{Judging, judged_answer}
use Rattle.core_soundness_law.specs.Kept.{none}
use Rattle.core_soundness_law.specs.Outside.{GivenFits}
use Rattle.marshalling.specs.Taking.{Taken}
use Rattle.part_views_law.specs.Machines.{nobody, seen_machine}
use Rattle.part_views_law.specs.Views.{slave_view}
use Rattle.part_views_law.specs.CrossingsCalls.{IsEnded}
use Rattle.part_views_law.proofs.CrossingsFits.{worked_by_fits}
use Rattle.part_views_law.proofs.CrossingsMachines.{hosts_answer}
use Rattle.monitor_soundness_law.specs.Laws.{AnswersNumber, HostsFit}
use Rattle.monitor_soundness_law.proofs.Hosts.{hosts_leave_numbers}
use Rattle.pair_meaning.specs.Serving.{global_part, host_gives}
use Rattle.pair_invariant_law.proofs.MonitorGatesGates.{answers_alike, step_same}
use Rattle.pair_invariant_law.proofs.MonitorGatesModels.{called_signed, next_models}
use Rattle.pair_laws.specs.ServedBodiesLaws.{IsTheWholes, IsTold, ShowsTaking, number_of, store_then, taking}
use Rattle.pair_laws.specs.ServedBodiesScene.{IsScene, Scene, called, code, noted, outer, signature, turns_left}
use Rattle.pair_laws.proofs.ServedBodiesCalled.{makes_noted, whole_now}
use Rattle.pair_laws.proofs.ServedBodiesRuns.{no_further}
use Rattle.pair_laws.proofs.ServedBodiesWork.{alike, begun, few, fits, inputs, is_its, memory, sent, start_written}

-- a number's cell has the number
pub number_back : (o : Option ℤ) → option_map number_in (number_cell o) ≡ o
number_back None = refl
number_back (Some n) = refl

-- hosts that have models fit what is called
pub models_fit : (s : Scene) → IsScene s → HostsFit (code s) s.monitor.hosts
models_fit s ok f own host = ok.models f (and_from (is_some (signature_at (code s) f)) (signature_in (code s) f).host (called_signed (code s) f ok.halves.monitor_sound own) host)

module _ (s : Scene) (ok : IsScene s) (host : (signature s).host ≡ true) where
  abbrev numbers : List ℤ
  numbers = map number_in (inputs s ok).args

  abbrev answer : Answer
  answer = host_step s.monitor.input (s.monitor.hosts s.function) numbers

  abbrev began : State
  began = record { memory = memory s ok; hosts = s.monitor.hosts; input = s.monitor.input; events = []; left = turns_left s }

  abbrev value : Option Cell
  value = number_cell answer.result

  abbrev gate_then : Judging Standing
  gate_then = (judged_answer (answers_of s.policy) s.function (host_step (noted s).input ((noted s).hosts s.function) numbers) (noted s)).1

  leaves : AnswersNumber (code s) s.function s.monitor.hosts answer
  leaves = hosts_leave_numbers (code s) s.function numbers s.monitor.hosts s.monitor.input (models_fit s ok) ok.bytes (ok.models s.function (is_its s ok host))

  given : GivenFits none (signature s).result (number_cell (number_of value))
  given =
      subst (λ (o : Option ℤ). GivenFits none (signature s).result (number_cell o)) (sym (number_back answer.result))
      (subst (λ (sig : Signature). GivenFits none sig.result (number_cell answer.result)) ok.same leaves.result)

  module _ (in_budget : (s.machine.turns + 1) + s.monitor.turns ≤ s.budget) (unrefused : (noted s).judgement.refused ≡ None) where
    -- one answer in both
    same_answer : (host_step (noted s).input ((noted s).hosts s.function) numbers).result ≡ number_of value
    same_answer =
        ap (λ (a : Answer). a.result) (step_same (answers_of s.policy) s.whole (code s) s.fixed (noted s) ok.signed unrefused ok.lasting s.function numbers (noted s) (start_written s ok) (alike s ok) (is_its s ok host))
        ∙ sym (number_back answer.result)

    -- the whole's step
    called_is : called s ≡ made (with_turn (whole_now s ok)) s.caller.depth s.result (number_of value, gate_then)
    called_is =
        makes_noted s ok host in_budget
        ∙ ap (λ (ns : List ℤ). made (with_turn (whole_now s ok)) s.caller.depth s.result ((outer s).answer s.function ns (noted s))) (begun s ok).numbers_are
        ∙ ap (λ (o : Option ℤ). made (with_turn (whole_now s ok)) s.caller.depth s.result (o, gate_then)) same_answer

    told : IsTold s (after_answer s.function answer began) gate_then
    told = answers_alike (answers_of s.policy) s.whole (code s) s.fixed (noted s) ok.signed unrefused ok.lasting s.function numbers (noted s) (start_written s ok) (alike s ok) (is_its s ok host)

    one_turn : (t l : ℕ) → suc t ≡ t + suc (l - l)
    one_turn t l = omega arith

    shows : (t : Taken) →
        IsEnded s.slave (code s) s.caller.depth s.monitor.store (store_then s value (after_answer s.function answer began)) s.machine.blocks s.monitor.globals s.args (memory s ok) (global_part (memory s ok)) (number_of value) t →
        ShowsTaking s value (after_answer s.function answer began) t
    shows t ended = record {
      steps = 0;
      gate = gate_then;
      came =
          no_further s.whole (outer s) (called s)
          ∙ called_is
          ∙ hosts_answer s.slave (code s) s.monitor.store (store_then s value (after_answer s.function answer began)) s.slave.structs (signature s).params s.machine s.caller s.rest (record { callee = s.function; result = s.result })
          s.args s.monitor.globals (global_part (memory s ok)) (number_of value) t s.monitor.turns s.budget gate_then ok.asks.active ok.awaits (sent s ok) ended
          ∙ ap (λ n. answers moved (seen_machine (slave_view s.slave (store_then s value (after_answer s.function answer began)) (global_part (memory s ok))) nobody n s.budget (taking s t)) gate_then) (one_turn s.monitor.turns (turns_left s));
      told = told;
    }

    pub host_served : IsTheWholes s (host_gives s.function answer began)
    host_served = record {
      turns = no_less (turns_left s);
      memory = (fits s ok).0;
      models = next_models (code s) (start_written s ok) s.function numbers ok.models ok.bytes;
      work = worked_by_fits (code s) s.caller.depth s.monitor.store s.slave.structs (signature s) s.machine.blocks s.monitor.globals s.args (memory s ok) (global_part (memory s ok)) (number_of value)
          ok.halves.memory (fits s ok).0 given (few s ok) (λ k. refl) (λ k i e. refl) (λ g. refl) (sent s ok).whole;
      shows = shows;
    }
      where
        no_less : (n : ℕ) → n ≤ n
        no_less n = omega arith
