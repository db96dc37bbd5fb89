-- The policy judges the call in the monitor as in the whole.
use Rattle.std.proofs.Common.{◌≡◌, ◌∙◌, ◌⊎◌, inl, inr, ℕ, ◌+◌, ◌≤◌, ℤ, ap, sym, refl, List, [], ◌∷◌, map, Bool, true, false, Option, Some, None, if◌then◌else◌}
use Rattle.std.specs.Prelude.{◌&&◌, not}
use Rattle.std.specs.List.{list_all}
use Rattle.pt_base.specs.declared.end.End.TheVariants.{Refused}
use Rattle.pt_base.proofs.Booleans.{and_true_first}
use Rattle.pt_tree.specs.PlainNumbers.{plain_numbers}
use Rattle.runs.specs.State.{Event, guarded, guarded_event}
use Rattle.policy.specs.Answers.{allowed, answers_of, function_of}
use Rattle.policy.specs.Verdicts as policy
use Rattle.policy.specs.Verdicts.{Standing}
use Rattle.pt_core.specs.Values.{number_in}
use Rattle.core_steps_law.specs.MachinesJudged as judge
use Rattle.core_steps_law.specs.MachinesJudged.{Judgement, judged}
use Rattle.marshalling.specs.Packing.{names_of, packed_block}
use Rattle.marshalling.specs.Sendable.{holds, sends_all}
use Rattle.pair_meaning.specs.Monitors.{low}
use Rattle.pair_meaning.specs.Rules.{Admitted, decided, makes, plain_of}
use Rattle.pair_meaning.specs.Serving.{verdict_on}
use Rattle.pair_laws.specs.AdmittedCallsLaws.{HonestCallsAreJudged, IsAllowed, IsDenied, IsHonest, call_said, holds_number}
use Rattle.pair_laws.proofs.AdmittedCallsNumbers.{plain_same}
use Rattle.pair_laws.proofs.AdmittedCallsRuled.{verdict_is}
use Rattle.pair_laws.specs.ServedBodiesScene.{IsScene, Scene, admitted, noted, sent_body, shown_args, signature, view}
use Rattle.pair_laws.proofs.ServedBodiesWork.{sent, whole_same}

module _ (s : Scene) (ok : IsScene s) (depth : ℕ) (honest : IsHonest s depth) where
  abbrev call : Admitted
  call = admitted s depth (holds_number s) s.monitor.policy s.monitor.calls

  abbrev numbers : List ℤ
  numbers = plain_of (signature s) (sent_body s)

  -- what was judged before the call
  abbrev before : Judgement Standing
  before = record { bytes = s.gate.judgement.bytes; state = s.monitor.policy; calls = s.monitor.calls; refused = None }

  before_is : s.gate.judgement ≡ before
  before_is = λ i. record { bytes = s.gate.judgement.bytes; state = honest.state i; calls = honest.calls i; refused = honest.unrefused i }

  numbers_same : plain_numbers (signature s).params (map number_in (shown_args s)) ≡ numbers
  numbers_same =
      sym (plain_same s.monitor.store s.slave.structs s.machine.blocks (names_of s.args) (view s) (signature s).params s.args
      (and_true_first (sends_all s.monitor.store s.slave.structs s.machine.blocks (signature s).params s.args) (list_all (λ name. list_all (holds s.monitor.store) (packed_block (s.machine.blocks name))) (names_of s.args)) (sent s ok).sendable))

  -- the events of the call
  abbrev events_by : Bool → List ℤ → List Event
  events_by b ns = if b && not false then guarded s.function ns ∷ [] else []

  noted_by : (b : Bool) → (signature s).privileged ≡ b → (noted s).judgement ≡ judged (answers_of s.policy) before (events_by b numbers)
  noted_by b e =
      (λ i. judged (answers_of s.policy) (before_is i) (guarded_event false (whole_same s ok i) s.function (map number_in (shown_args s))))
      ∙ ap (λ (p : Bool). judged (answers_of s.policy) before (events_by p (plain_numbers (signature s).params (map number_in (shown_args s))))) e
      ∙ ap (λ (ns : List ℤ). judged (answers_of s.policy) before (events_by b ns)) numbers_same

  module _ (in_budget : (s.machine.turns + 1) + s.monitor.turns ≤ s.budget) where
    verdict_by : (b : Bool) → (signature s).privileged ≡ b →
        verdict_on s.monitor (call_said s depth) ≡ (if b then decided (low s.monitor) call (allowed s.monitor.policy (policy.verdict_on s.monitor.policy (function_of s.function) numbers)) else makes call)
    verdict_by b e =
        verdict_is s ok depth honest in_budget
        ∙ ap (λ (p : Bool). if p then decided (low s.monitor) call (allowed s.monitor.policy (policy.verdict_on s.monitor.policy (function_of s.function) numbers)) else makes call) e

    -- it isn't guarded
    unguarded : (signature s).privileged ≡ false → IsAllowed s depth
    unguarded e = record { policy = s.monitor.policy; calls = s.monitor.calls; verdict = verdict_by false e; judgement = noted_by false e }

    judged_by : (signature s).privileged ≡ true → (o : Option Standing) → allowed s.monitor.policy (policy.verdict_on s.monitor.policy (function_of s.function) numbers) ≡ o →
        (noted s).judgement ≡ judge.decided (answers_of s.policy) s.function before o
    judged_by e o is = noted_by true e ∙ ap (λ (next : Option Standing). judge.decided (answers_of s.policy) s.function before next) is

    guarded_by : (signature s).privileged ≡ true → (o : Option Standing) → allowed s.monitor.policy (policy.verdict_on s.monitor.policy (function_of s.function) numbers) ≡ o → IsAllowed s depth ⊎ IsDenied s depth
    guarded_by e (Some next) is = inl (record {
      policy = next;
      calls = s.monitor.calls + 1;
      verdict = verdict_by true e ∙ ap (decided (low s.monitor) call) is;
      judgement = judged_by e (Some next) is;
    })
    guarded_by e None is = inr (record {
      refusal = Refused (s.monitor.calls + 1) (function_of s.function) s.monitor.policy.state;
      verdict = verdict_by true e ∙ ap (decided (low s.monitor) call) is;
      refused = ap (λ (j : Judgement Standing). j.refused) (judged_by e None is);
      bytes = ap (λ (j : Judgement Standing). j.bytes) (judged_by e None is);
    })

    judged_call : (b : Bool) → (signature s).privileged ≡ b → IsAllowed s depth ⊎ IsDenied s depth
    judged_call true e = guarded_by e (allowed s.monitor.policy (policy.verdict_on s.monitor.policy (function_of s.function) numbers)) refl
    judged_call false e = inl (unguarded e)

pub honest_calls_are_judged : HonestCallsAreJudged
honest_calls_are_judged s depth ok honest in_budget = judged_call s ok depth honest in_budget (signature s).privileged refl
