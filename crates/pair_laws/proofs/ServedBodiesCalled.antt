-- What the whole does at a call, whatever the policy says of it.
use Rattle.std.proofs.Common.{◌≡◌, ◌∙◌, ℕ, suc, ◌+◌, ◌≤◌, nat_lt, ap, sym, refl, arith, List, [], ◌∷◌, map, Bool, true, false, Some, None, if◌then◌else◌, ◌||◌}
use Rattle.std.specs.Prelude.{IsTrue, is_some}
use Rattle.std.proofs.lemmas.Bool.Decides.{nat_tests}
use Rattle.pt_base.specs.declared.end.End.{End}
use Rattle.pt_base.specs.declared.trap.Trap.TheVariants.{Depth}
use Rattle.pt_tree.specs.HostStep.{host_step}
use Rattle.pt_tree.specs.declared.signature.Signature.{Signature}
use Rattle.runs.specs.State.{out_event}
use Rattle.policy.specs.Answers.{answers_of}
use Rattle.policy.specs.Verdicts.{Standing}
use Rattle.pt_core.specs.Values.{number_in}
use Rattle.pt_core.specs.Calls.{entered, signature_in}
use Rattle.pt_core.specs.Steps.{Active, Machine, Step, answers, by_way, enters, is_active, just_entered, made, moved, spent, started, trapped, turned, with_turn}
use Rattle.pt_core.specs.WellFormed.{function_at}
use Rattle.core_steps_law.specs.MachinesJudged.{Judging}
use Rattle.core_steps_law.proofs.MachinesJudging.{refusals_stay}
use Rattle.part_views_law.specs.Machines.{joined, nobody, seated, seen_machine}
use Rattle.part_views_law.specs.Views.{seen}
use Rattle.part_views_law.specs.CrossingsCalls.{body_view}
use Rattle.part_views_law.specs.CrossingsMachines.{resting}
use Rattle.part_views_law.proofs.CallsWhole.{calls_are_entered, deep_enough}
use Rattle.pair_laws.specs.ServedBodiesLaws.{CallsAreNoted, CallsAreSpent, IsNoted, IsSpent}
use Rattle.pair_laws.specs.ServedBodiesScene.{IsScene, Scene, called, code, noted, outer, shown_args, signature, view}
use Rattle.pair_laws.proofs.ServedBodiesWork.{called_by, inputs, memory, none_active, sent, whole_same}

-- ---- the slave's functions

pub joined_twice : (active : List Active) → joined nobody (joined nobody active) ≡ joined nobody active
joined_twice [] = refl
joined_twice (a ∷ []) = refl
joined_twice (a ∷ b ∷ rest) = ap (λ (xs : List Active). seated nobody (b ∷ rest) a ∷ xs) (joined_twice (b ∷ rest))

-- ---- turns

turn_there : (t m n : ℕ) → (t + 1) + m ≤ n → nat_lt (t + m) n ≡ true
turn_there t m n h = grind (arith, nat_tests, h)

no_turn : (t m n : ℕ) → n ≤ t + m → nat_lt (t + m) n ≡ false
no_turn t m n h = grind (arith, nat_tests, h)

module _ (s : Scene) (ok : IsScene s) where
  -- the whole's machine that shows the slave
  abbrev pub whole_now : Machine
  whole_now = seen_machine (view s) nobody s.monitor.turns s.budget s.machine

  -- ---- a function

  -- the slave's machine, as its functions are in the whole
  abbrev pub joined_machine : Machine
  joined_machine = record (s.machine) { active = joined nobody s.machine.active }

  pub frames_are : joined nobody s.machine.active ≡ seated nobody s.rest s.caller ∷ joined nobody s.rest
  frames_are = ap (joined nobody) ok.asks.active

  same_now : seen_machine (view s) nobody s.monitor.turns s.budget joined_machine ≡ whole_now
  same_now = λ i. record { active = joined_twice s.machine.active i; blocks = seen (view s) s.machine.blocks; turns = s.machine.turns + s.monitor.turns; budget = s.budget; awaits = None }

  -- the machine that shows the started body over the slave's functions
  abbrev pub body_now : ℕ → Machine
  body_now budget =
      seen_machine (body_view s.slave (code s) s.caller.depth s.monitor.store s.machine.blocks s.monitor.globals s.args) (record { result = s.result; frames = joined nobody s.machine.active }) (suc s.machine.turns) s.budget
      (started (code s) true s.function (s.caller.depth + 1) (inputs s ok).args (resting (memory s ok) s.monitor.turns budget))

  abbrev entry : Machine → Step (Judging Standing)
  entry w = by_way s.whole (outer s) w s.gate s.span s.function (shown_args s) s.result s.caller.depth enters

  abbrev noted_with : Bool → Judging Standing
  noted_with b = (outer s).noted b s.function (shown_args s) s.gate

  pub enters_noted : (budget : ℕ) → (signature s).host ≡ false → (s.machine.turns + 1) + s.monitor.turns ≤ s.budget → called s ≡ answers moved (body_now budget) (noted s)
  enters_noted budget plain in_budget =
      called_by s ok false plain
      ∙ ap entry (sym same_now)
      ∙ calls_are_entered s.whole s.slave (code s) (outer s) s.monitor.store s.monitor.globals s.monitor.turns s.budget joined_machine (seated nobody s.rest s.caller) (joined nobody s.rest)
      s.function s.args s.result s.span s.gate budget ok.halves (sent s ok) frames_are (joined_twice s.machine.active) known privileged (ok.shallow plain)
      ∙ ap (λ (b : Bool). if b then answers moved (body_now budget) (noted_with (is_active (joined nobody (joined nobody s.machine.active)))) else answers spent (seen_machine (view s) nobody s.monitor.turns s.budget joined_machine) s.gate)
      (turn_there s.machine.turns s.monitor.turns s.budget in_budget)
      ∙ ap (λ (b : Bool). answers moved (body_now budget) (noted_with b)) (ap is_active (joined_twice s.machine.active) ∙ none_active s ok)
    where
      known : IsTrue (is_some (function_at (code s) s.function))
      known = ok.functions s.function ok.known (ap (λ (sig : Signature). sig.host) ok.same ∙ plain)

      privileged : (signature_in s.whole s.function).privileged ≡ true
      privileged = ap (λ (sig : Signature). sig.privileged) (whole_same s ok) ∙ ok.guarded plain

  -- ---- a host

  abbrev made_by : Bool → Machine → Step (Judging Standing)
  made_by b w = made w s.caller.depth s.result ((outer s).answer s.function (map number_in (shown_args s)) (noted_with b))

  pub makes_noted : (signature s).host ≡ true → (s.machine.turns + 1) + s.monitor.turns ≤ s.budget →
      called s ≡ made (with_turn whole_now) s.caller.depth s.result ((outer s).answer s.function (map number_in (shown_args s)) (noted s))
  makes_noted host in_budget =
      called_by s ok true host
      ∙ ap (λ (b : Bool). turned whole_now s.gate (made_by b)) (none_active s ok)
      ∙ ap (λ (b : Bool). if b then made_by false (with_turn whole_now) else answers spent whole_now s.gate) (turn_there s.machine.turns s.monitor.turns s.budget in_budget)

  -- ---- a budget that has no turn for it

  pub spent_called : s.budget ≤ s.machine.turns + s.monitor.turns → IsSpent s
  spent_called over = go (signature s).host refl
    where
      at : called s ≡ answers spent whole_now s.gate → IsSpent s
      at e = record { answer = ap (λ (y : Step (Judging Standing)). y.answer) e; gate = ap (λ (y : Step (Judging Standing)). y.gate) e }

      none : nat_lt (s.machine.turns + s.monitor.turns) s.budget ≡ false
      none = no_turn s.machine.turns s.monitor.turns s.budget over

      go : (b : Bool) → (signature s).host ≡ b → IsSpent s
      go true host =
          at (called_by s ok true host
          ∙ ap (λ (b : Bool). if b then made_by (is_active (joined nobody s.machine.active)) (with_turn whole_now) else answers spent whole_now s.gate) none)
      go false plain =
          at (called_by s ok false plain
          ∙ ap (λ (b : Bool). if b then turned whole_now s.gate (λ m1. answers moved
          (record m1 {
            active = just_entered s.whole (is_active whole_now.active || (signature_in s.whole s.function).privileged) s.function (s.caller.depth + 1) s.result ∷ m1.active;
            blocks = entered s.whole s.function (s.caller.depth + 1) (shown_args s) m1.blocks;
          })
          (noted_with (is_active whole_now.active))) else answers (trapped Depth s.span) whole_now s.gate) (deep_enough (s.caller.depth + 1) (ok.shallow plain))
          ∙ ap (λ (b : Bool). if b then answers moved
          (record (with_turn whole_now) {
            active = just_entered s.whole (is_active whole_now.active || (signature_in s.whole s.function).privileged) s.function (s.caller.depth + 1) s.result ∷ (with_turn whole_now).active;
            blocks = entered s.whole s.function (s.caller.depth + 1) (shown_args s) (with_turn whole_now).blocks;
          })
          (noted_with (is_active whole_now.active)) else answers spent whole_now s.gate) none)

  -- ---- what is judged of it

  -- a refusal stands, whatever the call then does
  pub noted_called : (refusal : End) → (s.machine.turns + 1) + s.monitor.turns ≤ s.budget → (noted s).judgement.refused ≡ Some refusal → IsNoted s
  noted_called refusal in_budget refused = go (signature s).host refl
    where
      go : (b : Bool) → (signature s).host ≡ b → IsNoted s
      go true host =
          record {
            judgement =
                ap (λ (y : Step (Judging Standing)). y.gate.judgement) (makes_noted host in_budget)
                ∙ refusals_stay (answers_of s.policy) (noted s).judgement (out_event (host_step (noted s).input ((noted s).hosts s.function) (map number_in (shown_args s))).written) refusal refused;
          }
      go false plain = record { judgement = ap (λ (y : Step (Judging Standing)). y.gate.judgement) (enters_noted s.budget plain in_budget) }

pub calls_are_spent : CallsAreSpent
calls_are_spent s ok over = spent_called s ok over

pub calls_are_noted : CallsAreNoted
calls_are_noted s refusal ok in_budget refused = noted_called s ok refusal in_budget refused
