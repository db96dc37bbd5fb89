-- The steps of a body are the whole's.
use Rattle.std.proofs.Common.{◌≡◌, ◌∙◌, inl, inr, ℕ, zero, suc, ◌+◌, ◌-◌, ◌≤◌, ◌<◌, ap, sym, refl, subst, arith, Bool, true, false, None}
use Rattle.std.specs.Prelude.{IsTrue, is_some}
use Rattle.pt_tree.specs.declared.signature.Signature.{Signature}
use Rattle.policy.specs.Answers.{answers_of}
use Rattle.policy.specs.Verdicts.{Standing}
use Rattle.pt_core.specs.Steps.{Answer, Gate, Machine, Step, moved, started, step}
use Rattle.pt_core.specs.WellFormed.{function_at}
use Rattle.core_steps_law.specs.WholeRun.{steps_run}
use Rattle.core_steps_law.specs.GatesWritten.{Written, bytes_gate}
use Rattle.core_steps_law.specs.MachinesJudged.{Judging}
use Rattle.core_soundness_law.specs.Fits.{Fits}
use Rattle.core_soundness_law.specs.Kept.{none}
use Rattle.core_soundness_law.specs.Outside.{ArgumentsFit, own_params}
use Rattle.core_soundness_law.proofs.Starting.{started_fits}
use Rattle.core_soundness_law.proofs.CalledSteps.{started_call_own}
use Rattle.part_views_law.specs.Machines.{Below, joined, nobody, seen_machine}
use Rattle.part_views_law.specs.Views.{View}
use Rattle.part_views_law.specs.CrossingsCalls.{body_view}
use Rattle.part_views_law.specs.CrossingsMachines.{resting}
use Rattle.part_views_law.specs.StepsLaws.{After, IsOwn, Sees, StaysShown}
use Rattle.part_views_law.specs.StepsParts.{GatesAgree, IsViewed, ShowAlike, Stands}
use Rattle.part_views_law.specs.StepsRuns.{AllPlain, RunSeen}
use Rattle.part_views_law.proofs.StepsRuns.{parts_run}
use Rattle.part_views_law.proofs.StepsStanding.{parts_stand}
use Rattle.part_views_law.proofs.CallsShown.{bodies_are_shown}
use Rattle.pair_invariant_law.specs.MonitorGatesLaws.{told_body, told_whole}
use Rattle.pair_invariant_law.proofs.MonitorGatesGates.{bodies_gates_agree}
use Rattle.pair_invariant_law.proofs.MonitorGatesModels.{bodies_calls_fit, hosts_keep_models, input_keeps_bytes}
use Rattle.pair_invariant_law.proofs.MonitorGatesPlain.{bodies_are_plain}
use Rattle.pair_laws.specs.ServedBodiesScene.{IsScene, Scene, code, noted, outer, signature}
use Rattle.pair_laws.proofs.ServedBodiesOutermost.{HasDepth, deep_on}
use Rattle.pair_laws.proofs.ServedBodiesRuns.{last_step, runs_within}
use Rattle.pair_laws.proofs.ServedBodiesWork.{alike, fits, inputs, memory, start_written}

pub no_marks : ℕ → ℕ → Bool
no_marks f n = true

module _ (s : Scene) (ok : IsScene s) (plain : (signature s).host ≡ false) (in_budget : (s.machine.turns + 1) + s.monitor.turns ≤ s.budget) (unrefused : (noted s).judgement.refused ≡ None) where
  -- ---- the body in the monitor

  -- the turns that both may take behind the slave's and that of the call
  abbrev pub body_budget : ℕ
  body_budget = s.budget - suc s.machine.turns

  abbrev pub at_rest : Machine
  at_rest = resting (memory s ok) s.monitor.turns body_budget

  abbrev pub body : Machine
  body = started (code s) true s.function (s.caller.depth + 1) (inputs s ok).args at_rest

  abbrev pub inner : Gate Written
  inner = bytes_gate (code s)

  abbrev pub small : ℕ → Step Written
  small k = steps_run (code s) inner k body (start_written s ok)

  -- ---- and in the whole

  abbrev pub below : Below
  below = record { result = s.result; frames = joined nobody s.machine.active }

  abbrev pub shows_body : View
  shows_body = body_view s.slave (code s) s.caller.depth s.monitor.store s.machine.blocks s.monitor.globals s.args

  abbrev pub seen_body : Machine → Machine
  seen_body m = seen_machine shows_body below (suc s.machine.turns) s.budget m

  abbrev pub big : ℕ → Step (Judging Standing)
  big k = steps_run s.whole (outer s) k (seen_body body) (noted s)

  abbrev pub Alike : Judging Standing → Written → Type 0
  Alike h g = ShowAlike (told_whole (noted s)) (told_body (code s) s.fixed (noted s)) h g

  -- ---- where it begins

  pub known : IsTrue (is_some (function_at (code s) s.function))
  known = ok.functions s.function ok.known (ap (λ (sig : Signature). sig.host) ok.same ∙ plain)

  pub deep : 1 ≤ s.caller.depth + 1
  deep = omega arith

  enough : (n t : ℕ) → n ≤ (n - suc t) + suc t
  enough n t = omega arith

  within_budget : (t m n : ℕ) → (t + 1) + m ≤ n → m ≤ n - suc t
  within_budget t m n h = omega (arith, h)

  pub turns_within : s.monitor.turns ≤ body_budget
  turns_within = within_budget s.machine.turns s.monitor.turns s.budget in_budget

  pub shown : IsViewed shows_body s.caller.depth true (code s) s.whole × Stands shows_body s.caller.depth true (suc s.machine.turns) s.budget (code s) body
  shown =
      bodies_are_shown s.whole s.slave (code s) s.monitor.store s.monitor.globals s.monitor.turns s.budget s.machine s.caller s.rest s.function s.args s.monitor.turns body_budget
      ok.halves ok.ranged ok.stands ok.asks known (ok.own plain) (ok.shallow plain) (enough s.budget s.machine.turns)

  pub given : ArgumentsFit none (code s).structs (memory s ok) 0 (own_params (code s) s.function) (inputs s ok).args
  given = subst (λ ps. ArgumentsFit none (code s).structs (memory s ok) 0 ps (inputs s ok).args) (sym (ok.own plain)) (fits s ok).1

  pub rest_fits : Fits none true (code s) at_rest
  rest_fits = record { memory = (fits s ok).0; active = tt {0}; awaited = tt {0} }

  pub body_fits : Fits none true (code s) body
  body_fits = started_fits none true (code s) at_rest true s.function (s.caller.depth + 1) (inputs s ok).args ok.halves.monitor_sound rest_fits refl refl known deep (ok.shallow plain) given

  pub gates : GatesAgree shows_body (code s) true inner (outer s) Alike
  gates = bodies_gates_agree (answers_of s.policy) s.whole (code s) shows_body s.fixed (noted s) ok.signed unrefused ok.lasting

  plain_run : (k : ℕ) → AllPlain no_marks (code s) inner k body (start_written s ok)
  plain_run k =
      bodies_are_plain no_marks (code s) k body (start_written s ok) ok.halves.monitor_sound ok.functions ok.models ok.bytes body_fits
      (started_call_own (code s) true s.function (s.caller.depth + 1) (inputs s ok).args at_rest) refl

  -- ---- so many steps

  clash : (z t n : ℕ) → z ≤ n - suc t → suc t ≤ n → n < z + suc t → ⊥
  clash z t n h k l = omega (arith, h, k, l)

  call_in : (t m n : ℕ) → (t + 1) + m ≤ n → suc t ≤ n
  call_in t m n h = omega (arith, h)

  -- the whole's run is what is seen of the body's
  pub sees : (k : ℕ) → IsOwn (small k).answer → Sees Alike shows_body below (suc s.machine.turns) s.budget (big k) (small k)
  sees k own =
      go (parts_run (told_whole (noted s)) (told_body (code s) s.fixed (noted s)) no_marks s.whole (code s) (outer s) inner shows_body s.caller.depth true below (suc s.machine.turns) s.budget k
      body (noted s) (start_written s ok) shown.0 gates shown.1 refl (alike s ok) (plain_run k) own)
    where
      go : RunSeen Alike shows_body below (suc s.machine.turns) s.budget (code s) inner k body (start_written s ok) (big k) (small k) → Sees Alike shows_body below (suc s.machine.turns) s.budget (big k) (small k)
      go (inl seen) = seen
      go (inr late) =
          absurd (clash (small late.1.0).machine.turns s.machine.turns s.budget (runs_within (code s) inner late.1.0 body (start_written s ok) turns_within)
          (call_in s.machine.turns s.monitor.turns s.budget in_budget) late.1.2)

  -- what holds of the body's machine then
  pub record Goes (i : ℕ) : Type 0 where
    pub stands : Stands shows_body s.caller.depth true (suc s.machine.turns) s.budget (code s) (small i).machine
    pub free : (small i).machine.awaits ≡ None
    pub outermost : HasDepth (s.caller.depth + 1) (small i).machine.active

  pub moved_sees : (i : ℕ) → (small i).answer ≡ moved → Sees Alike shows_body below (suc s.machine.turns) s.budget (big i) (small i)
  moved_sees i e = sees i (subst IsOwn (sym e) (tt {0}))

  next_goes : (i : ℕ) → Goes i → (small i).answer ≡ moved → (small (suc i)).answer ≡ moved → Goes (suc i)
  next_goes i g e e' =
      let is : small (suc i) ≡ step (code s) inner (small i).machine (small i).gate = last_step (code s) inner i body (start_written s ok) e in
      let moves : (step (code s) inner (small i).machine (small i).gate).answer ≡ moved = ap (λ (y : Step Written). y.answer) (sym is) ∙ e' in
      let after : StaysShown shows_body s.caller.depth true (suc s.machine.turns) s.budget (code s) (step (code s) inner (small i).machine (small i).gate) =
      parts_stand (told_whole (noted s)) (told_body (code s) s.fixed (noted s)) s.whole (code s) (outer s) inner shows_body s.caller.depth true (suc s.machine.turns) s.budget (small i).machine (big i).gate (small i).gate
      shown.0 gates
      (bodies_calls_fit (code s) (small i).gate ok.functions (hosts_keep_models (code s) i body (start_written s ok) ok.models ok.bytes) (input_keeps_bytes (code s) i body (start_written s ok) ok.models ok.bytes))
      g.stands g.free (moved_sees i e).gate in
      record {
        stands = subst (λ (y : Step Written). Stands shows_body s.caller.depth true (suc s.machine.turns) s.budget (code s) y.machine) (sym is) after.stands;
        free = subst (λ (y : Step Written). y.machine.awaits ≡ None) (sym is)
            (subst (λ (a : Answer). After (λ (x : Machine) (g : Written). x.awaits ≡ None) a (step (code s) inner (small i).machine (small i).gate).machine (step (code s) inner (small i).machine (small i).gate).gate) moves after.awaits);
        outermost = subst (λ (y : Step Written). HasDepth (s.caller.depth + 1) y.machine.active) (sym is) (deep_on (code s) inner (s.caller.depth + 1) (small i).gate (small i).machine g.outermost moves);
      }

  pub goes_at : (i : ℕ) → ((l : ℕ) → l ≤ i → (small l).answer ≡ moved) → Goes i
  goes_at zero all = record { stands = shown.1; free = refl; outermost = refl }
  goes_at (suc i) all = next_goes i (goes_at i (λ l le. all l (omega (arith, le)))) (all i (omega arith)) (all (suc i) (omega arith))
