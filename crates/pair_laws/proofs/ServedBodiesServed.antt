-- The work of a served call is that of the whole's.
use Rattle.std.proofs.Common.{◌≡◌, ◌∙◌, ℕ, zero, suc, ◌+◌, ◌-◌, ◌≤◌, ap, sym, refl, subst, arith, List, [], Bool, true, false, Option, None}
use Rattle.runs.specs.State as r
use Rattle.runs.specs.State.{gives}
use Rattle.policy.specs.Verdicts.{Standing}
use Rattle.block_memory.specs.declared.cell.Cell.{Cell}
use Rattle.pt_core.specs.Statements.{State, Outcome}
use Rattle.pt_core.specs.Steps as p
use Rattle.pt_core.specs.Steps.{Active, Answer, Step, answers, moved}
use Rattle.core_steps_law.specs.Laws.{machine_at}
use Rattle.core_steps_law.specs.GatesWritten.{Written}
use Rattle.core_steps_law.specs.MachinesBodies.{BodyIsSteps, FirstStop, IsOutcome, TakesTurns, body_outcome, written_then}
use Rattle.core_steps_law.specs.MachinesJudged.{Judging}
use Rattle.core_steps_law.proofs.MachinesBodies.{bodies_are_steps}
use Rattle.part_views_law.specs.StepsLaws.{IsOwn, Sees}
use Rattle.pair_meaning.specs.Serving.{work_of}
use Rattle.pair_invariant_law.specs.MonitorGatesLaws.{told_body}
use Rattle.pair_laws.specs.ServedBodiesLaws.{Ends, IsTheWholes, IsTold, IsWhole, ServedCallsAreTheWholes}
use Rattle.pair_laws.specs.ServedBodiesScene.{IsScene, Scene, admitted, code, noted, signature, turns_left}
use Rattle.pair_laws.proofs.ServedBodiesBody.{Alike, at_rest, below, big, body, body_budget, inner, sees, shows_body, small, turns_within}
use Rattle.pair_laws.proofs.ServedBodiesEnded.{called_big, ended_whole, left_same}
use Rattle.pair_laws.proofs.ServedBodiesHosts.{host_served}
use Rattle.pair_laws.proofs.ServedBodiesWork.{function_is, host_is, inputs, start_written}

module _ (s : Scene) (ok : IsScene s) (plain : (signature s).host ≡ false) (in_budget : (s.machine.turns + 1) + s.monitor.turns ≤ s.budget) (unrefused : (noted s).judgement.refused ≡ None) where
  abbrev result : Outcome (Option Cell)
  result = body_outcome (code s) true s.function (s.caller.depth + 1) (inputs s ok).args (at_rest s ok plain in_budget unrefused) (start_written s ok)

  steps : BodyIsSteps (code s) true s.function (s.caller.depth + 1) (inputs s ok).args (at_rest s ok plain in_budget unrefused) (start_written s ok)
  steps = bodies_are_steps (code s) true s.function (s.caller.depth + 1) (inputs s ok).args (at_rest s ok plain in_budget unrefused) (start_written s ok) (turns_within s ok plain in_budget unrefused)

  -- it ends the run
  stops : (k : ℕ) (answer : Answer) (active : List Active) (st : State) → IsOwn answer →
      small s ok plain in_budget unrefused k ≡ answers answer (machine_at (at_rest s ok plain in_budget unrefused) active st) (written_then (start_written s ok) st) → Ends s answer st
  stops k answer active st own is =
      let seen : Sees (Alike s ok plain in_budget unrefused) (shows_body s ok plain in_budget unrefused) (below s ok plain in_budget unrefused) (suc s.machine.turns) s.budget (big s ok plain in_budget unrefused k) (small s ok plain in_budget unrefused k) =
      sees s ok plain in_budget unrefused k (subst IsOwn (sym (ap (λ (y : Step Written). y.answer) is)) own) in
      record {
        steps = k;
        came = ap (λ (y : Step (Judging Standing)). y.answer) (called_big s ok plain in_budget unrefused k) ∙ seen.answer ∙ ap (λ (y : Step Written). y.answer) is;
        told = subst (λ (y : Step (Judging Standing)). IsTold s st y.gate) (sym (called_big s ok plain in_budget unrefused k)) (seen.gate ∙ ap (λ (y : Step Written). told_body (code s) s.fixed (noted s) y.gate) is);
      }

  -- it gives a result, with its last step
  gives_by : (k : ℕ) (v : Option Cell) (st : State) → FirstStop (code s) (inner s ok plain in_budget unrefused) (body s ok plain in_budget unrefused) (start_written s ok) k →
      small s ok plain in_budget unrefused k ≡ answers (p.ended v) (machine_at (at_rest s ok plain in_budget unrefused) [] st) (written_then (start_written s ok) st) →
      st.left ≤ body_budget s ok plain in_budget unrefused - s.monitor.turns → result ≡ gives v st → IsWhole s v st
  gives_by zero v st first is turns e = absurd (first.stopped refl)
  gives_by (suc i) v st first is turns e = ended_whole s ok plain in_budget unrefused v st i (λ l le. first.before l (omega (arith, le))) is turns e

  by_outcome : (o : Outcome (Option Cell)) → result ≡ o → IsOutcome (at_rest s ok plain in_budget unrefused) (start_written s ok) o (small s ok plain in_budget unrefused steps.comes.0) →
      TakesTurns (body_budget s ok plain in_budget unrefused - s.monitor.turns) o → IsTheWholes s o
  by_outcome (gives v st) e is turns = gives_by steps.comes.0 v st steps.comes.1 is turns e
  by_outcome (r.trapped trap span st) e is turns = stops steps.comes.0 (p.trapped trap span) is.0 st (tt {0}) is.1
  by_outcome (r.spent st) e is turns = stops steps.comes.0 p.spent is.0 st (tt {0}) is.1

  pub body_served : IsTheWholes s result
  body_served = by_outcome result refl steps.comes.2 steps.turns

pub served_calls_are_the_wholes : ServedCallsAreTheWholes
served_calls_are_the_wholes s depth wants policy calls ok in_budget unrefused deep = go (signature s).host refl
  where
    go : (b : Bool) → (signature s).host ≡ b → IsTheWholes s (work_of s.monitor (admitted s depth wants policy calls) (turns_left s))
    go true e = subst (λ (o : Outcome (Option Cell)). IsTheWholes s o) (sym (host_is s ok depth wants policy calls e)) (host_served s ok e in_budget unrefused)
    go false e =
        subst (λ (o : Outcome (Option Cell)). IsTheWholes s o)
        (sym (function_is s ok depth wants policy calls (body_budget s ok e in_budget unrefused - s.monitor.turns) e (deep e) (sym (left_same s.budget s.machine.turns s.monitor.turns))))
        (body_served s ok e in_budget unrefused)
