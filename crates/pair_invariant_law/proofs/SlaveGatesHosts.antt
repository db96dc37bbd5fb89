-- The hosts of the whole go on fitting.
use Rattle.std.proofs.Common.{◌≡◌, ◌⊎◌, inl, inr, ◌<◌, ℕ, zero, suc, nat_eq, refl, sym, subst, List, Bool, true, false, map}
use Rattle.std.specs.Prelude.{IsTrue, All, if◌then◌else◌}
use Rattle.pt_base.proofs.Numbers.{nat_eq_same}
use Rattle.pt_tree.specs.HostStep.{host_step}
use Rattle.pt_tree.specs.declared.host_model.HostModel.{HostModel}
use Rattle.runs.specs.Run.{Answers}
use Rattle.runs.specs.State.{Hosts, put_host}
use Rattle.host_models.specs.Fitting.{fits}
use Rattle.host_models.proofs.AnswerLemmas.{fits_in_range}
use Rattle.policy.specs.Answers.{answers_of}
use Rattle.policy.specs.Verdicts.{Standing}
use Rattle.block_memory.specs.declared.cell.Cell.{Cell}
use Rattle.pt_core.specs.CodeTree.{ProgramTree}
use Rattle.pt_core.specs.Values.{number_in}
use Rattle.pt_core.specs.Calls.{signature_in}
use Rattle.pt_core.specs.Steps.{Answer, Machine, Step, answers, asked, ended, idle, moved, spent, step, trapped}
use Rattle.core_steps_law.specs.WholeRun.{begun_machine, further_by, steps_run}
use Rattle.core_steps_law.specs.MachinesJudged.{Judging, begun_judging, judging_gate}
use Rattle.part_views_law.specs.StepsParts.{HasSignature}
use Rattle.pair_invariant_law.specs.Hosts.{AllHostsFit}
use Rattle.pair_invariant_law.specs.SlaveGatesLaws.{HostsGoOnFitting}
use Rattle.pair_invariant_law.specs.SlaveGatesOnce.{CalledOnce, LeftBy}
use Rattle.pair_invariant_law.proofs.SlaveGatesOnce.{steps_call_once}

module _ (policy : Answers Standing) (program part : ProgramTree) (input : List ℕ) (bytes : All (λ b. b < 256) input) where
  abbrev Fit : Judging Standing → Type 0
  Fit h = AllHostsFit part h.hosts × (h.input ≡ input)

  put_fits : (hosts : Hosts) (f : ℕ) (next : HostModel) → AllHostsFit part hosts → (HasSignature part f → (signature_in part f).host ≡ true → IsTrue (fits next (signature_in part f))) → AllHostsFit part (put_host hosts f next)
  put_fits hosts f next old fit f1 signed host = go (nat_eq f1 f) refl
    where
      go : (b : Bool) → nat_eq f1 f ≡ b → IsTrue (fits (if b then next else hosts f1) (signature_in part f1))
      go true e =
          let same : f1 ≡ f = nat_eq_same f1 f e in
          subst (λ n. IsTrue (fits next (signature_in part n))) (sym same) (fit (subst (λ n. HasSignature part n) same signed) (subst (λ n. (signature_in part n).host ≡ true) same host))
      go false e = old f1 signed host

  left_fits : (h : Judging Standing) (active : Bool) (f : ℕ) (args : List Cell) (left : Judging Standing) → Fit h → LeftBy (judging_gate policy program) h active f args left → Fit left
  left_fits h active f args left fit (inl e) = subst Fit (sym e) fit
  left_fits h active f args left fit (inr (way, e)) =
      subst Fit (sym e) (
        put_fits h.hosts f (host_step h.input (h.hosts f) (map number_in args)).next fit.0
            (λ signed host. (fits_in_range h.input (h.hosts f) (map number_in args) (signature_in part f) (subst (λ i. All (λ b. b < 256) i) (sym fit.1) bytes) (fit.0 f signed host)).next),
        fit.1,
      )

  step_fits : (m : Machine) (h : Judging Standing) → Fit h → Fit (step program (judging_gate policy program) m h).gate
  step_fits m h fit = go (steps_call_once program (judging_gate policy program) m h)
    where
      go : ((step program (judging_gate policy program) m h).gate ≡ h) ⊎ CalledOnce (judging_gate policy program) m h (step program (judging_gate policy program) m h) → Fit (step program (judging_gate policy program) m h).gate
      go (inl e) = subst Fit (sym e) fit
      go (inr c) = left_fits h c.active c.function c.args (step program (judging_gate policy program) m h).gate fit c.left

  further_fits : (answer : Answer) (m : Machine) (h : Judging Standing) (next : Machine → Judging Standing → Step (Judging Standing)) → Fit h → ((m1 : Machine) (h1 : Judging Standing) → Fit h1 → Fit (next m1 h1).gate) →
      Fit (further_by answer (answers answer m h) next).gate
  further_fits moved m h next fit each = each m h fit
  further_fits (asked f args depth) m h next fit each = fit
  further_fits (ended v) m h next fit each = fit
  further_fits (trapped trap span) m h next fit each = fit
  further_fits spent m h next fit each = fit
  further_fits idle m h next fit each = fit

  run_fits : (n : ℕ) (m : Machine) (h : Judging Standing) → Fit h → Fit (steps_run program (judging_gate policy program) n m h).gate
  run_fits zero m h fit = fit
  run_fits (suc n) m h fit =
      let s : Step (Judging Standing) = step program (judging_gate policy program) m h in
      further_fits s.answer s.machine s.gate (steps_run program (judging_gate policy program) n) (step_fits m h fit) (run_fits n)

pub hosts_go_on_fitting : HostsGoOnFitting
hosts_go_on_fitting w part k bytes fit =
    run_fits (answers_of w.policy) w.whole part w.input bytes k (begun_machine w.whole w.budget) (begun_judging (answers_of w.policy) w.hosts w.input) (fit, refl)
