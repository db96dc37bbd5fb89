-- Hosts of a monitor.
use Rattle.std.proofs.Common.{◌≡◌, ◌<◌, ℕ, ℤ, nat_eq, refl, sym, subst, List, Option, Some, None, Bool, true, false}
use Rattle.std.specs.Prelude.{IsTrue, All, if◌then◌else◌}
use Rattle.pt_base.specs.declared.int_type.IntType.{IntType}
use Rattle.pt_base.proofs.Booleans.{false_not_true}
use Rattle.pt_base.proofs.Numbers.{nat_eq_same}
use Rattle.pt_tree.specs.HostStep.{host_step}
use Rattle.pt_tree.specs.declared.host_model.HostModel.{HostModel}
use Rattle.runs.specs.State.{Hosts, put_host}
use Rattle.host_models.specs.Answering.{is_result}
use Rattle.host_models.specs.Fitting.{fits}
use Rattle.host_models.proofs.AnswerLemmas.{fits_in_range}
use Rattle.pt_core.specs.CodeTree.{ProgramTree}
use Rattle.pt_core.specs.Calls.{signature_in, number_cell}
use Rattle.core_soundness_law.specs.Kept.{none}
use Rattle.core_soundness_law.specs.Outside.{GivenFits}
use Rattle.monitor_soundness_law.specs.Laws.{HostsFit, HostsLeaveNumbers}

pub put_fits : (program : ProgramTree) (hosts : Hosts) (f : ℕ) (next : HostModel) → HostsFit program hosts → IsTrue (fits next (signature_in program f)) → HostsFit program (put_host hosts f next)
put_fits program hosts f next old fit f1 own host = go (nat_eq f1 f) refl
  where
    go : (b : Bool) → nat_eq f1 f ≡ b → IsTrue (fits (if b then next else hosts f1) (signature_in program f1))
    go true e = subst (λ n. IsTrue (fits next (signature_in program n))) (sym (nat_eq_same f1 f e)) fit
    go false e = old f1 own host

given_number : (t : Option IntType) (v : Option ℤ) → IsTrue (is_result t v) → GivenFits none t (number_cell v)
given_number None None h = tt {0}
given_number None (Some v) h = false_not_true h
given_number (Some t) None h = false_not_true h
given_number (Some t) (Some v) h = h

pub hosts_leave_numbers : HostsLeaveNumbers
hosts_leave_numbers program f numbers hosts input old bytes fit =
    let answer = fits_in_range input (hosts f) numbers (signature_in program f) bytes fit in
    record {
      result = given_number (signature_in program f).result (host_step input (hosts f) numbers).result answer.result;
      hosts_fit = put_fits program hosts f (host_step input (hosts f) numbers).next old answer.next;
    }
