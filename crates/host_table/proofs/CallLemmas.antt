-- A call's clauses, by what the host's model answers.
use Rattle.std.proofs.Common.{◌≡◌, ℕ, ℤ, List, Option, Some, None, Result, subst, ◌++◌}
use Rattle.std.specs.Prelude.{IfOk, OnOk, IsOk, IfSome, IsSomeAnd}
use Rattle.std.specs.declared.alloc.AllocError.{AllocError}
use Rattle.std.proofs.lemmas.Result.{on_ok_weaker}
use Rattle.pt_tree.specs.HostStep.{Answer}
use Rattle.pt_tree.specs.declared.host_model.HostModel.{HostModel}
use Rattle.host_table.specs.Hosts.{Hosts, bytes_of, with_model}

abbrev Called : Type 0
Called = Result (Option ℤ) AllocError

pub call_result : (r : Called) (call : Option Answer) (a b : Answer) → call ≡ Some a → b ≡ a → IfOk r (λ o. o ≡ b.result) → IfOk r (λ o. IsSomeAnd call (λ answer. o ≡ answer.result))
call_result r call a b is same h = rw is (subst (λ (x : Answer). IfOk r (λ o. o ≡ x.result)) same h)

pub call_out : (r : Called) (call : Option Answer) (a b : Answer) (old new : List ℕ) → call ≡ Some a → b ≡ a → OnOk r (new ≡ old ++ bytes_of b.written)
    → OnOk r (IsSomeAnd call (λ answer. new ≡ old ++ bytes_of answer.written))
call_out r call a b old new is same h = rw is (subst (λ (x : Answer). OnOk r (new ≡ old ++ bytes_of x.written)) same h)

pub call_hosts : (r : Called) (call : Option Answer) (a b : Answer) (model : HostModel) (old new : Hosts) (f : ℕ) → call ≡ Some a → b ≡ a → new ≡ with_model old f model → OnOk r (model ≡ b.next)
    → OnOk r (IsSomeAnd call (λ answer. new ≡ with_model old f answer.next))
call_hosts r call a b model old new f is same changed h =
    rw is (on_ok_weaker r (λ next. subst (λ (m : HostModel). new ≡ with_model old f m) next changed) (subst (λ (x : Answer). OnOk r (model ≡ x.next)) same h))

pub call_takes_none : (r : Called) (call : Option Answer) (a b : Answer) → call ≡ Some a → b ≡ a → (b.written ≡ None → IsOk r) → IfSome call (λ answer. answer.written ≡ None → IsOk r)
call_takes_none r call a b is same h = rw is (subst (λ (x : Answer). x.written ≡ None → IsOk r) same h)
