-- A call of any number in a run, by whether a host has it.
use Rattle.std.proofs.Common.{◌≡◌, ◌∙◌, ◌++◌, ℕ, ℤ, Bool, true, false, List, Option, Some, None, Result, Ok, Err, IsSome, nat_eq, if◌then◌else◌, option_map, refl, sym, ap, subst}
use Rattle.std.specs.Prelude.{pos, IfOk, IfSome, IsOk, IsSomeAnd, OnOk}
use Rattle.std.specs.declared.alloc.AllocError.{AllocError}
use Rattle.std.proofs.lemmas.Bool.{eqb-true}
use Rattle.std.proofs.lemmas.List.{append-nil}
use Rattle.pt_base.proofs.Numbers.{nat_eq_turned}
use Rattle.pt_tree.specs.declared.host_model.HostModel.{HostModel}
use Rattle.pt_tree.specs.HostStep.{Answer, host_step}
use Rattle.runs.specs.State.{put_host}
use Rattle.host_table.specs.Hosts.{Hosts, bytes_of, call_of, with_model}
use Rattle.host_table.specs.RunHosts.{answer_in, AreAfter, model_or_none, models_of, no_model}

-- ---- one model changes

choose : (b c : Bool) (next : HostModel) (o : Option HostModel) → b ≡ c → model_or_none (if b then Some next else o) ≡ (if c then next else model_or_none o)
choose true c next o e = ap (λ x. if x then next else model_or_none o) e
choose false c next o e = ap (λ x. if x then next else model_or_none o) e

-- the next model stands for the host
put_is : (h : Hosts) (f : ℕ) (next : HostModel) → models_of (with_model h f next).models ≡ put_host (models_of h.models) f next
put_is h f next = λ i g. choose (nat_eq f g) (nat_eq g f) next (h.models g) (nat_eq_turned f g) i

-- no model for a number: what stands for it stays
kept : (b : Bool) (g f : ℕ) (models : ℕ → Option HostModel) → nat_eq g f ≡ b → (b ≡ true → g ≡ f) → models f ≡ None → model_or_none (models g) ≡ (if b then no_model else model_or_none (models g))
kept true g f models t same e = ap (λ n. model_or_none (models n)) (same refl) ∙ ap model_or_none e
kept false g f models t same e = refl

still : (models : ℕ → Option HostModel) (f : ℕ) → models f ≡ None → models_of models ≡ put_host (models_of models) f no_model
still models f e = λ i g. kept (nat_eq g f) g f models refl (eqb-true g f) e i

-- ---- a number that no host has

pub none_result : (h : Hosts) (f : ℕ) (args : List ℤ) → h.models f ≡ None → Some (pos 0) ≡ (answer_in h f args).result
none_result h f args e = ap (λ o. (host_step h.input (model_or_none o) args).result) (sym e)

pub none_out : (h : Hosts) (f : ℕ) (args : List ℤ) (bytes : List ℕ) → h.models f ≡ None → bytes ≡ bytes ++ bytes_of (answer_in h f args).written
none_out h f args bytes e = sym (append-nil bytes) ∙ ap (λ o. bytes ++ bytes_of (host_step h.input (model_or_none o) args).written) (sym e)

pub none_hosts : (h : Hosts) (f : ℕ) (args : List ℤ) → h.models f ≡ None → AreAfter h f (answer_in h f args).next h
none_hosts h f args e = record {
  models = still h.models f e ∙ ap (λ o. put_host (models_of h.models) f (host_step h.input (model_or_none o) args).next) (sym e);
  input = refl;
}

-- ---- a host

-- so a call of it is answered
step_by : (input : List ℕ) (args : List ℤ) (o : Option HostModel) → IsSome o → option_map (λ m. host_step input m args) o ≡ Some (host_step input (model_or_none o) args)
step_by input args (Some m) h = refl
step_by input args None h = cc

of_call : (h : Hosts) (f : ℕ) (args : List ℤ) (P : Answer → Type 0) → IsSome (h.models f) → IsSomeAnd (call_of h f args) P → P (answer_in h f args)
of_call h f args P is known = subst (λ (o : Option Answer). IsSomeAnd o P) (step_by h.input args (h.models f) is) known

pub host_result : (h : Hosts) (f : ℕ) (args : List ℤ) (r : Result (Option ℤ) AllocError) → IsSome (h.models f) →
    IfOk r (λ o. IsSomeAnd (call_of h f args) (λ a. o ≡ a.result)) → IfOk r (λ o. o ≡ (answer_in h f args).result)
host_result h f args (Ok o) is known = of_call h f args (λ a. o ≡ a.result) is known
host_result h f args (Err e) is known = known

pub host_out : (h : Hosts) (f : ℕ) (args : List ℤ) (r : Result (Option ℤ) AllocError) (old new : List ℕ) → IsSome (h.models f) →
    OnOk r (IsSomeAnd (call_of h f args) (λ a. new ≡ old ++ bytes_of a.written)) → OnOk r (new ≡ old ++ bytes_of (answer_in h f args).written)
host_out h f args (Ok o) old new is known = of_call h f args (λ a. new ≡ old ++ bytes_of a.written) is known
host_out h f args (Err e) old new is known = known

after_call : (h h' : Hosts) (f : ℕ) (next : HostModel) → h' ≡ with_model h f next → AreAfter h f next h'
after_call h h' f next is = record { models = ap (λ (x : Hosts). models_of x.models) is ∙ put_is h f next; input = ap (λ (x : Hosts). x.input) is }

pub host_hosts : (h h' : Hosts) (f : ℕ) (args : List ℤ) (r : Result (Option ℤ) AllocError) → IsSome (h.models f) →
    OnOk r (IsSomeAnd (call_of h f args) (λ a. h' ≡ with_model h f a.next)) → OnOk r (AreAfter h f (answer_in h f args).next h')
host_hosts h h' f args (Ok o) is known = after_call h h' f (answer_in h f args).next (of_call h f args (λ a. h' ≡ with_model h f a.next) is known)
host_hosts h h' f args (Err e) is known = known

pub host_takes_none : (h : Hosts) (f : ℕ) (args : List ℤ) (r : Result (Option ℤ) AllocError) → IsSome (h.models f) →
    IfSome (call_of h f args) (λ a. a.written ≡ None → IsOk r) → (answer_in h f args).written ≡ None → IsOk r
host_takes_none h f args r is known = subst (λ (o : Option Answer). IfSome o (λ a. a.written ≡ None → IsOk r)) (step_by h.input args (h.models f) is) known
