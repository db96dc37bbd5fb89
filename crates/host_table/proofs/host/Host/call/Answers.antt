use Rattle.std.proofs.Common.{◌≡◌, refl, ap, ◌∙◌, Some, ℕ, option_map, slice_set}
use Rattle.pt_tree.specs.HostStep.{Answer, host_step}
use Rattle.pt_tree.specs.declared.host_model.HostModel.{HostModel}
use Rattle.host_table.specs.Hosts.{hosts_of, call_of, models_by}
use Rattle.host_table.proofs.CallLemmas.{call_result, call_out, call_hosts, call_takes_none}
use Rattle.host_table.proofs.ModelLemmas.{same_hosts, distinct_from_sorted, numbers-set, models_by-set, place_model, place_read}
use Rattle.host_table.proofs.host.Host.call.Goals as goal

pub invariant_of-self : goal.invariant_of-self
invariant_of-self c = record { ordered = rw (numbers-set _ _ c.index_mut-entry.result.now c.answer.new.model c.index_mut-entry.ensures.value) c.args.self.now.ordered }

-- the call is one of the model that stands at the place
abbrev stepped : (c : goal.After-self-2-1) → Answer
stepped c = host_step c.args.self.now.input.items c.place_in-place.ensures.model c.args.args.now

is_call : (c : goal.After-self-2-1) → call_of (hosts_of c.args.self.now) c.args.f.0 c.args.args.now ≡ Some (stepped c)
unfolding hosts_of
is_call c =
    ap (option_map (λ model. host_step c.args.self.now.input.items model c.args.args.now)) (place_model _ _ _ c.args.self.now.ordered c.place_in-place.ensures)

is_step : (c : goal.After-self-2-1) → host_step c.as_slice.result.now c.index_mut-entry.result.now.1 c.args.args.now ≡ stepped c
is_step c =
    ap (λ input. host_step input c.index_mut-entry.result.now.1 c.args.args.now) c.as_slice.ensures.value
    ∙ ap (λ (m : ℕ × HostModel). host_step c.args.self.now.input.items m.1 c.args.args.now) (place_read _ _ _ c.place_in-place.ensures c.index_mut-entry.result.now c.index_mut-entry.ensures.value)

pub returns-clause-result : goal.returns-clause-result
returns-clause-result c = call_result _ _ (stepped c) _ (is_call c) (is_step c) c.answer.ensures.result

pub returns-clause-out : goal.returns-clause-out
returns-clause-out c = call_out _ _ (stepped c) _ _ _ (is_call c) (is_step c) c.answer.ensures.out

pub returns-clause-takes_none : goal.returns-clause-takes_none
returns-clause-takes_none c = call_takes_none _ _ (stepped c) _ (is_call c) (is_step c) c.answer.ensures.takes_none

pub returns-clause-hosts : goal.returns-clause-hosts
unfolding hosts_of
returns-clause-hosts c =
    call_hosts _ _ (stepped c) _ c.answer.new.model _ _ _ (is_call c) (is_step c)
    (same_hosts _ _ (λ g. ap (λ (m : ℕ × HostModel). models_by (slice_set c.args.self.now.models.items c.place_in-place.result (m.0, c.answer.new.model)) g)
    (place_read _ _ _ c.place_in-place.ensures c.index_mut-entry.result.now c.index_mut-entry.ensures.value)
    ∙ models_by-set _ _ _ c.place_in-place.ensures.model c.answer.new.model g (distinct_from_sorted _ c.args.self.now.ordered) c.place_in-place.ensures.stands)
    refl)
    c.answer.ensures.next
