use Rattle.std.proofs.Common.{rules}
use Rattle.std.proofs.lemmas.List.Sorted.{IsNonDecreasingBy-from_sort_by_key}
use Rattle.host_table.specs.Hosts.{hosts_of}
use Rattle.host_table.proofs.ModelLemmas.{same_hosts, sorted_numbers, distinct_numbers-permutation, models_by-permutation}
use Rattle.host_table.proofs.host.Host.from_models.Goals as goal

pub invariant_of-result : goal.invariant_of-result
invariant_of-result c = record {
  ordered = sorted_numbers _ (IsNonDecreasingBy-from_sort_by_key (λ m. m.0) _ c.sort_unstable_by_key.ensures.sorted (λ a r q k. search rules))
      (distinct_numbers-permutation _ _ c.sort_unstable_by_key.ensures.permutation c.requires);
}

pub returns : goal.returns
unfolding hosts_of
returns c = same_hosts _ _ (models_by-permutation _ _ c.sort_unstable_by_key.ensures.permutation c.requires) c.new.ensures.items
