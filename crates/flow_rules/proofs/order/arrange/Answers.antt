-- What is left after the sort and the removal of what is the same fault.
use Rattle.std.proofs.Common.{rules}
use Rattle.std.proofs.lemmas.Fn.{dedup_same}
use Rattle.flow_rules.specs.Told.{same_fault}
use Rattle.flow_rules.proofs.ToldLemmas.{all_kept, found_before, sorted_once}
use Rattle.flow_rules.proofs.order.arrange.Goals as goal

pub returns-clause-sorted : goal.returns-clause-sorted
returns-clause-sorted c =
    sorted_once _ _ c.sort_unstable.ensures.sorted (dedup_same _ same_fault _ (λ x y b f' x' y' k. search rules) _ _ c.dedup_by.ensures.filtered)

pub returns-clause-found : goal.returns-clause-found
returns-clause-found c =
    found_before _ _ _ c.sort_unstable.ensures.permutation (dedup_same _ same_fault _ (λ x y b f' x' y' k. search rules) _ _ c.dedup_by.ensures.filtered)

pub returns-clause-all : goal.returns-clause-all
returns-clause-all c =
    all_kept _ _ _ c.sort_unstable.ensures.permutation (dedup_same _ same_fault _ (λ x y b f' x' y' k. search rules) _ _ c.dedup_by.ensures.filtered)
