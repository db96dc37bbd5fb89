-- What is left after the sort and the removal of doubles.
use Rattle.std.proofs.lemmas.List.Filters.{dedup_is}
use Rattle.std.proofs.lemmas.List.Kept.{Contains-dedup, Contains-from_dedup, IsStrictlySortedBy-dedup}
use Rattle.std.proofs.lemmas.List.Sorted.{Contains-permutation, IsPermutation-sym}
use Rattle.check_declarations.proofs.FaultLemmas.{fault_same, sorted_is}
use Rattle.check_declarations.specs.contracts.fault.TypeFaultOrd.TheImpl.Laws.{total-law, matches_eq-law}
use Rattle.check_declarations.specs.contracts.fault.TypeFaultEq.TheImpl.Laws.{laws-law}
use Rattle.check_declarations.proofs.fault.arrange.Goals as goal

pub returns-clause-sorted : goal.returns-clause-sorted
returns-clause-sorted c =
    let is = dedup_is _ _ _ c.dedup.ensures.filtered in
    rw is (sorted_is _ (IsStrictlySortedBy-dedup total-law matches_eq-law _ c.sort_unstable.ensures.sorted))

pub returns-clause-same : goal.returns-clause-same
returns-clause-same c =
    let is = dedup_is _ _ _ c.dedup.ensures.filtered in
    let moved = c.sort_unstable.ensures.permutation in
    λ f. ((λ h. Contains-permutation _ _ f (IsPermutation-sym _ _ moved) (Contains-from_dedup _ _ f (rw is at h))), (λ h. rw is (Contains-dedup laws-law fault_same _ f (Contains-permutation _ _ f moved h))))
