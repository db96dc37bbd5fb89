-- What is left after the sort; no function stands twice.
use Rattle.std.proofs.lemmas.List.Filters.{dedup_is}
use Rattle.std.proofs.lemmas.List.Kept.{Contains-dedup, Contains-from_dedup, IsStrictlySortedBy-dedup}
use Rattle.std.proofs.lemmas.List.Sorted.{Contains-permutation, IsPermutation-sym}
use Rattle.explaining.proofs.HomeLemmas.{home_same, sorted_is}
use Rattle.explaining.specs.contracts.homes.HomeOrd.TheImpl.Laws.{total-law, matches_eq-law}
use Rattle.explaining.specs.contracts.homes.HomeEq.TheImpl.Laws.{laws-law}
use Rattle.explaining.proofs.homes.arrange.Goals as goal

pub returns-clause-sorted : goal.returns-clause-sorted
returns-clause-sorted c =
    let is = dedup_is _ _ _ c.dedup.ensures.filtered in
    rw is (sorted_is _ (IsStrictlySortedBy-dedup total-law matches_eq-law _ c.sort_unstable.ensures.sorted))

pub returns-clause-same : goal.returns-clause-same
returns-clause-same c =
    let is = dedup_is _ _ _ c.dedup.ensures.filtered in
    let moved = c.sort_unstable.ensures.permutation in
    λ x. ((λ h. Contains-permutation _ _ x (IsPermutation-sym _ _ moved) (Contains-from_dedup _ _ x (rw is at h))), (λ h. rw is (Contains-dedup laws-law home_same _ x (Contains-permutation _ _ x moved h))))
