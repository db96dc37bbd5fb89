-- What is left after the sort; nothing stands twice.
use Rattle.std.proofs.lemmas.List.Filters.{dedup_is}
use Rattle.std.proofs.lemmas.List.Kept.{Contains-dedup, Contains-from_dedup, IsStrictlySortedBy-dedup}
use Rattle.std.proofs.lemmas.List.Sorted.{Contains-permutation, IsPermutation-sym}
use Rattle.flow_picture.proofs.OrderLemmas.{arrow_same, arrows_sorted}
use Rattle.flow_picture.specs.contracts.arrow.ArrowOrd.TheImpl.Laws.{total-law, matches_eq-law}
use Rattle.flow_picture.specs.contracts.arrow.ArrowEq.TheImpl.Laws.{laws-law}
use Rattle.flow_picture.proofs.order.arrange_arrows.Goals as goal

pub returns-clause-sorted : goal.returns-clause-sorted
returns-clause-sorted c =
    let is = dedup_is _ _ _ c.dedup.ensures.filtered in
    rw is (arrows_sorted _ (IsStrictlySortedBy-dedup total-law matches_eq-law _ c.sort_unstable.ensures.sorted))

pub returns-clause-same : goal.returns-clause-same
returns-clause-same c =
    let is = dedup_is _ _ _ c.dedup.ensures.filtered in
    let moved = c.sort_unstable.ensures.permutation in
    λ x. ((λ h. Contains-permutation _ _ x (IsPermutation-sym _ _ moved) (Contains-from_dedup _ _ x (rw is at h))), (λ h. rw is (Contains-dedup laws-law arrow_same _ x (Contains-permutation _ _ x moved h))))
