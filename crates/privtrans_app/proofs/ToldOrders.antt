-- Functions and faults can be put in the orders in which explaining has them.
use Rattle.std.proofs.Common.{◌≡◌, ◌∙◌, ◌⊎◌, ap, sym, subst, inl, inr, List, [], ◌∷◌}
use Rattle.std.specs.Cmp.{IsTotalOrder}
use Rattle.std.specs.List.{AllByRecursion, Contains}
use Rattle.std.specs.List.Sorted.{IsStrictlySortedBy}
use Rattle.std.specs.Ordering.{nat_cmp, ordering_reverse}
use Rattle.std.specs.declared.cmp.Ordering.{Ordering}
use Rattle.std.specs.declared.cmp.Ordering.TheVariants.{Less, Equal}
use Rattle.std.proofs.lemmas.Cmp.{nat_cmp_total, on_total, then_total}
use Rattle.flow_picture.proofs.OrderLemmas.{span_total}
use Rattle.pt_base.proofs.SortedLists.{ascending, ascends, both_tie, from_ascending, in_ascending, numbers_tie}
use Rattle.pt_base.proofs.Members.{contains_cases, contains_nothing}
use Rattle.typed_tree.specs.TypedTree.{TypedTree}
use Rattle.flow_rules.specs.declared.fault.FlowFault.{FlowFault}
use Rattle.flow_rules.specs.Faults.{fault_cmp, span_cmp}
use Rattle.flow_rules.specs.Numbers.{rule_number}
use Rattle.explaining.specs.Homes.{AreHomes, home_cmp, homes_from}
use Rattle.explaining.specs.Order.{AreInTurn, beginning, beginning_cmp, known, seed_number}

-- ---- elements that tie

module _ {K : Type 0} (R : K → K → Ordering) where
  -- a member of a list that is above x as a whole is above it
  member_above : (x : K) (xs : List K) (y : K) → AllByRecursion (λ z. R x z ≡ Less) xs → Contains xs y → R x y ≡ Less
  member_above x [] y all h = absurd (contains_nothing y h)
  member_above x (z ∷ xs) y all h = go (member_above x xs y all.1) (contains_cases z xs y h)
    where
      go : (Contains xs y → R x y ≡ Less) → (z ≡ y) ⊎ Contains xs y → R x y ≡ Less
      go rest (inl e) = subst (λ (w : K). R x w ≡ Less) e all.0
      go rest (inr c) = rest c

module _ {K : Type 0} (R : K → K → Ordering) (total : IsTotalOrder R) where
  turned : (x y : K) → R x y ≡ Equal → R y x ≡ Equal
  turned x y e = total.antisymm y x ∙ ap ordering_reverse e

  apart : (x y : K) → R x y ≡ Equal → R x y ≡ Less → ⊥
  apart x y tie less = let bad : Equal ≡ Less = sym tie ∙ less in cc

  -- members of a strictly ascending list that tie are one
  tied_are_one : (xs : List K) → IsStrictlySortedBy R xs → (x y : K) → R x y ≡ Equal → Contains xs x → Contains xs y → x ≡ y
  unfolding IsStrictlySortedBy
  tied_are_one [] up x y tie a b = absurd (contains_nothing x a)
  tied_are_one (z ∷ xs) up x y tie a b = go (tied_are_one xs up.1 x y tie) (contains_cases z xs x a) (contains_cases z xs y b)
    where
      go : (Contains xs x → Contains xs y → x ≡ y) → (z ≡ x) ⊎ Contains xs x → (z ≡ y) ⊎ Contains xs y → x ≡ y
      go rest (inl p) (inl q) = sym p ∙ q
      go rest (inl p) (inr j) = absurd (apart x y tie (subst (λ (w : K). R w y ≡ Less) p (member_above R z xs y up.0 j)))
      go rest (inr i) (inl q) = absurd (apart y x (turned x y tie) (subst (λ (w : K). R w x ≡ Less) q (member_above R z xs x up.0 i)))
      go rest (inr i) (inr j) = rest i j

  -- where members that tie are one, an ascending list has each of them
  all_there : (xs : List K) → ((x y : K) → R x y ≡ Equal → Contains xs x → Contains xs y → x ≡ y) → (x : K) → Contains xs x → Contains (ascending R xs) x
  all_there xs one x h =
      let m = in_ascending R total xs x h in
      subst (λ (w : K). Contains (ascending R xs) w) (sym (one x m.0 m.2 h (from_ascending R xs m.0 m.1))) m.1

-- ---- functions that have bodies

home_total : IsTotalOrder home_cmp
home_total = then_total (on_total (λ h. h.at) nat_cmp_total) (on_total (λ h. h.number) nat_cmp_total)

pub homes_ascend : (t : TypedTree) → AreHomes t (ascending home_cmp (homes_from 0 t.functions))
homes_ascend t =
    let all = homes_from 0 t.functions in
    record {
      sorted = ascends home_cmp home_total all;
      same = λ x. (
        from_ascending home_cmp all x,
        all_there home_cmp home_total all
            (λ a b e i j.
            let both = both_tie (nat_cmp a.at b.at) (nat_cmp a.number b.number) e in
            let at = numbers_tie a.at b.at both.0 in
            let number = numbers_tie a.number b.number both.1 in
            λ k. record { at = at k; number = number k })
            x,
      );
    }

-- ---- faults

fault_total : IsTotalOrder fault_cmp
fault_total = then_total (on_total (λ (f : FlowFault). f.span) span_total) (on_total (λ (f : FlowFault). rule_number f.rule) nat_cmp_total)

beginning_total : IsTotalOrder beginning_cmp
beginning_total =
    then_total (on_total (λ (f : FlowFault). known f.origin) nat_cmp_total)
    (then_total (on_total (λ (f : FlowFault). seed_number f.origin) nat_cmp_total) (then_total (on_total beginning span_total) fault_total))

-- what ties by its beginning ties as `check` reports it
ties_in_report : (f g : FlowFault) → beginning_cmp f g ≡ Equal → fault_cmp f g ≡ Equal
ties_in_report f g e =
    let one = both_tie (nat_cmp (known f.origin) (known g.origin)) _ e in
    let two = both_tie (nat_cmp (seed_number f.origin) (seed_number g.origin)) _ one.1 in
    (both_tie (span_cmp (beginning f) (beginning g)) (fault_cmp f g) two.1).1

pub turns_exist : (faults : List FlowFault) → IsStrictlySortedBy fault_cmp faults → (order : List FlowFault) × AreInTurn faults order
turns_exist faults up = (
  ascending beginning_cmp faults,
  record {
    sorted = ascends beginning_cmp beginning_total faults;
    same = λ f. (
      from_ascending beginning_cmp faults f,
      all_there beginning_cmp beginning_total faults (λ a b e i j. tied_are_one fault_cmp fault_total faults up a b (ties_in_report a b e) i j) f,
    );
  },
)
