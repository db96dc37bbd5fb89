-- Of each thing that was found there is a fault, and the faults are put in order.
use Rattle.std.proofs.Common.{◌≡◌, ◌∙◌, ◌<◌, ◌⊎◌, ℕ, List, [], ◌∷◌, true, Option, Some, None, length, get_or, refl, sym, subst, inl, inr, arith}
use Rattle.std.specs.Prelude.{All, MatchOption, is_some}
use Rattle.std.specs.List.{Contains}
use Rattle.std.proofs.lemmas.List.Elements.{Contains-get_or}
use Rattle.pt_base.specs.declared.slot.Slot.{Slot}
use Rattle.pt_base.specs.declared.span.Span.{Span}
use Rattle.propagation.specs.Marks.{AreMarks, Shown, path_shown}
use Rattle.propagation.specs.Paths.{IsPriv, IsShortestPath}
use Rattle.reach.specs.Tables.{slot_number}
use Rattle.sides.specs.declared.halves.Sides.{Sides}
use Rattle.sides.specs.Slots.{slots_of}
use Rattle.typed_tree.specs.TypedTree.{TypedTree}
use Rattle.flow_rules.specs.declared.fault.FlowFault.{FlowFault}
use Rattle.flow_rules.specs.Faults.{AreFaults, IsFault, ShowsWay, Tells, edges_of_all, fault_cmp, flows_of, spans_of}
use Rattle.flow_rules.specs.Findings.{Finding, findings_of}
use Rattle.flow_rules.proofs.PrivLemmas.{priv_below}
use Rattle.pt_base.proofs.SortedLists.{ascending, ascends, from_ascending, in_ascending}
use Rattle.pt_base.proofs.Members.{contains_cases, contains_first, contains_later, contains_nothing}
use Rattle.flow_law.specs.FaultsLaws.{FindingsAreTold, HasSomeFaults}
use Rattle.flow_law.proofs.FaultOrder.{fault_total, ties_tell}
use Rattle.flow_rules.proofs.PrivLemmas.{all_findings}

module _ (t : TypedTree) (s : Sides) (marks : Shown) (are : AreMarks s.seeds (edges_of_all t s) (length (slots_of t)) marks) where
  -- ---- ways

  shortest_way : (n : ℕ) → is_some (path_shown marks (slot_number n)) ≡ true → (path : List ℕ) × IsShortestPath s.seeds (edges_of_all t s) path (slot_number n)
  shortest_way n h =
      let below : n < length marks = priv_below marks n h in
      let size : length marks ≡ length (slots_of t) = are.size in
      go (path_shown marks (slot_number n)) h (are.paths (slot_number n) (omega (arith, below, size)))
    where
      go : (o : Option (List ℕ)) → is_some o ≡ true → MatchOption o (¬ IsPriv s.seeds (edges_of_all t s) (slot_number n)) (λ path. IsShortestPath s.seeds (edges_of_all t s) path (slot_number n)) → (path : List ℕ) × IsShortestPath s.seeds (edges_of_all t s) path (slot_number n)
      go None h m = cc
      go (Some path) h m = (path, m)

  abbrev HasWay : List ℕ → Type 0
  HasWay slots = (origin : Option Slot) × (spans : List Span) × ShowsWay s.seeds (edges_of_all t s) origin spans slots

  way_to : (slots : List ℕ) → ((n : ℕ) → Contains slots n → is_some (path_shown marks (slot_number n)) ≡ true) → HasWay slots
  way_to [] all = (None, [], (refl, refl))
  way_to (n ∷ ns) all =
      let way = shortest_way n (all n (contains_first n ns)) in
      let there = way.1 in
      (Some there.0, spans_of (edges_of_all t s) way.0, (n, there.0, way.0, contains_first n ns, refl, (there.1, there.2, there.3), refl))

  -- ---- faults

  -- what one of these says of something that was found
  abbrev TellsOf : List Finding → FlowFault → Type 0
  TellsOf xs f = (x : Finding) × Contains xs x × Tells f x × ShowsWay s.seeds (edges_of_all t s) f.origin f.path x.slots

  -- each of these faults tells of something that was found, and all that was found is told
  abbrev AreOf : List Finding → List FlowFault → Type 0
  AreOf xs fs = ((f : FlowFault) → Contains fs f → TellsOf xs f) × ((x : Finding) → Contains xs x → (f : FlowFault) × Contains fs f × Tells f x)

  nothing_told : AreOf [] []
  nothing_told = (λ f c. absurd (contains_nothing f c), λ x c. absurd (contains_nothing x c))

  one_more : (x : Finding) (xs : List Finding) (f : FlowFault) (fs : List FlowFault) → Tells f x → ShowsWay s.seeds (edges_of_all t s) f.origin f.path x.slots → AreOf xs fs → AreOf (x ∷ xs) (f ∷ fs)
  one_more x xs f fs tells way rest = (λ g c. some g (contains_cases f fs g c), λ y c. all y (contains_cases x xs y c))
    where
      some : (g : FlowFault) → (f ≡ g) ⊎ Contains fs g → TellsOf (x ∷ xs) g
      some g (inl e) = subst (TellsOf (x ∷ xs)) e (x, contains_first x xs, tells, way)
      some g (inr c) = let r = rest.0 g c in (r.0, contains_later x xs r.0 r.1, r.2, r.3)

      all : (y : Finding) → (x ≡ y) ⊎ Contains xs y → (g : FlowFault) × Contains (f ∷ fs) g × Tells g y
      all y (inl e) = subst (λ (z : Finding). (g : FlowFault) × Contains (f ∷ fs) g × Tells g z) e (f, contains_first f fs, tells)
      all y (inr c) = let r = rest.1 y c in (r.0, contains_later f fs r.0 r.1, r.2)

  told : (xs : List Finding) → ((x : Finding) → Contains xs x → HasWay x.slots) → (fs : List FlowFault) × AreOf xs fs
  told [] ways = ([], nothing_told)
  told (x ∷ xs) ways =
      let rest = told xs (λ y c. ways y (contains_later x xs y c)) in
      let way = ways x (contains_first x xs) in
      let f : FlowFault = record { rule = x.rule; span = x.span; origin = way.0; path = way.1 } in
      (f ∷ rest.0, one_more x xs f rest.0 (refl, refl) way.2 rest.1)

  -- ---- in order

  in_order : (xs : List Finding) → xs ≡ findings_of (flows_of t s marks) → (fs : List FlowFault) → AreOf xs fs → AreFaults (flows_of t s marks) s.seeds (edges_of_all t s) (ascending fault_cmp fs)
  in_order xs is fs of = record { sorted = ascends fault_cmp fault_total fs; true_ones = true_ones; all = all }
    where
      true_ones : All (IsFault (flows_of t s marks) s.seeds (edges_of_all t s)) (ascending fault_cmp fs)
      true_ones k d lt =
          let r = of.0 (get_or (ascending fault_cmp fs) k d) (from_ascending fault_cmp fs (get_or (ascending fault_cmp fs) k d) (Contains-get_or (ascending fault_cmp fs) k d lt)) in
          (r.0, subst (λ (ys : List Finding). Contains ys r.0) is r.1, r.2, r.3)

      all : (x : Finding) → Contains (findings_of (flows_of t s marks)) x → (f : FlowFault) × Contains (ascending fault_cmp fs) f × Tells f x
      all x c =
          let r = of.1 x (subst (λ (ys : List Finding). Contains ys x) (sym is) c) in
          let a = in_ascending fault_cmp fault_total fs r.0 r.1 in
          let same = ties_tell r.0 a.0 a.2 in
          (a.0, a.1, (sym same.0 ∙ r.2.0, sym same.1 ∙ r.2.1))

  some_left : (x : Finding) (fs : List FlowFault) → AreFaults (flows_of t s marks) s.seeds (edges_of_all t s) fs → Contains (findings_of (flows_of t s marks)) x → 0 < length fs
  some_left x fs are_faults c = let r = are_faults.all x c in let lt : r.1.0 < length fs = r.1.1 in omega (arith, lt)

  by_findings : (xs : List Finding) → xs ≡ findings_of (flows_of t s marks) → (findings_of (flows_of t s marks) ≡ []) ⊎ HasSomeFaults t s marks
  by_findings [] is = inl (sym is)
  by_findings (x ∷ xs) is =
      let there : Contains (findings_of (flows_of t s marks)) x = subst (λ (ys : List Finding). Contains ys x) is (contains_first x xs) in
      let all = told (x ∷ xs) (λ y c. way_to y.slots (λ n i. all_findings (flows_of t s marks) y (subst (λ (ys : List Finding). Contains ys y) is c) n i)) in
      let faults = in_order (x ∷ xs) is all.0 all.1 in
      inr (ascending fault_cmp all.0, faults, some_left x (ascending fault_cmp all.0) faults there)

pub findings_told : FindingsAreTold
findings_told t s marks are = by_findings t s marks are (findings_of (flows_of t s marks)) refl
