-- The slots that code keeps, once they are sorted, are those that are shown.
use Rattle.std.proofs.Common.{◌≡◌, ◌∙◌, ◌<◌, ◌↔◌, ◌⊎◌, ◌+◌, ℕ, refl, ap, sym, subst, arith, inl, inr, Bool, true, false, List, [], ◌∷◌, length, map, get_or, nat_eq, nat_cmp, Ordering, Less, Equal, Greater}
use Rattle.std.specs.Prelude.{is_some, replicate}
use Rattle.std.specs.Cmp.{IsTotalOrder}
use Rattle.std.specs.List.{All, Contains, IsDistinct, filter, range_with_len}
use Rattle.std.specs.List.Sorted.{IsPermutation, IsSorted, IsStrictlySortedBy}
use Rattle.std.specs.Ordering.{is_lt, ordering_reverse, ordering_then}
use Rattle.std.proofs.lemmas.Cmp.{nat_cmp_total, nat_eq_equiv, on_total, then_total}
use Rattle.std.proofs.lemmas.List.{get_or-map, length-map, length-replicate}
use Rattle.std.proofs.lemmas.List.Elements.{All-map}
use Rattle.std.proofs.lemmas.List.Sorted.{All-permutation, Contains-permutation, IsPermutation-map, IsPermutation-sym}
use Rattle.std.proofs.lemmas.Map.Keys.{IsDistinct-IsPermutation, apart_from_distinct, sorted_from_all_adjacent}
use Rattle.std.proofs.lemmas.Bool.{and_from}
use Rattle.pt_base.specs.declared.ids.GlobalId.{GlobalId}
use Rattle.pt_base.proofs.Booleans.{and_parts}
use Rattle.pt_base.proofs.Members.{range_below, range_contains}
use Rattle.pt_base.proofs.Orders.{cmp_equal}
use Rattle.propagation.specs.Marks.{path_shown}
use Rattle.reach.proofs.ListLemmas.{contains_filter, contains_map, from_filter, from_map}
use Rattle.reach.proofs.TableLemmas.{none_true, set_all_from, set_all_has}
use Rattle.sides.specs.declared.halves.Sides.{Sides}
use Rattle.sides.specs.declared.slots.Owner.{Owner}
use Rattle.sides.specs.declared.slots.Owner.TheVariants.{Variable, Global, Result}
use Rattle.sides.specs.declared.slots.SlotInfo.{SlotInfo}
use Rattle.reach.specs.Contexts.{IsOwned}
use Rattle.sides.specs.Placed.{AreSides}
use Rattle.sides.specs.Slots.{slot_at, slots_of}
use Rattle.reach.specs.Tables.{slot_number}
use Rattle.typed_tree.specs.TypedTree.{TypedTree}
use Rattle.flow_rules.proofs.OneJudgement.{privileged}
use Rattle.flow_rules.specs.declared.accepted.Accepted.{Accepted}
use Rattle.flow_rules.specs.Faults.{IsAccepted, edges_of_all}
use Rattle.flow_check.specs.contracts.shown.ShownSlotOrd.TheImpl as shown_ord
use Rattle.flow_check.specs.declared.shown.ShownSlot.{ShownSlot}
use Rattle.flow_check.specs.Kept.{is_kept, is_slaves, kept, kept_by, owned_table, owner_in}
use Rattle.flow_check.specs.Shown.{AreShown, IsShown, IsSlaves, name_at, shown_cmp}
use Rattle.flow_check.proofs.NumberLemmas.{passing_differ}

-- ---- the order

less_of : (o p : Ordering) → p ≡ ordering_reverse o → is_lt o ≡ false → (o ≡ Equal → ⊥) → p ≡ Less
less_of Less p back up differ = cc
less_of Equal p back up differ = absurd (differ refl)
less_of Greater p back up differ = back

tied : (o p : Ordering) → ordering_then o p ≡ Equal → p ≡ Equal
tied Less p e = cc
tied Equal p e = e
tied Greater p e = cc

not_apart : (m n : ℕ) → m ≡ n → nat_eq m n ≡ false → ⊥
not_apart m n e apart = let yes : nat_eq m n ≡ true = subst (λ k. nat_eq m k ≡ true) e (nat_eq_equiv.refl m) in cc

module _ (t : TypedTree) where
  pub shown_total : IsTotalOrder (shown_cmp t)
  shown_total = then_total (on_total (λ n. name_at t (slot_at t n).owner) nat_cmp_total) nat_cmp_total

  next : (m n : ℕ) → is_lt (shown_cmp t n m) ≡ false → nat_eq m n ≡ false → shown_cmp t m n ≡ Less
  next m n up apart =
      less_of (shown_cmp t n m) (shown_cmp t m n) (shown_total.antisymm m n) up
      (λ e. not_apart m n (sym (cmp_equal n m (tied (nat_cmp (name_at t (slot_at t n).owner) (name_at t (slot_at t m).owner)) (nat_cmp n m) e))) apart)

  strictly : (zs : List ℕ) → ((k : ℕ) → k + 1 < length zs → is_lt (shown_cmp t (get_or zs (k + 1) 0) (get_or zs k 0)) ≡ false) → IsDistinct nat_eq zs →
      IsStrictlySortedBy (shown_cmp t) zs
  strictly zs up differ =
      sorted_from_all_adjacent shown_total zs 0 (λ k lt. next (get_or zs k 0) (get_or zs (k + 1) 0) (up k lt) (apart_from_distinct nat_eq zs k (k + 1) 0 differ (omega arith) lt))

  abbrev IsKept : ShownSlot → Type 0
  IsKept s = s ≡ kept t (slots_of t) s.slot

  -- two that code compares
  compared : (a b : ShownSlot) → IsKept a → IsKept b → is_lt (shown_ord.ghosts.cmp b a) ≡ false → is_lt (shown_cmp t b.slot a.slot) ≡ false
  compared a b ea eb s =
      subst (λ (x : ShownSlot). is_lt (shown_ord.ghosts.cmp x (kept t (slots_of t) a.slot)) ≡ false) eb (subst (λ (x : ShownSlot). is_lt (shown_ord.ghosts.cmp b x) ≡ false) ea s)

  abbrev none : ShownSlot
  none = record { at = 0; slot = 0 }

  abbrev numbers : List ShownSlot → List ℕ
  numbers ys = map (λ s. s.slot) ys

  ascending : (ys : List ShownSlot) → All IsKept ys → IsSorted shown_ord.ghosts.cmp ys → (k : ℕ) → k + 1 < length (numbers ys) →
      is_lt (shown_cmp t (get_or (numbers ys) (k + 1) 0) (get_or (numbers ys) k 0)) ≡ false
  ascending ys all up k lt =
      let long : length (numbers ys) ≡ length ys = length-map ys (λ (s : ShownSlot). s.slot) in
      let second : k + 1 < length ys = subst (λ n. k + 1 < n) long lt in
      let first : k < length ys = omega (arith, second) in
      let a : get_or (numbers ys) k 0 ≡ (get_or ys k none).slot = get_or-map (λ (s : ShownSlot). s.slot) ys k none 0 first in
      let b : get_or (numbers ys) (k + 1) 0 ≡ (get_or ys (k + 1) none).slot = get_or-map (λ (s : ShownSlot). s.slot) ys (k + 1) none 0 second in
      let less = compared (get_or ys k none) (get_or ys (k + 1) none) (all k none first) (all (k + 1) none second) (up k none (omega arith) second) in
      subst (λ n. is_lt (shown_cmp t n (get_or (numbers ys) k 0)) ≡ false) (sym b) (subst (λ n. is_lt (shown_cmp t (get_or ys (k + 1) none).slot n) ≡ false) (sym a) less)

  -- kept slots that were sorted
  numbers_back : (ks : List ℕ) → numbers (map (kept t (slots_of t)) ks) ≡ ks
  numbers_back [] = refl
  numbers_back (k ∷ ks) = ap (λ ns. k ∷ ns) (numbers_back ks)

  moved : (ks : List ℕ) (ys : List ShownSlot) → IsPermutation (map (kept t (slots_of t)) ks) ys → IsPermutation ks (numbers ys)
  moved ks ys perm = subst (λ (ns : List ℕ). IsPermutation ns (numbers ys)) (numbers_back ks) (IsPermutation-map (λ (s : ShownSlot). s.slot) (map (kept t (slots_of t)) ks) ys perm)

  in_order : (ks : List ℕ) (ys : List ShownSlot) → IsDistinct nat_eq ks → IsPermutation (map (kept t (slots_of t)) ks) ys → IsSorted shown_ord.ghosts.cmp ys →
      IsStrictlySortedBy (shown_cmp t) (numbers ys)
  in_order ks ys differ perm up =
      let all : All IsKept ys = All-permutation IsKept (map (kept t (slots_of t)) ks) ys perm (All-map IsKept (kept t (slots_of t)) ks (λ k d lt. refl)) in
      strictly (numbers ys) (ascending ys all up) (IsDistinct-IsPermutation nat_eq nat_eq_equiv.symm ks (numbers ys) (moved ks ys perm) differ)

-- ---- which are shown

module _ (t : TypedTree) (s : Sides) (are : AreSides t s) where
  abbrev globals : List Bool
  globals = owned_table (length t.globals) s.owned

  abbrev ids : List ℕ
  ids = map (λ (g : GlobalId). g.0) s.owned

  same_id : (g h : GlobalId) → h.0 ≡ g.0 → h ≡ g
  same_id g h e = λ i. record { 0 = e i }

  owned_from : (g : GlobalId) → get_or globals g.0 false ≡ true → IsOwned t g
  owned_from g h = go (set_all_from (replicate (length t.globals) false) ids g.0 h)
    where
      go : (get_or (replicate (length t.globals) false) g.0 false ≡ true) ⊎ ((g.0 < length (replicate (length t.globals) false)) × Contains ids g.0) → IsOwned t g
      go (inl h) = absurd (none_true (length t.globals) g.0 h)
      go (inr is) =
          let there = from_map (λ (x : GlobalId). x.0) s.owned g.0 is.1 in
          (are.owned.same g).0 (subst (λ (x : GlobalId). Contains s.owned x) (same_id g there.0 there.2) there.1)

  owned_is : (g : GlobalId) → IsOwned t g → get_or globals g.0 false ≡ true
  owned_is g is =
      let long : length (replicate (length t.globals) false) ≡ length t.globals = length-replicate (length t.globals) false in
      set_all_has (replicate (length t.globals) false) ids g.0 (subst (λ n. g.0 < n) (sym long) is.0) (contains_map (λ (x : GlobalId). x.0) s.owned g ((are.owned.same g).1 is))

  slaves_from : (o : Owner) → is_slaves s.in_slave.items globals o ≡ true → IsSlaves t o
  slaves_from (Variable f v) h = (are.table.same f).0 h
  slaves_from (Global g) h = owned_from g h
  slaves_from (Result f) h = cc

  slaves_is : (o : Owner) → IsSlaves t o → is_slaves s.in_slave.items globals o ≡ true
  slaves_is (Variable f v) h = (are.table.same f).1 h
  slaves_is (Global g) h = owned_is g h
  slaves_is (Result f) h = absurd h

module _ (t : TypedTree) (a : Accepted) (is : IsAccepted t a) where
  abbrev owned : List Bool
  owned = owned_table (length t.globals) a.sides.owned

  abbrev owner : ℕ → Owner
  owner n = owner_in a.sides.slots n

  same_owner : (n : ℕ) → owner n ≡ (slot_at t n).owner
  same_owner n = ap (λ (xs : List SlotInfo). owner_in xs n) is.sides.slots

  kept_shown : (n : ℕ) → n < length (slots_of t) → is_kept a owned n ≡ true → IsShown t a.sides n
  kept_shown n lt h =
      let two = and_parts (is_slaves a.sides.in_slave.items owned (owner n)) (is_some (path_shown a.marks (slot_number n))) h in record {
        within = lt;
        slaves = subst (IsSlaves t) (same_owner n) (slaves_from t a.sides is.sides (owner n) two.0);
        privileged = (privileged a.sides.seeds (edges_of_all t a.sides) (length (slots_of t)) a.marks is.marks n lt).0 two.1;
      }

  shown_kept : (n : ℕ) → IsShown t a.sides n → is_kept a owned n ≡ true
  shown_kept n shown =
      and_from (is_slaves a.sides.in_slave.items owned (owner n)) (is_some (path_shown a.marks (slot_number n)))
      (slaves_is t a.sides is.sides (owner n) (subst (IsSlaves t) (sym (same_owner n)) shown.slaves))
      ((privileged a.sides.seeds (edges_of_all t a.sides) (length (slots_of t)) a.marks is.marks n shown.within).1 shown.privileged)

  abbrev pub picked : List ℕ
  picked = filter (is_kept a owned) (range_with_len 0 (length (slots_of t)))

  pub picked_shown : (n : ℕ) → Contains picked n ↔ IsShown t a.sides n
  picked_shown n = (
    (λ h. let there = from_filter (is_kept a owned) (range_with_len 0 (length (slots_of t))) n h in kept_shown n (range_below (length (slots_of t)) n there.0) there.1),
    (λ shown. contains_filter (is_kept a owned) (range_with_len 0 (length (slots_of t))) n (range_contains (length (slots_of t)) n shown.within) (shown_kept n shown)),
  )

  sorted_shown : (ys : List ShownSlot) → IsPermutation (map (kept t (slots_of t)) picked) ys → IsSorted shown_ord.ghosts.cmp ys → AreShown t a.sides (map (λ s. s.slot) ys)
  sorted_shown ys perm up =
      let perm' : IsPermutation picked (map (λ s. s.slot) ys) = moved t picked ys perm in record {
        sorted = in_order t picked ys (passing_differ (is_kept a owned) (length (slots_of t))) perm up;
        same = λ n. (
          (λ h. (picked_shown n).0 (Contains-permutation (map (λ s. s.slot) ys) picked n (IsPermutation-sym picked (map (λ s. s.slot) ys) perm') h)),
          (λ shown. Contains-permutation picked (map (λ s. s.slot) ys) n perm' ((picked_shown n).1 shown)),
        );
      }

  -- what code keeps, sorted
  pub are_shown : (table : List Bool) (count : ℕ) (xs ys : List ShownSlot) → table ≡ owned → count ≡ length a.sides.slots → xs ≡ kept_by t a table count →
      IsPermutation xs ys → IsSorted shown_ord.ghosts.cmp ys → AreShown t a.sides (map (λ s. s.slot) ys)
  are_shown table count xs ys eg ec ex perm up =
      let e : xs ≡ map (kept t (slots_of t)) picked =
      ex ∙ ap (λ (g : List Bool). kept_by t a g count) eg ∙ ap (λ n. kept_by t a owned n) ec
      ∙ ap (λ (slots : List SlotInfo). map (kept t slots) (filter (is_kept a owned) (range_with_len 0 (length slots)))) is.sides.slots in
      sorted_shown ys (subst (λ (zs : List ShownSlot). IsPermutation zs ys) e perm) up
