-- The nodes of privileged slots are the objects that may hold secrets.
use Rattle.std.proofs.Common.{◌≡◌, ◌∙◌, ◌<◌, ◌+◌, ◌⊎◌, ◌&&◌, ℕ, zero, suc, refl, ap, sym, subst, arith, inl, inr, Bool, true, List, [], ◌∷◌, ◌++◌, length}
use Rattle.std.specs.Prelude.{is_some, slice_index_or}
use Rattle.std.specs.List.{Contains, flat_map}
use Rattle.std.specs.List.Sorted.{IsStrictlySortedBy}
use Rattle.std.proofs.lemmas.List.{length-map}
use Rattle.std.proofs.lemmas.List.Elements.{Contains-append_cases, Contains-append_left, Contains-append_right}
use Rattle.std.proofs.lemmas.Bool.{and_from}
use Rattle.pt_base.specs.declared.slot.Slot.{Slot}
use Rattle.pt_base.proofs.Booleans.{and_parts}
use Rattle.pt_base.proofs.Members.{contains_nothing}
use Rattle.propagation.specs.Marks.{AreMarks, Shown, path_shown}
use Rattle.reach.proofs.ListLemmas.{contains_flat, from_flat}
use Rattle.reach.specs.Tables.{item_if, slot_number}
use Rattle.sides.specs.declared.halves.Sides.{Sides}
use Rattle.sides.specs.declared.slots.SlotInfo.{SlotInfo}
use Rattle.sides.specs.Placed.{AreSides}
use Rattle.sides.specs.Slots.{no_slot, slots_of}
use Rattle.typed_tree.specs.TypedTree.{TypedTree}
use Rattle.flow_rules.specs.Faults.{edges_of_all}
use Rattle.flow_rules.proofs.FlowLemmas.{privileged}
use Rattle.flow_picture.specs.declared.node.Node.{Node}
use Rattle.flow_picture.specs.Kept.{HasSame, node_in, secret_nodes, secrets_from, seed_nodes}
use Rattle.flow_picture.specs.Nodes.{node_at, node_cmp, node_of, nodes_of}
use Rattle.flow_picture.specs.Objects.{AreNodes, BeginsSecret, HoldsSecret, has_values}
use Rattle.flow_picture.proofs.SameLemmas.{from_item, in_item, same_on}

-- ---- the nodes of slots

kept_node : (slots : List SlotInfo) (n : ℕ) → node_in (nodes_of slots) n ≡ node_of (slice_index_or slots n no_slot).owner
kept_node [] n = refl
kept_node (s ∷ slots) zero = refl
kept_node (s ∷ slots) (suc n) = kept_node slots n

pub node_is : (t : TypedTree) (nodes : List Node) → nodes ≡ nodes_of (slots_of t) → (n : ℕ) → node_in nodes n ≡ node_at t n
node_is t nodes e n = ap (λ (xs : List Node). node_in xs n) e ∙ kept_node (slots_of t) n

pub nodes_long : (t : TypedTree) (nodes : List Node) → nodes ≡ nodes_of (slots_of t) → length nodes ≡ length (slots_of t)
nodes_long t nodes e = ap length e ∙ length-map (slots_of t) (λ (s : SlotInfo). node_of s.owner)

-- ---- privileged slots

-- the slot of this number, counted from k, is that of the node and privileged
record IsSecretAt (t : TypedTree) (marks : Shown) (k : ℕ) (xs : List Node) (x : Node) : Type 0 where
  pub at : ℕ
  pub within : at < length xs
  pub node : node_in xs at ≡ x
  pub marked : is_some (path_shown marks (slot_number (k + at))) ≡ true
  pub values : has_values t x ≡ true

module _ (t : TypedTree) (marks : Shown) where
  from_secrets : (k : ℕ) (xs : List Node) (x : Node) → Contains (secrets_from t marks k xs) x → IsSecretAt t marks k xs x
  from_secrets k [] x h = absurd (contains_nothing x h)
  from_secrets k (y ∷ ys) x h = go (Contains-append_cases (secret_nodes t marks k y) (secrets_from t marks (suc k) ys) x h) (from_secrets (suc k) ys x)
    where
      go : Contains (secret_nodes t marks k y) x ⊎ Contains (secrets_from t marks (suc k) ys) x → (Contains (secrets_from t marks (suc k) ys) x → IsSecretAt t marks (suc k) ys x) → IsSecretAt t marks k (y ∷ ys) x
      go (inl i) rest =
          let m = from_item (is_some (path_shown marks (slot_number k)) && has_values t y) y x i in
          let two = and_parts (is_some (path_shown marks (slot_number k))) (has_values t y) m.0 in record {
            at = 0;
            within = omega arith;
            node = m.1;
            marked = subst (λ n. is_some (path_shown marks (slot_number n)) ≡ true) (let same : k ≡ k + 0 = omega arith in same) two.0;
            values = subst (λ (z : Node). has_values t z ≡ true) m.1 two.1;
          }
      go (inr i) rest =
          let r = rest i in
          let lt : r.at < length ys = r.within in record {
            at = suc r.at;
            within = omega (arith, lt);
            node = r.node;
            marked = subst (λ n. is_some (path_shown marks (slot_number n)) ≡ true) (let same : suc k + r.at ≡ k + suc r.at = omega arith in same) r.marked;
            values = r.values;
          }

  in_secrets : (k : ℕ) (xs : List Node) (at : ℕ) → at < length xs → is_some (path_shown marks (slot_number (k + at))) ≡ true → has_values t (node_in xs at) ≡ true →
      Contains (secrets_from t marks k xs) (node_in xs at)
  in_secrets k [] at lt marked values = absurd (omega (arith, lt))
  in_secrets k (y ∷ ys) zero lt marked values =
      let here : is_some (path_shown marks (slot_number k)) ≡ true = subst (λ n. is_some (path_shown marks (slot_number n)) ≡ true) (let same : k + 0 ≡ k = omega arith in same) marked in
      Contains-append_left (secret_nodes t marks k y) (secrets_from t marks (suc k) ys) y
      (in_item (is_some (path_shown marks (slot_number k)) && has_values t y) y (and_from (is_some (path_shown marks (slot_number k))) (has_values t y) here values))
  in_secrets k (y ∷ ys) (suc at) lt marked values =
      Contains-append_right (secret_nodes t marks k y) (secrets_from t marks (suc k) ys) (node_in ys at)
      (in_secrets (suc k) ys at (omega (arith, lt)) (subst (λ n. is_some (path_shown marks (slot_number n)) ≡ true) (let same : k + suc at ≡ suc k + at = omega arith in same) marked) values)

  -- a loop's step
  pub secrets_on : (k : ℕ) (xs rest : List Node) (x : Node) (s s' all : List Node) → xs ≡ x ∷ rest → HasSame s' (s ++ secret_nodes t marks k x) → HasSame (s ++ secrets_from t marks k xs) all →
      HasSame (s' ++ secrets_from t marks (k + 1) rest) all
  secrets_on k xs rest x s s' all split a b =
      let next : suc k ≡ k + 1 = omega arith in
      subst (λ n. HasSame (s' ++ secrets_from t marks n rest) all) next
      (same_on s s' (secret_nodes t marks k x) (secrets_from t marks (suc k) rest) all a (subst (λ ys. HasSame (s ++ secrets_from t marks k ys) all) split b))

  module _ (s : Sides) (are : AreMarks s.seeds (edges_of_all t s) (length (slots_of t)) marks) (nodes : List Node) (en : nodes ≡ nodes_of (slots_of t)) where
    holds : (x : Node) → IsSecretAt t marks 0 nodes x → HoldsSecret t s x
    holds x r =
        let lt : r.at < length (slots_of t) = subst (λ n. r.at < n) (nodes_long t nodes en) r.within in
        let marked : is_some (path_shown marks (slot_number r.at)) ≡ true =
        subst (λ n. is_some (path_shown marks (slot_number n)) ≡ true) (let same : 0 + r.at ≡ r.at = omega arith in same) r.marked in
        (r.at, (lt, sym (node_is t nodes en r.at) ∙ r.node, r.values), (privileged s.seeds (edges_of_all t s) (length (slots_of t)) marks are r.at lt).0 marked)

    held : (x : Node) → HoldsSecret t s x → Contains (secrets_from t marks 0 nodes) x
    held x (n, part, priv) =
        let lt : n < length nodes = subst (λ m. n < m) (sym (nodes_long t nodes en)) part.0 in
        let node : node_in nodes n ≡ x = node_is t nodes en n ∙ part.1 in
        let marked : is_some (path_shown marks (slot_number (0 + n))) ≡ true =
        subst (λ m. is_some (path_shown marks (slot_number m)) ≡ true) (let same : n ≡ 0 + n = omega arith in same) ((privileged s.seeds (edges_of_all t s) (length (slots_of t)) marks are n part.0).1 priv) in
        subst (λ (y : Node). Contains (secrets_from t marks 0 nodes) y) node (in_secrets 0 nodes n lt marked (subst (λ (y : Node). has_values t y ≡ true) (sym node) part.2))

    pub secrets_are : (gathered secrets : List Node) → HasSame gathered (secrets_from t marks 0 nodes) → HasSame secrets gathered → IsStrictlySortedBy node_cmp secrets → AreNodes (HoldsSecret t s) secrets
    secrets_are gathered secrets is same up = record {
      sorted = up;
      same = λ x. (λ h. holds x (from_secrets 0 nodes x ((is x).0 ((same x).0 h))), λ h. (same x).1 ((is x).1 (held x h)));
    }

-- ---- seeds

-- the node of one more seed
pub seed_on : (t : TypedTree) (nodes : List Node) (slot : Slot) (x : Node) (b : Bool) (s s' : List Node) → x ≡ node_in nodes slot.0 → b ≡ has_values t x → HasSame s' (s ++ item_if b x) →
    HasSame s' (s ++ seed_nodes t nodes slot)
seed_on t nodes slot x b s s' same is h =
    subst (λ (y : Node). HasSame s' (s ++ item_if (has_values t y) y)) same (subst (λ (c : Bool). HasSame s' (s ++ item_if c x)) is h)

module _ (t : TypedTree) (s : Sides) (are : AreSides t s) (nodes : List Node) (en : nodes ≡ nodes_of (slots_of t)) where
  begins : (x : Node) → Contains (flat_map (seed_nodes t nodes) s.seeds) x → BeginsSecret t x
  begins x h =
      let m = from_flat (seed_nodes t nodes) s.seeds x h in
      let slot : Slot = m.0 in
      let one = from_item (has_values t (node_in nodes slot.0)) (node_in nodes slot.0) x m.2 in
      let seed = (are.seeds.same slot).0 m.1 in
      (slot.0, (seed.0, sym (node_is t nodes en slot.0) ∙ one.1, subst (λ (y : Node). has_values t y ≡ true) one.1 one.0), seed)

  begun : (x : Node) → BeginsSecret t x → Contains (flat_map (seed_nodes t nodes) s.seeds) x
  begun x (n, part, seed) =
      let node : node_in nodes n ≡ x = node_is t nodes en n ∙ part.1 in
      let values : has_values t (node_in nodes n) ≡ true = subst (λ (y : Node). has_values t y ≡ true) (sym node) part.2 in
      subst (λ (y : Node). Contains (flat_map (seed_nodes t nodes) s.seeds) y) node
      (contains_flat (seed_nodes t nodes) s.seeds (slot_number n) (node_in nodes n) ((are.seeds.same (slot_number n)).1 seed) (in_item (has_values t (node_in nodes n)) (node_in nodes n) values))

  pub seeds_are : (slots : List Slot) (gathered seeds : List Node) → slots ≡ s.seeds → HasSame gathered (flat_map (seed_nodes t nodes) slots) → HasSame seeds gathered →
      IsStrictlySortedBy node_cmp seeds → AreNodes (BeginsSecret t) seeds
  seeds_are slots gathered seeds es is same up =
      let own : HasSame gathered (flat_map (seed_nodes t nodes) s.seeds) = subst (λ (xs : List Slot). HasSame gathered (flat_map (seed_nodes t nodes) xs)) es is in
      record { sorted = up; same = λ x. (λ h. begins x ((own x).0 ((same x).0 h)), λ h. (same x).1 ((own x).1 (begun x h))) }
