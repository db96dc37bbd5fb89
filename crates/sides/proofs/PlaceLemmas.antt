-- The lists that `place` gives have exactly the members that the definitions say.
use Rattle.std.proofs.Common.{◌≡◌, ◌∙◌, ◌<◌, ◌↔◌, ℕ, zero, suc, refl, ap, sym, subst, arith, ◌⊎◌, inl, inr, Bool, true, false, List, [], ◌∷◌, length, map, get_or}
use Rattle.std.specs.Prelude.{◌||◌, replicate}
use Rattle.std.specs.List.{Contains, flat_map}
use Rattle.std.proofs.lemmas.List.{length-map, length-replicate}
use Rattle.std.proofs.lemmas.Bool.{and_from}
use Rattle.pt_base.specs.declared.ids.FnId.{FnId}
use Rattle.pt_base.specs.declared.ids.GlobalId.{GlobalId}
use Rattle.pt_base.specs.declared.slot.Slot.{Slot}
use Rattle.pt_base.proofs.Booleans.{and_true_first, and_true_second}
use Rattle.typed_tree.specs.TypedTree.{TypedTree}
use Rattle.reach.specs.declared.calls.Half.{Half}
use Rattle.reach.specs.declared.calls.Half.TheVariants.{Slave}
use Rattle.sides.specs.declared.slots.Owner.{Owner}
use Rattle.sides.specs.declared.slots.Owner.TheVariants.{Variable, Global, Result}
use Rattle.sides.specs.declared.slots.SlotInfo.{SlotInfo}
use Rattle.reach.specs.Contexts.{InSlave, IsOwned, globals_in}
use Rattle.reach.specs.Owned.{global_numbers, owned_table}
use Rattle.sides.specs.Marking.{stands_in, is_marked_slot, seed_table}
use Rattle.reach.specs.Reached.{InHalf, IsReached}
use Rattle.sides.specs.Seeds.{StandsInSlave, owner_marked, IsSeed, sealed_in}
use Rattle.sides.specs.Slots.{slots_of, slot_at, no_slot}
use Rattle.reach.specs.Sorted.{Lists}
use Rattle.reach.specs.Tables.{places_true, function_id, function_ids, global_id, global_ids, slot_number, slot_numbers}
use Rattle.reach.proofs.ListLemmas.{contains_map, from_map, contains_flat, from_flat}
use Rattle.reach.proofs.TableLemmas.{table_lists, set_all_keeps, set_all_has, set_all_from, none_true}

pub half_lists : (t : TypedTree) (half : Half) (table : List Bool) → IsReached t half table → Lists (λ (f : FnId). f.0) (InHalf t half) (function_ids (places_true 0 table))
half_lists t half table r = table_lists function_id (λ (f : FnId). f.0) (λ n. refl) (λ f. refl) (InHalf t half) table r.same

-- ---- globals

owned_is : (t : TypedTree) (fs : List FnId) → Lists (λ (f : FnId). f.0) (InSlave t) fs → (g : GlobalId) → get_or (owned_table t fs) g.0 false ≡ true → IsOwned t g
owned_is t fs are g h = go (set_all_from (replicate (length t.globals) false) (flat_map (global_numbers t) fs) g.0 h)
  where
    go : (get_or (replicate (length t.globals) false) g.0 false ≡ true) ⊎ ((g.0 < length (replicate (length t.globals) false)) × Contains (flat_map (global_numbers t) fs) g.0) → IsOwned t g
    go (inl e) = absurd (none_true (length t.globals) g.0 e)
    go (inr i) =
        let long = length-replicate (length t.globals) false in
        let named = from_flat (global_numbers t) fs g.0 i.1 in
        let at = from_map (λ (x : GlobalId). x.0) (globals_in t named.0) g.0 named.2 in
        let same : at.0 ≡ g = ap global_id at.2 in (
          let lt : g.0 < length (replicate (length t.globals) false) = i.0 in omega (arith, long),
          (named.0, (are.same named.0).0 named.1, subst (λ (x : GlobalId). Contains (globals_in t named.0) x) same at.1),
        )

is_owned : (t : TypedTree) (fs : List FnId) → Lists (λ (f : FnId). f.0) (InSlave t) fs → (g : GlobalId) → IsOwned t g → get_or (owned_table t fs) g.0 false ≡ true
is_owned t fs are g h =
    let long = length-replicate (length t.globals) false in
    set_all_has (replicate (length t.globals) false) (flat_map (global_numbers t) fs) g.0 (let lt : g.0 < length t.globals = h.0 in omega (arith, long))
    (contains_flat (global_numbers t) fs h.1.0 g.0 ((are.same h.1.0).1 h.1.1) (contains_map (λ (x : GlobalId). x.0) (globals_in t h.1.0) g h.1.2))

pub owned_lists : (t : TypedTree) (fs : List FnId) → Lists (λ (f : FnId). f.0) (InSlave t) fs → Lists (λ (g : GlobalId). g.0) (IsOwned t) (global_ids (places_true 0 (owned_table t fs)))
owned_lists t fs are = table_lists global_id (λ (g : GlobalId). g.0) (λ n. refl) (λ g. refl) (IsOwned t) (owned_table t fs) (λ g. (owned_is t fs are g, is_owned t fs are g))

-- ---- seeds

-- the globals that the slave owns, as a truth for each
abbrev pub Owns : TypedTree → List Bool → Type 0
Owns t owned = (g : GlobalId) → (get_or owned g.0 false ≡ true) ↔ IsOwned t g

stands : (t : TypedTree) (table owned : List Bool) → IsReached t Slave table → Owns t owned → (o : Owner) → (stands_in table owned o ≡ true) ↔ StandsInSlave t o
stands t table owned r own (Variable f v) = r.same f
stands t table owned r own (Global g) = own g
stands t table owned r own (Result f) = (λ h. tt, λ h. refl)

marked_at : (test : SlotInfo → Bool) (slots : List SlotInfo) (k : ℕ) → get_or (map test slots) k false ≡ true → (k < length slots) × (test (get_or slots k no_slot) ≡ true)
marked_at test [] k h = cc
marked_at test (s ∷ ss) zero h = (omega arith, h)
marked_at test (s ∷ ss) (suc k) h = let r = marked_at test ss k h in (let lt : k < length ss = r.0 in omega arith, r.1)

at_marked : (test : SlotInfo → Bool) (slots : List SlotInfo) (k : ℕ) → k < length slots → test (get_or slots k no_slot) ≡ true → get_or (map test slots) k false ≡ true
at_marked test [] k lt h = absurd (omega arith)
at_marked test (s ∷ ss) zero lt h = h
at_marked test (s ∷ ss) (suc k) lt h = at_marked test ss k (omega arith) h

module _ (t : TypedTree) (table owned : List Bool) (r : IsReached t Slave table) (own : Owns t owned) (fs : List FnId) (are : Lists (λ (f : FnId). f.0) (InSlave t) fs) where
  seed_is : (s : Slot) → get_or (seed_table t table owned (slots_of t) fs) s.0 false ≡ true → IsSeed t s
  seed_is s h = go (set_all_from (map (is_marked_slot t table owned) (slots_of t)) (flat_map (sealed_in t) fs) s.0 h)
    where
      go : (get_or (map (is_marked_slot t table owned) (slots_of t)) s.0 false ≡ true) ⊎ ((s.0 < length (map (is_marked_slot t table owned) (slots_of t))) × Contains (flat_map (sealed_in t) fs) s.0) → IsSeed t s
      go (inl e) =
          let m = marked_at (is_marked_slot t table owned) (slots_of t) s.0 e in
          let x : SlotInfo = slot_at t s.0 in
          (m.0, inl ((stands t table owned r own (slot_at t s.0).owner).0 (and_true_first (stands_in table owned (slot_at t s.0).owner) (owner_marked t (slot_at t s.0).owner || (slot_at t s.0).marked) m.1), and_true_second (stands_in table owned (slot_at t s.0).owner) (owner_marked t (slot_at t s.0).owner || (slot_at t s.0).marked) m.1))
      go (inr i) =
          let long = length-map (slots_of t) (is_marked_slot t table owned) in
          let f = from_flat (sealed_in t) fs s.0 i.1 in
          (let lt : s.0 < length (map (is_marked_slot t table owned) (slots_of t)) = i.0 in omega (arith, long), inr (f.0, (are.same f.0).0 f.1, f.2))

  is_seed : (s : Slot) → IsSeed t s → get_or (seed_table t table owned (slots_of t) fs) s.0 false ≡ true
  is_seed s (lt, inl m) =
      set_all_keeps (map (is_marked_slot t table owned) (slots_of t)) (flat_map (sealed_in t) fs) s.0
      (at_marked (is_marked_slot t table owned) (slots_of t) s.0 lt (and_from (stands_in table owned (slot_at t s.0).owner) (owner_marked t (slot_at t s.0).owner || (slot_at t s.0).marked) ((stands t table owned r own (slot_at t s.0).owner).1 m.0) m.1))
  is_seed s (lt, inr x) =
      let long = length-map (slots_of t) (is_marked_slot t table owned) in
      set_all_has (map (is_marked_slot t table owned) (slots_of t)) (flat_map (sealed_in t) fs) s.0 (omega (arith, long))
      (contains_flat (sealed_in t) fs x.0 s.0 ((are.same x.0).1 x.1) x.2)

  pub seed_lists : Lists (λ (s : Slot). s.0) (IsSeed t) (slot_numbers (places_true 0 (seed_table t table owned (slots_of t) fs)))
  seed_lists = table_lists slot_number (λ (s : Slot). s.0) (λ n. refl) (λ s. refl) (IsSeed t) (seed_table t table owned (slots_of t) fs) (λ s. (seed_is s, is_seed s))

-- ---- lists as code makes them

pub half_listed : (t : TypedTree) (half : Half) (table slice : List Bool) (list : List FnId) → IsReached t half table → slice ≡ table → list ≡ function_ids (places_true 0 slice) → Lists (λ (f : FnId). f.0) (InHalf t half) list
half_listed t half table slice list r es el =
    subst (λ (xs : List FnId). Lists (λ (f : FnId). f.0) (InHalf t half) xs) (sym (el ∙ ap (λ bs. function_ids (places_true 0 bs)) es)) (half_lists t half table r)

pub owned_listed : (t : TypedTree) (fs fs' : List FnId) (named slice : List Bool) (list : List GlobalId) → Lists (λ (f : FnId). f.0) (InSlave t) fs → fs' ≡ fs → named ≡ owned_table t fs' → slice ≡ named →
    list ≡ global_ids (places_true 0 slice) → Lists (λ (g : GlobalId). g.0) (IsOwned t) list
owned_listed t fs fs' named slice list are ef en es el =
    subst (λ (xs : List GlobalId). Lists (λ (g : GlobalId). g.0) (IsOwned t) xs) (sym (el ∙ ap (λ bs. global_ids (places_true 0 bs)) (es ∙ en ∙ ap (owned_table t) ef))) (owned_lists t fs are)

pub owned_told : (t : TypedTree) (fs fs' : List FnId) (named owned : List Bool) → Lists (λ (f : FnId). f.0) (InSlave t) fs → fs' ≡ fs → named ≡ owned_table t fs' → owned ≡ named → Owns t owned
owned_told t fs fs' named owned are ef en eo =
    subst (Owns t) (sym (eo ∙ en ∙ ap (owned_table t) ef)) (λ g. (owned_is t fs are g, is_owned t fs are g))

pub seeds_listed : (t : TypedTree) (table table' owned : List Bool) (slots : List SlotInfo) (fs fs' : List FnId) (marked slice : List Bool) (list : List Slot) → IsReached t Slave table → Owns t owned → Lists (λ (f : FnId). f.0) (InSlave t) fs →
    table' ≡ table → slots ≡ slots_of t → fs' ≡ fs → marked ≡ seed_table t table' owned slots fs' → slice ≡ marked → list ≡ slot_numbers (places_true 0 slice) → Lists (λ (s : Slot). s.0) (IsSeed t) list
seeds_listed t table table' owned slots fs fs' marked slice list r own are et eo ef em es el =
    subst (λ (xs : List Slot). Lists (λ (s : Slot). s.0) (IsSeed t) xs) (sym (el ∙ ap (λ bs. slot_numbers (places_true 0 bs)) (es ∙ em ∙ (λ i. seed_table t (et i) owned (eo i) (ef i))))) (seed_lists t table owned r own fs are)
