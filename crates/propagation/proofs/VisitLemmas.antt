-- The steps of the walk.
use Rattle.std.proofs.Common.{◌≡◌, ◌<◌, ◌≤◌, ◌+◌, ℕ, zero, suc, List, [], ◌∷◌, length, get_or, sym, ◌∙◌, ap, subst, arith, Option, Some, None, below_more}
use Rattle.std.specs.List.{All}
use Rattle.std.proofs.lemmas.List.{get_or_default}
use Rattle.pt_base.specs.declared.slot.Slot.{Slot}
use Rattle.pt_base.specs.declared.slot.Edge.{Edge}
use Rattle.propagation.specs.declared.reached.Found.{Found}
use Rattle.propagation.specs.declared.reached.Step.{Step}
use Rattle.propagation.specs.declared.adjacent.Adjacent.{Adjacent}
use Rattle.propagation.specs.declared.adjacent.Link.{Link}
use Rattle.propagation.specs.Adjacent.{IsLink, link_at, start_of, end_of, AreAdjacent}
use Rattle.propagation.specs.Paths.{from_of, to_of, no_edge}
use Rattle.propagation.specs.Levels.{AreDone, AreLevels, AreRoots, IsWithin, level}
use Rattle.propagation.specs.Reached.{no_slot, slot_at, by_at, HasPlace, AreEarlier, marked_places, marked_order, AreSound, Keeps}
use Rattle.propagation.proofs.LevelLemmas.{levels_marked, levels_next, levels_start, root_within, same_level, within_kept}
use Rattle.propagation.proofs.SlotLemmas.{same_slot}
use Rattle.propagation.proofs.MarkLemmas.{Marked, marked_is, keeps_refl, keeps_trans}

has_within : (places : List (Option ℕ)) (s p : ℕ) → get_or places s None ≡ Some p → s < length places
has_within [] s p h = cc
has_within (o ∷ places) zero p h = omega arith
has_within (o ∷ places) (suc s) p h = omega (arith, has_within places s p h)

pub slot_within : (seeds : List Slot) (edges : List Edge) (slots : ℕ) (places : List (Option ℕ)) (order : List Found) (p : ℕ) → AreSound seeds edges slots places order → p < length order → (slot_at order p).0 < length places
slot_within seeds edges slots places order p sound lt = has_within places (slot_at order p).0 p (sound.listed p lt)

pub at_length : (seeds : List Slot) (edges : List Edge) (slots : ℕ) (places : List (Option ℕ)) (order : List Found) → AreSound seeds edges slots places order → AreSound seeds edges (length places) places order
at_length seeds edges slots places order sound = subst (λ n. AreSound seeds edges n places order) (sym sound.size) sound

pub by_read : (order : List Found) (p : ℕ) (f : Found) → p < length order → f ≡ get_or order p f → f.by ≡ by_at order p
by_read order p f lt h = ap (λ (x : Found). x.by) (h ∙ get_or_default order p f no_slot lt)

-- ---- along the edges from one slot: those whose links are before `at` are done

-- the slot to which a link leads
abbrev pub slot_to : Link → Slot
slot_to link = record { 0 = link.to }

pub record Visits (places0 : List (Option ℕ)) (order0 : List Found) (adjacent : Adjacent) (parent at : ℕ) (places : List (Option ℕ)) (order : List Found) : Type 0 where
  pub keeps : Keeps places0 order0 places order
  pub sound : (seeds : List Slot) (edges : List Edge) → AreAdjacent edges (length places0) adjacent → AreSound seeds edges (length places0) places0 order0 → AreSound seeds edges (length places0) places order
  pub levels : AreLevels order0 parent → AreLevels order parent
  pub done : (i : ℕ) → start_of adjacent (slot_at order0 parent) ≤ i → i < at → HasPlace places (slot_to (link_at adjacent i))

pub visits_start : (places : List (Option ℕ)) (order : List Found) (adjacent : Adjacent) (parent at : ℕ) → at ≡ start_of adjacent (slot_at order parent) → Visits places order adjacent parent at places order
visits_start places order adjacent parent at is = record { keeps = keeps_refl places order; sound = λ seeds edges are sound. sound; levels = λ are. are; done = λ i low high. absurd (omega arith) }

pub target_within : (edges : List Edge) (slots : ℕ) (slot : Slot) (link : Link) → All (λ e. e.to.0 < slots) edges → IsLink edges slot link → link.to < slots
target_within edges slots slot link tos is = subst (λ n. n < slots) (sym is.target) (tos link.edge no_edge is.within)

-- the mark of the link at this place
visit_marks : (seeds : List Slot) (edges : List Edge) (places0 : List (Option ℕ)) (order0 : List Found) (parent : ℕ) (places places' : List (Option ℕ)) (order order' : List Found) (link : Link) → All (λ e. e.to.0 < length places0) edges → parent < length order0 → Keeps places0 order0 places order → AreSound seeds edges (length places0) places order → IsLink edges (slot_at order0 parent) link → places' ≡ marked_places places (slot_to link) (length order) → order' ≡ marked_order places order (slot_to link) (Some (record { edge = link.edge; parent = parent })) → AreEarlier places' order' → Marked seeds edges (length places0) places order (slot_to link) places' order'
visit_marks seeds edges places0 order0 parent places places' order order' link tos lt keeps sound is p o early =
    let size : length places ≡ length places0 = keeps.size in
    let more : length order0 ≤ length order = keeps.more in
    let target : link.to < length places = (let t : link.to < length places0 = target_within edges (length places0) (slot_at order0 parent) link tos is in omega arith) in
    marked_is seeds edges (length places0) places order (slot_to link) (Some (record { edge = link.edge; parent = parent })) places' order' p o target (λ st e. let k : st.parent ≡ parent = inside st e in omega arith)
    (is.within, is.source ∙ sym (keeps.slots parent lt), sym (same_slot (slot_to link) (to_of edges link.edge) is.target)) sound early
  where
    inside : (st : Step) → Some (record { edge = link.edge; parent = parent }) ≡ Some st → st.parent ≡ parent
    inside st e = cc

pub visits_step : (seeds : List Slot) (edges : List Edge) (places0 : List (Option ℕ)) (order0 : List Found) (at parent : ℕ) (places places' : List (Option ℕ)) (order order' : List Found) (adjacent : Adjacent) (link : Link) → AreAdjacent edges (length places0) adjacent → AreSound seeds edges (length places0) places0 order0 → parent < length order0 → (slot_at order0 parent).0 < length places0 → start_of adjacent (slot_at order0 parent) ≤ at → at < end_of adjacent (slot_at order0 parent) → Visits places0 order0 adjacent parent at places order → link ≡ link_at adjacent at → places' ≡ marked_places places (slot_to link) (length order) → order' ≡ marked_order places order (slot_to link) (Some (record { edge = link.edge; parent = parent })) → AreEarlier places' order' → Visits places0 order0 adjacent parent (at + 1) places' order'
visits_step seeds edges places0 order0 at parent places places' order order' adjacent link are sound lt within low high v read p o early =
    let marks : (ss : List Slot) (es : List Edge) → AreAdjacent es (length places0) adjacent → AreSound ss es (length places0) places0 order0 → Marked ss es (length places0) places order (slot_to link) places' order' =
    λ ss es these s. visit_marks ss es places0 order0 parent places places' order order' link these.tos lt v.keeps (v.sound ss es these s) (subst (IsLink es (slot_at order0 parent)) (sym read) (these.links (slot_at order0 parent) at within low high)) p o early in
    let m : Marked seeds edges (length places0) places order (slot_to link) places' order' = marks seeds edges are sound in
    record {
      keeps = keeps_trans places0 order0 places order places' order' v.keeps m.keeps;
      sound = λ ss es these s. (marks ss es these s).sound;
      levels = λ l. levels_marked places places' order order' (slot_to link) (record { edge = link.edge; parent = parent }) (v.sound seeds edges are sound).earlier early o (let more : length order0 ≤ length order = v.keeps.more in omega arith) (v.levels l);
      done = λ i from before. below_more (λ j. start_of adjacent (slot_at order0 parent) ≤ j → HasPlace places' (slot_to (link_at adjacent j))) at
          (λ j earlier on. m.keeps.has (slot_to (link_at adjacent j)) (v.done j on earlier))
          (λ on. subst (λ (l : Link). HasPlace places' (slot_to l)) read m.has) i before from;
    }

-- all edges from the slot are done
pub visits_all : (edges : List Edge) (places0 : List (Option ℕ)) (order0 : List Found) (adjacent : Adjacent) (parent at : ℕ) (places : List (Option ℕ)) (order : List Found) → AreAdjacent edges (length places0) adjacent → (slot_at order0 parent).0 < length places0 → end_of adjacent (slot_at order0 parent) ≤ at → Visits places0 order0 adjacent parent at places order → (k : ℕ) → k < length edges → from_of edges k ≡ slot_at order0 parent → HasPlace places (to_of edges k)
visits_all edges places0 order0 adjacent parent at places order are within end v k lt same =
    let slot : Slot = slot_at order0 parent in
    let found = are.all k lt in
    let low : start_of adjacent slot ≤ found.0 = subst (λ s. start_of adjacent s ≤ found.0) same found.1.from_start in
    let high : found.0 < end_of adjacent slot = subst (λ s. found.0 < end_of adjacent s) same found.1.to_end in
    let is : IsLink edges slot (link_at adjacent found.0) = are.links slot found.0 within low high in
    let to : slot_to (link_at adjacent found.0) ≡ to_of edges k = same_slot (slot_to (link_at adjacent found.0)) (to_of edges k) (is.target ∙ ap (λ e. (to_of edges e).0) found.1.edge) in
    subst (HasPlace places) to (v.done found.0 low (omega (arith, high)))

-- ---- along the slots in the order of reaching: those before `next` are done

pub record Walking (seeds : List Slot) (edges : List Edge) (slots : ℕ) (places : List (Option ℕ)) (order : List Found) (next : ℕ) : Type 0 where
  pub sound : AreSound seeds edges slots places order
  pub seeded : All (IsWithin places order 0) seeds
  pub levels : AreLevels order next
  pub within : next ≤ length order
  pub done : (p k : ℕ) → p < next → k < length edges → from_of edges k ≡ slot_at order p → IsWithin places order (level order p + 1) (to_of edges k)

pub room : (seeds : List Slot) (edges : List Edge) (slots : ℕ) (places : List (Option ℕ)) (order : List Found) → AreSound seeds edges slots places order → length order ≤ slots
room seeds edges slots places order sound = let r = sound.room in omega (arith, r)

pub walking_step : (seeds : List Slot) (edges : List Edge) (slots : ℕ) (places places' : List (Option ℕ)) (order order' : List Found) (next : ℕ) → Walking seeds edges slots places order next → next < length order → ((ss : List Slot) → AreSound ss edges (length places) places order → AreSound ss edges (length places) places' order') → Keeps places order places' order' → (AreLevels order next → AreLevels order' next) → ((k : ℕ) → k < length edges → from_of edges k ≡ slot_at order next → HasPlace places' (to_of edges k)) → Walking seeds edges slots places' order' (next + 1)
walking_step seeds edges slots places places' order order' next w lt sound keeps levels done =
    let sound' : AreSound seeds edges slots places' order' = subst (λ n. AreSound seeds edges n places' order') w.sound.size (sound seeds (at_length seeds edges slots places order w.sound)) in
    let kept : (n : ℕ) (s : Slot) → IsWithin places order n s → IsWithin places' order' n s = within_kept seeds edges slots places order places' order' w.sound sound' keeps in
    let more : length order ≤ length order' = keeps.more in
    let near : AreLevels order' next = levels w.levels in
    record {
      sound = sound';
      seeded = λ k d small. kept 0 (get_or seeds k d) (w.seeded k d small);
      levels = levels_next order' next near;
      within = omega arith;
      done = λ p k below small same. below_more (λ p. from_of edges k ≡ slot_at order' p → IsWithin places' order' (level order' p + 1) (to_of edges k)) next
          (λ q before is.
          let stays : level order' q ≡ level order q = same_level order order' keeps.steps w.sound.earlier.parents q (omega arith) in
          subst (λ n. IsWithin places' order' (n + 1) (to_of edges k)) (sym stays) (kept (level order q + 1) (to_of edges k) (w.done q k before small (is ∙ keeps.slots q (omega arith)))))
          (λ is.
          let has : HasPlace places' (to_of edges k) = done k small (is ∙ keeps.slots next lt) in
          (has.0, has.1, near.near has.0 (omega arith) (sound'.earlier.within (to_of edges k) has.0 has.1)))
          p below same;
    }

pub walked : (seeds : List Slot) (edges : List Edge) (slots : ℕ) (places : List (Option ℕ)) (order : List Found) (next : ℕ) → Walking seeds edges slots places order next → length order ≤ next → AreDone seeds edges slots places order
walked seeds edges slots places order next w ge =
    record {
      sound = w.sound;
      seeded = w.seeded;
      closed = λ k p small is. let lt : p < length order = w.sound.earlier.within (from_of edges k) p is in w.done p k (omega arith) small (sym (w.sound.placed (from_of edges k) p is));
    }

pub walking_start : (seeds : List Slot) (edges : List Edge) (slots n : ℕ) (places : List (Option ℕ)) (order : List Found) → n ≡ slots → AreSound seeds edges n places order → All (HasPlace places) seeds → AreRoots order → Walking seeds edges slots places order 0
walking_start seeds edges slots n places order e sound seeded roots = record {
  sound = subst (λ m. AreSound seeds edges m places order) e sound;
  seeded = λ k d small. let has : HasPlace places (get_or seeds k d) = seeded k d small in root_within places order (get_or seeds k d) has.0 roots sound.earlier has.1;
  levels = levels_start order roots;
  within = omega arith;
  done = λ p k lt. absurd (omega arith);
}

pub adjacent_at : (seeds : List Slot) (edges : List Edge) (slots : ℕ) (places : List (Option ℕ)) (order : List Found) (next : ℕ) (adjacent : Adjacent) → Walking seeds edges slots places order next → AreAdjacent edges slots adjacent → AreAdjacent edges (length places) adjacent
adjacent_at seeds edges slots places order next adjacent w are = subst (λ n. AreAdjacent edges n adjacent) (sym w.sound.size) are
