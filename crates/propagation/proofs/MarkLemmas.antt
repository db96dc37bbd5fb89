-- What a mark keeps.
use Rattle.std.proofs.Common.{◌≡◌, ◌<◌, ◌≤◌, ◌+◌, ℕ, zero, suc, List, [], ◌∷◌, ◌++◌, length, get_or, refl, sym, ◌∙◌, ap, subst, arith, ◌⊎◌, inl, inr, get_or-set_same, get_or-set_other, below_more, length-append, Option, Some, None}
use Rattle.std.specs.Prelude.{Bool, false, map, is_some}
use Rattle.std.proofs.Math.ListN.{set, length-set, replicate}
use Rattle.std.proofs.lemmas.List.{get_or_append_left, get_or_at, length-replicate}
use Rattle.pt_base.specs.declared.slot.Slot.{Slot}
use Rattle.pt_base.specs.declared.slot.Edge.{Edge}
use Rattle.propagation.specs.declared.reached.Found.{Found}
use Rattle.propagation.specs.declared.reached.Step.{Step}
use Rattle.propagation.specs.Reached.{no_slot, slot_of, slot_at, by_at, place_of, HasPlace, IsParent, AreEarlier, set_if_none, marked_places, push_if_none, marked_order, empty, Comes, AreSound, Keeps}
use Rattle.propagation.proofs.SlotLemmas.{slot_cases}

-- ---- slots without a place

pub empty-set : (places : List (Option ℕ)) (s p : ℕ) → s < length places → get_or places s None ≡ None → empty (set places s (Some p)) + 1 ≡ empty places
empty-set [] s p lt h = absurd (omega arith)
empty-set (None ∷ places) zero p lt h = omega arith
empty-set (Some q ∷ places) zero p lt h = cc
empty-set (None ∷ places) (suc s) p lt h = omega (arith, empty-set places s p (omega arith) h)
empty-set (Some q ∷ places) (suc s) p lt h = omega (arith, empty-set places s p (omega arith) h)

pub empty-replicate : (n : ℕ) → empty (replicate n None) ≡ n
empty-replicate zero = refl
empty-replicate (suc n) = omega (arith, empty-replicate n)

pub none_marked : (n : ℕ) (places : List (Option ℕ)) (marked : List Bool) → places ≡ replicate n None → marked ≡ replicate n false → marked ≡ map is_some places
none_marked n places marked p m = m ∙ go n ∙ sym (ap (map is_some) p)
  where
    go : (n : ℕ) → replicate n false ≡ map is_some (replicate n (let d : Option ℕ = None in d))
    go zero = refl
    go (suc n) = ap (λ bs. false ∷ bs) (go n)

-- ---- the order with one more at its end

slot_push : (order : List Found) (f : Found) (p : ℕ) → p < length order → slot_at (order ++ f ∷ []) p ≡ slot_at order p
slot_push order f p lt = ap slot_of (get_or_append_left order (f ∷ []) no_slot p lt)

pub by_push : (order : List Found) (f : Found) (p : ℕ) → p < length order → by_at (order ++ f ∷ []) p ≡ by_at order p
by_push order f p lt = ap (λ (x : Found). x.by) (get_or_append_left order (f ∷ []) no_slot p lt)

pub last_push : (order : List Found) (f : Found) → get_or (order ++ f ∷ []) (length order) no_slot ≡ f
last_push order f = get_or_at order f [] no_slot (length order) refl

comes_push : (seeds : List Slot) (edges : List Edge) (order : List Found) (f : Found) (s : Slot) (by : Option Step) → IsParent (length order) by → Comes seeds edges order s by → Comes seeds edges (order ++ f ∷ []) s by
comes_push seeds edges order f s None inside h = h
comes_push seeds edges order f s (Some step) inside h = (h.0, h.1 ∙ sym (slot_push order f step.parent (inside step refl)), h.2)

-- ---- one mark

pub record Marked (seeds : List Slot) (edges : List Edge) (slots : ℕ) (places : List (Option ℕ)) (order : List Found) (s : Slot) (places' : List (Option ℕ)) (order' : List Found) : Type 0 where
  pub sound : AreSound seeds edges slots places' order'
  pub keeps : Keeps places order places' order'
  pub has : HasPlace places' s

pub keeps_refl : (places : List (Option ℕ)) (order : List Found) → Keeps places order places order
keeps_refl places order = record { size = refl; more = omega arith; has = λ s h. h; slots = λ p lt. refl; steps = λ p lt. refl }

pub keeps_trans : (a : List (Option ℕ)) (b : List Found) (a1 : List (Option ℕ)) (b1 : List Found) (a2 : List (Option ℕ)) (b2 : List Found) → Keeps a b a1 b1 → Keeps a1 b1 a2 b2 → Keeps a b a2 b2
keeps_trans a b a1 b1 a2 b2 h k = record { size = k.size ∙ h.size; more = let x : length b ≤ length b1 = h.more in let y : length b1 ≤ length b2 = k.more in omega arith; has = λ s x. k.has s (h.has s x); slots = λ p lt. k.slots p (let y : length b ≤ length b1 = h.more in omega arith) ∙ h.slots p lt; steps = λ p lt. k.steps p (let y : length b ≤ length b1 = h.more in omega arith) ∙ h.steps p lt }

pub marks : (seeds : List Slot) (edges : List Edge) (slots : ℕ) (places : List (Option ℕ)) (order : List Found) (s : Slot) (by : Option Step) → s.0 < length places → IsParent (length order) by → Comes seeds edges order s by → AreSound seeds edges slots places order → AreEarlier (marked_places places s (length order)) (marked_order places order s by) → Marked seeds edges slots places order s (marked_places places s (length order)) (marked_order places order s by)
marks seeds edges slots places order s by lt inside comes sound = go (place_of places s) refl
  where
    go : (o : Option ℕ) → place_of places s ≡ o → AreEarlier (set_if_none o places s (length order)) (push_if_none o order s by) → Marked seeds edges slots places order s (set_if_none o places s (length order)) (push_if_none o order s by)
    go (Some q) e early = record { sound = sound; keeps = keeps_refl places order; has = (q, e) }
    go None e early =
        let f : Found = record { slot = s.0; by = by } in
        let there : place_of (set places s.0 (Some (length order))) s ≡ Some (length order) = get_or-set_same places s.0 (Some (length order)) None lt in
        let other : (t : Slot) → (t.0 ≡ s.0 → ⊥) → place_of (set places s.0 (Some (length order))) t ≡ place_of places t = λ t ne. get_or-set_other places s.0 t.0 (Some (length order)) None ne in
        record {
          sound = record {
            size = length-set places s.0 (Some (length order)) ∙ sound.size;
            room = let r : empty places + length order ≡ slots = sound.room in omega (arith, empty-set places s.0 (length order) lt e, length-append order (f ∷ []));
            earlier = early;
            placed = λ t p h. placed t p h there other (slot_cases t s);
            listed = λ p below. listed p (omega (arith, length-append order (f ∷ []))) there other;
            comes = λ p below. came p (omega (arith, length-append order (f ∷ [])));
          };
          keeps = record {
            size = length-set places s.0 (Some (length order));
            more = omega (arith, length-append order (f ∷ []));
            has = λ t h. kept t h there other (slot_cases t s);
            slots = λ p below. slot_push order f p below;
            steps = λ p below. by_push order f p below;
          };
          has = (length order, there);
        }
      where
        placed : (t : Slot) (p : ℕ) → place_of (set places s.0 (Some (length order))) t ≡ Some p → place_of (set places s.0 (Some (length order))) s ≡ Some (length order) → ((u : Slot) → (u.0 ≡ s.0 → ⊥) → place_of (set places s.0 (Some (length order))) u ≡ place_of places u) → (t ≡ s) ⊎ (t.0 ≡ s.0 → ⊥) → slot_at (order ++ record { slot = s.0; by = by } ∷ []) p ≡ t
        placed t p h there other (inl same) =
            let f : Found = record { slot = s.0; by = by } in
            let h' : place_of (set places s.0 (Some (length order))) s ≡ Some p = subst (λ u. place_of (set places s.0 (Some (length order))) u ≡ Some p) same h in
            let n : p ≡ length order = cc in
            subst (λ q. slot_at (order ++ f ∷ []) q ≡ t) (sym n) (ap slot_of (last_push order f) ∙ sym same)
        placed t p h there other (inr ne) =
            let h' : place_of places t ≡ Some p = sym (other t ne) ∙ h in
            slot_push order (record { slot = s.0; by = by }) p (sound.earlier.within t p h') ∙ sound.placed t p h'

        kept : (t : Slot) → HasPlace places t → place_of (set places s.0 (Some (length order))) s ≡ Some (length order) → ((u : Slot) → (u.0 ≡ s.0 → ⊥) → place_of (set places s.0 (Some (length order))) u ≡ place_of places u) → (t ≡ s) ⊎ (t.0 ≡ s.0 → ⊥) → HasPlace (set places s.0 (Some (length order))) t
        kept t h there other (inl same) = (length order, subst (λ u. place_of (set places s.0 (Some (length order))) u ≡ Some (length order)) (sym same) there)
        kept t h there other (inr ne) = (h.0, other t ne ∙ h.1)

        listed : (p : ℕ) → p < length order + 1 → place_of (set places s.0 (Some (length order))) s ≡ Some (length order) → ((t : Slot) → (t.0 ≡ s.0 → ⊥) → place_of (set places s.0 (Some (length order))) t ≡ place_of places t) → place_of (set places s.0 (Some (length order))) (slot_at (order ++ record { slot = s.0; by = by } ∷ []) p) ≡ Some p
        listed p below there other =
            let f : Found = record { slot = s.0; by = by } in
            below_more (λ p. place_of (set places s.0 (Some (length order))) (slot_at (order ++ f ∷ []) p) ≡ Some p) (length order)
            (λ p lt. subst (λ u. place_of (set places s.0 (Some (length order))) u ≡ Some p) (sym (slot_push order f p lt)) (other (slot_at order p) (λ same. let a : place_of places (slot_at order p) ≡ Some p = sound.listed p lt in let b : place_of places (slot_at order p) ≡ None = subst (λ n. get_or places n None ≡ None) (sym same) e in cc) ∙ sound.listed p lt))
            (subst (λ u. place_of (set places s.0 (Some (length order))) u ≡ Some (length order)) (sym (ap slot_of (last_push order f))) there) p below

        came : (p : ℕ) → p < length order + 1 → Comes seeds edges (order ++ record { slot = s.0; by = by } ∷ []) (slot_at (order ++ record { slot = s.0; by = by } ∷ []) p) (by_at (order ++ record { slot = s.0; by = by } ∷ []) p)
        came p below =
            let f : Found = record { slot = s.0; by = by } in
            let P : Found → Type 0 = λ x. Comes seeds edges (order ++ f ∷ []) (slot_of x) x.by in
            below_more (λ p. P (get_or (order ++ f ∷ []) p no_slot)) (length order)
            (λ p lt. subst P (sym (get_or_append_left order (f ∷ []) no_slot p lt)) (comes_push seeds edges order f (slot_at order p) (by_at order p) (λ step is. let k : step.parent < p = sound.earlier.parents p lt step is in omega arith) (sound.comes p lt)))
            (subst P (sym (last_push order f)) (comes_push seeds edges order f s by inside comes)) p below

all_none : (n : ℕ) (s : Slot) → place_of (replicate n None) s ≡ None
all_none n s = go n s.0
  where
    go : (n i : ℕ) → get_or (replicate n (let d : Option ℕ = None in d)) i None ≡ None
    go zero i = refl
    go (suc n) zero = refl
    go (suc n) (suc i) = go n i

pub new_sound : (seeds : List Slot) (edges : List Edge) (slots : ℕ) (places : List (Option ℕ)) (order : List Found) → places ≡ replicate slots None → order ≡ [] → AreSound seeds edges slots places order
new_sound seeds edges slots places order p o =
    subst (λ xs. AreSound seeds edges slots places xs) (sym o) (subst (λ ys. AreSound seeds edges slots ys []) (sym p)
    record {
      size = length-replicate slots None;
      room = omega (arith, empty-replicate slots);
      earlier = record { within = λ s q h. none s q h; parents = λ q lt. absurd (omega arith) };
      placed = λ s q h. absurd (let lt : q < 0 = none s q h in omega arith);
      listed = λ q lt. absurd (omega arith);
      comes = λ q lt. absurd (omega arith);
    })
  where
    none : (s : Slot) (q : ℕ) → place_of (replicate slots None) s ≡ Some q → q < 0
    none s q h = let e : place_of (replicate slots None) s ≡ None = all_none slots s in cc

-- the same of lists that are equal to those after the mark
pub marked_is : (seeds : List Slot) (edges : List Edge) (slots : ℕ) (places : List (Option ℕ)) (order : List Found) (s : Slot) (by : Option Step) (places' : List (Option ℕ)) (order' : List Found) → places' ≡ marked_places places s (length order) → order' ≡ marked_order places order s by → s.0 < length places → IsParent (length order) by → Comes seeds edges order s by → AreSound seeds edges slots places order → AreEarlier places' order' → Marked seeds edges slots places order s places' order'
marked_is seeds edges slots places order s by places' order' p o lt inside comes sound early =
    subst (λ ys. Marked seeds edges slots places order s places' ys) (sym o) (subst (λ xs. Marked seeds edges slots places order s xs (marked_order places order s by)) (sym p)
    (marks seeds edges slots places order s by lt inside comes sound (subst (λ xs. AreEarlier xs (marked_order places order s by)) p (subst (λ ys. AreEarlier places' ys) o early))))
