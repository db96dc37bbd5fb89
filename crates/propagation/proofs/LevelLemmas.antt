-- How levels go as slots are reached.
use Rattle.std.proofs.Common.{◌≡◌, ◌<◌, ◌≤◌, ◌+◌, ◌⊎◌, ℕ, zero, suc, List, [], ◌∷◌, ◌++◌, length, refl, sym, ◌∙◌, ap, subst, arith, inl, inr, Option, Some, None, below_more, length-append}
use Rattle.std.proofs.lemmas.Bool.{cases_lt}
use Rattle.pt_base.specs.declared.slot.Slot.{Slot}
use Rattle.pt_base.specs.declared.slot.Edge.{Edge}
use Rattle.propagation.specs.declared.reached.Found.{Found}
use Rattle.propagation.specs.declared.reached.Step.{Step}
use Rattle.propagation.specs.Levels.{AreLevels, AreRoots, IsWithin, level}
use Rattle.propagation.specs.Reached.{by_at, place_of, slot_at, IsParent, AreEarlier, AreSound, Keeps, marked_order, push_if_none}
use Rattle.propagation.specs.Shown.{path_by, path_back, path_of}
use Rattle.propagation.proofs.MarkLemmas.{by_push, last_push}
use Rattle.propagation.proofs.PathLemmas.{path_here}

-- ---- levels stay as more is reached

same_path : (order order' : List Found) → ((p : ℕ) → p < length order → by_at order' p ≡ by_at order p) → ((p : ℕ) → p < length order → IsParent p (by_at order p)) → (n p : ℕ) → p < length order → path_back order' n p ≡ path_back order n p
same_path order order' same early zero p lt = refl
same_path order order' same early (suc n) p lt = go (by_at order p) refl (same_path order order' same early n)
  where
    go : (by : Option Step) → by_at order p ≡ by → ((q : ℕ) → q < length order → path_back order' n q ≡ path_back order n q) → path_by (λ q. path_back order' n q) (by_at order' p) ≡ path_by (λ q. path_back order n q) by
    go None is ih = ap (path_by (λ q. path_back order' n q)) (same p lt ∙ is)
    go (Some step) is ih = ap (path_by (λ q. path_back order' n q)) (same p lt ∙ is) ∙ ap (λ (xs : List ℕ). xs ++ step.edge ∷ []) (ih step.parent (let earlier : step.parent < p = early p lt step is in omega arith))

pub same_level : (order order' : List Found) → ((p : ℕ) → p < length order → by_at order' p ≡ by_at order p) → ((p : ℕ) → p < length order → IsParent p (by_at order p)) → (p : ℕ) → p < length order → level order' p ≡ level order p
same_level order order' same early p lt = ap length (same_path order order' same early (suc p) p lt)

-- a slot that was reached stays at its place and level
pub within_kept : (seeds : List Slot) (edges : List Edge) (slots : ℕ) (places : List (Option ℕ)) (order : List Found) (places' : List (Option ℕ)) (order' : List Found) → AreSound seeds edges slots places order → AreSound seeds edges slots places' order' → Keeps places order places' order' → (n : ℕ) (s : Slot) → IsWithin places order n s → IsWithin places' order' n s
within_kept seeds edges slots places order places' order' sound sound' keeps n s h =
    let lt : h.0 < length order = sound.earlier.within s h.0 h.1 in
    let more : length order ≤ length order' = keeps.more in
    let same : slot_at order' h.0 ≡ s = keeps.slots h.0 lt ∙ sound.placed s h.0 h.1 in
    let stays : level order' h.0 ≡ level order h.0 = same_level order order' keeps.steps sound.earlier.parents h.0 lt in
    let low : level order h.0 ≤ n = h.2 in
    (h.0, subst (λ u. place_of places' u ≡ Some h.0) same (sound'.listed h.0 (omega arith)), omega arith)

-- ---- levels of seeds and of steps

root_level : (order : List Found) (p : ℕ) → by_at order p ≡ None → level order p ≡ 0
root_level order p is = ap (λ by. length (path_by (λ q. path_back order p q) by)) is

step_level : (places : List (Option ℕ)) (order : List Found) (at : ℕ) (step : Step) → AreEarlier places order → at < length order → by_at order at ≡ Some step → level order at ≡ level order step.parent + 1
step_level places order at step early inside is = ap length (path_here places order at step early inside is) ∙ length-append (path_of order step.parent) (step.edge ∷ [])

-- a seed is a root
roots_if : (o : Option ℕ) (order : List Found) (s : Slot) → AreRoots order → AreRoots (push_if_none o order s None)
roots_if (Some q) order s are = are
roots_if None order s are = λ p lt. below_more (λ p. by_at (order ++ record { slot = s.0; by = None } ∷ []) p ≡ None) (length order)
    (λ p below. by_push order (record { slot = s.0; by = None }) p below ∙ are p below)
    (ap (λ (x : Found). x.by) (last_push order (record { slot = s.0; by = None })))
    p (omega (arith, lt, length-append order (record { slot = s.0; by = None } ∷ [])))

pub roots_marked : (places : List (Option ℕ)) (order : List Found) (s : Slot) (order' : List Found) → order' ≡ marked_order places order s None → AreRoots order → AreRoots order'
roots_marked places order s order' is are = subst AreRoots (sym is) (roots_if (place_of places s) order s are)

pub levels_start : (order : List Found) → AreRoots order → AreLevels order 0
levels_start order are = record {
  rise = λ p q le lt. let a : level order p ≡ 0 = root_level order p (are p (omega arith)) in omega arith;
  near = λ q inside lt. let a : level order q ≡ 0 = root_level order q (are q lt) in omega arith;
}

pub root_within : (places : List (Option ℕ)) (order : List Found) (s : Slot) (p : ℕ) → AreRoots order → AreEarlier places order → place_of places s ≡ Some p → IsWithin places order 0 s
root_within places order s p are early is = (p, is, (let a : level order p ≡ 0 = root_level order p (are p (early.within s p is)) in omega arith))

pub levels_next : (order : List Found) (at : ℕ) → AreLevels order at → AreLevels order (at + 1)
levels_next order at are = record {
  rise = are.rise;
  near = λ q inside lt.
      let far : level order q ≤ level order at + 1 = are.near q (omega arith) lt in
      let on : level order at ≤ level order (at + 1) = are.rise at (at + 1) (omega arith) inside in
      omega arith;
}

-- ---- a mark by a step from the slot at the place

levels_push : (places places' : List (Option ℕ)) (order : List Found) (f : Found) (step : Step) → f.by ≡ Some step → AreEarlier places order → AreEarlier places' (order ++ f ∷ []) → step.parent < length order → AreLevels order step.parent → AreLevels (order ++ f ∷ []) step.parent
levels_push places places' order f step by early early' inside are = record {
  rise = λ p q le lt. rise p q le (omega (arith, lt, long)) (cases_lt p (length order)) (cases_lt q (length order));
  near = λ q in_order lt. near q (omega (arith, lt, long)) (cases_lt q (length order));
}
  where
    long : length (order ++ f ∷ []) ≡ length order + 1
    long = length-append order (f ∷ [])

    same : (p : ℕ) → p < length order → level (order ++ f ∷ []) p ≡ level order p
    same p lt = same_level order (order ++ f ∷ []) (by_push order f) early.parents p lt

    last : level (order ++ f ∷ []) (length order) ≡ level order step.parent + 1
    last =
        let l : level (order ++ f ∷ []) (length order) ≡ level (order ++ f ∷ []) step.parent + 1 = step_level places' (order ++ f ∷ []) (length order) step early' (omega (arith, long)) (ap (λ (x : Found). x.by) (last_push order f) ∙ by) in
        let s : level (order ++ f ∷ []) step.parent ≡ level order step.parent = same step.parent inside in
        omega arith

    at_last : (q : ℕ) → q < length order + 1 → length order ≤ q → level (order ++ f ∷ []) q ≡ level order step.parent + 1
    at_last q lt le = let is : q ≡ length order = omega arith in ap (level (order ++ f ∷ [])) is ∙ last

    near : (q : ℕ) → q < length order + 1 → (q < length order) ⊎ (length order ≤ q) → level (order ++ f ∷ []) q ≤ level (order ++ f ∷ []) step.parent + 1
    near q lt (inl less) =
        let a : level (order ++ f ∷ []) q ≡ level order q = same q less in
        let b : level (order ++ f ∷ []) step.parent ≡ level order step.parent = same step.parent inside in
        let c : level order q ≤ level order step.parent + 1 = are.near q inside less in
        omega arith
    near q lt (inr more) =
        let a : level (order ++ f ∷ []) q ≡ level order step.parent + 1 = at_last q lt more in
        let b : level (order ++ f ∷ []) step.parent ≡ level order step.parent = same step.parent inside in
        omega arith

    rise : (p q : ℕ) → p ≤ q → q < length order + 1 → (p < length order) ⊎ (length order ≤ p) → (q < length order) ⊎ (length order ≤ q) → level (order ++ f ∷ []) p ≤ level (order ++ f ∷ []) q
    rise p q le lt (inl less) (inl below) =
        let a : level (order ++ f ∷ []) p ≡ level order p = same p less in
        let b : level (order ++ f ∷ []) q ≡ level order q = same q below in
        let c : level order p ≤ level order q = are.rise p q le below in
        omega arith
    rise p q le lt (inl less) (inr more) =
        let a : level (order ++ f ∷ []) p ≡ level order p = same p less in
        let b : level (order ++ f ∷ []) q ≡ level order step.parent + 1 = at_last q lt more in
        let c : level order p ≤ level order step.parent + 1 = are.near p inside less in
        omega arith
    rise p q le lt (inr most) (inl below) = absurd (omega arith)
    rise p q le lt (inr most) (inr more) =
        let a : level (order ++ f ∷ []) p ≡ level order step.parent + 1 = at_last p (omega arith) most in
        let b : level (order ++ f ∷ []) q ≡ level order step.parent + 1 = at_last q lt more in
        omega arith

levels_if : (o : Option ℕ) (places places' : List (Option ℕ)) (order : List Found) (s : Slot) (step : Step) → AreEarlier places order → AreEarlier places' (push_if_none o order s (Some step)) → step.parent < length order → AreLevels order step.parent → AreLevels (push_if_none o order s (Some step)) step.parent
levels_if (Some q) places places' order s step early early' inside are = are
levels_if None places places' order s step early early' inside are = levels_push places places' order (record { slot = s.0; by = Some step }) step refl early early' inside are

pub levels_marked : (places places' : List (Option ℕ)) (order order' : List Found) (s : Slot) (step : Step) → AreEarlier places order → AreEarlier places' order' → order' ≡ marked_order places order s (Some step) → step.parent < length order → AreLevels order step.parent → AreLevels order' step.parent
levels_marked places places' order order' s step early early' is inside are =
    subst (λ xs. AreLevels xs step.parent) (sym is) (levels_if (place_of places s) places places' order s step early (subst (AreEarlier places') is early') inside are)
