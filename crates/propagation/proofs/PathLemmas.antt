-- Paths to reached slots, and back from them.
use Rattle.std.proofs.Common.{◌≡◌, ◌<◌, ◌≤◌, ◌+◌, ℕ, zero, suc, List, [], ◌∷◌, ◌++◌, length, reverse, refl, sym, ◌∙◌, ap, subst, arith, Option, Some, None, MatchOption, append_assoc}
use Rattle.std.specs.List.{Contains}
use Rattle.std.specs.Option.{option_map}
use Rattle.std.proofs.Math.ListN.{get_or-map}
use Rattle.std.proofs.lemmas.List.{append-nil, length-map, reverse-append}
use Rattle.std.proofs.lemmas.List.Elements.{All-contains}
use Rattle.pt_base.specs.declared.slot.Slot.{Slot}
use Rattle.pt_base.specs.declared.slot.Edge.{Edge}
use Rattle.propagation.specs.declared.reached.Found.{Found}
use Rattle.propagation.specs.declared.reached.Step.{Step}
use Rattle.propagation.specs.Levels.{AreDone, IsWithin, level}
use Rattle.propagation.specs.Paths.{from_of, to_of, Leads, IsPriv, IsFewest, IsShortestPath}
use Rattle.propagation.specs.Marks.{AreMarks}
use Rattle.propagation.specs.Reached.{slot_at, by_at, place_of, Comes, AreEarlier, AreSound}
use Rattle.propagation.specs.Shown.{path_by, path_back, path_of, paths_shown}

-- ---- a path from a reached slot

-- it leads to slots that were reached, along no more edges than it has
within_path : (edges : List Edge) (places : List (Option ℕ)) (order : List Found) → ((k p : ℕ) → k < length edges → place_of places (from_of edges k) ≡ Some p → IsWithin places order (level order p + 1) (to_of edges k)) → (path : List ℕ) (a b : Slot) (n : ℕ) → Leads edges path a b → IsWithin places order n a → IsWithin places order (n + length path) b
within_path edges places order closed [] a b n h has = (has.0, subst (λ u. place_of places u ≡ Some has.0) h has.1, (let low : level order has.0 ≤ n = has.2 in omega arith))
within_path edges places order closed (k ∷ path) a b n h has =
    let next : IsWithin places order (level order has.0 + 1) (to_of edges k) = closed k has.0 h.0 (subst (λ u. place_of places u ≡ Some has.0) (sym h.1) has.1) in
    let rest : IsWithin places order (level order has.0 + 1 + length path) b = within_path edges places order closed path (to_of edges k) b (level order has.0 + 1) h.2 next in
    (rest.0, rest.1, (let low : level order has.0 ≤ n = has.2 in let high : level order rest.0 ≤ level order has.0 + 1 + length path = rest.2 in omega arith))

reached : (seeds : List Slot) (edges : List Edge) (slots : ℕ) (places : List (Option ℕ)) (order : List Found) → AreDone seeds edges slots places order → (seed : Slot) (path : List ℕ) (s : Slot) → Contains seeds seed → Leads edges path seed s → IsWithin places order (0 + length path) s
reached seeds edges slots places order m seed path s is leads = within_path edges places order m.closed path seed s 0 leads (All-contains (IsWithin places order 0) seeds seed m.seeded is)

fewest : (seeds : List Slot) (edges : List Edge) (slots : ℕ) (places : List (Option ℕ)) (order : List Found) → AreDone seeds edges slots places order → (s : Slot) (p : ℕ) → place_of places s ≡ Some p → IsFewest seeds edges (level order p) s
fewest seeds edges slots places order m s p here seed path is leads =
    let r : IsWithin places order (0 + length path) s = reached seeds edges slots places order m seed path s is leads in
    let there : place_of places s ≡ Some r.0 = r.1 in
    let same : r.0 ≡ p = cc in
    let low : level order r.0 ≤ 0 + length path = r.2 in
    subst (λ q. level order q ≤ length path) same (omega arith)

-- ---- back from a reached slot to a seed

abbrev FromSeed : List Slot → List Edge → List ℕ → Slot → Type 0
FromSeed seeds edges path s = (seed : Slot) × Contains seeds seed × Leads edges path seed s

from_seed : (seeds : List Slot) (edges : List Edge) (slots : ℕ) (places : List (Option ℕ)) (order : List Found) → AreSound seeds edges slots places order → (n at : ℕ) (path : List ℕ) (s : Slot) → at < n → at < length order → Leads edges path (slot_at order at) s → FromSeed seeds edges (path_back order n at ++ path) s
from_seed seeds edges slots places order sound zero at path s lt inside leads = absurd (omega arith)
from_seed seeds edges slots places order sound (suc n) at path s lt inside leads = go (by_at order at) refl (from_seed seeds edges slots places order sound n)
  where
    go : (by : Option Step) → by_at order at ≡ by → ((at' : ℕ) (path' : List ℕ) (s' : Slot) → at' < n → at' < length order → Leads edges path' (slot_at order at') s' → FromSeed seeds edges (path_back order n at' ++ path') s') → FromSeed seeds edges (path_by (λ p. path_back order n p) by ++ path) s
    go None is ih = (slot_at order at, subst (Comes seeds edges order (slot_at order at)) is (sound.comes at inside), leads)
    go (Some step) is ih =
        let h : Comes seeds edges order (slot_at order at) (Some step) = subst (Comes seeds edges order (slot_at order at)) is (sound.comes at inside) in
        let earlier : step.parent < at = sound.earlier.parents at inside step is in
        subst (λ xs. FromSeed seeds edges xs s) (sym (append_assoc (path_back order n step.parent) (step.edge ∷ []) path))
        (ih step.parent (step.edge ∷ path) s (omega arith) (omega arith) (h.0, h.1, subst (λ b. Leads edges path b s) (sym h.2) leads))

-- ---- what the walk leaves shows the marks

pub shows : (seeds : List Slot) (edges : List Edge) (slots : ℕ) (places : List (Option ℕ)) (order : List Found) → AreDone seeds edges slots places order → AreMarks seeds edges slots (paths_shown places order)
shows seeds edges slots places order m =
    record {
      size = length-map places (λ place. option_map (path_of order) place) ∙ m.sound.size;
      paths = λ s lt. subst (λ o. MatchOption o (¬ IsPriv seeds edges s) (λ path. IsShortestPath seeds edges path s)) (sym (get_or-map (λ place. option_map (path_of order) place) places s.0 None)) (go s (place_of places s) refl);
    }
  where
    go : (s : Slot) (o : Option ℕ) → place_of places s ≡ o → MatchOption (option_map (path_of order) o) (¬ IsPriv seeds edges s) (λ path. IsShortestPath seeds edges path s)
    go s None is = λ priv. let has : IsWithin places order (0 + length priv.1) s = reached seeds edges slots places order m priv.0 priv.1 s priv.2 priv.3 in let a : place_of places s ≡ Some has.0 = has.1 in cc
    go s (Some p) is =
        let from : FromSeed seeds edges (path_of order p) s = subst (λ xs. FromSeed seeds edges xs s) (append-nil (path_of order p))
        (from_seed seeds edges slots places order m.sound (suc p) p [] s (omega arith) (m.sound.earlier.within s p is) (m.sound.placed s p is)) in
        (from.0, from.1, from.2, fewest seeds edges slots places order m s p is)

-- ---- the path as it is read off, from its end

-- going back more steps than there are gives the same
steady : (places : List (Option ℕ)) (order : List Found) → AreEarlier places order → (n m p : ℕ) → p < n → p < m → p < length order → path_back order n p ≡ path_back order m p
steady places order early zero m p a b inside = absurd (omega arith)
steady places order early (suc n) zero p a b inside = absurd (omega arith)
steady places order early (suc n) (suc m) p a b inside = go (by_at order p) refl (steady places order early n m)
  where
    go : (by : Option Step) → by_at order p ≡ by → ((q : ℕ) → q < n → q < m → q < length order → path_back order n q ≡ path_back order m q) → path_by (λ q. path_back order n q) by ≡ path_by (λ q. path_back order m q) by
    go None is ih = refl
    go (Some step) is ih = let earlier : step.parent < p = early.parents p inside step is in ap (λ (xs : List ℕ). xs ++ step.edge ∷ []) (ih step.parent (omega arith) (omega arith) (omega arith))

pub path_end : (order : List Found) (at : ℕ) (path path' whole : List ℕ) → by_at order at ≡ None → path' ≡ reverse path → path_of order at ++ reverse path ≡ whole → path' ≡ whole
path_end order at path path' whole is reversed h =
    let e : path_of order at ≡ [] = ap (path_by (λ p. path_back order at p)) is in
    let f : [] ++ reverse path ≡ whole = subst (λ (xs : List ℕ). xs ++ reverse path ≡ whole) e h in
    reversed ∙ f

-- the path of a slot that was reached by a step
pub path_here : (places : List (Option ℕ)) (order : List Found) (at : ℕ) (step : Step) → AreEarlier places order → at < length order → by_at order at ≡ Some step → path_of order at ≡ path_of order step.parent ++ step.edge ∷ []
path_here places order at step early inside is =
    let earlier : step.parent < at = early.parents at inside step is in
    let e : path_of order at ≡ path_back order at step.parent ++ step.edge ∷ [] = ap (path_by (λ p. path_back order at p)) is in
    let same : path_back order at step.parent ≡ path_of order step.parent = steady places order early at (suc step.parent) step.parent (omega arith) (omega arith) (omega arith) in
    subst (λ (xs : List ℕ). path_of order at ≡ xs ++ step.edge ∷ []) same e

pub path_step : (places : List (Option ℕ)) (order : List Found) (at : ℕ) (step : Step) (path path' whole : List ℕ) → AreEarlier places order → at < length order → by_at order at ≡ Some step → path' ≡ path ++ step.edge ∷ [] → path_of order at ++ reverse path ≡ whole → path_of order step.parent ++ reverse path' ≡ whole
path_step places order at step path path' whole early inside is pushed h =
    let here : path_of order at ≡ path_of order step.parent ++ step.edge ∷ [] = path_here places order at step early inside is in
    let back : reverse path' ≡ step.edge ∷ reverse path = subst (λ (xs : List ℕ). reverse xs ≡ step.edge ∷ reverse path) (sym pushed) (reverse-append path (step.edge ∷ [])) in
    subst (λ (xs : List ℕ). path_of order step.parent ++ xs ≡ whole) (sym back)
    (sym (append_assoc (path_of order step.parent) (step.edge ∷ []) (reverse path)) ∙ (ap (λ (xs : List ℕ). xs ++ reverse path) (sym here) ∙ h))
