-- Proofs of the laws on marks.
use Rattle.std.proofs.Common.{◌≡◌, ◌<◌, ◌≤◌, ℕ, zero, suc, List, [], ◌∷◌, ◌++◌, length, get_or, refl, sym, ◌∙◌, ap, subst, arith, Bool, Option, Some, None, IsTrue, IsSome, MatchOption}
use Rattle.std.specs.List.{All, AllPairs, Contains}
use Rattle.std.specs.Prelude.{◌≢◌}
use Rattle.std.proofs.lemmas.List.{get_or_default}
use Rattle.std.proofs.lemmas.List.Elements.{All-contains, Contains-get_or}
use Rattle.std.proofs.lemmas.List.Kept.{AllPairs-cons}
use Rattle.pt_base.specs.declared.slot.Slot.{Slot}
use Rattle.pt_base.specs.declared.slot.Edge.{Edge}
use Rattle.propagation.specs.Paths.{no_edge, from_of, to_of, visits, Leads, IsPriv, IsShortestPath}
use Rattle.propagation.specs.Marks.{path_shown, IsMarked, AreMarks}
use Rattle.propagation.specs.Laws.{AreIn, MoreMarksMore, OrderIsFree, MarksAreLeast, ShortestPathsAreSimple}

-- ---- marked is privileged

marked_below : (marks : List (Option (List ℕ))) (i : ℕ) → IsSome (get_or marks i None) → i < length marks
marked_below [] i m = cc
marked_below (o ∷ marks) zero m = omega arith
marked_below (o ∷ marks) (suc i) m = omega (arith, marked_below marks i m)

pub marked_priv : (seeds : List Slot) (edges : List Edge) (slots : ℕ) (marks : List (Option (List ℕ))) → AreMarks seeds edges slots marks → (s : Slot) → IsMarked marks s → IsPriv seeds edges s
marked_priv seeds edges slots marks are s m = go (path_shown marks s) m (are.paths s (let lt : s.0 < length marks = marked_below marks s.0 m in let size : length marks ≡ slots = are.size in omega arith))
  where
    go : (o : Option (List ℕ)) → IsSome o → MatchOption o (¬ IsPriv seeds edges s) (λ path. IsShortestPath seeds edges path s) → IsPriv seeds edges s
    go None some h = cc
    go (Some path) some h = (h.0, path, h.1, h.2)

pub priv_marked : (seeds : List Slot) (edges : List Edge) (slots : ℕ) (marks : List (Option (List ℕ))) → AreMarks seeds edges slots marks → (s : Slot) → s.0 < slots → IsPriv seeds edges s → IsMarked marks s
priv_marked seeds edges slots marks are s lt priv = go (path_shown marks s) (are.paths s lt)
  where
    go : (o : Option (List ℕ)) → MatchOption o (¬ IsPriv seeds edges s) (λ path. IsShortestPath seeds edges path s) → IsSome o
    go None h = absurd (h priv)
    go (Some path) h = refl

-- ---- more edges

moved : (edges edges' : List Edge) → AreIn edges edges' → (path : List ℕ) (a b : Slot) → Leads edges path a b → (path' : List ℕ) × Leads edges' path' a b
moved edges edges' more [] a b h = ([], h)
moved edges edges' more (k ∷ path) a b h =
    let e : Edge = get_or edges k no_edge in
    let c : Contains edges' (get_or edges k no_edge) = more (get_or edges k no_edge) (Contains-get_or edges k no_edge h.0) in
    let same : get_or edges' c.0 no_edge ≡ get_or edges k no_edge = get_or_default edges' c.0 no_edge (get_or edges k no_edge) c.1 ∙ c.2 in
    let rest : (path' : List ℕ) × Leads edges' path' (to_of edges k) b = moved edges edges' more path (to_of edges k) b h.2 in
    (c.0 ∷ rest.0, (c.1, ap (λ (x : Edge). x.from) same ∙ h.1, subst (λ (x : Slot). Leads edges' rest.0 x b) (sym (ap (λ (x : Edge). x.to) same)) rest.1))

pub more : MoreMarksMore
more seeds seeds' edges edges' slots marks marks' are are' ss es s m =
    let priv : IsPriv seeds edges s = marked_priv seeds edges slots marks are s m in
    let path : (path' : List ℕ) × Leads edges' path' priv.0 s = moved edges edges' es priv.1 priv.0 s priv.3 in
    priv_marked seeds' edges' slots marks' are' s (let lt : s.0 < length marks = marked_below marks s.0 m in let size : length marks ≡ slots = are.size in omega arith) (priv.0, path.0, ss priv.0 priv.2, path.1)

pub free : OrderIsFree
free seeds seeds' edges edges' slots marks marks' are are' ss ss' es es' s =
    (more seeds seeds' edges edges' slots marks marks' are are' ss es s, more seeds' seeds edges' edges slots marks' marks are' are ss' es' s)

-- ---- the least set

pub leads_push : (edges : List Edge) (path : List ℕ) (a b : Slot) (k : ℕ) → Leads edges path a b → k < length edges → from_of edges k ≡ b → Leads edges (path ++ k ∷ []) a (to_of edges k)
leads_push edges [] a b k h lt f = (lt, f ∙ sym h, refl)
leads_push edges (j ∷ path) a b k h lt f = (h.0, h.1, leads_push edges path (to_of edges j) b k h.2 lt f)

stays_in : (edges : List Edge) (set : Slot → Bool) → All (λ (e : Edge). IsTrue (set e.from) → IsTrue (set e.to)) edges → (path : List ℕ) (a b : Slot) → Leads edges path a b → IsTrue (set a) → IsTrue (set b)
stays_in edges set follows [] a b h has = subst (λ (x : Slot). IsTrue (set x)) h has
stays_in edges set follows (k ∷ path) a b h has = stays_in edges set follows path (to_of edges k) b h.2 (follows k no_edge h.0 (subst (λ (x : Slot). IsTrue (set x)) (sym h.1) has))

pub least : MarksAreLeast
least seeds edges slots marks are within ends = (
  record { seeded = seeded; follows = follows },
  λ set closed s m. let priv : IsPriv seeds edges s = marked_priv seeds edges slots marks are s m in
      stays_in edges set closed.follows priv.1 priv.0 s priv.3 (All-contains (λ (x : Slot). IsTrue (set x)) seeds priv.0 closed.seeded priv.2),
)
  where
    seeded : All (IsMarked marks) seeds
    seeded k d lt = priv_marked seeds edges slots marks are (get_or seeds k d) (within k d lt) (get_or seeds k d, [], Contains-get_or seeds k d lt, refl)

    follows : All (λ (e : Edge). IsMarked marks e.from → IsMarked marks e.to) edges
    follows k d lt m =
        let same : get_or edges k d ≡ get_or edges k no_edge = get_or_default edges k d no_edge lt in
        let priv : IsPriv seeds edges (get_or edges k d).from = marked_priv seeds edges slots marks are (get_or edges k d).from m in
        priv_marked seeds edges slots marks are (get_or edges k d).to (ends k d lt)
        (priv.0, priv.1 ++ k ∷ [], priv.2, subst (λ (x : Edge). Leads edges (priv.1 ++ k ∷ []) priv.0 x.to) (sym same) (leads_push edges priv.1 priv.0 (get_or edges k d).from k priv.3 lt (ap (λ (x : Edge). x.from) (sym same))))

-- ---- shortest paths

-- a path that comes to a slot goes on from there, and is no longer from there on
rest_from : (edges : List Edge) (path : List ℕ) (a b : Slot) → Leads edges path a b → (i : ℕ) (d : Slot) → i < length (visits edges path a) → (rest : List ℕ) × Leads edges rest (get_or (visits edges path a) i d) b × (length rest ≤ length path)
rest_from edges path a b h zero d lt = (path, h, omega arith)
rest_from edges [] a b h (suc i) d lt = absurd (omega arith)
rest_from edges (k ∷ path) a b h (suc i) d lt =
    let r = rest_from edges path (to_of edges k) b h.2 i d (omega arith) in
    (r.0, r.1, (let le : length r.0 ≤ length path = r.2 in omega arith))

-- a path than which none between its ends is shorter
abbrev IsLeastBetween : List Edge → List ℕ → Slot → Slot → Type 0
IsLeastBetween edges path a b = (other : List ℕ) → Leads edges other a b → length path ≤ length other

distinct : (edges : List Edge) (path : List ℕ) (a b : Slot) → Leads edges path a b → IsLeastBetween edges path a b → AllPairs (λ (a b : Slot). a ≢ b) (visits edges path a)
distinct edges [] a b h least = λ i j d lt below. absurd (omega arith)
distinct edges (k ∷ path) a b h least = AllPairs-cons (λ (a b : Slot). a ≢ b) a (visits edges path (to_of edges k)) others
    (distinct edges path (to_of edges k) b h.2 (λ other leads. let le : length (k ∷ path) ≤ length (k ∷ other) = least (k ∷ other) (h.0, h.1, leads) in omega arith))
  where
    others : All (λ (b : Slot). a ≢ b) (visits edges path (to_of edges k))
    others i d lt same =
        let r = rest_from edges path (to_of edges k) b h.2 i d lt in
        let le : length (k ∷ path) ≤ length r.0 = least r.0 (subst (λ (x : Slot). Leads edges r.0 x b) (sym same) r.1) in
        let short : length r.0 ≤ length path = r.2 in
        absurd (omega arith)

pub shortest_simple : ShortestPathsAreSimple
shortest_simple seeds edges path s h = (h.0, h.1, h.2, distinct edges path h.0 s h.2 (λ other leads. h.3 h.0 other h.1 leads))
