-- Each edge's link gets a place of its own.
use Rattle.std.proofs.Common.{◌≡◌, ◌<◌, ◌≤◌, ◌+◌, ℕ, List, length, get_or, refl, sym, ◌∙◌, ap, ◌⊎◌, subst, arith, inl, inr, get_or-set_same, get_or-set_other, below_more}
use Rattle.std.proofs.Math.ListN.{set}
use Rattle.std.proofs.lemmas.Bool.{cases_eq}
use Rattle.std.specs.List.{All}
use Rattle.std.proofs.lemmas.List.{get_or_default}
use Rattle.propagation.proofs.SlotLemmas.{same_slot}
use Rattle.pt_base.specs.declared.slot.Slot.{Slot}
use Rattle.pt_base.specs.declared.slot.Edge.{Edge}
use Rattle.propagation.specs.declared.adjacent.Adjacent.{Adjacent}
use Rattle.propagation.specs.declared.adjacent.Link.{Link}
use Rattle.propagation.specs.Adjacent.{ahead, no_link, link_at, start_of, end_of, IsLink, AreAdjacent}
use Rattle.propagation.specs.Paths.{from_of, to_of, no_edge}
use Rattle.propagation.proofs.AheadLemmas.{ahead_here, ahead_other, ahead_next, ahead_most, ahead_falls, place_found, place_of_edge, place_within, place_other}

-- the link of the edge with this number
abbrev pub link_of : List Edge → ℕ → Link
link_of edges k = record { to = (to_of edges k).0; edge = k }

-- an edge is counted for its slot
pub count_step : (edges : List Edge) (ends : List ℕ) (slots k n : ℕ) → length ends ≡ slots + 1 → k < length edges → (from_of edges k).0 < slots → n ≡ get_or ends (from_of edges k).0 0 + 1 → ((s : ℕ) → s < slots + 1 → ahead edges s k + get_or ends s 0 ≡ ahead edges s 0) → (s : ℕ) → s < slots + 1 → ahead edges s (k + 1) + get_or (set ends (from_of edges k).0 n) s 0 ≡ ahead edges s 0
count_step edges ends slots k n size lt within new h s below = go (cases_eq (from_of edges k).0 s)
  where
    go : ((from_of edges k).0 ≡ s) ⊎ ((from_of edges k).0 ≡ s → ⊥) → ahead edges s (k + 1) + get_or (set ends (from_of edges k).0 n) s 0 ≡ ahead edges s 0
    go (inl e) =
        let r : get_or (set ends (from_of edges k).0 n) s 0 ≡ n = subst (λ u. get_or (set ends (from_of edges k).0 n) u 0 ≡ n) e (get_or-set_same ends (from_of edges k).0 n 0 (omega arith)) in
        let v : get_or ends (from_of edges k).0 0 ≡ get_or ends s 0 = ap (λ u. get_or ends u 0) e in
        omega (arith, r, v, h s below, ahead_here edges s k lt e)
    go (inr ne) =
        let r : get_or (set ends (from_of edges k).0 n) s 0 ≡ get_or ends s 0 = get_or-set_other ends (from_of edges k).0 s n 0 (λ e. ne (sym e)) in
        omega (arith, r, h s below, ahead_other edges s k lt ne)

pub count_few : (edges : List Edge) (ends : List ℕ) (slots k n : ℕ) → length ends ≡ slots + 1 → k < length edges → (from_of edges k).0 < slots → n ≡ get_or ends (from_of edges k).0 n → ((s : ℕ) → s < slots + 1 → ahead edges s k + get_or ends s 0 ≡ ahead edges s 0) → n + 1 ≤ length edges
count_few edges ends slots k n size lt within read h =
    let r : n ≡ get_or ends (from_of edges k).0 0 = read ∙ get_or_default ends (from_of edges k).0 n 0 (omega arith) in
    omega (arith, r, h (from_of edges k).0 (omega arith), ahead_here edges (from_of edges k).0 k lt refl, ahead_most edges (from_of edges k).0 0)

-- where the links that are placed already begin
pub start_is : (edges : List Edge) (starts : List ℕ) (slots k n : ℕ) → length starts ≡ slots + 1 → k < length edges → (from_of edges k).0 < slots → n ≡ get_or starts (from_of edges k).0 n → ((s : ℕ) → s < slots + 1 → get_or starts s 0 ≡ ahead edges s k) → n ≡ place_of_edge edges k + 1
start_is edges starts slots k n size lt within read h =
    let r : n ≡ get_or starts (from_of edges k).0 0 = read ∙ get_or_default starts (from_of edges k).0 n 0 (omega arith) in
    r ∙ h (from_of edges k).0 (omega arith) ∙ ahead_here edges (from_of edges k).0 k lt refl

-- an edge's link is the one before those that are placed already
pub start_step : (edges : List Edge) (starts : List ℕ) (slots k n : ℕ) → length starts ≡ slots + 1 → k < length edges → (from_of edges k).0 < slots → n + 1 ≡ get_or starts (from_of edges k).0 0 → ((s : ℕ) → s < slots + 1 → get_or starts s 0 ≡ ahead edges s k) → (s : ℕ) → s < slots + 1 → get_or (set starts (from_of edges k).0 n) s 0 ≡ ahead edges s (k + 1)
start_step edges starts slots k n size lt within new h s below = go (cases_eq (from_of edges k).0 s)
  where
    go : ((from_of edges k).0 ≡ s) ⊎ ((from_of edges k).0 ≡ s → ⊥) → get_or (set starts (from_of edges k).0 n) s 0 ≡ ahead edges s (k + 1)
    go (inl e) =
        let r : get_or (set starts (from_of edges k).0 n) s 0 ≡ n = subst (λ u. get_or (set starts (from_of edges k).0 n) u 0 ≡ n) e (get_or-set_same starts (from_of edges k).0 n 0 (omega arith)) in
        let v : get_or starts (from_of edges k).0 0 ≡ get_or starts s 0 = ap (λ u. get_or starts u 0) e in
        omega (arith, r, v, h s below, ahead_here edges s k lt e)
    go (inr ne) =
        let r : get_or (set starts (from_of edges k).0 n) s 0 ≡ get_or starts s 0 = get_or-set_other starts (from_of edges k).0 s n 0 (λ e. ne (sym e)) in
        omega (arith, r, h s below, ahead_other edges s k lt ne)

pub placed_step : (edges : List Edge) (links : List Link) (k at : ℕ) (link : Link) → length links ≡ length edges → k < length edges → at ≡ place_of_edge edges k → link ≡ link_of edges k → ((j : ℕ) → j < k → get_or links (place_of_edge edges j) no_link ≡ link_of edges j) → (j : ℕ) → j < k + 1 → get_or (set links at link) (place_of_edge edges j) no_link ≡ link_of edges j
placed_step edges links k at link size lt here is h =
    below_more (λ j. get_or (set links at link) (place_of_edge edges j) no_link ≡ link_of edges j) k
    (λ j before. get_or-set_other links at (place_of_edge edges j) link no_link (λ e. place_other edges j k before lt (sym here ∙ sym e)) ∙ h j before)
    (subst (λ p. get_or (set links at link) p no_link ≡ link_of edges k) here (get_or-set_same links at link no_link (let w = place_within edges k lt in omega (arith, w)) ∙ is))

-- ---- the sums

-- a slot's links end where those from it and the slots before it are counted
pub sum_step : (edges : List Edge) (ends : List ℕ) (slots s n : ℕ) → length ends ≡ slots + 1 → s < slots + 1 → n ≡ ahead edges s 0 → ((t : ℕ) → t < s → get_or ends t 0 ≡ ahead edges t 0) → (t : ℕ) → t < s + 1 → get_or (set ends s n) t 0 ≡ ahead edges t 0
sum_step edges ends slots s n size lt is h =
    below_more (λ t. get_or (set ends s n) t 0 ≡ ahead edges t 0) s
    (λ t before. get_or-set_other ends s t n 0 (omega arith) ∙ h t before)
    (get_or-set_same ends s n 0 (omega arith) ∙ is)

pub sum_later : (edges : List Edge) (ends : List ℕ) (slots s n : ℕ) → ((t : ℕ) → s ≤ t → t < slots + 1 → ahead edges t (length edges) + get_or ends t 0 ≡ ahead edges t 0) → (t : ℕ) → s + 1 ≤ t → t < slots + 1 → ahead edges t (length edges) + get_or (set ends s n) t 0 ≡ ahead edges t 0
sum_later edges ends slots s n h t later below =
    let r : get_or (set ends s n) t 0 ≡ get_or ends t 0 = get_or-set_other ends s t n 0 (omega arith) in
    omega (arith, r, h t (omega arith) below)

-- the slot's count, and the sum with it
pub sum_here : (edges : List Edge) (ends : List ℕ) (slots s total n : ℕ) → s < slots + 1 → length ends ≡ slots + 1 → total ≡ ahead edges s (length edges) → n ≡ get_or ends s n → ((t : ℕ) → s ≤ t → t < slots + 1 → ahead edges t (length edges) + get_or ends t 0 ≡ ahead edges t 0) → total + n ≡ ahead edges s 0
sum_here edges ends slots s total n lt size is read h =
    let r : n ≡ get_or ends s 0 = read ∙ get_or_default ends s n 0 (omega arith) in
    omega (arith, r, h s (omega arith) lt)

-- ---- all links are placed

pub all_placed : (edges : List Edge) (slots : ℕ) (adjacent : Adjacent) → length adjacent.starts.items ≡ slots + 1 → length adjacent.links.items ≡ length edges → ((s : ℕ) → s < slots + 1 → get_or adjacent.starts.items s 0 ≡ ahead edges s (length edges)) → ((j : ℕ) → j < length edges → get_or adjacent.links.items (place_of_edge edges j) no_link ≡ link_of edges j) → All (λ e. e.from.0 < slots) edges → All (λ e. e.to.0 < slots) edges → AreAdjacent edges slots adjacent
all_placed edges slots adjacent size count starts placed froms tos =
    let start : (s : Slot) → s.0 < slots → start_of adjacent s ≡ ahead edges s.0 (length edges) = λ s lt. starts s.0 (omega arith) in
    let end : (s : Slot) → s.0 < slots → end_of adjacent s ≡ ahead edges s.0 0 = λ s lt. starts (s.0 + 1) (omega arith) ∙ ahead_next edges s.0 in
    record {
      size = size;
      within = λ s lt. omega (arith, end s lt, ahead_most edges s.0 0);
      links = λ s at lt low high.
          let f = place_found edges s.0 (length edges) at (omega arith) (let e = start s lt in omega (arith, e)) (let e = end s lt in omega (arith, e)) in
          linked s at f.0 f.1 f.2 f.3;
      all = λ k lt.
          let within : (from_of edges k).0 < slots = froms k no_edge lt in
          let h : ahead edges (from_of edges k).0 k ≡ place_of_edge edges k + 1 = ahead_here edges (from_of edges k).0 k lt refl in (
            place_of_edge edges k,
            record {
              from_start = omega (arith, start (from_of edges k) within, ahead_falls edges (from_of edges k).0 (k + 1) (length edges) (omega arith));
              to_end = omega (arith, end (from_of edges k) within, ahead_falls edges (from_of edges k).0 0 k (omega arith));
              edge = ap (λ (l : Link). l.edge) (placed k lt);
            },
          );
      tos = tos;
    }
  where
    linked : (s : Slot) (at k : ℕ) → k < length edges → (from_of edges k).0 ≡ s.0 → ahead edges s.0 (k + 1) ≡ at → IsLink edges s (link_at adjacent at)
    linked s at k lt same here =
        let is : link_at adjacent at ≡ link_of edges k = subst (λ p. link_at adjacent p ≡ link_of edges k) (subst (λ u. ahead edges u (k + 1) ≡ at) (sym same) here) (placed k lt) in
        subst (IsLink edges s) (sym is) (record { within = lt; source = same_slot (from_of edges k) s same; target = refl })
