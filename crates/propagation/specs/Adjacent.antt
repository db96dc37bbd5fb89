-- The edges from each slot, side by side.
use Rattle.std.specs.Prelude.{◌≡◌, ◌<◌, ◌≤◌, ◌+◌, ◌-◌, ℕ, zero, suc, List, [], ◌∷◌, length, min, slice_index, slice_index_or, All}
use Rattle.pt_base.specs.declared.slot.Slot.{Slot}
use Rattle.pt_base.specs.declared.slot.Edge.{Edge}
use Rattle.propagation.specs.declared.adjacent.Adjacent.{Adjacent}
use Rattle.propagation.specs.declared.adjacent.Link.{Link}
use Rattle.propagation.specs.Paths.{from_of, to_of}

-- 1 for a slot's number below the bound, else 0
abbrev pub one_if_below : ℕ → Slot → ℕ
one_if_below bound s = min 1 (bound - s.0)

-- how many edges there are from slots numbered below `s`, and from `s` itself not counting those numbered below `k`
abbrev pub ahead : List Edge → ℕ → ℕ → ℕ
ahead [] s k = 0
ahead (e ∷ edges) s zero = one_if_below (suc s) e.from + ahead edges s zero
ahead (e ∷ edges) s (suc k) = one_if_below s e.from + ahead edges s k

-- for each slot up to and with `slots`, how many edges there are from it and those before it
pub record AreEnds (edges : List Edge) (slots : ℕ) (ends : List ℕ) : Type 0 where
  pub size : length ends ≡ slots + 1
  pub sums : (s : ℕ) → s < slots + 1 → slice_index ends s ≡ ahead edges s 0

-- no link, for numbers past the end
abbrev pub no_link : Link
no_link = record { to = 0; edge = 0 }

abbrev pub link_at : Adjacent → ℕ → Link
link_at adjacent at = slice_index_or adjacent.links.items at no_link

-- where the slot's links begin, and where they end: there those of the next slot begin
abbrev pub start_of : Adjacent → Slot → ℕ
start_of adjacent s = slice_index adjacent.starts.items s.0

abbrev pub end_of : Adjacent → Slot → ℕ
end_of adjacent s = slice_index adjacent.starts.items (s.0 + 1)

-- the link tells of an edge from the slot
pub record IsLink (edges : List Edge) (slot : Slot) (link : Link) : Type 0 where
  pub within : link.edge < length edges
  pub source : from_of edges link.edge ≡ slot
  pub target : link.to ≡ (to_of edges link.edge).0

-- the place holds the link of the edge with this number, among those of its slot
pub record Holds (edges : List Edge) (adjacent : Adjacent) (k at : ℕ) : Type 0 where
  pub from_start : start_of adjacent (from_of edges k) ≤ at
  pub to_end : at < end_of adjacent (from_of edges k)
  pub edge : (link_at adjacent at).edge ≡ k

-- the edges between so many slots: each slot's links are of edges from it, and each edge has its link
pub record AreAdjacent (edges : List Edge) (slots : ℕ) (adjacent : Adjacent) : Type 0 where
  pub size : length adjacent.starts.items ≡ slots + 1
  pub within : (s : Slot) → s.0 < slots → end_of adjacent s ≤ length adjacent.links.items
  pub links : (s : Slot) (at : ℕ) → s.0 < slots → start_of adjacent s ≤ at → at < end_of adjacent s → IsLink edges s (link_at adjacent at)
  pub all : (k : ℕ) → k < length edges → (at : ℕ) × Holds edges adjacent k at
  pub tos : All (λ e. e.to.0 < slots) edges
