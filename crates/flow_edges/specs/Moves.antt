-- Values that move, and the edges that they give.
use Rattle.std.specs.Prelude.{ℕ, ◌+◌, List, [], ◌∷◌, Bool, not, if◌then◌else◌, nat_eq}
use Rattle.std.specs.List.{filter, flat_map, range_with_len}
use Rattle.pt_base.specs.declared.slot.Edge.{Edge}
use Rattle.pt_base.specs.declared.span.Span.{Span}

-- each number once, where it stands first
abbrev pub first_of_each : List ℕ → List ℕ
first_of_each [] = []
first_of_each (x ∷ xs) = x ∷ filter (λ y. not (nat_eq y x)) (first_of_each xs)

-- A value that moves: from the slots that it carries to others, each by that of its first leaf. It has so
-- many leaves, and is at `span`. What a pointer points to may move back too.
pub record Move : Type 0 where
  pub from : List ℕ
  pub to : List ℕ
  pub leaves : ℕ
  pub back : Bool
  pub span : Span

abbrev pub edge_between : Span → ℕ → ℕ → Edge
edge_between span a b = record { from = record { 0 = a }; to = record { 0 = b }; span = span }

-- from one slot to another, and then back
abbrev pub edges_between : Move → ℕ → ℕ → List Edge
edges_between m a b = edge_between m.span a b ∷ (if m.back then edge_between m.span b a ∷ [] else [])

-- from the leaf j of what begins at this slot
abbrev pub edges_from : Move → ℕ → ℕ → List Edge
edges_from m j a = flat_map (λ b. edges_between m (a + j) (b + j)) m.to

abbrev pub leaf_edges : Move → ℕ → List Edge
leaf_edges m j = flat_map (edges_from m j) m.from

-- leaf by leaf, from each slot that is carried, in the order of the text, to each target
abbrev pub move_edges : Move → List Edge
move_edges m = flat_map (leaf_edges m) (range_with_len 0 m.leaves)
