-- The arrows that code gathers are those along which values move, and those on the ways of faults.
use Rattle.std.proofs.Common.{◌≡◌, ◌∙◌, refl, ap, sym, subst, Bool, true, false, List, [], ◌++◌}
use Rattle.std.specs.Prelude.{if◌then◌else◌}
use Rattle.std.specs.List.{Contains, flat_map}
use Rattle.std.specs.List.Sorted.{IsPermutation, IsStrictlySortedBy}
use Rattle.std.specs.Ordering.{is_eq}
use Rattle.std.proofs.lemmas.List.Sorted.{list_any-IsPermutation}
use Rattle.std.proofs.lemmas.Bool.{and_from}
use Rattle.pt_base.specs.declared.slot.Edge.{Edge}
use Rattle.pt_base.specs.declared.span.Span.{Span}
use Rattle.pt_base.proofs.Booleans.{and_parts}
use Rattle.pt_base.proofs.Members.{contains_nothing}
use Rattle.reach.proofs.ListLemmas.{contains_flat, from_flat}
use Rattle.sides.specs.declared.halves.Sides.{Sides}
use Rattle.sides.specs.Slots.{slots_of}
use Rattle.typed_tree.specs.TypedTree.{TypedTree}
use Rattle.flow_rules.specs.declared.fault.FlowFault.{FlowFault}
use Rattle.flow_rules.specs.Faults.{edges_of_all, span_cmp}
use Rattle.flow_picture.specs.declared.arrow.Arrow.{Arrow}
use Rattle.flow_picture.specs.declared.node.Node.{Node}
use Rattle.flow_picture.specs.Arrows.{AreArrows, IsArrow, IsStep, IsWay, Joins, arrow_cmp}
use Rattle.flow_picture.specs.Kept.{HasSame, arrow_of, drawn_arrows, edge_arrows, is_drawn, is_told, node_in, told_steps, way_arrows}
use Rattle.flow_picture.specs.Nodes.{is_in, nodes_of}
use Rattle.flow_picture.proofs.OrderLemmas.{node_tied, node_total, span_tied, span_total}
use Rattle.flow_picture.proofs.SameLemmas.{from_item, in_item}
use Rattle.flow_picture.proofs.SearchLemmas.{stands, stood}
use Rattle.flow_picture.proofs.SecretLemmas.{node_is}

-- ---- steps

from_steps : (faults : List FlowFault) (span : Span) → is_told (told_steps faults) span ≡ true → IsStep faults span
from_steps faults span h = from_flat (λ (f : FlowFault). f.path) faults span (stands span_total span_tied (told_steps faults) span h)

in_steps : (faults : List FlowFault) (span : Span) → IsStep faults span → is_told (told_steps faults) span ≡ true
in_steps faults span (f, there, step) = stood span_total (told_steps faults) span (contains_flat (λ (g : FlowFault). g.path) faults f span there step)

pub told_alike : (xs ys : List Span) → IsPermutation xs ys → (span : Span) → is_told ys span ≡ is_told xs span
told_alike xs ys moved span = sym (list_any-IsPermutation (λ x. is_eq (span_cmp x span)) xs ys moved)

pub ways_alike : (nodes shown : List Node) (told told' : List Span) (edges : List Edge) → ((span : Span) → is_told told span ≡ is_told told' span) →
    flat_map (way_arrows nodes shown told) edges ≡ flat_map (way_arrows nodes shown told') edges
ways_alike nodes shown told told' edges same =
    let alike : way_arrows nodes shown told ≡ way_arrows nodes shown told' = λ i e. if same e.span i then edge_arrows nodes shown e else [] in
    ap (λ (f : Edge → List Arrow). flat_map f edges) alike

-- the arrow of one more edge
pub way_on : (nodes shown : List Node) (told : List Span) (e : Edge) (a : Arrow) (s s' : List Arrow) → a ≡ arrow_of nodes e → is_told told e.span ≡ true → HasSame s' (s ++ drawn_arrows shown a) →
    HasSame s' (s ++ way_arrows nodes shown told e)
way_on nodes shown told e a s s' same is h =
    subst (λ (b : Bool). HasSame s' (s ++ (if b then edge_arrows nodes shown e else []))) (sym is) (subst (λ (x : Arrow). HasSame s' (s ++ drawn_arrows shown x)) same h)

module _ (t : TypedTree) (nodes shown : List Node) (en : nodes ≡ nodes_of (slots_of t)) where
  -- ---- one edge

  from_edge : (e : Edge) (x : Arrow) → Contains (edge_arrows nodes shown e) x → Joins t shown x e
  from_edge e x h =
      let one = from_item (is_drawn shown (arrow_of nodes e)) (arrow_of nodes e) x h in
      let two = and_parts (is_in shown (node_in nodes e.from.0)) (is_in shown (node_in nodes e.to.0)) one.0 in (
        sym (node_is t nodes en e.from.0) ∙ ap (λ (a : Arrow). a.from) one.1,
        sym (node_is t nodes en e.to.0) ∙ ap (λ (a : Arrow). a.to) one.1,
        (
          subst (λ (y : Node). Contains shown y) (ap (λ (a : Arrow). a.from) one.1) (stands node_total node_tied shown (node_in nodes e.from.0) two.0),
          subst (λ (y : Node). Contains shown y) (ap (λ (a : Arrow). a.to) one.1) (stands node_total node_tied shown (node_in nodes e.to.0) two.1),
        ),
      )

  in_edge : (e : Edge) (x : Arrow) → Joins t shown x e → Contains (edge_arrows nodes shown e) x
  in_edge e x (from, to, drawn) =
      let a : node_in nodes e.from.0 ≡ x.from = node_is t nodes en e.from.0 ∙ from in
      let b : node_in nodes e.to.0 ≡ x.to = node_is t nodes en e.to.0 ∙ to in
      let same : arrow_of nodes e ≡ x = λ i. record { from = a i; to = b i } in
      let first : is_in shown (node_in nodes e.from.0) ≡ true = subst (λ (y : Node). is_in shown y ≡ true) (sym a) (stood node_total shown x.from drawn.0) in
      let second : is_in shown (node_in nodes e.to.0) ≡ true = subst (λ (y : Node). is_in shown y ≡ true) (sym b) (stood node_total shown x.to drawn.1) in
      subst (λ (y : Arrow). Contains (edge_arrows nodes shown e) y) same
      (in_item (is_drawn shown (arrow_of nodes e)) (arrow_of nodes e) (and_from (is_in shown (node_in nodes e.from.0)) (is_in shown (node_in nodes e.to.0)) first second))

  from_way : (told : List Span) (e : Edge) (x : Arrow) → Contains (way_arrows nodes shown told e) x → (is_told told e.span ≡ true) × Joins t shown x e
  from_way told e x h = go (is_told told e.span) refl h
    where
      go : (b : Bool) → is_told told e.span ≡ b → Contains (if b then edge_arrows nodes shown e else []) x → (is_told told e.span ≡ true) × Joins t shown x e
      go true is i = (is, from_edge e x i)
      go false is i = absurd (contains_nothing x i)

  in_way : (told : List Span) (e : Edge) (x : Arrow) → is_told told e.span ≡ true → Joins t shown x e → Contains (way_arrows nodes shown told e) x
  in_way told e x is joins = subst (λ (b : Bool). Contains (if b then edge_arrows nodes shown e else []) x) (sym is) (in_edge e x joins)

  -- ---- all edges

  module _ (s : Sides) (edges : List Edge) (ee : edges ≡ edges_of_all t s) where
    pub arrows_are : (arrows : List Arrow) → IsStrictlySortedBy arrow_cmp arrows → HasSame arrows (flat_map (edge_arrows nodes shown) edges) → AreArrows (IsArrow t s shown) arrows
    arrows_are arrows up same =
        let own : HasSame arrows (flat_map (edge_arrows nodes shown) (edges_of_all t s)) = subst (λ (es : List Edge). HasSame arrows (flat_map (edge_arrows nodes shown) es)) ee same in record {
          sorted = up;
          same = λ x. (
            (λ h. let m = from_flat (edge_arrows nodes shown) (edges_of_all t s) x ((own x).0 h) in (m.0, m.1, from_edge m.0 x m.2)),
            (λ is. (own x).1 (contains_flat (edge_arrows nodes shown) (edges_of_all t s) is.0 x is.1 (in_edge is.0 x is.2))),
          );
        }

    pub ways_are : (faults : List FlowFault) (ways : List Arrow) → IsStrictlySortedBy arrow_cmp ways → HasSame ways (flat_map (way_arrows nodes shown (told_steps faults)) edges) →
        AreArrows (IsWay t s shown faults) ways
    ways_are faults ways up same =
        let own : HasSame ways (flat_map (way_arrows nodes shown (told_steps faults)) (edges_of_all t s)) =
        subst (λ (es : List Edge). HasSame ways (flat_map (way_arrows nodes shown (told_steps faults)) es)) ee same in record {
          sorted = up;
          same = λ x. (
            (λ h.
                let m = from_flat (way_arrows nodes shown (told_steps faults)) (edges_of_all t s) x ((own x).0 h) in
                let w = from_way (told_steps faults) m.0 x m.2 in (m.0, m.1, (w.1, from_steps faults m.0.span w.0))),
            (λ is. (own x).1 (contains_flat (way_arrows nodes shown (told_steps faults)) (edges_of_all t s) is.0 x is.1 (in_way (told_steps faults) is.0 x (in_steps faults is.0.span is.2.1) is.2.0))),
          );
        }
