-- What code writes is the picture of the program.
use Rattle.std.proofs.Common.{◌≡◌, ◌∙◌, ℕ, List, length, subst, sym}
use Rattle.std.specs.List.{flat_map, filter}
use Rattle.std.specs.List.Sorted.{IsSorted, IsStrictlySortedBy}
use Rattle.std.specs.Prelude.{Bool, true, false, if◌then◌else◌}
use Rattle.std.proofs.lemmas.List.Kept.{IsStrictlySortedBy-filter}
use Rattle.pt_base.specs.declared.slot.Edge.{Edge}
use Rattle.typed_tree.specs.TypedTree.{TypedTree}
use Rattle.flow_rules.specs.declared.fault.FlowFault.{FlowFault}
use Rattle.flow_picture.specs.declared.arrow.Arrow.{Arrow}
use Rattle.flow_picture.specs.declared.node.Node.{Node}
use Rattle.flow_picture.specs.declared.objects.Objects.{Objects}
use Rattle.flow_picture.specs.Arrows.{AreArrows, IsArrow, IsWay, arrow_cmp}
use Rattle.flow_picture.specs.Kept.{AreObjects, HasSame, edge_arrows, node_in, told_steps, way_arrows}
use Rattle.flow_picture.specs.Nodes.{is_in, node_at, node_cmp}
use Rattle.flow_picture.specs.Objects.{are_many, shown_of}
use Rattle.flow_picture.specs.Pictures.{IsPicture}
use Rattle.flow_picture.specs.PictureText.{picture_text}
use Rattle.flow_picture.proofs.ArrowLemmas.{arrows_are, ways_are}
use Rattle.flow_picture.proofs.OrderLemmas.{arrow_total, node_total, rises}
use Rattle.flow_picture.proofs.SecretLemmas.{node_is}

-- ---- order

pub nodes_rise : (nodes : List Node) → IsStrictlySortedBy node_cmp nodes → IsSorted node_cmp nodes
nodes_rise nodes up = rises node_total nodes up

pub arrows_rise : (arrows : List Arrow) → IsStrictlySortedBy arrow_cmp arrows → IsSorted arrow_cmp arrows
arrows_rise arrows up = rises arrow_total arrows up

shown_sorted : (objects secrets : List Node) → IsStrictlySortedBy node_cmp objects → IsStrictlySortedBy node_cmp (shown_of objects secrets)
shown_sorted objects secrets up = go (are_many (length objects))
  where
    go : (b : Bool) → IsStrictlySortedBy node_cmp (if b then filter (is_in secrets) objects else objects)
    go true = IsStrictlySortedBy-filter node_cmp (is_in secrets) objects up
    go false = up

-- those that are shown
pub shown_rise : (t : TypedTree) (edges : List Edge) (o : Objects) (shown : List Node) → AreObjects t edges o → shown ≡ shown_of o.all.items o.secrets.items → IsSorted node_cmp shown
shown_rise t edges o shown are is = nodes_rise shown (subst (λ (xs : List Node). IsStrictlySortedBy node_cmp xs) (sym is) (shown_sorted o.all.items o.secrets.items are.all.sorted))

-- ---- the picture

module _ (text : List ℕ) (t : TypedTree) (edges : List Edge) (o : Objects) (are : AreObjects t edges o) where
  node_same : node_in o.nodes.items ≡ node_at t
  node_same = λ i n. node_is t o.nodes.items are.nodes n i

  pub is_picture : (faults : List FlowFault) (nodes shown : List Node) (arrows ways arrow_list way_list : List Arrow) (lines picture : List ℕ) → nodes ≡ o.nodes.items → shown ≡ shown_of o.all.items o.secrets.items →
      IsStrictlySortedBy arrow_cmp arrows → HasSame arrows (flat_map (edge_arrows nodes shown) edges) →
      IsStrictlySortedBy arrow_cmp ways → HasSame ways (flat_map (way_arrows nodes shown (told_steps faults)) edges) → arrow_list ≡ arrows → way_list ≡ ways → lines ≡ text →
      picture ≡ picture_text lines (node_in o.nodes.items) t (length o.all.items) shown o.secrets.items o.seeds.items arrow_list way_list faults → IsPicture text t faults picture
  is_picture faults nodes shown arrows ways arrow_list way_list lines picture en es up same up' same' ea ew el is = record {
    sides = are.sides;
    placed = are.placed;
    objects = o.all.items;
    objects_are = are.all;
    secrets = o.secrets.items;
    secrets_are = are.secrets;
    seeds = o.seeds.items;
    seeds_are = are.seeds;
    arrows = arrows;
    arrows_are = subst (λ (xs : List Node). AreArrows (IsArrow t are.sides xs) arrows) es (arrows_are t nodes shown (en ∙ are.nodes) are.sides edges are.edges_are arrows up same);
    ways = ways;
    ways_are = subst (λ (xs : List Node). AreArrows (IsWay t are.sides xs faults) ways) es (ways_are t nodes shown (en ∙ are.nodes) are.sides edges are.edges_are faults ways up' same');
    text_is = is ∙ (λ i. picture_text (el i) (node_same i) t (length o.all.items) (es i) o.secrets.items o.seeds.items (ea i) (ew i) faults);
  }
