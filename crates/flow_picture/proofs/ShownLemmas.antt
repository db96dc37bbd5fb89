-- Which objects are shown: all, or of many those that may hold secrets.
use Rattle.std.proofs.Common.{◌≡◌, ◌<◌, ◌≤◌, ◌↔◌, Bool, List, ap, le-ltb, length, lt-ltb, subst, sym}
use Rattle.std.specs.Prelude.{if◌then◌else◌}
use Rattle.std.specs.List.{Contains, filter}
use Rattle.reach.proofs.ListLemmas.{contains_filter, from_filter}
use Rattle.sides.specs.declared.halves.Sides.{Sides}
use Rattle.typed_tree.specs.TypedTree.{TypedTree}
use Rattle.flow_picture.specs.declared.node.Node.{Node}
use Rattle.flow_picture.specs.Laws.{ObjectsAreShown}
use Rattle.flow_picture.specs.Nodes.{is_in}
use Rattle.flow_picture.specs.Objects.{AreNodes, HoldsSecret, IsObject, shown_of}
use Rattle.flow_picture.proofs.OrderLemmas.{node_tied, node_total}
use Rattle.flow_picture.proofs.SearchLemmas.{stands, stood}

module _ (objects secrets : List Node) where
  abbrev shown_by : Bool → List Node
  shown_by many = if many then filter (is_in secrets) objects else objects

  few_shown : length objects ≤ 2000 → shown_of objects secrets ≡ objects
  few_shown few = ap shown_by (le-ltb 2000 (length objects) few)

  many_shown : 2000 < length objects → shown_of objects secrets ≡ filter (is_in secrets) objects
  many_shown many = ap shown_by (lt-ltb 2000 (length objects) many)

  secret_ones : (t : TypedTree) (s : Sides) → AreNodes (IsObject t) objects → AreNodes (HoldsSecret t s) secrets → (x : Node) →
      Contains (filter (is_in secrets) objects) x ↔ (IsObject t x × HoldsSecret t s x)
  secret_ones t s are held x = (
    λ h. let m = from_filter (is_in secrets) objects x h in ((are.same x).0 m.0, (held.same x).0 (stands node_total node_tied secrets x m.1)),
    λ is. contains_filter (is_in secrets) objects x ((are.same x).1 is.0) (stood node_total secrets x ((held.same x).1 is.1)),
  )

pub objects_shown : ObjectsAreShown
objects_shown text t faults picture p x = (
  λ few. subst (λ (xs : List Node). Contains xs x ↔ IsObject t x) (sym (few_shown p.objects p.secrets few)) (p.objects_are.same x),
  λ many.
      subst (λ (xs : List Node). Contains xs x ↔ (IsObject t x × HoldsSecret t p.sides x)) (sym (many_shown p.objects p.secrets many))
      (secret_ones p.objects p.secrets t p.sides p.objects_are p.secrets_are x),
)
