-- Each program that has sides has a picture: what code gathers, in order.
use Rattle.std.proofs.Common.{◌≡◌, ℕ, List, length, refl, sym, subst}
use Rattle.std.specs.Cmp.{IsTotalOrder}
use Rattle.std.specs.List.{Contains, flat_map}
use Rattle.std.specs.declared.cmp.Ordering.{Ordering}
use Rattle.std.specs.declared.cmp.Ordering.TheVariants.{Equal}
use Rattle.pt_base.proofs.SortedLists.{ascending, ascends, from_ascending, in_ascending}
use Rattle.propagation.specs.Marks.{AreMarks, Shown}
use Rattle.flow_law.proofs.MarkLemmas.{marks_exist}
use Rattle.sides.specs.declared.halves.Sides.{Sides}
use Rattle.sides.specs.Placed.{AreSides}
use Rattle.sides.specs.Slots.{slots_of}
use Rattle.flow_law.proofs.SlotsAllSides.{sides_exist}
use Rattle.typed_tree.specs.TypedTree.{TypedTree}
use Rattle.flow_rules.specs.declared.fault.FlowFault.{FlowFault}
use Rattle.flow_rules.specs.Faults.{edges_of_all}
use Rattle.flow_picture.specs.declared.arrow.Arrow.{Arrow}
use Rattle.flow_picture.specs.declared.node.Node.{Node}
use Rattle.flow_picture.specs.Arrows.{AreArrows, IsArrow, IsWay, arrow_cmp}
use Rattle.flow_picture.specs.Kept.{HasSame, edge_arrows, object_nodes, secrets_from, seed_nodes, told_steps, way_arrows}
use Rattle.flow_picture.specs.Laws.{ProgramsHavePictures}
use Rattle.flow_picture.specs.Nodes.{node_at, node_cmp, nodes_of}
use Rattle.flow_picture.specs.Objects.{AreNodes, BeginsSecret, HoldsSecret, IsObject, shown_of}
use Rattle.flow_picture.specs.Pictures.{IsPicture}
use Rattle.flow_picture.specs.PictureText.{picture_text}
use Rattle.flow_picture.proofs.ArrowLemmas.{arrows_are, ways_are}
use Rattle.flow_picture.proofs.ObjectLemmas.{objects_are}
use Rattle.flow_picture.proofs.OrderLemmas.{arrow_tied, arrow_total, node_tied, node_total}
use Rattle.flow_picture.proofs.SameLemmas.{same_itself}
use Rattle.flow_picture.proofs.SecretLemmas.{secrets_are, seeds_are}

-- ---- in order

-- where what ties is the same, an ascending list has all members of the list
in_order : {X : Type 0} (R : X → X → Ordering) → IsTotalOrder R → ((x y : X) → R x y ≡ Equal → x ≡ y) → (xs : List X) → HasSame (ascending R xs) xs
in_order {X} R total tied xs = λ x. (
  from_ascending R xs x,
  λ h. let m = in_ascending R total xs x h in subst (λ (y : X). Contains (ascending R xs) y) (sym (tied x m.0 m.2)) m.1,
)

nodes_in_order : (xs : List Node) → HasSame (ascending node_cmp xs) xs
nodes_in_order xs = in_order node_cmp node_total node_tied xs

arrows_in_order : (xs : List Arrow) → HasSame (ascending arrow_cmp xs) xs
arrows_in_order xs = in_order arrow_cmp arrow_total arrow_tied xs

-- ---- what is shown of a program

module _ (t : TypedTree) (s : Sides) (are : AreSides t s) where
  objects_exist : (objects : List Node) × AreNodes (IsObject t) objects
  objects_exist =
      let all : List Node = object_nodes t s.owned s.slave in
      (ascending node_cmp all, objects_are t s are s.owned s.slave all (ascending node_cmp all) refl refl refl (nodes_in_order all) (ascends node_cmp node_total all))

  seeds_exist : (seeds : List Node) × AreNodes (BeginsSecret t) seeds
  seeds_exist =
      let all : List Node = flat_map (seed_nodes t (nodes_of (slots_of t))) s.seeds in
      (ascending node_cmp all, seeds_are t s are (nodes_of (slots_of t)) refl s.seeds all (ascending node_cmp all) refl (same_itself all) (nodes_in_order all) (ascends node_cmp node_total all))

  secrets_exist : (marks : Shown) → AreMarks s.seeds (edges_of_all t s) (length (slots_of t)) marks → (secrets : List Node) × AreNodes (HoldsSecret t s) secrets
  secrets_exist marks marked =
      let all : List Node = secrets_from t marks 0 (nodes_of (slots_of t)) in
      (ascending node_cmp all, secrets_are t marks s marked (nodes_of (slots_of t)) refl all (ascending node_cmp all) (same_itself all) (nodes_in_order all) (ascends node_cmp node_total all))

  arrows_exist : (shown : List Node) → (arrows : List Arrow) × AreArrows (IsArrow t s shown) arrows
  arrows_exist shown =
      let all : List Arrow = flat_map (edge_arrows (nodes_of (slots_of t)) shown) (edges_of_all t s) in
      (ascending arrow_cmp all, arrows_are t (nodes_of (slots_of t)) shown refl s (edges_of_all t s) refl (ascending arrow_cmp all) (ascends arrow_cmp arrow_total all) (arrows_in_order all))

  ways_exist : (shown : List Node) (faults : List FlowFault) → (ways : List Arrow) × AreArrows (IsWay t s shown faults) ways
  ways_exist shown faults =
      let all : List Arrow = flat_map (way_arrows (nodes_of (slots_of t)) shown (told_steps faults)) (edges_of_all t s) in
      (ascending arrow_cmp all, ways_are t (nodes_of (slots_of t)) shown refl s (edges_of_all t s) refl faults (ascending arrow_cmp all) (ascends arrow_cmp arrow_total all) (arrows_in_order all))

-- ---- the picture

pub picture_exists : (text : List ℕ) (t : TypedTree) (s : Sides) → AreSides t s → (marks : Shown) → AreMarks s.seeds (edges_of_all t s) (length (slots_of t)) marks →
    (faults : List FlowFault) → (picture : List ℕ) × IsPicture text t faults picture
picture_exists text t s are marks marked faults =
    let objects = objects_exist t s are in
    let secrets = secrets_exist t s are marks marked in
    let seeds = seeds_exist t s are in
    let arrows = arrows_exist t s are (shown_of objects.0 secrets.0) in
    let ways = ways_exist t s are (shown_of objects.0 secrets.0) faults in (
      picture_text text (node_at t) t (length objects.0) (shown_of objects.0 secrets.0) secrets.0 seeds.0 arrows.0 ways.0 faults,
      record {
        sides = s;
        placed = are;
        objects = objects.0;
        objects_are = objects.1;
        secrets = secrets.0;
        secrets_are = secrets.1;
        seeds = seeds.0;
        seeds_are = seeds.1;
        arrows = arrows.0;
        arrows_are = arrows.1;
        ways = ways.0;
        ways_are = ways.1;
        text_is = refl;
      },
    )

pub programs_drawn : ProgramsHavePictures
programs_drawn text t faults sound few =
    let sides = sides_exist t sound few in
    let marks = marks_exist sides.0.seeds (edges_of_all t sides.0) (length (slots_of t)) in
    picture_exists text t sides.0 sides.1 marks.0 marks.1 faults
