-- What drawing a text comes to.
use Rattle.std.specs.Prelude.{◌≡◌, ℕ, List, [], ◌∷◌, length}
use Rattle.front_end.specs.Reading.{HasTypedTree}
use Rattle.sides.specs.declared.halves.Sides.{Sides}
use Rattle.sides.specs.Placed.{AreSides}
use Rattle.typed_tree.specs.TypedTree.{TypedTree}
use Rattle.flow_rules.specs.declared.accepted.Accepted.{Accepted}
use Rattle.flow_rules.specs.declared.fault.FlowFault.{FlowFault}
use Rattle.flow_rules.specs.Faults.{IsAccepted}
use Rattle.stages.specs.Climb.{Texts}
use Rattle.stages.specs.FlowFaults.{HasFlowFaults}
use Rattle.flow_picture.specs.declared.arrow.Arrow.{Arrow}
use Rattle.flow_picture.specs.declared.node.Node.{Node}
use Rattle.flow_picture.specs.Arrows.{AreArrows, IsArrow, IsWay}
use Rattle.flow_picture.specs.Nodes.{node_at}
use Rattle.flow_picture.specs.Objects.{AreNodes, BeginsSecret, HoldsSecret, IsObject, shown_of}
use Rattle.flow_picture.specs.PictureText.{picture_text}

-- the flows of a program with these faults
pub record IsPicture (text : List ℕ) (t : TypedTree) (faults : List FlowFault) (picture : List ℕ) : Type 0 where
  pub sides : Sides
  pub placed : AreSides t sides
  -- all objects that would be shown, those that may hold secrets, and those in which secrets begin
  pub objects : List Node
  pub objects_are : AreNodes (IsObject t) objects
  pub secrets : List Node
  pub secrets_are : AreNodes (HoldsSecret t sides) secrets
  pub seeds : List Node
  pub seeds_are : AreNodes (BeginsSecret t) seeds
  -- the arrows between those that are shown, and those of them that are on the way of a fault
  pub arrows : List Arrow
  pub arrows_are : AreArrows (IsArrow t sides (shown_of objects secrets)) arrows
  pub ways : List Arrow
  pub ways_are : AreArrows (IsWay t sides (shown_of objects secrets) faults) ways
  pub text_is : picture ≡ picture_text text (node_at t) t (length objects) (shown_of objects secrets) secrets seeds arrows ways faults

-- these are the faults of the program's flows; there are none where it breaks no rule
abbrev pub AreJudged : TypedTree → List FlowFault → Type 0
AreJudged t [] = (a : Accepted) × IsAccepted t a
AreJudged t (f ∷ fs) = HasFlowFaults t (f ∷ fs)

-- A picture, and the faults of flows that it shows.
pub record Picture : Type 0 where
  pub faults : List FlowFault
  pub picture : List ℕ

-- the program has a typed tree, these are the faults of its flows, and it is the picture with them
abbrev pub IsPictured : Texts → Picture → Type 0
IsPictured t p = (tree : TypedTree) × HasTypedTree t.program tree × AreJudged tree p.faults × IsPicture t.program tree p.faults p.picture
