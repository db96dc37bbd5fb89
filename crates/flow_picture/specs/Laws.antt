-- What holds of pictures.
use Rattle.std.specs.Prelude.{◌<◌, ◌≤◌, ◌↔◌, ℕ, List, [], length, IsTrue}
use Rattle.std.specs.List.{Contains}
use Rattle.typed_tree.specs.TypedTree.{TypedTree}
use Rattle.typed_tree.specs.WellFormed.{is_well_formed}
use Rattle.flow_law.specs.SlotsLaws.{HasFewSlots}
use Rattle.flow_rules.specs.declared.fault.FlowFault.{FlowFault}
use Rattle.flow_picture.specs.declared.node.Node.{Node}
use Rattle.flow_picture.specs.Objects.{HoldsSecret, IsObject, shown_of}
use Rattle.stages.specs.Climb.{Texts}
use Rattle.stages.specs.Commands.{AreCut, Climb, ComesTo}
use Rattle.flow_picture.specs.Pictures.{IsPicture, IsPictured, Picture}

-- what the first bytes of texts come to, one more than each may have, the whole texts come to
abbrev pub FirstBytesAreEnough : Type 0
FirstBytesAreEnough = (whole cut : Texts) (o : Climb Picture) → AreCut whole cut → ComesTo [] IsPictured cut o → ComesTo [] IsPictured whole o

-- each well formed program of at most 2^25 slots has a picture, whatever faults it is to show
abbrev pub ProgramsHavePictures : Type 0
ProgramsHavePictures = (text : List ℕ) (t : TypedTree) (faults : List FlowFault) → IsTrue (is_well_formed t) → HasFewSlots t → (picture : List ℕ) × IsPicture text t faults picture

-- where at most 2000 objects would be shown all are, and else exactly those of them that may hold secrets
abbrev pub ObjectsAreShown : Type 0
ObjectsAreShown = (text : List ℕ) (t : TypedTree) (faults : List FlowFault) (picture : List ℕ) (p : IsPicture text t faults picture) (x : Node) →
    (length p.objects ≤ 2000 → Contains (shown_of p.objects p.secrets) x ↔ IsObject t x)
    × (2000 < length p.objects → Contains (shown_of p.objects p.secrets) x ↔ (IsObject t x × HoldsSecret t p.sides x))
