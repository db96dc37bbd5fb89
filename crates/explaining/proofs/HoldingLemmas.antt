-- The lines that code writes are those of the slots that are shown.
use Rattle.std.proofs.Common.{◌≡◌, ◌∙◌, ℕ, List, map, sym}
use Rattle.std.specs.List.{flat_map}
use Rattle.std.proofs.lemmas.List.Folds.{flat_map-map}
use Rattle.sides.specs.declared.slots.SlotInfo.{SlotInfo}
use Rattle.sides.specs.Slots.{slots_of}
use Rattle.typed_tree.specs.TypedTree.{TypedTree}
use Rattle.flow_check.specs.declared.shown.ShownSlot.{ShownSlot}
use Rattle.explaining.specs.Holdings.{holding, kept_texts}

pub holdings_are : (name lines text : List ℕ) (t : TypedTree) (slots : List SlotInfo) (xs ys : List ShownSlot) → lines ≡ text → slots ≡ slots_of t → xs ≡ ys →
    kept_texts name lines t slots xs ≡ flat_map (holding name text t) (map (λ s. s.slot) ys)
holdings_are name lines text t slots xs ys is all same =
    (λ i. kept_texts name (is i) t (all i) (same i)) ∙ sym (flat_map-map (holding name text t) (λ (s : ShownSlot). s.slot) ys)
