-- The lines that code writes are those of the slots.
use Rattle.std.proofs.Common.{◌≡◌, ◌∙◌, List, map, ap, sym}
use Rattle.std.specs.List.{flat_map}
use Rattle.std.proofs.lemmas.List.Folds.{flat_map-map}
use Rattle.sides.specs.declared.slots.SlotInfo.{SlotInfo}
use Rattle.sides.specs.Slots.{slots_of}
use Rattle.typed_tree.specs.TypedTree.{TypedTree}
use Rattle.flow_check.specs.declared.shown.ShownSlot.{ShownSlot}
use Rattle.flow_check.specs.Kept.{kept_lines}
use Rattle.flow_check.specs.SlotLines.{slot_line}

pub kept_lines_are : (t : TypedTree) (slots : List SlotInfo) (xs ys : List ShownSlot) → slots ≡ slots_of t → xs ≡ ys → kept_lines t slots xs ≡ flat_map (slot_line t) (map (λ s. s.slot) ys)
kept_lines_are t slots xs ys all same =
    ap (λ (ss : List SlotInfo). kept_lines t ss xs) all ∙ ap (kept_lines t (slots_of t)) same ∙ sym (flat_map-map (slot_line t) (λ (s : ShownSlot). s.slot) ys)
