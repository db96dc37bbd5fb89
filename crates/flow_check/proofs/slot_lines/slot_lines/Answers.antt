use Rattle.std.proofs.Common.{◌∙◌, ap, map}
use Rattle.sides.specs.declared.halves.Sides.{Sides}
use Rattle.typed_tree.specs.TypedView.{view_typed}
use Rattle.flow_check.proofs.LineLemmas.{kept_lines_are}
use Rattle.flow_check.proofs.slot_lines.slot_lines.Goals as goal

pub returns : goal.returns
returns c = record {
  accepted = c.args.accepted.now;
  is = c.requires;
  slots = map (λ s. s.slot) c.in_ok-shown.shown.items;
  shown = c.in_ok-shown.ensures;
  lines_are = c.in_ok-lines.ensures
      ∙ kept_lines_are (view_typed c.args.t.now) _ _ c.in_ok-shown.shown.items (c.as_slice-slots.ensures ∙ ap (λ (s : Sides). s.slots) c.sides.ensures ∙ c.requires.sides.slots) c.as_slice.ensures.value;
}
