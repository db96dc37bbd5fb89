use Rattle.std.proofs.Common.{◌∙◌, ap, map}
use Rattle.sides.specs.declared.halves.Sides.{Sides}
use Rattle.typed_tree.specs.TypedView.{view_typed}
use Rattle.explaining.proofs.HoldingLemmas.{holdings_are}
use Rattle.explaining.proofs.holdings.holding_lines.Goals as goal

pub returns : goal.returns
returns c = record {
  accepted = c.args.accepted.now;
  is = c.requires;
  slots = map (λ s. s.slot) c.in_ok-shown.shown.items;
  shown = c.in_ok-shown.ensures;
  lines_are = c.in_ok-text.ensures
      ∙ holdings_are c.args.name.now _ c.args.program.now (view_typed c.args.t.now) _ _ c.in_ok-shown.shown.items c.in_ok-lines.ensures
      (c.as_slice-slots.ensures ∙ ap (λ (s : Sides). s.slots) c.sides.ensures ∙ c.requires.sides.slots) c.as_slice.ensures.value;
}
