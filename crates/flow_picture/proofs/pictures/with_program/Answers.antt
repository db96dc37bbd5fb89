-- What the rules are asked.
use Rattle.std.proofs.Common.{◌∙◌, length, subst, sym, List}
use Rattle.pt_base.specs.declared.slot.Edge.{Edge}
use Rattle.propagation.specs.Marks.{AreMarks}
use Rattle.sides.specs.Slots.{slots_of}
use Rattle.typed_tree.specs.TypedView.{view_typed}
use Rattle.flow_picture.proofs.pictures.with_program.Goals as goal

pub with_flows-requires-clause-edges : goal.with_flows-requires-clause-edges
with_flows-requires-clause-edges g c = c.as_slice.ensures ∙ c.in_ok-traced.ensures.edges

pub with_flows-requires-clause-marks : goal.with_flows-requires-clause-marks
with_flows-requires-clause-marks g c =
    let x = c.in_ok-traced.traced in
    subst (λ (es : List Edge). AreMarks x.sides.seeds es (length (slots_of (view_typed c.args.t.now))) x.marks) (sym c.as_slice.ensures) c.in_ok-traced.ensures.marks
