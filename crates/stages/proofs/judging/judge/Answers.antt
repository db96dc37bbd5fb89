-- What the rules are asked, and what they answer.
use Rattle.std.proofs.Common.{◌∙◌, length, subst, sym, List}
use Rattle.pt_base.specs.declared.slot.Edge.{Edge}
use Rattle.propagation.specs.Marks.{AreMarks}
use Rattle.sides.specs.Slots.{slots_of}
use Rattle.typed_tree.specs.TypedView.{view_typed}
use Rattle.flow_rules.specs.Faults.{Answers}
use Rattle.stages.proofs.JudgeLemmas.{judged}
use Rattle.stages.proofs.judging.judge.Goals as goal

pub check_flows-requires-clause-edges : goal.check_flows-requires-clause-edges
check_flows-requires-clause-edges g c = c.as_slice.ensures ∙ c.in_ok-traced.ensures.edges

pub check_flows-requires-clause-marks : goal.check_flows-requires-clause-marks
check_flows-requires-clause-marks g c =
    let x = c.in_ok-traced.traced in
    subst (λ (es : List Edge). AreMarks x.sides.seeds es (length (slots_of (view_typed c.args.t.now))) x.marks) (sym c.as_slice.ensures) c.in_ok-traced.ensures.marks

pub returns : goal.returns
returns g c =
    let t = view_typed c.args.t.now in
    let x = c.in_ok-traced.traced in
    let are = c.in_ok-traced.ensures in
    judged t x.sides x.edges x.marks c.check_flows.result are.sides are.edges are.marks
    (subst (λ (es : List Edge). Answers t x.sides es x.marks c.check_flows.result) c.as_slice.ensures c.check_flows.ensures)
