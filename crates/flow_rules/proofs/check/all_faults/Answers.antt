use Rattle.std.proofs.Common.{◌∙◌, ap, length, subst, sym}
use Rattle.propagation.specs.Marks.{AreMarks}
use Rattle.typed_tree.specs.TypedView.{view_typed}
use Rattle.flow_rules.specs.Faults.{flows_of}
use Rattle.flow_rules.proofs.ToldLemmas.{faults_are}
use Rattle.flow_rules.proofs.PrivLemmas.{shown_priv}
use Rattle.flow_rules.proofs.check.all_faults.Goals as goal

pub invariant_of-flows : goal.invariant_of-flows
invariant_of-flows c = record {
  laid = c.requires.sides.layout;
  listed = c.requires.sides.slots;
  sized = c.requires.marks.size ∙ ap length (sym c.requires.sides.slots);
}

pub faults_of-requires-clause-secret : goal.faults_of-requires-clause-secret
faults_of-requires-clause-secret c =
    shown_priv (flows_of (view_typed c.args.t.now) c.args.sides.now c.args.marks.now) _ _ _ c.in_ok-list.ensures c.arrange.ensures.found c.as_slice-places.ensures.value

pub faults_of-requires-clause-marks : goal.faults_of-requires-clause-marks
faults_of-requires-clause-marks c =
    subst (λ n. AreMarks c.args.sides.now.seeds c.args.edges.now n c.args.marks.now) (ap length (sym c.requires.sides.slots)) c.requires.marks

pub returns : goal.returns
returns c =
    faults_are c.args.sides.now.seeds c.args.edges.now (flows_of (view_typed c.args.t.now) c.args.sides.now c.args.marks.now) _ _ _ _
    c.in_ok-list.ensures c.arrange.ensures.sorted c.arrange.ensures.found c.arrange.ensures.all c.as_slice-places.ensures.value c.in_ok-faults.ensures
