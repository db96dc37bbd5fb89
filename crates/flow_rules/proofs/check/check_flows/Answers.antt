use Rattle.std.proofs.Common.{◌<◌, List, arith, length, refl, subst, sym}
use Rattle.pt_base.specs.declared.slot.Edge.{Edge}
use Rattle.propagation.specs.Marks.{AreMarks}
use Rattle.sides.specs.Slots.{slots_of}
use Rattle.typed_tree.specs.TypedView.{view_typed}
use Rattle.flow_rules.specs.declared.fault.FlowFault.{FlowFault}
use Rattle.flow_rules.specs.Faults.{AreFaults, flows_of}
use Rattle.flow_rules.proofs.ToldLemmas.{none_told}
use Rattle.flow_rules.proofs.check.check_flows.Goals as goal

pub returns-then-is_empty : goal.returns-then-is_empty
returns-then-is_empty c = (
  record {
    sides = c.requires.sides;
    marks = subst (λ (es : List Edge). AreMarks c.args.sides.seeds es (length (slots_of (view_typed c.args.t.now))) c.args.marks) c.requires.edges c.requires.marks;
    faultless = none_told (flows_of (view_typed c.args.t.now) c.args.sides c.args.marks) c.args.sides.seeds c.args.edges.now _ (grind arith) c.in_ok-faults.ensures;
  },
  (refl, refl),
)

pub returns-else-is_empty : goal.returns-else-is_empty
returns-else-is_empty c =
    let some : 0 < length c.in_ok-faults.faults.items = grind arith in
    subst (λ (fs : List FlowFault). AreFaults (flows_of (view_typed c.args.t.now) c.args.sides c.args.marks) c.args.sides.seeds c.args.edges.now fs × (0 < length fs))
    (sym c.new.ensures) (c.in_ok-faults.ensures, some)
