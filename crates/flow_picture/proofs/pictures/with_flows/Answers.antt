-- What the rules answer, and what is drawn of it.
use Rattle.std.proofs.Common.{List, subst}
use Rattle.typed_tree.specs.TypedView.{view_typed}
use Rattle.flow_rules.specs.declared.fault.FlowFault.{FlowFault}
use Rattle.flow_picture.specs.Pictures.{IsPicture}
use Rattle.flow_picture.proofs.StageLemmas.{judged, objects_on}
use Rattle.flow_picture.proofs.pictures.with_flows.Goals as goal

pub draw-requires : goal.draw-requires
draw-requires c = objects_on (view_typed c.args.t.now) c.args.sides c.args.edges.now c.in_ok-objects.objects c.requires.edges c.in_ok-objects.ensures

pub returns : goal.returns
returns c =
    let t = view_typed c.args.t.now in (
      t,
      c.requires.tree,
      judged t c.args.sides c.args.edges.now c.args.marks c.requires.sides c.requires.edges c.requires.marks c.check_flows.result c.in_ok-faults.faults c.check_flows.ensures c.in_ok-faults.ensures,
      subst (λ (fs : List FlowFault). IsPicture c.args.program.now t fs c.in_ok-picture.picture.items) c.as_slice.ensures c.in_ok-picture.ensures,
    )
