-- What is written is in order, and is what there is.
use Rattle.std.proofs.Common.{List, subst, sym}
use Rattle.std.specs.List.Sorted.{IsSorted}
use Rattle.typed_tree.specs.TypedView.{view_typed}
use Rattle.flow_picture.specs.declared.arrow.Arrow.{Arrow}
use Rattle.flow_picture.specs.Arrows.{arrow_cmp}
use Rattle.flow_picture.proofs.PictureLemmas.{arrows_rise, is_picture, nodes_rise, shown_rise}
use Rattle.flow_picture.proofs.drawing.picture_in.Goals as goal

pub arrows_of-requires : goal.arrows_of-requires
arrows_of-requires c = shown_rise (view_typed c.args.t.now) c.args.edges.now c.args.objects.now c.args.shown.now c.requires.objects c.requires.shown

pub ways_of-requires : goal.ways_of-requires
ways_of-requires c = shown_rise (view_typed c.args.t.now) c.args.edges.now c.args.objects.now c.args.shown.now c.requires.objects c.requires.shown

pub text_in-requires-clause-shown : goal.text_in-requires-clause-shown
text_in-requires-clause-shown c = shown_rise (view_typed c.args.t.now) c.args.edges.now c.args.objects.now c.args.shown.now c.requires.objects c.requires.shown

pub text_in-requires-clause-secrets : goal.text_in-requires-clause-secrets
text_in-requires-clause-secrets c = nodes_rise c.args.objects.now.secrets.items c.requires.objects.secrets.sorted

pub text_in-requires-clause-seeds : goal.text_in-requires-clause-seeds
text_in-requires-clause-seeds c = nodes_rise c.args.objects.now.seeds.items c.requires.objects.seeds.sorted

pub text_in-requires-clause-ways : goal.text_in-requires-clause-ways
text_in-requires-clause-ways c = subst (λ (xs : List Arrow). IsSorted arrow_cmp xs) (sym c.as_slice-2.ensures.value) (arrows_rise c.in_ok-ways.ways.items c.in_ok-ways.ensures.sorted)

pub returns : goal.returns
returns c =
    let t = view_typed c.args.t.now in
    is_picture c.args.program.now t c.args.edges.now c.args.objects.now c.requires.objects c.args.faults.now c.as_slice-nodes.result.now c.args.shown.now
    c.in_ok-arrows.arrows.items c.in_ok-ways.ways.items _ _ _ c.in_ok-text.text.items
    c.as_slice-nodes.ensures.value c.requires.shown c.in_ok-arrows.ensures.sorted c.in_ok-arrows.ensures.same c.in_ok-ways.ensures.sorted c.in_ok-ways.ensures.same
    c.as_slice.ensures.value c.as_slice-2.ensures.value c.in_ok-lines.ensures c.in_ok-text.ensures
