use Rattle.std.proofs.Common.{◌∙◌, List, subst, sym}
use Rattle.std.specs.List.Sorted.{IsSorted}
use Rattle.flow_picture.specs.declared.node.Node.{Node}
use Rattle.flow_picture.specs.Nodes.{node_cmp}
use Rattle.flow_picture.specs.Objects.{shown_of}
use Rattle.flow_picture.proofs.PictureLemmas.{nodes_rise}
use Rattle.flow_picture.proofs.drawing.draw.Goals as goal

pub shown_of-requires : goal.shown_of-requires
shown_of-requires c = subst (λ (xs : List Node). IsSorted node_cmp xs) (sym c.as_slice.ensures.value) (nodes_rise c.args.objects.now.secrets.items c.requires.secrets.sorted)

pub picture_in-requires-clause-shown : goal.picture_in-requires-clause-shown
picture_in-requires-clause-shown c = c.as_slice-2.ensures.value ∙ c.in_ok-shown.ensures ∙ (λ i. shown_of (c.as_slice-all.ensures.value i) (c.as_slice.ensures.value i))
