use Rattle.std.proofs.Common.{◌∙◌, [], ap, get_or}
use Rattle.typed_tree.specs.TypedView.{view_typed}
use Rattle.sides.proofs.LayoutLemmas.{variables_at}
use Rattle.sides.proofs.layout.Layout.variables_of.Goals as goal

pub returns : goal.returns
returns c = c.objects_at.ensures ∙ ap (λ xs. get_or xs c.args.f.0 []) c.requires.variables ∙ variables_at (view_typed c.args.t.now) c.args.f.0
