use Rattle.pt_tree.proofs.ListsInTrees.{view_structure}
use Rattle.pt_tree.proofs.specifier.Spec.structure.Goals as goal

pub returns : goal.returns
returns c = view_structure c.args.span c.args.tag c.args.fields
