use Rattle.std.proofs.Common.{◌≡◌, ◌++◌, [], map, subst}
use Rattle.std.specs.Result.{OnOk}
use Rattle.pt_tree.specs.StatementTree.{view_stmt}
use Rattle.half_trees.specs.Clearing.{cleared_behind}
use Rattle.half_trees.proofs.ClearingLemmas.{all_leaves}
use Rattle.half_trees.proofs.clearing.clear_integers.Goals as goal

pub returns : goal.returns
returns c =
    subst (λ ls. OnOk c.clear_object.result (map view_stmt c.clear_object.new.out.items ≡ map view_stmt c.args.out.now.items ++ cleared_behind c.args.v [] ls)) (all_leaves c.args.structs.now c.args.ty) c.clear_object.ensures
