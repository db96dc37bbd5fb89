use Rattle.std.proofs.Common.{◌≡◌, map}
use Rattle.pt_core.specs.CodeTree.{view_place}
use Rattle.half_trees.specs.Expressions.{place_tree}
use Rattle.half_trees.specs.Statements.{element_copied}
use Rattle.half_trees.specs.Views.{view_scope}
use Rattle.half_trees.proofs.ClearingLemmas.{element_more}
use Rattle.half_trees.proofs.statements.push_elements.Goals as goal

pub loop-n-preserved : goal.loop-n-preserved
loop-n-preserved c =
    element_more (element_copied (place_tree (view_scope c.args.scope.now) (view_place c.args.to.now)) (place_tree (view_scope c.args.scope.now) (view_place c.args.of.now)))
    c.loop-n.n c.args.count _ _ _ c.loop-n-test.true c.in_ok-push_element.ensures c.loop-n.invariant
