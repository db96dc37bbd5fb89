use Rattle.std.proofs.Common.{◌≡◌, ◌++◌, ◌-◌, map}
use Rattle.std.specs.List.{range_with_len}
use Rattle.pt_core.specs.CodeTree.{view_place}
use Rattle.pt_tree.specs.StatementTree.{view_stmt}
use Rattle.half_trees.specs.Expressions.{place_tree}
use Rattle.half_trees.specs.Statements.{element_copied}
use Rattle.half_trees.specs.Views.{view_scope}
use Rattle.half_trees.proofs.statements.push_elements.Given as goal

-- the elements so far, and then the others, are all of them
abbrev pub invariant-loop-n : goal.invariant-loop-n
invariant-loop-n l =
    map view_stmt l.out.items ++ map (element_copied (place_tree (view_scope l.scope) (view_place l.to)) (place_tree (view_scope l.scope) (view_place l.of))) (range_with_len l.n (l.count - l.n))
    ≡ map view_stmt l.fn.out.items ++ map (element_copied (place_tree (view_scope l.scope) (view_place l.to)) (place_tree (view_scope l.scope) (view_place l.of))) (range_with_len 0 l.count)
