use Rattle.std.proofs.Common.{◌≡◌, ◌++◌, drop, map}
use Rattle.pt_tree.specs.ExpressionTree.{view_expr}
use Rattle.half_trees.specs.Declarations.{cell_tree}
use Rattle.half_trees.proofs.initials.cells_init.Given as goal

-- the cells so far, and then the others, are all of them
abbrev pub invariant-loop-cell : goal.invariant-loop-cell
invariant-loop-cell l = map view_expr l.items.items ++ map cell_tree (drop l.cell-index l.cells) ≡ map cell_tree l.cells
