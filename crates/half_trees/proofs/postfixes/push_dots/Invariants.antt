use Rattle.std.proofs.Common.{◌≡◌, ◌++◌, drop, map}
use Rattle.pt_tree.specs.ExpressionTree.{view_postfix}
use Rattle.half_trees.specs.Expressions.{dots}
use Rattle.half_trees.proofs.postfixes.push_dots.Given as goal

-- the fields so far, and then the others, are all of them
abbrev pub invariant-loop-k : goal.invariant-loop-k
invariant-loop-k l = map view_postfix l.postfixes.items ++ dots l.structs l.at (drop l.k-index l.path) ≡ map view_postfix l.fn.postfixes.items ++ dots l.structs l.fn.ty l.path
