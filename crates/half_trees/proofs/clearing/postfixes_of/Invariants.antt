use Rattle.std.proofs.Common.{◌≡◌, ◌++◌, drop, map}
use Rattle.pt_tree.specs.ExpressionTree.{view_postfix}
use Rattle.half_trees.specs.Clearing.{steps}
use Rattle.half_trees.proofs.clearing.postfixes_of.Given as goal

-- the postfixes so far, and then the others, are all of them
abbrev pub invariant-loop-step : goal.invariant-loop-step
invariant-loop-step l = map view_postfix l.postfixes.items ++ steps l.structs (drop l.step-index l.path) ≡ steps l.structs l.path
