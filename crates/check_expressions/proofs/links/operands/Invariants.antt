use Rattle.std.proofs.Common.{◌≡◌, map}
use Rattle.typed_tree.specs.ExpressionTree.{view_link, view_operand}
use Rattle.check_expressions.specs.Links.{operand_of}
use Rattle.check_expressions.proofs.links.operands.Given as goal

abbrev pub invariant-loop-link : goal.invariant-loop-link
invariant-loop-link l = map view_operand l.operands.items ≡ map operand_of (map view_link l.yielded)
