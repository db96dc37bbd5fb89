use Rattle.std.proofs.Common.{◌≡◌, ◌+◌, ◌-◌, ◌*◌, ◌<◌, ◌≤◌, length}
use Rattle.c_grammar.specs.declared.symbol.Symbol.TheVariants as s
use Rattle.c_grammar.specs.Machine.{gives}
use Rattle.c_parser.specs.Parses.{Repeats}
use Rattle.c_parser.specs.Parts.{of_exprs, of_links, of_postfixes}
use Rattle.c_parser.specs.Levels.{tail_of, number_of}
use Rattle.c_parser.specs.Climbing.{EndsBelow}
use Rattle.c_parser.proofs.Climbing.{Climbs}
use Rattle.pt_tree.specs.ExpressionTree.{view_expr}
use Rattle.c_parser.proofs.expressions.+expressions.Given as goal

abbrev pub decreases-expression : goal.decreases-expression
decreases-expression l = 64 * (200 - l.depth) + 0

abbrev pub decreases-assignment : goal.decreases-assignment
decreases-assignment l = 64 * (200 - l.depth) + 60

abbrev pub decreases-conditional : goal.decreases-conditional
decreases-conditional l = 64 * (200 - l.depth) + 59

abbrev pub decreases-nested_conditional : goal.decreases-nested_conditional
decreases-nested_conditional l = 64 * (200 - l.depth) + 0

abbrev pub decreases-level_chain : goal.decreases-level_chain
decreases-level_chain l = 64 * (200 - l.depth) + (4 * (10 - number_of l.level) + 14)

abbrev pub invariant-level_chain-loop-position : goal.invariant-level_chain-loop-position
invariant-level_chain-loop-position l = record {
  total : l.count ≡ 10 - number_of l.fn.level;
  climbs : Climbs l.tokens l.fn.level l.at l.depth l.count l.position l.left.next (view_expr l.left.tree);
  ends : EndsBelow l.tokens l.left.next l.ends;
  after : l.at < l.left.next;
  within : l.left.next ≤ length l.tokens;
}

abbrev pub decreases-at_level : goal.decreases-at_level
decreases-at_level l = 64 * (200 - l.depth) + (4 * (10 - number_of l.level) + 13)

abbrev pub decreases-operand : goal.decreases-operand
decreases-operand l = 64 * (200 - l.depth) + (4 * (10 - number_of l.level) + 11)

abbrev pub decreases-more_operands : goal.decreases-more_operands
decreases-more_operands l = 64 * (200 - l.depth) + (4 * (10 - number_of l.level) + 12)

abbrev pub invariant-more_operands-loop-links : goal.invariant-more_operands-loop-links
invariant-more_operands-loop-links l = record {
  repeats : Repeats l.tokens (gives (tail_of l.level)) l.fn.at l.depth (of_links l.fn.links) l.next (of_links l.links);
  after : l.fn.at ≤ l.next;
  within : l.next ≤ length l.tokens;
}

abbrev pub decreases-more_operands-loop-links : goal.decreases-more_operands-loop-links
decreases-more_operands-loop-links l = length l.tokens - l.next

abbrev pub decreases-unary : goal.decreases-unary
decreases-unary l = 64 * (200 - l.depth) + 8

abbrev pub decreases-nested_unary : goal.decreases-nested_unary
decreases-nested_unary l = 64 * (200 - l.depth) + 0

abbrev pub decreases-parenthesised : goal.decreases-parenthesised
decreases-parenthesised l = 64 * (200 - l.depth) + 7

abbrev pub decreases-prefixed : goal.decreases-prefixed
decreases-prefixed l = 64 * (200 - l.depth) + 7

abbrev pub decreases-step : goal.decreases-step
decreases-step l = 64 * (200 - l.depth) + 7

abbrev pub decreases-with_postfixes : goal.decreases-with_postfixes
decreases-with_postfixes l = 64 * (200 - l.depth) + 7

abbrev pub decreases-more_postfixes : goal.decreases-more_postfixes
decreases-more_postfixes l = 64 * (200 - l.depth) + 6

abbrev pub invariant-more_postfixes-loop-postfixes : goal.invariant-more_postfixes-loop-postfixes
invariant-more_postfixes-loop-postfixes l = record {
  repeats : Repeats l.tokens (gives s.Postfixes) l.fn.at l.depth (of_postfixes l.fn.postfixes) l.next (of_postfixes l.postfixes);
  after : l.fn.at ≤ l.next;
  within : l.next ≤ length l.tokens;
}

abbrev pub decreases-more_postfixes-loop-postfixes : goal.decreases-more_postfixes-loop-postfixes
decreases-more_postfixes-loop-postfixes l = length l.tokens - l.next

abbrev pub decreases-postfix : goal.decreases-postfix
decreases-postfix l = 64 * (200 - l.depth) + 5

abbrev pub decreases-index : goal.decreases-index
decreases-index l = 64 * (200 - l.depth) + 4

abbrev pub decreases-call : goal.decreases-call
decreases-call l = 64 * (200 - l.depth) + 4

abbrev pub decreases-arguments : goal.decreases-arguments
decreases-arguments l = 64 * (200 - l.depth) + 3

abbrev pub decreases-more_arguments : goal.decreases-more_arguments
decreases-more_arguments l = 64 * (200 - l.depth) + 2

abbrev pub invariant-more_arguments-loop-values : goal.invariant-more_arguments-loop-values
invariant-more_arguments-loop-values l = record {
  repeats : Repeats l.tokens (gives s.MoreArguments) l.fn.at l.depth (of_exprs l.fn.values) l.next (of_exprs l.values);
  after : l.fn.at ≤ l.next;
  within : l.next ≤ length l.tokens;
}

abbrev pub decreases-more_arguments-loop-values : goal.decreases-more_arguments-loop-values
decreases-more_arguments-loop-values l = length l.tokens - l.next
