use Rattle.std.proofs.Common.{◌-◌, ◌≤◌, length}
use Rattle.c_grammar.specs.declared.symbol.Symbol.TheVariants as s
use Rattle.c_grammar.specs.Machine.{gives}
use Rattle.c_parser.specs.Parses.{Repeats}
use Rattle.c_parser.specs.Parts.{of_exprs}
use Rattle.c_parser.proofs.declarations.more_values.Given as goal

abbrev pub invariant-loop-values : goal.invariant-loop-values
invariant-loop-values l = record {
  repeats : Repeats l.tokens (gives s.InitItems) l.fn.at l.depth (of_exprs l.fn.values) l.next (of_exprs l.values);
  after : l.fn.at ≤ l.next;
  within : l.next ≤ length l.tokens;
}

abbrev pub decreases-loop-values : goal.decreases-loop-values
decreases-loop-values l = length l.tokens - l.next
