use Rattle.std.proofs.Common.{◌-◌, ◌≤◌, length}
use Rattle.c_grammar.specs.declared.symbol.Symbol.TheVariants as s
use Rattle.c_grammar.specs.Machine.{gives}
use Rattle.c_parser.specs.Parses.{Repeats}
use Rattle.c_parser.specs.Parts.{of_params}
use Rattle.c_parser.proofs.declarations.more_parameters.Given as goal

abbrev pub invariant-loop-params : goal.invariant-loop-params
invariant-loop-params l = record {
  repeats : Repeats l.tokens (gives s.MoreParams) l.fn.at l.depth (of_params l.fn.params) l.next (of_params l.params);
  after : l.fn.at ≤ l.next;
  within : l.next ≤ length l.tokens;
}

abbrev pub decreases-loop-params : goal.decreases-loop-params
decreases-loop-params l = length l.tokens - l.next
