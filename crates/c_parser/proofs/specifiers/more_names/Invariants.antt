use Rattle.std.proofs.Common.{◌-◌, ◌≤◌, ℕ, length}
use Rattle.c_grammar.specs.declared.symbol.Symbol.TheVariants as s
use Rattle.c_grammar.specs.Machine.{gives}
use Rattle.c_parser.specs.Parses.{Repeats}
use Rattle.c_parser.specs.Parts.{of_names}
use Rattle.c_parser.proofs.specifiers.more_names.Given as goal

abbrev pub invariant-loop-names : goal.invariant-loop-names
invariant-loop-names l = record {
  repeats : (depth : ℕ) → Repeats l.tokens (gives s.MoreNames) l.fn.at depth (of_names l.fn.names) l.next (of_names l.names);
  after : l.fn.at ≤ l.next;
  within : l.next ≤ length l.tokens;
}

abbrev pub decreases-loop-names : goal.decreases-loop-names
decreases-loop-names l = length l.tokens - l.next
