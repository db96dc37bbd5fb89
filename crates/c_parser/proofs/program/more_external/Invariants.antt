use Rattle.std.proofs.Common.{◌-◌, ◌≤◌, length}
use Rattle.c_grammar.specs.declared.symbol.Symbol.TheVariants as s
use Rattle.c_grammar.specs.Machine.{gives}
use Rattle.c_parser.specs.Parses.{Repeats}
use Rattle.c_parser.specs.Parts.{of_items}
use Rattle.c_parser.proofs.program.more_external.Given as goal

abbrev pub invariant-loop-items : goal.invariant-loop-items
invariant-loop-items l = record {
  repeats : Repeats l.tokens (gives s.TranslationUnit) l.fn.at l.depth (of_items l.fn.items) l.next (of_items l.items);
  after : l.fn.at ≤ l.next;
  within : l.next ≤ length l.tokens;
}

abbrev pub decreases-loop-items : goal.decreases-loop-items
decreases-loop-items l = length l.tokens - l.next
