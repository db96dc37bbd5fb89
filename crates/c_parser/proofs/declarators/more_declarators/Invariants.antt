use Rattle.std.proofs.Common.{◌-◌, ◌≤◌, ℕ, length}
use Rattle.c_grammar.specs.declared.symbol.Symbol.TheVariants as s
use Rattle.c_grammar.specs.Machine.{gives}
use Rattle.c_parser.specs.Parses.{Repeats}
use Rattle.c_parser.specs.Parts.{of_declarators}
use Rattle.c_parser.proofs.declarators.more_declarators.Given as goal

abbrev pub invariant-loop-declarators : goal.invariant-loop-declarators
invariant-loop-declarators l = record {
  repeats : (depth : ℕ) → Repeats l.tokens (gives s.MoreDeclarators) l.fn.at depth (of_declarators l.fn.declarators) l.next (of_declarators l.declarators);
  after : l.fn.at ≤ l.next;
  within : l.next ≤ length l.tokens;
}

abbrev pub decreases-loop-declarators : goal.decreases-loop-declarators
decreases-loop-declarators l = length l.tokens - l.next
