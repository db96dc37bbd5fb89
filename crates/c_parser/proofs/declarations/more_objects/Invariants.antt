use Rattle.std.proofs.Common.{◌-◌, ◌≤◌, length}
use Rattle.c_grammar.specs.declared.symbol.Symbol.TheVariants as s
use Rattle.c_grammar.specs.Machine.{gives}
use Rattle.c_parser.specs.Parses.{Repeats}
use Rattle.c_parser.specs.Parts.{of_inits}
use Rattle.c_parser.proofs.declarations.more_objects.Given as goal

abbrev pub invariant-loop-objects : goal.invariant-loop-objects
invariant-loop-objects l = record {
  repeats : Repeats l.tokens (gives s.More) l.fn.at l.depth (of_inits l.fn.objects) l.next (of_inits l.objects);
  after : l.fn.at ≤ l.next;
  within : l.next ≤ length l.tokens;
}

abbrev pub decreases-loop-objects : goal.decreases-loop-objects
decreases-loop-objects l = length l.tokens - l.next
