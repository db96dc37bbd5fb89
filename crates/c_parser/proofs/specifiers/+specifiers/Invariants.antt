use Rattle.std.proofs.Common.{◌+◌, ◌-◌, ◌*◌, ◌≤◌, length}
use Rattle.c_grammar.specs.declared.symbol.Symbol.TheVariants as s
use Rattle.c_grammar.specs.Machine.{gives}
use Rattle.c_parser.specs.Parses.{Repeats}
use Rattle.c_parser.specs.Parts.{of_specs, of_fields}
use Rattle.c_parser.proofs.specifiers.+specifiers.Given as goal

abbrev pub decreases-specifiers : goal.decreases-specifiers
decreases-specifiers l = 8 * (200 - l.depth) + 6

abbrev pub decreases-more_specifiers : goal.decreases-more_specifiers
decreases-more_specifiers l = 8 * (200 - l.depth) + 5

abbrev pub invariant-more_specifiers-loop-specs : goal.invariant-more_specifiers-loop-specs
invariant-more_specifiers-loop-specs l = record {
  repeats : Repeats l.tokens (gives s.MoreSpecs) l.fn.at l.depth (of_specs l.fn.specs) l.next (of_specs l.specs);
  after : l.fn.at ≤ l.next;
  within : l.next ≤ length l.tokens;
}

abbrev pub decreases-more_specifiers-loop-specs : goal.decreases-more_specifiers-loop-specs
decreases-more_specifiers-loop-specs l = length l.tokens - l.next

abbrev pub decreases-specifier : goal.decreases-specifier
decreases-specifier l = 8 * (200 - l.depth) + 4

abbrev pub decreases-structure : goal.decreases-structure
decreases-structure l = 8 * (200 - l.depth) + 3

abbrev pub decreases-struct_body : goal.decreases-struct_body
decreases-struct_body l = 8 * (200 - l.depth) + 2

abbrev pub decreases-more_fields : goal.decreases-more_fields
decreases-more_fields l = 8 * (200 - l.depth) + 1

abbrev pub invariant-more_fields-loop-fields : goal.invariant-more_fields-loop-fields
invariant-more_fields-loop-fields l = record {
  repeats : Repeats l.tokens (gives s.Fields) l.fn.at l.depth (of_fields l.fn.fields) l.next (of_fields l.fields);
  after : l.fn.at ≤ l.next;
  within : l.next ≤ length l.tokens;
}

abbrev pub decreases-more_fields-loop-fields : goal.decreases-more_fields-loop-fields
decreases-more_fields-loop-fields l = length l.tokens - l.next

abbrev pub decreases-field : goal.decreases-field
decreases-field l = 8 * (200 - l.depth)

abbrev pub decreases-field_declaration : goal.decreases-field_declaration
decreases-field_declaration l = 8 * (200 - l.depth) + 7
