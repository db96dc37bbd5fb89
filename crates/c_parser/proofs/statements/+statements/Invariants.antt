use Rattle.std.proofs.Common.{◌+◌, ◌-◌, ◌*◌, ◌≤◌, length}
use Rattle.c_grammar.specs.declared.symbol.Symbol.TheVariants as s
use Rattle.c_grammar.specs.Machine.{gives}
use Rattle.c_parser.specs.Parses.{Repeats}
use Rattle.c_parser.specs.Parts.{of_stmts, of_sections}
use Rattle.c_parser.proofs.statements.+statements.Given as goal

abbrev pub decreases-statement : goal.decreases-statement
decreases-statement l = 16 * (200 - l.depth) + 0

abbrev pub decreases-any_statement : goal.decreases-any_statement
decreases-any_statement l = 16 * (200 - l.depth) + 15

abbrev pub decreases-block : goal.decreases-block
decreases-block l = 16 * (200 - l.depth) + 13

abbrev pub decreases-more_items : goal.decreases-more_items
decreases-more_items l = 16 * (200 - l.depth) + 12

abbrev pub invariant-more_items-loop-items : goal.invariant-more_items-loop-items
invariant-more_items-loop-items l = record {
  repeats : Repeats l.tokens (gives s.Items) l.fn.at l.depth (of_stmts l.fn.items) l.next (of_stmts l.items);
  after : l.fn.at ≤ l.next;
  within : l.next ≤ length l.tokens;
}

abbrev pub decreases-more_items-loop-items : goal.decreases-more_items-loop-items
decreases-more_items-loop-items l = length l.tokens - l.next

abbrev pub decreases-item : goal.decreases-item
decreases-item l = 16 * (200 - l.depth) + 11

abbrev pub decreases-block_statement : goal.decreases-block_statement
decreases-block_statement l = 16 * (200 - l.depth) + 14

abbrev pub decreases-if_statement : goal.decreases-if_statement
decreases-if_statement l = 16 * (200 - l.depth) + 14

abbrev pub decreases-else_part : goal.decreases-else_part
decreases-else_part l = 16 * (200 - l.depth) + 12

abbrev pub decreases-while_statement : goal.decreases-while_statement
decreases-while_statement l = 16 * (200 - l.depth) + 14

abbrev pub decreases-do_statement : goal.decreases-do_statement
decreases-do_statement l = 16 * (200 - l.depth) + 14

abbrev pub decreases-for_statement : goal.decreases-for_statement
decreases-for_statement l = 16 * (200 - l.depth) + 14

abbrev pub decreases-switch_statement : goal.decreases-switch_statement
decreases-switch_statement l = 16 * (200 - l.depth) + 14

abbrev pub decreases-more_sections : goal.decreases-more_sections
decreases-more_sections l = 16 * (200 - l.depth) + 12

abbrev pub invariant-more_sections-loop-sections : goal.invariant-more_sections-loop-sections
invariant-more_sections-loop-sections l = record {
  repeats : Repeats l.tokens (gives s.Sections) l.fn.at l.depth (of_sections l.fn.sections) l.next (of_sections l.sections);
  after : l.fn.at ≤ l.next;
  within : l.next ≤ length l.tokens;
}

abbrev pub decreases-more_sections-loop-sections : goal.decreases-more_sections-loop-sections
decreases-more_sections-loop-sections l = length l.tokens - l.next

abbrev pub decreases-section : goal.decreases-section
decreases-section l = 16 * (200 - l.depth) + 11

abbrev pub decreases-section_items : goal.decreases-section_items
decreases-section_items l = 16 * (200 - l.depth) + 10

abbrev pub invariant-section_items-loop-items : goal.invariant-section_items-loop-items
invariant-section_items-loop-items l = record {
  repeats : Repeats l.tokens (gives s.SectionItems) l.fn.at l.depth (of_stmts l.fn.items) l.next (of_stmts l.items);
  after : l.fn.at ≤ l.next;
  within : l.next ≤ length l.tokens;
}

abbrev pub decreases-section_items-loop-items : goal.decreases-section_items-loop-items
decreases-section_items-loop-items l = length l.tokens - l.next
