use Rattle.std.proofs.Common.{◌≡◌, drop, map}
use Rattle.pt_tree.specs.StatementTree.{view_stmt, view_section, stmt_trees, section_trees}
use Rattle.c_printer.specs.Sheets.{lay}
use Rattle.c_printer.specs.Statements as words
use Rattle.c_printer.proofs.statements.+statements.Given as goal

abbrev pub invariant-statements-loop-s : goal.invariant-statements-loop-s
invariant-statements-loop-s l =
    lay (words.statements (stmt_trees (map view_stmt (drop l.s-index l.items))) l.level) l.sheet ≡ lay (words.statements (stmt_trees (map view_stmt l.fn.items)) l.fn.level) l.fn.sheet

abbrev pub invariant-each_section-loop-part : goal.invariant-each_section-loop-part
invariant-each_section-loop-part l =
    lay (words.section_list (section_trees (map view_section (drop l.part-index l.parts))) l.level) l.sheet ≡ lay (words.section_list (section_trees (map view_section l.fn.parts)) l.fn.level) l.fn.sheet
