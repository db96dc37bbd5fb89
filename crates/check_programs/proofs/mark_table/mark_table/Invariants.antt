use Rattle.std.proofs.Common.{◌≡◌, drop, map}
use Rattle.pt_tree.specs.ProgramTree.{view_item}
use Rattle.check_programs.specs.MarkTables.{marks_in, with_items, nothing_known}
use Rattle.check_programs.proofs.mark_table.mark_table.Given as goal

abbrev pub invariant-loop-item : goal.invariant-loop-item
invariant-loop-item l = with_items (marks_in l.table.entries) (map view_item (drop l.item-index l.items)) ≡ with_items nothing_known (map view_item l.fn.items)
