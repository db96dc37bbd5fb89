use Rattle.std.proofs.Common.{◌≡◌, drop, map}
use Rattle.pt_tree.specs.ProgramTree.{view_param}
use Rattle.check_programs.specs.MarkTables.{with_marks_from}
use Rattle.check_programs.specs.Unions.{params_marks}
use Rattle.check_programs.proofs.mark_table.union.Given as goal

abbrev pub invariant-loop-position : goal.invariant-loop-position
invariant-loop-position l = with_marks_from l.marks.items l.position (params_marks (map view_param (drop l.position l.params))) ≡ with_marks_from l.fn.known.items 0 (params_marks (map view_param l.fn.params))
