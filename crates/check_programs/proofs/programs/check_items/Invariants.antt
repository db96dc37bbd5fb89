use Rattle.std.proofs.Common.{◌≡◌, ◌++◌, drop, map}
use Rattle.pt_tree.specs.ProgramTree.{view_item}
use Rattle.check_programs.specs.MarkTables.{marks_in}
use Rattle.check_programs.specs.Programs as is
use Rattle.check_programs.specs.ProgressOf.{progress_of}
use Rattle.check_programs.proofs.programs.check_items.Given as goal

abbrev pub invariant-loop-item : goal.invariant-loop-item
invariant-loop-item l =
    let rest = is.checked_items (marks_in l.table.entries) (progress_of l.progress) (map view_item (drop l.item-index l.items)) in
    let all = is.checked_items (marks_in l.fn.table.entries) (progress_of l.fn.progress) (map view_item l.fn.items) in
    record {
      progress : rest.progress ≡ all.progress;
      faults : l.progress.walk.findings.faults.items ++ rest.faults ≡ l.fn.progress.walk.findings.faults.items ++ all.faults;
    }
