use Rattle.std.proofs.Common.{◌≡◌, ◌++◌, drop, map}
use Rattle.pt_tree.specs.StatementTree.{view_init_declarator}
use Rattle.check_programs.specs.Globals as is
use Rattle.check_programs.specs.ProgressOf.{progress_of}
use Rattle.check_programs.proofs.globals.declare_globals.Given as goal

abbrev pub invariant-loop-global : goal.invariant-loop-global
invariant-loop-global l =
    let rest = is.declared_all l.given (progress_of l.progress) (map view_init_declarator (drop l.global-index l.globals)) in
    let all = is.declared_all l.fn.given (progress_of l.fn.progress) (map view_init_declarator l.fn.globals) in
    record {
      progress : rest.progress ≡ all.progress;
      faults : l.progress.walk.findings.faults.items ++ rest.faults ≡ l.fn.progress.walk.findings.faults.items ++ all.faults;
    }
