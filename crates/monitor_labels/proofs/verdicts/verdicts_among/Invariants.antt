use Rattle.std.proofs.Common.{◌≡◌, ◌++◌, drop, map}
use Rattle.pt_core.specs.CodeTree.{view_function, view_monitor}
use Rattle.monitor_labels.specs.Verdicts.{verdicts_among, view_verdict}
use Rattle.monitor_labels.proofs.verdicts.verdicts_among.Given as goal

-- the verdicts so far, and then those on the functions that are left
abbrev pub invariant-loop-function : goal.invariant-loop-function
invariant-loop-function l =
    map view_verdict l.verdicts.items ++ verdicts_among (view_monitor l.p) l.marks (map view_function (drop l.function-index l.functions))
    ≡ verdicts_among (view_monitor l.p) l.marks (map view_function l.fn.functions)
