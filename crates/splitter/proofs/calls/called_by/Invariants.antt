use Rattle.std.proofs.Common.{◌≡◌, false, drop, map, replicate}
use Rattle.reach.specs.Tables.{set_all}
use Rattle.pt_core.specs.CodeTree.{view_function}
use Rattle.splitter.specs.Halves.{called_by}
use Rattle.splitter.proofs.calls.called_by.Given as goal

abbrev pub invariant-loop-function : goal.invariant-loop-function
invariant-loop-function l = set_all l.called (called_by (map view_function (drop l.function-index l.functions))) ≡ set_all (replicate l.fn.bound false) (called_by (map view_function l.fn.functions))
