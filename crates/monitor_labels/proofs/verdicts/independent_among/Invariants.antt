use Rattle.std.proofs.Common.{◌≡◌, ◌++◌, drop}
use Rattle.std.specs.List.{flat_map}
use Rattle.monitor_labels.specs.Verdicts.{independent_if}
use Rattle.monitor_labels.proofs.verdicts.independent_among.Given as goal

abbrev pub invariant-loop-verdict : goal.invariant-loop-verdict
invariant-loop-verdict l = l.functions.items ++ flat_map independent_if (drop l.verdict-index l.verdicts) ≡ flat_map independent_if l.fn.verdicts
