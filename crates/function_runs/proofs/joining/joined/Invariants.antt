use Rattle.std.proofs.Common.{◌≡◌, Some}
use Rattle.function_runs.specs.Parts.{joined}
use Rattle.function_runs.proofs.joining.joined.Given as goal

abbrev pub invariant-loop-part : goal.invariant-loop-part
invariant-loop-part g l = joined l.yielded ≡ Some l.all.items
