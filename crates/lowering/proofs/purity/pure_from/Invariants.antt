use Rattle.std.proofs.Common.{◌≡◌, ◌≤◌, length, drop, true}
use Rattle.lowering.proofs.PurityLemmas.{all_pure}
use Rattle.lowering.proofs.purity.pure_from.Given as goal

abbrev pub invariant-loop-from : goal.invariant-loop-from
invariant-loop-from l = record { within : l.from ≤ length l.arguments; pure : all_pure (drop l.from l.arguments) ≡ true }

abbrev pub decreases-loop-from : goal.decreases-loop-from
decreases-loop-from l = l.from
