use Rattle.std.proofs.Common.{◌≡◌}
use Rattle.monitor_labels.specs.Parts.{parts_size, start_in}
use Rattle.monitor_labels.specs.Scopes.{function_of}
use Rattle.monitor_labels.proofs.reads.start_of.Given as goal

-- what is left starts from what the whole does
abbrev pub invariant-loop-pointer : goal.invariant-loop-pointer
invariant-loop-pointer l = start_in (function_of l.scope).id l.at ≡ start_in (function_of l.scope).id l.fn.first

abbrev pub decreases-loop-pointer : goal.decreases-loop-pointer
decreases-loop-pointer l = parts_size l.at
