use Rattle.std.proofs.Common.{◌≡◌, ◌++◌, drop}
use Rattle.monitor_labels.specs.Counting.{slots_with}
use Rattle.monitor_labels.specs.Seeds.{begins_secret}
use Rattle.monitor_labels.proofs.seeds.add_variables.Given as goal

-- those so far, and then the others
abbrev pub invariant-loop-var : goal.invariant-loop-var
invariant-loop-var l = l.seeds.items ++ slots_with (begins_secret l.known) l.number (drop l.var-index l.vars) ≡ l.fn.seeds.items ++ slots_with (begins_secret l.known) l.from l.fn.vars
