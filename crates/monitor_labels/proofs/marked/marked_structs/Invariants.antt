use Rattle.std.proofs.Common.{◌≡◌, drop}
use Rattle.monitor_labels.specs.Seeds.{marked_after, marked_structs}
use Rattle.monitor_labels.proofs.marked.marked_structs.Given as goal

abbrev pub invariant-loop-info : goal.invariant-loop-info
invariant-loop-info l = marked_after l.known.items (drop l.info-index l.structs) ≡ marked_structs l.fn.structs
