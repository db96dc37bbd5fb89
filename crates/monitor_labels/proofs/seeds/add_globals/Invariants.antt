use Rattle.std.proofs.Common.{◌≡◌, ◌++◌, drop, map}
use Rattle.pt_core.specs.CodeTree.{view_global}
use Rattle.monitor_labels.specs.Counting.{global_slots}
use Rattle.monitor_labels.proofs.seeds.add_globals.Given as goal

-- those so far, and then the others
abbrev pub invariant-loop-global : goal.invariant-loop-global
invariant-loop-global l = l.seeds.items ++ global_slots l.known l.number (map view_global (drop l.global-index l.globals)) ≡ l.fn.seeds.items ++ global_slots l.known l.from (map view_global l.fn.globals)
