use Rattle.std.proofs.Common.{◌≡◌, ◌++◌, drop, map, not}
use Rattle.std.specs.List.{filter}
use Rattle.pt_core.specs.CodeTree.{view_global}
use Rattle.lowering.specs.Functions.{globals_from}
use Rattle.splitter.specs.Sets.{is_set}
use Rattle.splitter.proofs.globals.share_globals.Given as goal

-- those so far, and then the others, are all of them
abbrev pub invariant-loop-global : goal.invariant-loop-global
invariant-loop-global l = record {
  slave : map view_global l.slave.items ++ filter (λ g. is_set l.owned g.id) (globals_from l.number (drop l.global-index l.globals)) ≡ filter (λ g. is_set l.fn.owned g.id) (globals_from 0 l.globals);
  monitor : map view_global l.monitor.items ++ filter (λ g. not (is_set l.owned g.id)) (globals_from l.number (drop l.global-index l.globals)) ≡ filter (λ g. not (is_set l.fn.owned g.id)) (globals_from 0 l.globals);
}
