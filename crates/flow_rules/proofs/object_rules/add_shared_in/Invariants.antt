use Rattle.std.proofs.Common.{◌≡◌, ◌++◌, drop, map}
use Rattle.flow_rules.specs.Kept.{kept, shared_in}
use Rattle.flow_rules.proofs.object_rules.add_shared_in.Given as goal

abbrev pub invariant-loop-number : goal.invariant-loop-number
invariant-loop-number l =
    l.list.items ++ map kept (shared_in l.slave l.monitor l.number (drop l.number l.globals)) ≡ l.fn.list.items ++ map kept (shared_in l.slave l.monitor 0 l.globals)
