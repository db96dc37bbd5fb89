use Rattle.std.proofs.Common.{◌≡◌, ◌++◌, drop}
use Rattle.flow_picture.specs.Kept.{global_nodes}
use Rattle.flow_picture.proofs.uses.push_globals.Given as goal

abbrev pub invariant-loop-global : goal.invariant-loop-global
invariant-loop-global l = l.nodes.items ++ global_nodes (drop l.global-index l.owned) ≡ l.fn.nodes.items ++ global_nodes l.fn.owned
