use Rattle.std.proofs.Common.{◌≡◌, ◌++◌, drop}
use Rattle.std.specs.List.{filter}
use Rattle.flow_picture.specs.Nodes.{is_in}
use Rattle.flow_picture.proofs.shown.secret_objects.Given as goal

abbrev pub invariant-loop-node : goal.invariant-loop-node
invariant-loop-node l = l.shown.items ++ filter (is_in l.secrets) (drop l.node-index l.objects) ≡ filter (is_in l.fn.secrets) l.fn.objects
