use Rattle.std.proofs.Common.{◌≡◌, ◌++◌, take}
use Rattle.pt_tree.specs.HostStep.{spaced}
use Rattle.host_table.proofs.writing.append_numbers.Given as goal

abbrev pub invariant-loop-arg : goal.invariant-loop-arg
invariant-loop-arg l = l.out.items ≡ l.initial.out.items ++ spaced (take l.arg-index l.args)
