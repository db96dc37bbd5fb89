use Rattle.std.proofs.Common.{◌≡◌, ◌++◌, map, take}
use Rattle.pt_tree.specs.HostStep.{low_byte}
use Rattle.host_table.proofs.writing.append_low_bytes.Given as goal

abbrev pub invariant-loop-arg : goal.invariant-loop-arg
invariant-loop-arg l = l.out.items ≡ l.initial.out.items ++ map low_byte (take l.arg-index l.args)
