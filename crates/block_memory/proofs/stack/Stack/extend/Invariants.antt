use Rattle.std.proofs.Common.{◌≡◌, ◌++◌, map, take}
use Rattle.block_memory.specs.Block.{fresh}
use Rattle.block_memory.proofs.stack.Stack.extend.Given as goal

abbrev pub invariant-loop-shape : goal.invariant-loop-shape
invariant-loop-shape l = l.self ≡ l.fn.self ++ map fresh (take l.shape-index l.shapes)
