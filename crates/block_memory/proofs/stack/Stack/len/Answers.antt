use Rattle.std.proofs.Common.{arith}
use Rattle.block_memory.proofs.StackLemmas.{stack-count}
use Rattle.block_memory.proofs.stack.Stack.len.Goals as goal

pub returns-clause-len : goal.returns-clause-len
returns-clause-len c = omega (arith, stack-count _ _ _ _ c.self.view_is, c.self.inside.starts.ok.0)
