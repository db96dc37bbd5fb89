use Rattle.std.proofs.Common.{refl, arith}
use Rattle.machine_memory.proofs.LocalsLemmas.{blocks_of-left}
use Rattle.machine_memory.proofs.memory.MachineMemory.leave.Goals as goal

pub returns-then-depth-self-clause-blocks : goal.returns-then-depth-self-clause-blocks
returns-then-depth-self-clause-blocks c =
    blocks_of-left c.args.self.now _ c.args.depth (record { layouts = refl; frames = refl; live = refl; globals = refl; received = refl; below = omega arith })
