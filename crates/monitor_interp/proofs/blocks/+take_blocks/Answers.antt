use Rattle.std.proofs.Common.{◌<◌, arith, subst}
use Rattle.block_memory.specs.declared.cell.BlockName.TheVariants.{Received}
use Rattle.block_memory.specs.Block.{no_block}
use Rattle.block_memory.specs.Blocks.{Blocks, put}
use Rattle.pt_core.specs.Steps as s
use Rattle.core_machine.specs.Machines.{Shown}
use Rattle.monitor_interp.proofs.BlockLemmas.{emptied_code}
use Rattle.monitor_interp.proofs.blocks.+take_blocks.Goals as goal

pub returns : goal.returns
returns t c program m shown =
    let some : 0 < c.args.count = grind arith in
    subst (λ (y : Blocks). Shown program c.take_blocks.new.machine (s.with_blocks y m)) (emptied_code c.args.k c.args.count m.blocks some)
    (c.in_ok-take_blocks.ensures program (s.with_blocks (put m.blocks (Received c.args.k) no_block) m) (c.in_ok-put_block.ensures program m shown))
