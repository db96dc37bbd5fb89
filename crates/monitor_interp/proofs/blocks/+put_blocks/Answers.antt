use Rattle.std.proofs.Common.{◌∙◌, ◌-◌, ap, drop, length, subst}
use Rattle.std.specs.Prelude.{take}
use Rattle.block_memory.specs.declared.cell.BlockName.TheVariants.{Received}
use Rattle.block_memory.specs.Blocks.{Blocks, put}
use Rattle.marshalling.specs.Replies.{block_types}
use Rattle.pt_core.specs.Steps as s
use Rattle.core_machine.specs.Machines.{Shown}
use Rattle.monitor_interp.proofs.BlockLemmas.{brought_all, head_rest, rest_is}
use Rattle.monitor_interp.proofs.blocks.+put_blocks.Goals as goal

pub returns : goal.returns
returns t c program m shown =
    subst (λ (y : Blocks). Shown program c.put_blocks.new.machine (s.with_blocks y m))
    (brought_all c.args.k c.args.blocks.now (take (length c.args.blocks.now - 1) (drop 1 c.args.blocks.now)) c.args.cells.now (take (length c.args.cells.now - 1) (drop 1 c.args.cells.now)) m.blocks c.block-item.result c.values-item.result c.as_slice-2.result.now
    c.as_slice-3.result.now (head_rest c.args.blocks.now c.block-item.result c.in-len1-up.len_at_least c.block-item.is) (rest_is c.args.blocks.now)
    (head_rest c.args.cells.now c.values-item.result c.in-len1-up-cells.len_at_least c.values-item.is) (rest_is c.args.cells.now) (c.as_slice-2.ensures.value ∙ c.in_ok-types.ensures ∙ ap block_types c.as_slice.ensures) c.as_slice-3.ensures)
    (c.in_ok-put_blocks.ensures program (s.with_blocks (put m.blocks (Received c.args.k) (record { types = c.as_slice-2.result.now; cells = c.as_slice-3.result.now })) m) (c.in_ok-put_block.ensures program m shown))
