use Rattle.std.proofs.Common.{◌∙◌, List, ap, arith, length}
use Rattle.std.proofs.lemmas.List.{take_rest}
use Rattle.block_memory.specs.declared.cell.Cell.{Cell}
use Rattle.slave_interp.proofs.ReturnLemmas.{long_next, putting_next, putting_start}
use Rattle.slave_interp.proofs.returning.put_blocks.Goals as goal

pub loop-left-init : goal.loop-left-init
loop-left-init c = putting_start c.args.machine.now c.args.blocks.now c.requires

pub put_cells-requires : goal.put_cells-requires
put_cells-requires c =
    ap (λ (xs : List Cell). length xs) c.as_slice.ensures.value
    ∙ long_next c.loop-left.machine c.loop-left.left.now c.block-item.result (omega (arith, c.in-len1-up.len_at_least)) c.block-item.is c.loop-left.invariant.may

pub loop-left-preserved : goal.loop-left-preserved
loop-left-preserved c =
    putting_next c.args.machine.now c.args.blocks.now c.loop-left.machine c.put_cells.new.self c.loop-left.left.now _ c.block-item.result c.as_slice.result.now (take_rest c.loop-left.left.now 1) (omega (arith, c.in-len1-up.len_at_least)) c.block-item.is
    c.as_slice.ensures.value c.loop-left.invariant c.in_ok-put_cells.ensures
