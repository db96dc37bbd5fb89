use Rattle.std.proofs.Common.{◌≡◌, rules}
use Rattle.block_memory.specs.declared.cell.BlockName.TheVariants.{Local}
use Rattle.block_memory.specs.declared.cell.Cell.TheVariants as cell
use Rattle.block_memory.specs.Block.{with_cell}
use Rattle.block_memory.specs.Blocks.{put}
use Rattle.machine_memory.specs.Memory.{blocks_of, layout_at}
use Rattle.core_machine.proofs.ProgramCounterLemmas.{pass_more, word_fits_at}
use Rattle.core_machine.proofs.memory.pass_over.Goals as goal

pub word-w-requires-clause-fits : goal.word-w-requires-clause-fits
word-w-requires-clause-fits c =
    word_fits_at (layout_at c.loop-var.memory c.args.here.layout) c.args.places.now c.loop-var.var (rw c.loop-var.invariant.layouts c.requires.fits) c.loop-var-test.true

pub loop-var-preserved : goal.loop-var-preserved
loop-var-preserved c =
    let name = Local c.args.depth c.loop-var.var in
    let is : blocks_of c.set_leading.new.self ≡ put (blocks_of c.loop-var.memory) name (with_cell (blocks_of c.loop-var.memory name) 0 (cell.Int c.word-w.result)) = search (rules, c.set_leading.ensures.word) in
    pass_more c.args.memory.now c.loop-var.memory c.set_leading.new.self c.args.here.depth c.args.here.layout c.args.depth c.args.layout c.loop-var.var c.args.places.now c.word-w.result c.loop-var.invariant c.loop-var-test.true c.requires.over
    c.word-w.ensures is c.set_leading.ensures.below c.set_leading.ensures.stands c.set_leading.ensures.layouts
