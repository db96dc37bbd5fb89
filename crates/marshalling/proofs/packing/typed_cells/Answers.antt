use Rattle.std.proofs.Common.{◌<◌, ◌++◌, ◌∙◌, [], ◌∷◌, ap, arith, get_or, length}
use Rattle.pt_base.specs.declared.int_type.IntType.TheVariants.{Char}
use Rattle.machine_memory.specs.Memory.{blocks_of}
use Rattle.marshalling.proofs.CopyLemmas.{read_at, typed_more}
use Rattle.marshalling.proofs.Lists.{self_read}
use Rattle.marshalling.proofs.TakingLemmas.{whole_count}
use Rattle.marshalling.proofs.packing.typed_cells.Goals as goal

pub loop-i-preserved : goal.loop-i-preserved
loop-i-preserved c =
    let block = blocks_of c.args.memory.now c.args.name in
    let ts = c.types-types.result.now in
    let t = get_or ts c.loop-i.i Char in
    let count = whole_count block c.requires in
    let same = ap length c.types-types.ensures in
    let lt : c.loop-i.i < length block.cells = omega (arith, count, same) in
    typed_more block.types ts block.cells c.loop-i.i t c.cell.result c.loop-i.cells.items _ _ c.types-types.ensures count c.loop-i-test.true
    (self_read ts c.loop-i.i Char c.loop-i-test.true) (read_at block.cells c.loop-i.i c.cell.result lt c.cell.ensures)
    (c.in_ok-push.ensures.items ∙ ap (λ w. c.loop-i.cells.items ++ (t, w) ∷ []) c.wire_cell.ensures) c.loop-i.invariant
