use Rattle.std.proofs.Common.{◌∙◌, ◌++◌, ◌∷◌, [], ◌+◌, ◌<◌, ap, arith, drop, get_or, length, List}
use Rattle.std.proofs.lemmas.List.{get_or_default}
use Rattle.pt_base.specs.declared.int_type.IntType.{IntType}
use Rattle.pt_base.specs.declared.int_type.IntType.TheVariants.{Char}
use Rattle.block_memory.specs.declared.cell.Cell.{Cell}
use Rattle.machine_memory.specs.Words.{numbers}
use Rattle.machine_memory.proofs.HeldLemmas.{unpacked_more}
use Rattle.machine_memory.proofs.packing.unpacked.Goals as goal

pub loop-i-preserved : goal.loop-i-preserved
loop-i-preserved c =
    let types : List IntType = c.args.types.now in
    let i = c.loop-i.i in
    let t : IntType = get_or types i Char in
    let lt : i < length types = omega arith in
    let rest : List Cell = numbers (drop (i + 1) types) c.args.words.now (c.args.at + (i + 1)) in
    ap (λ (cells : List Cell). cells ++ rest) c.in_ok-push.ensures.items
    ∙ ap (λ (x : Cell). (c.loop-i.cells.items ++ x ∷ []) ++ rest) c.cell_at.ensures
    ∙ unpacked_more types c.args.words.now c.loop-i.cells.items c.args.at i t lt (get_or_default types i Char t lt)
    ∙ c.loop-i.invariant
