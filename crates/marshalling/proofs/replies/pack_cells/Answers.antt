use Rattle.std.proofs.Common.{◌∙◌, ◌++◌, ap, length, map, sym}
use Rattle.std.proofs.lemmas.List.{append-nil}
use Rattle.block_memory.specs.declared.cell.BlockName.TheVariants.{Received}
use Rattle.machine_memory.specs.Memory.{blocks_of}
use Rattle.marshalling.specs.Replies.{block_types, number_in}
use Rattle.marshalling.proofs.ReplyLemmas.{none_kept, none_sent}
use Rattle.marshalling.proofs.replies.pack_cells.Goals as goal

pub returns-then-not-has_range-clause-sent : goal.returns-then-not-has_range-clause-sent
returns-then-not-has_range-clause-sent c =
    let none = sym c.if-not-has_range.true ∙ c.has_range.ensures in
    let values = map number_in (blocks_of c.args.memory.now (Received c.args.k)).cells in
    sym (ap (λ xs. c.args.cells.now.items ++ xs) (none_sent c.args.ranges.now c.args.k none 0 (length c.args.store.now) (block_types c.args.block.now) values)
    ∙ append-nil c.args.cells.now.items)

pub returns-then-not-has_range-clause-kept : goal.returns-then-not-has_range-clause-kept
returns-then-not-has_range-clause-kept c =
    let none = sym c.if-not-has_range.true ∙ c.has_range.ensures in
    let values = map number_in (blocks_of c.args.memory.now (Received c.args.k)).cells in
    sym (ap (λ xs. c.args.store.now ++ xs) (none_kept c.args.ranges.now c.args.k none 0 (block_types c.args.block.now) values)
    ∙ append-nil c.args.store.now)
