-- What a planned call gives, as code says it: its blocks and ranges are listed.
use Rattle.std.specs.Prelude.{◌≡◌, ℕ, zero, suc, List, [], ◌∷◌, Bool, false, drop, length, map, slice_set}
use Rattle.pt_base.specs.declared.int_type.IntType.{IntType}
use Rattle.pt_tree.specs.declared.signature.Signature.{Signature}
use Rattle.block_memory.specs.declared.cell.BlockName.{BlockName}
use Rattle.block_memory.specs.declared.cell.Cell.{Cell}
use Rattle.block_memory.specs.declared.cell.Cell.TheVariants as cell
use Rattle.block_memory.specs.Blocks.{Blocks, put}
use Rattle.wire.specs.declared.cell.WireCell.{WireCell}
use Rattle.wire.specs.declared.message.ReplyBody.{ReplyBody}
use Rattle.marshalling.specs.declared.crossing.Crossing.{Crossing}
use Rattle.marshalling.specs.declared.crossing.Crossing.TheVariants.{Stays, Plain, Sealed}
use Rattle.marshalling.specs.declared.plan.Plan.{Plan}
use Rattle.marshalling.specs.declared.returned.ReturnedBlock.{ReturnedBlock}
use Rattle.marshalling.specs.Packing.{is_among}
use Rattle.marshalling.specs.Ranges.{crossing_among}
use Rattle.marshalling.specs.Replies.{next_by, result_places}
use Rattle.marshalling.specs.Taking.{Part, Taken, after_reply_for, block_places, is_reply_for, number_of, taken_cells}

abbrev pub is_planned_reply : ℕ → Blocks → Plan → Signature → ReplyBody → Bool
is_planned_reply handle blocks plan sig reply =
    is_reply_for handle (result_places sig sig.result) (block_places (crossing_among plan.ranges.items) plan.targets.items blocks) reply

abbrev pub after_planned : ℕ → Blocks → Plan → Signature → ReplyBody → Taken
after_planned handle blocks plan sig reply =
    after_reply_for handle blocks (crossing_among plan.ranges.items) plan.targets.items (result_places sig sig.result) reply

-- the cells of a reply that aren't taken yet, the next handle and the memory
abbrev pub part : List WireCell → ℕ → Blocks → Part
part sent next blocks = record { sent = sent; next = next; blocks = blocks }

-- ---- one block, by its cells alone

-- the cells with cell i as it comes back, where these cells of a reply aren't taken yet and the next handle is this one
abbrev pub cell_back : Crossing → ℕ → List WireCell → ℕ → List Cell → List Cell
cell_back Stays i sent next cells = cells
cell_back Plain i [] next cells = cells
cell_back Plain i (s ∷ sent) next cells = slice_set cells i (cell.Int (number_of s))
cell_back Sealed i sent next cells = slice_set cells i (cell.Sealed next)

-- the cells of a reply behind it
abbrev pub sent_behind : Crossing → List WireCell → List WireCell
sent_behind Stays sent = sent
sent_behind Plain sent = drop 1 sent
sent_behind Sealed sent = drop 1 sent

-- the next handle behind the first n cells of a block
abbrev pub next_cells : (ℕ → Crossing) → ℕ → ℕ → ℕ
next_cells way zero handle = handle
next_cells way (suc n) handle = next_by (way n) (next_cells way n handle)

-- the memory with a block of these types and cells under the name
abbrev pub with_block : Blocks → BlockName → List IntType → List Cell → Blocks
with_block blocks name types cells = put blocks name (record { types = types; cells = cells })

-- ---- the blocks that come back

-- what is there behind them
abbrev pub taken_listed : (ℕ → ℕ → Crossing) → List ReturnedBlock → Part → Part
taken_listed crossing [] p = p
taken_listed crossing (b ∷ rest) p = taken_listed crossing rest (taken_cells crossing b.name b.number 0 (p.blocks b.name).types p)

-- the next handle then
abbrev pub next_listed : (ℕ → ℕ → Crossing) → List ReturnedBlock → ℕ → ℕ
next_listed crossing [] handle = handle
next_listed crossing (b ∷ rest) handle = next_listed crossing rest (next_cells (crossing b.number) (length b.cells.items) handle)

-- what is there of a part, but for what isn't taken of the reply
abbrev pub AreTaken : ℕ → Blocks → Part → Type 0
AreTaken next blocks p = (next ≡ p.next) × (blocks ≡ p.blocks)

abbrev pub names_listed : List ReturnedBlock → List BlockName
names_listed blocks = map (λ b. b.name) blocks

-- each of them is as it is in the memory, a type for each cell, and none comes twice
abbrev pub AreCopies : Blocks → List ReturnedBlock → Type 0
AreCopies blocks [] = Unit {0}
AreCopies blocks (b ∷ rest) =
    ((blocks b.name).cells ≡ b.cells.items) × (length (blocks b.name).types ≡ length b.cells.items)
    × (is_among (names_listed rest) b.name ≡ false) × AreCopies blocks rest
