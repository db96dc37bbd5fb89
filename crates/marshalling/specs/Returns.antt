-- What a caller is answered that takes a reply, or posts a call: what is to stand where. It puts it there itself, so that
-- nothing is changed after a refusal.
use Rattle.std.specs.Prelude.{◌≡◌, ℕ, suc, List, [], ◌∷◌, Bool, true, false, Result, Ok, Err, length, nat_eq, if◌then◌else◌}
use Rattle.std.specs.List.{list_any}
use Rattle.block_memory.specs.declared.cell.Cell.{Cell}
use Rattle.block_memory.specs.declared.cell.BlockName.{BlockName}
use Rattle.block_memory.specs.Blocks.{Blocks, put}
use Rattle.marshalling.specs.declared.fault.BadReply.{BadReply}
use Rattle.marshalling.specs.declared.fault.BadReply.TheVariants.{Shape, Memory}
use Rattle.marshalling.specs.declared.range.Range.{Range}
use Rattle.marshalling.specs.declared.returned.Returned.{Returned}
use Rattle.marshalling.specs.declared.returned.ReturnedBlock.{ReturnedBlock}
use Rattle.marshalling.specs.Taking.{Taken}

-- the memory with these cells in the place of the blocks' own, one block after another
abbrev pub with_cells : List ReturnedBlock → Blocks → Blocks
with_cells [] blocks = blocks
with_cells (b ∷ rest) blocks = with_cells rest (put blocks b.name (record { types = (blocks b.name).types; cells = b.cells.items }))

-- what the caller has once it put them there, where the next handle is this one
abbrev pub placed : Returned → ℕ → Blocks → Taken
placed r next blocks = record { result = r.value; next = next; blocks = with_cells r.blocks.items blocks }

-- each has as many cells as the block that is there
abbrev pub AreAsLong : Blocks → List ReturnedBlock → Type 0
AreAsLong blocks [] = Unit {0}
AreAsLong blocks (b ∷ rest) = (length b.cells.items ≡ length (blocks b.name).cells) × AreAsLong blocks rest

-- the reply is one that the call can have, and comes to this; or no handle is given
abbrev pub Takes : Result Returned BadReply → Bool → Taken → ℕ → ℕ → Blocks → Type 0
Takes (Ok r) good after handle next blocks = (good ≡ true) × (placed r next blocks ≡ after)
Takes (Err Shape) good after handle next blocks = (good ≡ false) × (next ≡ handle)
Takes (Err Memory) good after handle next blocks = next ≡ handle

-- ---- the blocks that come back, as code lists them

-- a block's number, its name and its cells
abbrev pub seen : ReturnedBlock → ℕ × BlockName × List Cell
seen b = (b.number, b.name, b.cells.items)

-- its name, and how many cells it has
abbrev pub counted : ReturnedBlock → BlockName × ℕ
counted b = (b.name, length b.cells.items)

-- a range lies in the block of this number
abbrev pub is_ranged : List Range → ℕ → Bool
is_ranged ranges k = list_any (λ r. nat_eq r.block k) ranges

-- of the blocks with these names, of which the first has the number k, those whose numbers pass, with their cells
abbrev pub copied : (ℕ → Bool) → Blocks → ℕ → List BlockName → List (ℕ × BlockName × List Cell)
copied test blocks k [] = []
copied test blocks k (name ∷ names) =
    if test k then (k, name, (blocks name).cells) ∷ copied test blocks (suc k) names else copied test blocks (suc k) names
