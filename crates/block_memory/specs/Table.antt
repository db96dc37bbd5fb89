-- Blocks by number.
use Rattle.std.specs.Prelude.{◌≡◌, ℕ, List, nat_eq, if◌then◌else◌, slice_index_or}
use Rattle.block_memory.specs.Block.{Block, no_block}

abbrev pub numbered : List Block → ℕ → Block
numbered blocks number = slice_index_or blocks number no_block

-- the number has this block, and every other number the one that it had
abbrev pub SetsBlock : List Block → List Block → ℕ → Block → Type 0
SetsBlock old new number block = (k : ℕ) → numbered new k ≡ (if nat_eq number k then block else numbered old k)

abbrev pub SameBlocks : List Block → List Block → Type 0
SameBlocks old new = (k : ℕ) → numbered new k ≡ numbered old k
