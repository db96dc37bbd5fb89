-- The locals' blocks, by depth and variable.
use Rattle.std.specs.Prelude.{◌≡◌, ◌≤◌, ◌<◌, ◌&&◌, ℕ, List, [], nat_eq, if◌then◌else◌, slice_index_or}
use Rattle.block_memory.specs.Block.{Block, no_block}

-- the variables of the function that was entered at this depth
abbrev pub frame_at : List (List Block) → ℕ → List Block
frame_at frames depth = slice_index_or frames depth []

abbrev pub local_at : List (List Block) → ℕ → ℕ → Block
local_at frames depth var = slice_index_or (frame_at frames depth) var no_block

-- no local of this depth or a greater one is live
abbrev pub IsFreeFrom : ℕ → List (List Block) → Type 0
IsFreeFrom depth frames = (d v : ℕ) → depth ≤ d → local_at frames d v ≡ no_block

-- the depth has these variables, and every other depth those that it had
abbrev pub SetsFrame : List (List Block) → List (List Block) → ℕ → List Block → Type 0
SetsFrame old new depth variables =
    (d v : ℕ) → local_at new d v ≡ (if nat_eq d depth then slice_index_or variables v no_block else local_at old d v)

-- the local has this block, and every other local the one that it had
abbrev pub SetsLocal : List (List Block) → List (List Block) → ℕ → ℕ → Block → Type 0
SetsLocal old new depth var block =
    (d v : ℕ) → local_at new d v ≡ (if nat_eq depth d && nat_eq var v then block else local_at old d v)

abbrev pub SameLocals : List (List Block) → List (List Block) → Type 0
SameLocals old new = (d v : ℕ) → local_at new d v ≡ local_at old d v

abbrev pub SameBelow : List (List Block) → List (List Block) → ℕ → Type 0
SameBelow old new depth = (d v : ℕ) → d < depth → local_at new d v ≡ local_at old d v
