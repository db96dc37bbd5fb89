-- The blocks of a call and their cells.
use Rattle.std.specs.Prelude.{◌≡◌, List, [], ◌∷◌, length}
use Rattle.pt_base.specs.declared.int_type.IntType.{IntType}
use Rattle.block_memory.specs.declared.cell.Cell.{Cell}
use Rattle.wire.specs.declared.cell.WireCell.{WireCell}

-- as many blocks, each of as many cells
abbrev pub AreAlike : List (List (IntType × WireCell)) → List (List Cell) → Type 0
AreAlike [] [] = Unit {0}
AreAlike [] (cells ∷ rest) = ⊥
AreAlike (block ∷ blocks) [] = ⊥
AreAlike (block ∷ blocks) (cells ∷ rest) = (length block ≡ length cells) × AreAlike blocks rest
