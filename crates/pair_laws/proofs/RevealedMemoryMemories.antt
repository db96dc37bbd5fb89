-- What the slave's view shows is its memory with values in the place of handles, beside the monitor's globals.
use Rattle.std.proofs.Common.{◌≡◌, ℕ, refl, ap, Bool, true, false, List, [], ◌∷◌, Some, None, map, if◌then◌else◌}
use Rattle.block_memory.specs.declared.cell.Cell.{Cell}
use Rattle.block_memory.specs.declared.cell.Cell.TheVariants as cell
use Rattle.block_memory.specs.declared.cell.Pointer.TheVariants.{Null, At}
use Rattle.block_memory.specs.declared.cell.BlockName.{BlockName}
use Rattle.block_memory.specs.declared.cell.BlockName.TheVariants.{Local, Global, Received}
use Rattle.block_memory.specs.Block.{Block}
use Rattle.block_memory.specs.Blocks.{Blocks}
use Rattle.pt_core.specs.CodeTree.{ProgramTree}
use Rattle.marshalling.specs.Handles.{Entries}
use Rattle.marshalling.specs.HonestCalls.{revealed, revealed_block}
use Rattle.part_views_law.specs.Views.{has_global, lying, seen, seen_block, seen_cell, slave_view}
use Rattle.pair_meaning.specs.Monitors.{Monitor}
use Rattle.pair_meaning.specs.Revealed.{revealed_memory}
use Rattle.pair_meaning.specs.SlaveRun.{Slave}

module _ (part : ProgramTree) (store : Entries) (beside : Blocks) where
  cell_shown : (c : Cell) → seen_cell (slave_view part store beside) c ≡ revealed store c
  cell_shown (cell.Int v) = refl
  cell_shown (cell.Ptr Null) = refl
  cell_shown (cell.Ptr (At block base count index)) = refl
  cell_shown (cell.Sealed handle) = refl

  cells_shown : (cells : List Cell) → map (seen_cell (slave_view part store beside)) cells ≡ map (revealed store) cells
  cells_shown [] = refl
  cells_shown (c ∷ cells) = λ i. cell_shown c i ∷ cells_shown cells i

  block_shown : (b : Block) → seen_block (slave_view part store beside) b ≡ revealed_block store b
  block_shown b = ap (λ (cells : List Cell). record { types = b.types; cells = cells }) (cells_shown b.cells)

pub memory_shown : (part : ProgramTree) (x : Slave) (m : Monitor) → seen (slave_view part m.store m.globals) x.machine.blocks ≡ revealed_memory (has_global part) x m
memory_shown part x m = λ i name. at name i
  where
    global : (g : ℕ) (b : Bool) →
        lying (slave_view part m.store m.globals) x.machine.blocks (Global g) (if b then Some (Global g) else None) ≡ (if b then revealed_block m.store (x.machine.blocks (Global g)) else m.globals (Global g))
    global g true = block_shown part m.store m.globals (x.machine.blocks (Global g))
    global g false = refl

    at : (name : BlockName) → seen (slave_view part m.store m.globals) x.machine.blocks name ≡ revealed_memory (has_global part) x m name
    at (Local depth v) = block_shown part m.store m.globals (x.machine.blocks (Local depth v))
    at (Global g) = global g (has_global part g)
    at (Received k) = block_shown part m.store m.globals (x.machine.blocks (Received k))
