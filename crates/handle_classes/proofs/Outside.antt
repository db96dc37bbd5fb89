-- What comes from outside keeps the invariant.
use Rattle.std.proofs.Common.{◌≡◌, ◌<◌, ◌+◌, ℕ, zero, suc, ℤ, pos, refl, subst, true, List, [], ◌∷◌, Option, Some, None, map, get_or}
use Rattle.typed_tree.specs.declared.types.StructInfo.{StructInfo}
use Rattle.typed_tree.specs.Cells.{leaves_of}
use Rattle.block_memory.specs.declared.cell.Cell.{Cell}
use Rattle.block_memory.specs.declared.cell.Cell.TheVariants.{Int, Ptr, Sealed}
use Rattle.block_memory.specs.declared.cell.BlockName.TheVariants.{Global}
use Rattle.block_memory.specs.Block.{Block}
use Rattle.block_memory.specs.Blocks.{Blocks, no_blocks, put}
use Rattle.runs.specs.Pointers.{cell_at}
use Rattle.pt_core.specs.CodeTree.{GlobalTree, ProgramTree}
use Rattle.pt_core.specs.CoreRun.{with_globals}
use Rattle.pt_core.specs.Steps.{Active, Awaited, just_entered, resumed_in}
use Rattle.handle_classes.specs.Classes.{Class, World, pointed_to}
use Rattle.handle_classes.specs.Invariant.{block_class, Agrees, MayLie, cell_of, MemoryFits, ActiveFit, AwaitedFits}
use Rattle.handle_classes.specs.Computes.{is_sealed}
use Rattle.handle_classes.specs.Laws.{MayResume, RestIsFine, StartsKeepFine, ResumesKeepFine, WritesKeepFine, CellsBehindFit}
use Rattle.handle_classes.proofs.Memory.{IsFresh, fresh_put, takes_object, memory_written, entered_fits}
use Rattle.handle_classes.proofs.StepKeeps.{descends, none_awaited, kept_fits}

fresh_cells : (values : List ℤ) (n : ℕ) → IsFresh (get_or (map Int values) n (Int (pos 0)))
fresh_cells [] n = tt {0}
fresh_cells (v ∷ vs) zero = tt {0}
fresh_cells (v ∷ vs) (suc n) = fresh_cells vs n

globals_fit : (w : World) (active : List Active) (structs : List StructInfo) (blocks : Blocks) (gs : List GlobalTree) → MemoryFits w active blocks →
    MemoryFits w active (with_globals structs blocks gs)
globals_fit w active structs blocks [] mem = mem
globals_fit w active structs blocks (g ∷ gs) mem =
    let block : Block = record { types = leaves_of structs g.var.ty; cells = map Int g.cells } in
    globals_fit w active structs (put blocks (Global g.id) block) gs (fresh_put w active blocks (Global g.id) block (fresh_cells g.cells) mem)

nothing_fits : (w : World) → MemoryFits w [] no_blocks
nothing_fits w = record { handles = λ block n. tt {0}; pointers = tt {0} }

pub rest_is_fine : RestIsFine
rest_is_fine program w budget = record {
  memory = globals_fit w [] program.structs no_blocks program.globals (nothing_fits w);
  active = tt {0};
  awaited = none_awaited program w [] None refl;
}

pub starts_keep_fine : StartsKeepFine
starts_keep_fine program w privileged f depth args m code fine idle none plain fit =
    let a : Active = just_entered program privileged f depth None in
    record {
      memory = entered_fits program w a [] m.blocks args (tt {0}) fit (subst (λ active. MemoryFits w active m.blocks) idle fine.memory);
      active = ((code.code f, tt {0}), plain, tt {0}, tt {0});
      awaited = none_awaited program w (a ∷ []) m.awaits none;
    }

resumed_fits : (program : ProgramTree) (w : World) (v : Option Cell) (awaits : Option Awaited) (active : List Active) (blocks : Blocks) →
    ActiveFit program w active → AwaitedFits program w active awaits → MayResume w v awaits → MemoryFits w active blocks →
    MemoryFits w active (resumed_in v awaits active blocks)
resumed_fits program w v None active blocks fit awaited may mem = mem
resumed_fits program w v (Some awaited) [] blocks fit takes may mem = mem
resumed_fits program w v (Some awaited) (a ∷ rest) blocks fit takes may mem =
    kept_fits program w a rest blocks awaited.callee awaited.result v fit.2 takes may mem

pub resumes_keep_fine : ResumesKeepFine
resumes_keep_fine program w v m fine may = record {
  memory = resumed_fits program w v m.awaits m.active m.blocks fine.active fine.awaited may fine.memory;
  active = fine.active;
  awaited = none_awaited program w m.active None refl;
}

pub writes_keep_fine : WritesKeepFine
writes_keep_fine program w block n v m fine object may = record {
  memory = memory_written w m.active m.blocks block n v may (takes_object w m.active block v (descends program w m.active fine.active) object)
      fine.memory;
  active = fine.active;
  awaited = fine.awaited;
}

-- ---- behind a pointer

behind_lies : (c of : Class) (base count i n : ℕ) (v : Cell) → Agrees c of base count → i < count → n < c.size →
    MayLie of (cell_at c.size base i + n) v → MayLie (pointed_to c) n v
behind_lies c of base count i n (Int z) agrees less small m = tt {0}
behind_lies c of base count i n (Ptr p) agrees less small m = tt {0}
behind_lies c of base count i n (Sealed h) agrees less small m = (refl, agrees.may i n less small m.1)

behind_takes : (c of : Class) (base count i n : ℕ) (v : Cell) → Agrees c of base count → i < count → n < c.size →
    (is_sealed v ≡ true → c.must n ≡ true) → MayLie of (cell_at c.size base i + n) v
behind_takes c of base count i n (Int z) agrees less small must = tt {0}
behind_takes c of base count i n (Ptr p) agrees less small must = tt {0}
behind_takes c of base count i n (Sealed h) agrees less small must = (agrees.object, agrees.must i n less small (must refl))

pub cells_behind_fit : CellsBehindFit
cells_behind_fit program w m c block base count index i n fine fits p less small =
    let of : Class = block_class w m.active block in
    let agrees : Agrees c of base count = fits p in
    record {
      lies = behind_lies c of base count i n (cell_of m.blocks block (cell_at c.size base i + n)) agrees less small
          (fine.memory.handles block (cell_at c.size base i + n));
      takes = λ v must. writes_keep_fine program w block (cell_at c.size base i + n) v m fine agrees.object
          (behind_takes c of base count i n v agrees less small must);
    }
