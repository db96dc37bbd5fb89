-- What is seen of what single statements do to memory.
use Rattle.std.proofs.Common.{◌≡◌, ◌∙◌, ◌<◌, ℕ, List, map, refl, sym, ap, Bool, true, false, Option, Some, None, Ok}
use Rattle.std.specs.Prelude.{IsTrue, drop, take}
use Rattle.std.specs.Option.{option_map}
use Rattle.typed_tree.specs.declared.types.VarTy.{VarTy}
use Rattle.typed_tree.specs.Sizes.{cells_by, sizes_of}
use Rattle.block_memory.specs.declared.cell.Cell.{Cell}
use Rattle.block_memory.specs.declared.cell.BlockName.TheVariants.{Local}
use Rattle.block_memory.specs.Block.{Block, fresh}
use Rattle.block_memory.specs.Blocks.{Blocks, put}
use Rattle.pt_core.specs.CodeTree.{ExprTree, PlaceTree, ProgramTree}
use Rattle.pt_core.specs.Types.{Context, shape_of, type_at}
use Rattle.pt_core.specs.Values.{Location, all_written, cells_at, location_of, value_of}
use Rattle.pt_core.specs.Statements.{assigned, cleared, copied, returned_value}
use Rattle.pt_core.specs.WellFormedExpression.{expr_fits, place_fits}
use Rattle.handle_classes.specs.Computes.{meets, meets_at}
use Rattle.part_views_law.specs.Views.{IsView, View, seen, seen_cell}
use Rattle.part_views_law.proofs.Memories.{all_written_seen, block_seen, dropped_seen, fresh_seen, local_put, taken_seen, written_seen}
use Rattle.part_views_law.proofs.StepsCells.{Known, OwnCell, OwnPlace, seen_place, then_known}
use Rattle.part_views_law.proofs.StepsValues.{Always, Reads, in_whole, place_known, value_known}

pub cleared_seen : (v : View) (base : ℕ) (part : ProgramTree) → IsView v base part → (c : Context) (globals : List (ℕ × VarTy)) (depth k : ℕ) (blocks : Blocks) → base < depth →
    cleared (in_whole globals c) depth k (seen v blocks) ≡ seen v (cleared c depth k blocks)
cleared_seen v base part view c globals depth k blocks above =
    ap (λ (b : Block). put (seen v blocks) (Local depth k) b) (sym (fresh_seen v (shape_of c.structs (type_at c.variables k))))
    ∙ local_put v base part view blocks depth k (fresh (shape_of c.structs (type_at c.variables k))) above

pub assigned_known : (v : View) (base : ℕ) (part : ProgramTree) → IsView v base part → (c : Context) (globals : List (ℕ × VarTy)) (depth : ℕ) (blocks : Blocks) → Reads v c globals depth blocks → (p : PlaceTree) (e : ExprTree) → IsTrue (place_fits c p) → IsTrue (expr_fits c e) →
    meets_at c depth p blocks ≡ false → meets c depth e blocks ≡ false →
    Known (seen v) Always (assigned (in_whole globals c) depth p e (seen v blocks)) (assigned c depth p e blocks)
assigned_known v base part view c globals depth blocks r p e place_is value_is h h' =
    then_known (seen_place v) (seen v) (OwnPlace v) Always (location_of (in_whole globals c) depth p (seen v blocks)) (location_of c depth p blocks) _ _
    (place_known v c globals depth blocks r p place_is h)
    (λ at own.
    then_known (seen_cell v) (seen v) (OwnCell v) Always (value_of (in_whole globals c) depth e (seen v blocks)) (value_of c depth e blocks) _ _
    (value_known v c globals depth blocks r e value_is h')
    (λ d own'. record { sight = ap Ok (written_seen v base part view blocks at.block at.cell d own); own = tt {0} }))

cells_seen : (v : View) (blocks : Blocks) (at : Location) (count : ℕ) → OwnPlace v at → cells_at (seen v blocks) (seen_place v at) count ≡ map (seen_cell v) (cells_at blocks at count)
cells_seen v blocks at count lies =
    ap (λ (b : Block). take count (drop at.cell b.cells)) (block_seen v blocks at.block lies)
    ∙ ap (λ (cells : List Cell). take count cells) (dropped_seen v at.cell (blocks at.block).cells)
    ∙ taken_seen v count (drop at.cell (blocks at.block).cells)

pub copied_known : (v : View) (base : ℕ) (part : ProgramTree) → IsView v base part → (c : Context) (globals : List (ℕ × VarTy)) (depth : ℕ) (blocks : Blocks) → Reads v c globals depth blocks → (to from : PlaceTree) → IsTrue (place_fits c to) → IsTrue (place_fits c from) →
    meets_at c depth to blocks ≡ false → meets_at c depth from blocks ≡ false →
    Known (seen v) Always (copied (in_whole globals c) depth to from (seen v blocks)) (copied c depth to from blocks)
copied_known v base part view c globals depth blocks r to from to_is from_is h h' =
    then_known (seen_place v) (seen v) (OwnPlace v) Always (location_of (in_whole globals c) depth to (seen v blocks)) (location_of c depth to blocks) _ _
    (place_known v c globals depth blocks r to to_is h)
    (λ at own.
    then_known (seen_place v) (seen v) (OwnPlace v) Always (location_of (in_whole globals c) depth from (seen v blocks)) (location_of c depth from blocks) _ _
    (place_known v c globals depth blocks r from from_is h')
    (λ of own'. record {
      sight = ap Ok
          (ap (λ (cells : List Cell). all_written (seen v blocks) (v.at at.block) at.cell cells) (cells_seen v blocks of (cells_by (sizes_of c.structs) at.ty) own')
          ∙ all_written_seen v base part view blocks at.block at.cell (cells_at blocks of (cells_by (sizes_of c.structs) at.ty)) own);
      own = tt {0};
    }))

abbrev pub return_expr_fits : Context → Option ExprTree → Bool
return_expr_fits c None = true
return_expr_fits c (Some e) = expr_fits c e

abbrev pub return_meets : Context → ℕ → Option ExprTree → Blocks → Bool
return_meets c depth None blocks = false
return_meets c depth (Some e) blocks = meets c depth e blocks

pub returned_known : (v : View) (c : Context) (globals : List (ℕ × VarTy)) (depth : ℕ) (blocks : Blocks) → Reads v c globals depth blocks → (e : Option ExprTree) → IsTrue (return_expr_fits c e) → return_meets c depth e blocks ≡ false →
    Known (option_map (seen_cell v)) Always (returned_value (in_whole globals c) depth e (seen v blocks)) (returned_value c depth e blocks)
returned_known v c globals depth blocks r None fits h = record { sight = refl; own = tt {0} }
returned_known v c globals depth blocks r (Some e) fits h =
    then_known (seen_cell v) (option_map (seen_cell v)) (OwnCell v) Always (value_of (in_whole globals c) depth e (seen v blocks)) (value_of c depth e blocks) _ _
    (value_known v c globals depth blocks r e fits h)
    (λ d own. record { sight = refl; own = tt {0} })
