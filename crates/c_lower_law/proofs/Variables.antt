-- A function's own variables: where they lie in both, and what clears them.
use Rattle.std.proofs.Common.{◌≡◌, ◌∙◌, ◌≤◌, ◌<◌, ℕ, zero, suc, ◌+◌, pos, refl, ap, sym, subst, arith, Bool, true, false, Option, Some, None, List, [], ◌∷◌, ◌++◌, length, map, replicate, Result, Ok, Err, if◌then◌else◌}
use Rattle.std.specs.Prelude.{IsTrue, ◌&&◌, slice_get, get_or, option_map}
use Rattle.std.proofs.lemmas.Option.{get_or_from_slice_get}
use Rattle.pt_base.specs.declared.int_type.IntType.{IntType}
use Rattle.pt_base.specs.declared.int_type.IntType.TheVariants as i
use Rattle.pt_tree.specs.declared.signature.Elem.{Elem}
use Rattle.typed_tree.specs.declared.types.VarTy.{VarTy}
use Rattle.typed_tree.specs.declared.types.VarTy.TheVariants as ty
use Rattle.typed_tree.specs.declared.types.StructInfo.{StructInfo}
use Rattle.typed_tree.specs.declared.variable.Var.{Var}
use Rattle.typed_tree.specs.ExpressionTree.{ExprTree}
use Rattle.typed_tree.specs.Cells.{leaves_of}
use Rattle.typed_tree.specs.Sizes.{cells_by, sizes_of}
use Rattle.block_memory.specs.declared.cell.Cell as core
use Rattle.block_memory.specs.declared.cell.Cell.TheVariants.{Int}
use Rattle.block_memory.specs.declared.cell.BlockName.TheVariants.{Local}
use Rattle.block_memory.specs.Block as bl
use Rattle.block_memory.specs.Block.{fresh}
use Rattle.block_memory.specs.Blocks.{Blocks}
use Rattle.source_meaning.specs.Memory.{local, number, put}
use Rattle.source_meaning.specs.State.{State}
use Rattle.source_meaning.specs.Values as sv
use Rattle.source_meaning.specs.Expressions as e
use Rattle.source_meaning.specs.Statements as src
use Rattle.source_meaning.specs.Statements.{variable_at, cleared_at}
use Rattle.source_meaning.proofs.SizeLemmas as lemmas
use Rattle.source_soundness.specs.Worlds.{type_in, LocationFits}
use Rattle.source_soundness.specs.Laws.{CodeFits}
use Rattle.source_soundness.specs.Sizes.{object_cells}
use Rattle.source_soundness.proofs.Soundness.{names_live, entry_type}
use Rattle.source_soundness.proofs.StatementSoundness.{Entry, lies, clearing}
use Rattle.source_soundness.proofs.StatementSizes.{cleared_length, cleared_points}
use Rattle.source_soundness.proofs.SizedObjects.{put_sized}
use Rattle.pt_core.specs.Types.{type_at, shape_of}
use Rattle.pt_core.specs.Statements as c
use Rattle.pt_core.specs.Statements.{with_blocks}
use Rattle.c_lower_law.proofs.Relations.{core_cell, Scene, world_of, context_of, frame_of, sizes_in, variable_types, Kept, Alike, After, below, all}
use Rattle.c_lower_law.proofs.Expressions.{SceneFits}
use Rattle.c_lower_law.proofs.Statements.{code_of, tests_of}
use Rattle.c_lower_law.proofs.Memories.{objects_put, room_object, kept_less, kept_object, alike_object}
use Rattle.c_lower_law.proofs.Held.{own_length}

-- ---- where a variable lies

pub record Own (s : Scene) (exprs : List ExprTree) (x : ℕ) (u : VarTy) : Type 0 where
  pub live : type_in (world_of s) (local s.frame.depth x) ≡ Some u
  pub source_type : e.type_at (variable_types s) x ≡ u
  pub core_type : type_at s.core_variables x ≡ u
  pub lies_there : LocationFits (world_of s) (Some u) (variable_at (code_of s exprs) x 0)

pub code_fits : (s : Scene) (exprs : List ExprTree) (result : Option IntType) → SceneFits s → CodeFits (world_of s) (tests_of s exprs result) (code_of s exprs)
code_fits s exprs result fits = record { context = fits.fits; exprs = refl }

pub own : (s : Scene) (exprs : List ExprTree) (result : Option IntType) (x : ℕ) (u : VarTy) → SceneFits s → Entry (tests_of s exprs result) x u → Own s exprs x u
own s exprs result x u fits en = record {
  live = names_live (world_of s) s.names (context_of s) x u fits.fits en.is;
  source_type = get_or_from_slice_get (variable_types s) x u (ty.Int i.Int) (entry_type (world_of s) s.names (context_of s) x u fits.fits en.is);
  core_type = fits.variables x u (entry_type (world_of s) s.names (context_of s) x u fits.fits en.is);
  lies_there = lies (world_of s) (tests_of s exprs result) (code_of s exprs) x u (code_fits s exprs result fits) en;
}

-- ---- cleared cells

map_replicate : (k : ℕ) → map core_cell (replicate k (number (pos 0))) ≡ replicate k (Int (pos 0))
map_replicate zero = refl
map_replicate (suc k) = ap (λ xs. Int (pos 0) ∷ xs) (map_replicate k)

pub fresh_cells : (structs : List StructInfo) (u : VarTy) → (fresh (shape_of structs u)).cells ≡ map core_cell (sv.cleared (sizes_of structs) u)
fresh_cells structs (ty.Int t) = ap (λ k. replicate k (Int (pos 0))) (sym (lemmas.sizes structs (ty.Int t)))
fresh_cells structs (ty.Struct n) = ap (λ k. replicate k (Int (pos 0))) (sym (lemmas.sizes structs (ty.Struct n))) ∙ sym (map_replicate (cells_by (sizes_of structs) (ty.Struct n)))
fresh_cells structs (ty.Array elem count) = ap (λ k. replicate k (Int (pos 0))) (sym (lemmas.sizes structs (ty.Array elem count))) ∙ sym (map_replicate (cells_by (sizes_of structs) (ty.Array elem count)))
fresh_cells structs (ty.Pointer elem fixed) = refl

-- ---- a declaration is reached

-- the state in which the variable is cleared
abbrev pub with_cleared : Scene → ℕ → c.State → c.State
with_cleared s x st = with_blocks (c.cleared (frame_of s).context s.frame.depth x st.memory) st

pub cleared_after : (s : Scene) (exprs : List ExprTree) (result : Option IntType) (x n : ℕ) (u : VarTy) (st : State) (st' : c.State) → SceneFits s → Entry (tests_of s exprs result) x u → Alike s st st' → After s (below n) st'.memory (cleared_at (code_of s exprs) x st) (with_cleared s x st')
cleared_after s exprs result x n u st st' fits en al =
    let o = own s exprs result x u fits en in
    record {
      alike = alike_object s st st' (local s.frame.depth x) (put st.memory (local s.frame.depth x) (sv.cleared (sizes_in s) (e.type_at (variable_types s) x))) (c.cleared (frame_of s).context s.frame.depth x st'.memory) u (own_length s fits) al o.live
          (objects_put (world_of s) st.memory st'.memory (local s.frame.depth x) (sv.cleared (sizes_in s) (e.type_at (variable_types s) x)) (fresh (shape_of s.names.structs (type_at s.core_variables x))) al.objects
          (ap (λ z. (fresh (shape_of s.names.structs z)).cells) o.core_type ∙ fresh_cells s.names.structs u ∙ ap (λ z. map core_cell (sv.cleared (sizes_in s) z)) (sym o.source_type)))
          (room_object s st'.memory (local s.frame.depth x) (fresh (shape_of s.names.structs (type_at s.core_variables x))) u (own_length s fits) o.live al.room)
          (clearing (world_of s) (tests_of s exprs result) (code_of s exprs) x u st (code_fits s exprs result fits) en al.fits)
          (put_sized (world_of s) (sizes_in s) st.memory (local s.frame.depth x) (sv.cleared (sizes_in s) (e.type_at (variable_types s) x)) al.sized
          (λ a is. cleared_length (sizes_in s) (e.type_at (variable_types s) x) ∙ ap (object_cells (sizes_in s)) (same (e.type_at (variable_types s) x) a o.source_type o.live is))
          (λ elem fixed is. cleared_points (world_of s) (sizes_in s) elem (e.type_at (variable_types s) x)));
      kept = kept_less s all (below n) st'.memory (with_cleared s x st').memory (kept_object s st'.memory (local s.frame.depth x) (fresh (shape_of s.names.structs (type_at s.core_variables x))) u o.live) (λ k h. tt);
    }
  where
    same : (a d : VarTy) → a ≡ u → type_in (world_of s) (local s.frame.depth x) ≡ Some u → type_in (world_of s) (local s.frame.depth x) ≡ Some d → a ≡ d
    same a d p q r = cc
