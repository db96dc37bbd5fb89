-- Pointers to globals have the same values, whatever the memory is.
use Rattle.std.proofs.Common.{◌≡◌, ◌∙◌, ℕ, List, [], ◌∷◌, map, refl, ap, Result, Ok}
use Rattle.typed_tree.specs.declared.types.VarTy.{VarTy}
use Rattle.typed_tree.specs.declared.types.VarTy.TheVariants.{Int, Struct, Array, Pointer}
use Rattle.block_memory.specs.declared.cell.Cell.{Cell}
use Rattle.block_memory.specs.declared.cell.BlockName.TheVariants.{Global}
use Rattle.block_memory.specs.Blocks.{Blocks}
use Rattle.pt_core.specs.CodeTree.{ProgramTree, expr_trees}
use Rattle.pt_core.specs.Types.{Context, global_type}
use Rattle.pt_core.specs.Values.{Stop, ◌>>?◌, decayed, value_of, values_of}
use Rattle.pt_core.specs.Calls.{context_in}
use Rattle.core_steps_law.specs.ArgumentsPointers.{PointersHaveValues, pointed, pointed_by, pointer_by, pointer_to}

one_value : (c : Context) (depth g : ℕ) (blocks : Blocks) (t : VarTy) → global_type c g ≡ t → value_of c depth (pointer_by t g) blocks ≡ Ok (pointed_by t g)
one_value c depth g blocks (Int t) e = refl
one_value c depth g blocks (Struct n) e = refl
one_value c depth g blocks (Array elem count) e = let at : Cell → Result Cell Stop = λ v. Ok v in ap (λ t. at (decayed (record { block = Global g; cell = 0; ty = global_type c g }) t)) e
one_value c depth g blocks (Pointer elem fixed) e = refl

all_values : (p : ProgramTree) (n depth : ℕ) (blocks : Blocks) (gs : List ℕ) → values_of (context_in p n) depth (expr_trees (map (pointer_to p) gs)) blocks ≡ Ok (map (pointed p) gs)
all_values p n depth blocks [] = refl
all_values p n depth blocks (g ∷ gs) =
    ap (λ (r : Result Cell Stop). r >>? λ v. values_of (context_in p n) depth (expr_trees (map (pointer_to p) gs)) blocks >>? λ vs. Ok (v ∷ vs)) (one_value (context_in p n) depth g blocks (global_type (context_in p 0) g) refl)
    ∙ ap (λ (r : Result (List Cell) Stop). r >>? λ vs. Ok (pointed p g ∷ vs)) (all_values p n depth blocks gs)

pub pointers_have_values : PointersHaveValues
pointers_have_values p globals n depth f blocks = all_values p n depth blocks (globals f)
