-- Functions are entered and left: what is live then fits.
use Rattle.std.proofs.Common.{◌≡◌, ◌≤◌, ◌<◌, ℕ, zero, suc, nat_eq, refl, ap, sym, subst, arith, Bool, true, false, None, List, [], ◌∷◌, map, if◌then◌else◌}
use Rattle.std.specs.Prelude.{slice_get, slice_index_or, nat_lt}
use Rattle.std.proofs.lemmas.Bool.Decides.{nat_tests}
use Rattle.typed_tree.specs.declared.types.StructInfo.{StructInfo}
use Rattle.typed_tree.specs.declared.variable.Var.{Var}
use Rattle.block_memory.specs.declared.cell.BlockName.TheVariants.{Local, Global, Received}
use Rattle.block_memory.specs.Block.{Block, no_block, fresh}
use Rattle.block_memory.specs.Blocks.{Blocks, with_frame, without_frames}
use Rattle.pt_core.specs.CodeTree.{ProgramTree}
use Rattle.pt_core.specs.Types.{shape_of}
use Rattle.pt_core.specs.Calls.{function_in, context_in}
use Rattle.pt_core.specs.Steps.{Active}
use Rattle.core_soundness_law.specs.Kept.{Kept}
use Rattle.core_soundness_law.specs.Fits.{LocalFits, variables_at, MemoryFits}
use Rattle.core_soundness_law.proofs.Memory.{SameTypes, local_stays, fresh_fits}

-- ---- depths

-- the active functions below stand less deep
abbrev pub AreBelow : ℕ → List Active → Type 0
AreBelow depth [] = Unit {0}
AreBelow depth (a ∷ rest) = (a.depth < depth) × AreBelow depth rest

-- no function of this depth or a greater one is active
no_variables : (program : ProgramTree) (active : List Active) (depth d v : ℕ) → AreBelow depth active → depth ≤ d → slice_get (variables_at program active d) v ≡ None
no_variables program [] depth d v below h = refl
no_variables program (a ∷ rest) depth d v below h = go (no_variables program rest depth d v below.1 h) (nat_eq d a.depth) refl
  where
    go : slice_get (variables_at program rest d) v ≡ None → (t : Bool) → nat_eq d a.depth ≡ t → slice_get (if t then (context_in program a.function).variables else variables_at program rest d) v ≡ None
    go more false e = more
    go more true e = absurd (deep d a.depth depth e below.0 h)
      where
        deep : (d n depth : ℕ) → nat_eq d n ≡ true → n < depth → depth ≤ d → ⊥
        deep d n depth e below h = let same : d ≡ n = grind (arith, nat_tests) in omega (arith, same, below, h)

-- ---- a function is left

pub other_depth : {X : Type 0} (d depth : ℕ) (x y : X) → d < depth → (if nat_eq d depth then x else y) ≡ y
other_depth {X} d depth x y h = go (nat_eq d depth) refl
  where
    not_same : nat_eq d depth ≡ true → ⊥
    not_same e = let same : d ≡ depth = grind (arith, nat_tests) in omega (arith, same, h)

    go : (t : Bool) → nat_eq d depth ≡ t → (if t then x else y) ≡ y
    go false e = refl
    go true e = absurd (not_same e)

pub left_fits : (kept : Kept) (program : ProgramTree) (a : Active) (rest : List Active) (blocks : Blocks) → AreBelow a.depth rest → MemoryFits kept program (a ∷ rest) blocks → MemoryFits kept program rest (without_frames blocks a.depth)
left_fits kept program a rest blocks below mem = record {
  locals = λ d v. at_local d v (nat_lt d a.depth) refl;
  globals = λ g ty is. mem.globals g ty is;
  global_cells = λ g. mem.global_cells g;
  received_cells = λ n. mem.received_cells n;
  beyond = λ g unknown. mem.beyond g unknown;
}
  where
    further : (d e depth : ℕ) → d < depth → e ≤ d → nat_lt e depth ≡ true
    further d e depth h k = grind (arith, nat_tests, h, k)

    less : (d depth : ℕ) → nat_lt d depth ≡ true → d < depth
    less d depth h = grind (arith, nat_tests)

    more : (d depth : ℕ) → nat_lt d depth ≡ false → depth ≤ d
    more d depth h = grind (arith, nat_tests)

    same : (d : ℕ) → d < a.depth → SameTypes blocks (without_frames blocks a.depth) d
    same d h (Local e w) near = ap (λ (t : Bool). (if t then blocks (Local e w) else no_block).types) (sym (further d e a.depth h near))
    same d h (Global g) near = refl
    same d h (Received n) near = refl

    at_local : (d v : ℕ) (t : Bool) → nat_lt d a.depth ≡ t → LocalFits kept program.structs (without_frames blocks a.depth) d (slice_get (variables_at program rest d) v) (if t then blocks (Local d v) else no_block)
    at_local d v false e = subst (λ o. LocalFits kept program.structs (without_frames blocks a.depth) d o no_block) (sym (no_variables program rest a.depth d v below (more d a.depth e))) refl
    at_local d v true e =
        local_stays kept program.structs blocks (without_frames blocks a.depth) d (slice_get (variables_at program rest d) v) (blocks (Local d v)) (same d (less d a.depth e))
        (subst (λ tys. LocalFits kept program.structs blocks d (slice_get tys v) (blocks (Local d v))) (other_depth d a.depth (context_in program a.function).variables (variables_at program rest d) (less d a.depth e)) (mem.locals d v))

-- ---- a function is entered

frame_fits : (kept : Kept) (structs : List StructInfo) (blocks : Blocks) (depth : ℕ) (xs : List Var) (v : ℕ) →
    LocalFits kept structs blocks depth (slice_get (map (λ x. x.ty) xs) v) (slice_index_or (map fresh (map (λ x. shape_of structs x.ty) xs)) v no_block)
frame_fits kept structs blocks depth [] v = refl
frame_fits kept structs blocks depth (x ∷ xs) zero = fresh_fits kept structs blocks depth x.ty
frame_fits kept structs blocks depth (x ∷ xs) (suc v) = frame_fits kept structs blocks depth xs v

-- the function stands above those that are active, and its variables are fresh
pub frame_entered : (kept : Kept) (program : ProgramTree) (a : Active) (active : List Active) (blocks : Blocks) → AreBelow a.depth active → MemoryFits kept program active blocks →
    MemoryFits kept program (a ∷ active) (with_frame blocks a.depth (map (λ x. shape_of program.structs x.ty) (function_in program a.function).vars))
frame_entered kept program a active blocks below mem = record {
  locals = λ d v. at_local d v (nat_eq d a.depth) refl;
  globals = λ g ty is. mem.globals g ty is;
  global_cells = λ g. mem.global_cells g;
  received_cells = λ n. mem.received_cells n;
  beyond = λ g unknown. mem.beyond g unknown;
}
  where
    new : Blocks
    new = with_frame blocks a.depth (map (λ x. shape_of program.structs x.ty) (function_in program a.function).vars)

    fresh_at : ℕ → Block
    fresh_at v = slice_index_or (map fresh (map (λ x. shape_of program.structs x.ty) (function_in program a.function).vars)) v no_block

    less : (d depth : ℕ) → nat_lt d depth ≡ true → d < depth
    less d depth h = grind (arith, nat_tests)

    more : (d depth : ℕ) → nat_lt d depth ≡ false → depth ≤ d
    more d depth h = grind (arith, nat_tests)

    same : (d : ℕ) → d < a.depth → SameTypes blocks new d
    same d h (Local e w) near = ap (λ (b : Block). b.types) (sym (other_depth e a.depth (fresh_at w) (blocks (Local e w)) (before e d a.depth near h)))
      where
        before : (e d depth : ℕ) → e ≤ d → d < depth → e < depth
        before e d depth h k = omega (arith, h, k)
    same d h (Global g) near = refl
    same d h (Received n) near = refl

    dead : (d v : ℕ) → a.depth ≤ d → LocalFits kept program.structs new d (slice_get (variables_at program active d) v) (blocks (Local d v))
    dead d v h =
        let none : slice_get (variables_at program active d) v ≡ None = no_variables program active a.depth d v below h in
        subst (λ o. LocalFits kept program.structs new d o (blocks (Local d v))) (sym none) (subst (λ o. LocalFits kept program.structs blocks d o (blocks (Local d v))) none (mem.locals d v))

    older : (d v : ℕ) (t : Bool) → nat_lt d a.depth ≡ t → LocalFits kept program.structs new d (slice_get (variables_at program active d) v) (blocks (Local d v))
    older d v true e = local_stays kept program.structs blocks new d (slice_get (variables_at program active d) v) (blocks (Local d v)) (same d (less d a.depth e)) (mem.locals d v)
    older d v false e = dead d v (more d a.depth e)

    at_local : (d v : ℕ) (t : Bool) → nat_eq d a.depth ≡ t →
        LocalFits kept program.structs new d (slice_get (if t then (context_in program a.function).variables else variables_at program active d) v) (if t then fresh_at v else blocks (Local d v))
    at_local d v true e = frame_fits kept program.structs new d (function_in program a.function).vars v
    at_local d v false e = older d v (nat_lt d a.depth) refl
