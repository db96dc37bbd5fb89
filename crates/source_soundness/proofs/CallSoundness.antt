-- Calls keep what fits: a function runs in a world one deeper, which is gone when it returns.
use Rattle.std.proofs.Common.{◌≡◌, ◌∙◌, ◌≤◌, ℕ, zero, suc, refl, ap, sym, subst, arith, Bool, true, false, Some, None, List, [], ◌∷◌, if◌then◌else◌, map, nat_eq, nat_le}
use Rattle.std.specs.Prelude.{IsTrue, ◌&&◌, slice_get, get_or}
use Rattle.std.proofs.lemmas.Bool.Decides.{nat_tests}
use Rattle.pt_tree.specs.declared.signature.Param.{Param}
use Rattle.pt_tree.specs.declared.signature.ParamKind.{ParamKind}
use Rattle.pt_tree.specs.declared.signature.ParamKind.TheVariants as k
use Rattle.typed_tree.specs.declared.types.VarTy.{VarTy}
use Rattle.typed_tree.specs.declared.types.VarTy.TheVariants.{Int, Struct, Array, Pointer}
use Rattle.typed_tree.specs.declared.variable.Var.{Var}
use Rattle.typed_tree.specs.TypeTests.{same_type, same_bool}
use Rattle.typed_tree.specs.WellFormed.{params_lead}
use Rattle.typed_tree.specs.WellFormedExpression.{param_type}
use Rattle.source_meaning.specs.Memory.{Block, local, global, Cell, number, null, pointer, Memory, with_frame}
use Rattle.source_meaning.specs.Values.{Value, cell_of, cleared, frame_cells}
use Rattle.source_meaning.specs.Functions.{without_locals}
use Rattle.source_soundness.specs.Worlds.{World, type_in, depth_of, IsScoped, CellsFit, Fits, ValueFits}
use Rattle.source_soundness.specs.Laws.{ArgumentsFit}
use Rattle.typed_tree.proofs.SameTypes.{equal_types}
use Rattle.source_soundness.proofs.Operators.{number_of_int, scoped_of_pointer}
use Rattle.source_soundness.proofs.StatementSoundness.{cleared_fit}
use Rattle.pt_base.proofs.Booleans.{both_hold_first, both_hold_second, false_not_true}
use Rattle.pt_base.proofs.Numbers.{nat_eq_same}

-- ---- worlds one deeper

-- the world in which a function with variables of these types runs
abbrev pub deeper : World → List VarTy → World
deeper w types = record { globals = w.globals; frames = λ d. if nat_eq d (suc w.depth) then types else w.frames d; depth = suc w.depth }

-- what was live still is, with its type
pub still_live : (w : World) (types : List VarTy) (b : Block) → depth_of b ≤ w.depth → type_in (deeper w types) b ≡ type_in w b
still_live w types (global g) le = refl
still_live w types (local d x) le = go (nat_eq d (suc w.depth)) (nat_le d (suc w.depth)) (nat_le d w.depth) (grind (arith, nat_tests)) (grind (arith, nat_tests)) (grind (arith, nat_tests))
  where
    go : (new below old : Bool) → new ≡ false → below ≡ true → old ≡ true → (if nat_le 1 d && below then slice_get (if new then types else w.frames d) x else None) ≡ (if nat_le 1 d && old then slice_get (w.frames d) x else None)
    go false true true p q r = refl
    go true below old p q r = cc
    go false false old p q r = cc
    go false true false p q r = cc

-- the variables of the function that runs
pub newly_live : (w : World) (types : List VarTy) (x : ℕ) → type_in (deeper w types) (local (suc w.depth) x) ≡ slice_get types x
newly_live w types x = go (nat_eq (suc w.depth) (suc w.depth)) (nat_le 1 (suc w.depth)) (nat_le (suc w.depth) (suc w.depth)) (grind (arith, nat_tests)) (grind (arith, nat_tests)) (grind (arith, nat_tests))
  where
    go : (new active below : Bool) → new ≡ true → active ≡ true → below ≡ true → (if active && below then slice_get (if new then types else w.frames (suc w.depth)) x else None) ≡ slice_get types x
    go true true true p q r = refl
    go false active below p q r = cc
    go true false below p q r = cc
    go true true false p q r = cc

pub scoped_deeper : (w : World) (types : List VarTy) (d : ℕ) (c : Cell) → d ≤ w.depth → IsScoped w d c → IsScoped (deeper w types) d c
scoped_deeper w types d (number v) le h = h
scoped_deeper w types d null le h = h
scoped_deeper w types d (pointer block base count index) le h = let low = h.3 in (h.0, still_live w types block (omega arith) ∙ h.1, h.2, h.3)

pub scoped_back : (w : World) (types : List VarTy) (d : ℕ) (c : Cell) → d ≤ w.depth → IsScoped (deeper w types) d c → IsScoped w d c
scoped_back w types d (number v) le h = h
scoped_back w types d null le h = h
scoped_back w types d (pointer block base count index) le h = let low = h.3 in (h.0, sym (still_live w types block (omega arith)) ∙ h.1, h.2, h.3)

cells_deeper : (w : World) (types : List VarTy) (d : ℕ) (ty : VarTy) (cells : List Cell) → d ≤ w.depth → CellsFit w d ty cells → CellsFit (deeper w types) d ty cells
cells_deeper w types d (Int t) cells le h = h
cells_deeper w types d (Struct n) cells le h = h
cells_deeper w types d (Array elem count) cells le h = h
cells_deeper w types d (Pointer elem fixed) cells le h = (h.0, h.1, scoped_deeper w types d h.0 le h.2)

cells_back : (w : World) (types : List VarTy) (d : ℕ) (ty : VarTy) (cells : List Cell) → d ≤ w.depth → CellsFit (deeper w types) d ty cells → CellsFit w d ty cells
cells_back w types d (Int t) cells le h = h
cells_back w types d (Struct n) cells le h = h
cells_back w types d (Array elem count) cells le h = h
cells_back w types d (Pointer elem fixed) cells le h = (h.0, h.1, scoped_back w types d h.0 le h.2)

-- what is live lies no deeper than the world
pub live_depth : (w : World) (b : Block) (ty : VarTy) → type_in w b ≡ Some ty → depth_of b ≤ w.depth
live_depth w (global g) ty h = omega arith
live_depth w (local d x) ty h = go (nat_le 1 d) (nat_le d w.depth) refl h
  where
    go : (a b : Bool) → nat_le d w.depth ≡ b → (if a && b then slice_get (w.frames d) x else None) ≡ Some ty → d ≤ w.depth
    go true true e h = grind (arith, nat_tests)
    go true false e h = cc
    go false b e h = cc

-- ---- a frame with its variables

-- the first variables take the arguments
abbrev pub Leads : List Param → List VarTy → Type 0
Leads [] types = Unit {0}
Leads (p ∷ ps) [] = ⊥
Leads (p ∷ ps) (ty ∷ types) = (param_type p.kind ≡ ty) × Leads ps types

pub leads : (ps : List Param) (xs : List Var) → IsTrue (params_lead ps xs) → Leads ps (map (λ (x : Var). x.ty) xs)
leads [] xs h = tt
leads (p ∷ ps) [] h = false_not_true h
leads (p ∷ ps) (x ∷ xs) h =
    let first = both_hold_first (same_type (param_type p.kind) x.ty && same_bool p.marked x.marked) (params_lead ps xs) h in
    (equal_types (param_type p.kind) x.ty (both_hold_first (same_type (param_type p.kind) x.ty) (same_bool p.marked x.marked) first), leads ps xs (both_hold_second (same_type (param_type p.kind) x.ty && same_bool p.marked x.marked) (params_lead ps xs) h))

argument_cell : (w : World) (types : List VarTy) (kind : ParamKind) (v : Value) → ValueFits w (Some (param_type kind)) v → CellsFit (deeper w types) (suc w.depth) (param_type kind) (cell_of v ∷ [])
argument_cell w types (k.Int t) v h = (number_of_int w t v h, tt)
argument_cell w types (k.Ptr elem fixed) v h = (cell_of v, refl, up (cell_of v) (scoped_of_pointer w elem fixed v h))
  where
    up : (c : Cell) → IsScoped w w.depth c → IsScoped (deeper w types) (suc w.depth) c
    up (number v) h = h
    up null h = h
    up (pointer block base count index) h = let low = h.3 in (h.0, still_live w types block h.3 ∙ h.1, h.2, omega arith)

-- the cells of each variable fit its type
frame_fits : (w : World) (all : List VarTy) (ss : List ℕ) (types : List VarTy) (ps : List Param) (vs : List Value) (x : ℕ) (ty : VarTy) → Leads ps types → ArgumentsFit w ps vs → slice_get types x ≡ Some ty → CellsFit (deeper w all) (suc w.depth) ty (get_or (frame_cells ss types vs) x [])
frame_fits w all ss [] ps vs x ty lead args is = cc
frame_fits w all ss (t ∷ types) [] [] zero ty lead args is = subst (λ z. CellsFit (deeper w all) (suc w.depth) z (cleared ss t)) (same is) (cleared_fit (deeper w all) (suc w.depth) ss t)
  where
    same : Some t ≡ Some ty → t ≡ ty
    same h = cc
frame_fits w all ss (t ∷ types) [] [] (suc x) ty lead args is = frame_fits w all ss types [] [] x ty tt tt is
frame_fits w all ss (t ∷ types) [] (v ∷ vs) x ty lead args is = absurd args
frame_fits w all ss (t ∷ types) (p ∷ ps) [] x ty lead args is = absurd args
frame_fits w all ss (t ∷ types) (p ∷ ps) (v ∷ vs) zero ty lead args is = subst (λ z. CellsFit (deeper w all) (suc w.depth) z (cell_of v ∷ [])) (lead.0 ∙ same is) (argument_cell w all p.kind v args.0)
  where
    same : Some t ≡ Some ty → t ≡ ty
    same h = cc
frame_fits w all ss (t ∷ types) (p ∷ ps) (v ∷ vs) (suc x) ty lead args is = frame_fits w all ss types ps vs x ty lead.1 args.1 is

-- a function is entered
pub entered_fits : (w : World) (m : Memory) (ss : List ℕ) (types : List VarTy) (ps : List Param) (vs : List Value) → Leads ps types → ArgumentsFit w ps vs → Fits w m → Fits (deeper w types) (with_frame m (suc w.depth) (frame_cells ss types vs))
entered_fits w m ss types ps vs lead args h (global g) ty is = cells_deeper w types 0 ty (m (global g)) (omega arith) (h (global g) ty is)
entered_fits w m ss types ps vs lead args h (local d x) ty is = go (nat_eq d (suc w.depth)) refl
  where
    own : d ≡ suc w.depth → CellsFit (deeper w types) d ty (get_or (frame_cells ss types vs) x [])
    own e = subst (λ z. CellsFit (deeper w types) z ty (get_or (frame_cells ss types vs) x [])) (sym e)
        (frame_fits w types ss types ps vs x ty lead args (sym (newly_live w types x) ∙ sym (ap (λ z. type_in (deeper w types) (local z x)) e) ∙ is))

    below : d ≤ suc w.depth → nat_eq d (suc w.depth) ≡ false → d ≤ w.depth
    below le e = grind (arith, nat_tests)

    go : (b : Bool) → nat_eq d (suc w.depth) ≡ b → CellsFit (deeper w types) d ty (if b then get_or (frame_cells ss types vs) x [] else m (local d x))
    go true e = own (nat_eq_same d (suc w.depth) e)
    go false e =
        let le = below (live_depth (deeper w types) (local d x) ty is) e in
        cells_deeper w types d ty (m (local d x)) le (h (local d x) ty (sym (still_live w types (local d x) le) ∙ is))

-- a function is left
pub left_fits : (w : World) (m : Memory) (types : List VarTy) → Fits (deeper w types) m → Fits w (without_locals m (suc w.depth))
left_fits w m types h (global g) ty is = cells_back w types 0 ty (m (global g)) (omega arith) (h (global g) ty is)
left_fits w m types h (local d x) ty is = go (nat_eq d (suc w.depth)) refl
  where
    le : d ≤ w.depth
    le = live_depth w (local d x) ty is

    go : (b : Bool) → nat_eq d (suc w.depth) ≡ b → CellsFit w d ty (if b then [] else m (local d x))
    go true e = none_so (nat_eq_same d (suc w.depth) e)
      where
        none_so : d ≡ suc w.depth → CellsFit w d ty []
        none_so e = absurd (impossible le e)
          where
            impossible : d ≤ w.depth → d ≡ suc w.depth → ⊥
            impossible le e = omega arith
    go false e = cells_back w types d ty (m (local d x)) le (h (local d x) ty (still_live w types (local d x) le ∙ is))
