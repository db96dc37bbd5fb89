-- A place that comes first is found again when what comes next has been evaluated: it is fixed, or nothing is
-- run in between.
use Rattle.std.proofs.Common.{◌≡◌, ◌∙◌, ◌≤◌, ◌<◌, ℕ, zero, suc, ◌+◌, pos, refl, ap, sym, subst, inr, arith, Bool, true, false, Option, Some, None, List, [], ◌∷◌, ◌++◌, length, append_assoc, Result, Ok, Err}
use Rattle.std.specs.Prelude.{IsTrue, slice_get}
use Rattle.std.proofs.lemmas.Option.{get_or_from_slice_get}
use Rattle.pt_base.specs.declared.int_type.IntType.TheVariants as i
use Rattle.pt_base.specs.declared.span.Span.{Span}
use Rattle.pt_base.proofs.Lists.{append_nil}
use Rattle.pt_tree.specs.declared.signature.Elem.{Elem}
use Rattle.runs.specs.State.{gives, trapped, spent, ◌>>=◌}
use Rattle.typed_tree.specs.declared.types.VarTy.{VarTy}
use Rattle.typed_tree.specs.declared.types.VarTy.TheVariants.{Int, Pointer}
use Rattle.block_memory.specs.declared.cell.Cell as core
use Rattle.block_memory.specs.declared.cell.BlockName.TheVariants.{Local, Global}
use Rattle.block_memory.specs.Block as b
use Rattle.block_memory.specs.Blocks.{Blocks}
use Rattle.source_meaning.specs.Memory.{Cell}
use Rattle.source_meaning.specs.State.{State, Outcome}
use Rattle.source_meaning.specs.Values.{Location}
use Rattle.source_meaning.specs.Expressions.{or_trap, dereferenced}
use Rattle.pt_core.specs.CodeTree as t
use Rattle.pt_core.specs.CodeTree.{StmtTree, PlaceTree, place, deref, check}
use Rattle.pt_core.specs.Types.{type_of, type_at, global_type, place_type, path_type, pointee_type}
use Rattle.pt_core.specs.Values as v
use Rattle.pt_core.specs.Values.{Stop, ◌>>?◌, along, pointee}
use Rattle.pt_core.specs.Statements as c
use Rattle.pt_core.specs.Statements.{Flow, goes_on, after_flow, evaluated}
use Rattle.lowering.specs.Lowered.{Temp, LoweredPlace, past, temp, hold}
use Rattle.lowering.specs.Expressions.{fixed_root, fixed_through, fixed_if}
use Rattle.c_lower_law.proofs.Relations.{Scene, context_of, frame_of, HasTemps, Kept, Alike, Same, After, below}
use Rattle.c_lower_law.proofs.Expressions.{run_all, cell_asked, place_asked, SameAsked, Gives, IsPlace, SceneFits}
use Rattle.c_lower_law.proofs.Runs.{pair, bind_bind, run_append, ok_then, err_as, asked_asked, asked_else}
use Rattle.c_lower_law.proofs.Memories.{kept_then, kept_same}
use Rattle.c_lower_law.proofs.Held.{own_length, past_append, temp_there, Holds, with_temp, temp_given, temp_read, hold_then, hold_then_stops, same_ok, same_err, not_both, joined, both, both_err, both_ok, IsNext, Both, pair_of, first_pure}
use Rattle.c_lower_law.proofs.Places.{led, IsPointer, Stage, StageOf, PlaceLowered, pointee_asked, stage_same}

-- ---- a place that memory doesn't move

steady_then : {B Y : Type 0} (s : Scene) (n m : ℕ) (ty : VarTy) (G : B → Y → Type 0) (source : State → Outcome Location) (next : State → Outcome B) (first stmts : List StmtTree) (p : PlaceTree) (at : v.Location) (ask : Blocks → Result Y Stop) → n ≤ m →
    ((blocks : Blocks) → place_asked s p blocks ≡ Ok at) → IsNext s (IsPlace s ty) n source first (place_asked s p) → IsNext s G m next stmts ask →
    IsNext s (Both (IsPlace s ty) G) n (pair_of source next) (first ++ stmts) (both (place_asked s p) ask)
steady_then {B} {Y} s n m ty G source next first stmts p at ask le steady one two st st' a =
    subst (λ z. SameAsked (Kept s (below n) st'.memory) (Gives s (below n) st'.memory (Both (IsPlace s ty) G)) (both (place_asked s p) ask) (pair_of source next st) z) (sym (run_append s first stmts st'))
    (asked_asked (Kept s (below n) st'.memory) (Kept s (below n) st'.memory) (Gives s (below n) st'.memory (IsPlace s ty)) (Gives s (below n) st'.memory (Both (IsPlace s ty) G)) (place_asked s p) (both (place_asked s p) ask) (source st) (run_all s first st') (λ l st1. next st1 >>= λ z. gives (l, z)) (run_all s stmts)
    (one st st' a) (λ stop st1' q e. not_both (place_asked s p st1'.memory) at stop (steady st1'.memory) e)
    (λ l st1 l' st1' q e. behind l st1 l' st1' q (same_ok (place_asked s p st1'.memory) at l' (steady st1'.memory) e)))
  where
    behind : (l : Location) (st1 : State) (l' : v.Location) (st1' : c.State) → Gives s (below n) st'.memory (IsPlace s ty) l st1 l' st1' → at ≡ l' →
        SameAsked (Kept s (below n) st'.memory) (Gives s (below n) st'.memory (Both (IsPlace s ty) G)) (both (place_asked s p) ask) (next st1 >>= λ z. gives (l, z)) (run_all s stmts st1')
    behind l st1 l' st1' q same =
        asked_else (Kept s (below m) st1'.memory) (Kept s (below n) st'.memory) (Gives s (below m) st1'.memory G) (Gives s (below n) st'.memory (Both (IsPlace s ty) G)) ask (both (place_asked s p) ask) (next st1) (run_all s stmts st1') (λ z. gives (l, z))
        (two st1 st1' q.after.alike) (λ blocks k. all_kept blocks k)
        (λ stop blocks k e. both_ok (place_asked s p) ask blocks at (steady blocks) ∙ ap (λ r. r >>? λ y. Ok (at, y)) e)
        (λ z st2 y st2' w e.
        subst (λ r. Same (Gives s (below n) st'.memory (Both (IsPlace s ty) G)) (gives (l, z) st2) (evaluated r st2' (λ y. gives y)))
        (sym (both_ok (place_asked s p) ask st2'.memory at (steady st2'.memory) ∙ ap (λ r. r >>? λ y. Ok (at, y)) e))
        (record { after = record { alike = w.after.alike; kept = all_kept st2'.memory w.after.kept }; facts = (subst (λ u. IsPlace s ty l u) (sym same) q.facts, w.facts) }))
      where
        all_kept : (blocks : Blocks) → Kept s (below m) st1'.memory blocks → Kept s (below n) st'.memory blocks
        all_kept blocks kept = kept_then s (below n) (below m) (below n) st'.memory st1'.memory blocks q.after.kept kept (λ k h. h) (λ k h. omega (arith, le, h))

-- ---- a place behind a pointer that is held

deref_then : {B Y : Type 0} (s : Scene) (n k : ℕ) (ty : VarTy) (G : B → Y → Type 0) (source : State → Outcome Location) (keeps : Temp) (first : List StmtTree) (p : t.ExprTree) (at : Span) (path : List ℕ) (next : State → Outcome B) (stmts : List StmtTree) (ask : Blocks → Result Y Stop) →
    SceneFits s → length s.names.vars ≤ n → n ≤ k → slice_get s.core_variables k ≡ Some keeps.ty → Stage s ty n source keeps first p at path → IsNext s G (suc k) next stmts ask →
    IsNext s (Both (IsPlace s ty) G) n (pair_of source next) ((first ++ (hold k p ∷ check (place (deref (temp k) at) path) ∷ [])) ++ stmts) (both (place_asked s (place (deref (temp k) at) path)) ask)
deref_then {B} {Y} s n k ty G source keeps first p at path next stmts ask fits far le there g two st st' a =
    subst (λ o. SameAsked (Kept s (below n) st'.memory) (Gives s (below n) st'.memory (Both (IsPlace s ty) G)) (both (place_asked s (place (deref (temp k) at) path)) ask) o (run_all s ((first ++ (hold k p ∷ check (place (deref (temp k) at) path) ∷ [])) ++ stmts) st'))
    (sym (ap (λ o. o >>= λ l st1. next st1 >>= λ z. gives (l, z)) (g.is st a.fits) ∙ bind_bind (g.from st) (λ y st1. or_trap at (dereferenced (context_of s) (Pointer g.elem g.fixed) y) st1 >>= λ l. gives (led (context_of s) path l)) (λ l st1. next st1 >>= λ z. gives (l, z))))
    (subst (λ z. SameAsked (Kept s (below n) st'.memory) (Gives s (below n) st'.memory (Both (IsPlace s ty) G)) (both (place_asked s (place (deref (temp k) at) path)) ask) (g.from st >>= λ y st1. (or_trap at (dereferenced (context_of s) (Pointer g.elem g.fixed) y) st1 >>= λ l. gives (led (context_of s) path l)) >>= λ l st2. next st2 >>= λ z. gives (l, z)) z)
    (sym (ap (λ xs. run_all s xs st') (append_assoc first (hold k p ∷ check (place (deref (temp k) at) path) ∷ []) stmts) ∙ run_append s first (hold k p ∷ check (place (deref (temp k) at) path) ∷ stmts) st'))
    (asked_asked (Kept s (below n) st'.memory) (Kept s (below n) st'.memory) (Gives s (below n) st'.memory (IsPointer s g.elem)) (Gives s (below n) st'.memory (Both (IsPlace s ty) G)) (cell_asked s p) (both (place_asked s (place (deref (temp k) at) path)) ask) (g.from st) (run_all s first st')
    (λ y st1. (or_trap at (dereferenced (context_of s) (Pointer g.elem g.fixed) y) st1 >>= λ l. gives (led (context_of s) path l)) >>= λ l st2. next st2 >>= λ z. gives (l, z)) (run_all s (hold k p ∷ check (place (deref (temp k) at) path) ∷ stmts))
    (g.runs st st' a)
    (λ stop st1' q e. hold_then_stops s k p (check (place (deref (temp k) at) path) ∷ stmts) stop st1' e)
    (λ y st1 z st1' q e.
    subst (λ u. SameAsked (Kept s (below n) st'.memory) (Gives s (below n) st'.memory (Both (IsPlace s ty) G)) (both (place_asked s (place (deref (temp k) at) path)) ask) ((or_trap at (dereferenced (context_of s) (Pointer g.elem g.fixed) y) st1 >>= λ l. gives (led (context_of s) path l)) >>= λ l st2. next st2 >>= λ z. gives (l, z)) u)
    (sym (hold_then s k p (check (place (deref (temp k) at) path) ∷ stmts) z st1' e))
    (found y st1 z st1' q (temp_given s k z keeps.ty st1 st1' fits (omega (arith, far, le)) there q.after.alike)))))
  where
    held_type : type_of (frame_of s).context (temp k) ≡ Pointer g.elem g.held
    held_type = get_or_from_slice_get s.core_variables k keeps.ty (Int i.Int) there ∙ g.keeps_type

    far_enough : length (s.frames s.frame.depth) ≤ k
    far_enough = let own = own_length s fits in omega (arith, own, far, le)

    asked_there : (z : core.Cell) (blocks : Blocks) → (blocks (Local s.frame.depth k)).cells ≡ z ∷ [] → place_asked s (place (deref (temp k) at) path) blocks ≡ (pointee (frame_of s).context at (Pointer g.elem g.held) z >>? λ l. Ok (along (frame_of s).context path l))
    asked_there z blocks e = pointee_asked s (temp k) at path blocks g.elem g.held z held_type (temp_read s k z blocks e)

    found : (y : Cell) (st1 : State) (z : core.Cell) (st1' : c.State) → Gives s (below n) st'.memory (IsPointer s g.elem) y st1 z st1' → Holds s k z st1'.memory st1 (with_temp s k z st1') →
        SameAsked (Kept s (below n) st'.memory) (Gives s (below n) st'.memory (Both (IsPlace s ty) G)) (both (place_asked s (place (deref (temp k) at) path)) ask) ((or_trap at (dereferenced (context_of s) (Pointer g.elem g.fixed) y) st1 >>= λ l. gives (led (context_of s) path l)) >>= λ l st2. next st2 >>= λ z. gives (l, z))
        (run_all s (check (place (deref (temp k) at) path) ∷ stmts) (with_temp s k z st1'))
    found y st1 z st1' q h =
        subst (λ r. SameAsked (Kept s (below n) st'.memory) (Gives s (below n) st'.memory (Both (IsPlace s ty) G)) (both (place_asked s (place (deref (temp k) at) path)) ask) ((or_trap at (dereferenced (context_of s) (Pointer g.elem g.fixed) y) st1 >>= λ l. gives (led (context_of s) path l)) >>= λ l st2. next st2 >>= λ z. gives (l, z))
        (evaluated r (with_temp s k z st1') (λ l. gives goes_on) >>= after_flow (run_all s stmts))) (sym (asked_there z (with_temp s k z st1').memory h.cell))
        (go (pointee (frame_of s).context at (Pointer g.elem g.held) z >>? λ l. Ok (along (frame_of s).context path l)) refl
        (stage_same s ty n st'.memory source keeps first p at path g g.held y z st1 (with_temp s k z st1') (record { alike = h.alike; kept = before_kept }) q.facts))
      where
        before_kept : Kept s (below n) st'.memory (with_temp s k z st1').memory
        before_kept = kept_then s (below n) (below k) (below n) st'.memory st1'.memory (with_temp s k z st1').memory q.after.kept h.kept (λ j h. h) (λ j h. omega (arith, le, h))

        all_kept : (blocks : Blocks) → Kept s (below (suc k)) (with_temp s k z st1').memory blocks → Kept s (below n) st'.memory blocks
        all_kept blocks kept = kept_then s (below n) (below (suc k)) (below n) st'.memory (with_temp s k z st1').memory blocks before_kept kept (λ j h. h) (λ j h. omega (arith, le, h))

        still : (blocks : Blocks) → Kept s (below (suc k)) (with_temp s k z st1').memory blocks → (blocks (Local s.frame.depth k)).cells ≡ z ∷ []
        still blocks kept = ap (λ (bl : b.Block). bl.cells) (kept s.frame.depth k far_enough (inr (refl, omega arith))) ∙ h.cell

        go : (r : Result v.Location Stop) → (pointee (frame_of s).context at (Pointer g.elem g.held) z >>? λ l. Ok (along (frame_of s).context path l)) ≡ r →
            Same (Gives s (below n) st'.memory (IsPlace s ty)) (or_trap at (dereferenced (context_of s) (Pointer g.elem g.fixed) y) st1 >>= λ l. gives (led (context_of s) path l)) (evaluated r (with_temp s k z st1') (λ l. gives l)) →
            SameAsked (Kept s (below n) st'.memory) (Gives s (below n) st'.memory (Both (IsPlace s ty) G)) (both (place_asked s (place (deref (temp k) at) path)) ask) ((or_trap at (dereferenced (context_of s) (Pointer g.elem g.fixed) y) st1 >>= λ l. gives (led (context_of s) path l)) >>= λ l st2. next st2 >>= λ z. gives (l, z))
            (evaluated r (with_temp s k z st1') (λ l. gives goes_on) >>= after_flow (run_all s stmts))
        go (Err stop) is same =
            err_as (Gives s (below n) st'.memory (IsPlace s ty)) (Gives s (below n) st'.memory (Both (IsPlace s ty) G)) (or_trap at (dereferenced (context_of s) (Pointer g.elem g.fixed) y) st1 >>= λ l. gives (led (context_of s) path l)) (λ l st2. next st2 >>= λ z. gives (l, z)) stop.trap stop.span (with_temp s k z st1') same
        go (Ok l') is same =
            ok_then (Gives s (below n) st'.memory (IsPlace s ty)) (λ o. SameAsked (Kept s (below n) st'.memory) (Gives s (below n) st'.memory (Both (IsPlace s ty) G)) (both (place_asked s (place (deref (temp k) at) path)) ask) o (run_all s stmts (with_temp s k z st1')))
            (or_trap at (dereferenced (context_of s) (Pointer g.elem g.fixed) y) st1 >>= λ l. gives (led (context_of s) path l)) (λ l st2. next st2 >>= λ z. gives (l, z)) l' (with_temp s k z st1') same
            (λ l st2 w.
            asked_else (Kept s (below (suc k)) (with_temp s k z st1').memory) (Kept s (below n) st'.memory) (Gives s (below (suc k)) (with_temp s k z st1').memory G) (Gives s (below n) st'.memory (Both (IsPlace s ty) G)) ask (both (place_asked s (place (deref (temp k) at) path)) ask) (next st2) (run_all s stmts (with_temp s k z st1')) (λ z. gives (l, z))
            (two st2 (with_temp s k z st1') w.after.alike) (λ blocks h1. all_kept blocks h1)
            (λ stop blocks h1 e. both_ok (place_asked s (place (deref (temp k) at) path)) ask blocks l' (asked_there z blocks (still blocks h1) ∙ is) ∙ ap (λ r. r >>? λ y. Ok (l', y)) e)
            (λ x st3 y1 st3' w1 e.
            subst (λ r. Same (Gives s (below n) st'.memory (Both (IsPlace s ty) G)) (gives (l, x) st3) (evaluated r st3' (λ y. gives y)))
            (sym (both_ok (place_asked s (place (deref (temp k) at) path)) ask st3'.memory l' (asked_there z st3'.memory (still st3'.memory w1.after.kept) ∙ is) ∙ ap (λ r. r >>? λ y. Ok (l', y)) e))
            (record { after = record { alike = w1.after.alike; kept = all_kept st3'.memory w1.after.kept }; facts = (w.facts, w1.facts) })))

-- ---- either way

-- a place that can be fixed comes first
abbrev pub PlaceThen : {B Y : Type 0} → Scene → ℕ → VarTy → (B → Y → Type 0) → (State → Outcome Location) → (State → Outcome B) → List StmtTree → (Blocks → Result Y Stop) → LoweredPlace → Type 0
PlaceThen s n ty G source next stmts ask p = IsNext s (Both (IsPlace s ty) G) n (pair_of source next) (p.stmts ++ stmts) (both (place_asked s p.place) ask)

past_two : (n : ℕ) (xs : List Temp) (x : Temp) → past n (xs ++ x ∷ []) ≡ suc (past n xs)
past_two n xs x = past_append n xs (x ∷ []) ∙ next_number (past n xs)
  where
    next_number : (m : ℕ) → past m (x ∷ []) ≡ suc m
    next_number m = omega arith

fixed_then : {B Y : Type 0} (s : Scene) (n : ℕ) (ty : VarTy) (p : LoweredPlace) (G : B → Y → Type 0) (source : State → Outcome Location) (next : State → Outcome B) (stmts : List StmtTree) (ask : Blocks → Result Y Stop) →
    SceneFits s → length s.names.vars ≤ n → IsNext s (IsPlace s ty) n source p.stmts (place_asked s p.place) → (o : Option Temp) (q : PlaceTree) → p.place ≡ q → StageOf s ty n source o p.stmts q →
    HasTemps s.core_variables n (fixed_through n o p).temps → IsNext s G (past n (fixed_through n o p).temps) next stmts ask → PlaceThen s n ty G source next stmts ask (fixed_through n o p)
fixed_then s n ty p G source next stmts ask fits from runs None (place (t.local k) path) is g temps two =
    steady_then s n (past n p.temps) ty G source next p.stmts stmts p.place (along (frame_of s).context path (record { block = Local s.frame.depth k; cell = 0; ty = type_at s.core_variables k })) ask (omega arith) (λ blocks. ap (λ z. place_asked s z blocks) is) runs two
fixed_then s n ty p G source next stmts ask fits from runs None (place (t.global k) path) is g temps two =
    steady_then s n (past n p.temps) ty G source next p.stmts stmts p.place (along (frame_of s).context path (record { block = Global k; cell = 0; ty = global_type (frame_of s).context k })) ask (omega arith) (λ blocks. ap (λ z. place_asked s z blocks) is) runs two
fixed_then s n ty p G source next stmts ask fits from runs None (place (deref e at) path) is g temps two = absurd g
fixed_then s n ty p G source next stmts ask fits from runs (Some x) (place (t.local k) path) is g temps two =
    subst (λ z. HasTemps s.core_variables n (fixed_root n x p z).temps → IsNext s G (past n (fixed_root n x p z).temps) next stmts ask → PlaceThen s n ty G source next stmts ask (fixed_root n x p z)) (sym is)
    (λ temps1 two1. steady_then s n (past n p.temps) ty G source next p.stmts stmts p.place (along (frame_of s).context path (record { block = Local s.frame.depth k; cell = 0; ty = type_at s.core_variables k })) ask (omega arith) (λ blocks. ap (λ z. place_asked s z blocks) is) runs two1) temps two
fixed_then s n ty p G source next stmts ask fits from runs (Some x) (place (t.global k) path) is g temps two =
    subst (λ z. HasTemps s.core_variables n (fixed_root n x p z).temps → IsNext s G (past n (fixed_root n x p z).temps) next stmts ask → PlaceThen s n ty G source next stmts ask (fixed_root n x p z)) (sym is)
    (λ temps1 two1. steady_then s n (past n p.temps) ty G source next p.stmts stmts p.place (along (frame_of s).context path (record { block = Global k; cell = 0; ty = global_type (frame_of s).context k })) ask (omega arith) (λ blocks. ap (λ z. place_asked s z blocks) is) runs two1) temps two
fixed_then s n ty p G source next stmts ask fits from runs (Some x) (place (deref e at) path) is g temps two =
    subst (λ z. HasTemps s.core_variables n (fixed_root n x p z).temps → IsNext s G (past n (fixed_root n x p z).temps) next stmts ask → PlaceThen s n ty G source next stmts ask (fixed_root n x p z)) (sym is)
    (λ temps1 two1. deref_then s n (past n p.temps) ty G source x p.stmts e at path next stmts ask fits from (omega arith) (temp_there s.core_variables n p.temps x [] temps1) g (subst (λ m. IsNext s G m next stmts ask) (past_two n p.temps x) two1)) temps two

pub place_then : {B Y : Type 0} (s : Scene) (n : ℕ) (ty : VarTy) (can fix : Bool) (p : LoweredPlace) (G : B → Y → Type 0) (source : State → Outcome Location) (next : State → Outcome B) (stmts : List StmtTree) (ask : Blocks → Result Y Stop) →
    SceneFits s → length s.names.vars ≤ n → HasTemps s.core_variables n (fixed_if fix n p).temps → IsTrue can → PlaceLowered s ty n can source p → IsNext s G (past n (fixed_if fix n p).temps) next stmts ask → (fix ≡ false → stmts ≡ []) →
    PlaceThen s n ty G source next stmts ask (fixed_if fix n p)
place_then s n ty can true p G source next stmts ask fits from temps ok h two pure = fixed_then s n ty p G source next stmts ask fits from h.runs p.through p.place refl (h.stage ok) temps two
place_then s n ty can false p G source next stmts ask fits from temps ok h two pure =
    subst (λ xs. IsNext s (Both (IsPlace s ty) G) n (pair_of source next) (p.stmts ++ xs) (both (place_asked s p.place) ask)) (sym (pure refl))
    (subst (λ xs. IsNext s (Both (IsPlace s ty) G) n (pair_of source next) xs (both (place_asked s p.place) ask)) (sym (append_nil p.stmts))
    (first_pure s n (past n p.temps) (IsPlace s ty) G source next p.stmts (place_asked s p.place) ask (omega arith) h.runs (subst (λ xs. IsNext s G (past n p.temps) next xs ask) (pure refl) two)))

-- ---- the type of a place that is fixed

fixed_types : (s : Scene) (n : ℕ) (u ty : VarTy) (source : State → Outcome Location) (p : LoweredPlace) (o : Option Temp) (q : PlaceTree) → p.place ≡ q → StageOf s ty n source o p.stmts q → HasTemps s.core_variables n (fixed_through n o p).temps → place_type (frame_of s).context p.place ≡ u →
    place_type (frame_of s).context (fixed_through n o p).place ≡ u
fixed_types s n u ty source p None q is g temps h = h
fixed_types s n u ty source p (Some keeps) (place (t.local k) path) is g temps h = subst (λ z. place_type (frame_of s).context (fixed_root n keeps p z).place ≡ u) (sym is) h
fixed_types s n u ty source p (Some keeps) (place (t.global k) path) is g temps h = subst (λ z. place_type (frame_of s).context (fixed_root n keeps p z).place ≡ u) (sym is) h
fixed_types s n u ty source p (Some keeps) (place (deref e1 at) path) is g temps h =
    subst (λ z. HasTemps s.core_variables n (fixed_root n keeps p z).temps → place_type (frame_of s).context (fixed_root n keeps p z).place ≡ u) (sym is)
    (λ temps1. ap (λ w. path_type s.names.structs (pointee_type w) path) (get_or_from_slice_get s.core_variables (past n p.temps) keeps.ty (Int i.Int) (temp_there s.core_variables n p.temps keeps [] temps1) ∙ g.keeps_type)
    ∙ sym (ap (λ w. path_type s.names.structs (pointee_type w) path) g.type) ∙ sym (ap (λ z. place_type (frame_of s).context z) is) ∙ h) temps

pub fixed_place_type : (s : Scene) (n : ℕ) (u ty : VarTy) (p : LoweredPlace) (source : State → Outcome Location) → HasTemps s.core_variables n (fixed_if true n p).temps → place_type (frame_of s).context p.place ≡ u → StageOf s ty n source p.through p.stmts p.place →
    place_type (frame_of s).context (fixed_if true n p).place ≡ u
fixed_place_type s n u ty p source temps h g = fixed_types s n u ty source p p.through p.place refl g temps h

-- nothing comes behind
abbrev nothing_next : State → Outcome ℕ
nothing_next st = gives 0 st

abbrev zero_result : Result ℕ Stop
zero_result = Ok 0

abbrev nothing_asked : Blocks → Result ℕ Stop
nothing_asked blocks = zero_result

-- a place that is fixed, with nothing behind it
pub fixed_runs : (s : Scene) (n : ℕ) (u : VarTy) (can fix : Bool) (p : LoweredPlace) (source : State → Outcome Location) → SceneFits s → length s.names.vars ≤ n → HasTemps s.core_variables n (fixed_if fix n p).temps → IsTrue can → PlaceLowered s u n can source p →
    IsNext s (IsPlace s u) n source (fixed_if fix n p).stmts (place_asked s (fixed_if fix n p).place)
fixed_runs s n u can fix p source fits from temps ok h st st' al =
    subst (λ o. SameAsked (Kept s (below n) st'.memory) (Gives s (below n) st'.memory (IsPlace s u)) (place_asked s (fixed_if fix n p).place) o (run_all s (fixed_if fix n p).stmts st')) (first_only (source st))
    (asked_else (Kept s (below n) st'.memory) (Kept s (below n) st'.memory) (Gives s (below n) st'.memory (Both (IsPlace s u) (λ (a : ℕ) (z : ℕ). Unit {0}))) (Gives s (below n) st'.memory (IsPlace s u)) (both (place_asked s (fixed_if fix n p).place) nothing_asked) (place_asked s (fixed_if fix n p).place) (pair_of source nothing_next st) (run_all s (fixed_if fix n p).stmts st') (λ q. gives q.0)
    (subst (λ xs. SameAsked (Kept s (below n) st'.memory) (Gives s (below n) st'.memory (Both (IsPlace s u) (λ (a : ℕ) (z : ℕ). Unit {0}))) (both (place_asked s (fixed_if fix n p).place) nothing_asked) (pair_of source nothing_next st) (run_all s xs st')) (append_nil (fixed_if fix n p).stmts)
    (place_then s n u can fix p (λ (a : ℕ) (z : ℕ). Unit {0}) source nothing_next [] nothing_asked fits from temps ok h (λ st1 st1' a1. (refl, kept_same s (below (past n (fixed_if fix n p).temps)) st1'.memory, record { after = record { alike = a1; kept = kept_same s (below (past n (fixed_if fix n p).temps)) st1'.memory }; facts = tt })) (λ e1. refl) st st' al))
    (λ blocks k. k) (λ stop blocks k no. first_no (place_asked s (fixed_if fix n p).place blocks) stop no)
    (λ q st1 z st1' g is. subst (λ r. Same (Gives s (below n) st'.memory (IsPlace s u)) (gives q.0 st1) (evaluated r st1' (λ l. gives l))) (sym (first_yes (place_asked s (fixed_if fix n p).place st1'.memory) z is)) (record { after = g.after; facts = g.facts.0 })))
  where
    first_only : (o : Outcome Location) → ((o >>= λ l st1. nothing_next st1 >>= λ z. gives (pair l z)) >>= λ q. gives q.0) ≡ o
    first_only (gives l st1) = refl
    first_only (trapped trap span st1) = refl
    first_only (spent st1) = refl

    first_no : (r : Result v.Location Stop) (stop : Stop) → joined r zero_result ≡ Err stop → r ≡ Err stop
    first_no (Ok l) stop e1 = not_both (joined (Ok l) zero_result) (l, 0) stop refl e1
    first_no (Err stop1) stop e1 = ap (λ z. Err z) (same_err (joined (Err stop1) zero_result) stop1 stop refl e1)

    first_yes : (r : Result v.Location Stop) (z : v.Location × ℕ) → joined r zero_result ≡ Ok z → r ≡ Ok z.0
    first_yes (Ok l) z e1 = ap (λ q. Ok q) (ap (λ (w : v.Location × ℕ). w.0) (same_ok (joined (Ok l) zero_result) (l, 0) z refl e1))
    first_yes (Err stop1) z e1 = not_both (joined (Err stop1) zero_result) z stop1 e1 refl
