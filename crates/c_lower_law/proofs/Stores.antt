-- Assignments: what is stored, and what is read behind it.
use Rattle.std.proofs.Common.{◌≡◌, ◌∙◌, ◌≤◌, ◌<◌, ℕ, zero, suc, ◌+◌, pos, refl, ap, sym, subst, inr, length-append, arith, Bool, true, false, Option, Some, None, List, [], ◌∷◌, ◌++◌, map, length, append_assoc, Result, Ok, Err, if◌then◌else◌}
use Rattle.std.specs.Prelude.{IsTrue, slice_get, slice_set, slice_index_or}
use Rattle.pt_base.specs.declared.int_type.IntType.{IntType}
use Rattle.pt_base.specs.declared.int_type.IntType.TheVariants as i
use Rattle.pt_base.specs.declared.span.Span.{Span}
use Rattle.pt_base.specs.declared.trap.Trap.{Trap}
use Rattle.runs.specs.State.{gives, trapped, spent, ◌>>=◌}
use Rattle.runs.specs.Pointers.{if_ok}
use Rattle.typed_tree.specs.declared.types.VarTy.{VarTy}
use Rattle.typed_tree.specs.declared.types.VarTy.TheVariants.{Int, Struct, Array, Pointer}
use Rattle.typed_tree.specs.declared.link.LinkStep.{LinkStep}
use Rattle.typed_tree.specs.declared.link.LinkStep.TheVariants.{Arithmetic, Shift, Move, MoveBy, Difference, Compare}
use Rattle.typed_tree.specs.TypeTests.{same_int}
use Rattle.block_memory.specs.declared.cell.Cell as core
use Rattle.block_memory.specs.declared.cell.Cell.TheVariants as cell
use Rattle.block_memory.specs.declared.cell.BlockName.TheVariants.{Local, Global}
use Rattle.block_memory.specs.Block as b
use Rattle.block_memory.specs.Block.{with_cell}
use Rattle.block_memory.specs.Blocks.{Blocks}
use Rattle.source_meaning.specs.Memory.{Block, Cell, number, read, write}
use Rattle.source_meaning.specs.State.{State, Outcome}
use Rattle.source_meaning.specs.Values as m
use Rattle.source_meaning.specs.Values.{Value, holds, cell_of, Location}
use Rattle.source_meaning.specs.Expressions as e
use Rattle.source_meaning.specs.Expressions.{or_trap, store, compounded}
use Rattle.source_soundness.specs.Worlds.{World, type_in, ValueFits}
use Rattle.source_soundness.specs.Sizes.{object_cells}
use Rattle.typed_tree.proofs.SameTypes.{equal_ints}
use Rattle.pt_core.specs.CodeTree as t
use Rattle.pt_core.specs.CodeTree.{StmtTree, PlaceTree, place, deref, assign}
use Rattle.pt_core.specs.Types.{type_of}
use Rattle.pt_core.specs.Values as v
use Rattle.pt_core.specs.Values.{Stop, ◌>>?◌, written}
use Rattle.pt_core.specs.Statements as c
use Rattle.pt_core.specs.Statements.{Flow, goes_on, after_flow, evaluated, with_blocks}
use Rattle.lowering.specs.Lowered.{Temp, LoweredPlace, past, temp, hold}
use Rattle.lowering.specs.Operators as l
use Rattle.lowering.specs.Operators.{stepped, stored}
use Rattle.lowering.specs.Expressions.{fixed_root, fixed_through, fixed_if}
use Rattle.c_lower_law.proofs.Relations.{name_of, core_cell, Scene, world_of, context_of, frame_of, sizes_in, HasTemps, Kept, Alike, Same, After, below, all}
use Rattle.c_lower_law.proofs.Expressions.{run_all, cell_asked, place_asked, SameAsked, SameCell, Gives, IsValue, IsPlace, IsDropped, SceneFits}
use Rattle.c_lower_law.proofs.Runs.{bind_bind, bind_gives, run_append, Stops, stops_at, stops_same, stops_same_asked, asked_run, asked_asked}
use Rattle.c_lower_law.proofs.Memories.{put_there, objects_written, room_object, kept_then, kept_object, kept_less}
use Rattle.c_lower_law.proofs.Held.{own_length, Holds, with_temp, temp_given, temp_read, hold_then, hold_then_stops, same_ok, same_err, not_both, joined, both, both_ok, both_err, IsNext, Both, pair_of}
use Rattle.c_lower_law.proofs.Operators.{PointerType, told_as, Computes, TakesLeft, PlainStep, PointsTo, step_same, step_stops, stored_same, stored_stops}
use Rattle.c_lower_law.proofs.Places.{some_same, Stage, StageOf, pair_then}
use Rattle.c_lower_law.proofs.Values.{Near, near, GivesNear, IsNear, Scalar, read_same, same_cell, pair_same}

-- ---- what is written

-- a cell that was set is read
set_get : (xs : List core.Cell) (k : ℕ) (x : core.Cell) → k < length xs → slice_index_or (slice_set xs k x) k (cell.Int (pos 0)) ≡ x
set_get [] k x h = absurd (nothing_less h)
  where
    nothing_less : k < 0 → ⊥
    nothing_less h = omega arith
set_get (y ∷ ys) zero x h = refl
set_get (y ∷ ys) (suc k) x h = set_get ys k x (omega arith)

pub length_map : (xs : List Cell) → length (map core_cell xs) ≡ length xs
length_map [] = refl
length_map (x ∷ xs) = ap suc (length_map xs)

one_cell : (ss : List ℕ) (u : VarTy) → Scalar u → object_cells ss u ≡ 1
one_cell ss (Int u) h = refl
one_cell ss (Pointer elem fixed) h = refl
one_cell ss (Struct n) h = absurd h
one_cell ss (Array elem count) h = absurd h

-- the state in which a cell of an object is written
abbrev pub with_written : v.Location → core.Cell → c.State → c.State
with_written at x st = with_blocks (written st.memory at.block at.cell x) st

written_same : (s : Scene) (u : VarTy) (at : Location) (at' : v.Location) (blocks : Blocks) (x : core.Cell) → IsPlace s u at at' → written blocks at'.block at'.cell x ≡ written blocks (name_of at.block) at.cell x
written_same s u at at' blocks x p = ap (λ z. written blocks z at'.cell x) p.block ∙ ap (λ z. written blocks (name_of at.block) z x) p.cell

pub near_written : (s : Scene) (u : VarTy) (at : Location) (at' : v.Location) (y : Cell) (st : State) (st' : c.State) → SceneFits s → Alike s st st' → IsPlace s u at at' → Near s (record st { memory = write st.memory at.block at.cell y }) (with_written at' (core_cell y) st')
near_written s u at at' y st st' fits a p =
    subst (λ z. Near s (record st { memory = write st.memory at.block at.cell y }) (with_blocks z st')) (sym (written_same s u at at' st'.memory (core_cell y) p))
    (record {
      objects = objects_written (world_of s) st.memory st'.memory at.block at.cell y p.fits.in_ a.objects p.fits.live;
      room = room_object s st'.memory at.block (with_cell (st'.memory (name_of at.block)) at.cell (core_cell y)) p.fits.in_ (own_length s fits) p.fits.live a.room;
      hosts = a.hosts;
      input = a.input;
      seen = record { events = a.seen.events; left = a.seen.left };
    })

kept_written : (s : Scene) (u : VarTy) (at : Location) (at' : v.Location) (blocks : Blocks) (x : core.Cell) → IsPlace s u at at' → Kept s all blocks (written blocks at'.block at'.cell x)
kept_written s u at at' blocks x p = subst (λ z. Kept s all blocks z) (sym (written_same s u at at' blocks x p)) (kept_object s blocks at.block (with_cell (blocks (name_of at.block)) at.cell x) p.fits.in_ p.fits.live)

pub kept_after : (s : Scene) (n : ℕ) (u : VarTy) (at : Location) (at' : v.Location) (before blocks : Blocks) (x : core.Cell) → IsPlace s u at at' → Kept s (below n) before blocks → Kept s (below n) before (written blocks at'.block at'.cell x)
kept_after s n u at at' before blocks x p k = kept_then s (below n) all (below n) before blocks (written blocks at'.block at'.cell x) k (kept_written s u at at' blocks x p) (λ j h. h) (λ j h. tt)

-- ---- places that are found again

-- a place that only temporaries before k move
abbrev pub OnTemps : Scene → ℕ → PlaceTree → Type 0
OnTemps s k p = (x y : Blocks) → ((j : ℕ) → length (s.frames s.frame.depth) ≤ j → j < k → y (Local s.frame.depth j) ≡ x (Local s.frame.depth j)) → place_asked s p y ≡ place_asked s p x

temps_kept : (s : Scene) (k : ℕ) (x y : Blocks) → Kept s (below k) x y → (j : ℕ) → length (s.frames s.frame.depth) ≤ j → j < k → y (Local s.frame.depth j) ≡ x (Local s.frame.depth j)
temps_kept s k x y kept j far near = kept s.frame.depth j far (inr (refl, near))

on_temps : (s : Scene) (n : ℕ) (ty : VarTy) (source : State → Outcome Location) (p : LoweredPlace) (o : Option Temp) (q : PlaceTree) → length (s.frames s.frame.depth) ≤ n → p.place ≡ q → StageOf s ty n source o p.stmts q → OnTemps s (past n (fixed_through n o p).temps) (fixed_through n o p).place
on_temps s n ty source p None (place (t.local k) path) far is g x y same = ap (λ z. place_asked s z y) is ∙ sym (ap (λ z. place_asked s z x) is)
on_temps s n ty source p None (place (t.global k) path) far is g x y same = ap (λ z. place_asked s z y) is ∙ sym (ap (λ z. place_asked s z x) is)
on_temps s n ty source p None (place (deref e1 at) path) far is g x y same = absurd g
on_temps s n ty source p (Some keeps) (place (t.local k) path) far is g x y same =
    subst (λ z. OnTemps s (past n (fixed_root n keeps p z).temps) (fixed_root n keeps p z).place) (sym is) (λ x1 y1 same1. ap (λ z. place_asked s z y1) is ∙ sym (ap (λ z. place_asked s z x1) is)) x y same
on_temps s n ty source p (Some keeps) (place (t.global k) path) far is g x y same =
    subst (λ z. OnTemps s (past n (fixed_root n keeps p z).temps) (fixed_root n keeps p z).place) (sym is) (λ x1 y1 same1. ap (λ z. place_asked s z y1) is ∙ sym (ap (λ z. place_asked s z x1) is)) x y same
on_temps s n ty source p (Some keeps) (place (deref e1 at) path) far is g x y same =
    subst (λ z. OnTemps s (past n (fixed_root n keeps p z).temps) (fixed_root n keeps p z).place) (sym is)
    (λ x1 y1 same1. ap (λ (bl : b.Block). (Ok (slice_index_or bl.cells 0 (cell.Int (pos 0))) >>? v.pointee (frame_of s).context at (type_of (frame_of s).context (temp (past n p.temps)))) >>? λ l1. Ok (v.along (frame_of s).context path l1))
    (same1 (past n p.temps) (omega (arith, far)) (last_one n p.temps keeps))) x y same
  where
    last_one : (n : ℕ) (xs : List Temp) (x : Temp) → past n xs < past n (xs ++ x ∷ [])
    last_one n xs x = let e1 = length-append xs (x ∷ []) in omega (arith, e1)

pub fixed_on_temps : (s : Scene) (n : ℕ) (ty : VarTy) (source : State → Outcome Location) (p : LoweredPlace) → length (s.frames s.frame.depth) ≤ n → StageOf s ty n source p.through p.stmts p.place → OnTemps s (past n (fixed_if true n p).temps) (fixed_if true n p).place
fixed_on_temps s n ty source p far g = on_temps s n ty source p p.through p.place far refl g

-- ---- what an assignment stores

assigned_pair : (r1 : Result v.Location Stop) (r2 : Result core.Cell Stop) (f : v.Location → core.Cell → Blocks) → (r1 >>? λ at. r2 >>? λ x. Ok (f at x)) ≡ (joined r1 r2 >>? λ q. Ok (f q.0 q.1))
assigned_pair (Ok at) (Ok x) f = refl
assigned_pair (Ok at) (Err stop) f = refl
assigned_pair (Err stop) r2 f = refl

abbrev assigning : c.State → Result Blocks Stop → c.Outcome Flow
assigning st r = (evaluated r st (λ blocks st1. gives goes_on (with_blocks blocks st1))) >>= after_flow (λ st1. gives goes_on st1)

pub assign_ok : (s : Scene) (p : PlaceTree) (e1 : t.ExprTree) (at : v.Location) (x : core.Cell) (st : c.State) → both (place_asked s p) (cell_asked s e1) st.memory ≡ Ok (at, x) → run_all s (assign p e1 ∷ []) st ≡ gives goes_on (with_written at x st)
assign_ok s p e1 at x st is =
    ap (assigning st) (assigned_pair (place_asked s p st.memory) (cell_asked s e1 st.memory) (λ at1 x1. written st.memory at1.block at1.cell x1) ∙ ap (λ r. r >>? λ q. Ok (written st.memory q.0.block q.0.cell q.1)) is)

pub assign_stops : (s : Scene) (p : PlaceTree) (e1 : t.ExprTree) (stop : Stop) (st : c.State) → both (place_asked s p) (cell_asked s e1) st.memory ≡ Err stop → Stops stop st (run_all s (assign p e1 ∷ []) st)
assign_stops s p e1 stop st is =
    stops_at stop st (run_all s (assign p e1 ∷ []) st)
    (ap (assigning st) (assigned_pair (place_asked s p st.memory) (cell_asked s e1 st.memory) (λ at1 x1. written st.memory at1.block at1.cell x1) ∙ ap (λ r. r >>? λ q. Ok (written st.memory q.0.block q.0.cell q.1)) is))

-- what a value of a scalar type is
pub value_holds : (w : World) (u : VarTy) (w1 : Value) → Scalar u → ValueFits w (Some u) w1 → w1 ≡ holds (cell_of w1)
value_holds w (Int u) (holds x) h fit = refl
value_holds w (Int u) (m.whole cells) h fit = absurd fit
value_holds w (Int u) m.nothing h fit = absurd fit
value_holds w (Pointer elem fixed) w1 h fit = fit.1 ∙ ap (λ z. holds (cell_of z)) (sym fit.1)
value_holds w (Struct n) w1 h fit = absurd h
value_holds w (Array elem count) w1 h fit = absurd h

-- a computed cell is stored, or computing it traps; what is given of it is dropped
pub store_dropped : {A : Type 0} (s : Scene) (n : ℕ) (before : Blocks) (u : VarTy) (sp : Span) (at : Location) (at' : v.Location) (r : Result Cell Trap) (f : Value → A) (p : PlaceTree) (e1 : t.ExprTree) (st : State) (st' : c.State) → SceneFits s → After s (below n) before st st' → IsPlace s u at at' →
    place_asked s p st'.memory ≡ Ok at' → cell_asked s e1 st'.memory ≡ told_as sp r →
    Same (GivesNear s (below n) before (λ a flow. flow ≡ goes_on)) ((or_trap sp r st >>= λ y. store at (holds y)) >>= λ w. gives (f w)) (run_all s (assign p e1 ∷ []) st')
store_dropped {A} s n before u sp at at' (Ok y) f p e1 st st' fits a q there is =
    subst (λ o. Same (GivesNear s (below n) before (λ a flow. flow ≡ goes_on)) (gives (f (holds y)) (record st { memory = write st.memory at.block at.cell y })) o)
    (sym (assign_ok s p e1 at' (core_cell y) st' (both_ok (place_asked s p) (cell_asked s e1) st'.memory at' there ∙ ap (λ z. z >>? λ x. Ok (at', x)) is)))
    (record { near = near_written s u at at' y st st' fits a.alike q; kept = kept_after s n u at at' before st'.memory (core_cell y) q a.kept; facts = refl })
store_dropped {A} s n before u sp at at' (Err trap) f p e1 st st' fits a q there is =
    stops_same (GivesNear s (below n) before (λ (w : A) (flow : Flow). flow ≡ goes_on)) trap sp st st' (run_all s (assign p e1 ∷ []) st') a.alike.seen
    (assign_stops s p e1 (record { trap = trap; span = sp }) st' (both_ok (place_asked s p) (cell_asked s e1) st'.memory at' there ∙ ap (λ z. z >>? λ x. Ok (at', x)) is))

-- what was written is read
read_back : (s : Scene) (u : VarTy) (at : Location) (at' : v.Location) (x : core.Cell) (st : State) (st' : c.State) → Alike s st st' → IsPlace s u at at' → Scalar u → v.cell_in (written st'.memory at'.block at'.cell x) at' ≡ x
read_back s u at at' x st st' a q scalar =
    ap (λ (bl : b.Block). slice_index_or bl.cells at'.cell (cell.Int (pos 0))) (put_there st'.memory at'.block (with_cell (st'.memory at'.block) at'.cell x))
    ∙ set_get (st'.memory at'.block).cells at'.cell x enough
  where
    long : length (st'.memory at'.block).cells ≡ object_cells (sizes_in s) q.fits.in_
    long = ap (λ z. length (st'.memory z).cells) q.block ∙ ap (λ (cells : List core.Cell). length cells) (a.objects at.block q.fits.in_ q.fits.live) ∙ length_map (st.memory at.block) ∙ a.sized.cells at.block q.fits.in_ q.fits.live

    one : object_cells (sizes_in s) at.ty ≡ 1
    one = ap (object_cells (sizes_in s)) (sym (some_same u at.ty q.fits.has)) ∙ one_cell (sizes_in s) u scalar

    enough : at'.cell < length (st'.memory at'.block).cells
    enough = let lies = q.within q.fits.in_ q.fits.live in let same = q.cell in omega (arith, long, one, lies, same)

-- a computed cell is stored and then read, or computing it traps
pub store_read : (s : Scene) (n : ℕ) (before : Blocks) (u : VarTy) (sp : Span) (at : Location) (at' : v.Location) (r : Result Cell Trap) (p : PlaceTree) (e1 : t.ExprTree) (st : State) (st' : c.State) → SceneFits s → After s (below n) before st st' → IsPlace s u at at' → Scalar u →
    place_asked s p st'.memory ≡ Ok at' → ((x : core.Cell) → place_asked s p (written st'.memory at'.block at'.cell x) ≡ Ok at') → cell_asked s e1 st'.memory ≡ told_as sp r →
    SameAsked (Kept s (below n) before) (GivesNear s (below n) before (SameCell (Some u))) (cell_asked s (t.read p)) (or_trap sp r st >>= λ y. store at (holds y)) (run_all s (assign p e1 ∷ []) st')
store_read s n before u sp at at' (Ok y) p e1 st st' fits a q scalar there again is =
    subst (λ o. SameAsked (Kept s (below n) before) (GivesNear s (below n) before (SameCell (Some u))) (cell_asked s (t.read p)) (gives (holds y) (record st { memory = write st.memory at.block at.cell y })) o)
    (sym (assign_ok s p e1 at' (core_cell y) st' (both_ok (place_asked s p) (cell_asked s e1) st'.memory at' there ∙ ap (λ z. z >>? λ x. Ok (at', x)) is))) (
      refl,
      kept_after s n u at at' before st'.memory (core_cell y) q a.kept,
      subst (λ z. Same (GivesNear s (below n) before (SameCell (Some u))) (gives (holds y) (record st { memory = write st.memory at.block at.cell y })) (evaluated z (with_written at' (core_cell y) st') (λ x. gives x)))
          (sym (ap (λ z. z >>? λ l1. Ok (v.cell_in (written st'.memory at'.block at'.cell (core_cell y)) l1)) (again (core_cell y)) ∙ ap (λ z. Ok z) (read_back s u at at' (core_cell y) st st' a.alike q scalar)))
          (record { near = near_written s u at at' y st st' fits a.alike q; kept = kept_after s n u at at' before st'.memory (core_cell y) q a.kept; facts = refl }),
    )
store_read s n before u sp at at' (Err trap) p e1 st st' fits a q scalar there again is =
    stops_same_asked (Kept s (below n) before) (GivesNear s (below n) before (SameCell (Some u))) (cell_asked s (t.read p)) trap sp st st' (run_all s (assign p e1 ∷ []) st') a.alike.seen
    (assign_stops s p e1 (record { trap = trap; span = sp }) st' (both_ok (place_asked s p) (cell_asked s e1) st'.memory at' there ∙ ap (λ z. z >>? λ x. Ok (at', x)) is))

-- a place is found again behind what was written
pub found_again : (s : Scene) (k : ℕ) (u : VarTy) (at : Location) (at' : v.Location) (p : PlaceTree) (blocks : Blocks) (x : core.Cell) → OnTemps s k p → IsPlace s u at at' → place_asked s p blocks ≡ Ok at' → place_asked s p (written blocks at'.block at'.cell x) ≡ Ok at'
found_again s k u at at' p blocks x on q there = on blocks (written blocks at'.block at'.cell x) (λ j far less. kept_written s u at at' blocks x q s.frame.depth j far (inr (refl, tt))) ∙ there

-- ---- what both evaluations came to

pub both_parts : {X Y : Type 0} (first : Blocks → Result X Stop) (second : Blocks → Result Y Stop) (blocks : Blocks) (q : X × Y) → both first second blocks ≡ Ok q → (first blocks ≡ Ok q.0) × (second blocks ≡ Ok q.1)
both_parts {X} {Y} first second blocks q h = go (first blocks) (second blocks) h
  where
    go : (r1 : Result X Stop) (r2 : Result Y Stop) → joined r1 r2 ≡ Ok q → (r1 ≡ Ok q.0) × (r2 ≡ Ok q.1)
    go (Ok x) (Ok y) e1 = let h1 = same_ok (joined (Ok x) (Ok y)) (x, y) q refl e1 in (ap (λ z. Ok z) (ap (λ (z : X × Y). z.0) h1), ap (λ z. Ok z) (ap (λ (z : X × Y). z.1) h1))
    go (Ok x) (Err stop) e1 = not_both (joined (Ok x) (Err stop)) q stop e1 refl
    go (Err stop) r2 e1 = not_both (joined (Err stop) r2) q stop e1 refl

pub data Stopped (X Y : Type 0) (r1 : Result X Stop) (r2 : Result Y Stop) (stop : Stop) : Type 0 where
  at_first : r1 ≡ Err stop → Stopped X Y r1 r2 stop
  at_second : (x : X) → r1 ≡ Ok x → r2 ≡ Err stop → Stopped X Y r1 r2 stop

pub both_stop : {X Y : Type 0} (first : Blocks → Result X Stop) (second : Blocks → Result Y Stop) (blocks : Blocks) (stop : Stop) → both first second blocks ≡ Err stop → Stopped X Y (first blocks) (second blocks) stop
both_stop {X} {Y} first second blocks stop h = go (first blocks) (second blocks) refl refl h
  where
    go : (r1 : Result X Stop) (r2 : Result Y Stop) → first blocks ≡ r1 → second blocks ≡ r2 → joined r1 r2 ≡ Err stop → Stopped X Y (first blocks) (second blocks) stop
    go (Ok x) (Ok y) e1 e2 e3 = not_both (joined (Ok x) (Ok y)) (x, y) stop refl e3
    go (Ok x) (Err stop1) e1 e2 e3 = at_second x e1 (e2 ∙ ap (λ z. Err z) (same_err (joined (Ok x) (Err stop1)) stop1 stop refl e3))
    go (Err stop1) r2 e1 e2 e3 = at_first (e1 ∙ ap (λ z. Err z) (same_err (joined (Err stop1) r2) stop1 stop refl e3))

-- ---- `=`

pub given_dropped : (s : Scene) (n : ℕ) (u : VarTy) (locs : State → Outcome Location) (vals : State → Outcome Value) (xs : List StmtTree) (p : PlaceTree) (e1 : t.ExprTree) → SceneFits s → Scalar u → IsNext s (Both (IsPlace s u) (IsValue s (Some u))) n (pair_of locs vals) xs (both (place_asked s p) (cell_asked s e1)) →
    (st : State) (st' : c.State) → Alike s st st' → Same (GivesNear s (below n) st'.memory (λ w flow. flow ≡ goes_on)) (locs st >>= λ at st1. vals st1 >>= store at) (run_all s (xs ++ assign p e1 ∷ []) st')
given_dropped s n u locs vals xs p e1 fits scalar h st st' al =
    subst (λ o. Same (GivesNear s (below n) st'.memory (λ w flow. flow ≡ goes_on)) o (run_all s (xs ++ assign p e1 ∷ []) st')) (pair_then (locs st) vals store)
    (subst (λ o. Same (GivesNear s (below n) st'.memory (λ w flow. flow ≡ goes_on)) (pair_of locs vals st >>= λ q. store q.0 q.1) o) (sym (run_append s xs (assign p e1 ∷ []) st'))
    (asked_run (Kept s (below n) st'.memory) (Gives s (below n) st'.memory (Both (IsPlace s u) (IsValue s (Some u)))) (GivesNear s (below n) st'.memory (λ w flow. flow ≡ goes_on)) (both (place_asked s p) (cell_asked s e1)) (pair_of locs vals st) (run_all s xs st') (λ q. store q.0 q.1) (run_all s (assign p e1 ∷ []))
    (h st st' al) (λ stop st1' k no. assign_stops s p e1 stop st1' no)
    (λ q st1 z st1' g is.
    let parts = both_parts (place_asked s p) (cell_asked s e1) st1'.memory z is in
    subst (λ w. Same (GivesNear s (below n) st'.memory (λ w flow. flow ≡ goes_on)) (store q.0 w st1) (run_all s (assign p e1 ∷ []) st1')) (sym (value_holds (world_of s) u q.1 scalar g.facts.1.fits))
    (store_dropped s n st'.memory u (record { from = 0; to = 0 }) q.0 z.0 (Ok (cell_of q.1)) (λ w. w) p e1 st1 st1' fits g.after g.facts.0 parts.0 (parts.1 ∙ ap (λ y. Ok y) g.facts.1.same)))))

pub given_read : (s : Scene) (n k : ℕ) (u : VarTy) (locs : State → Outcome Location) (vals : State → Outcome Value) (xs : List StmtTree) (p : PlaceTree) (e1 : t.ExprTree) → SceneFits s → Scalar u → OnTemps s k p → IsNext s (Both (IsPlace s u) (IsValue s (Some u))) n (pair_of locs vals) xs (both (place_asked s p) (cell_asked s e1)) →
    IsNear s (SameCell (Some u)) n (λ st. locs st >>= λ at st1. vals st1 >>= store at) (xs ++ assign p e1 ∷ []) (cell_asked s (t.read p))
given_read s n k u locs vals xs p e1 fits scalar on h st st' al =
    subst (λ o. SameAsked (Kept s (below n) st'.memory) (GivesNear s (below n) st'.memory (SameCell (Some u))) (cell_asked s (t.read p)) o (run_all s (xs ++ assign p e1 ∷ []) st')) (pair_then (locs st) vals store)
    (subst (λ o. SameAsked (Kept s (below n) st'.memory) (GivesNear s (below n) st'.memory (SameCell (Some u))) (cell_asked s (t.read p)) (pair_of locs vals st >>= λ q. store q.0 q.1) o) (sym (run_append s xs (assign p e1 ∷ []) st'))
    (asked_asked (Kept s (below n) st'.memory) (Kept s (below n) st'.memory) (Gives s (below n) st'.memory (Both (IsPlace s u) (IsValue s (Some u)))) (GivesNear s (below n) st'.memory (SameCell (Some u))) (both (place_asked s p) (cell_asked s e1)) (cell_asked s (t.read p)) (pair_of locs vals st) (run_all s xs st') (λ q. store q.0 q.1) (run_all s (assign p e1 ∷ []))
    (h st st' al) (λ stop st1' g no. assign_stops s p e1 stop st1' no)
    (λ q st1 z st1' g is.
    let parts = both_parts (place_asked s p) (cell_asked s e1) st1'.memory z is in
    subst (λ w. SameAsked (Kept s (below n) st'.memory) (GivesNear s (below n) st'.memory (SameCell (Some u))) (cell_asked s (t.read p)) (store q.0 w st1) (run_all s (assign p e1 ∷ []) st1')) (sym (value_holds (world_of s) u q.1 scalar g.facts.1.fits))
    (store_read s n st'.memory u (record { from = 0; to = 0 }) q.0 z.0 (Ok (cell_of q.1)) p e1 st1 st1' fits g.after g.facts.0 scalar parts.0 (λ x. found_again s k u q.0 z.0 p st1'.memory x on g.facts.0 parts.0) (parts.1 ∙ ap (λ y. Ok y) g.facts.1.same)))))

-- ---- `op=`, `++` and `--`

abbrev pub computed : VarTy → LinkStep → PlaceTree → t.ExprTree → Span → t.ExprTree
computed u step p e1 sp = stored u step (stepped u step (t.read p) e1 sp)

pub record StepFacts (s : Scene) (u : VarTy) (step : LinkStep) (a : t.ExprTree) : Type 0 where
  pub takes : TakesLeft step
  pub plain : PlainStep step
  pub points : PointsTo s u step a
  pub scalar : Scalar u

pub step_facts : (s : Scene) (u : VarTy) (step : LinkStep) (a : t.ExprTree) → Computes u step → StepFacts s u step a
step_facts s (Int u) (Arithmetic op to) a h = record { takes = tt; plain = h.1; points = tt; scalar = tt }
step_facts s (Int u) (Shift back) a h = record { takes = tt; plain = tt; points = tt; scalar = tt }
step_facts s (Pointer elem fixed) (Move back) a h = record { takes = tt; plain = tt; points = tt; scalar = tt }
step_facts s (Int u) (Move back) a h = absurd h
step_facts s (Int u) MoveBy a h = absurd h
step_facts s (Int u) Difference a h = absurd h
step_facts s (Int u) (Compare op) a h = absurd h
step_facts s (Pointer elem fixed) (Arithmetic op to) a h = absurd h
step_facts s (Pointer elem fixed) (Shift back) a h = absurd h
step_facts s (Pointer elem fixed) MoveBy a h = absurd h
step_facts s (Pointer elem fixed) Difference a h = absurd h
step_facts s (Pointer elem fixed) (Compare op) a h = absurd h
step_facts s (Struct n) step a h = absurd h
step_facts s (Array elem count) step a h = absurd h

-- the cell that is computed
pub computed_cell : (s : Scene) (u : VarTy) (step : LinkStep) (p : PlaceTree) (e1 : t.ExprTree) (sp : Span) (at : Location) (at' : v.Location) (y : Cell) (st : State) (st' : c.State) → Computes u step → Alike s st st' → IsPlace s u at at' → place_asked s p st'.memory ≡ Ok at' → cell_asked s e1 st'.memory ≡ Ok (core_cell y) →
    cell_asked s (computed u step p e1 sp) st'.memory ≡ told_as sp (if_ok (m.stepped (sizes_in s) u step (read st.memory at.block at.cell) y) (m.converted_cell u))
computed_cell s u step p e1 sp at at' y st st' h a q there is =
    let k = step_facts s u step (t.read p) h in
    stored_same s u step (stepped u step (t.read p) e1 sp) sp st'.memory (read st.memory at.block at.cell) y h equal_ints
    (step_same s u step (t.read p) e1 sp st'.memory (read st.memory at.block at.cell) y k.takes k.plain k.points
    (both_ok (cell_asked s (t.read p)) (cell_asked s e1) st'.memory (core_cell (read st.memory at.block at.cell)) (ap (λ r. r >>? λ l1. Ok (v.cell_in st'.memory l1)) there ∙ ap (λ z. Ok z) (read_same s u at at' st st' a q)) ∙ ap (λ r. r >>? λ x. Ok (core_cell (read st.memory at.block at.cell), x)) is))

pub computed_stops : (s : Scene) (u : VarTy) (step : LinkStep) (p : PlaceTree) (e1 : t.ExprTree) (sp : Span) (stop : Stop) (blocks : Blocks) → Computes u step → both (place_asked s p) (cell_asked s e1) blocks ≡ Err stop → both (place_asked s p) (cell_asked s (computed u step p e1 sp)) blocks ≡ Err stop
computed_stops s u step p e1 sp stop blocks h nope = go (both_stop (place_asked s p) (cell_asked s e1) blocks stop nope)
  where
    go : Stopped v.Location core.Cell (place_asked s p blocks) (cell_asked s e1 blocks) stop → both (place_asked s p) (cell_asked s (computed u step p e1 sp)) blocks ≡ Err stop
    go (at_first e2) = both_err (place_asked s p) (cell_asked s (computed u step p e1 sp)) blocks stop e2
    go (at_second at e2 e3) =
        both_ok (place_asked s p) (cell_asked s (computed u step p e1 sp)) blocks at e2
        ∙ ap (λ r. r >>? λ x. Ok (at, x)) (stored_stops s u step (stepped u step (t.read p) e1 sp) blocks stop h
        (step_stops s u step (t.read p) e1 sp blocks stop (step_facts s u step (t.read p) h).takes
        (both_ok (cell_asked s (t.read p)) (cell_asked s e1) blocks (v.cell_in blocks at) (ap (λ r. r >>? λ l1. Ok (v.cell_in blocks l1)) e2) ∙ ap (λ r. r >>? λ x. Ok (v.cell_in blocks at, x)) e3)))

-- the source stores the computed cell
if_ok_then : {A : Type 0} (sp : Span) (r : Result Cell Trap) (f : Cell → Cell) (k : Cell → State → Outcome A) (st : State) → (or_trap sp (if_ok r f) st >>= k) ≡ (or_trap sp r st >>= λ y. k (f y))
if_ok_then sp (Ok y) f k st = refl
if_ok_then sp (Err trap) f k st = refl

pub compounded_as : (s : Scene) (u : VarTy) (sp : Span) (at : Location) (step : LinkStep) (w : Value) (st : State) → u ≡ at.ty →
    compounded (context_of s) sp at step w st ≡ (or_trap sp (if_ok (m.stepped (sizes_in s) u step (read st.memory at.block at.cell) (cell_of w)) (m.converted_cell u)) st >>= λ y. store at (holds y))
compounded_as s u sp at step w st is =
    sym (if_ok_then sp (m.stepped (sizes_in s) u step (read st.memory at.block at.cell) (cell_of w)) (m.converted_cell u) (λ y. store at (holds y)) st
    ∙ ap (λ z. or_trap sp (m.stepped (sizes_in s) z step (read st.memory at.block at.cell) (cell_of w)) st >>= λ y. store at (holds (m.converted_cell z y))) is)

pub computed_dropped : (s : Scene) (n : ℕ) (u : VarTy) (ity : Option VarTy) (iu : VarTy) (step : LinkStep) (sp : Span) (f : Location → State → Value → Value) (locs : State → Outcome Location) (vals : State → Outcome Value) (xs : List StmtTree) (p : PlaceTree) (e1 : t.ExprTree) → SceneFits s → Computes u step → ity ≡ Some iu →
    IsNext s (Both (IsPlace s u) (IsValue s ity)) n (pair_of locs vals) xs (both (place_asked s p) (cell_asked s e1)) → (st : State) (st' : c.State) → Alike s st st' →
    Same (GivesNear s (below n) st'.memory (λ w flow. flow ≡ goes_on)) (locs st >>= λ at st1. vals st1 >>= λ w st2. compounded (context_of s) sp at step w st2 >>= λ z. gives (f at st2 z)) (run_all s (xs ++ assign p (computed u step p e1 sp) ∷ []) st')
computed_dropped s n u ity iu step sp f locs vals xs p e1 fits h0 some h st st' al =
    subst (λ o. Same (GivesNear s (below n) st'.memory (λ w flow. flow ≡ goes_on)) o (run_all s (xs ++ assign p (computed u step p e1 sp) ∷ []) st')) (pair_then (locs st) vals (λ at w st2. compounded (context_of s) sp at step w st2 >>= λ z. gives (f at st2 z)))
    (subst (λ o. Same (GivesNear s (below n) st'.memory (λ w flow. flow ≡ goes_on)) (pair_of locs vals st >>= λ q st2. compounded (context_of s) sp q.0 step q.1 st2 >>= λ z. gives (f q.0 st2 z)) o) (sym (run_append s xs (assign p (computed u step p e1 sp) ∷ []) st'))
    (asked_run (Kept s (below n) st'.memory) (Gives s (below n) st'.memory (Both (IsPlace s u) (IsValue s ity))) (GivesNear s (below n) st'.memory (λ w flow. flow ≡ goes_on)) (both (place_asked s p) (cell_asked s e1)) (pair_of locs vals st) (run_all s xs st')
    (λ q st2. compounded (context_of s) sp q.0 step q.1 st2 >>= λ z. gives (f q.0 st2 z)) (run_all s (assign p (computed u step p e1 sp) ∷ []))
    (h st st' al) (λ stop st1' k no. assign_stops s p (computed u step p e1 sp) stop st1' (computed_stops s u step p e1 sp stop st1'.memory h0 no))
    (λ q st1 z st1' g is.
    let parts = both_parts (place_asked s p) (cell_asked s e1) st1'.memory z is in
    subst (λ o. Same (GivesNear s (below n) st'.memory (λ w flow. flow ≡ goes_on)) (o >>= λ z1. gives (f q.0 st1 z1)) (run_all s (assign p (computed u step p e1 sp) ∷ []) st1')) (sym (compounded_as s u sp q.0 step q.1 st1 (some_same u q.0.ty g.facts.0.fits.has)))
    (store_dropped s n st'.memory u sp q.0 z.0 (if_ok (m.stepped (sizes_in s) u step (read st1.memory q.0.block q.0.cell) (cell_of q.1)) (m.converted_cell u)) (f q.0 st1) p (computed u step p e1 sp) st1 st1' fits g.after g.facts.0 parts.0
    (computed_cell s u step p e1 sp q.0 z.0 (cell_of q.1) st1 st1' h0 g.after.alike g.facts.0 parts.0 (parts.1 ∙ ap (λ y. Ok y) (same_cell ity iu q.1 z.1 some g.facts.1.same)))))))

pub computed_read : (s : Scene) (n k : ℕ) (u : VarTy) (ity : Option VarTy) (iu : VarTy) (step : LinkStep) (sp : Span) (locs : State → Outcome Location) (vals : State → Outcome Value) (xs : List StmtTree) (p : PlaceTree) (e1 : t.ExprTree) → SceneFits s → Computes u step → OnTemps s k p → ity ≡ Some iu →
    IsNext s (Both (IsPlace s u) (IsValue s ity)) n (pair_of locs vals) xs (both (place_asked s p) (cell_asked s e1)) →
    IsNear s (SameCell (Some u)) n (λ st. locs st >>= λ at st1. vals st1 >>= compounded (context_of s) sp at step) (xs ++ assign p (computed u step p e1 sp) ∷ []) (cell_asked s (t.read p))
computed_read s n k u ity iu step sp locs vals xs p e1 fits h0 on some h st st' al =
    subst (λ o. SameAsked (Kept s (below n) st'.memory) (GivesNear s (below n) st'.memory (SameCell (Some u))) (cell_asked s (t.read p)) o (run_all s (xs ++ assign p (computed u step p e1 sp) ∷ []) st')) (pair_then (locs st) vals (λ at. compounded (context_of s) sp at step))
    (subst (λ o. SameAsked (Kept s (below n) st'.memory) (GivesNear s (below n) st'.memory (SameCell (Some u))) (cell_asked s (t.read p)) (pair_of locs vals st >>= λ q. compounded (context_of s) sp q.0 step q.1) o) (sym (run_append s xs (assign p (computed u step p e1 sp) ∷ []) st'))
    (asked_asked (Kept s (below n) st'.memory) (Kept s (below n) st'.memory) (Gives s (below n) st'.memory (Both (IsPlace s u) (IsValue s ity))) (GivesNear s (below n) st'.memory (SameCell (Some u))) (both (place_asked s p) (cell_asked s e1)) (cell_asked s (t.read p)) (pair_of locs vals st) (run_all s xs st')
    (λ q. compounded (context_of s) sp q.0 step q.1) (run_all s (assign p (computed u step p e1 sp) ∷ []))
    (h st st' al) (λ stop st1' g no. assign_stops s p (computed u step p e1 sp) stop st1' (computed_stops s u step p e1 sp stop st1'.memory h0 no))
    (λ q st1 z st1' g is.
    let parts = both_parts (place_asked s p) (cell_asked s e1) st1'.memory z is in
    subst (λ o. SameAsked (Kept s (below n) st'.memory) (GivesNear s (below n) st'.memory (SameCell (Some u))) (cell_asked s (t.read p)) o (run_all s (assign p (computed u step p e1 sp) ∷ []) st1')) (sym (compounded_as s u sp q.0 step q.1 st1 (some_same u q.0.ty g.facts.0.fits.has)))
    (store_read s n st'.memory u sp q.0 z.0 (if_ok (m.stepped (sizes_in s) u step (read st1.memory q.0.block q.0.cell) (cell_of q.1)) (m.converted_cell u)) p (computed u step p e1 sp) st1 st1' fits g.after g.facts.0 (step_facts s u step (t.read p) h0).scalar parts.0
    (λ x. found_again s k u q.0 z.0 p st1'.memory x on g.facts.0 parts.0)
    (computed_cell s u step p e1 sp q.0 z.0 (cell_of q.1) st1 st1' h0 g.after.alike g.facts.0 parts.0 (parts.1 ∙ ap (λ y. Ok y) (same_cell ity iu q.1 z.1 some g.facts.1.same)))))))
