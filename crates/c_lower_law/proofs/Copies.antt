-- Copies of objects.
use Rattle.std.proofs.Common.{◌≡◌, ◌∙◌, ◌≤◌, ◌<◌, ℕ, zero, suc, ◌+◌, pos, refl, ap, sym, subst, inr, arith, Bool, true, false, Option, Some, None, List, [], ◌∷◌, ◌++◌, map, length, Result, Ok, Err}
use Rattle.std.specs.Prelude.{take, drop, slice_set, IsTrue}
use Rattle.pt_base.specs.declared.span.Span.{Span}
use Rattle.runs.specs.State.{gives, trapped, spent, ◌>>=◌}
use Rattle.typed_tree.specs.declared.types.VarTy.{VarTy}
use Rattle.typed_tree.specs.declared.types.VarTy.TheVariants.{Int, Struct, Array, Pointer}
use Rattle.typed_tree.specs.Sizes.{cells_by, sizes_of}
use Rattle.block_memory.specs.declared.cell.Cell as core
use Rattle.block_memory.specs.declared.cell.BlockName.{BlockName}
use Rattle.block_memory.specs.Block as b
use Rattle.block_memory.specs.Block.{with_cell}
use Rattle.block_memory.specs.Blocks.{Blocks}
use Rattle.source_meaning.specs.Memory.{Block, Cell}
use Rattle.source_meaning.specs.State.{State, Outcome}
use Rattle.source_meaning.specs.Values as m
use Rattle.source_meaning.specs.Values.{Value, whole, Location}
use Rattle.source_meaning.specs.Expressions as e
use Rattle.source_meaning.specs.Expressions.{store, loaded, write_all}
use Rattle.source_soundness.specs.Worlds.{World}
use Rattle.source_soundness.specs.Sizes.{object_cells, ValueSized}
use Rattle.pt_core.specs.CodeTree.{StmtTree, PlaceTree, copy}
use Rattle.pt_core.specs.Values as v
use Rattle.pt_core.specs.Values.{Stop, ◌>>?◌, written, all_written, cells_at}
use Rattle.pt_core.specs.Statements as c
use Rattle.pt_core.specs.Statements.{Flow, goes_on, after_flow, evaluated, with_blocks}
use Rattle.c_lower_law.proofs.Relations.{name_of, core_cell, Scene, world_of, context_of, frame_of, sizes_in, Kept, Alike, Same, After, below, all}
use Rattle.c_lower_law.proofs.Expressions.{run_all, place_asked, object_asked, SameAsked, Gives, IsPlace, IsObject, SceneFits}
use Rattle.c_lower_law.proofs.Runs.{run_append, Stops, stops_at, asked_run, asked_asked, asked_else}
use Rattle.c_lower_law.proofs.Memories.{map_take, map_drop, put_there, objects_all_written, room_all, kept_all, kept_then}
use Rattle.c_lower_law.proofs.Held.{own_length, same_ok, same_err, not_both, both, both_ok, both_err, asked_made, IsNext, Both, pair_of}
use Rattle.c_lower_law.proofs.Places.{some_same, pair_then}
use Rattle.c_lower_law.proofs.Values.{Near, GivesNear, IsNear}
use Rattle.c_lower_law.proofs.Stores.{length_map, both_parts, Stopped, at_first, at_second, both_stop, OnTemps}

-- ---- what is read of an object

pub object_read : (s : Scene) (k : ℕ) (at : Location) (at' : v.Location) (st : State) (st' : c.State) → Alike s st st' → IsPlace s (Struct k) at at' → cells_at st'.memory at' (cells_by (sizes_in s) (Struct k)) ≡ map core_cell (e.cells_at st at (cells_by (sizes_in s) (Struct k)))
object_read s k at at' st st' a q =
    ap (λ z. take (cells_by (sizes_in s) (Struct k)) (drop at'.cell (st'.memory z).cells)) q.block ∙ ap (λ z. take (cells_by (sizes_in s) (Struct k)) (drop z (st'.memory (name_of at.block)).cells)) q.cell
    ∙ ap (λ cells. take (cells_by (sizes_in s) (Struct k)) (drop at.cell cells)) (a.objects at.block q.fits.in_ q.fits.live)
    ∙ sym (map_take (cells_by (sizes_in s) (Struct k)) (drop at.cell (st.memory at.block)) ∙ ap (take (cells_by (sizes_in s) (Struct k))) (map_drop at.cell (st.memory at.block)))

-- the cells of a struct, as a value
pub record HasCells (v : Value) (xs : List core.Cell) : Type 0 where
  pub cells : List Cell
  pub is : v ≡ whole cells
  pub same : xs ≡ map core_cell cells

pub object_near : (s : Scene) (n k : ℕ) (source : State → Outcome Location) (stmts : List StmtTree) (p : PlaceTree) → IsNext s (IsPlace s (Struct k)) n source stmts (place_asked s p) →
    IsNext s HasCells n (λ st. source st >>= λ at st1. gives (loaded (context_of s) at at.ty st1) st1) stmts (object_asked s p k)
object_near s n k source stmts p h st st' al =
    asked_else (Kept s (below n) st'.memory) (Kept s (below n) st'.memory) (Gives s (below n) st'.memory (IsPlace s (Struct k))) (Gives s (below n) st'.memory HasCells) (place_asked s p) (object_asked s p k) (source st) (run_all s stmts st') (λ at st1. gives (loaded (context_of s) at at.ty st1) st1)
    (h st st' al) (λ blocks g. g) (λ stop blocks g no. ap (λ r. r >>? λ at. Ok (cells_at blocks at (cells_by (sizes_in s) (Struct k)))) no)
    (λ at st1 at' st1' q there.
    subst (λ r. Same (Gives s (below n) st'.memory HasCells) (gives (loaded (context_of s) at at.ty st1) st1) (evaluated r st1' (λ z. gives z))) (sym (ap (λ r. r >>? λ at. Ok (cells_at st1'.memory at (cells_by (sizes_in s) (Struct k)))) there))
    (record {
      after = q.after;
      facts = record { cells = e.cells_at st1 at (cells_by (sizes_in s) (Struct k)); is = ap (λ u. loaded (context_of s) at u st1) (sym (some_same (Struct k) at.ty q.facts.fits.has)); same = object_read s k at at' st1 st1' q.after.alike q.facts };
    }))

-- ---- what is copied

abbrev copying : c.State → Result Blocks Stop → c.Outcome Flow
copying st r = (evaluated r st (λ blocks st1. gives goes_on (with_blocks blocks st1))) >>= after_flow (λ st1. gives goes_on st1)

-- the state in which the cells of an object are written
abbrev pub with_copied : v.Location → List core.Cell → c.State → c.State
with_copied at xs st = with_blocks (all_written st.memory at.block at.cell xs) st

-- where the object lies whose cells these are
abbrev From : Scene → ℕ → PlaceTree → List core.Cell → Blocks → Type 0
From s k p xs blocks = (at : v.Location) × (place_asked s p blocks ≡ Ok at) × (cells_at blocks at (cells_by (sizes_in s) (Struct k)) ≡ xs)

asked_from : (s : Scene) (k : ℕ) (p : PlaceTree) (xs : List core.Cell) (blocks : Blocks) → object_asked s p k blocks ≡ Ok xs → From s k p xs blocks
asked_from s k p xs blocks h = go (place_asked s p blocks) refl h
  where
    go : (r : Result v.Location Stop) → place_asked s p blocks ≡ r → (r >>? λ at. Ok (cells_at blocks at (cells_by (sizes_in s) (Struct k)))) ≡ Ok xs → From s k p xs blocks
    go (Ok at) e1 e2 = (at, e1, same_ok (Ok (cells_at blocks at (cells_by (sizes_in s) (Struct k)))) (cells_at blocks at (cells_by (sizes_in s) (Struct k))) xs refl e2)
    go (Err stop) e1 e2 = not_both (Err stop) xs stop e2 refl

abbrev no_cells : Stop → Result (List core.Cell) Stop
no_cells stop = Err stop

asked_no : (s : Scene) (k : ℕ) (p : PlaceTree) (stop : Stop) (blocks : Blocks) → object_asked s p k blocks ≡ Err stop → place_asked s p blocks ≡ Err stop
asked_no s k p stop blocks h = go (place_asked s p blocks) h
  where
    go : (r : Result v.Location Stop) → (r >>? λ at. Ok (cells_at blocks at (cells_by (sizes_in s) (Struct k)))) ≡ Err stop → r ≡ Err stop
    go (Ok at) e1 = not_both (Ok (cells_at blocks at (cells_by (sizes_in s) (Struct k)))) (cells_at blocks at (cells_by (sizes_in s) (Struct k))) stop refl e1
    go (Err stop1) e1 = ap (λ z. Err z) (same_err (no_cells stop1) stop1 stop refl e1)

copy_ok : (s : Scene) (k : ℕ) (to of : PlaceTree) (at : v.Location) (xs : List core.Cell) (st : c.State) → at.ty ≡ Struct k → place_asked s to st.memory ≡ Ok at → From s k of xs st.memory → run_all s (copy to of ∷ []) st ≡ gives goes_on (with_copied at xs st)
copy_ok s k to of at xs st ty there f =
    ap (λ r. copying st (r >>? λ l1. place_asked s of st.memory >>? λ l2. Ok (all_written st.memory l1.block l1.cell (cells_at st.memory l2 (cells_by (sizes_of s.names.structs) l1.ty))))) there
    ∙ ap (λ r. copying st (r >>? λ l2. Ok (all_written st.memory at.block at.cell (cells_at st.memory l2 (cells_by (sizes_of s.names.structs) at.ty))))) f.1
    ∙ ap (λ u. copying st (Ok (all_written st.memory at.block at.cell (cells_at st.memory f.0 (cells_by (sizes_of s.names.structs) u))))) ty
    ∙ ap (λ ys. copying st (Ok (all_written st.memory at.block at.cell ys))) f.2

copy_stops : (s : Scene) (k : ℕ) (to of : PlaceTree) (stop : Stop) (st : c.State) → both (place_asked s to) (object_asked s of k) st.memory ≡ Err stop → Stops stop st (run_all s (copy to of ∷ []) st)
copy_stops s k to of stop st nope = go (both_stop (place_asked s to) (object_asked s of k) st.memory stop nope)
  where
    go : Stopped v.Location (List core.Cell) (place_asked s to st.memory) (object_asked s of k st.memory) stop → Stops stop st (run_all s (copy to of ∷ []) st)
    go (at_first e1) =
        stops_at stop st (run_all s (copy to of ∷ []) st) (ap (λ r. copying st (r >>? λ l1. place_asked s of st.memory >>? λ l2. Ok (all_written st.memory l1.block l1.cell (cells_at st.memory l2 (cells_by (sizes_of s.names.structs) l1.ty))))) e1)
    go (at_second at e1 e2) =
        stops_at stop st (run_all s (copy to of ∷ []) st)
        (ap (λ r. copying st (r >>? λ l1. place_asked s of st.memory >>? λ l2. Ok (all_written st.memory l1.block l1.cell (cells_at st.memory l2 (cells_by (sizes_of s.names.structs) l1.ty))))) e1
        ∙ ap (λ r. copying st (r >>? λ l2. Ok (all_written st.memory at.block at.cell (cells_at st.memory l2 (cells_by (sizes_of s.names.structs) at.ty))))) (asked_no s k of stop st.memory e2))

-- ---- what lies there behind it

copied_same : (s : Scene) (u : VarTy) (at : Location) (at' : v.Location) (blocks : Blocks) (xs : List core.Cell) → IsPlace s u at at' → all_written blocks at'.block at'.cell xs ≡ all_written blocks (name_of at.block) at.cell xs
copied_same s u at at' blocks xs p = ap (λ z. all_written blocks z at'.cell xs) p.block ∙ ap (λ z. all_written blocks (name_of at.block) z xs) p.cell

pub near_copied : (s : Scene) (u : VarTy) (at : Location) (at' : v.Location) (ys : List Cell) (st : State) (st' : c.State) → SceneFits s → Alike s st st' → IsPlace s u at at' → Near s (record st { memory = write_all st.memory at.block at.cell ys }) (with_copied at' (map core_cell ys) st')
near_copied s u at at' ys st st' fits a p =
    subst (λ z. Near s (record st { memory = write_all st.memory at.block at.cell ys }) (with_blocks z st')) (sym (copied_same s u at at' st'.memory (map core_cell ys) p))
    (record {
      objects = objects_all_written (world_of s) ys st.memory st'.memory at.block at.cell p.fits.in_ a.objects p.fits.live;
      room = room_all s (map core_cell ys) st'.memory at.block at.cell p.fits.in_ (own_length s fits) p.fits.live a.room;
      hosts = a.hosts;
      input = a.input;
      seen = record { events = a.seen.events; left = a.seen.left };
    })

all_kept : (s : Scene) (u : VarTy) (at : Location) (at' : v.Location) (blocks : Blocks) (xs : List core.Cell) → IsPlace s u at at' → Kept s all blocks (all_written blocks at'.block at'.cell xs)
all_kept s u at at' blocks xs p = subst (λ z. Kept s all blocks z) (sym (copied_same s u at at' blocks xs p)) (kept_all s xs blocks at.block at.cell p.fits.in_ p.fits.live)

pub kept_copied : (s : Scene) (n : ℕ) (u : VarTy) (at : Location) (at' : v.Location) (before blocks : Blocks) (xs : List core.Cell) → IsPlace s u at at' → Kept s (below n) before blocks → Kept s (below n) before (all_written blocks at'.block at'.cell xs)
kept_copied s n u at at' before blocks xs p k = kept_then s (below n) all (below n) before blocks (all_written blocks at'.block at'.cell xs) k (all_kept s u at at' blocks xs p) (λ j h. h) (λ j h. tt)

pub copied_again : (s : Scene) (k : ℕ) (u : VarTy) (at : Location) (at' : v.Location) (p : PlaceTree) (blocks : Blocks) (xs : List core.Cell) → OnTemps s k p → IsPlace s u at at' → place_asked s p blocks ≡ Ok at' → place_asked s p (all_written blocks at'.block at'.cell xs) ≡ Ok at'
copied_again s k u at at' p blocks xs on q there = on blocks (all_written blocks at'.block at'.cell xs) (λ j far less. all_kept s u at at' blocks xs q s.frame.depth j far (inr (refl, tt))) ∙ there

-- ---- the assignment

pub copied_dropped : (s : Scene) (n k : ℕ) (locs : State → Outcome Location) (vals : State → Outcome Value) (xs : List StmtTree) (to of : PlaceTree) → SceneFits s → IsNext s (Both (IsPlace s (Struct k)) HasCells) n (pair_of locs vals) xs (both (place_asked s to) (object_asked s of k)) →
    (st : State) (st' : c.State) → Alike s st st' → Same (GivesNear s (below n) st'.memory (λ w flow. flow ≡ goes_on)) (locs st >>= λ at st1. vals st1 >>= store at) (run_all s (xs ++ copy to of ∷ []) st')
copied_dropped s n k locs vals xs to of fits h st st' al =
    subst (λ o. Same (GivesNear s (below n) st'.memory (λ w flow. flow ≡ goes_on)) o (run_all s (xs ++ copy to of ∷ []) st')) (pair_then (locs st) vals store)
    (subst (λ o. Same (GivesNear s (below n) st'.memory (λ w flow. flow ≡ goes_on)) (pair_of locs vals st >>= λ q. store q.0 q.1) o) (sym (run_append s xs (copy to of ∷ []) st'))
    (asked_run (Kept s (below n) st'.memory) (Gives s (below n) st'.memory (Both (IsPlace s (Struct k)) HasCells)) (GivesNear s (below n) st'.memory (λ w flow. flow ≡ goes_on)) (both (place_asked s to) (object_asked s of k)) (pair_of locs vals st) (run_all s xs st') (λ q. store q.0 q.1) (run_all s (copy to of ∷ []))
    (h st st' al) (λ stop st1' g no. copy_stops s k to of stop st1' no)
    (λ q st1 z st1' g is. let parts = both_parts (place_asked s to) (object_asked s of k) st1'.memory z is in copied_on q.0 q.1 st1 z.0 z.1 st1' g.after g.facts.0 g.facts.1 parts.0 parts.1)))
  where
    copied_on : (at : Location) (w : Value) (st1 : State) (at' : v.Location) (zs : List core.Cell) (st1' : c.State) → After s (below n) st'.memory st1 st1' → IsPlace s (Struct k) at at' → HasCells w zs → place_asked s to st1'.memory ≡ Ok at' → object_asked s of k st1'.memory ≡ Ok zs →
        Same (GivesNear s (below n) st'.memory (λ w flow. flow ≡ goes_on)) (store at w st1) (run_all s (copy to of ∷ []) st1')
    copied_on at w st1 at' zs st1' a q hc there is =
        subst (λ w1. Same (GivesNear s (below n) st'.memory (λ w flow. flow ≡ goes_on)) (store at w1 st1) (run_all s (copy to of ∷ []) st1')) (sym hc.is)
        (subst (λ o. Same (GivesNear s (below n) st'.memory (λ w flow. flow ≡ goes_on)) (store at (whole hc.cells) st1) o) (sym (copy_ok s k to of at' (map core_cell hc.cells) st1' q.ty there (asked_from s k of (map core_cell hc.cells) st1'.memory (is ∙ ap (λ ys. Ok ys) hc.same))))
        (record { near = near_copied s (Struct k) at at' hc.cells st1 st1' fits a.alike q; kept = kept_copied s n (Struct k) at at' st'.memory st1'.memory (map core_cell hc.cells) q a.kept; facts = refl }))

-- ---- the object that was assigned

abbrev set_all : List core.Cell → ℕ → List core.Cell → List core.Cell
set_all cells at [] = cells
set_all cells at (x ∷ xs) = set_all (slice_set cells at x) (at + 1) xs

cells_written : (xs : List core.Cell) (blocks : Blocks) (name : BlockName) (at : ℕ) → (all_written blocks name at xs name).cells ≡ set_all (blocks name).cells at xs
cells_written [] blocks name at = refl
cells_written (x ∷ xs) blocks name at =
    cells_written xs (written blocks name at x) name (at + 1) ∙ ap (λ (bl : b.Block). set_all bl.cells (at + 1) xs) (put_there blocks name (with_cell (blocks name) at x))

-- behind the first cell
set_behind : (xs cells : List core.Cell) (y : core.Cell) (at : ℕ) → set_all (y ∷ cells) (suc at) xs ≡ y ∷ set_all cells at xs
set_behind [] cells y at = refl
set_behind (x ∷ xs) cells y at = ap (λ k. set_all (y ∷ slice_set cells at x) k xs) (next at) ∙ set_behind xs (slice_set cells at x) y (at + 1)
  where
    next : (at : ℕ) → suc at + 1 ≡ suc (at + 1)
    next at = omega arith

-- what was set lies there
set_there : (xs cells : List core.Cell) (at : ℕ) → at + length xs ≤ length cells → take (length xs) (drop at (set_all cells at xs)) ≡ xs
set_there [] cells at h = refl
set_there (x ∷ xs) [] at h = absurd (too_long at (length xs) h)
  where
    too_long : (at n : ℕ) → at + suc n ≤ 0 → ⊥
    too_long at n h = omega (arith, h)
set_there (x ∷ xs) (y ∷ cells) zero h =
    ap (λ zs. take (suc (length xs)) zs) (ap (λ k. set_all (x ∷ cells) k xs) first ∙ set_behind xs cells x zero) ∙ ap (λ zs. x ∷ zs) (set_there xs cells zero (omega (arith, h)))
  where
    first : 0 + 1 ≡ 1
    first = omega arith
set_there (x ∷ xs) (y ∷ cells) (suc at) h =
    ap (λ zs. take (suc (length xs)) (drop (suc at) zs)) (set_behind (x ∷ xs) cells y at) ∙ set_there (x ∷ xs) cells at (omega (arith, h))

copied_cells : (s : Scene) (k : ℕ) (at : Location) (at' : v.Location) (ys : List Cell) (st : State) (st' : c.State) → Alike s st st' → IsPlace s (Struct k) at at' → length ys ≡ cells_by (sizes_in s) (Struct k) →
    cells_at (all_written st'.memory at'.block at'.cell (map core_cell ys)) at' (cells_by (sizes_in s) (Struct k)) ≡ map core_cell ys
copied_cells s k at at' ys st st' a q long =
    ap (λ n. take n (drop at'.cell (all_written st'.memory at'.block at'.cell (map core_cell ys) at'.block).cells)) (sym (length_map ys ∙ long))
    ∙ ap (λ cells. take (length (map core_cell ys)) (drop at'.cell cells)) (cells_written (map core_cell ys) st'.memory at'.block at'.cell)
    ∙ set_there (map core_cell ys) (st'.memory at'.block).cells at'.cell enough
  where
    there : length (st'.memory at'.block).cells ≡ object_cells (sizes_in s) q.fits.in_
    there = ap (λ z. length (st'.memory z).cells) q.block ∙ ap (λ (cells : List core.Cell). length cells) (a.objects at.block q.fits.in_ q.fits.live) ∙ length_map (st.memory at.block) ∙ a.sized.cells at.block q.fits.in_ q.fits.live

    all_cells : length (map core_cell ys) ≡ object_cells (sizes_in s) at.ty
    all_cells = length_map ys ∙ long ∙ ap (object_cells (sizes_in s)) (some_same (Struct k) at.ty q.fits.has)

    enough : at'.cell + length (map core_cell ys) ≤ length (st'.memory at'.block).cells
    enough = let lies = q.within q.fits.in_ q.fits.live in let same = q.cell in omega (arith, there, all_cells, lies, same)

-- a struct has all its cells
whole_length : (s : Scene) (k : ℕ) (w : Value) (xs : List core.Cell) (q : IsObject s k w xs) → length q.cells ≡ cells_by (sizes_in s) (Struct k)
whole_length s k w xs q = subst (λ z. ValueSized (world_of s) (sizes_in s) (Some (Struct k)) z) q.is q.sized

-- a struct is assigned, and something is asked behind it
copied_to : {A X : Type 0} (s : Scene) (n k : ℕ) (F : A → X → Type 0) (ask : Blocks → Result X Stop) (f : Location → Value → A) (locs : State → Outcome Location) (vals : State → Outcome Value) (xs : List StmtTree) (to of : PlaceTree) → SceneFits s →
    IsNext s (Both (IsPlace s (Struct k)) (IsObject s k)) n (pair_of locs vals) xs (both (place_asked s to) (object_asked s of k)) →
    ((at : Location) (w : Value) (at' : v.Location) (zs : List core.Cell) (st1 : State) (st1' : c.State) (q : IsObject s k w zs) → Alike s st1 st1' → IsPlace s (Struct k) at at' → place_asked s to st1'.memory ≡ Ok at' →
    (x : X) × (ask (with_copied at' (map core_cell q.cells) st1').memory ≡ Ok x) × F (f at (whole q.cells)) x) →
    IsNear s F n (λ st. locs st >>= λ at st1. vals st1 >>= λ w st2. store at w st2 >>= λ u. gives (f at u)) (xs ++ copy to of ∷ []) ask
copied_to {A} {X} s n k F ask f locs vals xs to of fits h made st st' al =
    subst (λ o. SameAsked (Kept s (below n) st'.memory) (GivesNear s (below n) st'.memory F) ask o (run_all s (xs ++ copy to of ∷ []) st')) (pair_then (locs st) vals (λ at w st2. store at w st2 >>= λ u. gives (f at u)))
    (subst (λ o. SameAsked (Kept s (below n) st'.memory) (GivesNear s (below n) st'.memory F) ask (pair_of locs vals st >>= λ q st2. store q.0 q.1 st2 >>= λ u. gives (f q.0 u)) o) (sym (run_append s xs (copy to of ∷ []) st'))
    (asked_asked (Kept s (below n) st'.memory) (Kept s (below n) st'.memory) (Gives s (below n) st'.memory (Both (IsPlace s (Struct k)) (IsObject s k))) (GivesNear s (below n) st'.memory F) (both (place_asked s to) (object_asked s of k)) ask (pair_of locs vals st) (run_all s xs st')
    (λ q st2. store q.0 q.1 st2 >>= λ u. gives (f q.0 u)) (run_all s (copy to of ∷ []))
    (h st st' al) (λ stop st1' g no. copy_stops s k to of stop st1' no)
    (λ q st1 z st1' g is. let parts = both_parts (place_asked s to) (object_asked s of k) st1'.memory z is in copied_on q.0 q.1 st1 z.0 z.1 st1' g.after g.facts.0 g.facts.1 parts.0 parts.1 (made q.0 q.1 z.0 z.1 st1 st1' g.facts.1 g.after.alike g.facts.0 parts.0))))
  where
    copied_on : (at : Location) (w : Value) (st1 : State) (at' : v.Location) (zs : List core.Cell) (st1' : c.State) → After s (below n) st'.memory st1 st1' → IsPlace s (Struct k) at at' → (hc : IsObject s k w zs) → place_asked s to st1'.memory ≡ Ok at' → object_asked s of k st1'.memory ≡ Ok zs →
        (x : X) × (ask (with_copied at' (map core_cell hc.cells) st1').memory ≡ Ok x) × F (f at (whole hc.cells)) x →
        SameAsked (Kept s (below n) st'.memory) (GivesNear s (below n) st'.memory F) ask (store at w st1 >>= λ u. gives (f at u)) (run_all s (copy to of ∷ []) st1')
    copied_on at w st1 at' zs st1' a q hc there is m1 =
        subst (λ w1. SameAsked (Kept s (below n) st'.memory) (GivesNear s (below n) st'.memory F) ask (store at w1 st1 >>= λ u. gives (f at u)) (run_all s (copy to of ∷ []) st1')) (sym hc.is)
        (subst (λ o. SameAsked (Kept s (below n) st'.memory) (GivesNear s (below n) st'.memory F) ask (store at (whole hc.cells) st1 >>= λ u. gives (f at u)) o) (sym (copy_ok s k to of at' (map core_cell hc.cells) st1' q.ty there (asked_from s k of (map core_cell hc.cells) st1'.memory (is ∙ ap (λ ys. Ok ys) hc.same)))) (
          refl,
          kept_copied s n (Struct k) at at' st'.memory st1'.memory (map core_cell hc.cells) q a.kept,
          subst (λ r. Same (GivesNear s (below n) st'.memory F) (gives (f at (whole hc.cells)) (record st1 { memory = write_all st1.memory at.block at.cell hc.cells })) (evaluated r (with_copied at' (map core_cell hc.cells) st1') (λ z. gives z))) (sym m1.1)
              (record { near = near_copied s (Struct k) at at' hc.cells st1 st1' fits a.alike q; kept = kept_copied s n (Struct k) at at' st'.memory st1'.memory (map core_cell hc.cells) q a.kept; facts = m1.2 }),
        ))

-- as a place
pub copied_place : (s : Scene) (n j k : ℕ) (locs : State → Outcome Location) (vals : State → Outcome Value) (xs : List StmtTree) (to of : PlaceTree) → SceneFits s → OnTemps s j to → IsNext s (Both (IsPlace s (Struct k)) (IsObject s k)) n (pair_of locs vals) xs (both (place_asked s to) (object_asked s of k)) →
    IsNear s (IsPlace s (Struct k)) n (λ st. locs st >>= λ at st1. vals st1 >>= λ w st2. store at w st2 >>= λ u. gives at) (xs ++ copy to of ∷ []) (place_asked s to)
copied_place s n j k locs vals xs to of fits on h =
    copied_to s n k (IsPlace s (Struct k)) (place_asked s to) (λ at u. at) locs vals xs to of fits h
    (λ at w at' zs st1 st1' q a p there. (at', copied_again s j (Struct k) at at' to st1'.memory (map core_cell q.cells) on p there, p))

-- as a value
pub copied_object : (s : Scene) (n j k : ℕ) (locs : State → Outcome Location) (vals : State → Outcome Value) (xs : List StmtTree) (to of : PlaceTree) → SceneFits s → OnTemps s j to → IsNext s (Both (IsPlace s (Struct k)) (IsObject s k)) n (pair_of locs vals) xs (both (place_asked s to) (object_asked s of k)) →
    IsNear s HasCells n (λ st. locs st >>= λ at st1. vals st1 >>= λ w st2. store at w st2 >>= λ u. gives u) (xs ++ copy to of ∷ []) (object_asked s to k)
copied_object s n j k locs vals xs to of fits on h =
    copied_to s n k HasCells (object_asked s to k) (λ at u. u) locs vals xs to of fits h
    (λ at w at' zs st1 st1' q a p there. (
      map core_cell q.cells,
      ap (λ r. r >>? λ l1. Ok (cells_at (with_copied at' (map core_cell q.cells) st1').memory l1 (cells_by (sizes_in s) (Struct k)))) (copied_again s j (Struct k) at at' to st1'.memory (map core_cell q.cells) on p there) ∙ ap (λ ys. Ok ys) (copied_cells s k at at' q.cells st1 st1' a p (whole_length s k w zs q)),
      record { cells = q.cells; is = refl; same = refl },
    ))
