-- Places: what pointers point to, fields, elements, and places that are fixed.
use Rattle.std.proofs.Common.{◌≡◌, ◌∙◌, ◌≤◌, ◌<◌, ℕ, zero, suc, ◌+◌, pos, ℤ, refl, ap, sym, subst, inr, arith, Bool, true, false, Option, Some, None, List, [], ◌∷◌, ◌++◌, length, append_assoc, Result, Ok, Err, if◌then◌else◌, nat_lt, nat_eq}
use Rattle.std.specs.Prelude.{IsTrue, slice_get, slice_index_or, get_or, option_map}
use Rattle.pt_base.specs.declared.int_type.IntType.TheVariants as i
use Rattle.pt_base.specs.declared.span.Span.{Span}
use Rattle.pt_base.specs.declared.trap.Trap.{Trap}
use Rattle.pt_base.specs.declared.trap.Trap.TheVariants.{Bounds}
use Rattle.pt_tree.specs.declared.signature.Elem.{Elem}
use Rattle.pt_tree.specs.declared.signature.Elem.TheVariants as el
use Rattle.runs.specs.State.{gives, trapped, spent, ◌>>=◌}
use Rattle.runs.specs.Pointers.{Target, if_ok, reached, cell_at, moved}
use Rattle.typed_tree.specs.declared.types.VarTy.{VarTy}
use Rattle.typed_tree.specs.declared.types.VarTy.TheVariants.{Int, Struct, Array, Pointer}
use Rattle.typed_tree.specs.declared.types.StructInfo.{StructInfo}
use Rattle.typed_tree.specs.declared.link.LinkStep.TheVariants.{Move}
use Rattle.typed_tree.specs.ExpressionTree as x
use Rattle.typed_tree.specs.Sizes.{elem_cells, sizes_of, offset_of}
use Rattle.typed_tree.specs.TypeTests.{type_of_elem, points_to_const}
use Rattle.typed_tree.specs.WellFormedExpression as f
use Rattle.typed_tree.specs.WellFormedExpression.{Names}
use Rattle.block_memory.specs.declared.cell.Cell as core
use Rattle.block_memory.specs.declared.cell.Cell.TheVariants as cell
use Rattle.block_memory.specs.declared.cell.Pointer.TheVariants as ptr
use Rattle.block_memory.specs.declared.cell.BlockName.{BlockName}
use Rattle.block_memory.specs.declared.cell.BlockName.TheVariants.{Local, Global}
use Rattle.block_memory.specs.Block as b
use Rattle.block_memory.specs.Blocks.{Blocks}
use Rattle.source_meaning.specs.Memory.{Block, local, global, Cell, number, null, pointer}
use Rattle.source_meaning.specs.State.{State, Outcome}
use Rattle.source_meaning.specs.Values as m
use Rattle.source_meaning.specs.Values.{Value, holds, cell_of, number_of, moved_cell, Location}
use Rattle.source_meaning.specs.Expressions as e
use Rattle.source_meaning.specs.Expressions.{sizes, or_trap, field_at, dereferenced, object_at, indexed}
use Rattle.source_soundness.specs.Worlds.{World, Fits, is_pointer, IsScoped, ValueFits, LocationFits}
use Rattle.source_soundness.specs.Sizes.{PointsWithin, LiesWithin}
use Rattle.source_soundness.specs.Laws.{Keeps}
use Rattle.source_soundness.proofs.Objects.{plain_part}
use Rattle.source_soundness.proofs.Operators as so
use Rattle.source_soundness.proofs.Operators.{moves, scoped_of_pointer}
use Rattle.source_soundness.proofs.Steps.{pointee_fits, field_is}
use Rattle.source_soundness.proofs.SizedObjects.{moves_within, pointee_within, within_of_pointer}
use Rattle.source_soundness.proofs.SizedSteps.{Setup, field_sized, array_within}
use Rattle.source_soundness.proofs.Soundness.{field_lies}
use Rattle.pt_core.specs.CodeTree as t
use Rattle.pt_core.specs.CodeTree.{StmtTree, PlaceTree, place, deref, decay, move, check}
use Rattle.pt_core.specs.Types as tys
use Rattle.pt_core.specs.Types.{type_of, place_type, path_type, field_type, type_at}
use Rattle.pt_core.specs.Values as v
use Rattle.pt_core.specs.Values.{Stop, ◌>>?◌, at_span, pointed, along, pointee}
use Rattle.pt_core.specs.Statements as c
use Rattle.pt_core.specs.Statements.{Flow, goes_on, after_flow, evaluated, with_blocks}
use Rattle.lowering.specs.Lowered.{Temp, Lowered, LoweredPlace, past, temp, hold, holding, held_if}
use Rattle.lowering.specs.Expressions.{behind, field_in, with_field, place_with_field, decayed_type, moved_to, element_place, fixed_root, fixed_through, fixed_if}
use Rattle.c_lower_law.proofs.Relations.{name_of, core_cell, Scene, world_of, context_of, frame_of, sizes_in, HasTemps, Kept, Alike, Same, SameSeen, After, below}
use Rattle.c_lower_law.proofs.Expressions.{run_all, asked, cell_asked, place_asked, SameAsked, SameCell, Gives, IsValue, IsPlace, SceneFits}
use Rattle.c_lower_law.proofs.Runs.{pair, bind_bind, bind_gives, run_append, Stops, stops_at, asked_asked, asked_else}
use Rattle.c_lower_law.proofs.Memories.{kept_then}
use Rattle.c_lower_law.proofs.Held.{own_length, past_append, temp_there, Holds, with_temp, temp_given, temp_read, hold_then, hold_then_stops, both, both_err, both_ok, same_made, asked_made, asked_kept, asked_as, IsNext, IsLowered, Both, pair_of, first_pure, first_then}
use Rattle.c_lower_law.proofs.Operators.{PointerType, told_as, step_same, step_stops}

pub setup : (s : Scene) → SceneFits s → Setup (world_of s) s.names (context_of s)
setup s k = record { fits = k.fits; sound = k.structs; calls = k.sized }

pub some_same : (a z : VarTy) → Some a ≡ Some z → a ≡ z
some_same a z h = cc

-- ---- a part of a place

-- the fields of a path, one after the other
abbrev pub led : e.Context → List ℕ → Location → Location
led cx [] at = at
led cx (k ∷ ks) at = led cx ks (field_at cx k at)

-- a pointer of the source, and its cell in the normal form
pub record IsPointer (s : Scene) (elem : Elem) (y : Cell) (z : core.Cell) : Type 0 where
  pub scoped : IsScoped (world_of s) s.frame.depth y
  pub within : PointsWithin (world_of s) (sizes_in s) elem y
  pub same : z ≡ core_cell y

-- a place is found in two steps: first a pointer, and then where it points
pub record Stage (s : Scene) (ty : VarTy) (n : ℕ) (source : State → Outcome Location) (keeps : Temp) (stmts : List StmtTree) (p : t.ExprTree) (at : Span) (path : List ℕ) : Type 0 where
  pub elem : Elem
  pub fixed : Bool
  pub held : Bool
  pub other : Bool
  pub from : State → Outcome Cell
  pub is : (st : State) → Fits (world_of s) st.memory → source st ≡ (from st >>= λ y st1. or_trap at (dereferenced (context_of s) (Pointer elem fixed) y) st1 >>= λ l. gives (led (context_of s) path l))
  pub runs : IsNext s (IsPointer s elem) n from stmts (cell_asked s p)
  pub leads : (l : Location) (l' : v.Location) → IsPlace s (type_of_elem elem) l l' → IsPlace s ty (led (context_of s) path l) (along (frame_of s).context path l')
  pub keeps_type : keeps.ty ≡ Pointer elem held
  pub type : type_of (frame_of s).context p ≡ Pointer elem other

abbrev pub StageOf : Scene → VarTy → ℕ → (State → Outcome Location) → Option Temp → List StmtTree → PlaceTree → Type 0
StageOf s ty n source keeps stmts (place (t.local k) path) = Unit {0}
StageOf s ty n source keeps stmts (place (t.global g) path) = Unit {0}
StageOf s ty n source None stmts (place (deref p at) path) = ⊥
StageOf s ty n source (Some keeps) stmts (place (deref p at) path) = Stage s ty n source keeps stmts p at path

-- a place of the source, lowered; where it can be fixed its steps are known
pub record PlaceLowered (s : Scene) (ty : VarTy) (n : ℕ) (can : Bool) (source : State → Outcome Location) (p : LoweredPlace) : Type 0 where
  pub named : p.ty ≡ ty
  pub type : place_type (frame_of s).context p.place ≡ ty
  pub runs : IsNext s (IsPlace s ty) n source p.stmts (place_asked s p.place)
  pub stage : IsTrue can → StageOf s ty n source p.through p.stmts p.place

pub record ValueLowered (s : Scene) (ty : Option VarTy) (n : ℕ) (source : State → Outcome Value) (l : Lowered) : Type 0 where
  pub type : PointerType s ty l.value
  pub runs : IsLowered s ty n source l

-- ---- what a pointer points to

-- a place that the source finds where a pointer points
deref_same : (s : Scene) (n : ℕ) (before : Blocks) (elem : Elem) (fixed other : Bool) (at : Span) (y : Cell) (st : State) (st' : c.State) → After s (below n) before st st' → IsScoped (world_of s) s.frame.depth y → PointsWithin (world_of s) (sizes_in s) elem y →
    Same (Gives s (below n) before (IsPlace s (type_of_elem elem))) (or_trap at (dereferenced (context_of s) (Pointer elem fixed) y) st) (evaluated (pointee (frame_of s).context at (Pointer elem other) (core_cell y)) st' (λ z. gives z))
deref_same s n before elem fixed other at (number k) st st' a scoped within = absurd scoped
deref_same s n before elem fixed other at null st st' a scoped within = (refl, refl, a.alike.seen)
deref_same s n before elem fixed other at (pointer bl base count index) st st' a scoped within =
    go (nat_lt index count) (pointee_fits (world_of s) (context_of s) elem fixed (pointer bl base count index) scoped) (pointee_within (world_of s) (context_of s) elem fixed (pointer bl base count index) within)
  where
    go : (z : Bool) → so.Gives (LocationFits (world_of s) (Some (type_of_elem elem))) (if_ok (if z then Ok (pair bl (cell_at (elem_cells (sizes_in s) elem) base index)) else Err Bounds) (object_at (type_of_elem elem))) →
        so.Gives (LiesWithin (world_of s) (sizes_in s)) (if_ok (if z then Ok (pair bl (cell_at (elem_cells (sizes_in s) elem) base index)) else Err Bounds) (object_at (type_of_elem elem))) →
        Same (Gives s (below n) before (IsPlace s (type_of_elem elem))) (or_trap at (if_ok (if z then Ok (pair bl (cell_at (elem_cells (sizes_in s) elem) base index)) else Err Bounds) (object_at (type_of_elem elem))) st)
        (evaluated (at_span at (if z then Ok (pair (name_of bl) (cell_at (elem_cells (sizes_in s) elem) base index)) else Err Bounds) >>? λ q. Ok (record { block = q.0; cell = q.1; ty = type_of_elem elem })) st' (λ z. gives z))
    go true fits lies = record { after = a; facts = record { fits = fits; within = lies; block = refl; cell = refl; ty = refl } }
    go false fits lies = (refl, refl, a.alike.seen)

-- a place behind a pointer
pub pointee_asked : (s : Scene) (p : t.ExprTree) (at : Span) (path : List ℕ) (blocks : Blocks) (elem : Elem) (g : Bool) (z : core.Cell) → type_of (frame_of s).context p ≡ Pointer elem g → cell_asked s p blocks ≡ Ok z →
    place_asked s (place (deref p at) path) blocks ≡ (pointee (frame_of s).context at (Pointer elem g) z >>? λ l. Ok (along (frame_of s).context path l))
pointee_asked s p at path blocks elem g z type is =
    ap (λ r. (r >>? pointee (frame_of s).context at (type_of (frame_of s).context p)) >>? λ l. Ok (along (frame_of s).context path l)) is
    ∙ ap (λ u. pointee (frame_of s).context at u z >>? λ l. Ok (along (frame_of s).context path l)) type

-- where a pointer points, and fields behind that
pub stage_same : (s : Scene) (ty : VarTy) (n : ℕ) (before : Blocks) (source : State → Outcome Location) (keeps : Temp) (stmts : List StmtTree) (p : t.ExprTree) (at : Span) (path : List ℕ) (g : Stage s ty n source keeps stmts p at path) (other : Bool) (y : Cell) (z : core.Cell) (st : State) (st' : c.State) →
    After s (below n) before st st' → IsPointer s g.elem y z →
    Same (Gives s (below n) before (IsPlace s ty)) (or_trap at (dereferenced (context_of s) (Pointer g.elem g.fixed) y) st >>= λ l. gives (led (context_of s) path l))
    (evaluated (pointee (frame_of s).context at (Pointer g.elem other) z >>? λ l. Ok (along (frame_of s).context path l)) st' (λ l. gives l))
stage_same s ty n before source keeps stmts p at path g other y z st st' a q =
    same_made (Gives s (below n) before (IsPlace s (type_of_elem g.elem))) (Gives s (below n) before (IsPlace s ty)) (or_trap at (dereferenced (context_of s) (Pointer g.elem g.fixed) y) st) (led (context_of s) path) (along (frame_of s).context path) (pointee (frame_of s).context at (Pointer g.elem other) z) st'
    (subst (λ u. Same (Gives s (below n) before (IsPlace s (type_of_elem g.elem))) (or_trap at (dereferenced (context_of s) (Pointer g.elem g.fixed) y) st) (evaluated (pointee (frame_of s).context at (Pointer g.elem other) u) st' (λ l. gives l))) (sym q.same)
    (deref_same s n before g.elem g.fixed other at y st st' a q.scoped q.within))
    (λ l st1 l' h. record { after = h.after; facts = g.leads l l' h.facts })

pub stage_runs : (s : Scene) (ty : VarTy) (n : ℕ) (source : State → Outcome Location) (keeps : Temp) (stmts : List StmtTree) (p : t.ExprTree) (at : Span) (path : List ℕ) → Stage s ty n source keeps stmts p at path →
    IsNext s (IsPlace s ty) n source stmts (place_asked s (place (deref p at) path))
stage_runs s ty n source keeps stmts p at path g st st' a =
    subst (λ o. SameAsked (Kept s (below n) st'.memory) (Gives s (below n) st'.memory (IsPlace s ty)) (place_asked s (place (deref p at) path)) o (run_all s stmts st')) (sym (g.is st a.fits))
    (asked_else (Kept s (below n) st'.memory) (Kept s (below n) st'.memory) (Gives s (below n) st'.memory (IsPointer s g.elem)) (Gives s (below n) st'.memory (IsPlace s ty)) (cell_asked s p) (place_asked s (place (deref p at) path)) (g.from st) (run_all s stmts st')
    (λ y st1. or_trap at (dereferenced (context_of s) (Pointer g.elem g.fixed) y) st1 >>= λ l. gives (led (context_of s) path l)) (g.runs st st' a) (λ blocks kk. kk)
    (λ stop blocks kk no. ap (λ r. (r >>? pointee (frame_of s).context at (type_of (frame_of s).context p)) >>? λ l. Ok (along (frame_of s).context path l)) no)
    (λ y st1 z st1' q there.
    subst (λ r. Same (Gives s (below n) st'.memory (IsPlace s ty)) (or_trap at (dereferenced (context_of s) (Pointer g.elem g.fixed) y) st1 >>= λ l. gives (led (context_of s) path l)) (evaluated r st1' (λ l. gives l)))
    (sym (pointee_asked s p at path st1'.memory g.elem g.other z g.type there))
    (stage_same s ty n st'.memory source keeps stmts p at path g g.other y z st1 st1' q.after q.facts)))

-- a pointer's value, and where it points
value_then : {A : Type 0} (o : Outcome Value) (next : Cell → State → Outcome A) → (o >>= λ w. next (cell_of w)) ≡ ((o >>= λ w. gives (cell_of w)) >>= λ y st1. next y st1 >>= λ l. gives l)
value_then (gives w st) next = sym (bind_gives (next (cell_of w) st))
value_then (trapped trap span st) next = refl
value_then (spent st) next = refl

behind_stage : (s : Scene) (n : ℕ) (elem : Elem) (fixed : Bool) (at : Span) (ex : x.ExprTree) (source : State → Outcome Value) (l : Lowered) → e.type_of ex ≡ Pointer elem fixed → ValueLowered s (Some (Pointer elem fixed)) n source l →
    Stage s (type_of_elem elem) n (λ st. source st >>= λ w. or_trap at (dereferenced (context_of s) (Pointer elem fixed) (cell_of w))) (holding (e.type_of ex) ex) l.stmts l.value at []
behind_stage s n elem fixed at ex source l is k = record {
  elem = elem;
  fixed = fixed;
  held = fixed;
  other = (k.type elem fixed refl).0;
  from = λ st. source st >>= λ w. gives (cell_of w);
  is = λ st fit. value_then (source st) (λ y. or_trap at (dereferenced (context_of s) (Pointer elem fixed) y));
  runs = λ st st' a. asked_kept (Kept s (below n) st'.memory) (Gives s (below n) st'.memory (IsValue s (Some (Pointer elem fixed)))) (Gives s (below n) st'.memory (IsPointer s elem)) (cell_asked s l.value) (source st) (run_all s l.stmts st') cell_of (k.runs st st' a)
      (λ w st1 z st1' q. record {
        after = q.after;
        facts = record {
          scoped = scoped_of_pointer (world_of s) elem fixed w q.facts.fits;
          within = within_of_pointer (world_of s) (sizes_in s) elem fixed w q.facts.sized;
          same = q.facts.same;
        };
      });
  leads = λ l1 l2 h. h;
  keeps_type = is;
  type = (k.type elem fixed refl).1;
}

pub behind_lowered : (s : Scene) (n : ℕ) (elem : Elem) (fixed : Bool) (at : Span) (ex : x.ExprTree) (source : State → Outcome Value) (l : Lowered) → e.type_of ex ≡ Pointer elem fixed → ValueLowered s (Some (Pointer elem fixed)) n source l →
    PlaceLowered s (type_of_elem elem) n true (λ st. source st >>= λ w. or_trap at (dereferenced (context_of s) (Pointer elem fixed) (cell_of w))) (behind at ex l)
behind_lowered s n elem fixed at ex source l is k =
    let g = behind_stage s n elem fixed at ex source l is k in
    record {
      named = ap tys.pointee_type is;
      type = ap tys.pointee_type (k.type elem fixed refl).1;
      runs = stage_runs s (type_of_elem elem) n (λ st. source st >>= λ w. or_trap at (dereferenced (context_of s) (Pointer elem fixed) (cell_of w))) (holding (e.type_of ex) ex) l.stmts l.value at [] g;
      stage = λ can. g;
    }

-- ---- fields

path_append : (structs : List StructInfo) (ty : VarTy) (path : List ℕ) (k : ℕ) → path_type structs ty (with_field path k) ≡ field_type structs (path_type structs ty path) k
path_append structs ty [] k = refl
path_append structs ty (j ∷ path) k = path_append structs (field_type structs ty j) path k

along_append : (cx : tys.Context) (path : List ℕ) (k : ℕ) (at : v.Location) → along cx (with_field path k) at ≡ v.field_at cx k (along cx path at)
along_append cx [] k at = refl
along_append cx (j ∷ path) k at = along_append cx path k (v.field_at cx j at)

-- a field of a struct
pub record FieldOf (structs : List StructInfo) (a ty : VarTy) (k : ℕ) : Type 0 where
  pub number : ℕ
  pub is : a ≡ Struct number
  pub type : e.field_type structs number k ≡ ty

pub field_of_struct : (structs : List StructInfo) (a : VarTy) (k : ℕ) (ty : VarTy) → f.field_type structs (Some a) k ≡ Some ty → FieldOf structs a ty k
field_of_struct structs (Struct n) k ty h = record { number = n; is = refl; type = field_is structs n k ty h }
field_of_struct structs (Int u) k ty h = cc
field_of_struct structs (Array elem count) k ty h = cc
field_of_struct structs (Pointer elem fixed) k ty h = cc

place_field : (p : PlaceTree) (s : Scene) (k : ℕ) (blocks : Blocks) → place_asked s (place_with_field p k) blocks ≡ (place_asked s p blocks >>? λ at. Ok (v.field_at (frame_of s).context k at))
place_field (place root path) s k blocks = go (v.root_location (frame_of s).context s.frame.depth root blocks)
  where
    go : (r : Result v.Location Stop) → (r >>? λ at. Ok (along (frame_of s).context (with_field path k) at)) ≡ ((r >>? λ at. Ok (along (frame_of s).context path at)) >>? λ at. Ok (v.field_at (frame_of s).context k at))
    go (Ok at) = ap (λ q. Ok q) (along_append (frame_of s).context path k at)
    go (Err stop) = refl

field_place_type : (p : PlaceTree) (s : Scene) (k : ℕ) → place_type (frame_of s).context (place_with_field p k) ≡ field_type s.names.structs (place_type (frame_of s).context p) k
field_place_type (place root path) s k = path_append s.names.structs (tys.root_type (frame_of s).context root) path k

led_append : (cx : e.Context) (path : List ℕ) (k : ℕ) (at : Location) → led cx (with_field path k) at ≡ field_at cx k (led cx path at)
led_append cx [] k at = refl
led_append cx (j ∷ path) k at = led_append cx path k (field_at cx j at)

led_more : (cx : e.Context) (path : List ℕ) (k : ℕ) (o : Outcome Cell) (d : Cell → State → Outcome Location) →
    ((o >>= λ y st1. d y st1 >>= λ l. gives (led cx path l)) >>= λ l. gives (field_at cx k l)) ≡ (o >>= λ y st1. d y st1 >>= λ l. gives (led cx (with_field path k) l))
led_more cx path k (gives y st) d = go (d y st)
  where
    go : (r : Outcome Location) → ((r >>= λ l. gives (led cx path l)) >>= λ l. gives (field_at cx k l)) ≡ (r >>= λ l. gives (led cx (with_field path k) l))
    go (gives l st1) = ap (λ z. gives z st1) (sym (led_append cx path k l))
    go (trapped trap span st1) = refl
    go (spent st1) = refl
led_more cx path k (trapped trap span st) d = refl
led_more cx path k (spent st) d = refl

field_place : (s : Scene) (a ty : VarTy) (k : ℕ) (at : Location) (at' : v.Location) → SceneFits s → f.field_type s.names.structs (Some a) k ≡ Some ty → IsPlace s a at at' → IsPlace s ty (field_at (context_of s) k at) (v.field_at (frame_of s).context k at')
field_place s a ty k at at' fits is h =
    let o = field_of_struct s.names.structs a k ty is in
    record {
      fits = field_lies (world_of s) s.names (context_of s) k a at ty fits.fits h.fits is;
      within = field_sized (world_of s) s.names (context_of s) k a at ty (setup s fits) h.fits h.within is;
      block = h.block ∙ sym (block_of at.ty);
      cell = cell_same o at.ty at'.ty (sym (some_same a at.ty h.fits.has) ∙ o.is) (h.ty ∙ o.is);
      ty = ap (λ z. field_type s.names.structs z k) (h.ty ∙ o.is) ∙ o.type;
    }
  where
    block_of : (u : VarTy) → name_of (e.field_of (context_of s) k at u).block ≡ name_of at.block
    block_of (Int w) = refl
    block_of (Struct n) = refl
    block_of (Array elem count) = refl
    block_of (Pointer elem fixed) = refl

    cell_same : (o : FieldOf s.names.structs a ty k) (u w : VarTy) → u ≡ Struct o.number → w ≡ Struct o.number → at'.cell + v.offset_in s.names.structs w k ≡ (e.field_of (context_of s) k at u).cell
    cell_same o u w p q =
        ap (λ z. at'.cell + v.offset_in s.names.structs z k) q ∙ ap (λ z. z + offset_of s.names.structs o.number k) h.cell ∙ sym (ap (λ z. (e.field_of (context_of s) k at z).cell) p)

field_stage : (s : Scene) (n : ℕ) (a ty : VarTy) (k : ℕ) (source : State → Outcome Location) (keeps : Option Temp) (stmts : List StmtTree) (p : PlaceTree) → SceneFits s → f.field_type s.names.structs (Some a) k ≡ Some ty → StageOf s a n source keeps stmts p →
    StageOf s ty n (λ st. source st >>= λ at. gives (field_at (context_of s) k at)) keeps stmts (place_with_field p k)
field_stage s n a ty k source keeps stmts (place (t.local w) path) fits is g = tt
field_stage s n a ty k source keeps stmts (place (t.global w) path) fits is g = tt
field_stage s n a ty k source None stmts (place (deref p at) path) fits is g = g
field_stage s n a ty k source (Some keeps) stmts (place (deref p at) path) fits is g = record {
  elem = g.elem;
  fixed = g.fixed;
  held = g.held;
  other = g.other;
  from = g.from;
  is = λ st fit. ap (λ o. o >>= λ l. gives (field_at (context_of s) k l)) (g.is st fit) ∙ led_more (context_of s) path k (g.from st) (λ y. or_trap at (dereferenced (context_of s) (Pointer g.elem g.fixed) y));
  runs = g.runs;
  leads = λ l l' h.
      subst (λ z. IsPlace s ty z (along (frame_of s).context (with_field path k) l')) (sym (led_append (context_of s) path k l))
      (subst (λ z. IsPlace s ty (field_at (context_of s) k (led (context_of s) path l)) z) (sym (along_append (frame_of s).context path k l'))
      (field_place s a ty k (led (context_of s) path l) (along (frame_of s).context path l') fits is (g.leads l l' h)));
  keeps_type = g.keeps_type;
  type = g.type;
}

pub field_lowered : (s : Scene) (n : ℕ) (can : Bool) (a ty : VarTy) (k : ℕ) (source : State → Outcome Location) (p : LoweredPlace) → SceneFits s → f.field_type s.names.structs (Some a) k ≡ Some ty → PlaceLowered s a n can source p →
    PlaceLowered s ty n can (λ st. source st >>= λ at. gives (field_at (context_of s) k at)) (record p { place = place_with_field p.place k; ty = field_type s.names.structs p.ty k })
field_lowered s n can a ty k source p fits is h =
    let o = field_of_struct s.names.structs a k ty is in
    record {
      named = ap (λ z. field_type s.names.structs z k) (h.named ∙ o.is) ∙ o.type;
      type = field_place_type p.place s k ∙ ap (λ z. field_type s.names.structs z k) (h.type ∙ o.is) ∙ o.type;
      runs = λ st st' al. asked_as (Kept s (below n) st'.memory) (Gives s (below n) st'.memory (IsPlace s ty)) (λ blocks. place_asked s p.place blocks >>? λ at. Ok (v.field_at (frame_of s).context k at)) (place_asked s (place_with_field p.place k)) (source st >>= λ at. gives (field_at (context_of s) k at)) (run_all s p.stmts st')
          (asked_made (Kept s (below n) st'.memory) (Gives s (below n) st'.memory (IsPlace s a)) (Gives s (below n) st'.memory (IsPlace s ty)) (place_asked s p.place) (source st) (run_all s p.stmts st') (field_at (context_of s) k) (v.field_at (frame_of s).context k) (h.runs st st' al)
          (λ at st1 at' st1' q. record { after = q.after; facts = field_place s a ty k at at' fits is q.facts }))
          (place_field p.place s k);
      stage = λ ok. field_stage s n a ty k source p.through p.stmts p.place fits is (h.stage ok);
    }

-- ---- elements

-- an array of the source, and in the normal form the pointer to its first element
pub record IsArray (s : Scene) (elem : Elem) (count : ℕ) (at : Location) (z : core.Cell) : Type 0 where
  pub fits : LocationFits (world_of s) (Some (Array elem count)) at
  pub within : LiesWithin (world_of s) (sizes_in s) at
  pub same : z ≡ core_cell (pointer at.block at.cell count 0)

array_same : (s : Scene) (elem : Elem) (count : ℕ) (at : Location) (at' : v.Location) → IsPlace s (Array elem count) at at' → IsArray s elem count at (v.decayed at' at'.ty)
array_same s elem count at at' h = record {
  fits = h.fits;
  within = h.within;
  same = ap (λ u. v.decayed at' u) h.ty ∙ ap (λ z. cell.Ptr (ptr.At z at'.cell count 0)) h.block ∙ ap (λ z. cell.Ptr (ptr.At (name_of at.block) z count 0)) h.cell;
}

pub array_runs : (s : Scene) (n : ℕ) (elem : Elem) (count : ℕ) (source : State → Outcome Location) (stmts : List StmtTree) (p : PlaceTree) → IsNext s (IsPlace s (Array elem count)) n source stmts (place_asked s p) →
    IsNext s (IsArray s elem count) n source stmts (cell_asked s (decay p))
array_runs s n elem count source stmts p h st st' a =
    subst (λ o. SameAsked (Kept s (below n) st'.memory) (Gives s (below n) st'.memory (IsArray s elem count)) (cell_asked s (decay p)) o (run_all s stmts st')) (bind_gives (source st))
    (asked_made (Kept s (below n) st'.memory) (Gives s (below n) st'.memory (IsPlace s (Array elem count))) (Gives s (below n) st'.memory (IsArray s elem count)) (place_asked s p) (source st) (run_all s stmts st') (λ at. at) (λ at'. v.decayed at' at'.ty) (h st st' a)
    (λ at st1 at' st1' q. record { after = q.after; facts = array_same s elem count at at' q.facts }))

-- what a decayed array points to
array_scoped : (w : World) (at : Location) (elem : Elem) (count : ℕ) → LocationFits w (Some (Array elem count)) at → IsScoped w w.depth (pointer at.block at.cell count 0)
array_scoped w at elem count l = (l.in_, l.live, plain_part at.cell l.in_ at.ty l.part (ap is_pointer (sym (some_same (Array elem count) at.ty l.has))), l.shallow)

array_points : (s : Scene) (at : Location) (elem : Elem) (count : ℕ) → LocationFits (world_of s) (Some (Array elem count)) at → LiesWithin (world_of s) (sizes_in s) at → PointsWithin (world_of s) (sizes_in s) elem (pointer at.block at.cell count 0)
array_points s at elem count l lies = subst (λ u. PointsWithin (world_of s) (sizes_in s) elem (e.decayed at u)) (sym (some_same (Array elem count) at.ty l.has)) (array_within (world_of s) (sizes_in s) at elem count l lies)

-- first one part and then the other, and something with both
pub pair_then : {A B D : Type 0} (o : Outcome A) (next : State → Outcome B) (k : A → B → State → Outcome D) → ((o >>= λ a st1. next st1 >>= λ z. gives (pair a z)) >>= λ q. k q.0 q.1) ≡ (o >>= λ a st1. next st1 >>= k a)
pair_then (gives a st) next k = bind_bind (next st) (λ z. gives (pair a z)) (λ q. k q.0 q.1)
pair_then (trapped trap span st) next k = refl
pair_then (spent st) next k = refl

-- the pointer to an element
abbrev pub element_from : Scene → Span → ℕ → Location → Value → State → Outcome Cell
element_from s sp count at w = or_trap sp (moved_cell (number_of w) (pointer at.block at.cell count 0))

moved_same : (s : Scene) (n : ℕ) (before : Blocks) (elem : Elem) (sp : Span) (y : Cell) (amount : ℤ) (st : State) (st' : c.State) → After s (below n) before st st' → IsScoped (world_of s) s.frame.depth y → PointsWithin (world_of s) (sizes_in s) elem y →
    Same (Gives s (below n) before (IsPointer s elem)) (or_trap sp (moved_cell amount y) st) (evaluated (told_as sp (moved_cell amount y)) st' (λ z. gives z))
moved_same s n before elem sp y amount st st' a scoped within = go (moved_cell amount y) (moves (world_of s) s.frame.depth amount y scoped) (moves_within (world_of s) (sizes_in s) elem amount y within)
  where
    go : (r : Result Cell Trap) → so.Gives (IsScoped (world_of s) s.frame.depth) r → so.Gives (PointsWithin (world_of s) (sizes_in s) elem) r → Same (Gives s (below n) before (IsPointer s elem)) (or_trap sp r st) (evaluated (told_as sp r) st' (λ z. gives z))
    go (Ok y1) p q = record { after = a; facts = record { scoped = p; within = q; same = refl } }
    go (Err trap) p q = (refl, refl, a.alike.seen)

pub element_runs : (s : Scene) (n : ℕ) (elem : Elem) (count : ℕ) (ity : Option VarTy) (sp : Span) (source : State → Outcome Location) (index : State → Outcome Value) (stmts : List StmtTree) (base value : t.ExprTree) →
    IsNext s (Both (IsArray s elem count) (IsValue s ity)) n (pair_of source index) stmts (both (cell_asked s base) (cell_asked s value)) → (u : VarTy) → ity ≡ Some u →
    IsNext s (IsPointer s elem) n (λ st. source st >>= λ at st1. index st1 >>= element_from s sp count at) stmts (cell_asked s (move base value false sp))
element_runs s n elem count ity sp source index stmts base value h u is st st' a =
    subst (λ o. SameAsked (Kept s (below n) st'.memory) (Gives s (below n) st'.memory (IsPointer s elem)) (cell_asked s (move base value false sp)) o (run_all s stmts st')) (pair_then (source st) index (element_from s sp count))
    (asked_else (Kept s (below n) st'.memory) (Kept s (below n) st'.memory) (Gives s (below n) st'.memory (Both (IsArray s elem count) (IsValue s ity))) (Gives s (below n) st'.memory (IsPointer s elem)) (both (cell_asked s base) (cell_asked s value)) (cell_asked s (move base value false sp)) (pair_of source index st) (run_all s stmts st') (λ q. element_from s sp count q.0 q.1)
    (h st st' a) (λ blocks p. p) (λ stop blocks p no. step_stops s (Pointer elem false) (Move false) base value sp blocks stop tt no)
    (λ q st1 z st1' k there.
    subst (λ r. Same (Gives s (below n) st'.memory (IsPointer s elem)) (element_from s sp count q.0 q.1 st1) (evaluated r st1' (λ z. gives z)))
    (sym (step_same s (Pointer elem false) (Move false) base value sp st1'.memory (pointer q.0.block q.0.cell count 0) (cell_of q.1) tt tt tt (there ∙ ap (λ p. Ok p) (both_are (core_cell (pointer q.0.block q.0.cell count 0)) (core_cell (cell_of q.1)) z.0 z.1 k.facts.0.same (index_same q.1 z.1 is k.facts.1.same)))))
    (moved_same s n st'.memory elem sp (pointer q.0.block q.0.cell count 0) (number_of q.1) st1 st1' k.after (array_scoped (world_of s) q.0 elem count k.facts.0.fits) (array_points s q.0 elem count k.facts.0.fits k.facts.0.within))))
  where
    both_are : (a1 b1 a2 b2 : core.Cell) → a2 ≡ a1 → b2 ≡ b1 → pair a2 b2 ≡ pair a1 b1
    both_are a1 b1 a2 b2 p q = ap (λ z. pair z b2) p ∙ ap (λ z. pair a1 z) q

    index_same : (w : Value) (z : core.Cell) → ity ≡ Some u → SameCell ity w z → z ≡ core_cell (cell_of w)
    index_same w z e q = subst (λ o. SameCell o w z) e q

-- the source of an element, by the pointer to it
element_is : (s : Scene) (elem : Elem) (count : ℕ) (sp : Span) (o : Outcome Location) (index : State → Outcome Value) → Keeps (world_of s) (LocationFits (world_of s) (Some (Array elem count))) o →
    (o >>= λ at st1. index st1 >>= indexed (context_of s) sp at) ≡ ((o >>= λ at st1. index st1 >>= element_from s sp count at) >>= λ y st1. or_trap sp (dereferenced (context_of s) (Pointer elem false) y) st1 >>= λ l. gives l)
element_is s elem count sp (gives at st) index k = go (index st) (some_same (Array elem count) at.ty k.0.has)
  where
    last : (r : Outcome Cell) → (r >>= λ y. or_trap sp (dereferenced (context_of s) (Pointer elem false) y)) ≡ (r >>= λ y st1. or_trap sp (dereferenced (context_of s) (Pointer elem false) y) st1 >>= λ l. gives l)
    last (gives y st1) = sym (bind_gives (or_trap sp (dereferenced (context_of s) (Pointer elem false) y) st1))
    last (trapped trap span st1) = refl
    last (spent st1) = refl

    go : (r : Outcome Value) → Array elem count ≡ at.ty → (r >>= indexed (context_of s) sp at) ≡ ((r >>= element_from s sp count at) >>= λ y st1. or_trap sp (dereferenced (context_of s) (Pointer elem false) y) st1 >>= λ l. gives l)
    go (gives w st1) same =
        ap (λ u. or_trap sp (moved_cell (number_of w) (e.decayed at u)) st1 >>= λ y. or_trap sp (dereferenced (context_of s) (e.element_of u) y)) (sym same)
        ∙ last (or_trap sp (moved_cell (number_of w) (pointer at.block at.cell count 0)) st1)
    go (trapped trap span st1) same = refl
    go (spent st1) same = refl
element_is s elem count sp (trapped trap span st) index k = refl
element_is s elem count sp (spent st) index k = refl

pub element_lowered : (s : Scene) (n : ℕ) (elem : Elem) (count : ℕ) (ity : Option VarTy) (iu : VarTy) (fixed : Bool) (sp : Span) (first index : x.ExprTree) (source : State → Outcome Location) (next : State → Outcome Value) (base value : Lowered) → ity ≡ Some iu →
    ((st : State) → Fits (world_of s) st.memory → Keeps (world_of s) (LocationFits (world_of s) (Some (Array elem count))) (source st)) → PointerType s (Some (Pointer elem fixed)) base.value →
    IsNext s (Both (IsArray s elem count) (IsValue s ity)) n (pair_of source next) (base.stmts ++ value.stmts) (both (cell_asked s base.value) (cell_asked s value.value)) →
    PlaceLowered s (type_of_elem elem) n true (λ st. source st >>= λ at st1. next st1 >>= indexed (context_of s) sp at) (element_place sp first index (Pointer elem fixed) base value)
element_lowered s n elem count ity iu fixed sp first index source next base value is keeps type pair =
    let g : Stage s (type_of_elem elem) n (λ st. source st >>= λ at st1. next st1 >>= indexed (context_of s) sp at) (holding (Pointer elem fixed) (moved_to sp first index (Pointer elem fixed))) (base.stmts ++ value.stmts) (move base.value value.value false sp) sp [] = record {
      elem = elem;
      fixed = false;
      held = fixed;
      other = (type elem fixed refl).0;
      from = λ st. source st >>= λ at st1. next st1 >>= element_from s sp count at;
      is = λ st fit. element_is s elem count sp (source st) next (keeps st fit);
      runs = element_runs s n elem count ity sp source next (base.stmts ++ value.stmts) base.value value.value pair iu is;
      leads = λ l1 l2 h. h;
      keeps_type = refl;
      type = (type elem fixed refl).1;
    } in
    record {
      named = refl;
      type = ap tys.pointee_type (type elem fixed refl).1;
      runs = stage_runs s (type_of_elem elem) n (λ st. source st >>= λ at st1. next st1 >>= indexed (context_of s) sp at) (holding (Pointer elem fixed) (moved_to sp first index (Pointer elem fixed))) (base.stmts ++ value.stmts) (move base.value value.value false sp) sp [] g;
      stage = λ can. g;
    }
