-- Expressions: what is read, computed and converted, and chains.
use Rattle.std.proofs.Common.{◌≡◌, ◌∙◌, ◌≤◌, ◌<◌, ℕ, zero, suc, ◌+◌, pos, ℤ, refl, ap, sym, subst, arith, Bool, true, false, not, Option, Some, None, List, [], ◌∷◌, ◌++◌, map, length, append_assoc, Result, Ok, Err, if◌then◌else◌}
use Rattle.std.specs.Prelude.{IsTrue, ◌||◌, slice_get, slice_index_or}
use Rattle.std.proofs.lemmas.Option.{get_or_from_slice_get}
use Rattle.pt_base.specs.declared.int_type.IntType.{IntType}
use Rattle.pt_base.specs.declared.int_type.IntType.TheVariants as i
use Rattle.pt_base.specs.declared.span.Span.{Span}
use Rattle.pt_base.specs.declared.trap.Trap.{Trap}
use Rattle.pt_int.specs.declared.operator.UnOp.{UnOp}
use Rattle.pt_int.specs.declared.operator.BinOp.{BinOp}
use Rattle.pt_tree.specs.declared.signature.Elem.{Elem}
use Rattle.pt_tree.specs.declared.signature.Elem.TheVariants as el
use Rattle.runs.specs.State.{gives, trapped, spent, ◌>>=◌}
use Rattle.typed_tree.specs.declared.types.VarTy.{VarTy}
use Rattle.typed_tree.specs.declared.types.VarTy.TheVariants.{Int, Struct, Array, Pointer}
use Rattle.typed_tree.specs.declared.link.LinkStep.{LinkStep}
use Rattle.typed_tree.specs.declared.link.LinkStep.TheVariants.{Arithmetic, Shift, Move, MoveBy, Difference, Compare}
use Rattle.typed_tree.specs.ExpressionTree as x
use Rattle.typed_tree.specs.ExpressionTree.{ExprTree}
use Rattle.typed_tree.specs.Sizes.{sizes_of}
use Rattle.typed_tree.specs.TypeTests.{type_of_elem, is_value, is_scalar}
use Rattle.typed_tree.specs.WellFormedExpression.{is_typed, ty_of}
use Rattle.block_memory.specs.declared.cell.Cell as core
use Rattle.block_memory.specs.declared.cell.Cell.TheVariants as cell
use Rattle.block_memory.specs.declared.cell.Pointer.TheVariants as ptr
use Rattle.block_memory.specs.declared.cell.BlockName.TheVariants.{Local, Global}
use Rattle.block_memory.specs.Block as b
use Rattle.block_memory.specs.Blocks.{Blocks}
use Rattle.source_meaning.specs.Memory.{Block, local, global, Cell, number, null, pointer, read}
use Rattle.source_meaning.specs.State.{State, Outcome}
use Rattle.source_meaning.specs.Values as m
use Rattle.source_meaning.specs.Values.{Value, holds, cell_of, number_of, Location}
use Rattle.source_meaning.specs.Expressions as e
use Rattle.source_meaning.specs.Expressions.{or_trap, loaded, cell_or_trap, value_of}
use Rattle.source_soundness.specs.Worlds.{World, Fits, ValueFits, LocationFits, IsNumber, IsScoped}
use Rattle.source_soundness.specs.Sizes.{Sized, KeepsSizes, ValueSized}
use Rattle.source_soundness.specs.Laws.{Keeps}
use Rattle.source_soundness.proofs.Soundness.{value_fits}
use Rattle.source_soundness.proofs.SizeSoundness.{value_sized}
use Rattle.pt_core.specs.CodeTree as t
use Rattle.pt_core.specs.CodeTree.{StmtTree, PlaceTree, place, deref}
use Rattle.pt_core.specs.Types as tys
use Rattle.pt_core.specs.Types.{type_of, place_type, type_at}
use Rattle.pt_core.specs.Values as v
use Rattle.pt_core.specs.Values.{Stop, ◌>>?◌}
use Rattle.pt_core.specs.Statements as c
use Rattle.pt_core.specs.Statements.{Flow, goes_on, evaluated}
use Rattle.lowering.specs.Lowered.{Temp, Lowered, LoweredPlace, past, temp, hold, held_if}
use Rattle.lowering.specs.Operators as l
use Rattle.lowering.specs.Operators.{stepped, prefixed}
use Rattle.c_lower_law.proofs.Relations.{name_of, core_cell, SameObjects, Scene, world_of, context_of, frame_of, sizes_in, HasTemps, HasRoom, Kept, Alike, Same, SameSeen, After, below}
use Rattle.c_lower_law.proofs.Expressions.{run_all, asked, cell_asked, place_asked, SameAsked, SameCell, Gives, IsValue, IsPlace, SceneFits}
use Rattle.c_lower_law.proofs.Runs.{pair, bind_gives, asked_else}
use Rattle.c_lower_law.proofs.Memories.{map_get}
use Rattle.c_lower_law.proofs.Held.{temp_there, both, asked_weaken, asked_made, asked_kept, IsNext, Both, pair_of, first_then, temp_read}
use Rattle.c_lower_law.proofs.Operators.{PointerType, told_as, Prefixes, prefixed_same, prefixed_stops, IsScalarCell, IsPointerCell, converted_value, converted_stops, TakesLeft, PlainStep, PointsTo, step_same, step_stops, by_same, by_stops}
use Rattle.c_lower_law.proofs.Places.{setup, some_same, PlaceLowered, ValueLowered, IsArray, pair_then}

-- ---- what is known of the source settles the rest

-- states alike, but for kinds and sizes
pub record Near (s : Scene) (st : State) (st' : c.State) : Type 0 where
  pub objects : SameObjects (world_of s) st.memory st'.memory
  pub room : HasRoom s st'.memory
  pub hosts : st'.hosts ≡ st.hosts
  pub input : st'.input ≡ st.input
  pub seen : SameSeen st st'

pub near : (s : Scene) (st : State) (st' : c.State) → Alike s st st' → Near s st st'
near s st st' a = record { objects = a.objects; room = a.room; hosts = a.hosts; input = a.input; seen = a.seen }

pub alike : (s : Scene) (st : State) (st' : c.State) → Near s st st' → Fits (world_of s) st.memory → Sized (world_of s) (sizes_in s) st.memory → Alike s st st'
alike s st st' a fits sized = record { objects = a.objects; room = a.room; fits = fits; sized = sized; hosts = a.hosts; input = a.input; seen = a.seen }

pub record GivesNear {A X : Type 0} (s : Scene) (K : ℕ → Type 0) (before : Blocks) (F : A → X → Type 0) (a : A) (st : State) (x : X) (st' : c.State) : Type 0 where
  pub near : Near s st st'
  pub kept : Kept s K before st'.memory
  pub facts : F a x

abbrev pub IsNear : {A X : Type 0} → Scene → (A → X → Type 0) → ℕ → (State → Outcome A) → List StmtTree → (Blocks → Result X Stop) → Type 0
IsNear s F n source stmts ask = (st : State) (st' : c.State) → Alike s st st' → SameAsked (Kept s (below n) st'.memory) (GivesNear s (below n) st'.memory F) ask (source st) (run_all s stmts st')

pub nearly : {A X : Type 0} (s : Scene) (F : A → X → Type 0) (n : ℕ) (source : State → Outcome A) (stmts : List StmtTree) (ask : Blocks → Result X Stop) → IsNext s F n source stmts ask → IsNear s F n source stmts ask
nearly s F n source stmts ask h st st' a =
    asked_weaken (Kept s (below n) st'.memory) (Kept s (below n) st'.memory) (Gives s (below n) st'.memory F) (GivesNear s (below n) st'.memory F) ask (source st) (run_all s stmts st') (h st st' a) (λ blocks p. p)
    (λ v st1 x st1' q. record { near = near s st1 st1' q.after.alike; kept = q.after.kept; facts = q.facts })

-- by what the source's part comes to
same_known : {A X : Type 0} (Q R : A → State → X → c.State → Type 0) (o : Outcome A) (o' : c.Outcome X) → Same Q o o' → ((a : A) (st : State) (x : X) (st' : c.State) → o ≡ gives a st → Q a st x st' → R a st x st') → Same R o o'
same_known Q R (gives a st) (gives x st') q on = on a st x st' refl q
same_known Q R (gives a st) (trapped trap span st') q on = q
same_known Q R (gives a st) (spent st') q on = q
same_known Q R (trapped trap span st) (gives x st') q on = q
same_known Q R (trapped trap span st) (trapped trap' span' st') q on = q
same_known Q R (trapped trap span st) (spent st') q on = q
same_known Q R (spent st) (gives x st') q on = q
same_known Q R (spent st) (trapped trap span st') q on = q
same_known Q R (spent st) (spent st') q on = q

asked_known : {A X : Type 0} (P : Blocks → Type 0) (Q R : A → State → X → c.State → Type 0) (ask : Blocks → Result X Stop) (o : Outcome A) (o' : c.Outcome Flow) → SameAsked P Q ask o o' → ((a : A) (st : State) (x : X) (st' : c.State) → o ≡ gives a st → Q a st x st' → R a st x st') → SameAsked P R ask o o'
asked_known P Q R ask o (gives flow st') h on = (h.0, h.1, same_known Q R o (asked ask st') h.2 on)
asked_known P Q R ask o (trapped trap span st') h on = same_known Q R o (trapped trap span st') h on
asked_known P Q R ask o (spent st') h on = same_known Q R o (spent st') h on

-- what is given fits, and so does the memory
pub asked_settled : {A X : Type 0} (s : Scene) (n : ℕ) (before : Blocks) (F G : A → X → Type 0) (T U : A → Type 0) (ask : Blocks → Result X Stop) (o : Outcome A) (o' : c.Outcome Flow) →
    SameAsked (Kept s (below n) before) (GivesNear s (below n) before F) ask o o' → Keeps (world_of s) T o → KeepsSizes (world_of s) (sizes_in s) U o → ((a : A) (x : X) → F a x → T a → U a → G a x) → SameAsked (Kept s (below n) before) (Gives s (below n) before G) ask o o'
asked_settled s n before F G T U ask o o' h fit sized on =
    asked_known (Kept s (below n) before) (GivesNear s (below n) before F) (Gives s (below n) before G) ask o o' h
    (λ a st x st' e q.
    let t = subst (λ z. Keeps (world_of s) T z) e fit in
    let u = subst (λ z. KeepsSizes (world_of s) (sizes_in s) U z) e sized in
    record { after = record { alike = alike s st st' q.near t.1 u.1; kept = q.kept }; facts = on a x q.facts t.0 u.0 })

pub same_settled : {A X : Type 0} (s : Scene) (n : ℕ) (before : Blocks) (F G : A → X → Type 0) (T U : A → Type 0) (o : Outcome A) (o' : c.Outcome X) →
    Same (GivesNear s (below n) before F) o o' → Keeps (world_of s) T o → KeepsSizes (world_of s) (sizes_in s) U o → ((a : A) (x : X) → F a x → T a → U a → G a x) → Same (Gives s (below n) before G) o o'
same_settled s n before F G T U o o' h fit sized on =
    same_known (GivesNear s (below n) before F) (Gives s (below n) before G) o o' h
    (λ a st x st' e q.
    let t = subst (λ z. Keeps (world_of s) T z) e fit in
    let u = subst (λ z. KeepsSizes (world_of s) (sizes_in s) U z) e sized in
    record { after = record { alike = alike s st st' q.near t.1 u.1; kept = q.kept }; facts = on a x q.facts t.0 u.0 })

-- the value of an expression, by its cell
pub value_settled : (s : Scene) (ex : ExprTree) (n : ℕ) (stmts : List StmtTree) (ask : Blocks → Result core.Cell Stop) → SceneFits s → IsTrue (is_typed s.names ex) → IsNear s (SameCell (ty_of ex)) n (value_of ex (context_of s)) stmts ask →
    IsNext s (IsValue s (ty_of ex)) n (value_of ex (context_of s)) stmts ask
value_settled s ex n stmts ask fits typed h st st' a =
    asked_settled s n st'.memory (SameCell (ty_of ex)) (IsValue s (ty_of ex)) (ValueFits (world_of s) (ty_of ex)) (ValueSized (world_of s) (sizes_in s) (ty_of ex)) ask (value_of ex (context_of s) st) (run_all s stmts st') (h st st' a)
    (value_fits ex (world_of s) s.names (context_of s) st fits.fits typed a.fits) (value_sized ex (world_of s) s.names (context_of s) st (setup s fits) typed a.fits a.sized)
    (λ v x q t u. record { fits = t; sized = u; same = q })

-- ---- scalars

-- an integer or a pointer
abbrev pub Scalar : VarTy → Type 0
Scalar (Int u) = Unit {0}
Scalar (Struct n) = ⊥
Scalar (Array elem count) = ⊥
Scalar (Pointer elem fixed) = Unit {0}

pub scalar_cell : (w : World) (u : VarTy) (w1 : Value) → Scalar u → ValueFits w (Some u) w1 → IsScalarCell u (cell_of w1)
scalar_cell w (Int u) (holds x) h fit = fit
scalar_cell w (Int u) (m.whole cells) h fit = absurd fit
scalar_cell w (Int u) m.nothing h fit = absurd fit
scalar_cell w (Pointer elem fixed) w1 h fit = subst (λ z. IsPointerCell (cell_of z)) (sym fit.1) (pointer_cell fit.0 fit.2)
  where
    pointer_cell : (x : Cell) → IsScoped w w.depth x → IsPointerCell x
    pointer_cell (number n) p = p
    pointer_cell null p = tt
    pointer_cell (pointer bl base count index) p = tt
scalar_cell w (Struct n) w1 h fit = absurd h
scalar_cell w (Array elem count) w1 h fit = absurd h

pub same_cell : (ty : Option VarTy) (u : VarTy) (w : Value) (x : core.Cell) → ty ≡ Some u → SameCell ty w x → x ≡ core_cell (cell_of w)
same_cell ty u w x is h = subst (λ z. SameCell z w x) is h

pub cell_same : (ty : Option VarTy) (w : Value) (x : core.Cell) → x ≡ core_cell (cell_of w) → SameCell ty w x
cell_same None w x h = tt
cell_same (Some u) w x h = h

-- ---- what is read

-- a cell of a live object
pub read_same : (s : Scene) (u : VarTy) (at : Location) (at' : v.Location) (st : State) (st' : c.State) → Alike s st st' → IsPlace s u at at' → v.cell_in st'.memory at' ≡ core_cell (read st.memory at.block at.cell)
read_same s u at at' st st' a p =
    ap (λ z. slice_index_or (st'.memory z).cells at'.cell (cell.Int (pos 0))) p.block ∙ ap (λ z. slice_index_or (st'.memory (name_of at.block)).cells z (cell.Int (pos 0))) p.cell
    ∙ ap (λ cells. slice_index_or cells at.cell (cell.Int (pos 0))) (a.objects at.block p.fits.in_ p.fits.live) ∙ map_get (st.memory at.block) at.cell

pub loaded_cell : (s : Scene) (at : Location) (u : VarTy) (st : State) → Scalar u → loaded (context_of s) at u st ≡ holds (read st.memory at.block at.cell)
loaded_cell s at (Int u) st h = refl
loaded_cell s at (Pointer elem fixed) st h = refl
loaded_cell s at (Struct n) st h = absurd h
loaded_cell s at (Array elem count) st h = absurd h

pub read_runs : (s : Scene) (n : ℕ) (u : VarTy) (source : State → Outcome Location) (stmts : List StmtTree) (p : PlaceTree) → Scalar u → IsNext s (IsPlace s u) n source stmts (place_asked s p) →
    IsNext s (SameCell (Some u)) n (λ st. source st >>= λ at st1. gives (loaded (context_of s) at at.ty st1) st1) stmts (cell_asked s (t.read p))
read_runs s n u source stmts p scalar h st st' a =
    asked_else (Kept s (below n) st'.memory) (Kept s (below n) st'.memory) (Gives s (below n) st'.memory (IsPlace s u)) (Gives s (below n) st'.memory (SameCell (Some u))) (place_asked s p) (cell_asked s (t.read p)) (source st) (run_all s stmts st') (λ at st1. gives (loaded (context_of s) at at.ty st1) st1)
    (h st st' a) (λ blocks k. k) (λ stop blocks k no. ap (λ r. r >>? λ at. Ok (v.cell_in blocks at)) no)
    (λ at st1 at' st1' q there.
    subst (λ r. Same (Gives s (below n) st'.memory (SameCell (Some u))) (gives (loaded (context_of s) at at.ty st1) st1) (evaluated r st1' (λ z. gives z))) (sym (ap (λ r. r >>? λ at. Ok (v.cell_in st1'.memory at)) there))
    (record {
      after = q.after;
      facts = read_same s u at at' st1 st1' q.after.alike q.facts
          ∙ sym (ap (λ z. core_cell (cell_of (loaded (context_of s) at z st1))) (sym (some_same u at.ty q.facts.fits.has)) ∙ ap (λ z. core_cell (cell_of z)) (loaded_cell s at u st1 scalar));
    }))

pub place_pointer : (s : Scene) (u : VarTy) (p : PlaceTree) → place_type (frame_of s).context p ≡ u → PointerType s (Some u) (t.read p)
place_pointer s u p is elem fixed e = (fixed, is ∙ some_same u (Pointer elem fixed) e)

-- ---- arrays and addresses

pub decay_near : (s : Scene) (n : ℕ) (elem : Elem) (count : ℕ) (fixed : Bool) (source : State → Outcome Location) (stmts : List StmtTree) (value : t.ExprTree) → IsNext s (IsArray s elem count) n source stmts (cell_asked s value) →
    IsNext s (SameCell (Some (Pointer elem fixed))) n (λ st. source st >>= λ at. gives (holds (e.decayed at at.ty))) stmts (cell_asked s value)
decay_near s n elem count fixed source stmts value h st st' a =
    asked_kept (Kept s (below n) st'.memory) (Gives s (below n) st'.memory (IsArray s elem count)) (Gives s (below n) st'.memory (SameCell (Some (Pointer elem fixed)))) (cell_asked s value) (source st) (run_all s stmts st') (λ at. holds (e.decayed at at.ty)) (h st st' a)
    (λ at st1 z st1' q. record { after = q.after; facts = q.facts.same ∙ ap (λ u. core_cell (e.decayed at u)) (some_same (Array elem count) at.ty q.facts.fits.has) })

pub decay_pointer : (s : Scene) (elem : Elem) (count : ℕ) (ty : Option VarTy) (fixed : Bool) (p : PlaceTree) → place_type (frame_of s).context p ≡ Array elem count → ty ≡ Some (Pointer elem fixed) → PointerType s ty (t.decay p)
decay_pointer s elem count ty fixed p is to e1 f1 h = (false, ap (λ z. Pointer (tys.element_of z) false) is ∙ ap (λ z. Pointer z false) (same_elem elem e1 fixed f1 (sym to ∙ h)))
  where
    same_elem : (a z : Elem) (f g : Bool) → Some (Pointer a f) ≡ Some (Pointer z g) → a ≡ z
    same_elem a z f g h = cc

pub address_near : (s : Scene) (n : ℕ) (u : VarTy) (ty : Option VarTy) (source : State → Outcome Location) (stmts : List StmtTree) (p : PlaceTree) → IsNext s (IsPlace s u) n source stmts (place_asked s p) →
    IsNext s (SameCell ty) n (λ st. source st >>= λ at. gives (holds (e.address_of at))) stmts (cell_asked s (t.address p))
address_near s n u ty source stmts p h st st' a =
    asked_made (Kept s (below n) st'.memory) (Gives s (below n) st'.memory (IsPlace s u)) (Gives s (below n) st'.memory (SameCell ty)) (place_asked s p) (source st) (run_all s stmts st') (λ at. holds (e.address_of at)) (λ at'. cell.Ptr (ptr.At at'.block at'.cell 1 0)) (h st st' a)
    (λ at st1 at' st1' q. record {
      after = q.after;
      facts = cell_same ty (holds (e.address_of at)) (cell.Ptr (ptr.At at'.block at'.cell 1 0)) (ap (λ z. cell.Ptr (ptr.At z at'.cell 1 0)) q.facts.block ∙ ap (λ z. cell.Ptr (ptr.At (name_of at.block) z 1 0)) q.facts.cell);
    })

pub address_pointer : (s : Scene) (elem : Elem) (ty : Option VarTy) (fixed : Bool) (p : PlaceTree) → place_type (frame_of s).context p ≡ type_of_elem elem → ty ≡ Some (Pointer elem fixed) → PointerType s ty (t.address p)
address_pointer s elem ty fixed p is to e1 f1 h = (false, ap (λ z. Pointer (tys.element_of z) false) is ∙ ap (λ z. Pointer z false) (of_elem elem ∙ same_elem elem e1 fixed f1 (sym to ∙ h)))
  where
    of_elem : (z : Elem) → tys.element_of (type_of_elem z) ≡ z
    of_elem (el.Int u) = refl
    of_elem (el.Struct n) = refl

    same_elem : (a z : Elem) (f g : Bool) → Some (Pointer a f) ≡ Some (Pointer z g) → a ≡ z
    same_elem a z f g h = cc

-- ---- operators

-- a result of an operator, or its trap
pub told_near : (s : Scene) (n : ℕ) (before : Blocks) (ty : Option VarTy) (at : Span) (r : Result Cell Trap) (st : State) (st' : c.State) → After s (below n) before st st' →
    Same (Gives s (below n) before (SameCell ty)) (cell_or_trap at r st) (evaluated (told_as at r) st' (λ z. gives z))
told_near s n before ty at (Ok y) st st' a = record { after = a; facts = cell_same ty (holds y) (core_cell y) refl }
told_near s n before ty at (Err trap) st st' a = (refl, refl, a.alike.seen)

pub unary_near : (s : Scene) (n : ℕ) (op : UnOp) (u : VarTy) (ty : Option VarTy) (at : Span) (source : State → Outcome Value) (stmts : List StmtTree) (value : t.ExprTree) → Prefixes op u → Scalar u → IsNext s (IsValue s (Some u)) n source stmts (cell_asked s value) →
    IsNext s (SameCell ty) n (λ st. source st >>= λ w. cell_or_trap at (m.unary_cell op u (cell_of w))) stmts (cell_asked s (prefixed op u value at))
unary_near s n op u ty at source stmts value prefixes scalar h st st' a =
    asked_else (Kept s (below n) st'.memory) (Kept s (below n) st'.memory) (Gives s (below n) st'.memory (IsValue s (Some u))) (Gives s (below n) st'.memory (SameCell ty)) (cell_asked s value) (cell_asked s (prefixed op u value at)) (source st) (run_all s stmts st') (λ w. cell_or_trap at (m.unary_cell op u (cell_of w)))
    (h st st' a) (λ blocks k. k) (λ stop blocks k no. prefixed_stops s op u value at blocks stop prefixes no)
    (λ w st1 z st1' q there.
    subst (λ r. Same (Gives s (below n) st'.memory (SameCell ty)) (cell_or_trap at (m.unary_cell op u (cell_of w)) st1) (evaluated r st1' (λ z. gives z)))
    (sym (prefixed_same s op u value at st1'.memory (cell_of w) prefixes (scalar_cell (world_of s) u w scalar q.facts.fits) (there ∙ ap (λ y. Ok y) q.facts.same)))
    (told_near s n st'.memory ty at (m.unary_cell op u (cell_of w)) st1 st1' q.after))

pub convert_near : (s : Scene) (n : ℕ) (u to : VarTy) (source : State → Outcome Value) (stmts : List StmtTree) (value : t.ExprTree) → Scalar u → ((x : Cell) → IsScalarCell u x → IsScalarCell to x) → IsNext s (IsValue s (Some u)) n source stmts (cell_asked s value) →
    IsNext s (SameCell (Some to)) n (λ st. source st >>= λ w. gives (m.converted to w)) stmts (cell_asked s (l.converted to value))
convert_near s n u to source stmts value scalar same h st st' a =
    asked_else (Kept s (below n) st'.memory) (Kept s (below n) st'.memory) (Gives s (below n) st'.memory (IsValue s (Some u))) (Gives s (below n) st'.memory (SameCell (Some to))) (cell_asked s value) (cell_asked s (l.converted to value)) (source st) (run_all s stmts st') (λ w. gives (m.converted to w))
    (h st st' a) (λ blocks k. k) (λ stop blocks k no. converted_stops s to value blocks stop no)
    (λ w st1 z st1' q there.
    subst (λ r. Same (Gives s (below n) st'.memory (SameCell (Some to))) (gives (m.converted to w) st1) (evaluated r st1' (λ z. gives z)))
    (sym (converted_value s to value st1'.memory (cell_of w) (same (cell_of w) (scalar_cell (world_of s) u w scalar q.facts.fits)) (there ∙ ap (λ y. Ok y) q.facts.same)))
    (record { after = q.after; facts = refl }))

-- ---- chains

-- the type of what is held, or not
pub held_pointer : (s : Scene) (n : ℕ) (far : Lowered) (t : Bool) (x : Temp) (u : VarTy) → x.ty ≡ u → HasTemps s.core_variables n (held_if t n x far).temps → PointerType s (Some u) far.value → PointerType s (Some u) (held_if t n x far).value
held_pointer s n far true x u is temps h elem fixed e = (fixed, get_or_from_slice_get s.core_variables (past n far.temps) x.ty (Int i.Int) (temp_there s.core_variables n far.temps x [] temps) ∙ is ∙ some_same u (Pointer elem fixed) e)
held_pointer s n far false x u is temps h elem fixed e = h elem fixed e

pub pair_same : (a1 b1 a2 b2 : core.Cell) → a2 ≡ a1 → b2 ≡ b1 → pair a2 b2 ≡ pair a1 b1
pair_same a1 b1 a2 b2 p q = ap (λ z. pair z b2) p ∙ ap (λ z. pair a1 z) q

-- a step that takes its left operand first
pub link_near : (s : Scene) (n : ℕ) (u to : VarTy) (ity : Option VarTy) (step : LinkStep) (at : Span) (source index : State → Outcome Value) (stmts : List StmtTree) (a e1 : t.ExprTree) → TakesLeft step → PlainStep step → PointsTo s u step a → (iu : VarTy) → ity ≡ Some iu →
    IsNext s (Both (SameCell (Some u)) (IsValue s ity)) n (pair_of source index) stmts (both (cell_asked s a) (cell_asked s e1)) →
    IsNext s (SameCell (Some to)) n (λ st. source st >>= λ w st1. index st1 >>= λ y. cell_or_trap at (m.stepped (sizes_in s) u step (cell_of w) (cell_of y))) stmts (cell_asked s (stepped u step a e1 at))
link_near s n u to ity step at source index stmts a e1 first plain points iu is h st st' al =
    subst (λ o. SameAsked (Kept s (below n) st'.memory) (Gives s (below n) st'.memory (SameCell (Some to))) (cell_asked s (stepped u step a e1 at)) o (run_all s stmts st')) (pair_then (source st) index (λ w y. cell_or_trap at (m.stepped (sizes_in s) u step (cell_of w) (cell_of y))))
    (asked_else (Kept s (below n) st'.memory) (Kept s (below n) st'.memory) (Gives s (below n) st'.memory (Both (SameCell (Some u)) (IsValue s ity))) (Gives s (below n) st'.memory (SameCell (Some to))) (both (cell_asked s a) (cell_asked s e1)) (cell_asked s (stepped u step a e1 at)) (pair_of source index st) (run_all s stmts st')
    (λ q. cell_or_trap at (m.stepped (sizes_in s) u step (cell_of q.0) (cell_of q.1)))
    (h st st' al) (λ blocks k. k) (λ stop blocks k no. step_stops s u step a e1 at blocks stop first no)
    (λ q st1 z st1' k there.
    subst (λ r. Same (Gives s (below n) st'.memory (SameCell (Some to))) (cell_or_trap at (m.stepped (sizes_in s) u step (cell_of q.0) (cell_of q.1)) st1) (evaluated r st1' (λ z. gives z)))
    (sym (step_same s u step a e1 at st1'.memory (cell_of q.0) (cell_of q.1) first plain points (there ∙ ap (λ p. Ok p) (pair_same (core_cell (cell_of q.0)) (core_cell (cell_of q.1)) z.0 z.1 k.facts.0 (same_cell ity iu q.1 z.1 is k.facts.1.same)))))
    (told_near s n st'.memory (Some to) at (m.stepped (sizes_in s) u step (cell_of q.0) (cell_of q.1)) st1 st1' k.after)))

-- what a temporary holds
abbrev temp_cell : Scene → ℕ → Blocks → core.Cell
temp_cell s k blocks = slice_index_or (blocks (Local s.frame.depth k)).cells 0 (cell.Int (pos 0))

-- a pointer that is added to an integer, which is held
pub link_by : (s : Scene) (n k : ℕ) (u to : VarTy) (ity : Option VarTy) (at : Span) (source index : State → Outcome Value) (stmts : List StmtTree) (e1 : t.ExprTree) → (iu : VarTy) → ity ≡ Some iu →
    IsNext s (Both (SameCell (Some u)) (IsValue s ity)) n (pair_of source index) stmts (both (cell_asked s (temp k)) (cell_asked s e1)) →
    IsNext s (SameCell (Some to)) n (λ st. source st >>= λ w st1. index st1 >>= λ y. cell_or_trap at (m.stepped (sizes_in s) u MoveBy (cell_of w) (cell_of y))) stmts (cell_asked s (stepped u MoveBy (temp k) e1 at))
link_by s n k u to ity at source index stmts e1 iu is h st st' al =
    subst (λ o. SameAsked (Kept s (below n) st'.memory) (Gives s (below n) st'.memory (SameCell (Some to))) (cell_asked s (stepped u MoveBy (temp k) e1 at)) o (run_all s stmts st')) (pair_then (source st) index (λ w y. cell_or_trap at (m.stepped (sizes_in s) u MoveBy (cell_of w) (cell_of y))))
    (asked_else (Kept s (below n) st'.memory) (Kept s (below n) st'.memory) (Gives s (below n) st'.memory (Both (SameCell (Some u)) (IsValue s ity))) (Gives s (below n) st'.memory (SameCell (Some to))) (both (cell_asked s (temp k)) (cell_asked s e1)) (cell_asked s (stepped u MoveBy (temp k) e1 at)) (pair_of source index st) (run_all s stmts st')
    (λ q. cell_or_trap at (m.stepped (sizes_in s) u MoveBy (cell_of q.0) (cell_of q.1)))
    (h st st' al) (λ blocks k. k) (λ stop blocks p no. by_stops s u (temp k) e1 at blocks (temp_cell s k blocks) stop refl no)
    (λ q st1 z st1' g there.
    subst (λ r. Same (Gives s (below n) st'.memory (SameCell (Some to))) (cell_or_trap at (m.stepped (sizes_in s) u MoveBy (cell_of q.0) (cell_of q.1)) st1) (evaluated r st1' (λ z. gives z)))
    (sym (by_same s u (temp k) e1 at st1'.memory (temp_cell s k st1'.memory) (cell_of q.0) (cell_of q.1) refl (there ∙ ap (λ p. Ok p) (pair_same (core_cell (cell_of q.0)) (core_cell (cell_of q.1)) z.0 z.1 g.facts.0 (same_cell ity iu q.1 z.1 is g.facts.1.same)))))
    (told_near s n st'.memory (Some to) at (m.stepped (sizes_in s) u MoveBy (cell_of q.0) (cell_of q.1)) st1 st1' g.after)))
