-- What the lowering keeps of expressions, places, dropped values, objects, arguments and calls.
use Rattle.std.specs.Prelude.{◌≡◌, ◌≤◌, ℕ, pos, Bool, true, false, not, List, Option, Some, None, Result, Ok, IsTrue, map, length, slice_get, take, drop, unwrap_or}
use Rattle.pt_base.specs.declared.int_type.IntType.{IntType}
use Rattle.pt_base.specs.declared.span.Span.{Span}
use Rattle.pt_tree.specs.declared.signature.Param.{Param}
use Rattle.pt_tree.specs.declared.signature.Signature.{Signature}
use Rattle.runs.specs.State.{gives, trapped, spent}
use Rattle.typed_tree.specs.declared.types.VarTy.{VarTy}
use Rattle.typed_tree.specs.declared.types.VarTy.TheVariants.{Struct}
use Rattle.typed_tree.specs.ExpressionTree.{ExprTree, ExprTrees, PlaceTree}
use Rattle.typed_tree.specs.Sizes.{cells_by}
use Rattle.typed_tree.specs.WellFormed.{structs_sound}
use Rattle.typed_tree.specs.WellFormedExpression.{is_typed, all_typed, ty_of, is_struct, place_fits, place_type, arguments_fit, is_main}
use Rattle.block_memory.specs.declared.cell.Cell as core
use Rattle.block_memory.specs.declared.cell.Cell.TheVariants.{Int}
use Rattle.block_memory.specs.Blocks.{Blocks}
use Rattle.source_meaning.specs.Memory.{Cell}
use Rattle.source_meaning.specs.State.{State, Outcome}
use Rattle.source_meaning.specs.Values.{Value, holds, whole, cell_of, Location}
use Rattle.source_meaning.specs.Expressions.{Context, sizes, value_of, values_of, location_of}
use Rattle.source_soundness.specs.Worlds.{ValueFits, LocationFits, IsNumber}
use Rattle.source_soundness.specs.Laws.{ContextFits, ArgumentsFit}
use Rattle.source_soundness.specs.Sizes.{CallsKeepSizes, ValueSized, LiesWithin, ArgumentsSized}
use Rattle.pt_core.specs.CodeTree as t
use Rattle.pt_core.specs.CodeTree.{StmtTree, stmt_trees, expr_trees}
use Rattle.pt_core.specs.Types.{type_at, global_type}
use Rattle.pt_core.specs.Values as v
use Rattle.pt_core.specs.Values.{Stop, ◌>>?◌, cells_at}
use Rattle.pt_core.specs.Statements as c
use Rattle.pt_core.specs.Statements.{Flow, goes_on, evaluated, do_all}
use Rattle.lowering.specs.Lowered.{Temp, Effects, Lowered, LoweredPlace, Arguments}
use Rattle.lowering.specs.Expressions.{value_in, effects_in, place_in, object_in, arguments_in}
use Rattle.c_lower_law.proofs.Relations.{core_cell, name_of, Scene, variable_types, global_types, world_of, context_of, frame_of, scope_of, sizes_in, HasTemps, Kept, Alike, Same, After, below, all}

-- ---- the normal form's side

-- statements are run
abbrev pub run_all : Scene → List StmtTree → c.State → c.Outcome Flow
run_all s stmts st = do_all (stmt_trees stmts) (frame_of s) s.core_calls st

-- what is evaluated in a state, which it doesn't change
abbrev pub asked : {B : Type 0} → (Blocks → Result B Stop) → c.State → c.Outcome B
asked ask st = evaluated (ask st.memory) st (λ b. gives b)

abbrev pub cell_asked : Scene → t.ExprTree → Blocks → Result core.Cell Stop
cell_asked s e blocks = v.value_of (frame_of s).context s.frame.depth e blocks

abbrev pub place_asked : Scene → t.PlaceTree → Blocks → Result v.Location Stop
place_asked s p blocks = v.location_of (frame_of s).context s.frame.depth p blocks

-- the cells of an object of this struct
abbrev pub object_asked : Scene → t.PlaceTree → ℕ → Blocks → Result (List core.Cell) Stop
object_asked s p n blocks = place_asked s p blocks >>? λ at. Ok (cells_at blocks at (cells_by (sizes_in s) (Struct n)))

abbrev pub cells_asked : Scene → List t.ExprTree → Blocks → Result (List core.Cell) Stop
cells_asked s es blocks = v.values_of (frame_of s).context s.frame.depth (expr_trees es) blocks

-- Statements go on, and behind them something is evaluated: both come to something of which Q holds, or
-- both end alike, in the statements or where it is evaluated. The statements leave a memory of which P holds.
abbrev pub SameAsked : {A B : Type 0} → (Blocks → Type 0) → (A → State → B → c.State → Type 0) → (Blocks → Result B Stop) → Outcome A → c.Outcome Flow → Type 0
SameAsked P Q ask o (gives flow st') = (flow ≡ goes_on) × P st'.memory × Same Q o (asked ask st')
SameAsked P Q ask o (trapped trap span st') = Same Q o (trapped trap span st')
SameAsked P Q ask o (spent st') = Same Q o (spent st')

-- ---- what holds after a part of a run

-- both states go on alike, and this holds of what is given
pub record Gives {A B : Type 0} (s : Scene) (Keeps : ℕ → Type 0) (before : Blocks) (F : A → B → Type 0) (a : A) (st : State) (b : B) (st' : c.State) : Type 0 where
  pub after : After s Keeps before st st'
  pub facts : F a b

-- the cell of a value that isn't void
abbrev pub SameCell : Option VarTy → Value → core.Cell → Type 0
SameCell None v x = Unit {0}
SameCell (Some ty) v x = x ≡ core_cell (cell_of v)

-- a value of this type
pub record IsValue (s : Scene) (ty : Option VarTy) (v : Value) (x : core.Cell) : Type 0 where
  pub fits : ValueFits (world_of s) ty v
  pub sized : ValueSized (world_of s) (sizes_in s) ty v
  pub same : SameCell ty v x

-- a value that is dropped
abbrev pub IsDropped : Value → Flow → Type 0
IsDropped v flow = flow ≡ goes_on

-- the same place, of this type
pub record IsPlace (s : Scene) (u : VarTy) (at : Location) (at' : v.Location) : Type 0 where
  pub fits : LocationFits (world_of s) (Some u) at
  pub within : LiesWithin (world_of s) (sizes_in s) at
  pub block : at'.block ≡ name_of at.block
  pub cell : at'.cell ≡ at.cell
  pub ty : at'.ty ≡ u

-- the value of a struct, and the cells of its object
pub record IsObject (s : Scene) (n : ℕ) (v : Value) (xs : List core.Cell) : Type 0 where
  pub fits : ValueFits (world_of s) (Some (Struct n)) v
  pub sized : ValueSized (world_of s) (sizes_in s) (Some (Struct n)) v
  pub cells : List Cell
  pub is : v ≡ whole cells
  pub same : xs ≡ map core_cell cells

-- the cells of arguments
abbrev pub SameCells : List Value → List core.Cell → Type 0
SameCells vs xs = xs ≡ map (λ v. core_cell (cell_of v)) vs

pub record AreArguments (s : Scene) (params : List Param) (vs : List Value) (xs : List core.Cell) : Type 0 where
  pub fit : ArgumentsFit (world_of s) params vs
  pub sized : ArgumentsSized (world_of s) (sizes_in s) params vs
  pub same : SameCells vs xs

-- ---- calls

-- the result of a call, 0 where a host gave none; nothing is said of a result that isn't one
abbrev pub SameResult : Option IntType → Value → Option core.Cell → Type 0
SameResult None v x = Unit {0}
SameResult (Some t) v x = (y : Cell) × (v ≡ holds y) × IsNumber y × (unwrap_or x (Int (pos 0)) ≡ core_cell y)

-- a call of a function that isn't main comes to the same, and keeps all temporaries of the caller
abbrev pub CallsAlike : Scene → Type 0
CallsAlike s = (span : Span) (f : ℕ) (vs : List Value) (xs : List core.Cell) (st : State) (st' : c.State) (signature : Signature) →
    slice_get s.names.signatures f ≡ Some signature → IsTrue (not (is_main signature)) → ArgumentsFit (world_of s) signature.params vs → ArgumentsSized (world_of s) (sizes_in s) signature.params vs →
    SameCells vs xs → Alike s st st' → Same (Gives s all st'.memory (SameResult signature.result)) (s.calls s.frame span f vs st) (s.core_calls (frame_of s) span f xs st')

-- ---- scenes

-- the code's numbers name the same in both, and calls come to the same
pub record SceneFits (s : Scene) : Type 0 where
  pub fits : ContextFits (world_of s) s.names (context_of s)
  pub structs : IsTrue (structs_sound s.names.structs 0 s.names.structs)
  pub sized : CallsKeepSizes (world_of s) s.names (sizes_in s) s.frame s.calls
  pub globals : (g : ℕ) (ty : VarTy) → slice_get (global_types s) g ≡ Some ty → global_type (frame_of s).context g ≡ ty
  pub variables : (x : ℕ) (ty : VarTy) → slice_get (variable_types s) x ≡ Some ty → type_at s.core_variables x ≡ ty
  pub calls : CallsAlike s

-- ---- what is kept of an expression

-- an expression whose value is kept
abbrev pub ValuesAgree : Type 0
ValuesAgree = (s : Scene) (e : ExprTree) (n : ℕ) (st : State) (st' : c.State) → SceneFits s → IsTrue (is_typed s.names e) → is_struct (ty_of e) ≡ false →
    length s.names.vars ≤ n → HasTemps s.core_variables n (value_in (scope_of s) e n).temps → Alike s st st' →
    (let l = value_in (scope_of s) e n in SameAsked (Kept s (below n) st'.memory) (Gives s (below n) st'.memory (IsValue s (ty_of e))) (cell_asked s l.value) (value_of e (context_of s) st) (run_all s l.stmts st'))

-- an expression whose value is dropped
abbrev pub EffectsAgree : Type 0
EffectsAgree = (s : Scene) (e : ExprTree) (n : ℕ) (st : State) (st' : c.State) → SceneFits s → IsTrue (is_typed s.names e) →
    length s.names.vars ≤ n → HasTemps s.core_variables n (effects_in (scope_of s) e n).temps → Alike s st st' →
    Same (Gives s (below n) st'.memory IsDropped) (value_of e (context_of s) st) (run_all s (effects_in (scope_of s) e n).stmts st')

-- an expression of a struct's type
abbrev pub ObjectsAgree : Type 0
ObjectsAgree = (s : Scene) (e : ExprTree) (n k : ℕ) (st : State) (st' : c.State) → SceneFits s → IsTrue (is_typed s.names e) → ty_of e ≡ Some (Struct k) →
    length s.names.vars ≤ n → HasTemps s.core_variables n (object_in (scope_of s) e n).temps → Alike s st st' →
    (let p = object_in (scope_of s) e n in SameAsked (Kept s (below n) st'.memory) (Gives s (below n) st'.memory (IsObject s k)) (object_asked s p.place k) (value_of e (context_of s) st) (run_all s p.stmts st'))
