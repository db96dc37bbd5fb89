-- What the tree of a half keeps of expressions and places.
use Rattle.std.specs.Prelude.{◌≡◌, ◌≤◌, ℕ, [], true, false, Some, Result, Ok, Err, IsTrue}
use Rattle.pt_base.specs.declared.span.Span.{Span}
use Rattle.runs.specs.State.{gives, trapped, spent}
use Rattle.typed_tree.specs.declared.types.VarTy.{VarTy}
use Rattle.typed_tree.specs.ExpressionTree as t
use Rattle.typed_tree.specs.WellFormed.{structs_sound}
use Rattle.typed_tree.specs.WellFormedExpression.{ty_of}
use Rattle.check_declarations.specs.Structs.{Structs}
use Rattle.check_expressions.specs.Environment.{Env}
use Rattle.check_expressions.specs.Expressions.{Judged, judge}
use Rattle.check_expressions.specs.Operands.{value_of, value_tree, place_of}
use Rattle.block_memory.specs.declared.cell.Cell as core
use Rattle.block_memory.specs.Blocks.{Blocks}
use Rattle.source_meaning.specs.Memory.{Cell}
use Rattle.source_meaning.specs.State.{State, Outcome}
use Rattle.source_meaning.specs.Values.{Value, holds, Location}
use Rattle.source_meaning.specs.Expressions as m
use Rattle.pt_core.specs.CodeTree.{PlaceTree, ExprTree}
use Rattle.pt_core.specs.Types.{type_of, place_type}
use Rattle.pt_core.specs.Values as v
use Rattle.pt_core.specs.Values.{Stop}
use Rattle.pt_core.specs.Statements as c
use Rattle.pt_core.specs.WellFormedExpression.{expr_fits, place_fits}
use Rattle.half_trees.specs.Expressions.{expression_tree, place_tree}
use Rattle.half_meaning_law.specs.Relations.{Scene, context_of, name_of, core_cell, is_pointer, depth_of, reach_of, reach_in, CellFits, Alike}
use Rattle.half_meaning_law.specs.CForms.{stands, place_stands, is_const, c_type}
use Rattle.half_meaning_law.specs.Known.{type_as, Known}

-- ---- evaluations

-- Both give something, of which this holds, or both trap in the same way; the source's state stays.
abbrev pub Evaluates : {A B : Type 0} → (A → B → Type 0) → State → Outcome A → Result B Stop → Type 0
Evaluates Q st (gives a st1) (Ok b) = (st1 ≡ st) × Q a b
Evaluates Q st (gives a st1) (Err stop) = ⊥
Evaluates Q st (trapped trap span st1) (Ok b) = ⊥
Evaluates Q st (trapped trap span st1) (Err stop) = (stop.trap ≡ trap) × (st1 ≡ st)
Evaluates Q st (spent st1) r = ⊥

-- the same cell, as a value of this type
pub record IsValue (s : Scene) (ty : VarTy) (v : Value) (x : core.Cell) : Type 0 where
  pub cell : Cell
  pub is : v ≡ holds cell
  pub same : x ≡ core_cell s cell
  pub fits : CellFits s (reach_of s ty) cell

-- the same place, of an object of this type
pub record IsPlace (s : Scene) (ty : VarTy) (at : Location) (at' : v.Location) : Type 0 where
  pub block : at'.block ≡ name_of s at.block
  pub cell : at'.cell ≡ at.cell
  pub typed : at.ty ≡ ty
  pub typed' : at'.ty ≡ ty
  pub fits : reach_in s at.block ≡ reach_of s ty
  pub near : depth_of at.block ≤ s.frame.depth

-- in states that are alike, an expression of the source and one of the normal form have the same value
abbrev pub SameValues : Scene → VarTy → t.ExprTree → (Blocks → Result core.Cell Stop) → Type 0
SameValues s ty x ask = (st : State) (st' : c.State) → Alike s st st' → Evaluates (IsValue s ty) st (m.value_of x (context_of s) st) (ask st'.memory)

abbrev pub SamePlaces : Scene → VarTy → t.PlaceTree → (Blocks → Result v.Location Stop) → Type 0
SamePlaces s ty x ask = (st : State) (st' : c.State) → Alike s st st' → Evaluates (IsPlace s ty) st (m.location_of x (context_of s) st) (ask st'.memory)

-- what the normal form's code evaluates
abbrev pub asked : Scene → ExprTree → Blocks → Result core.Cell Stop
asked s e blocks = v.value_of s.context s.frame.depth e blocks

abbrev pub place_asked : Scene → PlaceTree → Blocks → Result v.Location Stop
place_asked s p blocks = v.location_of s.context s.frame.depth p blocks

-- ---- what is judged of trees

-- a judgment that finds no fault, and no new struct
pub record IsFine (structs : Structs) (j : Judged) : Type 0 where
  pub faults : j.faults ≡ []
  pub structs_stay : j.structs ≡ structs

-- an expression is judged to have its type, and its typed tree means what the normal form's does
pub record ExpressionMeans (s : Scene) (structs : Structs) (e : ExprTree) (j : Judged) : Type 0 where
  pub fine : IsFine structs j
  pub typed : (value_of j.operand).ty ≡ type_as (c_type s.context e)
  pub tree : (at : Span) → ty_of (value_tree at j.operand) ≡ Some (c_type s.context e)
  -- a pointer is no null constant
  pub plain : is_pointer (type_of s.context e) ≡ true → j.operand.null ≡ false
  pub same : (at : Span) → SameValues s (type_of s.context e) (value_tree at j.operand) (asked s e)

-- a place is judged to be an object of its type, and its typed tree designates what the normal form's does
pub record PlaceMeans (s : Scene) (structs : Structs) (p : PlaceTree) (j : Judged) : Type 0 where
  pub fine : IsFine structs j
  pub typed : j.operand.ty ≡ type_as (place_type s.context p)
  pub designates : j.operand.designates ≡ true
  pub fixed : j.operand.fixed ≡ is_const s.context p
  pub same : SamePlaces s (place_type s.context p) (place_of j.operand.tree) (place_asked s p)

-- ---- the scene

-- different globals have different numbers, the variables of the active function are the frame's, and structs
-- consist of earlier ones
pub record SceneFits (s : Scene) : Type 0 where
  pub numbers : (j k : ℕ) → s.global_number j ≡ s.global_number k → j ≡ k
  pub own : s.frames s.frame.depth ≡ s.context.variables
  pub structs : IsTrue (structs_sound s.context.structs 0 s.context.structs)

-- ---- laws

abbrev pub ExpressionsKeepTheirMeaning : Type 0
ExpressionsKeepTheirMeaning = (s : Scene) (env : Env) (structs : Structs) (e : ExprTree) → SceneFits s → Known s env structs →
    IsTrue (expr_fits s.context e) → IsTrue (stands e) → ExpressionMeans s structs e (judge env structs (expression_tree s.context e))

abbrev pub PlacesKeepTheirMeaning : Type 0
PlacesKeepTheirMeaning = (s : Scene) (env : Env) (structs : Structs) (p : PlaceTree) → SceneFits s → Known s env structs →
    IsTrue (place_fits s.context p) → IsTrue (place_stands p) → PlaceMeans s structs p (judge env structs (place_tree s.context p))
