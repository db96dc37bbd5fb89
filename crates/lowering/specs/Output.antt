-- What the code has made so far, and what its calls add to that, as the definitions speak of it. Where memory
-- is wanting nothing is said.
use Rattle.std.specs.Prelude.{◌≡◌, ℕ, ◌+◌, Bool, List, [], ◌++◌, map, length, Option, option_map, Result, Vec, IfOk, OnOk}
use Rattle.std.specs.declared.alloc.AllocError.{AllocError}
use Rattle.std.specs.declared.alloc.Global.{Global}
use Rattle.typed_tree.specs.declared.types.VarTy.{VarTy}
use Rattle.pt_core.specs.declared.expression.Expr.{Expr}
use Rattle.pt_core.specs.declared.statement.Stmt.{Stmt}
use Rattle.pt_core.specs.CodeTree.{PlaceTree, ExprTree, StmtTree, view_expr, view_place, view_stmt}
use Rattle.lowering.specs.Lowered.{Temp, Effects, Lowered, LoweredPlace, Arguments}
use Rattle.lowering.specs.Functions.{span_of}
use Rattle.lowering.specs.declared.temporary.Temporary.{Temporary}
use Rattle.lowering.specs.declared.output.Lowering.{Lowering}
use Rattle.lowering.specs.declared.place.FoundPlace.{FoundPlace}

-- the number that the first temporary has, and the statements and temporaries so far
pub record Output : Type 0 where
  pub first : ℕ
  pub stmts : List StmtTree
  pub temps : List Temporary

unfoldable pub output_of : Lowering → Output
output_of l = record { first = l.first; stmts = map view_stmt l.stmts.items; temps = l.temps.items }

-- the number of the next temporary
abbrev pub next : Output → ℕ
next o = o.first + length o.temps

-- of the expression that a temporary holds the code keeps the span
abbrev pub temporary_of : Temp → Temporary
temporary_of x = record { ty = x.ty; holds = option_map span_of x.holds }

abbrev pub added : Output → List StmtTree → List Temporary → Output
added o stmts temps = record { first = o.first; stmts = o.stmts ++ stmts; temps = o.temps ++ temps }

abbrev pub more : Output → List StmtTree → List Temp → Output
more o stmts temps = added o stmts (map temporary_of temps)

-- a nested list of statements begins
abbrev pub opened : Output → Output
opened o = record { first = o.first; stmts = []; temps = o.temps }

-- it ends, and these statements stand again
abbrev pub closed : Output → List StmtTree → Output
closed o outer = record { first = o.first; stmts = outer; temps = o.temps }

-- what the code knows of a place
pub record Found : Type 0 where
  pub place : PlaceTree
  pub ty : VarTy
  pub fixed : Bool
  pub through : Option Temporary

abbrev pub found : LoweredPlace → Found
found p = record { place = p.place; ty = p.ty; fixed = p.fixed; through = option_map temporary_of p.through }

abbrev pub view_found : FoundPlace → Found
view_found p = record { place = view_place p.place; ty = p.ty; fixed = p.fixed; through = p.through }

-- ---- what was made from one output to another

pub record Gives (before : Output) (low : Lowered) (after : Output) (value : ExprTree) : Type 0 where
  pub made : after ≡ more before low.stmts low.temps
  pub is : value ≡ low.value

pub record GivesAll (before : Output) (low : Arguments) (after : Output) (values : List ExprTree) : Type 0 where
  pub made : after ≡ more before low.stmts low.temps
  pub are : values ≡ low.values

pub record Finds (before : Output) (low : LoweredPlace) (after : Output) (place : Found) : Type 0 where
  pub made : after ≡ more before low.stmts low.temps
  pub is : place ≡ found low

pub record Does (before : Output) (low : Effects) (after : Output) : Type 0 where
  pub made : after ≡ more before low.stmts low.temps

-- the statements stand in a list of their own
pub record Collects (before : Output) (low : Effects) (after : Output) (stmts : List StmtTree) : Type 0 where
  pub made : after ≡ more before [] low.temps
  pub are : stmts ≡ low.stmts

-- ---- the answers of calls, whose definitions take the first free number

abbrev pub Values : Result Expr AllocError → Output → (ℕ → Lowered) → Output → Type 0
Values result before low after = IfOk result (λ v. Gives before (low (next before)) after (view_expr v))

abbrev pub Arguing : Result (Vec Expr Global) AllocError → Output → (ℕ → Arguments) → Output → Type 0
Arguing result before low after = IfOk result (λ all. GivesAll before (low (next before)) after (map view_expr all.items))

abbrev pub Places : Result FoundPlace AllocError → Output → (ℕ → LoweredPlace) → Output → Type 0
Places result before low after = IfOk result (λ p. Finds before (low (next before)) after (view_found p))

abbrev pub Doing : {U : Type 0} → Result U AllocError → Output → (ℕ → Effects) → Output → Type 0
Doing result before low after = OnOk result (Does before (low (next before)) after)

abbrev pub Collecting : Result (Vec Stmt Global) AllocError → Output → (ℕ → Effects) → Output → Type 0
Collecting result before low after = IfOk result (λ stmts. Collects before (low (next before)) after (map view_stmt stmts.items))
