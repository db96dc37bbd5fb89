-- What a lowering gives: statements, and temporaries behind the variables that there are.
use Rattle.std.specs.Prelude.{ℕ, ◌+◌, List, [], ◌∷◌, ◌++◌, Option, Some, None, Bool, length, if◌then◌else◌}
use Rattle.pt_base.specs.declared.span.Span.{Span}
use Rattle.pt_base.specs.declared.int_type.IntType.TheVariants as i
use Rattle.typed_tree.specs.declared.types.VarTy.{VarTy}
use Rattle.typed_tree.specs.declared.types.VarTy.TheVariants.{Int}
use Rattle.typed_tree.specs.ExpressionTree as t
use Rattle.pt_core.specs.CodeTree.{local, PlaceTree, place, ExprTree, read, StmtTree, assign}

-- A temporary: its type, and the expression of the source whose value it holds, if it is one's.
pub record Temp : Type 0 where
  pub ty : VarTy
  pub holds : Option t.ExprTree

-- statements alone
pub record Effects : Type 0 where
  pub stmts : List StmtTree
  pub temps : List Temp

-- statements, behind which an expression has the value
pub record Lowered : Type 0 where
  pub stmts : List StmtTree
  pub value : ExprTree
  pub temps : List Temp

-- statements, behind which a place designates the object. Where it leads through a pointer, what a
-- temporary would hold that keeps the pointer, and whether it points to const.
pub record LoweredPlace : Type 0 where
  pub stmts : List StmtTree
  pub place : PlaceTree
  pub ty : VarTy
  pub fixed : Bool
  pub through : Option Temp
  pub temps : List Temp

-- statements, behind which expressions have the values of arguments
pub record Arguments : Type 0 where
  pub stmts : List StmtTree
  pub values : List ExprTree
  pub temps : List Temp

abbrev pub nothing : Effects
nothing = record { stmts = []; temps = [] }

abbrev pub pure : ExprTree → Lowered
pure value = record { stmts = []; value = value; temps = [] }

-- the number behind these temporaries, of which the first has the number n
abbrev pub past : ℕ → List Temp → ℕ
past n temps = n + length temps

-- a temporary as a place, as a value, and the statement that gives it its value
abbrev pub temp_place : ℕ → PlaceTree
temp_place k = place (local k) []

abbrev pub temp : ℕ → ExprTree
temp k = read (temp_place k)

abbrev pub hold : ℕ → ExprTree → StmtTree
hold k value = assign (temp_place k) value

abbrev pub holding : VarTy → t.ExprTree → Temp
holding ty e = record { ty = ty; holds = Some e }

-- a number that holds no expression
abbrev pub counting : VarTy → Temp
counting ty = record { ty = ty; holds = None }

abbrev pub int : VarTy
int = Int i.Int

-- one after the other
abbrev pub followed : Effects → Effects → Effects
followed a b = record { stmts = a.stmts ++ b.stmts; temps = a.temps ++ b.temps }

abbrev pub effects_of : Lowered → Effects
effects_of v = record { stmts = v.stmts; temps = v.temps }

-- the value, held in the next temporary
abbrev pub held : ℕ → Temp → Lowered → Lowered
held n x v = record { stmts = v.stmts ++ hold (past n v.temps) v.value ∷ []; value = temp (past n v.temps); temps = v.temps ++ x ∷ [] }

abbrev pub held_if : Bool → ℕ → Temp → Lowered → Lowered
held_if b n x v = if b then held n x v else v
