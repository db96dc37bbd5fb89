-- The normal form without where its parts lie in memory.
use Rattle.std.specs.Prelude.{ℕ, ℤ, List, [], ◌∷◌, Option, Bool, map, option_map}
use Rattle.pt_base.specs.declared.span.Span.{Span}
use Rattle.pt_base.specs.declared.int_type.IntType.{IntType}
use Rattle.pt_base.specs.declared.ids.FnId.{FnId}
use Rattle.pt_int.specs.declared.operator.BinOp.{BinOp}
use Rattle.pt_int.specs.declared.operator.UnOp.{UnOp}
use Rattle.pt_tree.specs.declared.signature.Elem.{Elem}
use Rattle.pt_tree.specs.declared.signature.Signature.{Signature}
use Rattle.pt_tree.specs.declared.host_model.HostModel.{HostModel}
use Rattle.typed_tree.specs.declared.types.StructInfo.{StructInfo}
use Rattle.typed_tree.specs.declared.variable.Var.{Var}
use Rattle.pt_core.specs.declared.place.Place.{Place}
use Rattle.pt_core.specs.declared.place.Root.{Root}
use Rattle.pt_core.specs.declared.place.Root.TheVariants as r
use Rattle.pt_core.specs.declared.expression.Expr.{Expr}
use Rattle.pt_core.specs.declared.expression.Expr.TheVariants as e
use Rattle.pt_core.specs.declared.statement.Stmt.{Stmt, Row_of-Stmt, end_of-Stmt, more_of-Stmt}
use Rattle.pt_core.specs.declared.statement.Stmt.TheVariants as s
use Rattle.pt_core.specs.declared.function.CoreFn.{CoreFn}
use Rattle.pt_core.specs.declared.global.GlobalVar.{GlobalVar}
use Rattle.pt_core.specs.declared.program.CoreProgram.{CoreProgram}
use Rattle.pt_core.specs.declared.slave.SlaveProgram.{SlaveProgram}
use Rattle.pt_core.specs.declared.monitor.Entry.{Entry}
use Rattle.pt_core.specs.declared.monitor.MonitorProgram.{MonitorProgram}
use Rattle.pt_core.specs.declared.boot.Boot.{Boot}

mutual
  -- where a place begins
  pub data RootTree : Type 0 where
    local : ℕ → RootTree
    global : ℕ → RootTree
    -- what a pointer points to
    deref : ExprTree → Span → RootTree

  -- an object, and the numbers of the fields that lead into it
  pub data PlaceTree : Type 0 where
    place : RootTree → List ℕ → PlaceTree

  pub data ExprTree : Type 0 where
    constant : IntType → ℤ → ExprTree
    read : PlaceTree → ExprTree
    unary : UnOp → IntType → ExprTree → Span → ExprTree
    binary : BinOp → IntType → ExprTree → ExprTree → Span → ExprTree
    convert : IntType → ExprTree → ExprTree
    null : Elem → ExprTree
    address : PlaceTree → ExprTree
    decay : PlaceTree → ExprTree
    -- a pointer, an amount, and whether it is moved downwards
    move : ExprTree → ExprTree → Bool → Span → ExprTree
    compare : BinOp → ExprTree → ExprTree → Span → ExprTree
    difference : ExprTree → ExprTree → Span → ExprTree

pub data ExprTrees : Type 0 where
  no_exprs : ExprTrees
  expr_and : ExprTree → ExprTrees → ExprTrees

mutual
  pub data StmtTree : Type 0 where
    clear : ℕ → StmtTree
    check : PlaceTree → StmtTree
    assign : PlaceTree → ExprTree → StmtTree
    -- to the first from the second
    copy : PlaceTree → PlaceTree → StmtTree
    call : ℕ → ExprTrees → Option ℕ → Span → StmtTree
    choose : ExprTree → StmtTrees → StmtTrees → StmtTree
    repeat : StmtTrees → Span → StmtTree
    break_out : StmtTree
    continue_on : StmtTree
    give_back : Option ExprTree → StmtTree

  pub data StmtTrees : Type 0 where
    no_stmts : StmtTrees
    stmt_and : StmtTree → StmtTrees → StmtTrees

-- a function; the first of its variables are its parameters
pub record FunctionTree : Type 0 where
  pub id : ℕ
  pub params : ℕ
  pub vars : List Var
  pub body : StmtTrees
  -- where its closing brace stands
  pub end : Span

pub record GlobalTree : Type 0 where
  pub id : ℕ
  pub var : Var
  pub cells : List ℤ

pub record ProgramTree : Type 0 where
  pub structs : List StructInfo
  pub signatures : List (ℕ × Signature)
  pub functions : List FunctionTree
  pub globals : List GlobalTree

pub record SlaveTree : Type 0 where
  pub structs : List StructInfo
  pub signatures : List (ℕ × Signature)
  pub functions : List FunctionTree
  pub globals : List GlobalTree
  pub hosts : List ℕ

pub record MonitorTree : Type 0 where
  pub structs : List StructInfo
  pub signatures : List (ℕ × Signature)
  pub functions : List FunctionTree
  pub globals : List GlobalTree
  pub entries : List Entry

pub record BootTree : Type 0 where
  pub structs : List StructInfo
  pub signatures : List (ℕ × Signature)
  pub functions : List FunctionTree
  pub globals : List GlobalTree
  pub hosts : List (ℕ × HostModel)
  pub input : List ℕ
  pub turns : ℕ

abbrev mutual
  pub view_root : Root → RootTree
  view_root (r.Local v) = local v.0
  view_root (r.Global g) = global g.0
  view_root (r.Deref' p a s) = deref (view_expr a) s

  pub view_expr : Expr → ExprTree
  view_expr (e.Const t v) = constant t v
  view_expr (e.Read' root path) = read (place (view_root root) path.items)
  view_expr (e.Unary' op t p a s) = unary op t (view_expr a) s
  view_expr (e.Binary' op t p a q b s) = binary op t (view_expr a) (view_expr b) s
  view_expr (e.Convert' t p a) = convert t (view_expr a)
  view_expr (e.Null elem) = null elem
  view_expr (e.Addr' root path) = address (place (view_root root) path.items)
  view_expr (e.Decay' root path) = decay (place (view_root root) path.items)
  view_expr (e.Move' p a q b back s) = move (view_expr a) (view_expr b) back s
  view_expr (e.Compare' op p a q b s) = compare op (view_expr a) (view_expr b) s
  view_expr (e.Diff' p a q b s) = difference (view_expr a) (view_expr b) s

abbrev pub view_place : Place → PlaceTree
view_place p = place (view_root p.root) p.path.items

abbrev pub expr_trees : List ExprTree → ExprTrees
expr_trees [] = no_exprs
expr_trees (a ∷ rest) = expr_and a (expr_trees rest)

abbrev mutual
  pub view_stmt : Stmt → StmtTree
  view_stmt (s.Clear v) = clear v.0
  view_stmt (s.Check p) = check (view_place p)
  view_stmt (s.Assign p a) = assign (view_place p) (view_expr a)
  view_stmt (s.Copy p q) = copy (view_place p) (view_place q)
  view_stmt (s.Call f args v span) = call f.0 (expr_trees (map view_expr args.items)) (option_map (λ v. v.0) v) span
  view_stmt (s.If' a shape row shape' row') = choose (view_expr a) (view_stmt_row row) (view_stmt_row row')
  view_stmt (s.Loop' shape row span) = repeat (view_stmt_row row) span
  view_stmt s.Break = break_out
  view_stmt s.Continue = continue_on
  view_stmt (s.Return a) = give_back (option_map view_expr a)

  pub view_stmt_row : {n : _} → Row_of-Stmt n → StmtTrees
  view_stmt_row end_of-Stmt = no_stmts
  view_stmt_row (more_of-Stmt a rest) = stmt_and (view_stmt a) (view_stmt_row rest)

abbrev pub stmt_trees : List StmtTree → StmtTrees
stmt_trees [] = no_stmts
stmt_trees (a ∷ rest) = stmt_and a (stmt_trees rest)

abbrev pub view_function : CoreFn → FunctionTree
view_function f = record { id = f.id.0; params = f.params; vars = f.vars; body = stmt_trees (map view_stmt f.body.items); end = f.end }

abbrev pub view_global : GlobalVar → GlobalTree
view_global g = record { id = g.id.0; var = g.var; cells = g.cells }

-- what a list has for each function, by its number
abbrev pub numbered : {A : Type 0} → List (FnId × A) → List (ℕ × A)
numbered xs = map (λ x. (x.0.0, x.1)) xs

abbrev pub view_program : CoreProgram → ProgramTree
view_program p = record {
  structs = p.structs;
  signatures = numbered p.signatures;
  functions = map view_function p.functions.items;
  globals = map view_global p.globals;
}

abbrev pub view_slave : SlaveProgram → SlaveTree
view_slave p = record {
  structs = p.structs;
  signatures = numbered p.signatures;
  functions = map view_function p.functions.items;
  globals = map view_global p.globals;
  hosts = map (λ f. f.0) p.hosts;
}

abbrev pub view_monitor : MonitorProgram → MonitorTree
view_monitor p = record {
  structs = p.structs;
  signatures = numbered p.signatures;
  functions = map view_function p.functions.items;
  globals = map view_global p.globals;
  entries = p.entries;
}

abbrev pub view_boot : Boot → BootTree
view_boot b = record {
  structs = b.structs;
  signatures = numbered b.signatures;
  functions = map view_function b.functions.items;
  globals = map view_global b.globals;
  hosts = numbered b.hosts;
  input = b.input;
  turns = b.turns;
}
