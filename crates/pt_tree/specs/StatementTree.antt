-- Declarations and statements without where their parts lie in memory.
use Rattle.std.specs.Prelude.{List, [], ◌∷◌, Option, None, Some, map, option_map}
use Rattle.pt_base.specs.declared.span.Span.{Span}
use Rattle.pt_tree.specs.declared.specifier.Declarator.{Declarator}
use Rattle.pt_tree.specs.declared.declaration.Initializer.{Initializer}
use Rattle.pt_tree.specs.declared.declaration.Initializer.TheVariants.{Single, Braces}
use Rattle.pt_tree.specs.declared.declaration.InitDeclarator.{InitDeclarator}
use Rattle.pt_tree.specs.declared.declaration.Declaration.{Declaration}
use Rattle.pt_tree.specs.declared.statement.Label.{Label}
use Rattle.pt_tree.specs.declared.statement.Label.TheVariants.{Case, Default}
use Rattle.pt_tree.specs.declared.statement.ForInit.{ForInit}
use Rattle.pt_tree.specs.declared.statement.ForInit.TheVariants as f
use Rattle.pt_tree.specs.declared.statement.Section.{Section}
use Rattle.pt_tree.specs.declared.statement.Block.{Block}
use Rattle.pt_tree.specs.declared.statement.Stmt.{Stmt, Held-Stmt-If-3, None', Some', Row_of-Stmt, end_of-Stmt, more_of-Stmt, Row_of-Section, end_of-Section, more_of-Section}
use Rattle.pt_tree.specs.declared.statement.Stmt.TheVariants as s
use Rattle.pt_tree.specs.SpecifierTree.{SpecTrees, view_specs}
use Rattle.pt_tree.specs.ExpressionTree.{ExprTree, ExprTrees, view_expr, expr_trees}

pub data InitTree : Type 0 where
  no_init : InitTree
  single : ExprTree → InitTree
  braces : Span → ExprTrees → InitTree

pub record InitDeclaratorTree : Type 0 where
  pub declarator : Declarator
  pub init : InitTree

pub record DeclarationTree : Type 0 where
  pub span : Span
  pub specs : SpecTrees
  pub declarators : List InitDeclaratorTree

pub data LabelTree : Type 0 where
  case_label : Span → ExprTree → LabelTree
  default_label : Span → LabelTree

pub data ForInitTree : Type 0 where
  for_declare : DeclarationTree → ForInitTree
  for_nothing : ForInitTree
  for_expr : ExprTree → ForInitTree

mutual
  pub data StmtTree : Type 0 where
    declare : DeclarationTree → StmtTree
    block : Span → StmtTrees → StmtTree
    nothing : Span → StmtTree
    evaluate : Span → ExprTree → StmtTree
    choose : Span → ExprTree → StmtTree → ElseTree → StmtTree
    while_true : Span → ExprTree → StmtTree → StmtTree
    do_while : Span → StmtTree → ExprTree → StmtTree
    for_each : Span → ForInitTree → Option ExprTree → Option ExprTree → StmtTree → StmtTree
    give_back : Span → Option ExprTree → StmtTree
    stop_loop : Span → StmtTree
    next_turn : Span → StmtTree
    switch : Span → ExprTree → SectionTrees → StmtTree

  pub data ElseTree : Type 0 where
    no_else : ElseTree
    otherwise : StmtTree → ElseTree

  pub data StmtTrees : Type 0 where
    no_stmts : StmtTrees
    stmt_and : StmtTree → StmtTrees → StmtTrees

  pub data SectionTree : Type 0 where
    section : Span → LabelTree → StmtTrees → SectionTree

  pub data SectionTrees : Type 0 where
    no_sections : SectionTrees
    section_and : SectionTree → SectionTrees → SectionTrees

abbrev pub view_init : Option Initializer → InitTree
view_init None = no_init
view_init (Some (Single e)) = single (view_expr e)
view_init (Some (Braces s es)) = braces s (expr_trees (map view_expr es.items))

abbrev pub view_init_declarator : InitDeclarator → InitDeclaratorTree
view_init_declarator d = record { declarator = d.declarator; init = view_init d.init }

abbrev pub view_declaration : Declaration → DeclarationTree
view_declaration d = record { span = d.span; specs = view_specs d.specs.items; declarators = map view_init_declarator d.declarators.items }

abbrev pub view_label : Label → LabelTree
view_label (Case s e) = case_label s (view_expr e)
view_label (Default s) = default_label s

abbrev pub view_for_init : ForInit → ForInitTree
view_for_init (f.Declare d) = for_declare (view_declaration d)
view_for_init f.Nothing = for_nothing
view_for_init (f.Expr e) = for_expr (view_expr e)

abbrev mutual
  pub view_stmt : Stmt → StmtTree
  view_stmt (s.Declare d) = declare (view_declaration d)
  view_stmt (s.Block' s shape row) = block s (view_stmt_row row)
  view_stmt (s.Empty s) = nothing s
  view_stmt (s.Expr s e) = evaluate s (view_expr e)
  view_stmt (s.If' s e p a o) = choose s (view_expr e) (view_stmt a) (view_else o)
  view_stmt (s.While' s e p a) = while_true s (view_expr e) (view_stmt a)
  view_stmt (s.Do' s p a e) = do_while s (view_stmt a) (view_expr e)
  view_stmt (s.For' s i t u p a) = for_each s (view_for_init i) (option_map view_expr t) (option_map view_expr u) (view_stmt a)
  view_stmt (s.Return s e) = give_back s (option_map view_expr e)
  view_stmt (s.Break s) = stop_loop s
  view_stmt (s.Continue s) = next_turn s
  view_stmt (s.Switch' s e shape row) = switch s (view_expr e) (view_section_row row)

  pub view_else : Held-Stmt-If-3 → ElseTree
  view_else None' = no_else
  view_else (Some' p a) = otherwise (view_stmt a)

  pub view_stmt_row : {n : _} → Row_of-Stmt n → StmtTrees
  view_stmt_row end_of-Stmt = no_stmts
  view_stmt_row (more_of-Stmt s rest) = stmt_and (view_stmt s) (view_stmt_row rest)

  pub view_section_row : {n : _} → Row_of-Section n → SectionTrees
  view_section_row end_of-Section = no_sections
  view_section_row (more_of-Section s l shape row rest) = section_and (section s (view_label l) (view_stmt_row row)) (view_section_row rest)

abbrev pub stmt_trees : List StmtTree → StmtTrees
stmt_trees [] = no_stmts
stmt_trees (s ∷ ss) = stmt_and s (stmt_trees ss)

abbrev pub section_trees : List SectionTree → SectionTrees
section_trees [] = no_sections
section_trees (s ∷ ss) = section_and s (section_trees ss)

abbrev pub view_section : Section → SectionTree
view_section s = section s.span (view_label s.label) (stmt_trees (map view_stmt s.statements.items))

pub record BlockTree : Type 0 where
  pub span : Span
  pub items : List StmtTree

abbrev pub view_block : Block → BlockTree
view_block b = record { span = b.span; items = map view_stmt b.items.items }
