-- What a variant with a list is seen as: the list of its items.
use Rattle.std.proofs.Common.{◌≡◌, refl, ap, ◌∙◌, rules, map}
use Rattle.std.specs.Prelude.{Box, Vec}
use Rattle.std.specs.declared.alloc.Global.{Global}
use Rattle.pt_base.specs.declared.span.Span.{Span}
use Rattle.pt_tree.specs.declared.word.Word.{Word}
use Rattle.pt_tree.specs.declared.specifier.Declarator.{Declarator}
use Rattle.pt_tree.specs.declared.specifier.FieldDecl.{FieldDecl}
use Rattle.pt_tree.specs.declared.specifier.Spec.{Spec, Row_of-Spec, end_of-Spec, more_of-Spec, items-the_row-Spec, Row_of-FieldDecl, end_of-FieldDecl, more_of-FieldDecl, items-the_row-FieldDecl}
use Rattle.pt_tree.specs.declared.specifier.Spec.TheVariants.{Struct}
use Rattle.pt_tree.specs.declared.specifier.Spec.TheViews as spec_views
use Rattle.pt_tree.specs.SpecifierTree.{spec_and, field_and, field, structure, view_spec, view_spec_row, view_field, view_field_row, spec_trees, field_trees}
use Rattle.pt_tree.specs.declared.expression.Link.{Link}
use Rattle.pt_tree.specs.declared.expression.Postfix.{Postfix, Row_of-Expr, end_of-Expr, more_of-Expr, items-the_row-Expr}
use Rattle.pt_tree.specs.declared.expression.Expr.{Expr, Row_of-Link, end_of-Link, more_of-Link, items-the_row-Link, Row_of-Postfix, end_of-Postfix, more_of-Postfix, items-the_row-Postfix}
use Rattle.pt_tree.specs.declared.expression.Expr.TheViews as expr_views
use Rattle.pt_tree.specs.declared.expression.Postfix.TheVariants as p
use Rattle.pt_tree.specs.declared.expression.Expr.TheVariants as e
use Rattle.pt_tree.specs.declared.statement.Block.{Block}
use Rattle.pt_tree.specs.declared.statement.Section.{Section}
use Rattle.pt_tree.specs.declared.statement.Stmt.{Row_of-Stmt, end_of-Stmt, more_of-Stmt, items-the_row-Stmt, Row_of-Section, end_of-Section, more_of-Section, items-the_row-Section}
use Rattle.pt_tree.specs.declared.statement.Stmt.TheViews as stmt_views
use Rattle.pt_tree.specs.declared.statement.Stmt.TheVariants as t
use Rattle.pt_tree.specs.StatementTree.{stmt_and, section, section_and, block, switch, view_stmt, view_label, view_section, view_stmt_row, view_section_row, stmt_trees, section_trees}
use Rattle.pt_tree.specs.ExpressionTree.{postfix, chain, expr_and, link, link_and, postfix_and, call, view_expr, view_expr_row, view_link, view_link_row, view_postfix, view_postfix_row, expr_trees, link_trees, postfix_trees}

spec_row : (n : _) (k : Row_of-Spec n) → view_spec_row k ≡ spec_trees (map view_spec (items-the_row-Spec n k))
spec_row _ end_of-Spec = refl
spec_row _ (more_of-Spec s rest) = ap (spec_and (view_spec s)) (spec_row _ rest)

expr_row : (n : _) (k : Row_of-Expr n) → view_expr_row k ≡ expr_trees (map view_expr (items-the_row-Expr n k))
expr_row _ end_of-Expr = refl
expr_row _ (more_of-Expr e rest) = ap (expr_and (view_expr e)) (expr_row _ rest)

postfix_row : (n : _) (k : Row_of-Postfix n) → view_postfix_row k ≡ postfix_trees (map view_postfix (items-the_row-Postfix n k))
postfix_row _ end_of-Postfix = refl
postfix_row _ (more_of-Postfix e rest) = ap (postfix_and (view_postfix e)) (postfix_row _ rest)

link_row : (n : _) (k : Row_of-Link n) → view_link_row k ≡ link_trees (map view_link (items-the_row-Link n k))
link_row _ end_of-Link = refl
link_row _ (more_of-Link s op e rest) = ap (link_and (link s op (view_expr e))) (link_row _ rest)

pub view_call : (s : Span) (es : Vec Expr Global) → view_postfix (p.Call s es) ≡ call s (expr_trees (map view_expr es.items))
view_call s es = search (rules, expr_views.the_lemmas, expr_row)

field_specs : (s : Span) (v : Vec Spec Global) (ds : Vec Declarator Global) → field s (spec_trees (map view_spec v.items)) ds.items ≡ view_field (record { span = s; specs = v; declarators = ds })
field_specs s v ds = refl

field_row : (n : _) (k : Row_of-FieldDecl n) → view_field_row k ≡ field_trees (map view_field (items-the_row-FieldDecl n k))
field_row _ end_of-FieldDecl = refl
field_row _ (more_of-FieldDecl s shape row ds rest) =
    let one : view_spec_row row ≡ spec_trees (map view_spec (items-the_row-Spec _ row)) = spec_row _ row in
    ap (λ x. field_and (field s x ds.items) (view_field_row rest)) one
    ∙ ap (field_and (field s (spec_trees (map view_spec (items-the_row-Spec _ row))) ds.items)) (field_row _ rest)
    ∙ search (rules, spec_views.the_lemmas)

pub view_structure : (s : Span) (w : Word) (fs : Vec FieldDecl Global) → view_spec (Struct s w fs) ≡ structure s w (field_trees (map view_field fs.items))
view_structure s w fs = search (rules, spec_views.the_lemmas, field_row)

pub view_postfixes : (s : Span) (a : Expr) (ps : Vec Postfix Global) (q : Box Expr Global) → q.value ≡ a → view_expr (e.Postfix s q ps) ≡ postfix s (view_expr a) (postfix_trees (map view_postfix ps.items))
view_postfixes s a ps q h = search (rules, expr_views.the_lemmas, postfix_row, h)

pub view_chain : (s : Span) (a : Expr) (ls : Vec Link Global) (q : Box Expr Global) → q.value ≡ a → view_expr (e.Chain s q ls) ≡ chain s (view_expr a) (link_trees (map view_link ls.items))
view_chain s a ls q h = search (rules, expr_views.the_lemmas, link_row, h)

stmt_row : (n : _) (k : Row_of-Stmt n) → view_stmt_row k ≡ stmt_trees (map view_stmt (items-the_row-Stmt n k))
stmt_row _ end_of-Stmt = refl
stmt_row _ (more_of-Stmt s rest) = ap (stmt_and (view_stmt s)) (stmt_row _ rest)

section_row : (n : _) (k : Row_of-Section n) → view_section_row k ≡ section_trees (map view_section (items-the_row-Section n k))
section_row _ end_of-Section = refl
section_row _ (more_of-Section s l shape row rest) =
    ap (λ x. section_and (section s (view_label l) x) (view_section_row rest)) (stmt_row _ row)
    ∙ ap (section_and (section s (view_label l) (stmt_trees (map view_stmt (items-the_row-Stmt _ row))))) (section_row _ rest)
    ∙ search (rules, stmt_views.the_lemmas)

pub view_block_stmt : (b : Block) → view_stmt (t.Block b) ≡ block b.span (stmt_trees (map view_stmt b.items.items))
view_block_stmt b = search (rules, stmt_views.the_lemmas, stmt_row)

pub view_switch : (s : Span) (a : Expr) (ss : Vec Section Global) → view_stmt (t.Switch s a ss) ≡ switch s (view_expr a) (section_trees (map view_section ss.items))
view_switch s a ss = search (rules, stmt_views.the_lemmas, section_row)
