-- What a variant with a list is seen as: the list of its items.
use Rattle.std.proofs.Common.{◌≡◌, refl, ap, ◌∙◌, rules, map, Bool}
use Rattle.std.specs.Prelude.{Box, Vec}
use Rattle.std.specs.declared.alloc.Global.{Global}
use Rattle.pt_base.specs.declared.span.Span.{Span}
use Rattle.pt_base.specs.declared.ids.FnId.{FnId}
use Rattle.pt_base.specs.declared.int_type.IntType.{IntType}
use Rattle.typed_tree.specs.declared.ids.ExprId.{ExprId}
use Rattle.typed_tree.specs.declared.link.LinkStep.{LinkStep}
use Rattle.typed_tree.specs.declared.link.LogicalOp.{LogicalOp}
use Rattle.typed_tree.specs.declared.link.TypedLink.{TypedLink}
use Rattle.typed_tree.specs.declared.link.TypedOperand.{TypedOperand}
use Rattle.typed_tree.specs.declared.place.Place.{Place}
use Rattle.typed_tree.specs.declared.expression.TypedExpr.{TypedExpr}
use Rattle.typed_tree.specs.declared.expression.Form.{Row_of-PlaceStep, end_of-PlaceStep, more_of-PlaceStep, items-the_row-PlaceStep, Row_of-TypedExpr, end_of-TypedExpr, more_of-TypedExpr, items-the_row-TypedExpr, Row_of-TypedLink, end_of-TypedLink, more_of-TypedLink, items-the_row-TypedLink, Row_of-TypedOperand, end_of-TypedOperand, more_of-TypedOperand, items-the_row-TypedOperand}
use Rattle.typed_tree.specs.declared.expression.Form.TheVariants as f
use Rattle.typed_tree.specs.declared.expression.Form.TheViews as form_views
use Rattle.typed_tree.specs.declared.statement.TypedBody.{TypedBody, Row_of-TypedBody, end_of-TypedBody, more_of-TypedBody, items-the_row-TypedBody, Row_of-TypedSection, end_of-TypedSection, more_of-TypedSection, items-the_row-TypedSection}
use Rattle.typed_tree.specs.declared.statement.TypedSection.{TypedSection}
use Rattle.typed_tree.specs.declared.statement.TypedBody.TheVariants as b
use Rattle.typed_tree.specs.declared.statement.TypedBody.TheViews as body_views
use Rattle.typed_tree.specs.ExpressionTree.{typed, read, decay, address, chain, logical, assign, compound, step, call, expr_and, link, link_and, operand, operand_and, step_and, view_form, view_expr, view_expr_row, view_link, view_link_row, view_operand, view_operand_row, view_place, view_step, view_step_row, expr_trees, link_trees, operand_trees, step_trees}
use Rattle.typed_tree.specs.StatementTree.{block, switch, body_and, section, section_and, view_body, view_body_row, view_section, view_section_row, body_trees, section_trees}

step_row : (n : _) (k : Row_of-PlaceStep n) → view_step_row k ≡ step_trees (map view_step (items-the_row-PlaceStep n k))
step_row _ end_of-PlaceStep = refl
step_row _ (more_of-PlaceStep a rest) = ap (step_and (view_step a)) (step_row _ rest)

expr_row : (n : _) (k : Row_of-TypedExpr n) → view_expr_row k ≡ expr_trees (map view_expr (items-the_row-TypedExpr n k))
expr_row _ end_of-TypedExpr = refl
expr_row _ (more_of-TypedExpr s t a rest) = ap (expr_and (typed s t (view_form a))) (expr_row _ rest)

link_row : (n : _) (k : Row_of-TypedLink n) → view_link_row k ≡ link_trees (map view_link (items-the_row-TypedLink n k))
link_row _ end_of-TypedLink = refl
link_row _ (more_of-TypedLink span ty op s t a rest) = ap (link_and (link span ty op (typed s t (view_form a)))) (link_row _ rest)

operand_row : (n : _) (k : Row_of-TypedOperand n) → view_operand_row k ≡ operand_trees (map view_operand (items-the_row-TypedOperand n k))
operand_row _ end_of-TypedOperand = refl
operand_row _ (more_of-TypedOperand span s t a rest) = ap (operand_and (operand span (typed s t (view_form a)))) (operand_row _ rest)

pub view_read : (p : Place) → view_form (f.Read p) ≡ read (view_place p)
view_read p = search (rules, form_views.the_lemmas, step_row)

pub view_decay : (p : Place) → view_form (f.Decay p) ≡ decay (view_place p)
view_decay p = search (rules, form_views.the_lemmas, step_row)

pub view_address : (p : Place) → view_form (f.Address p) ≡ address (view_place p)
view_address p = search (rules, form_views.the_lemmas, step_row)

pub view_chain : (a : TypedExpr) (ls : Vec TypedLink Global) (q : Box TypedExpr Global) → q.value ≡ a → view_form (f.Chain q ls) ≡ chain (view_expr a) (link_trees (map view_link ls.items))
view_chain a ls q h = search (rules, form_views.the_lemmas, link_row, h)

pub view_logical : (op : LogicalOp) (a : TypedExpr) (os : Vec TypedOperand Global) (q : Box TypedExpr Global) → q.value ≡ a → view_form (f.Logical op q os) ≡ logical op (view_expr a) (operand_trees (map view_operand os.items))
view_logical op a os q h = search (rules, form_views.the_lemmas, operand_row, h)

pub view_assign : (p : Place) (a : TypedExpr) (q : Box TypedExpr Global) → q.value ≡ a → view_form (f.Assign p q) ≡ assign (view_place p) (view_expr a)
view_assign p a q h = search (rules, form_views.the_lemmas, step_row, h)

pub view_compound : (p : Place) (at : Span) (op : LinkStep) (a : TypedExpr) (q : Box TypedExpr Global) → q.value ≡ a → view_form (f.Compound p at op q) ≡ compound (view_place p) at op (view_expr a)
view_compound p at op a q h = search (rules, form_views.the_lemmas, step_row, h)

pub view_increment : (p : Place) (at : Span) (back postfix : Bool) → view_form (f.Step p at back postfix) ≡ step (view_place p) at back postfix
view_increment p at back postfix = search (rules, form_views.the_lemmas, step_row)

pub view_call : (g : FnId) (es : Vec TypedExpr Global) → view_form (f.Call g es) ≡ call g (expr_trees (map view_expr es.items))
view_call g es = search (rules, form_views.the_lemmas, expr_row)

body_row : (n : _) (k : Row_of-TypedBody n) → view_body_row k ≡ body_trees (map view_body (items-the_row-TypedBody n k))
body_row _ end_of-TypedBody = refl
body_row _ (more_of-TypedBody s rest) = ap (body_and (view_body s)) (body_row _ rest)

section_row : (n : _) (k : Row_of-TypedSection n) → view_section_row k ≡ section_trees (map view_section (items-the_row-TypedSection n k))
section_row _ end_of-TypedSection = refl
section_row _ (more_of-TypedSection s l shape row rest) =
    ap (λ x. section_and (section s l x) (view_section_row rest)) (body_row _ row)
    ∙ ap (section_and (section s l (body_trees (map view_body (items-the_row-TypedBody _ row))))) (section_row _ rest)
    ∙ search (rules, body_views.the_lemmas)

pub view_block : (s : Span) (bs : Vec TypedBody Global) → view_body (b.Block s bs) ≡ block s (body_trees (map view_body bs.items))
view_block s bs = search (rules, body_views.the_lemmas, body_row)

pub view_switch : (s : Span) (e : ExprId) (t : IntType) (ss : Vec TypedSection Global) → view_body (b.Switch s e t ss) ≡ switch s e t (section_trees (map view_section ss.items))
view_switch s e t ss = search (rules, body_views.the_lemmas, section_row)
