-- Typed trees without where their parts stand in the text.
use Rattle.std.specs.Prelude.{map, option_map}
use Rattle.pt_base.specs.declared.span.Span.{Span}
use Rattle.typed_tree.specs.declared.variable.Var.{Var}
use Rattle.typed_tree.specs.declared.variable.TypedGlobal.{TypedGlobal}
use Rattle.typed_tree.specs.declared.statement.TypedLabel.{TypedLabel}
use Rattle.typed_tree.specs.declared.statement.TypedLabel.TheVariants.{Case, Default}
use Rattle.typed_tree.specs.declared.statement.TypedInit.{TypedInit}
use Rattle.typed_tree.specs.declared.statement.TypedInit.TheVariants as i
use Rattle.typed_tree.specs.declared.statement.TypedDeclarator.{TypedDeclarator}
use Rattle.typed_tree.specs.declared.statement.TypedDeclaration.{TypedDeclaration}
use Rattle.typed_tree.specs.declared.statement.TypedForInit.{TypedForInit}
use Rattle.typed_tree.specs.declared.statement.TypedForInit.TheVariants as f
use Rattle.typed_tree.specs.ExpressionTree as e
use Rattle.typed_tree.specs.ExpressionTree.{ExprTree, typed, FormTree, ExprTrees, no_exprs, expr_and, link, LinkTrees, no_links, link_and, operand, OperandTrees, no_operands, operand_and, PlaceTree, RootTree, StepTrees, no_steps, step_and}
use Rattle.typed_tree.specs.StatementTree as s
use Rattle.typed_tree.specs.StatementTree.{BodyTree, ElseTree, no_else, otherwise, BodyTrees, no_bodies, body_and, section, SectionTrees, no_sections, section_and}
use Rattle.typed_tree.specs.TypedTree.{FunctionTree, TypedTree}
pub use Rattle.pt_base.specs.Spans.{nowhere}

abbrev mutual
  pub bare : ExprTree → ExprTree
  bare (typed s ty form) = typed nowhere ty (bare_form form)

  pub bare_form : FormTree → FormTree
  bare_form (e.constant v) = e.constant v
  bare_form e.null = e.null
  bare_form (e.read p) = e.read (bare_place p)
  bare_form (e.decay p) = e.decay (bare_place p)
  bare_form (e.address p) = e.address (bare_place p)
  bare_form (e.unary op a) = e.unary op (bare a)
  bare_form (e.convert a) = e.convert (bare a)
  bare_form (e.discard a) = e.discard (bare a)
  bare_form (e.chain a ls) = e.chain (bare a) (bare_links ls)
  bare_form (e.logical op a os) = e.logical op (bare a) (bare_operands os)
  bare_form (e.choice a b c) = e.choice (bare a) (bare b) (bare c)
  bare_form (e.assign p a) = e.assign (bare_place p) (bare a)
  bare_form (e.compound p at op a) = e.compound (bare_place p) nowhere op (bare a)
  bare_form (e.step p at back postfix) = e.step (bare_place p) nowhere back postfix
  bare_form (e.call g arguments) = e.call g (bare_all arguments)

  pub bare_all : ExprTrees → ExprTrees
  bare_all no_exprs = no_exprs
  bare_all (expr_and a rest) = expr_and (bare a) (bare_all rest)

  pub bare_links : LinkTrees → LinkTrees
  bare_links no_links = no_links
  bare_links (link_and (link at ty op a) rest) = link_and (link nowhere ty op (bare a)) (bare_links rest)

  pub bare_operands : OperandTrees → OperandTrees
  bare_operands no_operands = no_operands
  bare_operands (operand_and (operand at a) rest) = operand_and (operand nowhere (bare a)) (bare_operands rest)

  pub bare_place : PlaceTree → PlaceTree
  bare_place (e.place root steps) = e.place (bare_root root) (bare_steps steps)

  pub bare_root : RootTree → RootTree
  bare_root (e.local v) = e.local v
  bare_root (e.global g) = e.global g
  bare_root (e.deref a at) = e.deref (bare a) nowhere
  bare_root (e.assigned a) = e.assigned (bare a)

  pub bare_steps : StepTrees → StepTrees
  bare_steps no_steps = no_steps
  bare_steps (step_and (e.field k) rest) = step_and (e.field k) (bare_steps rest)
  bare_steps (step_and (e.item a at) rest) = step_and (e.item (bare a) nowhere) (bare_steps rest)

-- ---- statements

abbrev pub bare_label : TypedLabel → TypedLabel
bare_label (Case at v) = Case nowhere v
bare_label (Default at) = Default nowhere

abbrev pub bare_init : TypedInit → TypedInit
bare_init i.Nothing = i.Nothing
bare_init (i.Value e) = i.Value e
bare_init (i.Items at es) = i.Items nowhere es

abbrev pub bare_declarator : TypedDeclarator → TypedDeclarator
bare_declarator d = record { var = d.var; init = bare_init d.init }

abbrev pub bare_declaration : TypedDeclaration → TypedDeclaration
bare_declaration d = record { span = nowhere; declarators = map bare_declarator d.declarators }

abbrev pub bare_for_init : TypedForInit → TypedForInit
bare_for_init f.Nothing = f.Nothing
bare_for_init (f.Declare d) = f.Declare (bare_declaration d)
bare_for_init (f.Evaluate e) = f.Evaluate e

abbrev mutual
  pub bare_body : BodyTree → BodyTree
  bare_body (s.block at ys) = s.block nowhere (bare_bodies ys)
  bare_body (s.nothing at) = s.nothing nowhere
  bare_body (s.evaluate at e) = s.evaluate nowhere e
  bare_body (s.declare d) = s.declare (bare_declaration d)
  bare_body (s.choose at e y o) = s.choose nowhere e (bare_body y) (bare_else o)
  bare_body (s.while_true at e y) = s.while_true nowhere e (bare_body y)
  bare_body (s.do_while at y e) = s.do_while nowhere (bare_body y) e
  bare_body (s.for_each at d test step y) = s.for_each nowhere (bare_for_init d) test step (bare_body y)
  bare_body (s.give_back at e) = s.give_back nowhere e
  bare_body (s.stop_loop at) = s.stop_loop nowhere
  bare_body (s.next_turn at) = s.next_turn nowhere
  bare_body (s.switch at e ty ss) = s.switch nowhere e ty (bare_sections ss)

  pub bare_else : ElseTree → ElseTree
  bare_else no_else = no_else
  bare_else (otherwise y) = otherwise (bare_body y)

  pub bare_bodies : BodyTrees → BodyTrees
  bare_bodies no_bodies = no_bodies
  bare_bodies (body_and y rest) = body_and (bare_body y) (bare_bodies rest)

  pub bare_sections : SectionTrees → SectionTrees
  bare_sections no_sections = no_sections
  bare_sections (section_and (section at label ys) rest) = section_and (section nowhere (bare_label label) (bare_bodies ys)) (bare_sections rest)

-- ---- functions

abbrev pub bare_var : Var → Var
bare_var x = record x { span = nowhere; holds = option_map (λ (at : Span). nowhere) x.holds }

abbrev pub bare_function : FunctionTree → FunctionTree
bare_function f = record { signature = f.signature; name = nowhere; vars = map bare_var f.vars; body = option_map bare_body f.body }

abbrev pub bare_global : TypedGlobal → TypedGlobal
bare_global g = record g { var = bare_var g.var }

-- a whole program without places
abbrev pub bare_program : TypedTree → TypedTree
bare_program t = record { structs = t.structs; globals = map bare_global t.globals; functions = map bare_function t.functions; exprs = map bare t.exprs }
