-- How many nodes a typed program has: its expressions, the steps of its places, its statements,
-- sections and declarators, and what is declared.
use Rattle.std.specs.Prelude.{ℕ, ◌+◌, Option, None, Some, length, sum_by}
use Rattle.typed_tree.specs.declared.statement.TypedForInit.{TypedForInit}
use Rattle.typed_tree.specs.declared.statement.TypedForInit.TheVariants as f
use Rattle.typed_tree.specs.declared.statement.TypedDeclaration.{TypedDeclaration}
use Rattle.typed_tree.specs.ExpressionTree.{ExprTree, FormTree, ExprTrees, LinkTrees, OperandTrees, PlaceTree, RootTree, StepTrees, typed, constant, null, read, decay, address, unary, convert, discard, chain, logical, choice, assign, compound, step, call, no_exprs, expr_and, link, no_links, link_and, operand, no_operands, operand_and, place, local, global, deref, assigned, field, item, no_steps, step_and}
use Rattle.typed_tree.specs.StatementTree.{BodyTree, ElseTree, BodyTrees, SectionTrees, block, nothing, evaluate, declare, choose, while_true, do_while, for_each, give_back, stop_loop, next_turn, switch, no_else, otherwise, no_bodies, body_and, section, no_sections, section_and}
use Rattle.typed_tree.specs.TypedTree.{FunctionTree, TypedTree}

abbrev mutual
  pub expr_nodes : ExprTree → ℕ
  expr_nodes (typed s t a) = 1 + form_nodes a

  pub form_nodes : FormTree → ℕ
  form_nodes (constant v) = 0
  form_nodes null = 0
  form_nodes (read p) = place_nodes p
  form_nodes (decay p) = place_nodes p
  form_nodes (address p) = place_nodes p
  form_nodes (unary op a) = expr_nodes a
  form_nodes (convert a) = expr_nodes a
  form_nodes (discard a) = expr_nodes a
  form_nodes (chain a ls) = expr_nodes a + link_nodes ls
  form_nodes (logical op a os) = expr_nodes a + operand_nodes os
  form_nodes (choice a b c) = expr_nodes a + (expr_nodes b + expr_nodes c)
  form_nodes (assign p a) = place_nodes p + expr_nodes a
  form_nodes (compound p at op a) = place_nodes p + expr_nodes a
  form_nodes (step p at back postfix) = place_nodes p
  form_nodes (call g arguments) = exprs_nodes arguments

  pub exprs_nodes : ExprTrees → ℕ
  exprs_nodes no_exprs = 0
  exprs_nodes (expr_and a rest) = expr_nodes a + exprs_nodes rest

  pub link_nodes : LinkTrees → ℕ
  link_nodes no_links = 0
  link_nodes (link_and (link s t op a) rest) = expr_nodes a + link_nodes rest

  pub operand_nodes : OperandTrees → ℕ
  operand_nodes no_operands = 0
  operand_nodes (operand_and (operand s a) rest) = expr_nodes a + operand_nodes rest

  pub place_nodes : PlaceTree → ℕ
  place_nodes (place r ss) = root_nodes r + step_nodes ss

  pub root_nodes : RootTree → ℕ
  root_nodes (local v) = 0
  root_nodes (global g) = 0
  root_nodes (deref a s) = expr_nodes a
  root_nodes (assigned a) = expr_nodes a

  pub step_nodes : StepTrees → ℕ
  step_nodes no_steps = 0
  step_nodes (step_and (field k) rest) = 1 + step_nodes rest
  step_nodes (step_and (item a s) rest) = expr_nodes a + step_nodes rest

abbrev pub declaration_nodes : TypedDeclaration → ℕ
declaration_nodes d = 1 + length d.declarators

abbrev pub for_init_nodes : TypedForInit → ℕ
for_init_nodes f.Nothing = 0
for_init_nodes (f.Declare d) = declaration_nodes d
for_init_nodes (f.Evaluate a) = 0

abbrev mutual
  -- of a statement, without its outermost expressions
  pub body_nodes : BodyTree → ℕ
  body_nodes (block s bs) = 1 + bodies_nodes bs
  body_nodes (nothing s) = 1
  body_nodes (evaluate s a) = 1
  body_nodes (declare d) = declaration_nodes d
  body_nodes (choose s a b o) = 1 + (body_nodes b + else_nodes o)
  body_nodes (while_true s a b) = 1 + body_nodes b
  body_nodes (do_while s b a) = 1 + body_nodes b
  body_nodes (for_each s i t u b) = 1 + (for_init_nodes i + body_nodes b)
  body_nodes (give_back s a) = 1
  body_nodes (stop_loop s) = 1
  body_nodes (next_turn s) = 1
  body_nodes (switch s a t ss) = 1 + section_nodes ss

  pub else_nodes : ElseTree → ℕ
  else_nodes no_else = 0
  else_nodes (otherwise b) = body_nodes b

  pub bodies_nodes : BodyTrees → ℕ
  bodies_nodes no_bodies = 0
  bodies_nodes (body_and b rest) = body_nodes b + bodies_nodes rest

  pub section_nodes : SectionTrees → ℕ
  section_nodes no_sections = 0
  section_nodes (section_and (section s l bs) rest) = 1 + (bodies_nodes bs + section_nodes rest)

abbrev pub option_nodes : Option BodyTree → ℕ
option_nodes None = 0
option_nodes (Some b) = body_nodes b

-- a function with its variables and its body
abbrev pub function_nodes : FunctionTree → ℕ
function_nodes f = 1 + (length f.vars + option_nodes f.body)

-- the structs with their fields, the globals, the functions and the outermost expressions
abbrev pub nodes_of : TypedTree → ℕ
nodes_of t =
    sum_by (λ s. 1 + length s.fields) t.structs
    + (length t.globals + (sum_by function_nodes t.functions + sum_by expr_nodes t.exprs))
