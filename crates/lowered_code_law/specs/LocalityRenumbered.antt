-- Bodies with other numbers for their outermost expressions: all else stays.
use Rattle.std.specs.Prelude.{map, option_map}
use Rattle.typed_tree.specs.declared.ids.ExprId.{ExprId}
use Rattle.typed_tree.specs.declared.statement.TypedInit.{TypedInit}
use Rattle.typed_tree.specs.declared.statement.TypedInit.TheVariants as i
use Rattle.typed_tree.specs.declared.statement.TypedDeclarator.{TypedDeclarator}
use Rattle.typed_tree.specs.declared.statement.TypedDeclaration.{TypedDeclaration}
use Rattle.typed_tree.specs.declared.statement.TypedForInit.{TypedForInit}
use Rattle.typed_tree.specs.declared.statement.TypedForInit.TheVariants as f
use Rattle.typed_tree.specs.StatementTree.{BodyTree, block, nothing, evaluate, declare, choose, while_true, do_while, for_each, give_back, stop_loop, next_turn, switch, ElseTree, no_else, otherwise, BodyTrees, no_bodies, body_and, section, SectionTrees, no_sections, section_and}

abbrev pub init_by : (ExprId → ExprId) → TypedInit → TypedInit
init_by number i.Nothing = i.Nothing
init_by number (i.Value e) = i.Value (number e)
init_by number (i.Items s es) = i.Items s (map number es)

abbrev pub declarator_by : (ExprId → ExprId) → TypedDeclarator → TypedDeclarator
declarator_by number d = record { var = d.var; init = init_by number d.init }

abbrev pub declaration_by : (ExprId → ExprId) → TypedDeclaration → TypedDeclaration
declaration_by number d = record { span = d.span; declarators = map (declarator_by number) d.declarators }

abbrev pub for_init_by : (ExprId → ExprId) → TypedForInit → TypedForInit
for_init_by number f.Nothing = f.Nothing
for_init_by number (f.Declare d) = f.Declare (declaration_by number d)
for_init_by number (f.Evaluate e) = f.Evaluate (number e)

abbrev mutual
  -- the body, with a new number for each outermost expression
  pub renumbered : (ExprId → ExprId) → BodyTree → BodyTree
  renumbered number (block s bs) = block s (all_by number bs)
  renumbered number (nothing s) = nothing s
  renumbered number (evaluate s e) = evaluate s (number e)
  renumbered number (declare d) = declare (declaration_by number d)
  renumbered number (choose s e a o) = choose s (number e) (renumbered number a) (else_by number o)
  renumbered number (while_true s e a) = while_true s (number e) (renumbered number a)
  renumbered number (do_while s a e) = do_while s (renumbered number a) (number e)
  renumbered number (for_each s d test step a) = for_each s (for_init_by number d) (option_map number test) (option_map number step) (renumbered number a)
  renumbered number (give_back s e) = give_back s (option_map number e)
  renumbered number (stop_loop s) = stop_loop s
  renumbered number (next_turn s) = next_turn s
  renumbered number (switch s e t ss) = switch s (number e) t (sections_by number ss)

  pub else_by : (ExprId → ExprId) → ElseTree → ElseTree
  else_by number no_else = no_else
  else_by number (otherwise a) = otherwise (renumbered number a)

  pub all_by : (ExprId → ExprId) → BodyTrees → BodyTrees
  all_by number no_bodies = no_bodies
  all_by number (body_and b rest) = body_and (renumbered number b) (all_by number rest)

  pub sections_by : (ExprId → ExprId) → SectionTrees → SectionTrees
  sections_by number no_sections = no_sections
  sections_by number (section_and (section s label bs) rest) = section_and (section s label (all_by number bs)) (sections_by number rest)
