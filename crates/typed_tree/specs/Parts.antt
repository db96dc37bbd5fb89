-- The outermost expressions of a body in text order, each with what it stands for, and the variables
-- that its declarators declare.
use Rattle.std.specs.Prelude.{ℕ, List, [], ◌∷◌, ◌++◌, Option, None, Some, map}
use Rattle.std.specs.List.{flat_map}
use Rattle.pt_base.specs.declared.ids.VarId.{VarId}
use Rattle.typed_tree.specs.declared.ids.ExprId.{ExprId}
use Rattle.typed_tree.specs.declared.part.Part.{Part}
use Rattle.typed_tree.specs.declared.part.Role.{Role}
use Rattle.typed_tree.specs.declared.part.Role.TheVariants.{Value, Condition, Init, Returned}
use Rattle.typed_tree.specs.declared.statement.TypedInit.{TypedInit}
use Rattle.typed_tree.specs.declared.statement.TypedInit.TheVariants as i
use Rattle.typed_tree.specs.declared.statement.TypedDeclarator.{TypedDeclarator}
use Rattle.typed_tree.specs.declared.statement.TypedForInit.{TypedForInit}
use Rattle.typed_tree.specs.declared.statement.TypedForInit.TheVariants as f
use Rattle.typed_tree.specs.StatementTree.{BodyTree, ElseTree, BodyTrees, SectionTrees, block, nothing, evaluate, declare, choose, while_true, do_while, for_each, give_back, stop_loop, next_turn, switch, no_else, otherwise, no_bodies, body_and, section, no_sections, section_and}

abbrev pub part_of : Role → ExprId → Part
part_of role e = record { role = role; expr = e }

-- a single part, where there is an expression
abbrev pub optional_part : Role → Option ExprId → List Part
optional_part role None = []
optional_part role (Some e) = part_of role e ∷ []

-- one part for each item of a brace list
abbrev pub init_parts : VarId → TypedInit → List Part
init_parts v i.Nothing = []
init_parts v (i.Value e) = part_of (Init v) e ∷ []
init_parts v (i.Items s es) = map (part_of (Init v)) es

abbrev pub declarator_parts : TypedDeclarator → List Part
declarator_parts d = init_parts d.var d.init

abbrev pub declaration_parts : List TypedDeclarator → List Part
declaration_parts ds = flat_map declarator_parts ds

abbrev pub for_init_parts : TypedForInit → List Part
for_init_parts f.Nothing = []
for_init_parts (f.Declare d) = declaration_parts d.declarators
for_init_parts (f.Evaluate e) = part_of Value e ∷ []

abbrev mutual
  pub parts_of : BodyTree → List Part
  parts_of (block s bs) = all_parts bs
  parts_of (nothing s) = []
  parts_of (evaluate s e) = part_of Value e ∷ []
  parts_of (declare d) = declaration_parts d.declarators
  parts_of (choose s e a o) = part_of Condition e ∷ (parts_of a ++ else_parts o)
  parts_of (while_true s e a) = part_of Condition e ∷ parts_of a
  parts_of (do_while s a e) = parts_of a ++ (part_of Condition e ∷ [])
  parts_of (for_each s i t u a) = for_init_parts i ++ (optional_part Condition t ++ (optional_part Value u ++ parts_of a))
  parts_of (give_back s e) = optional_part Returned e
  parts_of (stop_loop s) = []
  parts_of (next_turn s) = []
  parts_of (switch s e t ss) = part_of Condition e ∷ section_parts ss

  pub else_parts : ElseTree → List Part
  else_parts no_else = []
  else_parts (otherwise a) = parts_of a

  pub all_parts : BodyTrees → List Part
  all_parts no_bodies = []
  all_parts (body_and b rest) = parts_of b ++ all_parts rest

  pub section_parts : SectionTrees → List Part
  section_parts no_sections = []
  section_parts (section_and (section s l bs) rest) = all_parts bs ++ section_parts rest

-- the parts of a function, none of a host
abbrev pub function_parts : Option BodyTree → List Part
function_parts None = []
function_parts (Some b) = parts_of b

-- ---- the numbers of the variables that declarators declare, in text order

abbrev pub declarator_variables : List TypedDeclarator → List ℕ
declarator_variables ds = map (λ d. d.var.0) ds

abbrev pub for_init_variables : TypedForInit → List ℕ
for_init_variables f.Nothing = []
for_init_variables (f.Declare d) = declarator_variables d.declarators
for_init_variables (f.Evaluate e) = []

abbrev mutual
  pub variables_of : BodyTree → List ℕ
  variables_of (block s bs) = all_variables bs
  variables_of (nothing s) = []
  variables_of (evaluate s e) = []
  variables_of (declare d) = declarator_variables d.declarators
  variables_of (choose s e a o) = variables_of a ++ else_variables o
  variables_of (while_true s e a) = variables_of a
  variables_of (do_while s a e) = variables_of a
  variables_of (for_each s i t u a) = for_init_variables i ++ variables_of a
  variables_of (give_back s e) = []
  variables_of (stop_loop s) = []
  variables_of (next_turn s) = []
  variables_of (switch s e t ss) = section_variables ss

  pub else_variables : ElseTree → List ℕ
  else_variables no_else = []
  else_variables (otherwise a) = variables_of a

  pub all_variables : BodyTrees → List ℕ
  all_variables no_bodies = []
  all_variables (body_and b rest) = variables_of b ++ all_variables rest

  pub section_variables : SectionTrees → List ℕ
  section_variables no_sections = []
  section_variables (section_and (section s l bs) rest) = all_variables bs ++ section_variables rest

-- the variables that a function declares in its body, none of a host
abbrev pub function_variables : Option BodyTree → List ℕ
function_variables None = []
function_variables (Some b) = variables_of b
