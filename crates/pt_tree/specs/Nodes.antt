-- How many nodes a program has. A node is each part with a span of its own, names and constants too,
-- so there are as many nodes as spans.
use Rattle.std.specs.Prelude.{ℕ, ◌+◌, List, [], ◌∷◌, Option, None, Some, length}
use Rattle.pt_tree.specs.declared.word.Word.{Word}
use Rattle.pt_tree.specs.declared.specifier.Declarator.{Declarator}
use Rattle.pt_tree.specs.declared.specifier.Suffix.{Suffix}
use Rattle.pt_tree.specs.declared.specifier.Suffix.TheVariants.{Plain, Open, Sized}
use Rattle.pt_tree.specs.SpecifierTree as s
use Rattle.pt_tree.specs.SpecifierTree.{SpecTree, SpecTrees, FieldTree, FieldTrees}
use Rattle.pt_tree.specs.ExpressionTree as e
use Rattle.pt_tree.specs.ExpressionTree.{ExprTree, ExprTrees, LinkTree, LinkTrees, PostfixTree, PostfixTrees}
use Rattle.pt_tree.specs.StatementTree as t
use Rattle.pt_tree.specs.StatementTree.{InitTree, InitDeclaratorTree, DeclarationTree, LabelTree, ForInitTree, StmtTree, ElseTree, StmtTrees, SectionTree, SectionTrees, BlockTree, stmt_trees}
use Rattle.pt_tree.specs.ProgramTree as i
use Rattle.pt_tree.specs.ProgramTree.{ParamTree, FunctionTree, ItemTree}

abbrev pub suffix_nodes : Suffix → ℕ
suffix_nodes Plain = 0
suffix_nodes Open = 0
suffix_nodes (Sized c) = 1

abbrev pub declarator_nodes : Declarator → ℕ
declarator_nodes d = 2 + suffix_nodes d.suffix

abbrev pub declarators_nodes : List Declarator → ℕ
declarators_nodes [] = 0
declarators_nodes (d ∷ ds) = declarator_nodes d + declarators_nodes ds

abbrev mutual
  pub spec_nodes : SpecTree → ℕ
  spec_nodes (s.attribute p names) = 1 + length names
  spec_nodes (s.keyword p w) = 1
  spec_nodes (s.structure p tag fs) = 2 + fields_nodes fs

  pub specs_nodes : SpecTrees → ℕ
  specs_nodes s.no_specs = 0
  specs_nodes (s.spec_and a rest) = spec_nodes a + specs_nodes rest

  pub field_nodes : FieldTree → ℕ
  field_nodes (s.field p specs ds) = 1 + (specs_nodes specs + declarators_nodes ds)

  pub fields_nodes : FieldTrees → ℕ
  fields_nodes s.no_fields = 0
  fields_nodes (s.field_and f rest) = field_nodes f + fields_nodes rest

abbrev mutual
  pub expr_nodes : ExprTree → ℕ
  expr_nodes (e.name w) = 1
  expr_nodes (e.constant c) = 1
  expr_nodes (e.prefix p op a) = 1 + expr_nodes a
  expr_nodes (e.cast p specs pointer a) = 1 + (specs_nodes specs + expr_nodes a)
  expr_nodes (e.postfix p a ps) = 1 + (expr_nodes a + postfixes_nodes ps)
  expr_nodes (e.chain p a ls) = 1 + (expr_nodes a + links_nodes ls)
  expr_nodes (e.choice p a b c) = 1 + (expr_nodes a + (expr_nodes b + expr_nodes c))
  expr_nodes (e.assign p op a b) = 1 + (expr_nodes a + expr_nodes b)

  pub exprs_nodes : ExprTrees → ℕ
  exprs_nodes e.no_exprs = 0
  exprs_nodes (e.expr_and a rest) = expr_nodes a + exprs_nodes rest

  pub link_nodes : LinkTree → ℕ
  link_nodes (e.link p op a) = 1 + expr_nodes a

  pub links_nodes : LinkTrees → ℕ
  links_nodes e.no_links = 0
  links_nodes (e.link_and l rest) = link_nodes l + links_nodes rest

  pub postfix_nodes : PostfixTree → ℕ
  postfix_nodes (e.index p a) = 1 + expr_nodes a
  postfix_nodes (e.call p given) = 1 + exprs_nodes given
  postfix_nodes (e.dot p w) = 2
  postfix_nodes (e.arrow p w) = 2
  postfix_nodes (e.increment p) = 1
  postfix_nodes (e.decrement p) = 1

  pub postfixes_nodes : PostfixTrees → ℕ
  postfixes_nodes e.no_postfixes = 0
  postfixes_nodes (e.postfix_and a rest) = postfix_nodes a + postfixes_nodes rest

abbrev pub option_nodes : Option ExprTree → ℕ
option_nodes None = 0
option_nodes (Some a) = expr_nodes a

abbrev pub init_nodes : InitTree → ℕ
init_nodes t.no_init = 0
init_nodes (t.single a) = expr_nodes a
init_nodes (t.braces p items) = 1 + exprs_nodes items

abbrev pub inits_nodes : List InitDeclaratorTree → ℕ
inits_nodes [] = 0
inits_nodes (d ∷ ds) = (declarator_nodes d.declarator + init_nodes d.init) + inits_nodes ds

abbrev pub declaration_nodes : DeclarationTree → ℕ
declaration_nodes d = 1 + (specs_nodes d.specs + inits_nodes d.declarators)

abbrev pub label_nodes : LabelTree → ℕ
label_nodes (t.case_label p a) = 1 + expr_nodes a
label_nodes (t.default_label p) = 1

abbrev pub for_init_nodes : ForInitTree → ℕ
for_init_nodes (t.for_declare d) = declaration_nodes d
for_init_nodes t.for_nothing = 0
for_init_nodes (t.for_expr a) = expr_nodes a

abbrev mutual
  pub stmt_nodes : StmtTree → ℕ
  stmt_nodes (t.declare d) = declaration_nodes d
  stmt_nodes (t.block p items) = 1 + stmts_nodes items
  stmt_nodes (t.nothing p) = 1
  stmt_nodes (t.evaluate p a) = 1 + expr_nodes a
  stmt_nodes (t.choose p a b c) = 1 + (expr_nodes a + (stmt_nodes b + else_nodes c))
  stmt_nodes (t.while_true p a b) = 1 + (expr_nodes a + stmt_nodes b)
  stmt_nodes (t.do_while p b a) = 1 + (stmt_nodes b + expr_nodes a)
  stmt_nodes (t.for_each p i a b body) = 1 + (for_init_nodes i + (option_nodes a + (option_nodes b + stmt_nodes body)))
  stmt_nodes (t.give_back p a) = 1 + option_nodes a
  stmt_nodes (t.stop_loop p) = 1
  stmt_nodes (t.next_turn p) = 1
  stmt_nodes (t.switch p a sections) = 1 + (expr_nodes a + sections_nodes sections)

  pub else_nodes : ElseTree → ℕ
  else_nodes t.no_else = 0
  else_nodes (t.otherwise a) = stmt_nodes a

  pub stmts_nodes : StmtTrees → ℕ
  stmts_nodes t.no_stmts = 0
  stmts_nodes (t.stmt_and a rest) = stmt_nodes a + stmts_nodes rest

  pub section_nodes : SectionTree → ℕ
  section_nodes (t.section p l body) = 1 + (label_nodes l + stmts_nodes body)

  pub sections_nodes : SectionTrees → ℕ
  sections_nodes t.no_sections = 0
  sections_nodes (t.section_and a rest) = section_nodes a + sections_nodes rest

abbrev pub name_nodes : Option Word → ℕ
name_nodes None = 0
name_nodes (Some w) = 1

abbrev pub param_nodes : ParamTree → ℕ
param_nodes p = 1 + (specs_nodes p.specs + (name_nodes p.name + suffix_nodes p.suffix))

abbrev pub params_nodes : List ParamTree → ℕ
params_nodes [] = 0
params_nodes (p ∷ ps) = param_nodes p + params_nodes ps

abbrev pub block_nodes : BlockTree → ℕ
block_nodes b = 1 + stmts_nodes (stmt_trees b.items)

abbrev pub body_nodes : Option BlockTree → ℕ
body_nodes None = 0
body_nodes (Some b) = block_nodes b

abbrev pub function_nodes : FunctionTree → ℕ
function_nodes f = 1 + (specs_nodes f.specs + (declarator_nodes f.declarator + (params_nodes f.params + body_nodes f.body)))

abbrev pub item_nodes : ItemTree → ℕ
item_nodes (i.declares d) = declaration_nodes d
item_nodes (i.function f) = function_nodes f

-- how many nodes a program has
abbrev pub nodes_of : List ItemTree → ℕ
nodes_of [] = 0
nodes_of (a ∷ rest) = item_nodes a + nodes_of rest
