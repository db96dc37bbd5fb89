-- What is kept of each parsed program beside the number of its nodes: its constants are in range, and its
-- words are short.
use Rattle.std.specs.Prelude.{List, [], ◌∷◌, Option, None, Some, Bool, true, ◌&&◌, int_le}
use Rattle.pt_base.specs.IntTypes.{low_of, high_of}
use Rattle.pt_base.specs.Names.{is_short}
use Rattle.pt_tree.specs.declared.word.Constant.{Constant}
use Rattle.pt_tree.specs.declared.word.Word.{Word}
use Rattle.pt_tree.specs.declared.specifier.Declarator.{Declarator}
use Rattle.pt_tree.specs.declared.specifier.Suffix.{Suffix}
use Rattle.pt_tree.specs.declared.specifier.Suffix.TheVariants.{Plain, Open, Sized}
use Rattle.pt_tree.specs.SpecifierTree as s
use Rattle.pt_tree.specs.SpecifierTree.{SpecTree, SpecTrees, FieldTree, FieldTrees}
use Rattle.pt_tree.specs.ExpressionTree as e
use Rattle.pt_tree.specs.ExpressionTree.{ExprTree, ExprTrees, LinkTree, LinkTrees, PostfixTree, PostfixTrees}
use Rattle.pt_tree.specs.StatementTree as t
use Rattle.pt_tree.specs.StatementTree.{InitTree, InitDeclaratorTree, DeclarationTree, LabelTree, ForInitTree, StmtTree, ElseTree, StmtTrees, SectionTree, SectionTrees, BlockTree}
use Rattle.pt_tree.specs.ProgramTree as i
use Rattle.pt_tree.specs.ProgramTree.{ParamTree, FunctionTree, ItemTree}

-- the value is in the range of the type
abbrev pub is_sound : Constant → Bool
is_sound c = int_le (low_of c.ty) c.value && int_le c.value (high_of c.ty)

abbrev pub word_sound : Word → Bool
word_sound w = is_short w.bytes

abbrev pub words_sound : List Word → Bool
words_sound [] = true
words_sound (w ∷ ws) = word_sound w && words_sound ws

-- a word that may be left out
abbrev pub name_sound : Option Word → Bool
name_sound None = true
name_sound (Some w) = word_sound w

abbrev pub suffix_sound : Suffix → Bool
suffix_sound Plain = true
suffix_sound Open = true
suffix_sound (Sized c) = is_sound c

abbrev pub declarator_sound : Declarator → Bool
declarator_sound d = word_sound d.name && suffix_sound d.suffix

abbrev pub declarators_sound : List Declarator → Bool
declarators_sound [] = true
declarators_sound (d ∷ ds) = declarator_sound d && declarators_sound ds

abbrev mutual
  pub spec_sound : SpecTree → Bool
  spec_sound (s.attribute p names) = words_sound names
  spec_sound (s.keyword p w) = true
  spec_sound (s.structure p tag fs) = word_sound tag && fields_sound fs

  pub specs_sound : SpecTrees → Bool
  specs_sound s.no_specs = true
  specs_sound (s.spec_and a rest) = spec_sound a && specs_sound rest

  pub field_sound : FieldTree → Bool
  field_sound (s.field p specs ds) = specs_sound specs && declarators_sound ds

  pub fields_sound : FieldTrees → Bool
  fields_sound s.no_fields = true
  fields_sound (s.field_and f rest) = field_sound f && fields_sound rest

abbrev mutual
  pub expr_sound : ExprTree → Bool
  expr_sound (e.name w) = word_sound w
  expr_sound (e.constant c) = is_sound c
  expr_sound (e.prefix p op a) = expr_sound a
  expr_sound (e.cast p specs pointer a) = specs_sound specs && expr_sound a
  expr_sound (e.postfix p a ps) = expr_sound a && postfixes_sound ps
  expr_sound (e.chain p a ls) = expr_sound a && links_sound ls
  expr_sound (e.choice p a b c) = expr_sound a && (expr_sound b && expr_sound c)
  expr_sound (e.assign p op a b) = expr_sound a && expr_sound b

  pub exprs_sound : ExprTrees → Bool
  exprs_sound e.no_exprs = true
  exprs_sound (e.expr_and a rest) = expr_sound a && exprs_sound rest

  pub link_sound : LinkTree → Bool
  link_sound (e.link p op a) = expr_sound a

  pub links_sound : LinkTrees → Bool
  links_sound e.no_links = true
  links_sound (e.link_and l rest) = link_sound l && links_sound rest

  pub postfix_sound : PostfixTree → Bool
  postfix_sound (e.index p a) = expr_sound a
  postfix_sound (e.call p as_given) = exprs_sound as_given
  postfix_sound (e.dot p w) = word_sound w
  postfix_sound (e.arrow p w) = word_sound w
  postfix_sound (e.increment p) = true
  postfix_sound (e.decrement p) = true

  pub postfixes_sound : PostfixTrees → Bool
  postfixes_sound e.no_postfixes = true
  postfixes_sound (e.postfix_and a rest) = postfix_sound a && postfixes_sound rest

abbrev pub option_sound : Option ExprTree → Bool
option_sound None = true
option_sound (Some a) = expr_sound a

abbrev pub init_sound : InitTree → Bool
init_sound t.no_init = true
init_sound (t.single a) = expr_sound a
init_sound (t.braces p items) = exprs_sound items

abbrev pub inits_sound : List InitDeclaratorTree → Bool
inits_sound [] = true
inits_sound (d ∷ ds) = (declarator_sound d.declarator && init_sound d.init) && inits_sound ds

abbrev pub declaration_sound : DeclarationTree → Bool
declaration_sound d = specs_sound d.specs && inits_sound d.declarators

abbrev pub label_sound : LabelTree → Bool
label_sound (t.case_label p a) = expr_sound a
label_sound (t.default_label p) = true

abbrev pub for_init_sound : ForInitTree → Bool
for_init_sound (t.for_declare d) = declaration_sound d
for_init_sound t.for_nothing = true
for_init_sound (t.for_expr a) = expr_sound a

abbrev mutual
  pub stmt_sound : StmtTree → Bool
  stmt_sound (t.declare d) = declaration_sound d
  stmt_sound (t.block p items) = stmts_sound items
  stmt_sound (t.nothing p) = true
  stmt_sound (t.evaluate p a) = expr_sound a
  stmt_sound (t.choose p a b c) = expr_sound a && (stmt_sound b && else_sound c)
  stmt_sound (t.while_true p a b) = expr_sound a && stmt_sound b
  stmt_sound (t.do_while p b a) = stmt_sound b && expr_sound a
  stmt_sound (t.for_each p i a b body) = for_init_sound i && (option_sound a && (option_sound b && stmt_sound body))
  stmt_sound (t.give_back p a) = option_sound a
  stmt_sound (t.stop_loop p) = true
  stmt_sound (t.next_turn p) = true
  stmt_sound (t.switch p a sections) = expr_sound a && sections_sound sections

  pub else_sound : ElseTree → Bool
  else_sound t.no_else = true
  else_sound (t.otherwise a) = stmt_sound a

  pub stmts_sound : StmtTrees → Bool
  stmts_sound t.no_stmts = true
  stmts_sound (t.stmt_and a rest) = stmt_sound a && stmts_sound rest

  pub section_sound : SectionTree → Bool
  section_sound (t.section p l body) = label_sound l && stmts_sound body

  pub sections_sound : SectionTrees → Bool
  sections_sound t.no_sections = true
  sections_sound (t.section_and a rest) = section_sound a && sections_sound rest

abbrev pub params_sound : List ParamTree → Bool
params_sound [] = true
params_sound (p ∷ ps) = (specs_sound p.specs && (name_sound p.name && suffix_sound p.suffix)) && params_sound ps

abbrev pub stmt_list_sound : List StmtTree → Bool
stmt_list_sound [] = true
stmt_list_sound (s ∷ ss) = stmt_sound s && stmt_list_sound ss

abbrev pub body_sound : Option BlockTree → Bool
body_sound None = true
body_sound (Some b) = stmt_list_sound b.items

abbrev pub function_sound : FunctionTree → Bool
function_sound f = (specs_sound f.specs && declarator_sound f.declarator) && (params_sound f.params && body_sound f.body)

abbrev pub item_sound : ItemTree → Bool
item_sound (i.declares d) = declaration_sound d
item_sound (i.function f) = function_sound f

abbrev pub items_sound : List ItemTree → Bool
items_sound [] = true
items_sound (a ∷ rest) = item_sound a && items_sound rest
