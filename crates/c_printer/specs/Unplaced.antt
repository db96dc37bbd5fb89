-- Trees without positions: each span is the empty one at 0.
use Rattle.std.specs.Prelude.{map, option_map}
use Rattle.pt_tree.specs.declared.word.Word.{Word}
use Rattle.pt_tree.specs.declared.word.Constant.{Constant}
use Rattle.pt_tree.specs.declared.specifier.Declarator.{Declarator}
use Rattle.pt_tree.specs.declared.specifier.Suffix.{Suffix}
use Rattle.pt_tree.specs.declared.specifier.Suffix.TheVariants.{Plain, Open, Sized}
use Rattle.pt_tree.specs.SpecifierTree.{SpecTree, attribute, keyword, structure, SpecTrees, no_specs, spec_and, FieldTree, field, FieldTrees, no_fields, field_and}
use Rattle.pt_tree.specs.ExpressionTree.{ExprTree, name, constant, prefix, cast, postfix, chain, choice, assign, ExprTrees, no_exprs, expr_and, LinkTree, link, LinkTrees, no_links, link_and, PostfixTree, index, call, dot, arrow, increment, decrement, PostfixTrees, no_postfixes, postfix_and}
use Rattle.pt_tree.specs.StatementTree.{InitTree, no_init, single, braces, InitDeclaratorTree, DeclarationTree, LabelTree, case_label, default_label, ForInitTree, for_declare, for_nothing, for_expr, StmtTree, declare, block, nothing, evaluate, choose, while_true, do_while, for_each, give_back, stop_loop, next_turn, switch, ElseTree, no_else, otherwise, StmtTrees, no_stmts, stmt_and, SectionTree, section, SectionTrees, no_sections, section_and, BlockTree}
use Rattle.pt_tree.specs.ProgramTree.{ParamTree, FunctionTree, ItemTree, declares, function}
pub use Rattle.pt_base.specs.Spans.{nowhere}

abbrev pub word : Word → Word
word w = record w { span = nowhere }

abbrev pub number : Constant → Constant
number c = record c { span = nowhere }

abbrev pub suffix : Suffix → Suffix
suffix Plain = Plain
suffix Open = Open
suffix (Sized c) = Sized (number c)

abbrev pub declarator : Declarator → Declarator
declarator d = record { span = nowhere; pointer = d.pointer; name = word d.name; suffix = suffix d.suffix }

abbrev mutual
  pub spec : SpecTree → SpecTree
  spec (attribute at ws) = attribute nowhere (map word ws)
  spec (keyword at w) = keyword nowhere w
  spec (structure at tag fs) = structure nowhere (word tag) (fields fs)

  pub specs : SpecTrees → SpecTrees
  specs no_specs = no_specs
  specs (spec_and s rest) = spec_and (spec s) (specs rest)

  pub field_tree : FieldTree → FieldTree
  field_tree (field at ss ds) = field nowhere (specs ss) (map declarator ds)

  pub fields : FieldTrees → FieldTrees
  fields no_fields = no_fields
  fields (field_and f rest) = field_and (field_tree f) (fields rest)

abbrev mutual
  pub expr : ExprTree → ExprTree
  expr (name w) = name (word w)
  expr (constant c) = constant (number c)
  expr (prefix at op a) = prefix nowhere op (expr a)
  expr (cast at ss pointer a) = cast nowhere (specs ss) pointer (expr a)
  expr (postfix at a ps) = postfix nowhere (expr a) (postfixes ps)
  expr (chain at a ls) = chain nowhere (expr a) (links ls)
  expr (choice at a b c) = choice nowhere (expr a) (expr b) (expr c)
  expr (assign at op a b) = assign nowhere op (expr a) (expr b)

  pub exprs : ExprTrees → ExprTrees
  exprs no_exprs = no_exprs
  exprs (expr_and e rest) = expr_and (expr e) (exprs rest)

  pub link_tree : LinkTree → LinkTree
  link_tree (link at op b) = link nowhere op (expr b)

  pub links : LinkTrees → LinkTrees
  links no_links = no_links
  links (link_and l rest) = link_and (link_tree l) (links rest)

  pub postfix_tree : PostfixTree → PostfixTree
  postfix_tree (index at e) = index nowhere (expr e)
  postfix_tree (call at given) = call nowhere (exprs given)
  postfix_tree (dot at w) = dot nowhere (word w)
  postfix_tree (arrow at w) = arrow nowhere (word w)
  postfix_tree (increment at) = increment nowhere
  postfix_tree (decrement at) = decrement nowhere

  pub postfixes : PostfixTrees → PostfixTrees
  postfixes no_postfixes = no_postfixes
  postfixes (postfix_and p rest) = postfix_and (postfix_tree p) (postfixes rest)

abbrev pub init : InitTree → InitTree
init no_init = no_init
init (single e) = single (expr e)
init (braces at items) = braces nowhere (exprs items)

abbrev pub init_declarator : InitDeclaratorTree → InitDeclaratorTree
init_declarator d = record { declarator = declarator d.declarator; init = init d.init }

abbrev pub declaration : DeclarationTree → DeclarationTree
declaration d = record { span = nowhere; specs = specs d.specs; declarators = map init_declarator d.declarators }

abbrev pub label : LabelTree → LabelTree
label (case_label at e) = case_label nowhere (expr e)
label (default_label at) = default_label nowhere

abbrev pub for_init : ForInitTree → ForInitTree
for_init (for_declare d) = for_declare (declaration d)
for_init for_nothing = for_nothing
for_init (for_expr e) = for_expr (expr e)

abbrev mutual
  pub stmt : StmtTree → StmtTree
  stmt (declare d) = declare (declaration d)
  stmt (block at items) = block nowhere (stmts items)
  stmt (nothing at) = nothing nowhere
  stmt (evaluate at e) = evaluate nowhere (expr e)
  stmt (choose at e a b) = choose nowhere (expr e) (stmt a) (else_tree b)
  stmt (while_true at e a) = while_true nowhere (expr e) (stmt a)
  stmt (do_while at a e) = do_while nowhere (stmt a) (expr e)
  stmt (for_each at i b c a) = for_each nowhere (for_init i) (option_map expr b) (option_map expr c) (stmt a)
  stmt (give_back at e) = give_back nowhere (option_map expr e)
  stmt (stop_loop at) = stop_loop nowhere
  stmt (next_turn at) = next_turn nowhere
  stmt (switch at e ss) = switch nowhere (expr e) (sections ss)

  pub else_tree : ElseTree → ElseTree
  else_tree no_else = no_else
  else_tree (otherwise a) = otherwise (stmt a)

  pub stmts : StmtTrees → StmtTrees
  stmts no_stmts = no_stmts
  stmts (stmt_and s rest) = stmt_and (stmt s) (stmts rest)

  pub section_tree : SectionTree → SectionTree
  section_tree (section at l items) = section nowhere (label l) (stmts items)

  pub sections : SectionTrees → SectionTrees
  sections no_sections = no_sections
  sections (section_and s rest) = section_and (section_tree s) (sections rest)

abbrev pub block_tree : BlockTree → BlockTree
block_tree b = record { span = nowhere; items = map stmt b.items }

abbrev pub param : ParamTree → ParamTree
param p = record { span = nowhere; specs = specs p.specs; pointer = p.pointer; name = option_map word p.name; suffix = suffix p.suffix }

abbrev pub function_tree : FunctionTree → FunctionTree
function_tree f = record { span = nowhere; specs = specs f.specs; declarator = declarator f.declarator; params = map param f.params; body = option_map block_tree f.body }

abbrev pub item : ItemTree → ItemTree
item (declares d) = declares (declaration d)
item (function f) = function (function_tree f)
