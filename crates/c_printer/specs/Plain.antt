-- Trees that a text can have, of the forms that the halves of a program have: no `for`, `do` or `switch`,
-- and a block wherever a statement hangs on a condition.
use Rattle.std.specs.Prelude.{ℕ, List, [], ◌∷◌, Bool, true, false, ◌&&◌, ◌==◌, not, Option, Some, None, is_some, int_le, pos}
use Rattle.std.specs.List.{list_all}
use Rattle.pt_base.specs.IntTypes.{high_of}
use Rattle.pt_base.specs.declared.int_type.IntType.{IntType}
use Rattle.pt_base.specs.declared.int_type.IntType.TheVariants.{Int, UInt, Long, ULong}
use Rattle.c_lexer.specs.Spelling.{keyword_of}
use Rattle.c_lexer.specs.Lexemes.{is_identifier}
use Rattle.pt_tree.specs.declared.operator.BinaryOp.{BinaryOp}
use Rattle.pt_tree.specs.declared.operator.BinaryOp.TheVariants.{BitOr, BitXor, BitAnd, ShiftLeft, ShiftRight, Add, Subtract, Multiply, Divide, Remainder}
use Rattle.pt_tree.specs.declared.word.Word.{Word}
use Rattle.pt_tree.specs.declared.word.Constant.{Constant}
use Rattle.pt_tree.specs.declared.specifier.Declarator.{Declarator}
use Rattle.pt_tree.specs.declared.specifier.Suffix.{Suffix}
use Rattle.pt_tree.specs.declared.specifier.Suffix.TheVariants.{Plain, Open, Sized}
use Rattle.pt_tree.specs.SpecifierTree.{SpecTree, attribute, keyword, structure, SpecTrees, no_specs, spec_and, FieldTree, field, FieldTrees, no_fields, field_and}
use Rattle.pt_tree.specs.ExpressionTree.{ExprTree, name, constant, prefix, cast, postfix, chain, choice, assign, ExprTrees, no_exprs, expr_and, LinkTree, link, LinkTrees, no_links, link_and, PostfixTree, index, call, dot, arrow, increment, decrement, PostfixTrees, no_postfixes, postfix_and}
use Rattle.pt_tree.specs.StatementTree.{InitTree, no_init, single, braces, InitDeclaratorTree, DeclarationTree, StmtTree, declare, block, nothing, evaluate, choose, while_true, do_while, for_each, give_back, stop_loop, next_turn, switch, ElseTree, no_else, otherwise, StmtTrees, no_stmts, stmt_and, BlockTree}
use Rattle.pt_tree.specs.ProgramTree.{ParamTree, FunctionTree, ItemTree, declares, function}
use Rattle.c_printer.specs.Kinds.{binding, chain_binding}
use Rattle.c_printer.specs.Statements.{is_block}

-- an identifier that is no keyword (C99 6.4.2.1)
abbrev pub is_name : List ℕ → Bool
is_name bytes = is_identifier bytes && not (is_some (keyword_of bytes))

abbrev pub word_plain : Word → Bool
word_plain w = is_name w.bytes

abbrev pub words_plain : List Word → Bool
words_plain [] = false
words_plain (w ∷ ws) = word_plain w && list_all word_plain ws

-- the types that decimal constants have (C99 6.4.4.1)
abbrev pub is_constant_type : IntType → Bool
is_constant_type Int = true
is_constant_type UInt = true
is_constant_type Long = true
is_constant_type ULong = true
is_constant_type t = false

abbrev pub constant_plain : Constant → Bool
constant_plain c = is_constant_type c.ty && (int_le (pos 0) c.value && int_le c.value (high_of c.ty))

abbrev pub suffix_plain : Suffix → Bool
suffix_plain Plain = true
suffix_plain Open = true
suffix_plain (Sized c) = constant_plain c

abbrev pub declarator_plain : Declarator → Bool
declarator_plain d = word_plain d.name && suffix_plain d.suffix

abbrev pub declarators_plain : List Declarator → Bool
declarators_plain [] = false
declarators_plain (d ∷ ds) = declarator_plain d && list_all declarator_plain ds

abbrev mutual
  pub spec_plain : SpecTree → Bool
  spec_plain (attribute at ws) = words_plain ws
  spec_plain (keyword at w) = true
  spec_plain (structure at tag fs) = word_plain tag && fields_plain fs

  -- each of them; there may be none
  pub each_spec_plain : SpecTrees → Bool
  each_spec_plain no_specs = true
  each_spec_plain (spec_and s rest) = spec_plain s && each_spec_plain rest

  -- at least one
  pub specs_plain : SpecTrees → Bool
  specs_plain no_specs = false
  specs_plain (spec_and s rest) = spec_plain s && each_spec_plain rest

  pub field_plain : FieldTree → Bool
  field_plain (field at ss ds) = specs_plain ss && declarators_plain ds

  pub fields_plain : FieldTrees → Bool
  fields_plain no_fields = true
  fields_plain (field_and f rest) = field_plain f && fields_plain rest

-- a compound assignment has one of these operators (C99 6.5.16)
abbrev pub assigns : Option BinaryOp → Bool
assigns None = true
assigns (Some BitOr) = true
assigns (Some BitXor) = true
assigns (Some BitAnd) = true
assigns (Some ShiftLeft) = true
assigns (Some ShiftRight) = true
assigns (Some Add) = true
assigns (Some Subtract) = true
assigns (Some Multiply) = true
assigns (Some Divide) = true
assigns (Some Remainder) = true
assigns op = false

abbrev pub has_postfixes : PostfixTrees → Bool
has_postfixes no_postfixes = false
has_postfixes (postfix_and p rest) = true

abbrev pub has_links : LinkTrees → Bool
has_links no_links = false
has_links (link_and l rest) = true

abbrev mutual
  pub expr_plain : ExprTree → Bool
  expr_plain (name w) = word_plain w
  expr_plain (constant c) = constant_plain c
  expr_plain (prefix at op a) = expr_plain a
  expr_plain (cast at ss pointer a) = specs_plain ss && expr_plain a
  expr_plain (postfix at a ps) = expr_plain a && (has_postfixes ps && postfixes_plain ps)
  -- the operators of one chain bind alike
  expr_plain (chain at a ls) = expr_plain a && (has_links ls && links_plain (chain_binding ls) ls)
  expr_plain (choice at a b c) = expr_plain a && (expr_plain b && expr_plain c)
  expr_plain (assign at op a b) = assigns op && (expr_plain a && expr_plain b)

  pub exprs_plain : ExprTrees → Bool
  exprs_plain no_exprs = true
  exprs_plain (expr_and e rest) = expr_plain e && exprs_plain rest

  pub links_plain : ℕ → LinkTrees → Bool
  links_plain tight no_links = true
  links_plain tight (link_and l rest) = link_plain tight l && links_plain tight rest

  pub link_plain : ℕ → LinkTree → Bool
  link_plain tight (link at op b) = (binding op == tight) && expr_plain b

  pub postfixes_plain : PostfixTrees → Bool
  postfixes_plain no_postfixes = true
  postfixes_plain (postfix_and p rest) = postfix_plain p && postfixes_plain rest

  pub postfix_plain : PostfixTree → Bool
  postfix_plain (index at e) = expr_plain e
  postfix_plain (call at given) = exprs_plain given
  postfix_plain (dot at w) = word_plain w
  postfix_plain (arrow at w) = word_plain w
  postfix_plain (increment at) = true
  postfix_plain (decrement at) = true

abbrev pub maybe_plain : Option ExprTree → Bool
maybe_plain None = true
maybe_plain (Some e) = expr_plain e

abbrev pub has_exprs : ExprTrees → Bool
has_exprs no_exprs = false
has_exprs (expr_and e rest) = true

abbrev pub init_plain : InitTree → Bool
init_plain no_init = true
init_plain (single e) = expr_plain e
init_plain (braces at items) = has_exprs items && exprs_plain items

abbrev pub init_declarator_plain : InitDeclaratorTree → Bool
init_declarator_plain d = declarator_plain d.declarator && init_plain d.init

abbrev pub declaration_plain : DeclarationTree → Bool
declaration_plain d = specs_plain d.specs && list_all init_declarator_plain d.declarators

abbrev mutual
  pub stmt_plain : StmtTree → Bool
  stmt_plain (declare d) = declaration_plain d
  stmt_plain (block at items) = stmts_plain items
  stmt_plain (nothing at) = true
  stmt_plain (evaluate at e) = expr_plain e
  stmt_plain (choose at e a b) = expr_plain e && (is_block a && (stmt_plain a && else_plain b))
  stmt_plain (while_true at e a) = expr_plain e && (is_block a && stmt_plain a)
  stmt_plain (do_while at a e) = false
  stmt_plain (for_each at i b c a) = false
  stmt_plain (give_back at e) = maybe_plain e
  stmt_plain (stop_loop at) = true
  stmt_plain (next_turn at) = true
  stmt_plain (switch at e ss) = false

  pub else_plain : ElseTree → Bool
  else_plain no_else = true
  else_plain (otherwise a) = is_block a && stmt_plain a

  pub stmts_plain : StmtTrees → Bool
  stmts_plain no_stmts = true
  stmts_plain (stmt_and s rest) = stmt_plain s && stmts_plain rest

-- a parameter's name may be left out
abbrev pub name_plain : Option Word → Bool
name_plain None = true
name_plain (Some w) = word_plain w

abbrev pub param_plain : ParamTree → Bool
param_plain p = specs_plain p.specs && (name_plain p.name && suffix_plain p.suffix)

abbrev pub body_plain : Option BlockTree → Bool
body_plain None = true
body_plain (Some b) = list_all stmt_plain b.items

abbrev pub function_plain : FunctionTree → Bool
function_plain f = specs_plain f.specs && (declarator_plain f.declarator && (list_all param_plain f.params && body_plain f.body))

abbrev pub item_plain : ItemTree → Bool
item_plain (declares d) = declaration_plain d
item_plain (function f) = function_plain f

abbrev pub items_plain : List ItemTree → Bool
items_plain items = list_all item_plain items
