-- The parts that the parser's trees are.
use Rattle.std.specs.Prelude.{Bool, List, [], ◌∷◌, Option, map, option_map, Vec, ℕ, ◌++◌, Result, Ok, Err, Some, None}
use Rattle.std.specs.declared.alloc.Global.{Global}
use Rattle.pt_tree.specs.declared.word.Word.{Word}
use Rattle.pt_tree.specs.declared.word.Constant.{Constant}
use Rattle.pt_tree.specs.declared.specifier.Declarator.{Declarator}
use Rattle.pt_tree.specs.declared.specifier.Suffix.{Suffix}
use Rattle.pt_tree.specs.declared.specifier.Spec.{Spec}
use Rattle.pt_tree.specs.declared.specifier.FieldDecl.{FieldDecl}
use Rattle.pt_tree.specs.SpecifierTree.{view_spec, view_field}
use Rattle.pt_tree.specs.declared.operator.BinaryOp.{BinaryOp}
use Rattle.pt_tree.specs.declared.operator.PrefixOp.{PrefixOp}
use Rattle.pt_tree.specs.declared.expression.Expr.{Expr}
use Rattle.pt_tree.specs.declared.expression.Link.{Link}
use Rattle.pt_tree.specs.declared.expression.Postfix.{Postfix}
use Rattle.pt_tree.specs.ExpressionTree.{PostfixTree, view_expr, view_link, view_postfix}
use Rattle.c_lexer.specs.declared.token.Token.{Token}
use Rattle.c_grammar.specs.declared.symbol.Symbol.TheVariants.{Postfixes}
use Rattle.c_grammar.specs.Machine.{Entry, gives, Outcome}
use Rattle.c_parser.specs.declared.error.ParseError.{ParseError}
use Rattle.c_parser.specs.declared.parsed.Parsed.{Parsed}
use Rattle.c_parser.specs.Parses.{Comes, Fails}
use Rattle.pt_tree.specs.declared.declaration.Initializer.{Initializer}
use Rattle.pt_tree.specs.declared.declaration.InitDeclarator.{InitDeclarator}
use Rattle.pt_tree.specs.declared.declaration.Declaration.{Declaration}
use Rattle.pt_tree.specs.declared.statement.Stmt.{Stmt}
use Rattle.pt_tree.specs.declared.statement.Block.{Block}
use Rattle.pt_tree.specs.declared.statement.Section.{Section}
use Rattle.pt_tree.specs.declared.statement.Label.{Label}
use Rattle.pt_tree.specs.declared.statement.ForInit.{ForInit}
use Rattle.pt_tree.specs.declared.program.ParamDecl.{ParamDecl}
use Rattle.pt_tree.specs.declared.program.Item.{Item}
use Rattle.pt_tree.specs.StatementTree as t
use Rattle.pt_tree.specs.StatementTree.{ElseTree, no_else, view_declaration, view_init, view_init_declarator, view_stmt, view_block, view_for_init, view_label, view_section}
use Rattle.pt_tree.specs.ProgramTree.{view_param, view_item}
use Rattle.c_grammar.specs.Part.{declaration, init, init_declarators, param, params, stmt, stmts, block, otherwise, for_init, maybe_expr, label, section, sections, body, item, items, assign_op, prefix_op, expr, exprs, links, postfixes, Part, word, number, pointer, suffix, declarator, declarators, name, names, spec, specs, field, fields}

abbrev pub a_word : Word → List Part
a_word w = word w ∷ []

abbrev pub a_number : Constant → List Part
a_number c = number c ∷ []

abbrev pub of_pointer : Bool → List Part
of_pointer b = pointer b ∷ []

abbrev pub of_suffix : Suffix → List Part
of_suffix s = suffix s ∷ []

abbrev pub of_name : Option Word → List Part
of_name n = name n ∷ []

abbrev pub of_declarator : Declarator → List Part
of_declarator d = declarator d ∷ []

abbrev pub of_declarators : Vec Declarator Global → List Part
of_declarators ds = declarators ds.items ∷ []

abbrev pub of_names : Vec Word Global → List Part
of_names ns = names ns.items ∷ []

abbrev pub of_spec : Spec → List Part
of_spec s = spec (view_spec s) ∷ []

abbrev pub of_specs : Vec Spec Global → List Part
of_specs ss = specs (map view_spec ss.items) ∷ []

abbrev pub of_field : FieldDecl → List Part
of_field f = field (view_field f) ∷ []

abbrev pub of_fields : Vec FieldDecl Global → List Part
of_fields fs = fields (map view_field fs.items) ∷ []

abbrev pub of_assign_op : Option BinaryOp → List Part
of_assign_op op = assign_op op ∷ []

abbrev pub of_prefix_op : PrefixOp → List Part
of_prefix_op op = prefix_op op ∷ []

abbrev pub of_expr : Expr → List Part
of_expr e = expr (view_expr e) ∷ []

abbrev pub of_exprs : Vec Expr Global → List Part
of_exprs es = exprs (map view_expr es.items) ∷ []

abbrev pub of_links : Vec Link Global → List Part
of_links ls = links (map view_link ls.items) ∷ []

abbrev pub of_postfixes : Vec Postfix Global → List Part
of_postfixes ps = postfixes (map view_postfix ps.items) ∷ []

-- one more postfix stands behind an operand, and then perhaps others
pub record Lengthens (tokens : List Token) (entries : List Entry) (at depth : ℕ) (p : PostfixTree) (next : ℕ) : Type 0 where
  pub from : (ps : List PostfixTree) (rest : List Entry) (parts : List Part) (o : Outcome) → Comes tokens (gives Postfixes ∷ rest) next depth (postfixes (ps ++ p ∷ []) ∷ parts) o → Comes tokens (entries ++ rest) at depth (postfixes ps ∷ parts) o

-- none does
pub record Ends (tokens : List Token) (entries : List Entry) (at depth : ℕ) : Type 0 where
  pub from : (rest : List Entry) (parts : List Part) (o : Outcome) → Comes tokens rest at depth parts o → Comes tokens (entries ++ rest) at depth parts o

abbrev pub Adds : List Token → List Entry → ℕ → ℕ → Result (Option (Parsed Postfix)) ParseError → Type 0
Adds tokens es at depth (Ok None) = Ends tokens es at depth
Adds tokens es at depth (Ok (Some p)) = Lengthens tokens es at depth (view_postfix p.tree) p.next
Adds tokens es at depth (Err err) = (ps : List PostfixTree) → Fails tokens es at depth (postfixes ps ∷ []) err

abbrev pub of_declaration : Declaration → List Part
of_declaration d = declaration (view_declaration d) ∷ []

abbrev pub of_init : Option Initializer → List Part
of_init i = init (view_init i) ∷ []

abbrev pub of_initializer : Initializer → List Part
of_initializer i = init (view_init (Some i)) ∷ []

abbrev pub of_inits : Vec InitDeclarator Global → List Part
of_inits ds = init_declarators (map view_init_declarator ds.items) ∷ []

abbrev pub of_param : ParamDecl → List Part
of_param p = param (view_param p) ∷ []

abbrev pub of_params : Vec ParamDecl Global → List Part
of_params ps = params (map view_param ps.items) ∷ []

abbrev pub of_stmt : Stmt → List Part
of_stmt s = stmt (view_stmt s) ∷ []

abbrev pub of_stmts : Vec Stmt Global → List Part
of_stmts ss = stmts (map view_stmt ss.items) ∷ []

abbrev pub of_block : Block → List Part
of_block b = block (view_block b) ∷ []

abbrev pub else_tree : Option Stmt → ElseTree
else_tree None = no_else
else_tree (Some s) = t.otherwise (view_stmt s)

abbrev pub of_else : Option Stmt → List Part
of_else o = otherwise (else_tree o) ∷ []

abbrev pub of_for_init : ForInit → List Part
of_for_init i = for_init (view_for_init i) ∷ []

abbrev pub of_maybe_expr : Option Expr → List Part
of_maybe_expr e = maybe_expr (option_map view_expr e) ∷ []

abbrev pub of_label : Label → List Part
of_label l = label (view_label l) ∷ []

abbrev pub of_section : Section → List Part
of_section s = section (view_section s) ∷ []

abbrev pub of_sections : Vec Section Global → List Part
of_sections ss = sections (map view_section ss.items) ∷ []

abbrev pub of_body : Option Block → List Part
of_body b = body (option_map view_block b) ∷ []

abbrev pub of_item : Item → List Part
of_item i = item (view_item i) ∷ []

abbrev pub of_items : Vec Item Global → List Part
of_items is = items (map view_item is.items) ∷ []
