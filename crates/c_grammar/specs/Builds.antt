-- What the rules build: the parts on top give way to what they make up.
use Rattle.std.specs.Prelude.{List, [], ◌∷◌, ◌++◌, Option, None, Some, true, false}
use Rattle.pt_base.specs.declared.span.Span.{Span}
use Rattle.pt_tree.specs.declared.operator.BinaryOp.{BinaryOp}
use Rattle.pt_tree.specs.declared.operator.PrefixOp.{PrefixOp}
use Rattle.pt_tree.specs.declared.specifier.SpecWord.{SpecWord}
use Rattle.pt_tree.specs.declared.specifier.Suffix.TheVariants.{Plain, Open, Sized}
use Rattle.pt_tree.specs.SpecifierTree as t
use Rattle.pt_tree.specs.SpecifierTree.{attribute, structure, spec_trees, field_trees}
use Rattle.pt_tree.specs.ExpressionTree as v
use Rattle.pt_tree.specs.ExpressionTree.{ExprTree, LinkTree, PostfixTree, constant, prefix, cast, choice, assign, index, call, dot, arrow, increment, decrement, link, expr_trees, link_trees, postfix_trees}
use Rattle.pt_tree.specs.StatementTree as u
use Rattle.pt_tree.specs.StatementTree.{no_init, single, braces, case_label, default_label, for_declare, for_expr, declare, evaluate, choose, while_true, do_while, for_each, give_back, stop_loop, next_turn, switch, stmt_trees, section_trees}
use Rattle.pt_tree.specs.ProgramTree.{declares, function}
use Rattle.c_grammar.specs.Part.{Part, word, number, absent, names, spec, specs, fields, field, pointer, suffix, declarator, declarators, init, init_declarators, a_rest, declaration, name, param, params, body, block, item, items, stmt, stmts, otherwise, for_init, label, section, sections, expr, exprs, maybe_expr, assign_op, assignment, arms, prefix_op, links, postfixes, cast_of, group_of}

-- an operand with what stands behind it, if anything does
abbrev pub postfixed : Span → ExprTree → List PostfixTree → ExprTree
postfixed at e [] = e
postfixed at e (p ∷ ps) = v.postfix at e (postfix_trees (p ∷ ps))

-- the operands of one level, if there are several
abbrev pub chained : Span → ExprTree → List LinkTree → ExprTree
chained at e [] = e
chained at e (l ∷ ls) = v.chain at e (link_trees (l ∷ ls))

abbrev pub add_item : Span → List Part → List Part
add_item at (item i ∷ items is ∷ ts) = items (is ++ i ∷ []) ∷ ts
add_item at ts = ts

abbrev pub an_item : Span → List Part → List Part
an_item at (init_declarators ds ∷ specs ss ∷ ts) = item (declares (record { span = at; specs = spec_trees ss; declarators = ds })) ∷ ts
an_item at (a_rest d ps b ∷ specs ss ∷ ts) = item (function (record { span = at; specs = spec_trees ss; declarator = d; params = ps; body = b })) ∷ ts
an_item at ts = ts

abbrev pub no_declarators : Span → List Part → List Part
no_declarators at ts = init_declarators [] ∷ ts

abbrev pub function_rest : Span → List Part → List Part
function_rest at (body b ∷ params ps ∷ declarator d ∷ ts) = a_rest d ps b ∷ ts
function_rest at ts = ts

abbrev pub first_init : Span → List Part → List Part
first_init at (init i ∷ declarator d ∷ ts) = init_declarators (record { declarator = d; init = i } ∷ []) ∷ ts
first_init at ts = ts

abbrev pub add_init : Span → List Part → List Part
add_init at (init i ∷ declarator d ∷ init_declarators ds ∷ ts) = init_declarators (ds ++ record { declarator = d; init = i } ∷ []) ∷ ts
add_init at ts = ts

abbrev pub no_body : Span → List Part → List Part
no_body at ts = body None ∷ ts

abbrev pub some_body : Span → List Part → List Part
some_body at (block b ∷ ts) = body (Some b) ∷ ts
some_body at ts = ts

abbrev pub first_spec : Span → List Part → List Part
first_spec at (spec s ∷ ts) = specs (s ∷ []) ∷ ts
first_spec at ts = ts

abbrev pub add_spec : Span → List Part → List Part
add_spec at (spec s ∷ specs ss ∷ ts) = specs (ss ++ s ∷ []) ∷ ts
add_spec at ts = ts

abbrev pub keyword : SpecWord → Span → List Part → List Part
keyword w at ts = spec (t.keyword at w) ∷ ts

abbrev pub first_name : Span → List Part → List Part
first_name at (word n ∷ ts) = names (n ∷ []) ∷ ts
first_name at ts = ts

abbrev pub add_name : Span → List Part → List Part
add_name at (word n ∷ names ns ∷ ts) = names (ns ++ n ∷ []) ∷ ts
add_name at ts = ts

abbrev pub an_attribute : Span → List Part → List Part
an_attribute at (names ns ∷ ts) = spec (attribute at ns) ∷ ts
an_attribute at ts = ts

abbrev pub a_struct : Span → List Part → List Part
a_struct at (fields fs ∷ word n ∷ ts) = spec (structure at n (field_trees fs)) ∷ ts
a_struct at ts = ts

abbrev pub first_field : Span → List Part → List Part
first_field at (field f ∷ ts) = fields (f ∷ []) ∷ ts
first_field at ts = ts

abbrev pub no_fields : Span → List Part → List Part
no_fields at ts = fields [] ∷ ts

abbrev pub add_field : Span → List Part → List Part
add_field at (field f ∷ fields fs ∷ ts) = fields (fs ++ f ∷ []) ∷ ts
add_field at ts = ts

abbrev pub first_declarator : Span → List Part → List Part
first_declarator at (declarator d ∷ ts) = declarators (d ∷ []) ∷ ts
first_declarator at ts = ts

abbrev pub add_declarator : Span → List Part → List Part
add_declarator at (declarator d ∷ declarators ds ∷ ts) = declarators (ds ++ d ∷ []) ∷ ts
add_declarator at ts = ts

abbrev pub a_field : Span → List Part → List Part
a_field at (declarators ds ∷ specs ss ∷ ts) = field (t.field at (spec_trees ss) ds) ∷ ts
a_field at ts = ts

abbrev pub a_declarator : Span → List Part → List Part
a_declarator at (suffix x ∷ word n ∷ pointer p ∷ ts) = declarator (record { span = at; pointer = p; name = n; suffix = x }) ∷ ts
a_declarator at ts = ts

abbrev pub star : Span → List Part → List Part
star at ts = pointer true ∷ ts

abbrev pub no_star : Span → List Part → List Part
no_star at ts = pointer false ∷ ts

abbrev pub no_suffix : Span → List Part → List Part
no_suffix at ts = suffix Plain ∷ ts

abbrev pub a_size : Span → List Part → List Part
a_size at (number c ∷ ts) = suffix (Sized c) ∷ ts
a_size at ts = ts

abbrev pub no_size : Span → List Part → List Part
no_size at ts = suffix Open ∷ ts

abbrev pub no_value : Span → List Part → List Part
no_value at ts = init no_init ∷ ts

abbrev pub single_value : Span → List Part → List Part
single_value at (expr e ∷ ts) = init (single e) ∷ ts
single_value at ts = ts

abbrev pub brace_list : Span → List Part → List Part
brace_list at (exprs es ∷ ts) = init (braces at (expr_trees es)) ∷ ts
brace_list at ts = ts

abbrev pub first_expr : Span → List Part → List Part
first_expr at (expr e ∷ ts) = exprs (e ∷ []) ∷ ts
first_expr at ts = ts

abbrev pub add_expr : Span → List Part → List Part
add_expr at (expr e ∷ exprs es ∷ ts) = exprs (es ++ e ∷ []) ∷ ts
add_expr at ts = ts

abbrev pub no_exprs : Span → List Part → List Part
no_exprs at ts = exprs [] ∷ ts

abbrev pub first_param : Span → List Part → List Part
first_param at (param p ∷ ts) = params (p ∷ []) ∷ ts
first_param at ts = ts

abbrev pub no_params : Span → List Part → List Part
no_params at ts = params [] ∷ ts

abbrev pub add_param : Span → List Part → List Part
add_param at (param p ∷ params ps ∷ ts) = params (ps ++ p ∷ []) ∷ ts
add_param at ts = ts

abbrev pub a_param : Span → List Part → List Part
a_param at (suffix x ∷ name n ∷ pointer p ∷ specs ss ∷ ts) = param (record { span = at; specs = spec_trees ss; pointer = p; name = n; suffix = x }) ∷ ts
a_param at ts = ts

abbrev pub some_name : Span → List Part → List Part
some_name at (word n ∷ ts) = name (Some n) ∷ ts
some_name at ts = ts

abbrev pub no_name : Span → List Part → List Part
no_name at ts = name None ∷ ts

abbrev pub no_statements : Span → List Part → List Part
no_statements at ts = stmts [] ∷ ts

abbrev pub a_block : Span → List Part → List Part
a_block at (stmts ss ∷ ts) = block (record { span = at; items = ss }) ∷ ts
a_block at ts = ts

abbrev pub add_statement : Span → List Part → List Part
add_statement at (stmt s ∷ stmts ss ∷ ts) = stmts (ss ++ s ∷ []) ∷ ts
add_statement at ts = ts

abbrev pub declared : Span → List Part → List Part
declared at (declaration d ∷ ts) = stmt (declare d) ∷ ts
declared at ts = ts

abbrev pub a_declaration : Span → List Part → List Part
a_declaration at (init_declarators ds ∷ specs ss ∷ ts) = declaration (record { span = at; specs = spec_trees ss; declarators = ds }) ∷ ts
a_declaration at ts = ts

abbrev pub block_statement : Span → List Part → List Part
block_statement at (block b ∷ ts) = stmt (u.block b.span (stmt_trees b.items)) ∷ ts
block_statement at ts = ts

abbrev pub nothing : Span → List Part → List Part
nothing at ts = stmt (u.nothing at) ∷ ts

abbrev pub evaluated : Span → List Part → List Part
evaluated at (expr e ∷ ts) = stmt (evaluate at e) ∷ ts
evaluated at ts = ts

abbrev pub chosen : Span → List Part → List Part
chosen at (otherwise o ∷ stmt s ∷ expr e ∷ ts) = stmt (choose at e s o) ∷ ts
chosen at ts = ts

abbrev pub some_else : Span → List Part → List Part
some_else at (stmt s ∷ ts) = otherwise (u.otherwise s) ∷ ts
some_else at ts = ts

abbrev pub no_else : Span → List Part → List Part
no_else at ts = otherwise u.no_else ∷ ts

abbrev pub while_statement : Span → List Part → List Part
while_statement at (stmt s ∷ expr e ∷ ts) = stmt (while_true at e s) ∷ ts
while_statement at ts = ts

abbrev pub do_statement : Span → List Part → List Part
do_statement at (expr e ∷ stmt s ∷ ts) = stmt (do_while at s e) ∷ ts
do_statement at ts = ts

abbrev pub for_statement : Span → List Part → List Part
for_statement at (stmt s ∷ maybe_expr c ∷ maybe_expr b ∷ for_init a ∷ ts) = stmt (for_each at a b c s) ∷ ts
for_statement at ts = ts

abbrev pub for_declaration : Span → List Part → List Part
for_declaration at (declaration d ∷ ts) = for_init (for_declare d) ∷ ts
for_declaration at ts = ts

abbrev pub for_nothing : Span → List Part → List Part
for_nothing at ts = for_init u.for_nothing ∷ ts

abbrev pub for_expression : Span → List Part → List Part
for_expression at (expr e ∷ ts) = for_init (for_expr e) ∷ ts
for_expression at ts = ts

abbrev pub returned : Span → List Part → List Part
returned at (maybe_expr e ∷ ts) = stmt (give_back at e) ∷ ts
returned at ts = ts

abbrev pub broken : Span → List Part → List Part
broken at ts = stmt (stop_loop at) ∷ ts

abbrev pub continued : Span → List Part → List Part
continued at ts = stmt (next_turn at) ∷ ts

abbrev pub switch_statement : Span → List Part → List Part
switch_statement at (sections ss ∷ expr e ∷ ts) = stmt (switch at e (section_trees ss)) ∷ ts
switch_statement at ts = ts

abbrev pub no_sections : Span → List Part → List Part
no_sections at ts = sections [] ∷ ts

abbrev pub add_section : Span → List Part → List Part
add_section at (section s ∷ sections ss ∷ ts) = sections (ss ++ s ∷ []) ∷ ts
add_section at ts = ts

abbrev pub a_section : Span → List Part → List Part
a_section at (stmts ss ∷ label l ∷ ts) = section (u.section at l (stmt_trees ss)) ∷ ts
a_section at ts = ts

abbrev pub a_case : Span → List Part → List Part
a_case at (expr e ∷ ts) = label (case_label at e) ∷ ts
a_case at ts = ts

abbrev pub a_default : Span → List Part → List Part
a_default at ts = label (default_label at) ∷ ts

abbrev pub some_expr : Span → List Part → List Part
some_expr at (expr e ∷ ts) = maybe_expr (Some e) ∷ ts
some_expr at ts = ts

abbrev pub no_expr : Span → List Part → List Part
no_expr at ts = maybe_expr None ∷ ts

abbrev pub assigned : Span → List Part → List Part
assigned at (absent ∷ expr e ∷ ts) = expr e ∷ ts
assigned at (assignment op v ∷ expr e ∷ ts) = expr (assign at op e v) ∷ ts
assigned at ts = ts

abbrev pub some_assignment : Span → List Part → List Part
some_assignment at (expr e ∷ assign_op op ∷ ts) = assignment op e ∷ ts
some_assignment at ts = ts

abbrev pub no_assignment : Span → List Part → List Part
no_assignment at ts = absent ∷ ts

abbrev pub conditional : Span → List Part → List Part
conditional at (absent ∷ expr e ∷ ts) = expr e ∷ ts
conditional at (arms a b ∷ expr e ∷ ts) = expr (choice at e a b) ∷ ts
conditional at ts = ts

abbrev pub some_arms : Span → List Part → List Part
some_arms at (expr b ∷ expr a ∷ ts) = arms a b ∷ ts
some_arms at ts = ts

abbrev pub no_arms : Span → List Part → List Part
no_arms at ts = absent ∷ ts

abbrev pub in_parentheses : Span → List Part → List Part
in_parentheses at (cast_of ss p e ∷ ts) = expr (cast at (spec_trees ss) p e) ∷ ts
in_parentheses at (group_of e ps ∷ ts) = expr (postfixed at e ps) ∷ ts
in_parentheses at ts = ts

abbrev pub prefixed : Span → List Part → List Part
prefixed at (expr e ∷ prefix_op op ∷ ts) = expr (prefix at op e) ∷ ts
prefixed at ts = ts

abbrev pub stepped : PrefixOp → Span → List Part → List Part
stepped op at (expr e ∷ ts) = expr (prefix at op e) ∷ ts
stepped op at ts = ts

abbrev pub with_postfixes : Span → List Part → List Part
with_postfixes at (postfixes ps ∷ expr e ∷ ts) = expr (postfixed at e ps) ∷ ts
with_postfixes at ts = ts

abbrev pub no_postfixes : Span → List Part → List Part
no_postfixes at ts = postfixes [] ∷ ts

abbrev pub a_cast : Span → List Part → List Part
a_cast at (expr e ∷ pointer p ∷ specs ss ∷ ts) = cast_of ss p e ∷ ts
a_cast at ts = ts

abbrev pub grouped : Span → List Part → List Part
grouped at (postfixes ps ∷ expr e ∷ ts) = group_of e ps ∷ ts
grouped at ts = ts

abbrev pub add_index : Span → List Part → List Part
add_index at (expr e ∷ postfixes ps ∷ ts) = postfixes (ps ++ index at e ∷ []) ∷ ts
add_index at ts = ts

abbrev pub add_call : Span → List Part → List Part
add_call at (exprs es ∷ postfixes ps ∷ ts) = postfixes (ps ++ call at (expr_trees es) ∷ []) ∷ ts
add_call at ts = ts

abbrev pub add_dot : Span → List Part → List Part
add_dot at (word n ∷ postfixes ps ∷ ts) = postfixes (ps ++ dot at n ∷ []) ∷ ts
add_dot at ts = ts

abbrev pub add_arrow : Span → List Part → List Part
add_arrow at (word n ∷ postfixes ps ∷ ts) = postfixes (ps ++ arrow at n ∷ []) ∷ ts
add_arrow at ts = ts

abbrev pub add_increment : Span → List Part → List Part
add_increment at (postfixes ps ∷ ts) = postfixes (ps ++ increment at ∷ []) ∷ ts
add_increment at ts = ts

abbrev pub add_decrement : Span → List Part → List Part
add_decrement at (postfixes ps ∷ ts) = postfixes (ps ++ decrement at ∷ []) ∷ ts
add_decrement at ts = ts

abbrev pub a_name : Span → List Part → List Part
a_name at (word n ∷ ts) = expr (v.name n) ∷ ts
a_name at ts = ts

abbrev pub a_constant : Span → List Part → List Part
a_constant at (number c ∷ ts) = expr (constant c) ∷ ts
a_constant at ts = ts

abbrev pub assigning : Option BinaryOp → Span → List Part → List Part
assigning op at ts = assign_op op ∷ ts

abbrev pub operator : PrefixOp → Span → List Part → List Part
operator op at ts = prefix_op op ∷ ts

abbrev pub no_links : Span → List Part → List Part
no_links at ts = links [] ∷ ts

abbrev pub add_link : BinaryOp → Span → List Part → List Part
add_link op at (expr e ∷ links ls ∷ ts) = links (ls ++ link at op e ∷ []) ∷ ts
add_link op at ts = ts

abbrev pub chain_of : Span → List Part → List Part
chain_of at (links ls ∷ expr e ∷ ts) = expr (chained at e ls) ∷ ts
chain_of at ts = ts
