-- Each building action keeps names that are identifiers: a function's name is a word of the text.
use Rattle.std.proofs.Common.{List, ◌∷◌, Option, refl}
use Rattle.pt_base.specs.declared.span.Span.{Span}
use Rattle.pt_tree.specs.declared.operator.BinaryOp.{BinaryOp}
use Rattle.pt_tree.specs.declared.operator.PrefixOp.{PrefixOp}
use Rattle.pt_tree.specs.declared.specifier.SpecWord.{SpecWord}
use Rattle.c_grammar.specs.Part.{Part, a_rest, absent, arms, assign_op, assignment, block, body, cast_of, declaration, declarator, declarators, expr, exprs, field, fields, for_init, group_of, init, init_declarators, item, items, label, links, maybe_expr, name, names, number, otherwise, param, params, pointer, postfixes, prefix_op, section, sections, spec, specs, stmt, stmts, suffix, word}
use Rattle.c_grammar.specs.Builds.{add_item, an_item, no_declarators, function_rest, first_init, add_init, no_body, some_body, first_spec, add_spec, keyword, first_name, add_name, an_attribute, a_struct, first_field, no_fields, add_field, first_declarator, add_declarator, a_field, a_declarator, star, no_star, no_suffix, a_size, no_size, no_value, single_value, brace_list, first_expr, add_expr, no_exprs, first_param, no_params, add_param, a_param, some_name, no_name, no_statements, a_block, add_statement, declared, a_declaration, block_statement, nothing, evaluated, chosen, some_else, no_else, while_statement, do_statement, for_statement, for_declaration, for_nothing, for_expression, returned, broken, continued, switch_statement, no_sections, add_section, a_section, a_case, a_default, some_expr, no_expr, assigned, some_assignment, no_assignment, conditional, some_arms, no_arms, in_parentheses, prefixed, stepped, with_postfixes, no_postfixes, a_cast, grouped, add_index, add_call, add_dot, add_arrow, add_increment, add_decrement, a_name, a_constant, assigning, operator, no_links, add_link, chain_of}
use Rattle.plain_names_law.proofs.PartNames.{Named, item_added}

abbrev pub Keeps : (Span → List Part → List Part) → Type 0
Keeps f = (at : Span) (ts : List Part) → Named ts → Named (f at ts)

pub add_item_keeps : Keeps add_item
add_item_keeps at (item i ∷ items is ∷ ts) h = (item_added is i h.1.0 h.0, h.1.1)
add_item_keeps at ts h = h

pub an_item_keeps : Keeps an_item
an_item_keeps at (init_declarators ds ∷ specs ss ∷ ts) h = (refl, h.1.1)
an_item_keeps at (a_rest d ps b ∷ specs ss ∷ ts) h = (h.0, h.1.1)
an_item_keeps at ts h = h

pub no_declarators_keeps : Keeps no_declarators
no_declarators_keeps at ts h = (refl, h)

pub function_rest_keeps : Keeps function_rest
function_rest_keeps at (body b ∷ params ps ∷ declarator d ∷ ts) h = (h.1.1.0, h.1.1.1)
function_rest_keeps at ts h = h

pub first_init_keeps : Keeps first_init
first_init_keeps at (init i ∷ declarator d ∷ ts) h = (refl, h.1.1)
first_init_keeps at ts h = h

pub add_init_keeps : Keeps add_init
add_init_keeps at (init i ∷ declarator d ∷ init_declarators ds ∷ ts) h = (refl, h.1.1.1)
add_init_keeps at ts h = h

pub no_body_keeps : Keeps no_body
no_body_keeps at ts h = (refl, h)

pub some_body_keeps : Keeps some_body
some_body_keeps at (block b ∷ ts) h = (refl, h.1)
some_body_keeps at ts h = h

pub first_spec_keeps : Keeps first_spec
first_spec_keeps at (spec s ∷ ts) h = (refl, h.1)
first_spec_keeps at ts h = h

pub add_spec_keeps : Keeps add_spec
add_spec_keeps at (spec s ∷ specs ss ∷ ts) h = (refl, h.1.1)
add_spec_keeps at ts h = h

pub keyword_keeps : (w : SpecWord) → Keeps (keyword w)
keyword_keeps w at ts h = (refl, h)

pub first_name_keeps : Keeps first_name
first_name_keeps at (word n ∷ ts) h = (refl, h.1)
first_name_keeps at ts h = h

pub add_name_keeps : Keeps add_name
add_name_keeps at (word n ∷ names ns ∷ ts) h = (refl, h.1.1)
add_name_keeps at ts h = h

pub an_attribute_keeps : Keeps an_attribute
an_attribute_keeps at (names ns ∷ ts) h = (refl, h.1)
an_attribute_keeps at ts h = h

pub a_struct_keeps : Keeps a_struct
a_struct_keeps at (fields fs ∷ word n ∷ ts) h = (refl, h.1.1)
a_struct_keeps at ts h = h

pub first_field_keeps : Keeps first_field
first_field_keeps at (field f ∷ ts) h = (refl, h.1)
first_field_keeps at ts h = h

pub no_fields_keeps : Keeps no_fields
no_fields_keeps at ts h = (refl, h)

pub add_field_keeps : Keeps add_field
add_field_keeps at (field f ∷ fields fs ∷ ts) h = (refl, h.1.1)
add_field_keeps at ts h = h

pub first_declarator_keeps : Keeps first_declarator
first_declarator_keeps at (declarator d ∷ ts) h = (refl, h.1)
first_declarator_keeps at ts h = h

pub add_declarator_keeps : Keeps add_declarator
add_declarator_keeps at (declarator d ∷ declarators ds ∷ ts) h = (refl, h.1.1)
add_declarator_keeps at ts h = h

pub a_field_keeps : Keeps a_field
a_field_keeps at (declarators ds ∷ specs ss ∷ ts) h = (refl, h.1.1)
a_field_keeps at ts h = h

pub a_declarator_keeps : Keeps a_declarator
a_declarator_keeps at (suffix x ∷ word n ∷ pointer p ∷ ts) h = (h.1.0, h.1.1.1)
a_declarator_keeps at ts h = h

pub star_keeps : Keeps star
star_keeps at ts h = (refl, h)

pub no_star_keeps : Keeps no_star
no_star_keeps at ts h = (refl, h)

pub no_suffix_keeps : Keeps no_suffix
no_suffix_keeps at ts h = (refl, h)

pub a_size_keeps : Keeps a_size
a_size_keeps at (number c ∷ ts) h = (refl, h.1)
a_size_keeps at ts h = h

pub no_size_keeps : Keeps no_size
no_size_keeps at ts h = (refl, h)

pub no_value_keeps : Keeps no_value
no_value_keeps at ts h = (refl, h)

pub single_value_keeps : Keeps single_value
single_value_keeps at (expr e ∷ ts) h = (refl, h.1)
single_value_keeps at ts h = h

pub brace_list_keeps : Keeps brace_list
brace_list_keeps at (exprs es ∷ ts) h = (refl, h.1)
brace_list_keeps at ts h = h

pub first_expr_keeps : Keeps first_expr
first_expr_keeps at (expr e ∷ ts) h = (refl, h.1)
first_expr_keeps at ts h = h

pub add_expr_keeps : Keeps add_expr
add_expr_keeps at (expr e ∷ exprs es ∷ ts) h = (refl, h.1.1)
add_expr_keeps at ts h = h

pub no_exprs_keeps : Keeps no_exprs
no_exprs_keeps at ts h = (refl, h)

pub first_param_keeps : Keeps first_param
first_param_keeps at (param p ∷ ts) h = (refl, h.1)
first_param_keeps at ts h = h

pub no_params_keeps : Keeps no_params
no_params_keeps at ts h = (refl, h)

pub add_param_keeps : Keeps add_param
add_param_keeps at (param p ∷ params ps ∷ ts) h = (refl, h.1.1)
add_param_keeps at ts h = h

pub a_param_keeps : Keeps a_param
a_param_keeps at (suffix x ∷ name n ∷ pointer p ∷ specs ss ∷ ts) h = (refl, h.1.1.1.1)
a_param_keeps at ts h = h

pub some_name_keeps : Keeps some_name
some_name_keeps at (word n ∷ ts) h = (refl, h.1)
some_name_keeps at ts h = h

pub no_name_keeps : Keeps no_name
no_name_keeps at ts h = (refl, h)

pub no_statements_keeps : Keeps no_statements
no_statements_keeps at ts h = (refl, h)

pub a_block_keeps : Keeps a_block
a_block_keeps at (stmts ss ∷ ts) h = (refl, h.1)
a_block_keeps at ts h = h

pub add_statement_keeps : Keeps add_statement
add_statement_keeps at (stmt s ∷ stmts ss ∷ ts) h = (refl, h.1.1)
add_statement_keeps at ts h = h

pub declared_keeps : Keeps declared
declared_keeps at (declaration d ∷ ts) h = (refl, h.1)
declared_keeps at ts h = h

pub a_declaration_keeps : Keeps a_declaration
a_declaration_keeps at (init_declarators ds ∷ specs ss ∷ ts) h = (refl, h.1.1)
a_declaration_keeps at ts h = h

pub block_statement_keeps : Keeps block_statement
block_statement_keeps at (block b ∷ ts) h = (refl, h.1)
block_statement_keeps at ts h = h

pub nothing_keeps : Keeps nothing
nothing_keeps at ts h = (refl, h)

pub evaluated_keeps : Keeps evaluated
evaluated_keeps at (expr e ∷ ts) h = (refl, h.1)
evaluated_keeps at ts h = h

pub chosen_keeps : Keeps chosen
chosen_keeps at (otherwise o ∷ stmt s ∷ expr e ∷ ts) h = (refl, h.1.1.1)
chosen_keeps at ts h = h

pub some_else_keeps : Keeps some_else
some_else_keeps at (stmt s ∷ ts) h = (refl, h.1)
some_else_keeps at ts h = h

pub no_else_keeps : Keeps no_else
no_else_keeps at ts h = (refl, h)

pub while_statement_keeps : Keeps while_statement
while_statement_keeps at (stmt s ∷ expr e ∷ ts) h = (refl, h.1.1)
while_statement_keeps at ts h = h

pub do_statement_keeps : Keeps do_statement
do_statement_keeps at (expr e ∷ stmt s ∷ ts) h = (refl, h.1.1)
do_statement_keeps at ts h = h

pub for_statement_keeps : Keeps for_statement
for_statement_keeps at (stmt s ∷ maybe_expr c ∷ maybe_expr b ∷ for_init a ∷ ts) h = (refl, h.1.1.1.1)
for_statement_keeps at ts h = h

pub for_declaration_keeps : Keeps for_declaration
for_declaration_keeps at (declaration d ∷ ts) h = (refl, h.1)
for_declaration_keeps at ts h = h

pub for_nothing_keeps : Keeps for_nothing
for_nothing_keeps at ts h = (refl, h)

pub for_expression_keeps : Keeps for_expression
for_expression_keeps at (expr e ∷ ts) h = (refl, h.1)
for_expression_keeps at ts h = h

pub returned_keeps : Keeps returned
returned_keeps at (maybe_expr e ∷ ts) h = (refl, h.1)
returned_keeps at ts h = h

pub broken_keeps : Keeps broken
broken_keeps at ts h = (refl, h)

pub continued_keeps : Keeps continued
continued_keeps at ts h = (refl, h)

pub switch_statement_keeps : Keeps switch_statement
switch_statement_keeps at (sections ss ∷ expr e ∷ ts) h = (refl, h.1.1)
switch_statement_keeps at ts h = h

pub no_sections_keeps : Keeps no_sections
no_sections_keeps at ts h = (refl, h)

pub add_section_keeps : Keeps add_section
add_section_keeps at (section s ∷ sections ss ∷ ts) h = (refl, h.1.1)
add_section_keeps at ts h = h

pub a_section_keeps : Keeps a_section
a_section_keeps at (stmts ss ∷ label l ∷ ts) h = (refl, h.1.1)
a_section_keeps at ts h = h

pub a_case_keeps : Keeps a_case
a_case_keeps at (expr e ∷ ts) h = (refl, h.1)
a_case_keeps at ts h = h

pub a_default_keeps : Keeps a_default
a_default_keeps at ts h = (refl, h)

pub some_expr_keeps : Keeps some_expr
some_expr_keeps at (expr e ∷ ts) h = (refl, h.1)
some_expr_keeps at ts h = h

pub no_expr_keeps : Keeps no_expr
no_expr_keeps at ts h = (refl, h)

pub assigned_keeps : Keeps assigned
assigned_keeps at (absent ∷ expr e ∷ ts) h = (refl, h.1.1)
assigned_keeps at (assignment op v ∷ expr e ∷ ts) h = (refl, h.1.1)
assigned_keeps at ts h = h

pub some_assignment_keeps : Keeps some_assignment
some_assignment_keeps at (expr e ∷ assign_op op ∷ ts) h = (refl, h.1.1)
some_assignment_keeps at ts h = h

pub no_assignment_keeps : Keeps no_assignment
no_assignment_keeps at ts h = (refl, h)

pub conditional_keeps : Keeps conditional
conditional_keeps at (absent ∷ expr e ∷ ts) h = (refl, h.1.1)
conditional_keeps at (arms a b ∷ expr e ∷ ts) h = (refl, h.1.1)
conditional_keeps at ts h = h

pub some_arms_keeps : Keeps some_arms
some_arms_keeps at (expr b ∷ expr a ∷ ts) h = (refl, h.1.1)
some_arms_keeps at ts h = h

pub no_arms_keeps : Keeps no_arms
no_arms_keeps at ts h = (refl, h)

pub in_parentheses_keeps : Keeps in_parentheses
in_parentheses_keeps at (cast_of ss p e ∷ ts) h = (refl, h.1)
in_parentheses_keeps at (group_of e ps ∷ ts) h = (refl, h.1)
in_parentheses_keeps at ts h = h

pub prefixed_keeps : Keeps prefixed
prefixed_keeps at (expr e ∷ prefix_op op ∷ ts) h = (refl, h.1.1)
prefixed_keeps at ts h = h

pub stepped_keeps : (op : PrefixOp) → Keeps (stepped op)
stepped_keeps op at (expr e ∷ ts) h = (refl, h.1)
stepped_keeps op at ts h = h

pub with_postfixes_keeps : Keeps with_postfixes
with_postfixes_keeps at (postfixes ps ∷ expr e ∷ ts) h = (refl, h.1.1)
with_postfixes_keeps at ts h = h

pub no_postfixes_keeps : Keeps no_postfixes
no_postfixes_keeps at ts h = (refl, h)

pub a_cast_keeps : Keeps a_cast
a_cast_keeps at (expr e ∷ pointer p ∷ specs ss ∷ ts) h = (refl, h.1.1.1)
a_cast_keeps at ts h = h

pub grouped_keeps : Keeps grouped
grouped_keeps at (postfixes ps ∷ expr e ∷ ts) h = (refl, h.1.1)
grouped_keeps at ts h = h

pub add_index_keeps : Keeps add_index
add_index_keeps at (expr e ∷ postfixes ps ∷ ts) h = (refl, h.1.1)
add_index_keeps at ts h = h

pub add_call_keeps : Keeps add_call
add_call_keeps at (exprs es ∷ postfixes ps ∷ ts) h = (refl, h.1.1)
add_call_keeps at ts h = h

pub add_dot_keeps : Keeps add_dot
add_dot_keeps at (word n ∷ postfixes ps ∷ ts) h = (refl, h.1.1)
add_dot_keeps at ts h = h

pub add_arrow_keeps : Keeps add_arrow
add_arrow_keeps at (word n ∷ postfixes ps ∷ ts) h = (refl, h.1.1)
add_arrow_keeps at ts h = h

pub add_increment_keeps : Keeps add_increment
add_increment_keeps at (postfixes ps ∷ ts) h = (refl, h.1)
add_increment_keeps at ts h = h

pub add_decrement_keeps : Keeps add_decrement
add_decrement_keeps at (postfixes ps ∷ ts) h = (refl, h.1)
add_decrement_keeps at ts h = h

pub a_name_keeps : Keeps a_name
a_name_keeps at (word n ∷ ts) h = (refl, h.1)
a_name_keeps at ts h = h

pub a_constant_keeps : Keeps a_constant
a_constant_keeps at (number c ∷ ts) h = (refl, h.1)
a_constant_keeps at ts h = h

pub assigning_keeps : (op : Option BinaryOp) → Keeps (assigning op)
assigning_keeps op at ts h = (refl, h)

pub operator_keeps : (op : PrefixOp) → Keeps (operator op)
operator_keeps op at ts h = (refl, h)

pub no_links_keeps : Keeps no_links
no_links_keeps at ts h = (refl, h)

pub add_link_keeps : (op : BinaryOp) → Keeps (add_link op)
add_link_keeps op at (expr e ∷ links ls ∷ ts) h = (refl, h.1.1)
add_link_keeps op at ts h = h

pub chain_of_keeps : Keeps chain_of
chain_of_keeps at (links ls ∷ expr e ∷ ts) h = (refl, h.1.1)
chain_of_keeps at ts h = h
