-- What each building action makes of the sorts of parts: where the parts on top are of the sorts that it
-- takes, it leaves one part of the sort that it gives.
use Rattle.std.proofs.Common.{◌≡◌, ℕ, List, [], ◌∷◌, ◌++◌, true, Option}
use Rattle.pt_base.specs.declared.span.Span.{Span}
use Rattle.pt_base.proofs.Booleans.{false_not_true}
use Rattle.pt_tree.specs.declared.operator.BinaryOp.{BinaryOp}
use Rattle.pt_tree.specs.declared.operator.PrefixOp.{PrefixOp}
use Rattle.pt_tree.specs.declared.specifier.SpecWord.{SpecWord}
use Rattle.c_grammar.specs.Part.{Part, word, number, absent, names, spec, specs, fields, field, pointer, suffix, declarator, declarators, init, init_declarators, a_rest, declaration, name, param, params, body, block, item, items, stmt, stmts, otherwise, for_init, label, section, sections, expr, exprs, maybe_expr, assign_op, assignment, arms, prefix_op, links, postfixes, cast_of, group_of}
use Rattle.c_grammar.specs.Builds.{add_item, an_item, no_declarators, function_rest, first_init, add_init, no_body, some_body, first_spec, add_spec, keyword, first_name, add_name, an_attribute, a_struct, first_field, no_fields, add_field, first_declarator, add_declarator, a_field, a_declarator, star, no_star, no_suffix, no_size, a_size, no_value, single_value, brace_list, first_expr, add_expr, no_exprs, first_param, no_params, add_param, a_param, some_name, no_name, no_statements, a_block, add_statement, declared, a_declaration, block_statement, nothing, broken, continued, evaluated, chosen, some_else, no_else, while_statement, do_statement, for_statement, for_declaration, for_nothing, for_expression, returned, switch_statement, no_sections, add_section, a_section, a_case, a_default, some_expr, no_expr, assigned, some_assignment, no_assignment, conditional, some_arms, no_arms, in_parentheses, prefixed, stepped, with_postfixes, no_postfixes, a_cast, grouped, add_index, add_call, add_dot, add_arrow, add_increment, add_decrement, a_name, a_constant, assigning, operator, no_links, add_link, chain_of}
use Rattle.front_end_law.proofs.ParsesSorts.{shaped, item_sort, items_sort, item_rest_sort, specs_sort, inits_sort, body_sort, params_sort, declarator_sort, init_sort, block_sort, spec_sort, word_sort, names_sort, fields_sort, field_sort, declarators_sort, suffix_sort, pointer_sort, number_sort, expr_sort, exprs_sort, param_sort, name_sort, stmts_sort, stmt_sort, declaration_sort, otherwise_sort, maybe_expr_sort, for_init_sort, sections_sort, section_sort, label_sort, assign_tail_sort, assign_op_sort, cond_tail_sort, parens_sort, prefix_op_sort, postfixes_sort, links_sort}

abbrev pub Builds : List ℕ → ℕ → (Span → List Part → List Part) → Type 0
Builds takes gives f = (at : Span) (rs : List ℕ) (ts : List Part) → shaped (takes ++ rs) ts ≡ true → shaped (gives ∷ rs) (f at ts) ≡ true

pub add_item_shapes : Builds (item_sort ∷ items_sort ∷ []) items_sort add_item
add_item_shapes at rs (item i ∷ items is ∷ ts) h = h
add_item_shapes at rs ts h = false_not_true h

pub an_item_shapes : Builds (item_rest_sort ∷ specs_sort ∷ []) item_sort an_item
an_item_shapes at rs (init_declarators ds ∷ specs ss ∷ ts) h = h
an_item_shapes at rs (a_rest d ps b ∷ specs ss ∷ ts) h = h
an_item_shapes at rs ts h = false_not_true h

pub no_declarators_shapes : Builds ([]) inits_sort no_declarators
no_declarators_shapes at rs ts h = h

pub function_rest_shapes : Builds (body_sort ∷ params_sort ∷ declarator_sort ∷ []) item_rest_sort function_rest
function_rest_shapes at rs (body b ∷ params ps ∷ declarator d ∷ ts) h = h
function_rest_shapes at rs ts h = false_not_true h

pub first_init_shapes : Builds (init_sort ∷ declarator_sort ∷ []) inits_sort first_init
first_init_shapes at rs (init i ∷ declarator d ∷ ts) h = h
first_init_shapes at rs ts h = false_not_true h

pub add_init_shapes : Builds (init_sort ∷ declarator_sort ∷ inits_sort ∷ []) inits_sort add_init
add_init_shapes at rs (init i ∷ declarator d ∷ init_declarators ds ∷ ts) h = h
add_init_shapes at rs ts h = false_not_true h

pub no_body_shapes : Builds ([]) body_sort no_body
no_body_shapes at rs ts h = h

pub some_body_shapes : Builds (block_sort ∷ []) body_sort some_body
some_body_shapes at rs (block b ∷ ts) h = h
some_body_shapes at rs ts h = false_not_true h

pub first_spec_shapes : Builds (spec_sort ∷ []) specs_sort first_spec
first_spec_shapes at rs (spec s ∷ ts) h = h
first_spec_shapes at rs ts h = false_not_true h

pub add_spec_shapes : Builds (spec_sort ∷ specs_sort ∷ []) specs_sort add_spec
add_spec_shapes at rs (spec s ∷ specs ss ∷ ts) h = h
add_spec_shapes at rs ts h = false_not_true h

pub keyword_shapes : (op : SpecWord) → Builds ([]) spec_sort (keyword op)
keyword_shapes op at rs ts h = h

pub first_name_shapes : Builds (word_sort ∷ []) names_sort first_name
first_name_shapes at rs (word n ∷ ts) h = h
first_name_shapes at rs ts h = false_not_true h

pub add_name_shapes : Builds (word_sort ∷ names_sort ∷ []) names_sort add_name
add_name_shapes at rs (word n ∷ names ns ∷ ts) h = h
add_name_shapes at rs ts h = false_not_true h

pub an_attribute_shapes : Builds (names_sort ∷ []) spec_sort an_attribute
an_attribute_shapes at rs (names ns ∷ ts) h = h
an_attribute_shapes at rs ts h = false_not_true h

pub a_struct_shapes : Builds (fields_sort ∷ word_sort ∷ []) spec_sort a_struct
a_struct_shapes at rs (fields fs ∷ word n ∷ ts) h = h
a_struct_shapes at rs ts h = false_not_true h

pub first_field_shapes : Builds (field_sort ∷ []) fields_sort first_field
first_field_shapes at rs (field f ∷ ts) h = h
first_field_shapes at rs ts h = false_not_true h

pub no_fields_shapes : Builds ([]) fields_sort no_fields
no_fields_shapes at rs ts h = h

pub add_field_shapes : Builds (field_sort ∷ fields_sort ∷ []) fields_sort add_field
add_field_shapes at rs (field f ∷ fields fs ∷ ts) h = h
add_field_shapes at rs ts h = false_not_true h

pub first_declarator_shapes : Builds (declarator_sort ∷ []) declarators_sort first_declarator
first_declarator_shapes at rs (declarator d ∷ ts) h = h
first_declarator_shapes at rs ts h = false_not_true h

pub add_declarator_shapes : Builds (declarator_sort ∷ declarators_sort ∷ []) declarators_sort add_declarator
add_declarator_shapes at rs (declarator d ∷ declarators ds ∷ ts) h = h
add_declarator_shapes at rs ts h = false_not_true h

pub a_field_shapes : Builds (declarators_sort ∷ specs_sort ∷ []) field_sort a_field
a_field_shapes at rs (declarators ds ∷ specs ss ∷ ts) h = h
a_field_shapes at rs ts h = false_not_true h

pub a_declarator_shapes : Builds (suffix_sort ∷ word_sort ∷ pointer_sort ∷ []) declarator_sort a_declarator
a_declarator_shapes at rs (suffix x ∷ word n ∷ pointer p ∷ ts) h = h
a_declarator_shapes at rs ts h = false_not_true h

pub star_shapes : Builds ([]) pointer_sort star
star_shapes at rs ts h = h

pub no_star_shapes : Builds ([]) pointer_sort no_star
no_star_shapes at rs ts h = h

pub no_suffix_shapes : Builds ([]) suffix_sort no_suffix
no_suffix_shapes at rs ts h = h

pub no_size_shapes : Builds ([]) suffix_sort no_size
no_size_shapes at rs ts h = h

pub a_size_shapes : Builds (number_sort ∷ []) suffix_sort a_size
a_size_shapes at rs (number c ∷ ts) h = h
a_size_shapes at rs ts h = false_not_true h

pub no_value_shapes : Builds ([]) init_sort no_value
no_value_shapes at rs ts h = h

pub single_value_shapes : Builds (expr_sort ∷ []) init_sort single_value
single_value_shapes at rs (expr e ∷ ts) h = h
single_value_shapes at rs ts h = false_not_true h

pub brace_list_shapes : Builds (exprs_sort ∷ []) init_sort brace_list
brace_list_shapes at rs (exprs es ∷ ts) h = h
brace_list_shapes at rs ts h = false_not_true h

pub first_expr_shapes : Builds (expr_sort ∷ []) exprs_sort first_expr
first_expr_shapes at rs (expr e ∷ ts) h = h
first_expr_shapes at rs ts h = false_not_true h

pub add_expr_shapes : Builds (expr_sort ∷ exprs_sort ∷ []) exprs_sort add_expr
add_expr_shapes at rs (expr e ∷ exprs es ∷ ts) h = h
add_expr_shapes at rs ts h = false_not_true h

pub no_exprs_shapes : Builds ([]) exprs_sort no_exprs
no_exprs_shapes at rs ts h = h

pub first_param_shapes : Builds (param_sort ∷ []) params_sort first_param
first_param_shapes at rs (param p ∷ ts) h = h
first_param_shapes at rs ts h = false_not_true h

pub no_params_shapes : Builds ([]) params_sort no_params
no_params_shapes at rs ts h = h

pub add_param_shapes : Builds (param_sort ∷ params_sort ∷ []) params_sort add_param
add_param_shapes at rs (param p ∷ params ps ∷ ts) h = h
add_param_shapes at rs ts h = false_not_true h

pub a_param_shapes : Builds (suffix_sort ∷ name_sort ∷ pointer_sort ∷ specs_sort ∷ []) param_sort a_param
a_param_shapes at rs (suffix x ∷ name n ∷ pointer p ∷ specs ss ∷ ts) h = h
a_param_shapes at rs ts h = false_not_true h

pub some_name_shapes : Builds (word_sort ∷ []) name_sort some_name
some_name_shapes at rs (word n ∷ ts) h = h
some_name_shapes at rs ts h = false_not_true h

pub no_name_shapes : Builds ([]) name_sort no_name
no_name_shapes at rs ts h = h

pub no_statements_shapes : Builds ([]) stmts_sort no_statements
no_statements_shapes at rs ts h = h

pub a_block_shapes : Builds (stmts_sort ∷ []) block_sort a_block
a_block_shapes at rs (stmts ss ∷ ts) h = h
a_block_shapes at rs ts h = false_not_true h

pub add_statement_shapes : Builds (stmt_sort ∷ stmts_sort ∷ []) stmts_sort add_statement
add_statement_shapes at rs (stmt s ∷ stmts ss ∷ ts) h = h
add_statement_shapes at rs ts h = false_not_true h

pub declared_shapes : Builds (declaration_sort ∷ []) stmt_sort declared
declared_shapes at rs (declaration d ∷ ts) h = h
declared_shapes at rs ts h = false_not_true h

pub a_declaration_shapes : Builds (inits_sort ∷ specs_sort ∷ []) declaration_sort a_declaration
a_declaration_shapes at rs (init_declarators ds ∷ specs ss ∷ ts) h = h
a_declaration_shapes at rs ts h = false_not_true h

pub block_statement_shapes : Builds (block_sort ∷ []) stmt_sort block_statement
block_statement_shapes at rs (block b ∷ ts) h = h
block_statement_shapes at rs ts h = false_not_true h

pub nothing_shapes : Builds ([]) stmt_sort nothing
nothing_shapes at rs ts h = h

pub broken_shapes : Builds ([]) stmt_sort broken
broken_shapes at rs ts h = h

pub continued_shapes : Builds ([]) stmt_sort continued
continued_shapes at rs ts h = h

pub evaluated_shapes : Builds (expr_sort ∷ []) stmt_sort evaluated
evaluated_shapes at rs (expr e ∷ ts) h = h
evaluated_shapes at rs ts h = false_not_true h

pub chosen_shapes : Builds (otherwise_sort ∷ stmt_sort ∷ expr_sort ∷ []) stmt_sort chosen
chosen_shapes at rs (otherwise o ∷ stmt s ∷ expr e ∷ ts) h = h
chosen_shapes at rs ts h = false_not_true h

pub some_else_shapes : Builds (stmt_sort ∷ []) otherwise_sort some_else
some_else_shapes at rs (stmt s ∷ ts) h = h
some_else_shapes at rs ts h = false_not_true h

pub no_else_shapes : Builds ([]) otherwise_sort no_else
no_else_shapes at rs ts h = h

pub while_statement_shapes : Builds (stmt_sort ∷ expr_sort ∷ []) stmt_sort while_statement
while_statement_shapes at rs (stmt s ∷ expr e ∷ ts) h = h
while_statement_shapes at rs ts h = false_not_true h

pub do_statement_shapes : Builds (expr_sort ∷ stmt_sort ∷ []) stmt_sort do_statement
do_statement_shapes at rs (expr e ∷ stmt s ∷ ts) h = h
do_statement_shapes at rs ts h = false_not_true h

pub for_statement_shapes : Builds (stmt_sort ∷ maybe_expr_sort ∷ maybe_expr_sort ∷ for_init_sort ∷ []) stmt_sort for_statement
for_statement_shapes at rs (stmt s ∷ maybe_expr c ∷ maybe_expr b ∷ for_init a ∷ ts) h = h
for_statement_shapes at rs ts h = false_not_true h

pub for_declaration_shapes : Builds (declaration_sort ∷ []) for_init_sort for_declaration
for_declaration_shapes at rs (declaration d ∷ ts) h = h
for_declaration_shapes at rs ts h = false_not_true h

pub for_nothing_shapes : Builds ([]) for_init_sort for_nothing
for_nothing_shapes at rs ts h = h

pub for_expression_shapes : Builds (expr_sort ∷ []) for_init_sort for_expression
for_expression_shapes at rs (expr e ∷ ts) h = h
for_expression_shapes at rs ts h = false_not_true h

pub returned_shapes : Builds (maybe_expr_sort ∷ []) stmt_sort returned
returned_shapes at rs (maybe_expr e ∷ ts) h = h
returned_shapes at rs ts h = false_not_true h

pub switch_statement_shapes : Builds (sections_sort ∷ expr_sort ∷ []) stmt_sort switch_statement
switch_statement_shapes at rs (sections ss ∷ expr e ∷ ts) h = h
switch_statement_shapes at rs ts h = false_not_true h

pub no_sections_shapes : Builds ([]) sections_sort no_sections
no_sections_shapes at rs ts h = h

pub add_section_shapes : Builds (section_sort ∷ sections_sort ∷ []) sections_sort add_section
add_section_shapes at rs (section s ∷ sections ss ∷ ts) h = h
add_section_shapes at rs ts h = false_not_true h

pub a_section_shapes : Builds (stmts_sort ∷ label_sort ∷ []) section_sort a_section
a_section_shapes at rs (stmts ss ∷ label l ∷ ts) h = h
a_section_shapes at rs ts h = false_not_true h

pub a_case_shapes : Builds (expr_sort ∷ []) label_sort a_case
a_case_shapes at rs (expr e ∷ ts) h = h
a_case_shapes at rs ts h = false_not_true h

pub a_default_shapes : Builds ([]) label_sort a_default
a_default_shapes at rs ts h = h

pub some_expr_shapes : Builds (expr_sort ∷ []) maybe_expr_sort some_expr
some_expr_shapes at rs (expr e ∷ ts) h = h
some_expr_shapes at rs ts h = false_not_true h

pub no_expr_shapes : Builds ([]) maybe_expr_sort no_expr
no_expr_shapes at rs ts h = h

pub assigned_shapes : Builds (assign_tail_sort ∷ expr_sort ∷ []) expr_sort assigned
assigned_shapes at rs (absent ∷ expr e ∷ ts) h = h
assigned_shapes at rs (assignment op v ∷ expr e ∷ ts) h = h
assigned_shapes at rs ts h = false_not_true h

pub some_assignment_shapes : Builds (expr_sort ∷ assign_op_sort ∷ []) assign_tail_sort some_assignment
some_assignment_shapes at rs (expr e ∷ assign_op op ∷ ts) h = h
some_assignment_shapes at rs ts h = false_not_true h

pub no_assignment_shapes : Builds ([]) assign_tail_sort no_assignment
no_assignment_shapes at rs ts h = h

pub conditional_shapes : Builds (cond_tail_sort ∷ expr_sort ∷ []) expr_sort conditional
conditional_shapes at rs (absent ∷ expr e ∷ ts) h = h
conditional_shapes at rs (arms a b ∷ expr e ∷ ts) h = h
conditional_shapes at rs ts h = false_not_true h

pub some_arms_shapes : Builds (expr_sort ∷ expr_sort ∷ []) cond_tail_sort some_arms
some_arms_shapes at rs (expr b ∷ expr a ∷ ts) h = h
some_arms_shapes at rs ts h = false_not_true h

pub no_arms_shapes : Builds ([]) cond_tail_sort no_arms
no_arms_shapes at rs ts h = h

pub in_parentheses_shapes : Builds (parens_sort ∷ []) expr_sort in_parentheses
in_parentheses_shapes at rs (cast_of ss p e ∷ ts) h = h
in_parentheses_shapes at rs (group_of e ps ∷ ts) h = h
in_parentheses_shapes at rs ts h = false_not_true h

pub prefixed_shapes : Builds (expr_sort ∷ prefix_op_sort ∷ []) expr_sort prefixed
prefixed_shapes at rs (expr e ∷ prefix_op op ∷ ts) h = h
prefixed_shapes at rs ts h = false_not_true h

pub stepped_shapes : (op : PrefixOp) → Builds (expr_sort ∷ []) expr_sort (stepped op)
stepped_shapes op at rs (expr e ∷ ts) h = h
stepped_shapes op at rs ts h = false_not_true h

pub with_postfixes_shapes : Builds (postfixes_sort ∷ expr_sort ∷ []) expr_sort with_postfixes
with_postfixes_shapes at rs (postfixes ps ∷ expr e ∷ ts) h = h
with_postfixes_shapes at rs ts h = false_not_true h

pub no_postfixes_shapes : Builds ([]) postfixes_sort no_postfixes
no_postfixes_shapes at rs ts h = h

pub a_cast_shapes : Builds (expr_sort ∷ pointer_sort ∷ specs_sort ∷ []) parens_sort a_cast
a_cast_shapes at rs (expr e ∷ pointer p ∷ specs ss ∷ ts) h = h
a_cast_shapes at rs ts h = false_not_true h

pub grouped_shapes : Builds (postfixes_sort ∷ expr_sort ∷ []) parens_sort grouped
grouped_shapes at rs (postfixes ps ∷ expr e ∷ ts) h = h
grouped_shapes at rs ts h = false_not_true h

pub add_index_shapes : Builds (expr_sort ∷ postfixes_sort ∷ []) postfixes_sort add_index
add_index_shapes at rs (expr e ∷ postfixes ps ∷ ts) h = h
add_index_shapes at rs ts h = false_not_true h

pub add_call_shapes : Builds (exprs_sort ∷ postfixes_sort ∷ []) postfixes_sort add_call
add_call_shapes at rs (exprs es ∷ postfixes ps ∷ ts) h = h
add_call_shapes at rs ts h = false_not_true h

pub add_dot_shapes : Builds (word_sort ∷ postfixes_sort ∷ []) postfixes_sort add_dot
add_dot_shapes at rs (word n ∷ postfixes ps ∷ ts) h = h
add_dot_shapes at rs ts h = false_not_true h

pub add_arrow_shapes : Builds (word_sort ∷ postfixes_sort ∷ []) postfixes_sort add_arrow
add_arrow_shapes at rs (word n ∷ postfixes ps ∷ ts) h = h
add_arrow_shapes at rs ts h = false_not_true h

pub add_increment_shapes : Builds (postfixes_sort ∷ []) postfixes_sort add_increment
add_increment_shapes at rs (postfixes ps ∷ ts) h = h
add_increment_shapes at rs ts h = false_not_true h

pub add_decrement_shapes : Builds (postfixes_sort ∷ []) postfixes_sort add_decrement
add_decrement_shapes at rs (postfixes ps ∷ ts) h = h
add_decrement_shapes at rs ts h = false_not_true h

pub a_name_shapes : Builds (word_sort ∷ []) expr_sort a_name
a_name_shapes at rs (word n ∷ ts) h = h
a_name_shapes at rs ts h = false_not_true h

pub a_constant_shapes : Builds (number_sort ∷ []) expr_sort a_constant
a_constant_shapes at rs (number c ∷ ts) h = h
a_constant_shapes at rs ts h = false_not_true h

pub assigning_shapes : (op : Option BinaryOp) → Builds ([]) assign_op_sort (assigning op)
assigning_shapes op at rs ts h = h

pub operator_shapes : (op : PrefixOp) → Builds ([]) prefix_op_sort (operator op)
operator_shapes op at rs ts h = h

pub no_links_shapes : Builds ([]) links_sort no_links
no_links_shapes at rs ts h = h

pub add_link_shapes : (op : BinaryOp) → Builds (expr_sort ∷ links_sort ∷ []) links_sort (add_link op)
add_link_shapes op at rs (expr e ∷ links ls ∷ ts) h = h
add_link_shapes op at rs ts h = false_not_true h

pub chain_of_shapes : Builds (links_sort ∷ expr_sort ∷ []) expr_sort chain_of
chain_of_shapes at rs (links ls ∷ expr e ∷ ts) h = h
chain_of_shapes at rs ts h = false_not_true h
