-- What each building action does to the parts: how many nodes it makes at most, and that it keeps
-- their constants in range and their words short.
use Rattle.std.proofs.Common.{ℕ, ◌+◌, ◌≤◌, List, [], ◌∷◌, Option, true, ◌&&◌, refl, ◌∙◌, arith, length-append}
use Rattle.pt_base.specs.declared.span.Span.{Span}
use Rattle.pt_base.proofs.Booleans.{both_hold}
use Rattle.pt_tree.specs.declared.operator.BinaryOp.{BinaryOp}
use Rattle.pt_tree.specs.declared.operator.PrefixOp.{PrefixOp}
use Rattle.pt_tree.specs.declared.specifier.SpecWord.{SpecWord}
use Rattle.pt_tree.specs.SpecifierTree.{spec_trees, field_trees}
use Rattle.pt_tree.specs.ExpressionTree.{index, call, dot, arrow, increment, decrement, link, expr_trees}
use Rattle.pt_tree.specs.StatementTree.{stmt_trees, section_trees}
use Rattle.pt_tree.specs.Facts.{word_sound, name_sound, suffix_sound, declarator_sound, declarators_sound, spec_sound, specs_sound, field_sound, fields_sound, expr_sound, option_sound, init_sound, inits_sound, label_sound, for_init_sound, stmt_sound, else_sound, stmts_sound, sections_sound, params_sound, body_sound}
use Rattle.c_grammar.specs.Part.{Part, word, number, absent, names, spec, specs, fields, field, pointer, suffix, declarator, declarators, init, init_declarators, a_rest, declaration, name, param, params, body, block, item, items, stmt, stmts, otherwise, for_init, label, section, sections, expr, exprs, maybe_expr, assign_op, assignment, arms, prefix_op, links, postfixes, cast_of, group_of}
use Rattle.c_grammar.specs.Builds.{add_item, an_item, no_declarators, function_rest, first_init, add_init, no_body, some_body, first_spec, add_spec, keyword, first_name, add_name, an_attribute, a_struct, first_field, no_fields, add_field, first_declarator, add_declarator, a_field, a_declarator, star, no_star, no_suffix, a_size, no_size, no_value, single_value, brace_list, first_expr, add_expr, no_exprs, first_param, no_params, add_param, a_param, some_name, no_name, no_statements, a_block, add_statement, declared, a_declaration, block_statement, nothing, evaluated, chosen, some_else, no_else, while_statement, do_statement, for_statement, for_declaration, for_nothing, for_expression, returned, broken, continued, switch_statement, no_sections, add_section, a_section, a_case, a_default, some_expr, no_expr, assigned, some_assignment, no_assignment, conditional, some_arms, no_arms, in_parentheses, prefixed, stepped, with_postfixes, no_postfixes, a_cast, grouped, add_index, add_call, add_dot, add_arrow, add_increment, add_decrement, a_name, a_constant, assigning, operator, no_links, add_link, chain_of}
use Rattle.c_grammar.proofs.PartFacts.{parts_nodes, Sound, words_join, specs_add, specs_join, fields_add, fields_join, exprs_add, exprs_join, links_add, links_join, postfixes_add, postfixes_join, stmts_add, stmts_join, sections_add, sections_join, declarators_add, declarators_join, inits_add, inits_join, params_add, params_join, items_add, items_join, listed, postfixed_nodes, postfixed_sound, chained_nodes, chained_sound, node_over_one}

-- at most n nodes are new, the constants stay in range, and the words stay short
pub record Good (n : ℕ) (before after : List Part) : Type 0 where
  pub nodes : parts_nodes after ≤ n + parts_nodes before
  pub sound : Sound before → Sound after

abbrev pub Builds : ℕ → (Span → List Part → List Part) → Type 0
Builds n f = (at : Span) (ts : List Part) → Good n ts (f at ts)

kept : (n : ℕ) (ts : List Part) → Good n ts ts
kept n ts = record { nodes = omega arith; sound = λ h. h }

pub add_item_builds : Builds 0 add_item
add_item_builds at (item i ∷ items is ∷ ts) = record { nodes = omega (arith, items_add is i); sound = λ h. (items_join is i h.1.0 h.0, h.1.1) }
add_item_builds at ts = kept 0 ts

pub an_item_builds : Builds 1 an_item
an_item_builds at (init_declarators ds ∷ specs ss ∷ ts) = record { nodes = omega arith; sound = λ h. (both_hold (specs_sound (spec_trees ss)) (inits_sound ds) h.1.0 h.0, h.1.1) }
an_item_builds at (a_rest d ps b ∷ specs ss ∷ ts) = record { nodes = omega arith; sound = λ h. (both_hold (specs_sound (spec_trees ss) && declarator_sound d) (params_sound ps && body_sound b) (both_hold (specs_sound (spec_trees ss)) (declarator_sound d) h.1.0 h.0.0) (both_hold (params_sound ps) (body_sound b) h.0.1 h.0.2), h.1.1) }
an_item_builds at ts = kept 1 ts

pub no_declarators_builds : Builds 0 no_declarators
no_declarators_builds at ts = record { nodes = omega arith; sound = λ h. (refl, h) }

pub function_rest_builds : Builds 0 function_rest
function_rest_builds at (body b ∷ params ps ∷ declarator d ∷ ts) = record { nodes = omega arith; sound = λ h. ((h.1.1.0, h.1.0, h.0), h.1.1.1) }
function_rest_builds at ts = kept 0 ts

pub first_init_builds : Builds 0 first_init
first_init_builds at (init i ∷ declarator d ∷ ts) = record { nodes = omega arith; sound = λ h. (both_hold (declarator_sound d && init_sound i) (true) (both_hold (declarator_sound d) (init_sound i) h.1.0 h.0) refl, h.1.1) }
first_init_builds at ts = kept 0 ts

pub add_init_builds : Builds 0 add_init
add_init_builds at (init i ∷ declarator d ∷ init_declarators ds ∷ ts) = record { nodes = omega (arith, inits_add ds (record { declarator = d; init = i })); sound = λ h. (inits_join ds (record { declarator = d; init = i }) h.1.1.0 (both_hold (declarator_sound d) (init_sound i) h.1.0 h.0), h.1.1.1) }
add_init_builds at ts = kept 0 ts

pub no_body_builds : Builds 0 no_body
no_body_builds at ts = record { nodes = omega arith; sound = λ h. (refl, h) }

pub some_body_builds : Builds 0 some_body
some_body_builds at (block b ∷ ts) = record { nodes = omega arith; sound = λ h. (h.0, h.1) }
some_body_builds at ts = kept 0 ts

pub first_spec_builds : Builds 0 first_spec
first_spec_builds at (spec s ∷ ts) = record { nodes = omega arith; sound = λ h. (both_hold (spec_sound s) (true) h.0 refl, h.1) }
first_spec_builds at ts = kept 0 ts

pub add_spec_builds : Builds 0 add_spec
add_spec_builds at (spec s ∷ specs ss ∷ ts) = record { nodes = omega (arith, specs_add ss s); sound = λ h. (specs_join ss s h.1.0 h.0, h.1.1) }
add_spec_builds at ts = kept 0 ts

pub keyword_builds : (w : SpecWord) → Builds 1 (keyword w)
keyword_builds w at ts = record { nodes = omega arith; sound = λ h. (refl, h) }

pub first_name_builds : Builds 0 first_name
first_name_builds at (word n ∷ ts) = record { nodes = omega arith; sound = λ h. (both_hold (word_sound n) (true) h.0 refl, h.1) }
first_name_builds at ts = kept 0 ts

pub add_name_builds : Builds 0 add_name
add_name_builds at (word n ∷ names ns ∷ ts) = record { nodes = omega (arith, length-append ns (n ∷ [])); sound = λ h. (words_join ns n h.1.0 h.0, h.1.1) }
add_name_builds at ts = kept 0 ts

pub an_attribute_builds : Builds 1 an_attribute
an_attribute_builds at (names ns ∷ ts) = record { nodes = omega arith; sound = λ h. (h.0, h.1) }
an_attribute_builds at ts = kept 1 ts

pub a_struct_builds : Builds 1 a_struct
a_struct_builds at (fields fs ∷ word n ∷ ts) = record { nodes = omega arith; sound = λ h. (both_hold (word_sound n) (fields_sound (field_trees fs)) h.1.0 h.0, h.1.1) }
a_struct_builds at ts = kept 1 ts

pub first_field_builds : Builds 0 first_field
first_field_builds at (field f ∷ ts) = record { nodes = omega arith; sound = λ h. (both_hold (field_sound f) (true) h.0 refl, h.1) }
first_field_builds at ts = kept 0 ts

pub no_fields_builds : Builds 0 no_fields
no_fields_builds at ts = record { nodes = omega arith; sound = λ h. (refl, h) }

pub add_field_builds : Builds 0 add_field
add_field_builds at (field f ∷ fields fs ∷ ts) = record { nodes = omega (arith, fields_add fs f); sound = λ h. (fields_join fs f h.1.0 h.0, h.1.1) }
add_field_builds at ts = kept 0 ts

pub first_declarator_builds : Builds 0 first_declarator
first_declarator_builds at (declarator d ∷ ts) = record { nodes = omega arith; sound = λ h. (both_hold (declarator_sound d) (true) h.0 refl, h.1) }
first_declarator_builds at ts = kept 0 ts

pub add_declarator_builds : Builds 0 add_declarator
add_declarator_builds at (declarator d ∷ declarators ds ∷ ts) = record { nodes = omega (arith, declarators_add ds d); sound = λ h. (declarators_join ds d h.1.0 h.0, h.1.1) }
add_declarator_builds at ts = kept 0 ts

pub a_field_builds : Builds 1 a_field
a_field_builds at (declarators ds ∷ specs ss ∷ ts) = record { nodes = omega arith; sound = λ h. (both_hold (specs_sound (spec_trees ss)) (declarators_sound ds) h.1.0 h.0, h.1.1) }
a_field_builds at ts = kept 1 ts

pub a_declarator_builds : Builds 1 a_declarator
a_declarator_builds at (suffix x ∷ word n ∷ pointer p ∷ ts) = record { nodes = omega arith; sound = λ h. (both_hold (word_sound n) (suffix_sound x) h.1.0 h.0, h.1.1.1) }
a_declarator_builds at ts = kept 1 ts

pub star_builds : Builds 0 star
star_builds at ts = record { nodes = omega arith; sound = λ h. (tt, h) }

pub no_star_builds : Builds 0 no_star
no_star_builds at ts = record { nodes = omega arith; sound = λ h. (tt, h) }

pub no_suffix_builds : Builds 0 no_suffix
no_suffix_builds at ts = record { nodes = omega arith; sound = λ h. (refl, h) }

pub a_size_builds : Builds 0 a_size
a_size_builds at (number c ∷ ts) = record { nodes = omega arith; sound = λ h. (h.0, h.1) }
a_size_builds at ts = kept 0 ts

pub no_size_builds : Builds 0 no_size
no_size_builds at ts = record { nodes = omega arith; sound = λ h. (refl, h) }

pub no_value_builds : Builds 0 no_value
no_value_builds at ts = record { nodes = omega arith; sound = λ h. (refl, h) }

pub single_value_builds : Builds 0 single_value
single_value_builds at (expr e ∷ ts) = record { nodes = omega arith; sound = λ h. (h.0, h.1) }
single_value_builds at ts = kept 0 ts

pub brace_list_builds : Builds 1 brace_list
brace_list_builds at (exprs es ∷ ts) = record { nodes = omega arith; sound = λ h. (h.0, h.1) }
brace_list_builds at ts = kept 1 ts

pub first_expr_builds : Builds 0 first_expr
first_expr_builds at (expr e ∷ ts) = record { nodes = omega arith; sound = λ h. (both_hold (expr_sound e) (true) h.0 refl, h.1) }
first_expr_builds at ts = kept 0 ts

pub add_expr_builds : Builds 0 add_expr
add_expr_builds at (expr e ∷ exprs es ∷ ts) = record { nodes = omega (arith, exprs_add es e); sound = λ h. (exprs_join es e h.1.0 h.0, h.1.1) }
add_expr_builds at ts = kept 0 ts

pub no_exprs_builds : Builds 0 no_exprs
no_exprs_builds at ts = record { nodes = omega arith; sound = λ h. (refl, h) }

pub first_param_builds : Builds 0 first_param
first_param_builds at (param p ∷ ts) = record { nodes = omega arith; sound = λ h. (both_hold (specs_sound p.specs && (name_sound p.name && suffix_sound p.suffix)) (true) h.0 refl, h.1) }
first_param_builds at ts = kept 0 ts

pub no_params_builds : Builds 0 no_params
no_params_builds at ts = record { nodes = omega arith; sound = λ h. (refl, h) }

pub add_param_builds : Builds 0 add_param
add_param_builds at (param p ∷ params ps ∷ ts) = record { nodes = omega (arith, params_add ps p); sound = λ h. (params_join ps p h.1.0 h.0, h.1.1) }
add_param_builds at ts = kept 0 ts

pub a_param_builds : Builds 1 a_param
a_param_builds at (suffix x ∷ name n ∷ pointer p ∷ specs ss ∷ ts) = record { nodes = omega arith; sound = λ h. (both_hold (specs_sound (spec_trees ss)) (name_sound n && suffix_sound x) h.1.1.1.0 (both_hold (name_sound n) (suffix_sound x) h.1.0 h.0), h.1.1.1.1) }
a_param_builds at ts = kept 1 ts

pub some_name_builds : Builds 0 some_name
some_name_builds at (word n ∷ ts) = record { nodes = omega arith; sound = λ h. (h.0, h.1) }
some_name_builds at ts = kept 0 ts

pub no_name_builds : Builds 0 no_name
no_name_builds at ts = record { nodes = omega arith; sound = λ h. (refl, h) }

pub no_statements_builds : Builds 0 no_statements
no_statements_builds at ts = record { nodes = omega arith; sound = λ h. (refl, h) }

pub a_block_builds : Builds 1 a_block
a_block_builds at (stmts ss ∷ ts) = record { nodes = omega arith; sound = λ h. (h.0, h.1) }
a_block_builds at ts = kept 1 ts

pub add_statement_builds : Builds 0 add_statement
add_statement_builds at (stmt s ∷ stmts ss ∷ ts) = record { nodes = omega (arith, stmts_add ss s); sound = λ h. (stmts_join ss s h.1.0 h.0, h.1.1) }
add_statement_builds at ts = kept 0 ts

pub declared_builds : Builds 0 declared
declared_builds at (declaration d ∷ ts) = record { nodes = omega arith; sound = λ h. (h.0, h.1) }
declared_builds at ts = kept 0 ts

pub a_declaration_builds : Builds 1 a_declaration
a_declaration_builds at (init_declarators ds ∷ specs ss ∷ ts) = record { nodes = omega arith; sound = λ h. (both_hold (specs_sound (spec_trees ss)) (inits_sound ds) h.1.0 h.0, h.1.1) }
a_declaration_builds at ts = kept 1 ts

pub block_statement_builds : Builds 0 block_statement
block_statement_builds at (block b ∷ ts) = record { nodes = omega arith; sound = λ h. (listed b.items ∙ h.0, h.1) }
block_statement_builds at ts = kept 0 ts

pub nothing_builds : Builds 1 nothing
nothing_builds at ts = record { nodes = omega arith; sound = λ h. (refl, h) }

pub evaluated_builds : Builds 1 evaluated
evaluated_builds at (expr e ∷ ts) = record { nodes = omega arith; sound = λ h. (h.0, h.1) }
evaluated_builds at ts = kept 1 ts

pub chosen_builds : Builds 1 chosen
chosen_builds at (otherwise o ∷ stmt s ∷ expr e ∷ ts) = record { nodes = omega arith; sound = λ h. (both_hold (expr_sound e) (stmt_sound s && else_sound o) h.1.1.0 (both_hold (stmt_sound s) (else_sound o) h.1.0 h.0), h.1.1.1) }
chosen_builds at ts = kept 1 ts

pub some_else_builds : Builds 0 some_else
some_else_builds at (stmt s ∷ ts) = record { nodes = omega arith; sound = λ h. (h.0, h.1) }
some_else_builds at ts = kept 0 ts

pub no_else_builds : Builds 0 no_else
no_else_builds at ts = record { nodes = omega arith; sound = λ h. (refl, h) }

pub while_statement_builds : Builds 1 while_statement
while_statement_builds at (stmt s ∷ expr e ∷ ts) = record { nodes = omega arith; sound = λ h. (both_hold (expr_sound e) (stmt_sound s) h.1.0 h.0, h.1.1) }
while_statement_builds at ts = kept 1 ts

pub do_statement_builds : Builds 1 do_statement
do_statement_builds at (expr e ∷ stmt s ∷ ts) = record { nodes = omega arith; sound = λ h. (both_hold (stmt_sound s) (expr_sound e) h.1.0 h.0, h.1.1) }
do_statement_builds at ts = kept 1 ts

pub for_statement_builds : Builds 1 for_statement
for_statement_builds at (stmt s ∷ maybe_expr c ∷ maybe_expr b ∷ for_init a ∷ ts) = record { nodes = omega arith; sound = λ h. (both_hold (for_init_sound a) (option_sound b && (option_sound c && stmt_sound s)) h.1.1.1.0 (both_hold (option_sound b) (option_sound c && stmt_sound s) h.1.1.0 (both_hold (option_sound c) (stmt_sound s) h.1.0 h.0)), h.1.1.1.1) }
for_statement_builds at ts = kept 1 ts

pub for_declaration_builds : Builds 0 for_declaration
for_declaration_builds at (declaration d ∷ ts) = record { nodes = omega arith; sound = λ h. (h.0, h.1) }
for_declaration_builds at ts = kept 0 ts

pub for_nothing_builds : Builds 0 for_nothing
for_nothing_builds at ts = record { nodes = omega arith; sound = λ h. (refl, h) }

pub for_expression_builds : Builds 0 for_expression
for_expression_builds at (expr e ∷ ts) = record { nodes = omega arith; sound = λ h. (h.0, h.1) }
for_expression_builds at ts = kept 0 ts

pub returned_builds : Builds 1 returned
returned_builds at (maybe_expr e ∷ ts) = record { nodes = omega arith; sound = λ h. (h.0, h.1) }
returned_builds at ts = kept 1 ts

pub broken_builds : Builds 1 broken
broken_builds at ts = record { nodes = omega arith; sound = λ h. (refl, h) }

pub continued_builds : Builds 1 continued
continued_builds at ts = record { nodes = omega arith; sound = λ h. (refl, h) }

pub switch_statement_builds : Builds 1 switch_statement
switch_statement_builds at (sections ss ∷ expr e ∷ ts) = record { nodes = omega arith; sound = λ h. (both_hold (expr_sound e) (sections_sound (section_trees ss)) h.1.0 h.0, h.1.1) }
switch_statement_builds at ts = kept 1 ts

pub no_sections_builds : Builds 0 no_sections
no_sections_builds at ts = record { nodes = omega arith; sound = λ h. (refl, h) }

pub add_section_builds : Builds 0 add_section
add_section_builds at (section s ∷ sections ss ∷ ts) = record { nodes = omega (arith, sections_add ss s); sound = λ h. (sections_join ss s h.1.0 h.0, h.1.1) }
add_section_builds at ts = kept 0 ts

pub a_section_builds : Builds 1 a_section
a_section_builds at (stmts ss ∷ label l ∷ ts) = record { nodes = omega arith; sound = λ h. (both_hold (label_sound l) (stmts_sound (stmt_trees ss)) h.1.0 (listed ss ∙ h.0), h.1.1) }
a_section_builds at ts = kept 1 ts

pub a_case_builds : Builds 1 a_case
a_case_builds at (expr e ∷ ts) = record { nodes = omega arith; sound = λ h. (h.0, h.1) }
a_case_builds at ts = kept 1 ts

pub a_default_builds : Builds 1 a_default
a_default_builds at ts = record { nodes = omega arith; sound = λ h. (refl, h) }

pub some_expr_builds : Builds 0 some_expr
some_expr_builds at (expr e ∷ ts) = record { nodes = omega arith; sound = λ h. (h.0, h.1) }
some_expr_builds at ts = kept 0 ts

pub no_expr_builds : Builds 0 no_expr
no_expr_builds at ts = record { nodes = omega arith; sound = λ h. (refl, h) }

pub assigned_builds : Builds 0 assigned
assigned_builds at (absent ∷ expr e ∷ ts) = record { nodes = omega arith; sound = λ h. (h.1.0, h.1.1) }
assigned_builds at (assignment op v ∷ expr e ∷ ts) = record { nodes = omega arith; sound = λ h. (both_hold (expr_sound e) (expr_sound v) h.1.0 h.0, h.1.1) }
assigned_builds at ts = kept 0 ts

pub some_assignment_builds : Builds 0 some_assignment
some_assignment_builds at (expr e ∷ assign_op op ∷ ts) = record { nodes = omega arith; sound = λ h. (h.0, h.1.1) }
some_assignment_builds at ts = kept 0 ts

pub no_assignment_builds : Builds 0 no_assignment
no_assignment_builds at ts = record { nodes = omega arith; sound = λ h. (tt, h) }

pub conditional_builds : Builds 0 conditional
conditional_builds at (absent ∷ expr e ∷ ts) = record { nodes = omega arith; sound = λ h. (h.1.0, h.1.1) }
conditional_builds at (arms a b ∷ expr e ∷ ts) = record { nodes = omega arith; sound = λ h. (both_hold (expr_sound e) (expr_sound a && expr_sound b) h.1.0 (both_hold (expr_sound a) (expr_sound b) h.0.0 h.0.1), h.1.1) }
conditional_builds at ts = kept 0 ts

pub some_arms_builds : Builds 1 some_arms
some_arms_builds at (expr b ∷ expr a ∷ ts) = record { nodes = omega arith; sound = λ h. ((h.1.0, h.0), h.1.1) }
some_arms_builds at ts = kept 1 ts

pub no_arms_builds : Builds 0 no_arms
no_arms_builds at ts = record { nodes = omega arith; sound = λ h. (tt, h) }

pub in_parentheses_builds : Builds 0 in_parentheses
in_parentheses_builds at (cast_of ss p e ∷ ts) = record { nodes = omega arith; sound = λ h. (both_hold (specs_sound (spec_trees ss)) (expr_sound e) h.0.0 h.0.1, h.1) }
in_parentheses_builds at (group_of e ps ∷ ts) = record { nodes = omega (arith, postfixed_nodes at e ps); sound = λ h. (postfixed_sound at e ps h.0.0 h.0.1, h.1) }
in_parentheses_builds at ts = kept 0 ts

pub prefixed_builds : Builds 0 prefixed
prefixed_builds at (expr e ∷ prefix_op op ∷ ts) = record { nodes = omega arith; sound = λ h. (h.0, h.1.1) }
prefixed_builds at ts = kept 0 ts

pub stepped_builds : (op : PrefixOp) → Builds 1 (stepped op)
stepped_builds op at (expr e ∷ ts) = record { nodes = omega arith; sound = λ h. (h.0, h.1) }
stepped_builds op at ts = kept 1 ts

pub with_postfixes_builds : Builds 0 with_postfixes
with_postfixes_builds at (postfixes ps ∷ expr e ∷ ts) = record { nodes = omega (arith, postfixed_nodes at e ps); sound = λ h. (postfixed_sound at e ps h.1.0 h.0, h.1.1) }
with_postfixes_builds at ts = kept 0 ts

pub no_postfixes_builds : Builds 0 no_postfixes
no_postfixes_builds at ts = record { nodes = omega arith; sound = λ h. (refl, h) }

pub a_cast_builds : Builds 1 a_cast
a_cast_builds at (expr e ∷ pointer p ∷ specs ss ∷ ts) = record { nodes = omega arith; sound = λ h. ((h.1.1.0, h.0), h.1.1.1) }
a_cast_builds at ts = kept 1 ts

pub grouped_builds : Builds 0 grouped
grouped_builds at (postfixes ps ∷ expr e ∷ ts) = record { nodes = omega arith; sound = λ h. ((h.1.0, h.0), h.1.1) }
grouped_builds at ts = kept 0 ts

pub add_index_builds : Builds 2 add_index
add_index_builds at (expr e ∷ postfixes ps ∷ ts) = record { nodes = omega (arith, postfixes_add ps (index at e), node_over_one ps (index at e)); sound = λ h. (postfixes_join ps (index at e) h.1.0 h.0, h.1.1) }
add_index_builds at ts = kept 2 ts

pub add_call_builds : Builds 2 add_call
add_call_builds at (exprs es ∷ postfixes ps ∷ ts) = record { nodes = omega (arith, postfixes_add ps (call at (expr_trees es)), node_over_one ps (call at (expr_trees es))); sound = λ h. (postfixes_join ps (call at (expr_trees es)) h.1.0 h.0, h.1.1) }
add_call_builds at ts = kept 2 ts

pub add_dot_builds : Builds 2 add_dot
add_dot_builds at (word n ∷ postfixes ps ∷ ts) = record { nodes = omega (arith, postfixes_add ps (dot at n), node_over_one ps (dot at n)); sound = λ h. (postfixes_join ps (dot at n) h.1.0 h.0, h.1.1) }
add_dot_builds at ts = kept 2 ts

pub add_arrow_builds : Builds 2 add_arrow
add_arrow_builds at (word n ∷ postfixes ps ∷ ts) = record { nodes = omega (arith, postfixes_add ps (arrow at n), node_over_one ps (arrow at n)); sound = λ h. (postfixes_join ps (arrow at n) h.1.0 h.0, h.1.1) }
add_arrow_builds at ts = kept 2 ts

pub add_increment_builds : Builds 2 add_increment
add_increment_builds at (postfixes ps ∷ ts) = record { nodes = omega (arith, postfixes_add ps (increment at), node_over_one ps (increment at)); sound = λ h. (postfixes_join ps (increment at) h.0 refl, h.1) }
add_increment_builds at ts = kept 2 ts

pub add_decrement_builds : Builds 2 add_decrement
add_decrement_builds at (postfixes ps ∷ ts) = record { nodes = omega (arith, postfixes_add ps (decrement at), node_over_one ps (decrement at)); sound = λ h. (postfixes_join ps (decrement at) h.0 refl, h.1) }
add_decrement_builds at ts = kept 2 ts

pub a_name_builds : Builds 0 a_name
a_name_builds at (word n ∷ ts) = record { nodes = omega arith; sound = λ h. (h.0, h.1) }
a_name_builds at ts = kept 0 ts

pub a_constant_builds : Builds 0 a_constant
a_constant_builds at (number c ∷ ts) = record { nodes = omega arith; sound = λ h. (h.0, h.1) }
a_constant_builds at ts = kept 0 ts

pub assigning_builds : (op : Option BinaryOp) → Builds 1 (assigning op)
assigning_builds op at ts = record { nodes = omega arith; sound = λ h. (tt, h) }

pub operator_builds : (op : PrefixOp) → Builds 1 (operator op)
operator_builds op at ts = record { nodes = omega arith; sound = λ h. (tt, h) }

pub no_links_builds : Builds 0 no_links
no_links_builds at ts = record { nodes = omega arith; sound = λ h. (refl, h) }

pub add_link_builds : (op : BinaryOp) → Builds 2 (add_link op)
add_link_builds op at (expr e ∷ links ls ∷ ts) = record { nodes = omega (arith, links_add ls (link at op e), node_over_one ls (link at op e)); sound = λ h. (links_join ls (link at op e) h.1.0 h.0, h.1.1) }
add_link_builds op at ts = kept 2 ts

pub chain_of_builds : Builds 0 chain_of
chain_of_builds at (links ls ∷ expr e ∷ ts) = record { nodes = omega (arith, chained_nodes at e ls); sound = λ h. (chained_sound at e ls h.1.0 h.0, h.1.1) }
chain_of_builds at ts = kept 0 ts
