-- Each rule that a derivation takes keeps names that are identifiers.
use Rattle.std.proofs.Common.{ℕ, List, [], ◌∷◌, Option, None, Some, Bool, true, false, cond}
use Rattle.std.specs.List.{find}
use Rattle.c_lexer.specs.declared.token.Token.{Token}
use Rattle.pt_tree.specs.declared.operator.BinaryOp.TheVariants as b
use Rattle.pt_tree.specs.declared.operator.PrefixOp.TheVariants as p
use Rattle.pt_tree.specs.declared.specifier.SpecWord.TheVariants as w
use Rattle.c_grammar.specs.declared.symbol.Symbol.{Symbol}
use Rattle.c_grammar.specs.declared.symbol.Symbol.TheVariants as s
use Rattle.c_grammar.specs.Item.{Item, token, symbol, counted, build}
use Rattle.c_grammar.specs.Table.{alternatives_of, leads_to}
use Rattle.c_grammar.specs.Machine.{right_side, rule_at}
use Rattle.plain_names_law.proofs.BuildNames.{Keeps, a_block_keeps, a_case_keeps, a_cast_keeps, a_constant_keeps, a_declaration_keeps, a_declarator_keeps, a_default_keeps, a_field_keeps, a_name_keeps, a_param_keeps, a_section_keeps, a_size_keeps, a_struct_keeps, add_arrow_keeps, add_call_keeps, add_declarator_keeps, add_decrement_keeps, add_dot_keeps, add_expr_keeps, add_field_keeps, add_increment_keeps, add_index_keeps, add_init_keeps, add_item_keeps, add_link_keeps, add_name_keeps, add_param_keeps, add_section_keeps, add_spec_keeps, add_statement_keeps, an_attribute_keeps, an_item_keeps, assigned_keeps, assigning_keeps, block_statement_keeps, brace_list_keeps, broken_keeps, chain_of_keeps, chosen_keeps, conditional_keeps, continued_keeps, declared_keeps, do_statement_keeps, evaluated_keeps, first_declarator_keeps, first_expr_keeps, first_field_keeps, first_init_keeps, first_name_keeps, first_param_keeps, first_spec_keeps, for_declaration_keeps, for_expression_keeps, for_nothing_keeps, for_statement_keeps, function_rest_keeps, grouped_keeps, in_parentheses_keeps, keyword_keeps, no_arms_keeps, no_assignment_keeps, no_body_keeps, no_declarators_keeps, no_else_keeps, no_expr_keeps, no_exprs_keeps, no_fields_keeps, no_links_keeps, no_name_keeps, no_params_keeps, no_postfixes_keeps, no_sections_keeps, no_size_keeps, no_star_keeps, no_statements_keeps, no_suffix_keeps, no_value_keeps, nothing_keeps, operator_keeps, prefixed_keeps, returned_keeps, single_value_keeps, some_arms_keeps, some_assignment_keeps, some_body_keeps, some_else_keeps, some_expr_keeps, some_name_keeps, star_keeps, stepped_keeps, switch_statement_keeps, while_statement_keeps, with_postfixes_keeps}

-- what is built on the right side of a rule keeps them
abbrev pub AllKeep : List Item → Type 0
AllKeep [] = Unit {0}
AllKeep (token k ∷ rest) = AllKeep rest
AllKeep (symbol x ∷ rest) = AllKeep rest
AllKeep (counted x ∷ rest) = AllKeep rest
AllKeep (build f ∷ rest) = Keeps f × AllKeep rest

abbrev RuleKeeps : ℕ → Type 0
RuleKeeps n = AllKeep (right_side n)

abbrev Each : (ℕ → Type 0) → List ℕ → Type 0
Each P [] = Unit {0}
Each P (n ∷ ns) = P n × Each P ns

rules_keep : (x : Symbol) → Each RuleKeeps (alternatives_of x)
rules_keep s.TranslationUnit = ((add_item_keeps, tt), (tt, tt))
rules_keep s.External = ((an_item_keeps, tt), tt)
rules_keep s.ExternalRest = ((no_declarators_keeps, tt), (tt, tt))
rules_keep s.ExternalTail = ((function_rest_keeps, tt), ((first_init_keeps, tt), tt))
rules_keep s.FunctionEnd = ((no_body_keeps, tt), ((some_body_keeps, tt), tt))
rules_keep s.Specs = ((first_spec_keeps, tt), tt)
rules_keep s.MoreSpecs = ((add_spec_keeps, tt), (tt, tt))
rules_keep s.Spec = (tt, ((keyword_keeps w.Extern, tt), ((keyword_keeps w.Static, tt), ((keyword_keeps w.Const, tt), ((keyword_keeps w.Void, tt), ((keyword_keeps w.Char, tt), ((keyword_keeps w.Short, tt), ((keyword_keeps w.Int, tt), ((keyword_keeps w.Long, tt), ((keyword_keeps w.Signed, tt), ((keyword_keeps w.Unsigned, tt), (tt, tt))))))))))))
rules_keep s.Attribute = ((first_name_keeps, (an_attribute_keeps, tt)), tt)
rules_keep s.MoreNames = ((add_name_keeps, tt), (tt, tt))
rules_keep s.Struct = ((a_struct_keeps, tt), tt)
rules_keep s.StructBody = ((first_field_keeps, tt), ((no_fields_keeps, tt), tt))
rules_keep s.Fields = ((add_field_keeps, tt), (tt, tt))
rules_keep s.Field = ((first_declarator_keeps, (a_field_keeps, tt)), tt)
rules_keep s.MoreDeclarators = ((add_declarator_keeps, tt), (tt, tt))
rules_keep s.Declarator = ((a_declarator_keeps, tt), tt)
rules_keep s.Star = ((star_keeps, tt), ((no_star_keeps, tt), tt))
rules_keep s.Suffix = (tt, ((no_suffix_keeps, tt), tt))
rules_keep s.Size = ((a_size_keeps, tt), ((no_size_keeps, tt), tt))
rules_keep s.Init = (tt, ((no_value_keeps, tt), tt))
rules_keep s.InitValue = ((single_value_keeps, tt), ((first_expr_keeps, (brace_list_keeps, tt)), tt))
rules_keep s.InitItems = (tt, (tt, tt))
rules_keep s.InitNext = ((add_expr_keeps, tt), (tt, tt))
rules_keep s.More = ((add_init_keeps, tt), (tt, tt))
rules_keep s.Params = ((first_param_keeps, tt), ((no_params_keeps, tt), tt))
rules_keep s.MoreParams = ((add_param_keeps, tt), (tt, tt))
rules_keep s.Param = ((a_param_keeps, tt), tt)
rules_keep s.Name = ((some_name_keeps, tt), ((no_name_keeps, tt), tt))
rules_keep s.Block = ((no_statements_keeps, (a_block_keeps, tt)), tt)
rules_keep s.Items = ((add_statement_keeps, tt), (tt, tt))
rules_keep s.Item = ((declared_keeps, tt), (tt, tt))
rules_keep s.Declaration = ((a_declaration_keeps, tt), tt)
rules_keep s.DeclarationRest = ((no_declarators_keeps, tt), ((first_init_keeps, tt), tt))
rules_keep s.Statement = ((block_statement_keeps, tt), ((nothing_keeps, tt), ((evaluated_keeps, tt), ((chosen_keeps, tt), ((while_statement_keeps, tt), ((do_statement_keeps, tt), ((for_statement_keeps, tt), ((returned_keeps, tt), ((broken_keeps, tt), ((continued_keeps, tt), ((no_sections_keeps, (switch_statement_keeps, tt)), tt)))))))))))
rules_keep s.ElsePart = ((some_else_keeps, tt), ((no_else_keeps, tt), tt))
rules_keep s.ForInit = ((for_declaration_keeps, tt), ((for_nothing_keeps, tt), ((for_expression_keeps, tt), tt)))
rules_keep s.ForStep = ((some_expr_keeps, tt), ((no_expr_keeps, tt), tt))
rules_keep s.Opt = ((some_expr_keeps, tt), ((no_expr_keeps, tt), tt))
rules_keep s.Expr = ((assigned_keeps, tt), tt)
rules_keep s.AssignTail = ((some_assignment_keeps, tt), ((no_assignment_keeps, tt), tt))
rules_keep s.Cond = ((conditional_keeps, tt), tt)
rules_keep s.CondTail = ((some_arms_keeps, tt), ((no_arms_keeps, tt), tt))
rules_keep s.Unary = ((in_parentheses_keeps, tt), ((prefixed_keeps, tt), ((stepped_keeps p.Increment, tt), ((stepped_keeps p.Decrement, tt), ((no_postfixes_keeps, (with_postfixes_keeps, tt)), tt)))))
rules_keep s.Paren = ((a_cast_keeps, tt), ((no_postfixes_keeps, (grouped_keeps, tt)), tt))
rules_keep s.Postfixes = ((add_index_keeps, tt), ((add_call_keeps, tt), ((add_dot_keeps, tt), ((add_arrow_keeps, tt), ((add_increment_keeps, tt), ((add_decrement_keeps, tt), (tt, tt)))))))
rules_keep s.Arguments = ((first_expr_keeps, tt), ((no_exprs_keeps, tt), tt))
rules_keep s.MoreArguments = ((add_expr_keeps, tt), (tt, tt))
rules_keep s.Primary = ((a_name_keeps, tt), ((a_constant_keeps, tt), ((a_constant_keeps, tt), tt)))
rules_keep s.AssignOp = ((assigning_keeps None, tt), ((assigning_keeps (Some b.Multiply), tt), ((assigning_keeps (Some b.Divide), tt), ((assigning_keeps (Some b.Remainder), tt), ((assigning_keeps (Some b.Add), tt), ((assigning_keeps (Some b.Subtract), tt), ((assigning_keeps (Some b.ShiftLeft), tt), ((assigning_keeps (Some b.ShiftRight), tt), ((assigning_keeps (Some b.BitAnd), tt), ((assigning_keeps (Some b.BitXor), tt), ((assigning_keeps (Some b.BitOr), tt), tt)))))))))))
rules_keep s.UnaryOp = ((operator_keeps p.AddressOf, tt), ((operator_keeps p.Dereference, tt), ((operator_keeps p.Plus, tt), ((operator_keeps p.Minus, tt), ((operator_keeps p.Complement, tt), ((operator_keeps p.Not, tt), tt))))))
rules_keep s.LogicalOr = ((no_links_keeps, (chain_of_keeps, tt)), tt)
rules_keep s.LogicalOrTail = ((add_link_keeps b.LogicalOr, tt), (tt, tt))
rules_keep s.LogicalAnd = ((no_links_keeps, (chain_of_keeps, tt)), tt)
rules_keep s.LogicalAndTail = ((add_link_keeps b.LogicalAnd, tt), (tt, tt))
rules_keep s.BitOr = ((no_links_keeps, (chain_of_keeps, tt)), tt)
rules_keep s.BitOrTail = ((add_link_keeps b.BitOr, tt), (tt, tt))
rules_keep s.BitXor = ((no_links_keeps, (chain_of_keeps, tt)), tt)
rules_keep s.BitXorTail = ((add_link_keeps b.BitXor, tt), (tt, tt))
rules_keep s.BitAnd = ((no_links_keeps, (chain_of_keeps, tt)), tt)
rules_keep s.BitAndTail = ((add_link_keeps b.BitAnd, tt), (tt, tt))
rules_keep s.Equality = ((no_links_keeps, (chain_of_keeps, tt)), tt)
rules_keep s.EqualityTail = ((add_link_keeps b.Equal, tt), ((add_link_keeps b.NotEqual, tt), (tt, tt)))
rules_keep s.Relational = ((no_links_keeps, (chain_of_keeps, tt)), tt)
rules_keep s.RelationalTail = ((add_link_keeps b.Less, tt), ((add_link_keeps b.Greater, tt), ((add_link_keeps b.LessEqual, tt), ((add_link_keeps b.GreaterEqual, tt), (tt, tt)))))
rules_keep s.Shift = ((no_links_keeps, (chain_of_keeps, tt)), tt)
rules_keep s.ShiftTail = ((add_link_keeps b.ShiftLeft, tt), ((add_link_keeps b.ShiftRight, tt), (tt, tt)))
rules_keep s.Additive = ((no_links_keeps, (chain_of_keeps, tt)), tt)
rules_keep s.AdditiveTail = ((add_link_keeps b.Add, tt), ((add_link_keeps b.Subtract, tt), (tt, tt)))
rules_keep s.Multiplicative = ((no_links_keeps, (chain_of_keeps, tt)), tt)
rules_keep s.MultiplicativeTail = ((add_link_keeps b.Multiply, tt), ((add_link_keeps b.Divide, tt), ((add_link_keeps b.Remainder, tt), (tt, tt))))
rules_keep s.Sections = ((add_section_keeps, tt), (tt, tt))
rules_keep s.Section = ((no_statements_keeps, (a_section_keeps, tt)), tt)
rules_keep s.Label = ((a_case_keeps, tt), ((a_default_keeps, tt), tt))
rules_keep s.SectionItems = ((add_statement_keeps, tt), (tt, tt))

abbrev pub FoundKeeps : Option ℕ → Type 0
FoundKeeps None = Unit {0}
FoundKeeps (Some n) = AllKeep (right_side n)

find_keeps : (test : ℕ → Bool) (ns : List ℕ) → Each RuleKeeps ns → FoundKeeps (find test ns)
find_keeps test [] all = tt
find_keeps test (n ∷ ns) all = go (test n) (find_keeps test ns all.1)
  where
    go : (b : Bool) → FoundKeeps (find test ns) → FoundKeeps (cond b (Some n) (find test ns))
    go true rest = all.0
    go false rest = rest

keeps_at_end : (x : Symbol) → FoundKeeps (rule_at x None)
keeps_at_end s.TranslationUnit = tt
keeps_at_end x = tt

-- the rule by which a symbol goes on
pub rule_keeps : (x : Symbol) (o : Option Token) → FoundKeeps (rule_at x o)
rule_keeps x None = keeps_at_end x
rule_keeps x (Some t) = find_keeps (leads_to t.kind) (alternatives_of x) (rules_keep x)
