-- What each rule wants pays for what it builds: a token brings two nodes, and a name or a constant is
-- one of them.
use Rattle.std.proofs.Common.{ℕ, ◌+◌, ◌-◌, ◌≤◌, List, [], ◌∷◌, Option, None, Some, Bool, true, false, cond, arith}
use Rattle.std.specs.List.{find}
use Rattle.c_lexer.specs.declared.token.Token.{Token}
use Rattle.c_lexer.specs.declared.token.TokenKind.{TokenKind}
use Rattle.c_lexer.specs.declared.token.TokenKind.TheVariants.{Identifier, Number, Character}
use Rattle.pt_tree.specs.declared.operator.BinaryOp.TheVariants as b
use Rattle.pt_tree.specs.declared.operator.PrefixOp.TheVariants as p
use Rattle.pt_tree.specs.declared.specifier.SpecWord.TheVariants as w
use Rattle.c_grammar.specs.declared.symbol.Symbol.{Symbol}
use Rattle.c_grammar.specs.declared.symbol.Symbol.TheVariants as s
use Rattle.c_grammar.specs.Item.{Item, token, symbol, counted, build}
use Rattle.c_grammar.specs.Table.{alternatives_of, leads_to}
use Rattle.c_grammar.specs.Machine.{right_side, rule_at}
use Rattle.c_grammar.proofs.BuildFacts.{Builds, a_block_builds, a_case_builds, a_cast_builds, a_constant_builds, a_declaration_builds, a_declarator_builds, a_default_builds, a_field_builds, a_name_builds, a_param_builds, a_section_builds, a_size_builds, a_struct_builds, add_arrow_builds, add_call_builds, add_declarator_builds, add_decrement_builds, add_dot_builds, add_expr_builds, add_field_builds, add_increment_builds, add_index_builds, add_init_builds, add_item_builds, add_link_builds, add_name_builds, add_param_builds, add_section_builds, add_spec_builds, add_statement_builds, an_attribute_builds, an_item_builds, assigned_builds, assigning_builds, block_statement_builds, brace_list_builds, broken_builds, chain_of_builds, chosen_builds, conditional_builds, continued_builds, declared_builds, do_statement_builds, evaluated_builds, first_declarator_builds, first_expr_builds, first_field_builds, first_init_builds, first_name_builds, first_param_builds, first_spec_builds, for_declaration_builds, for_expression_builds, for_nothing_builds, for_statement_builds, function_rest_builds, grouped_builds, in_parentheses_builds, keyword_builds, no_arms_builds, no_assignment_builds, no_body_builds, no_declarators_builds, no_else_builds, no_expr_builds, no_exprs_builds, no_fields_builds, no_links_builds, no_name_builds, no_params_builds, no_postfixes_builds, no_sections_builds, no_size_builds, no_star_builds, no_statements_builds, no_suffix_builds, no_value_builds, nothing_builds, operator_builds, prefixed_builds, returned_builds, single_value_builds, some_arms_builds, some_assignment_builds, some_body_builds, some_else_builds, some_expr_builds, some_name_builds, star_builds, stepped_builds, switch_statement_builds, while_statement_builds, with_postfixes_builds}

-- how many nodes a token pays for, beside its own
abbrev pub worth : TokenKind → ℕ
worth Identifier = 1
worth Number = 1
worth Character = 1
worth k = 2

-- how many nodes are paid for, and not made, by what a symbol gives way to
abbrev pub spare : Symbol → ℕ
spare s.Specs = 1
spare s.Spec = 1
spare s.Attribute = 1
spare s.Struct = 1
spare s.Label = 1
spare x = 0

-- from so many nodes that are paid for, the items make none that is not, and leave so many
abbrev pub Fits : ℕ → List Item → ℕ → Type 0
Fits paid [] left = left ≤ paid
Fits paid (token k ∷ rest) left = Fits (worth k + paid) rest left
Fits paid (symbol x ∷ rest) left = Fits (spare x + paid) rest left
Fits paid (counted x ∷ rest) left = Fits (spare x + paid) rest left
Fits paid (build f ∷ rest) left = (n : ℕ) × Builds n f × (n ≤ paid) × Fits (paid - n) rest left

abbrev pub RuleFits : Symbol → ℕ → Type 0
RuleFits x n = Fits 0 (right_side n) (spare x)

abbrev Each : (ℕ → Type 0) → List ℕ → Type 0
Each P [] = Unit {0}
Each P (n ∷ ns) = P n × Each P ns

rules_fit : (x : Symbol) → Each (RuleFits x) (alternatives_of x)
rules_fit s.TranslationUnit = ((0, add_item_builds, omega arith, omega arith), (omega arith, tt))
rules_fit s.External = ((1, an_item_builds, omega arith, omega arith), tt)
rules_fit s.ExternalRest = ((0, no_declarators_builds, omega arith, omega arith), (omega arith, tt))
rules_fit s.ExternalTail = ((0, function_rest_builds, omega arith, omega arith), ((0, first_init_builds, omega arith, omega arith), tt))
rules_fit s.FunctionEnd = ((0, no_body_builds, omega arith, omega arith), ((0, some_body_builds, omega arith, omega arith), tt))
rules_fit s.Specs = ((0, first_spec_builds, omega arith, omega arith), tt)
rules_fit s.MoreSpecs = ((0, add_spec_builds, omega arith, omega arith), (omega arith, tt))
rules_fit s.Spec = (omega arith, ((1, keyword_builds w.Extern, omega arith, omega arith), ((1, keyword_builds w.Static, omega arith, omega arith), ((1, keyword_builds w.Const, omega arith, omega arith), ((1, keyword_builds w.Void, omega arith, omega arith), ((1, keyword_builds w.Char, omega arith, omega arith), ((1, keyword_builds w.Short, omega arith, omega arith), ((1, keyword_builds w.Int, omega arith, omega arith), ((1, keyword_builds w.Long, omega arith, omega arith), ((1, keyword_builds w.Signed, omega arith, omega arith), ((1, keyword_builds w.Unsigned, omega arith, omega arith), (omega arith, tt))))))))))))
rules_fit s.Attribute = ((0, first_name_builds, omega arith, (1, an_attribute_builds, omega arith, omega arith)), tt)
rules_fit s.MoreNames = ((0, add_name_builds, omega arith, omega arith), (omega arith, tt))
rules_fit s.Struct = ((1, a_struct_builds, omega arith, omega arith), tt)
rules_fit s.StructBody = ((0, first_field_builds, omega arith, omega arith), ((0, no_fields_builds, omega arith, omega arith), tt))
rules_fit s.Fields = ((0, add_field_builds, omega arith, omega arith), (omega arith, tt))
rules_fit s.Field = ((0, first_declarator_builds, omega arith, (1, a_field_builds, omega arith, omega arith)), tt)
rules_fit s.MoreDeclarators = ((0, add_declarator_builds, omega arith, omega arith), (omega arith, tt))
rules_fit s.Declarator = ((1, a_declarator_builds, omega arith, omega arith), tt)
rules_fit s.Star = ((0, star_builds, omega arith, omega arith), ((0, no_star_builds, omega arith, omega arith), tt))
rules_fit s.Suffix = (omega arith, ((0, no_suffix_builds, omega arith, omega arith), tt))
rules_fit s.Size = ((0, a_size_builds, omega arith, omega arith), ((0, no_size_builds, omega arith, omega arith), tt))
rules_fit s.Init = (omega arith, ((0, no_value_builds, omega arith, omega arith), tt))
rules_fit s.InitValue = ((0, single_value_builds, omega arith, omega arith), ((0, first_expr_builds, omega arith, (1, brace_list_builds, omega arith, omega arith)), tt))
rules_fit s.InitItems = (omega arith, (omega arith, tt))
rules_fit s.InitNext = ((0, add_expr_builds, omega arith, omega arith), (omega arith, tt))
rules_fit s.More = ((0, add_init_builds, omega arith, omega arith), (omega arith, tt))
rules_fit s.Params = ((0, first_param_builds, omega arith, omega arith), ((0, no_params_builds, omega arith, omega arith), tt))
rules_fit s.MoreParams = ((0, add_param_builds, omega arith, omega arith), (omega arith, tt))
rules_fit s.Param = ((1, a_param_builds, omega arith, omega arith), tt)
rules_fit s.Name = ((0, some_name_builds, omega arith, omega arith), ((0, no_name_builds, omega arith, omega arith), tt))
rules_fit s.Block = ((0, no_statements_builds, omega arith, (1, a_block_builds, omega arith, omega arith)), tt)
rules_fit s.Items = ((0, add_statement_builds, omega arith, omega arith), (omega arith, tt))
rules_fit s.Item = ((0, declared_builds, omega arith, omega arith), (omega arith, tt))
rules_fit s.Declaration = ((1, a_declaration_builds, omega arith, omega arith), tt)
rules_fit s.DeclarationRest = ((0, no_declarators_builds, omega arith, omega arith), ((0, first_init_builds, omega arith, omega arith), tt))
rules_fit s.Statement = ((0, block_statement_builds, omega arith, omega arith), ((1, nothing_builds, omega arith, omega arith), ((1, evaluated_builds, omega arith, omega arith), ((1, chosen_builds, omega arith, omega arith), ((1, while_statement_builds, omega arith, omega arith), ((1, do_statement_builds, omega arith, omega arith), ((1, for_statement_builds, omega arith, omega arith), ((1, returned_builds, omega arith, omega arith), ((1, broken_builds, omega arith, omega arith), ((1, continued_builds, omega arith, omega arith), ((0, no_sections_builds, omega arith, (1, switch_statement_builds, omega arith, omega arith)), tt)))))))))))
rules_fit s.ElsePart = ((0, some_else_builds, omega arith, omega arith), ((0, no_else_builds, omega arith, omega arith), tt))
rules_fit s.ForInit = ((0, for_declaration_builds, omega arith, omega arith), ((0, for_nothing_builds, omega arith, omega arith), ((0, for_expression_builds, omega arith, omega arith), tt)))
rules_fit s.ForStep = ((0, some_expr_builds, omega arith, omega arith), ((0, no_expr_builds, omega arith, omega arith), tt))
rules_fit s.Opt = ((0, some_expr_builds, omega arith, omega arith), ((0, no_expr_builds, omega arith, omega arith), tt))
rules_fit s.Expr = ((0, assigned_builds, omega arith, omega arith), tt)
rules_fit s.AssignTail = ((0, some_assignment_builds, omega arith, omega arith), ((0, no_assignment_builds, omega arith, omega arith), tt))
rules_fit s.Cond = ((0, conditional_builds, omega arith, omega arith), tt)
rules_fit s.CondTail = ((1, some_arms_builds, omega arith, omega arith), ((0, no_arms_builds, omega arith, omega arith), tt))
rules_fit s.Unary = ((0, in_parentheses_builds, omega arith, omega arith), ((0, prefixed_builds, omega arith, omega arith), ((1, stepped_builds p.Increment, omega arith, omega arith), ((1, stepped_builds p.Decrement, omega arith, omega arith), ((0, no_postfixes_builds, omega arith, (0, with_postfixes_builds, omega arith, omega arith)), tt)))))
rules_fit s.Paren = ((1, a_cast_builds, omega arith, omega arith), ((0, no_postfixes_builds, omega arith, (0, grouped_builds, omega arith, omega arith)), tt))
rules_fit s.Postfixes = ((2, add_index_builds, omega arith, omega arith), ((2, add_call_builds, omega arith, omega arith), ((2, add_dot_builds, omega arith, omega arith), ((2, add_arrow_builds, omega arith, omega arith), ((2, add_increment_builds, omega arith, omega arith), ((2, add_decrement_builds, omega arith, omega arith), (omega arith, tt)))))))
rules_fit s.Arguments = ((0, first_expr_builds, omega arith, omega arith), ((0, no_exprs_builds, omega arith, omega arith), tt))
rules_fit s.MoreArguments = ((0, add_expr_builds, omega arith, omega arith), (omega arith, tt))
rules_fit s.Primary = ((0, a_name_builds, omega arith, omega arith), ((0, a_constant_builds, omega arith, omega arith), ((0, a_constant_builds, omega arith, omega arith), tt)))
rules_fit s.AssignOp = ((1, assigning_builds None, omega arith, omega arith), ((1, assigning_builds (Some b.Multiply), omega arith, omega arith), ((1, assigning_builds (Some b.Divide), omega arith, omega arith), ((1, assigning_builds (Some b.Remainder), omega arith, omega arith), ((1, assigning_builds (Some b.Add), omega arith, omega arith), ((1, assigning_builds (Some b.Subtract), omega arith, omega arith), ((1, assigning_builds (Some b.ShiftLeft), omega arith, omega arith), ((1, assigning_builds (Some b.ShiftRight), omega arith, omega arith), ((1, assigning_builds (Some b.BitAnd), omega arith, omega arith), ((1, assigning_builds (Some b.BitXor), omega arith, omega arith), ((1, assigning_builds (Some b.BitOr), omega arith, omega arith), tt)))))))))))
rules_fit s.UnaryOp = ((1, operator_builds p.AddressOf, omega arith, omega arith), ((1, operator_builds p.Dereference, omega arith, omega arith), ((1, operator_builds p.Plus, omega arith, omega arith), ((1, operator_builds p.Minus, omega arith, omega arith), ((1, operator_builds p.Complement, omega arith, omega arith), ((1, operator_builds p.Not, omega arith, omega arith), tt))))))
rules_fit s.LogicalOr = ((0, no_links_builds, omega arith, (0, chain_of_builds, omega arith, omega arith)), tt)
rules_fit s.LogicalOrTail = ((2, add_link_builds b.LogicalOr, omega arith, omega arith), (omega arith, tt))
rules_fit s.LogicalAnd = ((0, no_links_builds, omega arith, (0, chain_of_builds, omega arith, omega arith)), tt)
rules_fit s.LogicalAndTail = ((2, add_link_builds b.LogicalAnd, omega arith, omega arith), (omega arith, tt))
rules_fit s.BitOr = ((0, no_links_builds, omega arith, (0, chain_of_builds, omega arith, omega arith)), tt)
rules_fit s.BitOrTail = ((2, add_link_builds b.BitOr, omega arith, omega arith), (omega arith, tt))
rules_fit s.BitXor = ((0, no_links_builds, omega arith, (0, chain_of_builds, omega arith, omega arith)), tt)
rules_fit s.BitXorTail = ((2, add_link_builds b.BitXor, omega arith, omega arith), (omega arith, tt))
rules_fit s.BitAnd = ((0, no_links_builds, omega arith, (0, chain_of_builds, omega arith, omega arith)), tt)
rules_fit s.BitAndTail = ((2, add_link_builds b.BitAnd, omega arith, omega arith), (omega arith, tt))
rules_fit s.Equality = ((0, no_links_builds, omega arith, (0, chain_of_builds, omega arith, omega arith)), tt)
rules_fit s.EqualityTail = ((2, add_link_builds b.Equal, omega arith, omega arith), ((2, add_link_builds b.NotEqual, omega arith, omega arith), (omega arith, tt)))
rules_fit s.Relational = ((0, no_links_builds, omega arith, (0, chain_of_builds, omega arith, omega arith)), tt)
rules_fit s.RelationalTail = ((2, add_link_builds b.Less, omega arith, omega arith), ((2, add_link_builds b.Greater, omega arith, omega arith), ((2, add_link_builds b.LessEqual, omega arith, omega arith), ((2, add_link_builds b.GreaterEqual, omega arith, omega arith), (omega arith, tt)))))
rules_fit s.Shift = ((0, no_links_builds, omega arith, (0, chain_of_builds, omega arith, omega arith)), tt)
rules_fit s.ShiftTail = ((2, add_link_builds b.ShiftLeft, omega arith, omega arith), ((2, add_link_builds b.ShiftRight, omega arith, omega arith), (omega arith, tt)))
rules_fit s.Additive = ((0, no_links_builds, omega arith, (0, chain_of_builds, omega arith, omega arith)), tt)
rules_fit s.AdditiveTail = ((2, add_link_builds b.Add, omega arith, omega arith), ((2, add_link_builds b.Subtract, omega arith, omega arith), (omega arith, tt)))
rules_fit s.Multiplicative = ((0, no_links_builds, omega arith, (0, chain_of_builds, omega arith, omega arith)), tt)
rules_fit s.MultiplicativeTail = ((2, add_link_builds b.Multiply, omega arith, omega arith), ((2, add_link_builds b.Divide, omega arith, omega arith), ((2, add_link_builds b.Remainder, omega arith, omega arith), (omega arith, tt))))
rules_fit s.Sections = ((0, add_section_builds, omega arith, omega arith), (omega arith, tt))
rules_fit s.Section = ((0, no_statements_builds, omega arith, (1, a_section_builds, omega arith, omega arith)), tt)
rules_fit s.Label = ((1, a_case_builds, omega arith, omega arith), ((1, a_default_builds, omega arith, omega arith), tt))
rules_fit s.SectionItems = ((0, add_statement_builds, omega arith, omega arith), (omega arith, tt))

abbrev pub FoundFits : Symbol → Option ℕ → Type 0
FoundFits x None = Unit {0}
FoundFits x (Some n) = RuleFits x n

find_fits : (x : Symbol) (test : ℕ → Bool) (ns : List ℕ) → Each (RuleFits x) ns → FoundFits x (find test ns)
find_fits x test [] all = tt
find_fits x test (n ∷ ns) all = go (test n) (find_fits x test ns all.1)
  where
    go : (b : Bool) → FoundFits x (find test ns) → FoundFits x (cond b (Some n) (find test ns))
    go true rest = all.0
    go false rest = rest

fits_at_end : (x : Symbol) → FoundFits x (rule_at x None)
fits_at_end s.TranslationUnit = omega arith
fits_at_end x = tt

-- the rule by which a symbol goes on
pub rule_fits : (x : Symbol) (o : Option Token) → FoundFits x (rule_at x o)
rule_fits x None = fits_at_end x
rule_fits x (Some t) = find_fits x (leads_to t.kind) (alternatives_of x) (rules_fit x)
