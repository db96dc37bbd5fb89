-- What each rule makes of the sorts of parts: a symbol takes at most one part, and leaves one.
use Rattle.std.proofs.Common.{◌≡◌, ℕ, List, [], ◌∷◌, ◌++◌, Option, None, Some, Bool, true, false, cond, refl}
use Rattle.std.specs.List.{find}
use Rattle.c_lexer.specs.declared.token.Token.{Token}
use Rattle.c_lexer.specs.declared.token.TokenKind.{TokenKind}
use Rattle.c_lexer.specs.declared.token.TokenKind.TheVariants.{Identifier, Number, Character}
use Rattle.pt_tree.specs.declared.operator.BinaryOp.TheVariants as b
use Rattle.pt_tree.specs.declared.operator.PrefixOp.TheVariants as p
use Rattle.pt_tree.specs.declared.specifier.SpecWord.TheVariants as w
use Rattle.c_grammar.specs.declared.symbol.Symbol.{Symbol}
use Rattle.c_grammar.specs.declared.symbol.Symbol.TheVariants as s
use Rattle.c_grammar.specs.Item.{Item, token, symbol, counted, build}
use Rattle.c_grammar.specs.Table.{alternatives_of, leads_to}
use Rattle.c_grammar.specs.Machine.{right_side, rule_at}
use Rattle.front_end_law.proofs.ParsesSorts.{taken, OnTaken, ends, item_sort, items_sort, item_rest_sort, specs_sort, inits_sort, body_sort, params_sort, declarator_sort, init_sort, block_sort, spec_sort, word_sort, names_sort, fields_sort, field_sort, declarators_sort, suffix_sort, pointer_sort, number_sort, expr_sort, exprs_sort, param_sort, name_sort, stmts_sort, stmt_sort, declaration_sort, otherwise_sort, maybe_expr_sort, for_init_sort, sections_sort, section_sort, label_sort, assign_tail_sort, assign_op_sort, cond_tail_sort, parens_sort, prefix_op_sort, postfixes_sort, links_sort}
use Rattle.front_end_law.proofs.ParsesBuildShapes.{Builds, add_item_shapes, an_item_shapes, no_declarators_shapes, function_rest_shapes, first_init_shapes, add_init_shapes, no_body_shapes, some_body_shapes, first_spec_shapes, add_spec_shapes, keyword_shapes, first_name_shapes, add_name_shapes, an_attribute_shapes, a_struct_shapes, first_field_shapes, no_fields_shapes, add_field_shapes, first_declarator_shapes, add_declarator_shapes, a_field_shapes, a_declarator_shapes, star_shapes, no_star_shapes, no_suffix_shapes, no_size_shapes, a_size_shapes, no_value_shapes, single_value_shapes, brace_list_shapes, first_expr_shapes, add_expr_shapes, no_exprs_shapes, first_param_shapes, no_params_shapes, add_param_shapes, a_param_shapes, some_name_shapes, no_name_shapes, no_statements_shapes, a_block_shapes, add_statement_shapes, declared_shapes, a_declaration_shapes, block_statement_shapes, nothing_shapes, broken_shapes, continued_shapes, evaluated_shapes, chosen_shapes, some_else_shapes, no_else_shapes, while_statement_shapes, do_statement_shapes, for_statement_shapes, for_declaration_shapes, for_nothing_shapes, for_expression_shapes, returned_shapes, switch_statement_shapes, no_sections_shapes, add_section_shapes, a_section_shapes, a_case_shapes, a_default_shapes, some_expr_shapes, no_expr_shapes, assigned_shapes, some_assignment_shapes, no_assignment_shapes, conditional_shapes, some_arms_shapes, no_arms_shapes, in_parentheses_shapes, prefixed_shapes, stepped_shapes, with_postfixes_shapes, no_postfixes_shapes, a_cast_shapes, grouped_shapes, add_index_shapes, add_call_shapes, add_dot_shapes, add_arrow_shapes, add_increment_shapes, add_decrement_shapes, a_name_shapes, a_constant_shapes, assigning_shapes, operator_shapes, no_links_shapes, add_link_shapes, chain_of_shapes}

-- the sort of what a token gives
abbrev pub token_sorts : TokenKind → List ℕ
token_sorts Identifier = word_sort ∷ []
token_sorts Number = number_sort ∷ []
token_sorts Character = number_sort ∷ []
token_sorts k = []

-- the sort of the part that a symbol goes on from, if it does from one
abbrev pub needs : Symbol → List ℕ
needs s.TranslationUnit = items_sort ∷ []
needs s.ExternalTail = declarator_sort ∷ []
needs s.MoreSpecs = specs_sort ∷ []
needs s.MoreNames = names_sort ∷ []
needs s.Fields = fields_sort ∷ []
needs s.MoreDeclarators = declarators_sort ∷ []
needs s.InitItems = exprs_sort ∷ []
needs s.InitNext = exprs_sort ∷ []
needs s.More = inits_sort ∷ []
needs s.MoreParams = params_sort ∷ []
needs s.Items = stmts_sort ∷ []
needs s.Postfixes = postfixes_sort ∷ []
needs s.MoreArguments = exprs_sort ∷ []
needs s.LogicalOrTail = links_sort ∷ []
needs s.LogicalAndTail = links_sort ∷ []
needs s.BitOrTail = links_sort ∷ []
needs s.BitXorTail = links_sort ∷ []
needs s.BitAndTail = links_sort ∷ []
needs s.EqualityTail = links_sort ∷ []
needs s.RelationalTail = links_sort ∷ []
needs s.ShiftTail = links_sort ∷ []
needs s.AdditiveTail = links_sort ∷ []
needs s.MultiplicativeTail = links_sort ∷ []
needs s.Sections = sections_sort ∷ []
needs s.SectionItems = stmts_sort ∷ []
needs x = []

-- the sort of the part that it leaves
abbrev pub leaves : Symbol → ℕ
leaves s.TranslationUnit = items_sort
leaves s.External = item_sort
leaves s.ExternalRest = item_rest_sort
leaves s.ExternalTail = item_rest_sort
leaves s.FunctionEnd = body_sort
leaves s.Specs = specs_sort
leaves s.MoreSpecs = specs_sort
leaves s.Spec = spec_sort
leaves s.Attribute = spec_sort
leaves s.MoreNames = names_sort
leaves s.Struct = spec_sort
leaves s.StructBody = fields_sort
leaves s.Fields = fields_sort
leaves s.Field = field_sort
leaves s.MoreDeclarators = declarators_sort
leaves s.Declarator = declarator_sort
leaves s.Star = pointer_sort
leaves s.Suffix = suffix_sort
leaves s.Size = suffix_sort
leaves s.Init = init_sort
leaves s.InitValue = init_sort
leaves s.InitItems = exprs_sort
leaves s.InitNext = exprs_sort
leaves s.More = inits_sort
leaves s.Params = params_sort
leaves s.MoreParams = params_sort
leaves s.Param = param_sort
leaves s.Name = name_sort
leaves s.Block = block_sort
leaves s.Items = stmts_sort
leaves s.Item = stmt_sort
leaves s.Declaration = declaration_sort
leaves s.DeclarationRest = inits_sort
leaves s.Statement = stmt_sort
leaves s.ElsePart = otherwise_sort
leaves s.ForInit = for_init_sort
leaves s.ForStep = maybe_expr_sort
leaves s.Opt = maybe_expr_sort
leaves s.Expr = expr_sort
leaves s.AssignTail = assign_tail_sort
leaves s.Cond = expr_sort
leaves s.CondTail = cond_tail_sort
leaves s.Unary = expr_sort
leaves s.Paren = parens_sort
leaves s.Postfixes = postfixes_sort
leaves s.Arguments = exprs_sort
leaves s.MoreArguments = exprs_sort
leaves s.Primary = expr_sort
leaves s.AssignOp = assign_op_sort
leaves s.UnaryOp = prefix_op_sort
leaves s.LogicalOr = expr_sort
leaves s.LogicalOrTail = links_sort
leaves s.LogicalAnd = expr_sort
leaves s.LogicalAndTail = links_sort
leaves s.BitOr = expr_sort
leaves s.BitOrTail = links_sort
leaves s.BitXor = expr_sort
leaves s.BitXorTail = links_sort
leaves s.BitAnd = expr_sort
leaves s.BitAndTail = links_sort
leaves s.Equality = expr_sort
leaves s.EqualityTail = links_sort
leaves s.Relational = expr_sort
leaves s.RelationalTail = links_sort
leaves s.Shift = expr_sort
leaves s.ShiftTail = links_sort
leaves s.Additive = expr_sort
leaves s.AdditiveTail = links_sort
leaves s.Multiplicative = expr_sort
leaves s.MultiplicativeTail = links_sort
leaves s.Sections = sections_sort
leaves s.Section = section_sort
leaves s.Label = label_sort
leaves s.SectionItems = stmts_sort

-- from parts of these sorts the items leave one part of this sort
abbrev pub Shapes : List ℕ → List Item → ℕ → Type 0
Shapes ss [] left = ends ss left ≡ true
Shapes ss (token k ∷ rest) left = Shapes (token_sorts k ++ ss) rest left
Shapes ss (symbol x ∷ rest) left = OnTaken (taken (needs x) ss) (λ rs. Shapes (leaves x ∷ rs) rest left)
Shapes ss (counted x ∷ rest) left = OnTaken (taken (needs x) ss) (λ rs. Shapes (leaves x ∷ rs) rest left)
Shapes ss (build f ∷ rest) left = (takes : List ℕ) × (gives : ℕ) × Builds takes gives f × OnTaken (taken takes ss) (λ rs. Shapes (gives ∷ rs) rest left)

abbrev pub RuleShapes : Symbol → ℕ → Type 0
RuleShapes x n = Shapes (needs x) (right_side n) (leaves x)

abbrev Each : (ℕ → Type 0) → List ℕ → Type 0
Each P [] = Unit {0}
Each P (n ∷ ns) = P n × Each P ns

rules_shape : (x : Symbol) → Each (RuleShapes x) (alternatives_of x)
rules_shape s.TranslationUnit = ((item_sort ∷ items_sort ∷ [], items_sort, add_item_shapes, refl), (refl, tt))
rules_shape s.External = ((item_rest_sort ∷ specs_sort ∷ [], item_sort, an_item_shapes, refl), tt)
rules_shape s.ExternalRest = (([], inits_sort, no_declarators_shapes, refl), (refl, tt))
rules_shape s.ExternalTail = ((body_sort ∷ params_sort ∷ declarator_sort ∷ [], item_rest_sort, function_rest_shapes, refl), ((init_sort ∷ declarator_sort ∷ [], inits_sort, first_init_shapes, refl), tt))
rules_shape s.FunctionEnd = (([], body_sort, no_body_shapes, refl), ((block_sort ∷ [], body_sort, some_body_shapes, refl), tt))
rules_shape s.Specs = ((spec_sort ∷ [], specs_sort, first_spec_shapes, refl), tt)
rules_shape s.MoreSpecs = ((spec_sort ∷ specs_sort ∷ [], specs_sort, add_spec_shapes, refl), (refl, tt))
rules_shape s.Spec = (refl, (([], spec_sort, keyword_shapes w.Extern, refl), (([], spec_sort, keyword_shapes w.Static, refl), (([], spec_sort, keyword_shapes w.Const, refl), (([], spec_sort, keyword_shapes w.Void, refl), (([], spec_sort, keyword_shapes w.Char, refl), (([], spec_sort, keyword_shapes w.Short, refl), (([], spec_sort, keyword_shapes w.Int, refl), (([], spec_sort, keyword_shapes w.Long, refl), (([], spec_sort, keyword_shapes w.Signed, refl), (([], spec_sort, keyword_shapes w.Unsigned, refl), (refl, tt))))))))))))
rules_shape s.Attribute = ((word_sort ∷ [], names_sort, first_name_shapes, (names_sort ∷ [], spec_sort, an_attribute_shapes, refl)), tt)
rules_shape s.MoreNames = ((word_sort ∷ names_sort ∷ [], names_sort, add_name_shapes, refl), (refl, tt))
rules_shape s.Struct = ((fields_sort ∷ word_sort ∷ [], spec_sort, a_struct_shapes, refl), tt)
rules_shape s.StructBody = ((field_sort ∷ [], fields_sort, first_field_shapes, refl), (([], fields_sort, no_fields_shapes, refl), tt))
rules_shape s.Fields = ((field_sort ∷ fields_sort ∷ [], fields_sort, add_field_shapes, refl), (refl, tt))
rules_shape s.Field = ((declarator_sort ∷ [], declarators_sort, first_declarator_shapes, (declarators_sort ∷ specs_sort ∷ [], field_sort, a_field_shapes, refl)), tt)
rules_shape s.MoreDeclarators = ((declarator_sort ∷ declarators_sort ∷ [], declarators_sort, add_declarator_shapes, refl), (refl, tt))
rules_shape s.Declarator = ((suffix_sort ∷ word_sort ∷ pointer_sort ∷ [], declarator_sort, a_declarator_shapes, refl), tt)
rules_shape s.Star = (([], pointer_sort, star_shapes, refl), (([], pointer_sort, no_star_shapes, refl), tt))
rules_shape s.Suffix = (refl, (([], suffix_sort, no_suffix_shapes, refl), tt))
rules_shape s.Size = ((number_sort ∷ [], suffix_sort, a_size_shapes, refl), (([], suffix_sort, no_size_shapes, refl), tt))
rules_shape s.Init = (refl, (([], init_sort, no_value_shapes, refl), tt))
rules_shape s.InitValue = ((expr_sort ∷ [], init_sort, single_value_shapes, refl), ((expr_sort ∷ [], exprs_sort, first_expr_shapes, (exprs_sort ∷ [], init_sort, brace_list_shapes, refl)), tt))
rules_shape s.InitItems = (refl, (refl, tt))
rules_shape s.InitNext = ((expr_sort ∷ exprs_sort ∷ [], exprs_sort, add_expr_shapes, refl), (refl, tt))
rules_shape s.More = ((init_sort ∷ declarator_sort ∷ inits_sort ∷ [], inits_sort, add_init_shapes, refl), (refl, tt))
rules_shape s.Params = ((param_sort ∷ [], params_sort, first_param_shapes, refl), (([], params_sort, no_params_shapes, refl), tt))
rules_shape s.MoreParams = ((param_sort ∷ params_sort ∷ [], params_sort, add_param_shapes, refl), (refl, tt))
rules_shape s.Param = ((suffix_sort ∷ name_sort ∷ pointer_sort ∷ specs_sort ∷ [], param_sort, a_param_shapes, refl), tt)
rules_shape s.Name = ((word_sort ∷ [], name_sort, some_name_shapes, refl), (([], name_sort, no_name_shapes, refl), tt))
rules_shape s.Block = (([], stmts_sort, no_statements_shapes, (stmts_sort ∷ [], block_sort, a_block_shapes, refl)), tt)
rules_shape s.Items = ((stmt_sort ∷ stmts_sort ∷ [], stmts_sort, add_statement_shapes, refl), (refl, tt))
rules_shape s.Item = ((declaration_sort ∷ [], stmt_sort, declared_shapes, refl), (refl, tt))
rules_shape s.Declaration = ((inits_sort ∷ specs_sort ∷ [], declaration_sort, a_declaration_shapes, refl), tt)
rules_shape s.DeclarationRest = (([], inits_sort, no_declarators_shapes, refl), ((init_sort ∷ declarator_sort ∷ [], inits_sort, first_init_shapes, refl), tt))
rules_shape s.Statement = ((block_sort ∷ [], stmt_sort, block_statement_shapes, refl), (([], stmt_sort, nothing_shapes, refl), ((expr_sort ∷ [], stmt_sort, evaluated_shapes, refl), ((otherwise_sort ∷ stmt_sort ∷ expr_sort ∷ [], stmt_sort, chosen_shapes, refl), ((stmt_sort ∷ expr_sort ∷ [], stmt_sort, while_statement_shapes, refl), ((expr_sort ∷ stmt_sort ∷ [], stmt_sort, do_statement_shapes, refl), ((stmt_sort ∷ maybe_expr_sort ∷ maybe_expr_sort ∷ for_init_sort ∷ [], stmt_sort, for_statement_shapes, refl), ((maybe_expr_sort ∷ [], stmt_sort, returned_shapes, refl), (([], stmt_sort, broken_shapes, refl), (([], stmt_sort, continued_shapes, refl), (([], sections_sort, no_sections_shapes, (sections_sort ∷ expr_sort ∷ [], stmt_sort, switch_statement_shapes, refl)), tt)))))))))))
rules_shape s.ElsePart = ((stmt_sort ∷ [], otherwise_sort, some_else_shapes, refl), (([], otherwise_sort, no_else_shapes, refl), tt))
rules_shape s.ForInit = ((declaration_sort ∷ [], for_init_sort, for_declaration_shapes, refl), (([], for_init_sort, for_nothing_shapes, refl), ((expr_sort ∷ [], for_init_sort, for_expression_shapes, refl), tt)))
rules_shape s.ForStep = ((expr_sort ∷ [], maybe_expr_sort, some_expr_shapes, refl), (([], maybe_expr_sort, no_expr_shapes, refl), tt))
rules_shape s.Opt = ((expr_sort ∷ [], maybe_expr_sort, some_expr_shapes, refl), (([], maybe_expr_sort, no_expr_shapes, refl), tt))
rules_shape s.Expr = ((assign_tail_sort ∷ expr_sort ∷ [], expr_sort, assigned_shapes, refl), tt)
rules_shape s.AssignTail = ((expr_sort ∷ assign_op_sort ∷ [], assign_tail_sort, some_assignment_shapes, refl), (([], assign_tail_sort, no_assignment_shapes, refl), tt))
rules_shape s.Cond = ((cond_tail_sort ∷ expr_sort ∷ [], expr_sort, conditional_shapes, refl), tt)
rules_shape s.CondTail = ((expr_sort ∷ expr_sort ∷ [], cond_tail_sort, some_arms_shapes, refl), (([], cond_tail_sort, no_arms_shapes, refl), tt))
rules_shape s.Unary = ((parens_sort ∷ [], expr_sort, in_parentheses_shapes, refl), ((expr_sort ∷ prefix_op_sort ∷ [], expr_sort, prefixed_shapes, refl), ((expr_sort ∷ [], expr_sort, stepped_shapes p.Increment, refl), ((expr_sort ∷ [], expr_sort, stepped_shapes p.Decrement, refl), (([], postfixes_sort, no_postfixes_shapes, (postfixes_sort ∷ expr_sort ∷ [], expr_sort, with_postfixes_shapes, refl)), tt)))))
rules_shape s.Paren = ((expr_sort ∷ pointer_sort ∷ specs_sort ∷ [], parens_sort, a_cast_shapes, refl), (([], postfixes_sort, no_postfixes_shapes, (postfixes_sort ∷ expr_sort ∷ [], parens_sort, grouped_shapes, refl)), tt))
rules_shape s.Postfixes = ((expr_sort ∷ postfixes_sort ∷ [], postfixes_sort, add_index_shapes, refl), ((exprs_sort ∷ postfixes_sort ∷ [], postfixes_sort, add_call_shapes, refl), ((word_sort ∷ postfixes_sort ∷ [], postfixes_sort, add_dot_shapes, refl), ((word_sort ∷ postfixes_sort ∷ [], postfixes_sort, add_arrow_shapes, refl), ((postfixes_sort ∷ [], postfixes_sort, add_increment_shapes, refl), ((postfixes_sort ∷ [], postfixes_sort, add_decrement_shapes, refl), (refl, tt)))))))
rules_shape s.Arguments = ((expr_sort ∷ [], exprs_sort, first_expr_shapes, refl), (([], exprs_sort, no_exprs_shapes, refl), tt))
rules_shape s.MoreArguments = ((expr_sort ∷ exprs_sort ∷ [], exprs_sort, add_expr_shapes, refl), (refl, tt))
rules_shape s.Primary = ((word_sort ∷ [], expr_sort, a_name_shapes, refl), ((number_sort ∷ [], expr_sort, a_constant_shapes, refl), ((number_sort ∷ [], expr_sort, a_constant_shapes, refl), tt)))
rules_shape s.AssignOp = (([], assign_op_sort, assigning_shapes None, refl), (([], assign_op_sort, assigning_shapes (Some b.Multiply), refl), (([], assign_op_sort, assigning_shapes (Some b.Divide), refl), (([], assign_op_sort, assigning_shapes (Some b.Remainder), refl), (([], assign_op_sort, assigning_shapes (Some b.Add), refl), (([], assign_op_sort, assigning_shapes (Some b.Subtract), refl), (([], assign_op_sort, assigning_shapes (Some b.ShiftLeft), refl), (([], assign_op_sort, assigning_shapes (Some b.ShiftRight), refl), (([], assign_op_sort, assigning_shapes (Some b.BitAnd), refl), (([], assign_op_sort, assigning_shapes (Some b.BitXor), refl), (([], assign_op_sort, assigning_shapes (Some b.BitOr), refl), tt)))))))))))
rules_shape s.UnaryOp = (([], prefix_op_sort, operator_shapes p.AddressOf, refl), (([], prefix_op_sort, operator_shapes p.Dereference, refl), (([], prefix_op_sort, operator_shapes p.Plus, refl), (([], prefix_op_sort, operator_shapes p.Minus, refl), (([], prefix_op_sort, operator_shapes p.Complement, refl), (([], prefix_op_sort, operator_shapes p.Not, refl), tt))))))
rules_shape s.LogicalOr = (([], links_sort, no_links_shapes, (links_sort ∷ expr_sort ∷ [], expr_sort, chain_of_shapes, refl)), tt)
rules_shape s.LogicalOrTail = ((expr_sort ∷ links_sort ∷ [], links_sort, add_link_shapes b.LogicalOr, refl), (refl, tt))
rules_shape s.LogicalAnd = (([], links_sort, no_links_shapes, (links_sort ∷ expr_sort ∷ [], expr_sort, chain_of_shapes, refl)), tt)
rules_shape s.LogicalAndTail = ((expr_sort ∷ links_sort ∷ [], links_sort, add_link_shapes b.LogicalAnd, refl), (refl, tt))
rules_shape s.BitOr = (([], links_sort, no_links_shapes, (links_sort ∷ expr_sort ∷ [], expr_sort, chain_of_shapes, refl)), tt)
rules_shape s.BitOrTail = ((expr_sort ∷ links_sort ∷ [], links_sort, add_link_shapes b.BitOr, refl), (refl, tt))
rules_shape s.BitXor = (([], links_sort, no_links_shapes, (links_sort ∷ expr_sort ∷ [], expr_sort, chain_of_shapes, refl)), tt)
rules_shape s.BitXorTail = ((expr_sort ∷ links_sort ∷ [], links_sort, add_link_shapes b.BitXor, refl), (refl, tt))
rules_shape s.BitAnd = (([], links_sort, no_links_shapes, (links_sort ∷ expr_sort ∷ [], expr_sort, chain_of_shapes, refl)), tt)
rules_shape s.BitAndTail = ((expr_sort ∷ links_sort ∷ [], links_sort, add_link_shapes b.BitAnd, refl), (refl, tt))
rules_shape s.Equality = (([], links_sort, no_links_shapes, (links_sort ∷ expr_sort ∷ [], expr_sort, chain_of_shapes, refl)), tt)
rules_shape s.EqualityTail = ((expr_sort ∷ links_sort ∷ [], links_sort, add_link_shapes b.Equal, refl), ((expr_sort ∷ links_sort ∷ [], links_sort, add_link_shapes b.NotEqual, refl), (refl, tt)))
rules_shape s.Relational = (([], links_sort, no_links_shapes, (links_sort ∷ expr_sort ∷ [], expr_sort, chain_of_shapes, refl)), tt)
rules_shape s.RelationalTail = ((expr_sort ∷ links_sort ∷ [], links_sort, add_link_shapes b.Less, refl), ((expr_sort ∷ links_sort ∷ [], links_sort, add_link_shapes b.Greater, refl), ((expr_sort ∷ links_sort ∷ [], links_sort, add_link_shapes b.LessEqual, refl), ((expr_sort ∷ links_sort ∷ [], links_sort, add_link_shapes b.GreaterEqual, refl), (refl, tt)))))
rules_shape s.Shift = (([], links_sort, no_links_shapes, (links_sort ∷ expr_sort ∷ [], expr_sort, chain_of_shapes, refl)), tt)
rules_shape s.ShiftTail = ((expr_sort ∷ links_sort ∷ [], links_sort, add_link_shapes b.ShiftLeft, refl), ((expr_sort ∷ links_sort ∷ [], links_sort, add_link_shapes b.ShiftRight, refl), (refl, tt)))
rules_shape s.Additive = (([], links_sort, no_links_shapes, (links_sort ∷ expr_sort ∷ [], expr_sort, chain_of_shapes, refl)), tt)
rules_shape s.AdditiveTail = ((expr_sort ∷ links_sort ∷ [], links_sort, add_link_shapes b.Add, refl), ((expr_sort ∷ links_sort ∷ [], links_sort, add_link_shapes b.Subtract, refl), (refl, tt)))
rules_shape s.Multiplicative = (([], links_sort, no_links_shapes, (links_sort ∷ expr_sort ∷ [], expr_sort, chain_of_shapes, refl)), tt)
rules_shape s.MultiplicativeTail = ((expr_sort ∷ links_sort ∷ [], links_sort, add_link_shapes b.Multiply, refl), ((expr_sort ∷ links_sort ∷ [], links_sort, add_link_shapes b.Divide, refl), ((expr_sort ∷ links_sort ∷ [], links_sort, add_link_shapes b.Remainder, refl), (refl, tt))))
rules_shape s.Sections = ((section_sort ∷ sections_sort ∷ [], sections_sort, add_section_shapes, refl), (refl, tt))
rules_shape s.Section = (([], stmts_sort, no_statements_shapes, (stmts_sort ∷ label_sort ∷ [], section_sort, a_section_shapes, refl)), tt)
rules_shape s.Label = ((expr_sort ∷ [], label_sort, a_case_shapes, refl), (([], label_sort, a_default_shapes, refl), tt))
rules_shape s.SectionItems = ((stmt_sort ∷ stmts_sort ∷ [], stmts_sort, add_statement_shapes, refl), (refl, tt))

abbrev pub FoundShapes : Symbol → Option ℕ → Type 0
FoundShapes x None = Unit {0}
FoundShapes x (Some n) = RuleShapes x n

find_shapes : (x : Symbol) (test : ℕ → Bool) (ns : List ℕ) → Each (RuleShapes x) ns → FoundShapes x (find test ns)
find_shapes x test [] all = tt
find_shapes x test (n ∷ ns) all = go (test n) (find_shapes x test ns all.1)
  where
    go : (b : Bool) → FoundShapes x (find test ns) → FoundShapes x (cond b (Some n) (find test ns))
    go true rest = all.0
    go false rest = rest

shapes_at_end : (x : Symbol) → FoundShapes x (rule_at x None)
shapes_at_end s.TranslationUnit = refl
shapes_at_end x = tt

-- the rule by which a symbol goes on
pub rule_shapes : (x : Symbol) (o : Option Token) → FoundShapes x (rule_at x o)
rule_shapes x None = shapes_at_end x
rule_shapes x (Some t) = find_shapes x (leads_to t.kind) (alternatives_of x) (rules_shape x)
