-- The grammar: its rules in the order of their numbers, counted from 1. What a rule builds stands
-- where it is built, behind the parts that it is built from.
use Rattle.std.specs.Prelude.{List, [], ◌∷◌, Some, None}
use Rattle.c_lexer.specs.declared.token.TokenKind.TheVariants as k
use Rattle.pt_tree.specs.declared.operator.BinaryOp.TheVariants as b
use Rattle.pt_tree.specs.declared.operator.PrefixOp.TheVariants as p
use Rattle.pt_tree.specs.declared.specifier.SpecWord.TheVariants as w
use Rattle.c_grammar.specs.declared.symbol.Symbol.TheVariants as s
use Rattle.c_grammar.specs.Item.{token, symbol, counted, build, Rule, rule}
use Rattle.c_grammar.specs.Builds.{add_item, an_item, no_declarators, function_rest, first_init, no_body, some_body, first_spec, add_spec, keyword, first_name, an_attribute, add_name, a_struct, first_field, no_fields, add_field, first_declarator, a_field, add_declarator, a_declarator, star, no_star, no_suffix, a_size, no_size, no_value, single_value, first_expr, brace_list, add_expr, add_init, first_param, no_params, add_param, a_param, some_name, no_name, no_statements, a_block, add_statement, declared, a_declaration, block_statement, nothing, evaluated, chosen, while_statement, do_statement, for_statement, returned, broken, continued, some_else, no_else, for_declaration, for_nothing, for_expression, some_expr, no_expr, assigned, some_assignment, no_assignment, conditional, some_arms, no_arms, in_parentheses, prefixed, stepped, no_postfixes, with_postfixes, a_cast, grouped, add_index, add_call, add_dot, add_arrow, add_increment, add_decrement, no_exprs, a_name, a_constant, assigning, operator, no_links, chain_of, add_link, no_sections, switch_statement, add_section, a_section, a_case, a_default}

abbrev pub grammar : List Rule
grammar =
    rule s.TranslationUnit (symbol s.External ∷ build add_item ∷ symbol s.TranslationUnit ∷ []) ∷
    rule s.TranslationUnit ([]) ∷
    rule s.External (symbol s.Specs ∷ symbol s.ExternalRest ∷ build an_item ∷ []) ∷
    rule s.ExternalRest (token k.Semicolon ∷ build no_declarators ∷ []) ∷
    rule s.ExternalRest (symbol s.Declarator ∷ symbol s.ExternalTail ∷ []) ∷
    rule s.ExternalTail (token k.OpenParen ∷ symbol s.Params ∷ token k.CloseParen ∷ symbol s.FunctionEnd ∷ build function_rest ∷ []) ∷
    rule s.ExternalTail (symbol s.Init ∷ build first_init ∷ symbol s.More ∷ token k.Semicolon ∷ []) ∷
    rule s.FunctionEnd (token k.Semicolon ∷ build no_body ∷ []) ∷
    rule s.FunctionEnd (symbol s.Block ∷ build some_body ∷ []) ∷
    rule s.Specs (symbol s.Spec ∷ build first_spec ∷ symbol s.MoreSpecs ∷ []) ∷
    rule s.MoreSpecs (symbol s.Spec ∷ build add_spec ∷ symbol s.MoreSpecs ∷ []) ∷
    rule s.MoreSpecs ([]) ∷
    rule s.Spec (symbol s.Attribute ∷ []) ∷
    rule s.Spec (token k.Extern ∷ build (keyword w.Extern) ∷ []) ∷
    rule s.Spec (token k.Static ∷ build (keyword w.Static) ∷ []) ∷
    rule s.Spec (token k.Const ∷ build (keyword w.Const) ∷ []) ∷
    rule s.Spec (token k.Void ∷ build (keyword w.Void) ∷ []) ∷
    rule s.Spec (token k.Char ∷ build (keyword w.Char) ∷ []) ∷
    rule s.Spec (token k.Short ∷ build (keyword w.Short) ∷ []) ∷
    rule s.Spec (token k.Int ∷ build (keyword w.Int) ∷ []) ∷
    rule s.Spec (token k.Long ∷ build (keyword w.Long) ∷ []) ∷
    rule s.Spec (token k.Signed ∷ build (keyword w.Signed) ∷ []) ∷
    rule s.Spec (token k.Unsigned ∷ build (keyword w.Unsigned) ∷ []) ∷
    rule s.Spec (symbol s.Struct ∷ []) ∷
    rule s.Attribute (token k.Attribute ∷ token k.OpenParen ∷ token k.OpenParen ∷ token k.Identifier ∷ build first_name ∷ symbol s.MoreNames ∷ token k.CloseParen ∷ token k.CloseParen ∷ build an_attribute ∷ []) ∷
    rule s.MoreNames (token k.Comma ∷ token k.Identifier ∷ build add_name ∷ symbol s.MoreNames ∷ []) ∷
    rule s.MoreNames ([]) ∷
    rule s.Struct (token k.Struct ∷ token k.Identifier ∷ symbol s.StructBody ∷ build a_struct ∷ []) ∷
    rule s.StructBody (token k.OpenBrace ∷ counted s.Field ∷ build first_field ∷ symbol s.Fields ∷ token k.CloseBrace ∷ []) ∷
    rule s.StructBody (build no_fields ∷ []) ∷
    rule s.Fields (counted s.Field ∷ build add_field ∷ symbol s.Fields ∷ []) ∷
    rule s.Fields ([]) ∷
    rule s.Field (symbol s.Specs ∷ symbol s.Declarator ∷ build first_declarator ∷ symbol s.MoreDeclarators ∷ token k.Semicolon ∷ build a_field ∷ []) ∷
    rule s.MoreDeclarators (token k.Comma ∷ symbol s.Declarator ∷ build add_declarator ∷ symbol s.MoreDeclarators ∷ []) ∷
    rule s.MoreDeclarators ([]) ∷
    rule s.Declarator (symbol s.Star ∷ token k.Identifier ∷ symbol s.Suffix ∷ build a_declarator ∷ []) ∷
    rule s.Star (token k.Star ∷ build star ∷ []) ∷
    rule s.Star (build no_star ∷ []) ∷
    rule s.Suffix (token k.OpenBracket ∷ symbol s.Size ∷ token k.CloseBracket ∷ []) ∷
    rule s.Suffix (build no_suffix ∷ []) ∷
    rule s.Size (token k.Number ∷ build a_size ∷ []) ∷
    rule s.Size (build no_size ∷ []) ∷
    rule s.Init (token k.Equal ∷ symbol s.InitValue ∷ []) ∷
    rule s.Init (build no_value ∷ []) ∷
    rule s.InitValue (counted s.Expr ∷ build single_value ∷ []) ∷
    rule s.InitValue (token k.OpenBrace ∷ counted s.Expr ∷ build first_expr ∷ symbol s.InitItems ∷ token k.CloseBrace ∷ build brace_list ∷ []) ∷
    rule s.InitItems (token k.Comma ∷ symbol s.InitNext ∷ []) ∷
    rule s.InitItems ([]) ∷
    rule s.InitNext (counted s.Expr ∷ build add_expr ∷ symbol s.InitItems ∷ []) ∷
    rule s.InitNext ([]) ∷
    rule s.More (token k.Comma ∷ symbol s.Declarator ∷ symbol s.Init ∷ build add_init ∷ symbol s.More ∷ []) ∷
    rule s.More ([]) ∷
    rule s.Params (symbol s.Param ∷ build first_param ∷ symbol s.MoreParams ∷ []) ∷
    rule s.Params (build no_params ∷ []) ∷
    rule s.MoreParams (token k.Comma ∷ symbol s.Param ∷ build add_param ∷ symbol s.MoreParams ∷ []) ∷
    rule s.MoreParams ([]) ∷
    rule s.Param (symbol s.Specs ∷ symbol s.Star ∷ symbol s.Name ∷ symbol s.Suffix ∷ build a_param ∷ []) ∷
    rule s.Name (token k.Identifier ∷ build some_name ∷ []) ∷
    rule s.Name (build no_name ∷ []) ∷
    rule s.Block (token k.OpenBrace ∷ build no_statements ∷ symbol s.Items ∷ token k.CloseBrace ∷ build a_block ∷ []) ∷
    rule s.Items (symbol s.Item ∷ build add_statement ∷ symbol s.Items ∷ []) ∷
    rule s.Items ([]) ∷
    rule s.Item (symbol s.Declaration ∷ build declared ∷ []) ∷
    rule s.Item (counted s.Statement ∷ []) ∷
    rule s.Declaration (symbol s.Specs ∷ symbol s.DeclarationRest ∷ build a_declaration ∷ []) ∷
    rule s.DeclarationRest (token k.Semicolon ∷ build no_declarators ∷ []) ∷
    rule s.DeclarationRest (symbol s.Declarator ∷ symbol s.Init ∷ build first_init ∷ symbol s.More ∷ token k.Semicolon ∷ []) ∷
    rule s.Statement (symbol s.Block ∷ build block_statement ∷ []) ∷
    rule s.Statement (token k.Semicolon ∷ build nothing ∷ []) ∷
    rule s.Statement (counted s.Expr ∷ token k.Semicolon ∷ build evaluated ∷ []) ∷
    rule s.Statement (token k.If ∷ token k.OpenParen ∷ counted s.Expr ∷ token k.CloseParen ∷ counted s.Statement ∷ symbol s.ElsePart ∷ build chosen ∷ []) ∷
    rule s.Statement (token k.While ∷ token k.OpenParen ∷ counted s.Expr ∷ token k.CloseParen ∷ counted s.Statement ∷ build while_statement ∷ []) ∷
    rule s.Statement (token k.Do ∷ counted s.Statement ∷ token k.While ∷ token k.OpenParen ∷ counted s.Expr ∷ token k.CloseParen ∷ token k.Semicolon ∷ build do_statement ∷ []) ∷
    rule s.Statement (token k.For ∷ token k.OpenParen ∷ symbol s.ForInit ∷ symbol s.Opt ∷ token k.Semicolon ∷ symbol s.ForStep ∷ token k.CloseParen ∷ counted s.Statement ∷ build for_statement ∷ []) ∷
    rule s.Statement (token k.Return ∷ symbol s.Opt ∷ token k.Semicolon ∷ build returned ∷ []) ∷
    rule s.Statement (token k.Break ∷ token k.Semicolon ∷ build broken ∷ []) ∷
    rule s.Statement (token k.Continue ∷ token k.Semicolon ∷ build continued ∷ []) ∷
    rule s.ElsePart (token k.Else ∷ counted s.Statement ∷ build some_else ∷ []) ∷
    rule s.ElsePart (build no_else ∷ []) ∷
    rule s.ForInit (symbol s.Declaration ∷ build for_declaration ∷ []) ∷
    rule s.ForInit (token k.Semicolon ∷ build for_nothing ∷ []) ∷
    rule s.ForInit (counted s.Expr ∷ token k.Semicolon ∷ build for_expression ∷ []) ∷
    rule s.ForStep (counted s.Expr ∷ build some_expr ∷ []) ∷
    rule s.ForStep (build no_expr ∷ []) ∷
    rule s.Opt (counted s.Expr ∷ build some_expr ∷ []) ∷
    rule s.Opt (build no_expr ∷ []) ∷
    rule s.Expr (symbol s.Cond ∷ symbol s.AssignTail ∷ build assigned ∷ []) ∷
    rule s.AssignTail (symbol s.AssignOp ∷ counted s.Expr ∷ build some_assignment ∷ []) ∷
    rule s.AssignTail (build no_assignment ∷ []) ∷
    rule s.Cond (symbol s.LogicalOr ∷ symbol s.CondTail ∷ build conditional ∷ []) ∷
    rule s.CondTail (token k.Question ∷ counted s.Expr ∷ token k.Colon ∷ counted s.Cond ∷ build some_arms ∷ []) ∷
    rule s.CondTail (build no_arms ∷ []) ∷
    rule s.Unary (token k.OpenParen ∷ symbol s.Paren ∷ build in_parentheses ∷ []) ∷
    rule s.Unary (symbol s.UnaryOp ∷ counted s.Unary ∷ build prefixed ∷ []) ∷
    rule s.Unary (token k.PlusPlus ∷ counted s.Unary ∷ build (stepped p.Increment) ∷ []) ∷
    rule s.Unary (token k.MinusMinus ∷ counted s.Unary ∷ build (stepped p.Decrement) ∷ []) ∷
    rule s.Unary (symbol s.Primary ∷ build no_postfixes ∷ symbol s.Postfixes ∷ build with_postfixes ∷ []) ∷
    rule s.Paren (symbol s.Specs ∷ symbol s.Star ∷ token k.CloseParen ∷ counted s.Unary ∷ build a_cast ∷ []) ∷
    rule s.Paren (counted s.Expr ∷ token k.CloseParen ∷ build no_postfixes ∷ symbol s.Postfixes ∷ build grouped ∷ []) ∷
    rule s.Postfixes (token k.OpenBracket ∷ counted s.Expr ∷ token k.CloseBracket ∷ build add_index ∷ symbol s.Postfixes ∷ []) ∷
    rule s.Postfixes (token k.OpenParen ∷ symbol s.Arguments ∷ token k.CloseParen ∷ build add_call ∷ symbol s.Postfixes ∷ []) ∷
    rule s.Postfixes (token k.Dot ∷ token k.Identifier ∷ build add_dot ∷ symbol s.Postfixes ∷ []) ∷
    rule s.Postfixes (token k.Arrow ∷ token k.Identifier ∷ build add_arrow ∷ symbol s.Postfixes ∷ []) ∷
    rule s.Postfixes (token k.PlusPlus ∷ build add_increment ∷ symbol s.Postfixes ∷ []) ∷
    rule s.Postfixes (token k.MinusMinus ∷ build add_decrement ∷ symbol s.Postfixes ∷ []) ∷
    rule s.Postfixes ([]) ∷
    rule s.Arguments (counted s.Expr ∷ build first_expr ∷ symbol s.MoreArguments ∷ []) ∷
    rule s.Arguments (build no_exprs ∷ []) ∷
    rule s.MoreArguments (token k.Comma ∷ counted s.Expr ∷ build add_expr ∷ symbol s.MoreArguments ∷ []) ∷
    rule s.MoreArguments ([]) ∷
    rule s.Primary (token k.Identifier ∷ build a_name ∷ []) ∷
    rule s.Primary (token k.Number ∷ build a_constant ∷ []) ∷
    rule s.Primary (token k.Character ∷ build a_constant ∷ []) ∷
    rule s.AssignOp (token k.Equal ∷ build (assigning None) ∷ []) ∷
    rule s.AssignOp (token k.StarEqual ∷ build (assigning (Some b.Multiply)) ∷ []) ∷
    rule s.AssignOp (token k.SlashEqual ∷ build (assigning (Some b.Divide)) ∷ []) ∷
    rule s.AssignOp (token k.PercentEqual ∷ build (assigning (Some b.Remainder)) ∷ []) ∷
    rule s.AssignOp (token k.PlusEqual ∷ build (assigning (Some b.Add)) ∷ []) ∷
    rule s.AssignOp (token k.MinusEqual ∷ build (assigning (Some b.Subtract)) ∷ []) ∷
    rule s.AssignOp (token k.ShiftLeftEqual ∷ build (assigning (Some b.ShiftLeft)) ∷ []) ∷
    rule s.AssignOp (token k.ShiftRightEqual ∷ build (assigning (Some b.ShiftRight)) ∷ []) ∷
    rule s.AssignOp (token k.AmpEqual ∷ build (assigning (Some b.BitAnd)) ∷ []) ∷
    rule s.AssignOp (token k.CaretEqual ∷ build (assigning (Some b.BitXor)) ∷ []) ∷
    rule s.AssignOp (token k.PipeEqual ∷ build (assigning (Some b.BitOr)) ∷ []) ∷
    rule s.UnaryOp (token k.Amp ∷ build (operator p.AddressOf) ∷ []) ∷
    rule s.UnaryOp (token k.Star ∷ build (operator p.Dereference) ∷ []) ∷
    rule s.UnaryOp (token k.Plus ∷ build (operator p.Plus) ∷ []) ∷
    rule s.UnaryOp (token k.Minus ∷ build (operator p.Minus) ∷ []) ∷
    rule s.UnaryOp (token k.Tilde ∷ build (operator p.Complement) ∷ []) ∷
    rule s.UnaryOp (token k.Bang ∷ build (operator p.Not) ∷ []) ∷
    rule s.LogicalOr (symbol s.LogicalAnd ∷ build no_links ∷ symbol s.LogicalOrTail ∷ build chain_of ∷ []) ∷
    rule s.LogicalOrTail (token k.PipePipe ∷ symbol s.LogicalAnd ∷ build (add_link b.LogicalOr) ∷ symbol s.LogicalOrTail ∷ []) ∷
    rule s.LogicalOrTail ([]) ∷
    rule s.LogicalAnd (symbol s.BitOr ∷ build no_links ∷ symbol s.LogicalAndTail ∷ build chain_of ∷ []) ∷
    rule s.LogicalAndTail (token k.AmpAmp ∷ symbol s.BitOr ∷ build (add_link b.LogicalAnd) ∷ symbol s.LogicalAndTail ∷ []) ∷
    rule s.LogicalAndTail ([]) ∷
    rule s.BitOr (symbol s.BitXor ∷ build no_links ∷ symbol s.BitOrTail ∷ build chain_of ∷ []) ∷
    rule s.BitOrTail (token k.Pipe ∷ symbol s.BitXor ∷ build (add_link b.BitOr) ∷ symbol s.BitOrTail ∷ []) ∷
    rule s.BitOrTail ([]) ∷
    rule s.BitXor (symbol s.BitAnd ∷ build no_links ∷ symbol s.BitXorTail ∷ build chain_of ∷ []) ∷
    rule s.BitXorTail (token k.Caret ∷ symbol s.BitAnd ∷ build (add_link b.BitXor) ∷ symbol s.BitXorTail ∷ []) ∷
    rule s.BitXorTail ([]) ∷
    rule s.BitAnd (symbol s.Equality ∷ build no_links ∷ symbol s.BitAndTail ∷ build chain_of ∷ []) ∷
    rule s.BitAndTail (token k.Amp ∷ symbol s.Equality ∷ build (add_link b.BitAnd) ∷ symbol s.BitAndTail ∷ []) ∷
    rule s.BitAndTail ([]) ∷
    rule s.Equality (symbol s.Relational ∷ build no_links ∷ symbol s.EqualityTail ∷ build chain_of ∷ []) ∷
    rule s.EqualityTail (token k.EqualEqual ∷ symbol s.Relational ∷ build (add_link b.Equal) ∷ symbol s.EqualityTail ∷ []) ∷
    rule s.EqualityTail (token k.BangEqual ∷ symbol s.Relational ∷ build (add_link b.NotEqual) ∷ symbol s.EqualityTail ∷ []) ∷
    rule s.EqualityTail ([]) ∷
    rule s.Relational (symbol s.Shift ∷ build no_links ∷ symbol s.RelationalTail ∷ build chain_of ∷ []) ∷
    rule s.RelationalTail (token k.Less ∷ symbol s.Shift ∷ build (add_link b.Less) ∷ symbol s.RelationalTail ∷ []) ∷
    rule s.RelationalTail (token k.Greater ∷ symbol s.Shift ∷ build (add_link b.Greater) ∷ symbol s.RelationalTail ∷ []) ∷
    rule s.RelationalTail (token k.LessEqual ∷ symbol s.Shift ∷ build (add_link b.LessEqual) ∷ symbol s.RelationalTail ∷ []) ∷
    rule s.RelationalTail (token k.GreaterEqual ∷ symbol s.Shift ∷ build (add_link b.GreaterEqual) ∷ symbol s.RelationalTail ∷ []) ∷
    rule s.RelationalTail ([]) ∷
    rule s.Shift (symbol s.Additive ∷ build no_links ∷ symbol s.ShiftTail ∷ build chain_of ∷ []) ∷
    rule s.ShiftTail (token k.ShiftLeft ∷ symbol s.Additive ∷ build (add_link b.ShiftLeft) ∷ symbol s.ShiftTail ∷ []) ∷
    rule s.ShiftTail (token k.ShiftRight ∷ symbol s.Additive ∷ build (add_link b.ShiftRight) ∷ symbol s.ShiftTail ∷ []) ∷
    rule s.ShiftTail ([]) ∷
    rule s.Additive (symbol s.Multiplicative ∷ build no_links ∷ symbol s.AdditiveTail ∷ build chain_of ∷ []) ∷
    rule s.AdditiveTail (token k.Plus ∷ symbol s.Multiplicative ∷ build (add_link b.Add) ∷ symbol s.AdditiveTail ∷ []) ∷
    rule s.AdditiveTail (token k.Minus ∷ symbol s.Multiplicative ∷ build (add_link b.Subtract) ∷ symbol s.AdditiveTail ∷ []) ∷
    rule s.AdditiveTail ([]) ∷
    rule s.Multiplicative (symbol s.Unary ∷ build no_links ∷ symbol s.MultiplicativeTail ∷ build chain_of ∷ []) ∷
    rule s.MultiplicativeTail (token k.Star ∷ symbol s.Unary ∷ build (add_link b.Multiply) ∷ symbol s.MultiplicativeTail ∷ []) ∷
    rule s.MultiplicativeTail (token k.Slash ∷ symbol s.Unary ∷ build (add_link b.Divide) ∷ symbol s.MultiplicativeTail ∷ []) ∷
    rule s.MultiplicativeTail (token k.Percent ∷ symbol s.Unary ∷ build (add_link b.Remainder) ∷ symbol s.MultiplicativeTail ∷ []) ∷
    rule s.MultiplicativeTail ([]) ∷
    rule s.Statement (token k.Switch ∷ token k.OpenParen ∷ counted s.Expr ∷ token k.CloseParen ∷ token k.OpenBrace ∷ build no_sections ∷ symbol s.Sections ∷ token k.CloseBrace ∷ build switch_statement ∷ []) ∷
    rule s.Sections (symbol s.Section ∷ build add_section ∷ symbol s.Sections ∷ []) ∷
    rule s.Sections ([]) ∷
    rule s.Section (symbol s.Label ∷ build no_statements ∷ symbol s.SectionItems ∷ build a_section ∷ []) ∷
    rule s.Label (token k.Case ∷ symbol s.Cond ∷ token k.Colon ∷ build a_case ∷ []) ∷
    rule s.Label (token k.Default ∷ token k.Colon ∷ build a_default ∷ []) ∷
    rule s.SectionItems (counted s.Statement ∷ build add_statement ∷ symbol s.SectionItems ∷ []) ∷
    rule s.SectionItems ([]) ∷
    []
