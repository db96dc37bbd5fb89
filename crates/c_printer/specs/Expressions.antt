-- The words of expressions. Parentheses stand where the tree needs them, and nowhere else.
use Rattle.std.specs.Prelude.{ℕ, ◌+◌, List, [], ◌∷◌, ◌++◌, Bool, true, false, if◌then◌else◌, nat_le}
use Rattle.c_lexer.specs.declared.token.TokenKind.TheVariants as k
use Rattle.pt_tree.specs.ExpressionTree.{ExprTree, name, constant, prefix, cast, postfix, chain, choice, assign, ExprTrees, no_exprs, expr_and, LinkTree, link, LinkTrees, no_links, link_and, PostfixTree, index, call, dot, arrow, increment, decrement, PostfixTrees, no_postfixes, postfix_and}
use Rattle.pt_tree.specs.SpecifierTree.{SpecTrees}
use Rattle.c_printer.specs.Pieces.{Gap, tight, spaced, Piece, fixed, named, number}
use Rattle.c_printer.specs.Kinds.{operator_kind, prefix_kind, assignment_kind, binding, chain_binding, tightness}
use Rattle.c_printer.specs.Specifiers.{specifiers}

abbrev pub in_parentheses : (Gap → List Piece) → Gap → List Piece
in_parentheses words gap = fixed gap k.OpenParen ∷ (words tight ++ (fixed tight k.CloseParen ∷ []))

-- an operand whose words these are, in parentheses if it binds less tightly than that
abbrev pub operand : ℕ → ExprTree → (Gap → List Piece) → Gap → List Piece
operand least e words gap = if nat_le least (tightness e) then words gap else in_parentheses words gap

-- two operators before an operand stand apart, or `- -` would be `--`
abbrev pub behind_prefix : ExprTree → Gap
behind_prefix (prefix at op a) = spaced
behind_prefix e = tight

abbrev pub cast_star : Bool → List Piece
cast_star true = fixed spaced k.Star ∷ []
cast_star false = []

abbrev mutual
  pub expression : ExprTree → Gap → List Piece
  expression (name w) gap = named gap w.bytes ∷ []
  expression (constant c) gap = number gap c.value c.ty ∷ []
  expression (prefix at op a) gap = fixed gap (prefix_kind op) ∷ operand 12 a (expression a) (behind_prefix a)
  expression (cast at specs pointer a) gap = fixed gap k.OpenParen ∷ (specifiers specs tight ++ (cast_star pointer ++ (fixed tight k.CloseParen ∷ operand 12 a (expression a) tight)))
  expression (postfix at a ps) gap = operand 14 a (expression a) gap ++ postfixes ps
  expression (chain at a ls) gap = operand (chain_binding ls + 1) a (expression a) gap ++ links ls
  expression (choice at a b c) gap = operand 2 a (expression a) gap ++ (fixed spaced k.Question ∷ (expression b spaced ++ (fixed spaced k.Colon ∷ operand 1 c (expression c) spaced)))
  expression (assign at op a b) gap = operand 1 a (expression a) gap ++ (fixed spaced (assignment_kind op) ∷ expression b spaced)

  pub links : LinkTrees → List Piece
  links no_links = []
  links (link_and l rest) = link_words l ++ links rest

  pub link_words : LinkTree → List Piece
  link_words (link at op b) = fixed spaced (operator_kind op) ∷ operand (binding op + 1) b (expression b) spaced

  pub postfixes : PostfixTrees → List Piece
  postfixes no_postfixes = []
  postfixes (postfix_and p rest) = postfix_words p ++ postfixes rest

  pub postfix_words : PostfixTree → List Piece
  postfix_words (index at e) = fixed tight k.OpenBracket ∷ (expression e tight ++ (fixed tight k.CloseBracket ∷ []))
  postfix_words (call at given) = fixed tight k.OpenParen ∷ (expressions given ++ (fixed tight k.CloseParen ∷ []))
  postfix_words (dot at w) = fixed tight k.Dot ∷ named tight w.bytes ∷ []
  postfix_words (arrow at w) = fixed tight k.Arrow ∷ named tight w.bytes ∷ []
  postfix_words (increment at) = fixed tight k.PlusPlus ∷ []
  postfix_words (decrement at) = fixed tight k.MinusMinus ∷ []

  -- divided by commas
  pub expressions : ExprTrees → List Piece
  expressions no_exprs = []
  expressions (expr_and e rest) = expression e tight ++ more_expressions rest

  pub more_expressions : ExprTrees → List Piece
  more_expressions no_exprs = []
  more_expressions (expr_and e rest) = fixed tight k.Comma ∷ (expression e spaced ++ more_expressions rest)

-- an expression of a list: the first, or a further one
abbrev pub listed : Bool → ExprTree → List Piece
listed true e = expression e tight
listed false e = fixed tight k.Comma ∷ expression e spaced

-- the expressions of a list from its first on, or from a further one on
abbrev pub list_from : Bool → ExprTrees → List Piece
list_from true es = expressions es
list_from false es = more_expressions es

-- what stands before the operand of a cast
abbrev pub cast_words : SpecTrees → Bool → Gap → List Piece
cast_words specs pointer gap = fixed gap k.OpenParen ∷ (specifiers specs tight ++ (cast_star pointer ++ (fixed tight k.CloseParen ∷ [])))

-- the arguments of a call
abbrev pub call_words : ExprTrees → List Piece
call_words given = fixed tight k.OpenParen ∷ (expressions given ++ (fixed tight k.CloseParen ∷ []))
