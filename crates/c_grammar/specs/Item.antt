-- A rule of the grammar.
use Rattle.std.specs.Prelude.{List}
use Rattle.pt_base.specs.declared.span.Span.{Span}
use Rattle.c_lexer.specs.declared.token.TokenKind.{TokenKind}
use Rattle.c_grammar.specs.declared.symbol.Symbol.{Symbol}
use Rattle.c_grammar.specs.Part.{Part}

-- What stands on the right of a rule: a token, a symbol, a symbol that is counted for nesting, and
-- what is built from the parts so far, given the span from the rule's first to past its last token.
pub data Item : Type 0 where
  token : TokenKind → Item
  symbol : Symbol → Item
  counted : Symbol → Item
  build : (Span → List Part → List Part) → Item

pub data Rule : Type 0 where
  rule : Symbol → List Item → Rule
