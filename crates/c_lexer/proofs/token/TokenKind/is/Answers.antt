use Rattle.std.proofs.Common.{rules, sym, ◌∙◌}
use denote.Enum.Bare.{same_true, true_same}
use Rattle.c_lexer.specs.contracts.token.TokenKind.{the_type}
use Rattle.c_lexer.proofs.token.TokenKind.is.Goals as goal

-- the derived `==` compares the variants' numbers, and a variant without fields is told by its number
pub returns : goal.returns
returns c = (
  λ is. same_true the_type (search rules) _ _ (sym c.eq.ensures ∙ is),
  λ same. c.eq.ensures ∙ true_same the_type _ _ same,
)
