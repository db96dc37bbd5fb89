-- The levels by their places, the tightest first: what is wanted behind an operand of no level, and
-- which levels have no more operands at a token.
use Rattle.std.specs.Prelude.{◌≡◌, ℕ, zero, suc, ◌-◌, ◌<◌, List, [], ◌∷◌, ◌++◌, Some, get_or}
use Rattle.c_lexer.specs.declared.token.Token.{Token}
use Rattle.c_lexer.specs.declared.token.TokenKind.{TokenKind}
use Rattle.c_lexer.specs.declared.token.TokenKind.TheVariants as k
use Rattle.c_grammar.specs.declared.symbol.Symbol.TheVariants.{Unary}
use Rattle.c_grammar.specs.Part.{Part}
use Rattle.c_grammar.specs.Builds.{no_links, chain_of}
use Rattle.c_grammar.specs.Machine.{Entry, gives, builds, Outcome}
use Rattle.c_parser.specs.declared.operators.Level.{Level}
use Rattle.c_parser.specs.declared.operators.Level.TheVariants as l
use Rattle.c_parser.specs.Levels.{symbol_of, tail_of, number_of}
use Rattle.c_parser.specs.Parses.{Comes, row_at}

abbrev pub level_at : ℕ → Level
level_at position = get_or (l.Multiplicative ∷ l.Additive ∷ l.Shift ∷ l.Relational ∷ l.Equality ∷ l.BitAnd ∷ l.BitXor ∷ l.BitOr ∷ l.LogicalAnd ∷ l.LogicalOr ∷ []) position l.LogicalOr

-- what is wanted behind an operand at so many levels from this place on, where the operand began there
abbrev pub behind : ℕ → ℕ → ℕ → List Entry
behind from zero position = []
behind from (suc n) position = builds from no_links ∷ gives (tail_of (level_at position)) ∷ builds from chain_of ∷ behind from n (suc position)

-- the symbol of the level gives way to an operand of no level and what is wanted behind it
pub record Descends (tokens : List Token) (level : Level) (at : ℕ) : Type 0 where
  pub from : (depth : ℕ) (rest : List Entry) (parts : List Part) (o : Outcome) → Comes tokens (gives Unary ∷ behind at (10 - number_of level) 0 ++ rest) at depth parts o → Comes tokens (gives (symbol_of level) ∷ rest) at depth parts o

-- the rule of a level's tail that is empty
abbrev pub end_of_level : Level → ℕ
end_of_level l.LogicalOr = 133
end_of_level l.LogicalAnd = 136
end_of_level l.BitOr = 139
end_of_level l.BitXor = 142
end_of_level l.BitAnd = 145
end_of_level l.Equality = 149
end_of_level l.Relational = 155
end_of_level l.Shift = 159
end_of_level l.Additive = 163
end_of_level l.Multiplicative = 168

-- so many levels, from the tightest on, have no more operands there
abbrev pub EndsBelow : List Token → ℕ → ℕ → Type 0
EndsBelow tokens at n = (position : ℕ) → position < n → row_at tokens (tail_of (level_at position)) at ≡ Some (end_of_level (level_at position))

-- how many do so at a token: the tighter ones before an operator, and all before what can follow an expression
abbrev pub ended_at : TokenKind → ℕ
ended_at k.Plus = 1
ended_at k.Minus = 1
ended_at k.ShiftLeft = 2
ended_at k.ShiftRight = 2
ended_at k.Less = 3
ended_at k.Greater = 3
ended_at k.LessEqual = 3
ended_at k.GreaterEqual = 3
ended_at k.EqualEqual = 4
ended_at k.BangEqual = 4
ended_at k.Amp = 5
ended_at k.Caret = 6
ended_at k.Pipe = 7
ended_at k.AmpAmp = 8
ended_at k.PipePipe = 9
ended_at k.CloseBracket = 10
ended_at k.CloseParen = 10
ended_at k.CloseBrace = 10
ended_at k.Question = 10
ended_at k.Colon = 10
ended_at k.Semicolon = 10
ended_at k.Equal = 10
ended_at k.StarEqual = 10
ended_at k.SlashEqual = 10
ended_at k.PercentEqual = 10
ended_at k.PlusEqual = 10
ended_at k.MinusEqual = 10
ended_at k.ShiftLeftEqual = 10
ended_at k.ShiftRightEqual = 10
ended_at k.AmpEqual = 10
ended_at k.CaretEqual = 10
ended_at k.PipeEqual = 10
ended_at k.Comma = 10
ended_at k = 0
