-- The ten levels of the operators with two operands: their symbols, and which rule is which operator.
use Rattle.std.specs.Prelude.{ℕ, List, [], ◌∷◌, Option, Some, None, nat_eq, option_map}
use Rattle.std.specs.List.{find}
use Rattle.c_lexer.specs.declared.token.Token.{Token}
use Rattle.c_lexer.specs.declared.token.TokenKind.{TokenKind}
use Rattle.c_lexer.specs.declared.token.TokenKind.TheVariants as k
use Rattle.pt_tree.specs.declared.operator.BinaryOp.{BinaryOp}
use Rattle.pt_tree.specs.declared.operator.BinaryOp.TheVariants as b
use Rattle.c_grammar.specs.declared.symbol.Symbol.{Symbol}
use Rattle.c_grammar.specs.declared.symbol.Symbol.TheVariants as s
use Rattle.c_grammar.specs.Part.{Part}
use Rattle.c_grammar.specs.Builds.{add_link}
use Rattle.c_grammar.specs.Machine.{Entry, takes, gives, builds, Outcome}
use Rattle.c_parser.specs.declared.operators.Level.{Level}
use Rattle.c_parser.specs.declared.operators.Level.TheVariants as l
use Rattle.c_parser.specs.Parses.{Comes}

abbrev pub symbol_of : Level → Symbol
symbol_of l.LogicalOr = s.LogicalOr
symbol_of l.LogicalAnd = s.LogicalAnd
symbol_of l.BitOr = s.BitOr
symbol_of l.BitXor = s.BitXor
symbol_of l.BitAnd = s.BitAnd
symbol_of l.Equality = s.Equality
symbol_of l.Relational = s.Relational
symbol_of l.Shift = s.Shift
symbol_of l.Additive = s.Additive
symbol_of l.Multiplicative = s.Multiplicative

abbrev pub tail_of : Level → Symbol
tail_of l.LogicalOr = s.LogicalOrTail
tail_of l.LogicalAnd = s.LogicalAndTail
tail_of l.BitOr = s.BitOrTail
tail_of l.BitXor = s.BitXorTail
tail_of l.BitAnd = s.BitAndTail
tail_of l.Equality = s.EqualityTail
tail_of l.Relational = s.RelationalTail
tail_of l.Shift = s.ShiftTail
tail_of l.Additive = s.AdditiveTail
tail_of l.Multiplicative = s.MultiplicativeTail

abbrev pub tighter_of : Level → Symbol
tighter_of l.LogicalOr = s.LogicalAnd
tighter_of l.LogicalAnd = s.BitOr
tighter_of l.BitOr = s.BitXor
tighter_of l.BitXor = s.BitAnd
tighter_of l.BitAnd = s.Equality
tighter_of l.Equality = s.Relational
tighter_of l.Relational = s.Shift
tighter_of l.Shift = s.Additive
tighter_of l.Additive = s.Multiplicative
tighter_of l.Multiplicative = s.Unary

abbrev pub number_of : Level → ℕ
number_of l.LogicalOr = 0
number_of l.LogicalAnd = 1
number_of l.BitOr = 2
number_of l.BitXor = 3
number_of l.BitAnd = 4
number_of l.Equality = 5
number_of l.Relational = 6
number_of l.Shift = 7
number_of l.Additive = 8
number_of l.Multiplicative = 9

abbrev pub tighter_symbol : Option Level → Symbol
tighter_symbol None = s.Unary
tighter_symbol (Some level) = symbol_of level

abbrev pub kind_of : BinaryOp → TokenKind
kind_of b.LogicalOr = k.PipePipe
kind_of b.LogicalAnd = k.AmpAmp
kind_of b.BitOr = k.Pipe
kind_of b.BitXor = k.Caret
kind_of b.BitAnd = k.Amp
kind_of b.Equal = k.EqualEqual
kind_of b.NotEqual = k.BangEqual
kind_of b.Less = k.Less
kind_of b.Greater = k.Greater
kind_of b.LessEqual = k.LessEqual
kind_of b.GreaterEqual = k.GreaterEqual
kind_of b.ShiftLeft = k.ShiftLeft
kind_of b.ShiftRight = k.ShiftRight
kind_of b.Add = k.Plus
kind_of b.Subtract = k.Minus
kind_of b.Multiply = k.Star
kind_of b.Divide = k.Slash
kind_of b.Remainder = k.Percent

abbrev pub operators : List (ℕ × BinaryOp)
operators = (132, b.LogicalOr) ∷ (135, b.LogicalAnd) ∷ (138, b.BitOr) ∷ (141, b.BitXor) ∷ (144, b.BitAnd) ∷ (147, b.Equal) ∷ (148, b.NotEqual) ∷ (151, b.Less) ∷ (152, b.Greater) ∷ (153, b.LessEqual) ∷ (154, b.GreaterEqual) ∷ (157, b.ShiftLeft) ∷ (158, b.ShiftRight) ∷ (161, b.Add) ∷ (162, b.Subtract) ∷ (165, b.Multiply) ∷ (166, b.Divide) ∷ (167, b.Remainder) ∷ []

-- the operator of a rule
abbrev pub operator_at : ℕ → Option BinaryOp
operator_at n = option_map (λ p. p.1) (find (λ p. nat_eq n p.0) operators)

-- the tail of the level gives way to the rule of the operator, or to nothing
pub record EntersMore (tokens : List Token) (level : Level) (at : ℕ) (op : BinaryOp) : Type 0 where
  pub from : (depth : ℕ) (rest : List Entry) (parts : List Part) (o : Outcome) → Comes tokens (takes (kind_of op) ∷ gives (tighter_of level) ∷ builds at (add_link op) ∷ gives (tail_of level) ∷ rest) at depth parts o → Comes tokens (gives (tail_of level) ∷ rest) at depth parts o

pub record EntersEnd (tokens : List Token) (level : Level) (at : ℕ) : Type 0 where
  pub from : (depth : ℕ) (rest : List Entry) (parts : List Part) (o : Outcome) → Comes tokens rest at depth parts o → Comes tokens (gives (tail_of level) ∷ rest) at depth parts o

abbrev pub EntersLink : List Token → Level → ℕ → Option BinaryOp → Type 0
EntersLink tokens level at None = EntersEnd tokens level at
EntersLink tokens level at (Some op) = EntersMore tokens level at op
