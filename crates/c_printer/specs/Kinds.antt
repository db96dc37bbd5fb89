-- The tokens of operators and specifiers, and how tightly operators bind (C99 6.5).
use Rattle.std.specs.Prelude.{ℕ, Option, Some}
use Rattle.c_lexer.specs.declared.token.TokenKind.{TokenKind}
use Rattle.c_lexer.specs.declared.token.TokenKind.TheVariants as k
use Rattle.pt_tree.specs.declared.operator.BinaryOp.{BinaryOp}
use Rattle.pt_tree.specs.declared.operator.BinaryOp.TheVariants.{LogicalOr, LogicalAnd, BitOr, BitXor, BitAnd, Equal, NotEqual, Less, Greater, LessEqual, GreaterEqual, ShiftLeft, ShiftRight, Add, Subtract, Multiply, Divide, Remainder}
use Rattle.pt_tree.specs.declared.operator.PrefixOp.{PrefixOp}
use Rattle.pt_tree.specs.declared.operator.PrefixOp.TheVariants as p
use Rattle.pt_tree.specs.declared.specifier.SpecWord.{SpecWord}
use Rattle.pt_tree.specs.declared.specifier.SpecWord.TheVariants as w
use Rattle.pt_tree.specs.ExpressionTree.{ExprTree, name, constant, prefix, cast, postfix, chain, choice, assign, LinkTrees, no_links, link_and, link}

abbrev pub operator_kind : BinaryOp → TokenKind
operator_kind LogicalOr = k.PipePipe
operator_kind LogicalAnd = k.AmpAmp
operator_kind BitOr = k.Pipe
operator_kind BitXor = k.Caret
operator_kind BitAnd = k.Amp
operator_kind Equal = k.EqualEqual
operator_kind NotEqual = k.BangEqual
operator_kind Less = k.Less
operator_kind Greater = k.Greater
operator_kind LessEqual = k.LessEqual
operator_kind GreaterEqual = k.GreaterEqual
operator_kind ShiftLeft = k.ShiftLeft
operator_kind ShiftRight = k.ShiftRight
operator_kind Add = k.Plus
operator_kind Subtract = k.Minus
operator_kind Multiply = k.Star
operator_kind Divide = k.Slash
operator_kind Remainder = k.Percent

abbrev pub prefix_kind : PrefixOp → TokenKind
prefix_kind p.AddressOf = k.Amp
prefix_kind p.Dereference = k.Star
prefix_kind p.Plus = k.Plus
prefix_kind p.Minus = k.Minus
prefix_kind p.Complement = k.Tilde
prefix_kind p.Not = k.Bang
prefix_kind p.Increment = k.PlusPlus
prefix_kind p.Decrement = k.MinusMinus

-- of a plain assignment, or of a compound one; there is none of a comparison or of `&&` and `||`
abbrev pub assignment_kind : Option BinaryOp → TokenKind
assignment_kind (Some BitOr) = k.PipeEqual
assignment_kind (Some BitXor) = k.CaretEqual
assignment_kind (Some BitAnd) = k.AmpEqual
assignment_kind (Some ShiftLeft) = k.ShiftLeftEqual
assignment_kind (Some ShiftRight) = k.ShiftRightEqual
assignment_kind (Some Add) = k.PlusEqual
assignment_kind (Some Subtract) = k.MinusEqual
assignment_kind (Some Multiply) = k.StarEqual
assignment_kind (Some Divide) = k.SlashEqual
assignment_kind (Some Remainder) = k.PercentEqual
assignment_kind op = k.Equal

abbrev pub keyword_kind : SpecWord → TokenKind
keyword_kind w.Extern = k.Extern
keyword_kind w.Static = k.Static
keyword_kind w.Const = k.Const
keyword_kind w.Void = k.Void
keyword_kind w.Char = k.Char
keyword_kind w.Short = k.Short
keyword_kind w.Int = k.Int
keyword_kind w.Long = k.Long
keyword_kind w.Signed = k.Signed
keyword_kind w.Unsigned = k.Unsigned

-- How tightly an operator between two operands binds. Assignments have 0, choices 1; what stands before
-- an operand has 12, what stands behind one 13, and names 14. A constant has 13, or `(1).a` would be
-- the number `1.a`.
abbrev pub binding : BinaryOp → ℕ
binding LogicalOr = 2
binding LogicalAnd = 3
binding BitOr = 4
binding BitXor = 5
binding BitAnd = 6
binding Equal = 7
binding NotEqual = 7
binding Less = 8
binding Greater = 8
binding LessEqual = 8
binding GreaterEqual = 8
binding ShiftLeft = 9
binding ShiftRight = 9
binding Add = 10
binding Subtract = 10
binding Multiply = 11
binding Divide = 11
binding Remainder = 11

-- that of the first operator
abbrev pub chain_binding : LinkTrees → ℕ
chain_binding no_links = 14
chain_binding (link_and (link at op b) rest) = binding op

abbrev pub tightness : ExprTree → ℕ
tightness (name w) = 14
tightness (constant c) = 13
tightness (prefix at op a) = 12
tightness (cast at specs pointer a) = 12
tightness (postfix at a ps) = 13
tightness (chain at a ls) = chain_binding ls
tightness (choice at a b c) = 1
tightness (assign at op a b) = 0
