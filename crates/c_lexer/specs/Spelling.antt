-- The keywords and punctuators: how each is spelled, and which one a word is.
use Rattle.std.specs.Prelude.{ℕ, List, [], ◌∷◌, Option, codes}
use Rattle.std.specs.List.{find}
use Rattle.std.specs.Str.{bytes_eq}
use Rattle.c_lexer.specs.declared.token.TokenKind.{TokenKind}
use Rattle.c_lexer.specs.declared.token.TokenKind.TheVariants.{Identifier, Number, Character, Auto, Break, Case, Char, Const, Continue, Default, Do, Double, Else, Enum, Extern, Float, For, Goto, If, Inline, Int, Long, Register, Restrict, Return, Short, Signed, Sizeof, Static, Struct, Switch, Typedef, Union, Unsigned, Void, Volatile, While, Bool, Complex, Imaginary, Attribute, OpenBracket, CloseBracket, OpenParen, CloseParen, OpenBrace, CloseBrace, Dot, Arrow, PlusPlus, MinusMinus, Amp, Star, Plus, Minus, Tilde, Bang, Slash, Percent, ShiftLeft, ShiftRight, Less, Greater, LessEqual, GreaterEqual, EqualEqual, BangEqual, Caret, Pipe, AmpAmp, PipePipe, Question, Colon, Semicolon, Equal, StarEqual, SlashEqual, PercentEqual, PlusEqual, MinusEqual, ShiftLeftEqual, ShiftRightEqual, AmpEqual, CaretEqual, PipeEqual, Comma}

-- the bytes of a keyword or of a punctuator. The other kinds have no spelling of their own
abbrev pub spelling_of : TokenKind → List ℕ
spelling_of Identifier = []
spelling_of Number = []
spelling_of Character = []
spelling_of Auto = codes "auto"
spelling_of Break = codes "break"
spelling_of Case = codes "case"
spelling_of Char = codes "char"
spelling_of Const = codes "const"
spelling_of Continue = codes "continue"
spelling_of Default = codes "default"
spelling_of Do = codes "do"
spelling_of Double = codes "double"
spelling_of Else = codes "else"
spelling_of Enum = codes "enum"
spelling_of Extern = codes "extern"
spelling_of Float = codes "float"
spelling_of For = codes "for"
spelling_of Goto = codes "goto"
spelling_of If = codes "if"
spelling_of Inline = codes "inline"
spelling_of Int = codes "int"
spelling_of Long = codes "long"
spelling_of Register = codes "register"
spelling_of Restrict = codes "restrict"
spelling_of Return = codes "return"
spelling_of Short = codes "short"
spelling_of Signed = codes "signed"
spelling_of Sizeof = codes "sizeof"
spelling_of Static = codes "static"
spelling_of Struct = codes "struct"
spelling_of Switch = codes "switch"
spelling_of Typedef = codes "typedef"
spelling_of Union = codes "union"
spelling_of Unsigned = codes "unsigned"
spelling_of Void = codes "void"
spelling_of Volatile = codes "volatile"
spelling_of While = codes "while"
spelling_of Bool = codes "_Bool"
spelling_of Complex = codes "_Complex"
spelling_of Imaginary = codes "_Imaginary"
spelling_of Attribute = codes "__attribute__"
spelling_of OpenBracket = codes "["
spelling_of CloseBracket = codes "]"
spelling_of OpenParen = codes "("
spelling_of CloseParen = codes ")"
spelling_of OpenBrace = codes "{"
spelling_of CloseBrace = codes "}"
spelling_of Dot = codes "."
spelling_of Arrow = codes "->"
spelling_of PlusPlus = codes "++"
spelling_of MinusMinus = codes "--"
spelling_of Amp = codes "&"
spelling_of Star = codes "*"
spelling_of Plus = codes "+"
spelling_of Minus = codes "-"
spelling_of Tilde = codes "~"
spelling_of Bang = codes "!"
spelling_of Slash = codes "/"
spelling_of Percent = codes "%"
spelling_of ShiftLeft = codes "<<"
spelling_of ShiftRight = codes ">>"
spelling_of Less = codes "<"
spelling_of Greater = codes ">"
spelling_of LessEqual = codes "<="
spelling_of GreaterEqual = codes ">="
spelling_of EqualEqual = codes "=="
spelling_of BangEqual = codes "!="
spelling_of Caret = codes "^"
spelling_of Pipe = codes "|"
spelling_of AmpAmp = codes "&&"
spelling_of PipePipe = codes "||"
spelling_of Question = codes "?"
spelling_of Colon = codes ":"
spelling_of Semicolon = codes ";"
spelling_of Equal = codes "="
spelling_of StarEqual = codes "*="
spelling_of SlashEqual = codes "/="
spelling_of PercentEqual = codes "%="
spelling_of PlusEqual = codes "+="
spelling_of MinusEqual = codes "-="
spelling_of ShiftLeftEqual = codes "<<="
spelling_of ShiftRightEqual = codes ">>="
spelling_of AmpEqual = codes "&="
spelling_of CaretEqual = codes "^="
spelling_of PipeEqual = codes "|="
spelling_of Comma = codes ","

-- C99 6.4.1, and `__attribute__`
abbrev pub keywords : List TokenKind
keywords =
    Auto ∷ Break ∷ Case ∷ Char ∷ Const ∷ Continue ∷ Default ∷ Do ∷ Double ∷
    Else ∷ Enum ∷ Extern ∷ Float ∷ For ∷ Goto ∷ If ∷ Inline ∷ Int ∷
    Long ∷ Register ∷ Restrict ∷ Return ∷ Short ∷ Signed ∷ Sizeof ∷ Static ∷ Struct ∷
    Switch ∷ Typedef ∷ Union ∷ Unsigned ∷ Void ∷ Volatile ∷ While ∷ Bool ∷ Complex ∷
    Imaginary ∷ Attribute ∷
    []

-- C99 6.4.6, without the digraphs, `...`, `#` and `##`
abbrev pub punctuators : List TokenKind
punctuators =
    OpenBracket ∷ CloseBracket ∷ OpenParen ∷ CloseParen ∷ OpenBrace ∷ CloseBrace ∷ Dot ∷ Arrow ∷ PlusPlus ∷
    MinusMinus ∷ Amp ∷ Star ∷ Plus ∷ Minus ∷ Tilde ∷ Bang ∷ Slash ∷ Percent ∷
    ShiftLeft ∷ ShiftRight ∷ Less ∷ Greater ∷ LessEqual ∷ GreaterEqual ∷ EqualEqual ∷ BangEqual ∷ Caret ∷
    Pipe ∷ AmpAmp ∷ PipePipe ∷ Question ∷ Colon ∷ Semicolon ∷ Equal ∷ StarEqual ∷ SlashEqual ∷
    PercentEqual ∷ PlusEqual ∷ MinusEqual ∷ ShiftLeftEqual ∷ ShiftRightEqual ∷ AmpEqual ∷ CaretEqual ∷ PipeEqual ∷ Comma ∷
    []

-- the first of these kinds that is spelled so
abbrev pub kind_among : List TokenKind → List ℕ → Option TokenKind
kind_among kinds word = find (λ k. bytes_eq word (spelling_of k)) kinds

unfoldable pub keyword_of : List ℕ → Option TokenKind
keyword_of word = kind_among keywords word

unfoldable pub punctuator_of : List ℕ → Option TokenKind
punctuator_of word = kind_among punctuators word
