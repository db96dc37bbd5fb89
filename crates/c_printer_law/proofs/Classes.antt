-- Classes of tokens: what can begin an expression, and what can end one.
use Rattle.std.proofs.Common.{ℕ, Bool, true, false, nat_le, nat_eq, ◌||◌}
use Rattle.c_lexer.specs.declared.token.TokenKind.{TokenKind}
use Rattle.c_lexer.specs.declared.token.TokenKind.TheVariants as k
use Rattle.c_grammar.specs.Numbers.{kind_number}

-- this kind alone
abbrev pub only : TokenKind → TokenKind → Bool
only k kind = nat_eq (kind_number k) (kind_number kind)

-- what begins an expression
abbrev pub starts : TokenKind → Bool
starts k.Identifier = true
starts k.Number = true
starts k.OpenParen = true
starts k.PlusPlus = true
starts k.MinusMinus = true
starts k.Amp = true
starts k.Star = true
starts k.Plus = true
starts k.Minus = true
starts k.Tilde = true
starts k.Bang = true
starts kind = false

-- An expression ends at each of these where it binds so tightly at least; at others none does.
abbrev pub strength : TokenKind → ℕ
strength k.CloseParen = 0
strength k.CloseBracket = 0
strength k.CloseBrace = 0
strength k.Comma = 0
strength k.Semicolon = 0
strength k.Colon = 0
strength k.Equal = 1
strength k.StarEqual = 1
strength k.SlashEqual = 1
strength k.PercentEqual = 1
strength k.PlusEqual = 1
strength k.MinusEqual = 1
strength k.ShiftLeftEqual = 1
strength k.ShiftRightEqual = 1
strength k.AmpEqual = 1
strength k.CaretEqual = 1
strength k.PipeEqual = 1
strength k.Question = 2
strength k.PipePipe = 3
strength k.AmpAmp = 4
strength k.Pipe = 5
strength k.Caret = 6
strength k.Amp = 7
strength k.EqualEqual = 8
strength k.BangEqual = 8
strength k.Less = 9
strength k.Greater = 9
strength k.LessEqual = 9
strength k.GreaterEqual = 9
strength k.ShiftLeft = 10
strength k.ShiftRight = 10
strength k.Plus = 11
strength k.Minus = 11
strength k.Star = 12
strength k.Slash = 12
strength k.Percent = 12
strength kind = 13

abbrev pub ends : ℕ → TokenKind → Bool
ends least kind = nat_le (strength kind) least

-- what begins a specifier
abbrev pub begins_spec : TokenKind → Bool
begins_spec k.Attribute = true
begins_spec k.Extern = true
begins_spec k.Static = true
begins_spec k.Const = true
begins_spec k.Void = true
begins_spec k.Char = true
begins_spec k.Short = true
begins_spec k.Int = true
begins_spec k.Long = true
begins_spec k.Signed = true
begins_spec k.Unsigned = true
begins_spec k.Struct = true
begins_spec kind = false

-- what follows the last specifier
abbrev pub ends_specs : TokenKind → Bool
ends_specs k.Identifier = true
ends_specs k.Star = true
ends_specs k.OpenBracket = true
ends_specs k.CloseParen = true
ends_specs k.Semicolon = true
ends_specs k.Comma = true
ends_specs kind = false

-- what follows a specifier
abbrev pub after_spec : TokenKind → Bool
after_spec kind = begins_spec kind || ends_specs kind

-- what follows the name or the brackets of a declarator
abbrev pub ends_suffix : TokenKind → Bool
ends_suffix k.Equal = true
ends_suffix k.OpenParen = true
ends_suffix k.CloseParen = true
ends_suffix k.Semicolon = true
ends_suffix k.Comma = true
ends_suffix kind = false

-- what begins a declarator
abbrev pub begins_declarator : TokenKind → Bool
begins_declarator k.Identifier = true
begins_declarator k.Star = true
begins_declarator kind = false

-- what follows a declarator with its initialiser
abbrev pub ends_init : TokenKind → Bool
ends_init k.Comma = true
ends_init k.Semicolon = true
ends_init kind = false

-- what follows the declarator of an object
abbrev pub begins_init : TokenKind → Bool
begins_init k.Equal = true
begins_init kind = ends_init kind

-- what begins a statement
abbrev pub begins_stmt : TokenKind → Bool
begins_stmt k.OpenBrace = true
begins_stmt k.Semicolon = true
begins_stmt k.If = true
begins_stmt k.While = true
begins_stmt k.Return = true
begins_stmt k.Break = true
begins_stmt k.Continue = true
begins_stmt kind = starts kind

-- what begins a declaration or a statement
abbrev pub begins_item : TokenKind → Bool
begins_item kind = begins_spec kind || begins_stmt kind

-- what follows one in a block
abbrev pub after_item : TokenKind → Bool
after_item k.CloseBrace = true
after_item kind = begins_item kind

-- what follows a parameter
abbrev pub ends_param : TokenKind → Bool
ends_param k.Comma = true
ends_param k.CloseParen = true
ends_param kind = false

-- what follows the place of a parameter's name
abbrev pub after_name : TokenKind → Bool
after_name k.OpenBracket = true
after_name kind = ends_param kind
