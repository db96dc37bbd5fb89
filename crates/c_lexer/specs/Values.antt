-- The values that tokens carry, and what is known of them.
use Rattle.std.specs.Prelude.{Bool, true, ◌&&◌, int_le, IsTrue, List, All}
use Rattle.pt_base.specs.IntTypes.{low_of, high_of}
use Rattle.pt_base.specs.Names.{is_short}
use Rattle.c_lexer.specs.declared.token.TokenValue.{TokenValue}
use Rattle.c_lexer.specs.declared.token.TokenValue.TheVariants.{Name, Constant, Fixed}
use Rattle.c_lexer.specs.declared.token.Token.{Token}

-- a constant's value is in the range of its type, and a name is short
abbrev pub value_fits : TokenValue → Bool
value_fits (Name bytes) = is_short bytes
value_fits (Constant value ty) = int_le (low_of ty) value && int_le value (high_of ty)
value_fits Fixed = true

abbrev pub ValuesFit : List Token → Type 0
ValuesFit tokens = All (λ t. IsTrue (value_fits t.value)) tokens
