-- The words of a printed text, each with what stands before it.
use Rattle.std.specs.Prelude.{ℕ, ℤ, List, [], ◌++◌, codes}
use Rattle.std.specs.Fmt.{signed_decimal}
use Rattle.pt_base.specs.declared.int_type.IntType.{IntType}
use Rattle.pt_base.specs.declared.int_type.IntType.TheVariants.{UInt, Long, ULong}
use Rattle.c_lexer.specs.Spelling.{spelling_of}
use Rattle.c_lexer.specs.declared.token.TokenKind.{TokenKind}
use Rattle.c_lexer.specs.declared.token.TokenKind.TheVariants.{Identifier, Number}
use Rattle.c_lexer.specs.declared.token.TokenValue.{TokenValue}
use Rattle.c_lexer.specs.declared.token.TokenValue.TheVariants.{Name, Constant, Fixed}

-- What stands before a word.
pub data Gap : Type 0 where
  -- nothing
  tight : Gap
  -- a space
  spaced : Gap
  -- a new line, indented by so many levels
  line : ℕ → Gap
  -- an empty line and a new one
  apart : Gap

pub data Piece : Type 0 where
  -- a keyword or a punctuator
  fixed : Gap → TokenKind → Piece
  -- an identifier
  named : Gap → List ℕ → Piece
  -- a decimal constant of this value and type
  number : Gap → ℤ → IntType → Piece

-- the suffix that gives a decimal constant this type (C99 6.4.4.1)
abbrev pub suffix_for : IntType → List ℕ
suffix_for UInt = codes "u"
suffix_for Long = codes "l"
suffix_for ULong = codes "ul"
suffix_for t = []

abbrev pub gap_of : Piece → Gap
gap_of (fixed gap kind) = gap
gap_of (named gap bytes) = gap
gap_of (number gap value ty) = gap

-- the bytes of the word
abbrev pub bytes_of : Piece → List ℕ
bytes_of (fixed gap kind) = spelling_of kind
bytes_of (named gap bytes) = bytes
bytes_of (number gap value ty) = signed_decimal value ++ suffix_for ty

-- the kind and the value of the token that it is to be
abbrev pub kind_of : Piece → TokenKind
kind_of (fixed gap kind) = kind
kind_of (named gap bytes) = Identifier
kind_of (number gap value ty) = Number

abbrev pub value_of : Piece → TokenValue
value_of (fixed gap kind) = Fixed
value_of (named gap bytes) = Name bytes
value_of (number gap value ty) = Constant value ty
