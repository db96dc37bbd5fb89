-- The words that a text is cut into (C99 6.4), the longest that stands at a place, and the token that a word is.
use Rattle.std.specs.Prelude.{ℕ, ◌≡◌, ◌≤◌, Bool, false, ◌&&◌, if◌then◌else◌, List, [], ◌∷◌, length, take, is_some, IsTrue, Option, Some}
use Rattle.std.specs.List.{list_all}
use Rattle.std.specs.Option.{option_map, option_map_or}
use Rattle.pt_base.specs.declared.int_type.IntType.TheVariants.{Int}
use Rattle.c_lexer.specs.Bytes.{is_nondigit, is_word_byte}
use Rattle.c_lexer.specs.Spelling.{keyword_of, punctuator_of}
use Rattle.c_lexer.specs.Numbers.{is_number, constant_of}
use Rattle.c_lexer.specs.Characters.{character_of, char_value}
use Rattle.c_lexer.specs.Comments.{opens_comment}
use Rattle.c_lexer.specs.declared.token.TokenKind.{TokenKind}
use Rattle.c_lexer.specs.declared.token.TokenKind.TheVariants.{Identifier, Number, Character}
use Rattle.c_lexer.specs.declared.token.TokenValue.{TokenValue}
use Rattle.c_lexer.specs.declared.token.TokenValue.TheVariants.{Name, Constant, Fixed}

-- a letter or `_`, and then letters, `_` and digits (C99 6.4.2.1)
abbrev pub is_identifier : List ℕ → Bool
is_identifier [] = false
is_identifier (b ∷ bs) = is_nondigit b && list_all is_word_byte bs

-- a word of a text
pub data IsLexeme (word : List ℕ) : Type 0 where
  identifier : IsTrue (is_identifier word) → IsLexeme word
  number : IsTrue (is_number word) → IsLexeme word
  character : IsTrue (is_some (character_of word)) → IsLexeme word
  punctuator : IsTrue (is_some (punctuator_of word)) → IsLexeme word

-- the first n bytes are a word, and no longer word begins there
pub record IsLongest (bs : List ℕ) (n : ℕ) : Type 0 where
  pub within : n ≤ length bs
  pub lexeme : IsLexeme (take n bs)
  pub longest : (m : ℕ) → m ≤ length bs → IsLexeme (take m bs) → m ≤ n

-- the kind and value of an identifier: the keyword that it is, or else its name
abbrev pub identifier_meaning : List ℕ → TokenKind × TokenValue
identifier_meaning word = option_map_or (λ k. (k, Fixed)) (keyword_of word) (Identifier, Name word)

abbrev pub character_meaning : ℕ → TokenKind × TokenValue
character_meaning b = (Character, Constant (char_value b) Int)

-- the kind and value of a word. A number that is no constant has none
unfoldable pub meaning_of : List ℕ → Option (TokenKind × TokenValue)
meaning_of word =
    if is_identifier word then Some (identifier_meaning word)
    else (if is_number word then option_map (λ v. (Number, v)) (constant_of word)
    else (if is_some (character_of word) then option_map character_meaning (character_of word)
    else option_map (λ k. (k, Fixed)) (punctuator_of word)))

-- the first n bytes are a token of that kind and value, the longest word that begins there
pub record StartsToken (bs : List ℕ) (n : ℕ) (kind : TokenKind) (value : TokenValue) : Type 0 where
  pub no_comment : opens_comment bs ≡ false
  pub longest : IsLongest bs n
  pub means : meaning_of (take n bs) ≡ Some (kind, value)
