-- What the bytes from a place on begin with, by their first bytes, as the code finds it out.
use Rattle.std.specs.Prelude.{ℕ, ◌+◌, ◌&&◌, ◌==◌, nat_le, if◌then◌else◌, List, [], ◌∷◌, length, take, drop, slice_index, Option, Some, None}
use Rattle.std.specs.List.{prefix_len, position}
use Rattle.std.specs.Option.{option_map, option_map_or, option_or}
use Rattle.c_lexer.specs.Bytes.{is_space, is_nondigit, is_word_byte}
use Rattle.c_lexer.specs.Numbers.{begins_number, continues, constant_of}
use Rattle.c_lexer.specs.Characters.{character_of}
use Rattle.c_lexer.specs.Comments.{opens_comment, is_no_line_feed}
use Rattle.c_lexer.specs.Spelling.{punctuator_of}
use Rattle.c_lexer.specs.Lexemes.{identifier_meaning, character_meaning, StartsToken}
use Rattle.c_lexer.specs.Comments.{IsBlank}
use Rattle.c_lexer.specs.Lexes.{IsFault}
use Rattle.c_lexer.specs.declared.error.LexFaultKind.TheVariants.{BadByte, OpenComment, BadNumber, BadChar}
use Rattle.c_lexer.specs.declared.token.TokenKind.{TokenKind}
use Rattle.c_lexer.specs.declared.token.TokenKind.TheVariants.{Number}
use Rattle.c_lexer.specs.declared.token.TokenValue.{TokenValue}
use Rattle.c_lexer.specs.declared.token.TokenValue.TheVariants.{Fixed}
use Rattle.c_lexer.specs.declared.next.Next.{Next}
use Rattle.c_lexer.specs.declared.next.Next.TheVariants.{Blank, Token, Fault}

-- the bytes begin with what the answer says
abbrev pub BeginsWith : List ℕ → Next → Type 0
BeginsWith bs (Blank n) = IsBlank bs n
BeginsWith bs (Token n kind value) = StartsToken bs n kind value
BeginsWith bs (Fault kind) = IsFault bs kind

abbrev pub token : ℕ → TokenKind × TokenValue → Next
token n meaning = Token n meaning.0 meaning.1

abbrev pub word_next : List ℕ → Next
word_next bs = let n = prefix_len is_word_byte bs in token n (identifier_meaning (take n bs))

-- how many bytes go on with a number after `before`
abbrev pub run_after : ℕ → List ℕ → ℕ
run_after before [] = 0
run_after before (b ∷ bs) = if continues before b then 1 + run_after b bs else 0

abbrev pub number_run : List ℕ → ℕ
number_run bs = 1 + run_after (slice_index bs 0) (drop 1 bs)

abbrev pub number_next : List ℕ → Next
number_next bs = let n = number_run bs in option_map_or (λ v. Token n Number v) (constant_of (take n bs)) (Fault BadNumber)

-- the first place of a quote that can close a character constant: behind one byte, or behind a backslash and one byte
abbrev pub first_close : List ℕ → ℕ
first_close bs = if slice_index bs 1 == 92 then 3 else 2

-- past the first quote that can close a character constant
abbrev pub character_run : List ℕ → Option ℕ
character_run bs = option_map (λ n. first_close bs + n + 1) (position (λ b. b == 39) (drop (first_close bs) bs))

abbrev pub character_at : List ℕ → ℕ → Next
character_at bs n = option_map_or (λ b. token n (character_meaning b)) (character_of (take n bs)) (Fault BadChar)

abbrev pub character_next : List ℕ → Next
character_next bs = option_map_or (character_at bs) (character_run bs) (Fault BadChar)

-- how many bytes there are up to past the first `*/`
abbrev pub close_of : List ℕ → Option ℕ
close_of [] = None
close_of (b ∷ bs) = if (b == 42) && (slice_index bs 0 == 47) then Some 2 else option_map (λ n. n + 1) (close_of bs)

abbrev pub comment_next : List ℕ → Next
comment_next bs =
    if slice_index bs 1 == 47 then Blank (2 + prefix_len is_no_line_feed (drop 2 bs))
    else option_map_or (λ n. Blank (2 + n)) (close_of (drop 2 bs)) (Fault OpenComment)

-- the punctuator that the first n bytes are, and how many they are
abbrev pub punctuator_at : ℕ → List ℕ → Option (TokenKind × ℕ)
punctuator_at n bs = if nat_le n (length bs) then option_map (λ k. (k, n)) (punctuator_of (take n bs)) else None

abbrev pub longest_punctuator : List ℕ → Option (TokenKind × ℕ)
longest_punctuator bs = option_or (option_or (punctuator_at 3 bs) (punctuator_at 2 bs)) (punctuator_at 1 bs)

abbrev pub punctuator_next : List ℕ → Next
punctuator_next bs = option_map_or (λ p. Token p.1 p.0 Fixed) (longest_punctuator bs) (Fault BadByte)

unfoldable pub next_of : List ℕ → Next
next_of bs =
    if is_space (slice_index bs 0) then Blank 1
    else (if is_nondigit (slice_index bs 0) then word_next bs
    else (if begins_number bs then number_next bs
    else (if slice_index bs 0 == 39 then character_next bs
    else (if opens_comment bs then comment_next bs
    else punctuator_next bs))))
