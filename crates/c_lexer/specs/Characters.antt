-- Character constants (C99 6.4.4.4) of one byte, and the values that they have as an `int`.
use Rattle.std.specs.Prelude.{ℕ, ◌-◌, not, ◌&&◌, ◌==◌, nat_lt, nat_le, if◌then◌else◌, List, [], ◌∷◌, length, take, slice_index, Option, Some, None, ℤ, pos, negsuc}
use Rattle.std.specs.List.{list_all}
use Rattle.std.specs.Int.{is_in_range}
use Rattle.std.specs.Char.{is_digit}
use Rattle.c_lexer.specs.Bytes.{number_in}

-- a printable byte stands for itself, other than `'` and `\`
abbrev pub plain_byte : ℕ → Option ℕ
plain_byte b = if is_in_range 32 126 b && (not (b == 39) && not (b == 92)) then Some b else None

-- \' \" \? \\ \a \b \f \n \r \t \v
abbrev pub simple_escape : ℕ → Option ℕ
simple_escape b =
    if b == 39 then Some 39 else
    (if b == 34 then Some 34 else
    (if b == 63 then Some 63 else
    (if b == 92 then Some 92 else
    (if b == 97 then Some 7 else
    (if b == 98 then Some 8 else
    (if b == 102 then Some 12 else
    (if b == 110 then Some 10 else
    (if b == 114 then Some 13 else
    (if b == 116 then Some 9 else
    (if b == 118 then Some 11 else None))))))))))

-- at least one digit, all of the base, that spell a byte
abbrev pub byte_in : ℕ → List ℕ → Option ℕ
byte_in base digits =
    if nat_lt 0 (length digits) && (list_all (λ b. is_digit b base) digits && nat_lt (number_in base digits) 256)
    then Some (number_in base digits)
    else None

-- what follows a backslash: x and hexadecimal digits, or one to three octal digits, or a letter or mark
abbrev pub escaped_byte : List ℕ → Option ℕ
escaped_byte [] = None
escaped_byte (b ∷ bs) =
    if b == 120 then byte_in 16 bs
    else (if is_digit b 8 then (if nat_le (length bs) 2 then byte_in 8 (b ∷ bs) else None)
    else (if length bs == 0 then simple_escape b else None))

-- the byte that is spelled between the quotes
abbrev pub byte_of : List ℕ → Option ℕ
byte_of [] = None
byte_of (b ∷ []) = plain_byte b
byte_of (b ∷ c ∷ bs) = if b == 92 then escaped_byte (c ∷ bs) else None

-- a byte converted to char, which is signed, and then to int
abbrev pub char_value : ℕ → ℤ
char_value b = if nat_lt b 128 then pos b else negsuc (255 - b)

-- the byte of a character constant: a quote, what spells the byte, and a quote
unfoldable pub character_of : List ℕ → Option ℕ
character_of [] = None
character_of (b ∷ bs) =
    if (b == 39) && (slice_index bs (length bs - 1) == 39) then byte_of (take (length bs - 1) bs) else None
