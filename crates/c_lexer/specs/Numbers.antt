-- Preprocessing numbers (C99 6.4.8) and the integer constants among them (C99 6.4.4.1).
use Rattle.std.specs.Prelude.{ℕ, ◌-◌, ◌^◌, Bool, true, false, ◌||◌, ◌&&◌, ◌==◌, nat_lt, if◌then◌else◌, List, [], ◌∷◌, drop, take, slice_index, Option, Some, None, pos}
use Rattle.std.specs.List.{find, prefix_len}
use Rattle.std.specs.Option.{option_map, option_and_then}
use Rattle.std.specs.Char.{is_ascii_digit, is_digit, to_ascii_lowercase}
use Rattle.c_lexer.specs.Bytes.{is_word_byte, number_in}
use Rattle.pt_base.specs.IntTypes.{width_of, is_signed}
use Rattle.pt_base.specs.declared.int_type.IntType.{IntType}
use Rattle.pt_base.specs.declared.int_type.IntType.TheVariants.{Int, UInt, Long, ULong}
use Rattle.c_lexer.specs.declared.token.TokenValue.{TokenValue}
use Rattle.c_lexer.specs.declared.token.TokenValue.TheVariants.{Constant}
use Rattle.c_lexer.specs.declared.number.Suffix.{Suffix}
use Rattle.c_lexer.specs.declared.number.Suffix.TheVariants as suffix

-- the byte may follow `before` in a number: a letter, `_`, a digit, a point, or a sign after e, E, p or P
abbrev pub continues : ℕ → ℕ → Bool
continues before b =
    is_word_byte b || (b == 46)
    || (((b == 43) || (b == 45)) && ((to_ascii_lowercase before == 101) || (to_ascii_lowercase before == 112)))

-- each of the bytes may follow the one before it
abbrev pub goes_on : ℕ → List ℕ → Bool
goes_on before [] = true
goes_on before (b ∷ bs) = continues before b && goes_on b bs

-- the bytes begin with a digit, or with a point and a digit
abbrev pub begins_number : List ℕ → Bool
begins_number bs = is_ascii_digit (slice_index bs 0) || ((slice_index bs 0 == 46) && is_ascii_digit (slice_index bs 1))

-- a preprocessing number (C99 6.4.8)
abbrev pub is_number : List ℕ → Bool
is_number [] = false
is_number (b ∷ bs) = begins_number (b ∷ bs) && goes_on b bs

abbrev pub letter_suffix : ℕ → Option Suffix
letter_suffix a = if a == 117 then Some suffix.Unsigned else (if a == 108 then Some suffix.Long else None)

abbrev pub letters_suffix : ℕ → ℕ → Option Suffix
letters_suffix a b =
    if ((a == 117) && (b == 108)) || ((a == 108) && (b == 117)) then Some suffix.UnsignedLong else None

-- u, l, and both in either order, each in either case
abbrev pub suffix_of : List ℕ → Option Suffix
suffix_of [] = Some suffix.Plain
suffix_of (a ∷ []) = letter_suffix (to_ascii_lowercase a)
suffix_of (a ∷ b ∷ []) = letters_suffix (to_ascii_lowercase a) (to_ascii_lowercase b)
suffix_of (a ∷ b ∷ c ∷ bs) = None

-- the types of a constant with the suffix, in the order in which they are tried
abbrev pub types_of : ℕ → Suffix → List IntType
types_of base suffix.Plain = if base == 10 then Int ∷ Long ∷ [] else (Int ∷ UInt ∷ Long ∷ ULong ∷ [])
types_of base suffix.Unsigned = UInt ∷ ULong ∷ []
types_of base suffix.Long = if base == 10 then Long ∷ [] else (Long ∷ ULong ∷ [])
types_of base suffix.UnsignedLong = ULong ∷ []

-- a signed type has a bit for the sign
abbrev pub value_bits : IntType → ℕ
value_bits t = if is_signed t then width_of t - 1 else width_of t

-- the first of the types that represents the value
abbrev pub type_for : ℕ → List IntType → Option IntType
type_for value types = find (λ t. nat_lt value (2 ^ value_bits t)) types

-- at least one digit of the base, and what follows the digits is a suffix
abbrev pub constant_in : ℕ → List ℕ → Option TokenValue
constant_in base bs =
    let count = prefix_len (λ b. is_digit b base) bs in
    let value = number_in base (take count bs) in
    if nat_lt 0 count
    then option_and_then (λ s. option_map (λ t. Constant (pos value) t) (type_for value (types_of base s))) (suffix_of (drop count bs))
    else None

-- the value and type of an integer constant: it is hexadecimal after 0x or 0X, else octal where it begins with 0, else decimal
unfoldable pub constant_of : List ℕ → Option TokenValue
constant_of bs =
    if slice_index bs 0 == 48
    then (if to_ascii_lowercase (slice_index bs 1) == 120 then constant_in 16 (drop 2 bs) else constant_in 8 bs)
    else constant_in 10 bs
