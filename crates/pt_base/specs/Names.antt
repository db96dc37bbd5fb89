-- Names: how long they are (a text has at most 1 MiB, and so has each word of it), and the bytes of words.
use Rattle.std.specs.Prelude.{ℕ, List, Bool, length, nat_le, ◌||◌, ◌==◌}
use Rattle.std.specs.Char.{is_ascii_alphanumeric}

abbrev pub longest_name : ℕ
longest_name = 1_048_576

abbrev pub is_short : List ℕ → Bool
is_short name = nat_le (length name) longest_name

-- a letter, a digit or `_`
abbrev pub is_word_byte : ℕ → Bool
is_word_byte b = is_ascii_alphanumeric b || (b == 95)
