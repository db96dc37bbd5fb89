-- The classes of bytes of C99 5.2.1 and 6.4, and the number that digits spell.
use Rattle.std.specs.Prelude.{ℕ, ◌+◌, ◌*◌, Bool, ◌||◌, ◌==◌, List}
use Rattle.std.specs.List.{fold}
use Rattle.std.specs.Int.{is_in_range}
use Rattle.std.specs.Char.{is_ascii_alphabetic, digit_value}
pub use Rattle.pt_base.specs.Names.{is_word_byte}

-- space, and from 9 on tab, line feed, vertical tab, form feed and carriage return
abbrev pub is_space : ℕ → Bool
is_space b = is_in_range 9 13 b || (b == 32)

-- a letter or `_`, with which identifiers begin (C99 6.4.2.1)
abbrev pub is_nondigit : ℕ → Bool
is_nondigit b = is_ascii_alphabetic b || (b == 95)

-- the number that the digits spell in the base, the first digit the highest
abbrev pub number_in : ℕ → List ℕ → ℕ
number_in base digits = fold (λ n d. n * base + digit_value d) 0 digits
