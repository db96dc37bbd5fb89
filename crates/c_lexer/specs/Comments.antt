-- Space and comments (C99 6.4.9).
use Rattle.std.specs.Prelude.{ℕ, ◌+◌, ◌≡◌, Bool, true, false, not, ◌||◌, ◌&&◌, ◌==◌, List, [], ◌∷◌, ◌++◌, length, slice_index, IsTrue, codes}
use Rattle.std.specs.List.{list_all}
use Rattle.c_lexer.specs.Bytes.{is_space}

-- the bytes begin with `//` or with `/*`
abbrev pub opens_comment : List ℕ → Bool
opens_comment bs = (slice_index bs 0 == 47) && ((slice_index bs 1 == 47) || (slice_index bs 1 == 42))

abbrev pub is_no_line_feed : ℕ → Bool
is_no_line_feed b = not (b == 10)

-- the end of the text, or a line feed
abbrev pub ends_line : List ℕ → Bool
ends_line [] = true
ends_line (b ∷ bs) = b == 10

-- `*/` stands somewhere in the bytes
abbrev pub has_close : List ℕ → Bool
has_close [] = false
has_close (b ∷ bs) = ((b == 42) && (slice_index bs 0 == 47)) || has_close bs

-- the first n bytes are a space, or a whole comment: `//` up to the end of its line, or `/*` up to the first `*/`
pub data IsBlank (bs : List ℕ) (n : ℕ) : Type 0 where
  space : n ≡ 1 → IsTrue (is_space (slice_index bs 0)) → IsBlank bs n
  line : (body after : List ℕ) → bs ≡ codes "//" ++ (body ++ after) → n ≡ 2 + length body
      → list_all is_no_line_feed body ≡ true → ends_line after ≡ true → IsBlank bs n
  block : (body after : List ℕ) → bs ≡ codes "/*" ++ (body ++ (codes "*/" ++ after)) → n ≡ 4 + length body
      → has_close body ≡ false → IsBlank bs n
