-- How words are laid on lines.
use Rattle.std.specs.Prelude.{ℕ, ◌+◌, ◌*◌, List, [], ◌∷◌, ◌++◌, if◌then◌else◌, nat_le, length, min, replicate, codes}
use Rattle.std.specs.List.{fold}
use Rattle.c_printer.specs.Pieces.{Gap, tight, spaced, line, apart, Piece, gap_of, bytes_of}

-- What is written so far, the columns that its last line has, and those by which that line was indented.
pub record Written : Type 0 where
  pub bytes : List ℕ
  pub column : ℕ
  pub indent : ℕ

-- the most columns of a line, but for a word that is too long for one
abbrev pub widest : ℕ
widest = 100

-- the columns of so many levels: two for each, and never more than 40
abbrev pub columns_of : ℕ → ℕ
columns_of levels = min (2 * levels) 40

-- on the line
abbrev pub behind : List ℕ → List ℕ → Written → Written
behind gap word w = record w { bytes = w.bytes ++ (gap ++ word); column = w.column + (length gap + length word) }

-- on a new line, behind so many spaces
abbrev pub below : ℕ → List ℕ → Written → Written
below columns word w = record w { bytes = w.bytes ++ (10 ∷ (replicate columns 32 ++ word)); column = columns + length word }

-- on the line if it has room for the word behind the gap, else on a new one, four columns further in
abbrev pub continued : List ℕ → List ℕ → Written → Written
continued gap word w = if nat_le (w.column + (length gap + length word)) widest then behind gap word w else below (w.indent + 4) word w

abbrev pub laid : Gap → List ℕ → Written → Written
laid tight word w = continued [] word w
laid spaced word w = continued (32 ∷ []) word w
laid (line levels) word w = record (below (columns_of levels) word w) { indent = columns_of levels }
laid apart word w = record (below 0 word (behind [] (10 ∷ []) w)) { indent = 0 }

abbrev pub put : Piece → Written → Written
put p w = laid (gap_of p) (bytes_of p) w

-- one word after the other
abbrev pub lay : List Piece → Written → Written
lay pieces w = fold (λ so_far p. put p so_far) w pieces

-- a text begins with a comment
abbrev pub heading : List ℕ → Written
heading comment = record { bytes = codes "/* " ++ (comment ++ codes " */"); column = 6 + length comment; indent = 0 }
