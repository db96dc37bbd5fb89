-- Lines and columns of a text, as editors count them. A line ends at a line feed; a carriage return is a byte
-- of its line as any other.
use Rattle.std.specs.Prelude.{ℕ, zero, suc, List, [], ◌∷◌, Bool, if◌then◌else◌, nat_eq, ◌+◌, ◌-◌, take}
use Rattle.source_places.specs.declared.place.Place.{Place}

abbrev pub is_feed : ℕ → Bool
is_feed b = nat_eq b 10

-- how many of these bytes stand behind the last line feed, if so many bytes of its line stand before them
abbrev pub behind_feed : ℕ → List ℕ → ℕ
behind_feed n [] = n
behind_feed n (b ∷ bs) = if is_feed b then behind_feed 0 bs else behind_feed (suc n) bs

-- how many of these bytes are line feeds
abbrev pub feeds_in : List ℕ → ℕ
feeds_in [] = 0
feeds_in (b ∷ bs) = if is_feed b then suc (feeds_in bs) else feeds_in bs

-- the line of an offset: one more than the line feeds before it. Its column: one more than the bytes before it
-- that stand behind the last of those. An offset behind the text's end is at the end.
abbrev pub place_at : List ℕ → ℕ → Place
place_at text at = record { line = feeds_in (take at text) + 1; column = behind_feed 0 (take at text) + 1 }

-- the bytes of the line before which so many line feeds stand
abbrev pub line_after : ℕ → List ℕ → List ℕ
line_after k [] = []
line_after zero (b ∷ bs) = if is_feed b then [] else b ∷ line_after zero bs
line_after (suc k) (b ∷ bs) = if is_feed b then line_after k bs else line_after (suc k) bs

-- the bytes of the line of this number, counted from 1, without its line feed; none where there is no such line
abbrev pub line_at : List ℕ → ℕ → List ℕ
line_at text line = line_after (line - 1) text
