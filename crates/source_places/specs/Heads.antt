-- Places as lines begin with them.
use Rattle.std.specs.Prelude.{ℕ, List, ◌++◌, codes}
use Rattle.std.specs.Fmt.{decimal}
use Rattle.source_places.specs.declared.place.Place.{Place}
use Rattle.source_places.specs.Places.{place_at}
use Rattle.source_places.specs.Shown.{shown_bytes}

-- `NAME:LINE:COLUMN: `
abbrev pub head_of : List ℕ → Place → List ℕ
head_of name place = shown_bytes name ++ codes ":" ++ decimal place.line ++ codes ":" ++ decimal place.column ++ codes ": "

-- the place of an offset of the text in the file of this name
abbrev pub head : List ℕ → List ℕ → ℕ → List ℕ
head name text at = head_of name (place_at text at)
