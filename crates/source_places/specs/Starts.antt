-- Where the lines of a text start, as code keeps it; no public clause speaks of it.
use Rattle.std.specs.Prelude.{ℕ, suc, List, [], ◌∷◌, ◌++◌, Bool, true, false, Option, None, Some, if◌then◌else◌, ◌-◌, get_or, leb, slice_get}
use Rattle.source_places.specs.Places.{is_feed}

-- a line starts here, behind a byte that is a line feed
abbrev pub start_if : Bool → ℕ → List ℕ
start_if true at = at ∷ []
start_if false at = []

-- where lines start behind line feeds of a text that begins at this offset
abbrev pub starts_of : ℕ → List ℕ → List ℕ
starts_of at [] = []
starts_of at (b ∷ bs) = start_if (is_feed b) (suc at) ++ starts_of (suc at) bs

-- how many of these aren't behind the offset
abbrev pub begun : List ℕ → ℕ → ℕ
begun [] at = 0
begun (s ∷ starts) at = if leb s at then suc (begun starts at) else begun starts at

-- where the line starts before which so many line feeds stand
abbrev pub start_of : List ℕ → ℕ → ℕ
start_of starts k = get_or (0 ∷ starts) k 0

-- where it ends, if the text has so many bytes: before its line feed, if it has one
abbrev pub end_in : Option ℕ → ℕ → ℕ
end_in None long = long
end_in (Some start) long = start - 1

abbrev pub end_of : List ℕ → ℕ → ℕ → ℕ
end_of starts k long = end_in (slice_get starts k) long
