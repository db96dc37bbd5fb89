-- The ranges of a call whose cells come back, as code lists them.
use Rattle.std.specs.Prelude.{◌≡◌, ℕ, List, [], ◌∷◌, Option, Some, None, nat_eq, if◌then◌else◌}
use Rattle.marshalling.specs.declared.crossing.Crossing.{Crossing}
use Rattle.marshalling.specs.declared.crossing.Crossing.TheVariants.{Stays}
use Rattle.marshalling.specs.declared.range.Range.{Range}
use Rattle.marshalling.specs.Crossings.{range_crossing, stronger}

-- how the cell i of block k comes back by a range
abbrev pub crossing_in : Range → ℕ → ℕ → Crossing
crossing_in r k i = if nat_eq r.block k then range_crossing r.secret r.leaves.items r.base i else Stays

-- the same by all ranges
abbrev pub crossing_among : List Range → ℕ → ℕ → Crossing
crossing_among [] k i = Stays
crossing_among (r ∷ ranges) k i = stronger (crossing_in r k i) (crossing_among ranges k i)

-- the range says what this function does, and no range where it says nothing
abbrev pub IsRange : Option Range → (ℕ → ℕ → Crossing) → Type 0
IsRange None crossing = (k i : ℕ) → Stays ≡ crossing k i
IsRange (Some r) crossing = (k i : ℕ) → crossing_in r k i ≡ crossing k i
