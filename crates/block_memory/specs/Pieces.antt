-- Lists that lie in one list, one after another, each told by the place where it starts.
use Rattle.std.specs.Prelude.{◌≤◌, ℕ, List, [], ◌∷◌, length, slice_range}

-- the first of these places, or the end where there is none
abbrev pub first_start : List ℕ → ℕ → ℕ
first_start [] end = end
first_start (start ∷ starts) end = start

-- the pieces of xs that start at these places, each up to the next one's start
abbrev pub pieces : {X : Type 0} → List ℕ → List X → List (List X)
pieces [] xs = []
pieces (start ∷ starts) xs = slice_range xs start (first_start starts (length xs)) ∷ pieces starts xs

-- the places rise, from low on, and none is past the end
abbrev pub AreStarts : ℕ → List ℕ → ℕ → Type 0
AreStarts low [] end = low ≤ end
AreStarts low (start ∷ starts) end = (low ≤ start) × AreStarts start starts end
