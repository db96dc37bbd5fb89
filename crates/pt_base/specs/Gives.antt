-- What a function answers that may want memory, by what is judged. Of an error nothing is said.
use Rattle.std.specs.Prelude.{◌≡◌, Result, Ok, Err}

-- what is found, seen by `view`, is what is judged, where `reached` says what has become of what the function changes
abbrev pub GivesWith : {A B E : Type 0} → (A → B) → Result A E → B → Type 0 → Type 0
GivesWith view (Ok a) b reached = (view a ≡ b) × reached
GivesWith view (Err e) b reached = Unit {0}
