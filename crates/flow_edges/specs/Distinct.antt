-- Numbers that are kept, as code adds to them.
use Rattle.std.specs.Prelude.{ℕ, List, [], ◌∷◌, ◌++◌, if◌then◌else◌, nat_eq}
use Rattle.std.specs.List.{list_any}

-- with this one, if it isn't there yet
abbrev pub with_new : List ℕ → ℕ → List ℕ
with_new kept x = if list_any (nat_eq x) kept then kept else kept ++ x ∷ []
