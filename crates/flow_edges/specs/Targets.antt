-- A slot, if there is one, as a list.
use Rattle.std.specs.Prelude.{ℕ, List, [], ◌∷◌, Option, None, Some}

abbrev pub slots_in : Option ℕ → List ℕ
slots_in None = []
slots_in (Some s) = s ∷ []
