-- Values by name, in the order in which the names came.
use Rattle.std.specs.Prelude.{ℕ, List, [], ◌∷◌, ◌++◌, Bool, Option, is_none, position, slice_get, option_map, map, if◌then◌else◌}
use Rattle.std.specs.Str.{bytes_eq}

abbrev pub Named : Type 0 → Type 0
Named X = List (List ℕ × X)

module _ {X : Type 0} where
  -- the number of a name: its place, counted from 0
  abbrev pub number_of : Named X → List ℕ → Option ℕ
  number_of table name = position (λ entry. bytes_eq name entry.0) table

  -- the value with this number
  abbrev pub value_at : Named X → ℕ → Option X
  value_at table number = option_map (λ entry. entry.1) (slice_get table number)

  -- the name with this number
  abbrev pub name_at : Named X → ℕ → Option (List ℕ)
  name_at table number = option_map (λ entry. entry.0) (slice_get table number)

  -- all values, in order
  abbrev pub values : Named X → List X
  values table = map (λ entry. entry.1) table

  abbrev pub is_new : Named X → List ℕ → Bool
  is_new table name = is_none (number_of table name)

  -- a new name comes last; a name that is there keeps its value
  abbrev pub with_name : Named X → List ℕ → X → Named X
  with_name table name x = if is_new table name then table ++ (name, x) ∷ [] else table
