-- A list that has exactly the members of a set, in ascending order and each once.
use Rattle.std.specs.Prelude.{◌<◌, ◌↔◌, ℕ, List, Contains, AllPairs}

pub record Lists {X : Type 0} (number : X → ℕ) (Has : X → Type 0) (xs : List X) : Type 0 where
  pub ascending : AllPairs (λ a b. number a < number b) xs
  pub same : (x : X) → Contains xs x ↔ Has x
