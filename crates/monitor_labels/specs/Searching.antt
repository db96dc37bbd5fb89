-- What lists in the order of their numbers have at a place.
use Rattle.std.specs.Prelude.{◌≡◌, ◌<◌, ℕ, List, IsTrue, get_or, length, map}
use Rattle.typed_tree.specs.WellFormed.{are_rising}
use Rattle.pt_core.specs.CodeTree.{MonitorTree}

-- at this place an element has this number
pub record IsAt {X : Type 0} (key : X → ℕ) (f : ℕ) (xs : List X) (i : ℕ) : Type 0 where
  pub within : i < length xs
  pub is : (d : X) → key (get_or xs i d) ≡ f

-- all lists of a monitor's program are in the order of their numbers, with no number twice
pub record IsOrdered (p : MonitorTree) : Type 0 where
  pub signatures : IsTrue (are_rising 0 (map (λ s. s.0) p.signatures))
  pub functions : IsTrue (are_rising 0 (map (λ f. f.id) p.functions))
  pub globals : IsTrue (are_rising 0 (map (λ g. g.id) p.globals))
  pub entries : IsTrue (are_rising 0 (map (λ e. e.function.0) p.entries))
