-- The paths that reached slots show.
use Rattle.std.specs.Prelude.{ℕ, zero, suc, List, [], ◌∷◌, ◌++◌, map, Option, Some, None}
use Rattle.std.specs.Option.{option_map}
use Rattle.propagation.specs.declared.reached.Found.{Found}
use Rattle.propagation.specs.declared.reached.Step.{Step}
use Rattle.propagation.specs.Reached.{by_at}

-- the parent's path and then the step's edge, and no edge for a seed
abbrev pub path_by : (ℕ → List ℕ) → Option Step → List ℕ
path_by path_of None = []
path_by path_of (Some step) = path_of step.parent ++ step.edge ∷ []

-- the edges by which the slot at a place was reached, going back so many steps
abbrev pub path_back : List Found → ℕ → ℕ → List ℕ
path_back order zero place = []
path_back order (suc steps) place = path_by (λ p. path_back order steps p) (by_at order place)

-- the path of the slot at a place: all steps back, since each goes to an earlier place
abbrev pub path_of : List Found → ℕ → List ℕ
path_of order place = path_back order (suc place) place

-- for each slot the path of its place, if it has one
abbrev pub paths_shown : List (Option ℕ) → List Found → List (Option (List ℕ))
paths_shown places order = map (λ place. option_map (path_of order) place) places
