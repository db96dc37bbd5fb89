-- What explaining the files of a pair comes to, where no stage has a fault.
use Rattle.std.specs.Prelude.{ℕ, List, [], ◌∷◌}
use Rattle.typed_tree.specs.TypedTree.{TypedTree}
use Rattle.stages.specs.Climb.{HasPassed, Stage, Texts, flows, hosts, rules}
use Rattle.explaining.specs.Explains.{HasHoldings}

-- what is asked of the files
abbrev pub of_files : List Stage
of_files = hosts ∷ rules ∷ flows ∷ []

-- no stage has a fault, and the lines tell the privileged slots that `check` shows of the program, in a file of this name
abbrev pub IsPairHeld : List ℕ → Texts → List ℕ → Type 0
IsPairHeld name t lines = (tree : TypedTree) × HasPassed (hosts ∷ rules ∷ []) t tree × HasHoldings name t.program tree lines
