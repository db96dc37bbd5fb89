-- Runs of neighbours in a list.
use Rattle.std.specs.Prelude.{◌≡◌, ◌≤◌, ℕ, suc, ◌-◌, List, [], ◌∷◌, ◌++◌, length, take, drop}
use Rattle.pt_base.specs.declared.ids.FnId.{FnId}
use Rattle.function_runs.specs.declared.neighbours.Run.{Run}

-- the elements of a run
abbrev pub part : {X : Type 0} → List X → Run → List X
part xs run = take (run.to - run.from) (drop run.from xs)

-- those of all runs, one run behind the other
abbrev pub covered : {X : Type 0} → List X → List Run → List X
covered xs [] = []
covered xs (run ∷ runs) = part xs run ++ covered xs runs

-- a run among so many places
abbrev pub IsWithin : ℕ → Run → Type 0
IsWithin n run = (run.from ≤ run.to) × (run.to ≤ n)

-- a run of one place
abbrev pub IsSingle : Run → Type 0
IsSingle run = run.to ≡ suc run.from

-- runs that have each of so many places once, in order: of so many functions they are all, as they stand
abbrev pub AreRuns : ℕ → List Run → Type 0
AreRuns n runs = (fs : List FnId) → length fs ≡ n → covered fs runs ≡ fs
