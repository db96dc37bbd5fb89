-- What lifting changes in a run.
use Rattle.std.specs.Prelude.{◌≡◌, ◌-◌, ℕ, List, false, length, IsTrue}
use Rattle.runs.specs.Run.{Run}
use Rattle.runs.specs.State.{Hosts}
use Rattle.typed_tree.specs.TypedTree.{TypedTree}
use Rattle.typed_tree.specs.WellFormed.{is_well_formed}
use Rattle.source_meaning.specs.WholeRun.{whole_run}
use Rattle.lifted_trees.specs.Lifted.{Lifting, IsOrdered, lifted}
use Rattle.lifted_runs_law.specs.Noted.{is_barred, made_in, noted_run, own_events}

-- the noted run of any program ends as its run does, with the same turns and events once what new functions leave is taken out
abbrev pub NotesChangeNothing : Type 0
NotesChangeNothing = (program : TypedTree) (first : ℕ) (hosts : Hosts) (input : List ℕ) (n : ℕ) →
    ((noted_run first program hosts input n).end ≡ (whole_run program hosts input n).end)
    × ((noted_run first program hosts input n).turns ≡ (whole_run program hosts input n).turns)
    × (own_events first (noted_run first program hosts input n).events ≡ own_events first (whole_run program hosts input n).events)

-- what is seen of a run without the calls of new functions, and without the turns that they took
abbrev pub own_run : ℕ → Run → Run
own_run first run = record { events = own_events first run.events; end = run.end; turns = run.turns - made_in first run.events }

-- the lifted program's noted run with n turns, seen without its calls of new functions, is the program's run with as many turns fewer
abbrev pub LiftingChangesNothingElse : Type 0
LiftingChangesNothingElse = (l : Lifting) (hosts : Hosts) (input : List ℕ) (n : ℕ) → IsTrue (is_well_formed l.tree) → IsOrdered l →
    is_barred (length l.tree.functions) (noted_run (length l.tree.functions) (lifted l) hosts input n).events ≡ false →
    whole_run l.tree hosts input (n - made_in (length l.tree.functions) (noted_run (length l.tree.functions) (lifted l) hosts input n).events)
    ≡ own_run (length l.tree.functions) (noted_run (length l.tree.functions) (lifted l) hosts input n)
