-- Runs in which guarded calls aren't noted.
use Rattle.std.specs.Prelude.{◌≡◌, ℕ, List, [], ◌∷◌}
use Rattle.runs.specs.State.{Event, out, guarded}
use Rattle.pt_core.specs.CodeTree.{ProgramTree}
use Rattle.pt_core.specs.Steps.{Machine, Gate, Step}
use Rattle.core_steps_law.specs.WholeRun.{Outside, whole_gate, steps_run}

-- the gate of a whole run that notes nothing
abbrev pub silent_gate : ProgramTree → Gate Outside
silent_gate program = record (whole_gate program) { noted = λ active f args g. g }

-- what hosts write, of a list of events
abbrev pub outs : List Event → List Event
outs [] = []
outs (out bytes ∷ events) = out bytes ∷ outs events
outs (guarded f vs ∷ events) = outs events

abbrev pub silenced : Outside → Outside
silenced g = record g { events = outs g.events }

abbrev pub silenced_step : Step Outside → Step Outside
silenced_step s = record s { gate = silenced s.gate }

-- So many steps under the gate that notes nothing are those of the whole run, with its answer and its
-- machine; of its events they have what hosts write.
abbrev pub SilentRunsAgree : Type 0
SilentRunsAgree = (program : ProgramTree) (n : ℕ) (m : Machine) (g : Outside) →
    steps_run program (silent_gate program) n m (silenced g) ≡ silenced_step (steps_run program (whole_gate program) n m g)
