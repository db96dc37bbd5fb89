-- The state of a run of the original program, and what a part of the run comes to.
use Rattle.runs.specs.State as r
use Rattle.source_meaning.specs.Memory.{Memory}

abbrev pub State : Type 0
State = r.State Memory

abbrev pub Outcome : Type 0 → Type 0
Outcome A = r.Outcome Memory A
