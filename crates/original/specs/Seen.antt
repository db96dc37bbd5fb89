-- What contracts see of an answer.
use Rattle.std.specs.Prelude.{◌≡◌}
use Rattle.runs.specs.Run.{Run, written}
use Rattle.original.specs.Original as o
use Rattle.original.specs.declared.ran.Ran.{Ran}

abbrev pub view_ran : Ran → o.Ran
view_ran r = record { bytes = r.written.items; end = r.end }

-- the answer is what is seen of the run
abbrev pub IsSeen : Run → Ran → Type 0
IsSeen run r = (r.written.items ≡ written run.events) × (r.end ≡ run.end)
