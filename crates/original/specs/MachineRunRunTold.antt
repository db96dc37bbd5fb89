-- What is told of a run.
use Rattle.std.specs.Prelude.{◌≡◌}
use Rattle.runs.specs.Run.{Run, written}
use Rattle.original.specs.declared.machine_run.running.Ran.{Ran}
pub use Rattle.pt_core.specs.Steps.{IsOfABody as IsOfARun}

-- its bytes, its end and its turns
pub record Tells (run : Run) (r : Ran) : Type 0 where
  pub bytes : r.written.items ≡ written run.events
  pub end_is : r.end ≡ run.end
  pub turns_are : r.turns ≡ run.turns
