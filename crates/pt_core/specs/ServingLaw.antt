-- The monitor's program and a whole one.
use Rattle.std.specs.Prelude.{IsTrue, true, false}
use Rattle.std.specs.List.{list_all}
use Rattle.pt_core.specs.CodeTree.{ProgramTree}
use Rattle.pt_core.specs.WellFormed.{is_sound, callees, callee_fits}

-- a program whose functions have all parameters of their signatures may be the monitor's, where the
-- privileged functions that it calls are among its functions
abbrev pub WholeMayServe : Type 0
WholeMayServe = (p : ProgramTree) → IsTrue (is_sound false p) → IsTrue (list_all (callee_fits true p) (callees p)) → IsTrue (is_sound true p)
