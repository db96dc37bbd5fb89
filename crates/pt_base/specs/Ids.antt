-- Functions, globals and variables by their numbers.
use Rattle.std.specs.Prelude.{ℕ}
use Rattle.pt_base.specs.declared.ids.FnId.{FnId}
use Rattle.pt_base.specs.declared.ids.GlobalId.{GlobalId}
use Rattle.pt_base.specs.declared.ids.VarId.{VarId}

abbrev pub function_id : ℕ → FnId
function_id n = record { 0 = n }

abbrev pub global_id : ℕ → GlobalId
global_id n = record { 0 = n }

abbrev pub var_id : ℕ → VarId
var_id n = record { 0 = n }
