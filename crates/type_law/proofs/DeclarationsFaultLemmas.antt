-- Lists of faults that are empty, and tests.
use Rattle.std.proofs.Common.{◌≡◌, [], Bool, true, false, refl}
use Rattle.pt_base.specs.declared.span.Span.{Span}
use Rattle.check_declarations.specs.declared.fault.FaultKind.{FaultKind}
use Rattle.check_declarations.specs.Faults.{fault_if}

-- where a fault isn't, its test doesn't hold
pub no_fault : (b : Bool) (kind : FaultKind) (at : Span) → fault_if b kind at ≡ [] → b ≡ false
no_fault true kind at h = cc
no_fault false kind at h = refl
