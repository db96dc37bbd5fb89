-- Where a count of faults rose.
use Rattle.std.proofs.Common.{◌≡◌, ℕ, Result, subst}
use Rattle.pt_base.specs.Faults.{HasCause}

-- what came before this call served
pub cause_after : {T E : Type 0} (a b c : ℕ) (result : Result T E) (failed wanting : E) → b ≡ a → HasCause b c result failed wanting → HasCause a c result failed wanting
cause_after a b c result failed wanting same h = subst (λ n. HasCause n c result failed wanting) same h
