-- The calls of an object in memory, some of which are to fail.
use Rattle.std.specs.Prelude.{◌≡◌, ◌↔◌, ℕ, ◌+◌, ◌-◌, ◌^◌, Bool, true, false, IsTrue, List, nat_eq, Vec, Result, IsErrOf, min}
use Rattle.std.specs.List.{list_any}
use Rattle.std.specs.declared.alloc.Global.{Global}
use Rattle.pt_base.specs.declared.calls.Calls.{Calls}

-- one more, as far as 64 bits count
abbrev pub next_call : ℕ → ℕ
next_call n = min (n + 1) (2 ^ 64 - 1)

-- the call at this place is to fail
abbrev pub is_listed : List ℕ → ℕ → Bool
is_listed fails place = list_any (λ y. nat_eq y place) fails

-- the count of faults after a call that failed or didn't
abbrev pub faults_after : Bool → ℕ → ℕ
faults_after true faults = next_call faults
faults_after false faults = faults

-- no call came so far
abbrev pub fresh_calls : Vec ℕ Global → Calls
fresh_calls fails = record { fails = fails; made = 0; faults = 0 }

-- one call came: it fails exactly where its place is listed, and then alone the count of faults rises
pub record CountsCall {T E : Type 0} (old new : Calls) (result : Result T E) (failed : E) : Type 0 where
  pub listed : new.fails ≡ old.fails
  pub made : new.made ≡ next_call old.made
  pub fails : IsErrOf result failed ↔ IsTrue (is_listed old.fails.items new.made)
  pub faults : new.faults ≡ faults_after (is_listed old.fails.items new.made) old.faults
