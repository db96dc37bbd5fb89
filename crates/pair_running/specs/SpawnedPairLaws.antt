-- What holds of all texts.
use Rattle.std.specs.Prelude.{ℕ, Bool, List, Option, Result}
use Rattle.std.specs.Io.KnownBytes.{Appends}
use Rattle.honest_link.specs.Came.{Started}
use Rattle.pt_base.specs.Talk.{Event}
use Rattle.pair_runner.specs.declared.fault.RunFault.{RunFault}
use Rattle.pair_runner.specs.Sending.{Breaks, Moves}
use Rattle.stages.specs.Commands.{AreCut}
use Rattle.pair_texts.specs.Start.{Texts}
use Rattle.pair_running.specs.declared.spawned_pair.outcome.Outcome.{Outcome}
use Rattle.pair_running.specs.SpawnedPairOutcomeSeen.{IsExpectedOver, IsHonestFor, IsServed}
use Rattle.pair_running.specs.SpawnedPairSupervised.{AreUntouched}

-- so is a run served with these texts
abbrev pub Serves : {S K : Type 0} → (S → S → Type 0) → (S → List Event → S → Type 0) → (S → (List ℕ → List ℕ) → (List ℕ → Bool) → Type 0) → (S → Option (List ℕ)) → (S → Option (List ℕ)) → (K → Option (List ℕ)) → Texts → ℕ → S → S → K → K → Result Outcome RunFault → Type 0
Serves starts came honest sent given taken t turns spawner spawner' sink sink' result =
    IsServed (AreUntouched spawner spawner' sink sink') (Moves (Started starts came honest sent given) sent given taken spawner spawner' sink sink') (Breaks sent given taken spawner spawner' sink sink') t turns result

-- so is it expected with these texts
abbrev pub IsExpected : {S K : Type 0} → (S → (List ℕ → List ℕ) → (List ℕ → Bool) → Type 0) → (S → Option (List ℕ)) → (S → Option (List ℕ)) → (K → Option (List ℕ)) → Texts → ℕ → S → K → K → Result Outcome RunFault → Type 0
IsExpected honest sent given taken t turns spawner sink sink' result =
    IsHonestFor honest sent given t turns spawner → IsExpectedOver (λ bytes. Appends (taken sink) (taken sink') bytes) t turns result

-- what holds of a run with the first bytes of texts, of each one more than it may have, holds of it with the whole texts
pub record CutsAreEnough {S K : Type 0} (starts : S → S → Type 0) (came : S → List Event → S → Type 0) (honest : S → (List ℕ → List ℕ) → (List ℕ → Bool) → Type 0) (sent given : S → Option (List ℕ)) (taken : K → Option (List ℕ)) : Type 0 where
  pub served : (whole cut : Texts) (turns : ℕ) (spawner spawner' : S) (sink sink' : K) (result : Result Outcome RunFault) → AreCut whole cut →
      Serves starts came honest sent given taken cut turns spawner spawner' sink sink' result → Serves starts came honest sent given taken whole turns spawner spawner' sink sink' result
  pub expected : (whole cut : Texts) (turns : ℕ) (spawner : S) (sink sink' : K) (result : Result Outcome RunFault) → AreCut whole cut →
      IsExpected honest sent given taken cut turns spawner sink sink' result → IsExpected honest sent given taken whole turns spawner sink sink' result
