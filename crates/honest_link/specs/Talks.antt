-- What an honest link was sent and gave.
use Rattle.std.specs.Prelude.{◌≡◌, ℕ, Bool, List, [], ◌∷◌, ◌++◌, IsTrue}
use Rattle.pt_base.specs.Talk.{Event, gave, took}
use Rattle.pt_base.specs.Told.{IsFrontOf}

-- As long as what it is sent has the form, what it gives begins what its peer says to that, and is all of it at the end. So it comes
-- to where this holds of what was sent and given.
abbrev pub Along : (List ℕ → List ℕ) → (List ℕ → Bool) → (List ℕ → List ℕ → Type 0) → List ℕ → List ℕ → List Event → Type 0
Along says form After sent given [] = After sent given
Along says form After sent given (took bytes ∷ talk) = IsTrue (form (sent ++ bytes)) → Along says form After (sent ++ bytes) given talk
Along says form After sent given (gave piece ∷ talk) =
    IsFrontOf (given ++ piece) (says sent) × (piece ≡ [] → given ++ piece ≡ says sent) × Along says form After sent (given ++ piece) talk
