-- What holds of all texts.
use Rattle.std.specs.Prelude.{◌≡◌, ℕ, [], ◌∷◌}
use Rattle.pt_base.specs.declared.end.End.{End}
use Rattle.pt_base.specs.declared.end.End.TheVariants.{Exit, Trapped, Spent, Refused}
use Rattle.stages.specs.Climb.{Texts, hosts, inputs}
use Rattle.stages.specs.Commands.{AreCut, Climb, ComesTo}
use Rattle.original.specs.Original.{IsOriginal, Ran}

-- texts come to one outcome at most
abbrev pub OutcomeIsOne : Type 0
OutcomeIsOne = (t : Texts) (turns : ℕ) (a b : Climb Ran) → ComesTo (hosts ∷ inputs ∷ []) (IsOriginal turns) t a → ComesTo (hosts ∷ inputs ∷ []) (IsOriginal turns) t b → a ≡ b

-- what the first bytes of texts come to, of each one more than it may have, the whole texts come to
abbrev pub CutsAreEnough : Type 0
CutsAreEnough = (whole cut : Texts) (turns : ℕ) (o : Climb Ran) → AreCut whole cut → ComesTo (hosts ∷ inputs ∷ []) (IsOriginal turns) cut o
    → ComesTo (hosts ∷ inputs ∷ []) (IsOriginal turns) whole o

-- no policy ended the run
abbrev pub IsUnrefused : End → Type 0
IsUnrefused (Exit status) = Unit {0}
IsUnrefused (Trapped trap span) = Unit {0}
IsUnrefused Spent = Unit {0}
IsUnrefused (Refused call f state) = ⊥

-- none ends any
abbrev pub OrigIsNeverRefused : Type 0
OrigIsNeverRefused = (t : Texts) (turns : ℕ) (r : Ran) → IsOriginal turns t r → IsUnrefused r.end
