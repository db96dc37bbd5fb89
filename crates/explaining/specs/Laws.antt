-- What holds of explanations.
use Rattle.std.specs.Prelude.{ℕ, List, [], ◌∷◌}
use Rattle.stages.specs.Climb.{Texts, flows}
use Rattle.stages.specs.Commands.{AreCut, Climb, ComesTo}
use Rattle.explaining.specs.Explains.{IsHeld}

-- what the first bytes of texts come to, one more than each may have, the whole texts come to
abbrev pub FirstBytesAreEnough : Type 0
FirstBytesAreEnough =
    (name : List ℕ) (whole cut : Texts) (o : Climb (List ℕ)) → AreCut whole cut → ComesTo (flows ∷ []) (IsHeld name) cut o → ComesTo (flows ∷ []) (IsHeld name) whole o
