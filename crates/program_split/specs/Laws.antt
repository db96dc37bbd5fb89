-- What holds of all texts.
use Rattle.std.specs.Prelude.{[], ◌∷◌}
use Rattle.stages.specs.Climb.{Texts, flows}
use Rattle.stages.specs.Commands.{AreAlike, AreCut, Climb, ComesTo}
use Rattle.program_split.specs.Split.{HalfTexts, IsSplit}

-- texts come to one outcome at most, but for the ways, of which one is chosen where there are several
abbrev pub OutcomeIsOne : Type 0
OutcomeIsOne = (t : Texts) (a b : Climb HalfTexts) → ComesTo (flows ∷ []) IsSplit t a → ComesTo (flows ∷ []) IsSplit t b → AreAlike a b

-- what the first bytes of texts come to, of each one more than it may have, the whole texts come to
abbrev pub FirstBytesAreEnough : Type 0
FirstBytesAreEnough = (whole cut : Texts) (o : Climb HalfTexts) → AreCut whole cut → ComesTo (flows ∷ []) IsSplit cut o → ComesTo (flows ∷ []) IsSplit whole o
