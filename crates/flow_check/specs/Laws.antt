-- What holds of all texts.
use Rattle.std.specs.Prelude.{ℕ, List, [], ◌∷◌}
use Rattle.stages.specs.Climb.{Texts, flows}
use Rattle.stages.specs.Commands.{AreAlike, AreCut, Climb, ComesTo}
use Rattle.flow_check.specs.Checked.{IsChecked}

-- a text comes to one outcome at most, but for the ways, of which one is chosen where there are several
abbrev pub OutcomeIsOne : Type 0
OutcomeIsOne = (t : Texts) (a b : Climb (List ℕ)) → ComesTo (flows ∷ []) IsChecked t a → ComesTo (flows ∷ []) IsChecked t b → AreAlike a b

-- what the first bytes of a text come to, one more than it may have, the whole text comes to
abbrev pub FirstBytesAreEnough : Type 0
FirstBytesAreEnough = (whole cut : Texts) (o : Climb (List ℕ)) → AreCut whole cut → ComesTo (flows ∷ []) IsChecked cut o → ComesTo (flows ∷ []) IsChecked whole o
