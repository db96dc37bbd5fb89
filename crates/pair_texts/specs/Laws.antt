-- What holds of all texts.
use Rattle.std.specs.Prelude.{ℕ}
use Rattle.typed_tree.specs.TypedTree.{TypedTree}
use Rattle.pt_core.specs.CodeTree.{BootTree}
use Rattle.pair_meaning.specs.Monitors.{Monitor}
use Rattle.stages.specs.Climb.{HasPassed, of_pair}
use Rattle.stages.specs.Commands.{AreAlike, AreCut, Climb, ComesTo}
use Rattle.pair_texts.specs.Start.{AreStarted, Begun, IsBegun, Texts}

-- texts come to one outcome at most, but for the ways, of which one is chosen where there are several
abbrev pub OutcomeIsOne : Type 0
OutcomeIsOne = (t : Texts) (turns : ℕ) (a b : Climb Begun) → ComesTo of_pair (IsBegun turns) t a → ComesTo of_pair (IsBegun turns) t b → AreAlike a b

-- what the first bytes of texts come to, of each one more than it may have, the whole texts come to
abbrev pub CutsAreEnough : Type 0
CutsAreEnough = (whole cut : Texts) (turns : ℕ) (o : Climb Begun) → AreCut whole cut → ComesTo of_pair (IsBegun turns) cut o → ComesTo of_pair (IsBegun turns) whole o

-- a slave and a monitor start from texts that pass
abbrev pub PassedTextsBegin : Type 0
PassedTextsBegin = (t : Texts) (tree : TypedTree) (turns : ℕ) → HasPassed of_pair t tree → (boot : BootTree) × (monitor : Monitor) × AreStarted t turns boot monitor
