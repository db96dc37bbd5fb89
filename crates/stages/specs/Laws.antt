-- What holds of all climbs.
use Rattle.std.specs.Prelude.{◌≡◌, List, ◌++◌}
use Rattle.typed_tree.specs.TypedTree.{TypedTree}
use Rattle.stages.specs.Climb.{HasPassed, IsRefused, Pass, Refusal, Stage, StopsAt, Texts}
use Rattle.stages.specs.Commands.{AreCut, without_ways}

-- texts are refused in one way at most, but for the ways of flows, of which one is chosen where there are several
abbrev pub RefusalsAreOne : Type 0
RefusalsAreOne = (ss : List Stage) (t : Texts) (a b : Refusal) → IsRefused ss t a → IsRefused ss t b → without_ways a ≡ without_ways b

-- texts that pass aren't refused
abbrev pub PassedOrRefused : Type 0
PassedOrRefused = (ss : List Stage) (t : Texts) (tree : TypedTree) (r : Refusal) → HasPassed ss t tree → IsRefused ss t r → ⊥

-- what the first bytes come to, the whole texts come to
abbrev pub FirstBytesAreEnough : Type 0
FirstBytesAreEnough = (ss : List Stage) (whole cut : Texts) → AreCut whole cut
    → ((r : Refusal) → IsRefused ss cut r → IsRefused ss whole r) × ((tree : TypedTree) → HasPassed ss cut tree → HasPassed ss whole tree)

-- what refuses texts refuses them also where more stages stand behind
abbrev pub LongerClimbsStop : Type 0
LongerClimbsStop = (ss more : List Stage) (t : Texts) (r : Refusal) → IsRefused ss t r → IsRefused (ss ++ more) t r

-- texts that pass some stages and stop at others stop at both together
abbrev pub ClimbsJoin : Type 0
ClimbsJoin = (ss more : List Stage) (t : Texts) (tree : TypedTree) (r : Refusal) → Pass ss t tree → StopsAt more t tree r → StopsAt (ss ++ more) t tree r
