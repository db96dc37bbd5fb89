-- Climbs of which one goes on where another ends.
use Rattle.std.proofs.Common.{List, [], ◌∷◌, ◌++◌, inl, inr}
use Rattle.typed_tree.specs.TypedTree.{TypedTree}
use Rattle.stages.specs.Climb.{Pass, Refusal, Stage, StopsAt, Texts}
use Rattle.stages.specs.Laws.{ClimbsJoin, LongerClimbsStop}

pub passes_join : (ss more : List Stage) (t : Texts) (tree : TypedTree) → Pass ss t tree → Pass more t tree → Pass (ss ++ more) t tree
passes_join [] more t tree p q = q
passes_join (s ∷ ss) more t tree p q = (p.0, passes_join ss more t tree p.1 q)

pub stops_join : ClimbsJoin
stops_join [] more t tree r p x = x
stops_join (s ∷ ss) more t tree r p x = inr (p.0, stops_join ss more t tree r p.1 x)

longer_stops : (ss more : List Stage) (t : Texts) (tree : TypedTree) (r : Refusal) → StopsAt ss t tree r → StopsAt (ss ++ more) t tree r
longer_stops [] more t tree r x = absurd x
longer_stops (s ∷ ss) more t tree r (inl f) = inl f
longer_stops (s ∷ ss) more t tree r (inr x) = inr (x.0, longer_stops ss more t tree r x.1)

pub longer_refused : LongerClimbsStop
longer_refused ss more t r (inl x) = inl x
longer_refused ss more t r (inr x) = inr (x.0, x.1, longer_stops ss more t x.0 r x.2)
