-- What is told of texts is what `local` makes of them, whatever the input is.
use Rattle.std.proofs.Common.{[], ◌∷◌}
use Rattle.stages.specs.Climb.{inputs}
use Rattle.stages.proofs.Joins.{longer_refused}
use Rattle.pair_explaining.specs.Laws.{ExplainedIsReported, HeldPasses, with_input}
use Rattle.pair_explaining.specs.PairExplains.{of_files}

pub reported : ExplainedIsReported
reported t xs r is = longer_refused of_files (inputs ∷ []) (with_input t xs) r is

pub passes : HeldPasses
passes name t lines xs h few = (h.0, (h.1.0, (h.1.1.0, (h.1.1.1.0, ((h.2.accepted, h.2.is), (few, tt {0}))))))
