use Rattle.std.proofs.Common.{[], ◌∷◌}
use Rattle.stages.specs.Climb.{alone, flows}
use Rattle.pair_explaining.proofs.Told.{stop_told}
use Rattle.flow_cases.proofs.explained.push_explained.Goals as goal

pub push_refused-requires : goal.push_refused-requires
push_refused-requires g c =
    stop_told (flows ∷ []) (alone c.args.given.program.now) _ c.explain.result _ c.in-Err-Refused.refusal (tt {0}) c.explain.ensures c.in-Err-Refused.is c.in-Err-Refused.field-0-is
