use Rattle.std.proofs.Common.{[], refl}
use Rattle.pair_explaining.specs.PairExplains.{of_files}
use Rattle.pair_explaining.specs.PairSeen.{view_given}
use Rattle.pair_explaining.proofs.Told.{stop_told}
use Rattle.flow_cases.proofs.explained.push_pair_explained.Goals as goal

pub push_refused-requires : goal.push_refused-requires
push_refused-requires g c =
    let t = view_given c.args.given in
    stop_told of_files t _ c.explain_pair.result _ c.in-Err-Refused.refusal (tt {0}) (c.explain_pair.ensures [] t (record { program = refl; host = refl; policy = refl }))
    c.in-Err-Refused.is c.in-Err-Refused.field-0-is
