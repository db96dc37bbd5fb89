use Rattle.std.proofs.Common.{◌∙◌, Err, ap, sym}
use Rattle.pt_base.proofs.Booleans.{true_not_false}
use Rattle.pair_running.proofs.ServedPairsBeginning.{few_open}
use Rattle.pair_running.proofs.served_pairs.beginning.open_one.Goals as goal

pub open-requires : goal.open-requires
open-requires c = record { stands = (c.requires.0, c.requires.1, c.requires.2.numbered) }

pub returns-in-Ok : goal.returns-in-Ok
returns-in-Ok c = λ h is. (c.in-Ok.ensures.opened h is).2

-- there is room
pub unreachable-requires : goal.unreachable-requires
unreachable-requires c =
    let full = (c.in-Err-Full.ensures.full c.requires.0 c.requires.1).0 (ap (λ e. Err e) c.in-Err-Full.field-0-is) in
    true_not_false (sym full ∙ few_open c.requires.0 c.requires.2.few)
