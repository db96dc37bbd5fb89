use Rattle.std.proofs.Common.{◌∙◌, Err, ap, sym}
use Rattle.pt_base.proofs.Booleans.{true_not_false}
use Rattle.pair_running.proofs.served_pairs.turning.take.Goals as goal

pub unreachable-requires : goal.unreachable-requires
unreachable-requires c = true_not_false (sym c.requires.2 ∙ (c.in-Err-Shape.ensures.shape (ap (λ e. Err e) c.in-Err-Shape.field-0-is) c.requires.0 c.requires.1).0)
