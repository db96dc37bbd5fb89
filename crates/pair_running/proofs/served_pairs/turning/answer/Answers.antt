use Rattle.std.proofs.Common.{sym, subst}
use Rattle.pair_running.specs.ServedPairsTurns.{MayHear}
use Rattle.pair_running.proofs.served_pairs.turning.answer.Goals as goal

pub take-requires : goal.take-requires
take-requires c = (c.requires.0, c.requires.1, subst (MayHear c.requires.0) c.in-Some.is c.requires.2)
