use Rattle.wire.proofs.Sizes.{counts_suffice}
use Rattle.wire.proofs.laws.counts_suffice.Goals as goal

pub returns : goal.returns
returns c = counts_suffice
