use Rattle.original.proofs.RunLemmas.{orig_unrefused}
use Rattle.original.proofs.laws.orig_is_never_refused.Goals as goal

pub returns : goal.returns
returns c = orig_unrefused
