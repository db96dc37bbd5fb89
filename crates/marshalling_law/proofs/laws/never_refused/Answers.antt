use Rattle.marshalling_law.proofs.SendableLemmas.{never_refused}
use Rattle.marshalling_law.proofs.laws.never_refused.Goals as goal

pub returns : goal.returns
returns c = never_refused
