use Rattle.marshalling_law.proofs.HonestLemmas.{calls_are_transparent}
use Rattle.marshalling_law.proofs.laws.calls_are_transparent.Goals as goal

pub returns : goal.returns
returns c = calls_are_transparent
