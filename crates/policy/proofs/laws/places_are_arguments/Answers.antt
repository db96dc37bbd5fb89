use Rattle.policy.proofs.PlainLemmas.{places_are_arguments_lem}
use Rattle.policy.proofs.laws.places_are_arguments.Goals as goal

pub returns : goal.returns
returns c = places_are_arguments_lem
