use Rattle.hidden_laws.proofs.HiddenBodiesBodies.{bodies_hidden}
use Rattle.hidden_laws.proofs.hidden_bodies.privileged_bodies_are_hidden.Goals as goal

pub returns : goal.returns
returns c = bodies_hidden c.begun_boots_tell_nothing_privileged.ensures c.boots_and_rules_tell_all.ensures
