use Rattle.hidden_laws.proofs.BegunBootsBegun.{boots_same}
use Rattle.hidden_laws.proofs.begun_boots.begun_boots_tell_nothing_privileged.Goals as goal

pub returns : goal.returns
returns c = boots_same c.boots_tell_nothing_privileged.ensures
