use Rattle.hidden_laws.proofs.BegunBootsBegun.{boots_placed}
use Rattle.hidden_laws.proofs.begun_boots.begun_boots_tell_only_places.Goals as goal

pub returns : goal.returns
returns c = boots_placed c.boots_tell_only_places.ensures
