use Rattle.privtrans_app.proofs.ExistingLemmas.{commands_seen}
use Rattle.privtrans_app.proofs.told.laws.commands_are_seen.Goals as goal

pub returns : goal.returns
returns c = commands_seen
