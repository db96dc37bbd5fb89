use Rattle.privtrans_app.proofs.ToldLemmas.{commands_told}
use Rattle.privtrans_app.proofs.told.laws.commands_are_told.Goals as goal

pub returns : goal.returns
returns c = commands_told
