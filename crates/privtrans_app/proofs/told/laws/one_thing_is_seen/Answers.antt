use Rattle.privtrans_app.proofs.DifferingLemmas.{seen_is_one}
use Rattle.privtrans_app.proofs.told.laws.one_thing_is_seen.Goals as goal

pub returns : goal.returns
returns c = seen_is_one
