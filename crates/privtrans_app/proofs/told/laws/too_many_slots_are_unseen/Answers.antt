use Rattle.privtrans_app.proofs.ExistingLemmas.{many_unseen}
use Rattle.privtrans_app.proofs.told.laws.too_many_slots_are_unseen.Goals as goal

pub returns : goal.returns
returns c = many_unseen
