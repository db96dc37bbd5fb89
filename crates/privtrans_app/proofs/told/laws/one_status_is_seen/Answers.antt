use Rattle.privtrans_app.proofs.SeenLemmas.{status_is_one}
use Rattle.privtrans_app.proofs.told.laws.one_status_is_seen.Goals as goal

pub returns : goal.returns
returns c = status_is_one
