use Rattle.privtrans_app.proofs.SeenLemmas.{no_want}
use Rattle.privtrans_app.proofs.told.laws.want_is_not_seen.Goals as goal

pub returns : goal.returns
returns c = no_want
