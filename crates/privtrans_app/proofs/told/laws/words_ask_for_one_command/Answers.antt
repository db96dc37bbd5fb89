use Rattle.privtrans_app.proofs.Decoding.{says_one}
use Rattle.privtrans_app.proofs.told.laws.words_ask_for_one_command.Goals as goal

pub returns : goal.returns
returns c = says_one
