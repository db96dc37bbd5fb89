use Rattle.pair_texts.specs.Seen.{texts_with}
use Rattle.pair_cases.proofs.hubs.hub_of.Goals as goal

pub begin-requires : goal.begin-requires
begin-requires g c = (texts_with c.args.program.now c.args.beside, record { begins = c.in_ok-pair.ensures; bytes = c.are_bytes.ensures })
