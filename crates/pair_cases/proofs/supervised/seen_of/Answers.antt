use Rattle.pair_texts.specs.Seen.{texts_with}
use Rattle.pair_cases.proofs.supervised.seen_of.Goals as goal

pub serve-requires : goal.serve-requires
serve-requires g c = (texts_with c.args.program.now c.args.beside, record { begins = c.in_ok-pair.ensures; bytes = c.are_bytes.ensures })
