use Rattle.sides.proofs.LastLemmas.{noted}
use Rattle.sides.proofs.outs.is_new.Goals as goal

pub returns : goal.returns
returns c = noted _ _ c.args.sealed _ c.in_ok-is_new.ensures.keys c.in_ok-is_new.ensures.added
