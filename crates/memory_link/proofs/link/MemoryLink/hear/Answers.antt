use Rattle.std.proofs.Common.{refl}
use Rattle.memory_link.proofs.Cames.{heard}
use Rattle.memory_link.proofs.link.MemoryLink.hear.Goals as goal

pub returns-clause-came : goal.returns-clause-came
returns-clause-came g c = heard g.C.Chooser.answers _ _ _ refl refl refl c.in_ok-hear.ensures
