use Rattle.std.proofs.Common.{refl}
use Rattle.memory_link.proofs.Cames.{given}
use Rattle.memory_link.proofs.link.MemoryLink.give.Goals as goal

pub returns-clause-came : goal.returns-clause-came
returns-clause-came g c = given g.C.Chooser.answers _ _ _ refl refl refl c.in_ok-piece.ensures.given
