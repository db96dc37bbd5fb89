use Rattle.std.proofs.Common.{refl}
use Rattle.memory_link.proofs.link.MemoryLink.new.Goals as goal

pub returns-clause-slave : goal.returns-clause-slave
returns-clause-slave g c = λ x is. record { sound = refl; end = c.new.ensures x is }
