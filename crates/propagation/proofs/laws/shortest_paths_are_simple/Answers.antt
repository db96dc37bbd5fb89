use Rattle.propagation.proofs.LawLemmas.{shortest_simple}
use Rattle.propagation.proofs.laws.shortest_paths_are_simple.Goals as goal

pub returns : goal.returns
returns c = shortest_simple
