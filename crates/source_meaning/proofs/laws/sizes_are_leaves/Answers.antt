use Rattle.source_meaning.proofs.SizeLemmas.{sizes}
use Rattle.source_meaning.proofs.laws.sizes_are_leaves.Goals as goal

pub returns : goal.returns
returns c = sizes
