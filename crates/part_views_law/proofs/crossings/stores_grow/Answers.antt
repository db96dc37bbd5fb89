use Rattle.part_views_law.proofs.CrossingsStores.{stores_grow}
use Rattle.part_views_law.proofs.crossings.stores_grow.Goals as goal

pub returns : goal.returns
returns c = stores_grow
