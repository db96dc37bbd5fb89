-- What contracts see of the way to a leaf.
use Rattle.std.specs.Prelude.{ℕ, List, [], Option, None, Some, Vec}
use Rattle.std.specs.declared.alloc.Global.{Global}
use Rattle.std.specs.declared.sync.Arc.{Arc}
use Rattle.std.specs.Arc.{arc_value}

abbrev pub numbers_of : Option (Arc (Vec ℕ Global) Global) → List ℕ
numbers_of None = []
numbers_of (Some shared) = (arc_value shared).items
