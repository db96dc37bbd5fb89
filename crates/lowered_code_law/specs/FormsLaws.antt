-- The lowered program of a well formed one is well formed.
use Rattle.std.specs.Prelude.{IsTrue}
use Rattle.typed_tree.specs.TypedTree.{TypedTree}
use Rattle.typed_tree.specs.WellFormed as source
use Rattle.pt_core.specs.WellFormed as core
use Rattle.lowering.specs.Functions.{core_program}

-- of every well formed typed program the lowered one is well formed in the normal form
abbrev pub LoweredProgramsAreWellFormed : Type 0
LoweredProgramsAreWellFormed = (program : TypedTree) → IsTrue (source.is_well_formed program) → IsTrue (core.is_well_formed (core_program program))
