use Rattle.std.proofs.Common.{◌≡◌, drop}
use Rattle.pt_core.specs.CodeTree.{view_place}
use Rattle.lowering.specs.Leaves.{at_end_of}
use Rattle.lowering.specs.Lowered.{temp_place}
use Rattle.lowering.specs.Walks.{way_of}
use Rattle.lowering.proofs.leaves.Walk.place.Given as goal

-- from the place so far the other steps lead to the integer
abbrev pub invariant-loop-level : goal.invariant-loop-level
invariant-loop-level l = at_end_of l.span (way_of (drop l.level-index l.levels)) (view_place l.place) ≡ at_end_of l.span (way_of l.levels) (temp_place l.fn.variable.0)
