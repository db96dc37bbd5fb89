use Rattle.std.proofs.Common.{◌≡◌, drop}
use Rattle.pt_core.specs.Types as types
use Rattle.half_trees.proofs.postfixes.path_type.Given as goal

-- the rest of the path leads to where all of it does
abbrev pub invariant-loop-k : goal.invariant-loop-k
invariant-loop-k l = types.path_type l.structs l.at (drop l.k-index l.path) ≡ types.path_type l.structs l.fn.ty l.path
