use Rattle.std.proofs.Common.{◌≡◌, ◌++◌, drop, map}
use Rattle.pt_tree.specs.ProgramTree.{view_param}
use Rattle.half_trees.specs.Declarations.{declared_from}
use Rattle.half_trees.proofs.parameters.declared_params.Given as goal

-- the parameters so far, and then the others, are all of them
abbrev pub invariant-loop-k : goal.invariant-loop-k
invariant-loop-k l = map view_param l.trees.items ++ declared_from l.structs l.k (drop l.k l.params) ≡ declared_from l.structs 0 l.params
