use Rattle.std.proofs.Common.{◌≡◌, ◌++◌, drop, map}
use Rattle.pt_tree.specs.ProgramTree.{view_param}
use Rattle.half_trees.specs.Functions.{parameters_from}
use Rattle.half_trees.proofs.functions.parameters.Given as goal

-- the parameters so far, and then the others, are all of them
abbrev pub invariant-loop-n : goal.invariant-loop-n
invariant-loop-n l = map view_param l.trees.items ++ parameters_from l.structs l.n (drop l.n l.vars) ≡ parameters_from l.structs 0 l.vars
