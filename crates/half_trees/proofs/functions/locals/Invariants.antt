use Rattle.std.proofs.Common.{◌≡◌, ◌++◌, drop, map}
use Rattle.pt_tree.specs.StatementTree.{view_stmt}
use Rattle.half_trees.specs.Functions.{locals_from}
use Rattle.half_trees.proofs.functions.locals.Given as goal

-- the declarations so far, and then the others, are all of them
abbrev pub invariant-loop-n : goal.invariant-loop-n
invariant-loop-n l = map view_stmt l.trees.items ++ locals_from l.structs l.n (drop l.n l.vars) ≡ locals_from l.structs l.first (drop l.first l.vars)
