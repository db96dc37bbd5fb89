use Rattle.std.proofs.Common.{◌≡◌, ◌++◌, map, drop}
use Rattle.pt_core.specs.CodeTree.{view_stmt}
use Rattle.pt_core.proofs.+copies.Given as goal

-- the copies so far, and then the others, are seen as all of them
abbrev pub invariant-copy_statement::copied-loop-statement : goal.invariant-copy_statement::copied-loop-statement
invariant-copy_statement::copied-loop-statement l = map view_stmt l.copies.items ++ map view_stmt (drop l.statement-index l.statements) ≡ map view_stmt l.statements
