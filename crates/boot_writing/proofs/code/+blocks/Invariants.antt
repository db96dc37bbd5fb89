use Rattle.std.proofs.Common.{◌++◌, drop, length, map}
use Rattle.wire.specs.Spelling.{eight_bytes}
use Rattle.wire.proofs.Put.{Putting}
use Rattle.pt_core.specs.CodeTree.{view_stmt}
use Rattle.boot_fields.specs.Spelling.{stmt_bytes}
use Rattle.boot_fields.specs.Limits.{FitsStmt}
use Rattle.boot_writing.proofs.code.+blocks.Given as goal

abbrev pub invariant-put_stmts-loop-statement : goal.invariant-put_stmts-loop-statement
invariant-put_stmts-loop-statement l = Putting stmt_bytes FitsStmt (map view_stmt l.fn.statements) (map view_stmt (drop l.statement-index l.statements)) (l.fn.out.items ++ eight_bytes (length l.fn.statements)) l.out.items
