-- A monitor's program may be shared by threads, since its parts may.
use denote.Param.Send.{IsSync, sendable}
use Rattle.std.proofs.Crossing.{crosses}
use Rattle.pt_core.proofs.expression.Expr.TheLaws.TheKnot as expressions
use Rattle.pt_core.proofs.statement.Stmt.TheLaws.TheKnot as statements
use Rattle.pt_core.specs.contracts.function.CoreFn
use Rattle.pt_core.specs.contracts.monitor.MonitorProgram

function_shared : IsSync CoreFn.the_row
function_shared = search (crosses, expressions.crosses, statements.crosses, sendable) depth 60 fits 20000

pub monitor_shared : IsSync MonitorProgram.the_row
monitor_shared = search (function_shared, crosses, sendable) depth 60 fits 20000
