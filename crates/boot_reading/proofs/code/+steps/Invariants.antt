use Rattle.std.proofs.Common.{◌≡◌, ◌-◌, ◌+◌, ◌*◌, map}
use Rattle.pt_core.specs.CodeTree.{view_stmt}
use Rattle.boot_fields.specs.Reading.{many, list_at, stmt_at}
use Rattle.boot_reading.proofs.Loop.{with_front}
use Rattle.boot_reading.proofs.code.+steps.Given as goal

abbrev pub decreases-stmt : goal.decreases-stmt
decreases-stmt l = 4 * l.depth

abbrev pub decreases-stmts : goal.decreases-stmts
decreases-stmts l = 4 * l.depth + 1

abbrev pub decreases-choice : goal.decreases-choice
decreases-choice l = 4 * l.depth + 2

abbrev pub decreases-repetition : goal.decreases-repetition
decreases-repetition l = 4 * l.depth + 2

abbrev pub decreases-step : goal.decreases-step
decreases-step l = 4 * l.depth + 3

abbrev pub invariant-stmts-loop : goal.invariant-stmts-loop
invariant-stmts-loop l = with_front (map view_stmt l.items.items) (many (stmt_at l.depth) (l.count - l.counter) l.rest) ≡ list_at (stmt_at l.depth) l.bytes
