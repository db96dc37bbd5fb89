use Rattle.std.proofs.Common.{◌≡◌, ◌-◌, map}
use Rattle.pt_core.specs.CodeTree.{view_expr}
use Rattle.boot_fields.specs.Reading.{many, list_at, expr_at}
use Rattle.boot_reading.proofs.Loop.{with_front}
use Rattle.boot_reading.proofs.expressions.exprs.Given as goal

abbrev pub invariant-loop : goal.invariant-loop
invariant-loop l = with_front (map view_expr l.items.items) (many (expr_at l.depth) (l.count - l.counter) l.rest) ≡ list_at (expr_at l.depth) l.bytes
