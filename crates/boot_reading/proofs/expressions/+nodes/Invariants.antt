use Rattle.std.proofs.Common.{◌≡◌, ◌+◌, ◌*◌, length, reverse, vec_len}
use Rattle.std.specs.Prelude.{Ok}
use Rattle.pt_core.specs.CodeTree.{view_expr}
use Rattle.boot_fields.specs.Reading.{expr_at}
use Rattle.boot_reading.specs.ChainReading.{upwards}
use Rattle.boot_reading.proofs.expressions.+nodes.Given as goal

abbrev pub decreases-expr : goal.decreases-expr
decreases-expr l = 3 * l.depth

abbrev pub decreases-operand : goal.decreases-operand
decreases-operand l = 3 * l.depth + 1

abbrev pub decreases-closed : goal.decreases-closed
decreases-closed l = 3 * l.depth + 2

abbrev pub invariant-expr-loop-head : goal.invariant-expr-loop-head
invariant-expr-loop-head l = record {
  up : upwards l.left (reverse l.heads.items) (Ok (view_expr l.found, l.rest)) ≡ expr_at l.depth l.bytes;
  deep : l.left + length l.heads.items ≡ l.depth;
}

abbrev pub decreases-expr-loop-head : goal.decreases-expr-loop-head
decreases-expr-loop-head l = vec_len l.heads
