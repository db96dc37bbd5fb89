use Rattle.std.proofs.Common.{◌≡◌, ◌+◌, length, reverse}
use Rattle.boot_fields.specs.Reading.{expr_at}
use Rattle.boot_reading.specs.ChainReading.{upwards}
use Rattle.boot_reading.proofs.expressions.innermost.Given as goal

abbrev pub invariant-loop-left : goal.invariant-loop-left
invariant-loop-left l = record {
  down : upwards l.left (reverse l.heads.items) (expr_at l.left l.rest) ≡ expr_at l.depth l.bytes;
  deep : l.left + length l.heads.items ≡ l.depth;
}

abbrev pub decreases-loop-left : goal.decreases-loop-left
decreases-loop-left l = l.left
