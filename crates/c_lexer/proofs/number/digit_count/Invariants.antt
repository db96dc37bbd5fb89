use Rattle.std.proofs.Common.{◌≡◌, ◌+◌, ◌-◌, ◌≤◌, length, drop}
use Rattle.std.specs.List.{prefix_len}
use Rattle.std.specs.Char.{is_digit}
use Rattle.c_lexer.proofs.number.digit_count.Given as goal

-- the bytes so far, and what goes on behind them
abbrev pub invariant-loop-count : goal.invariant-loop-count
invariant-loop-count l = record {
  within : l.count ≤ length l.bytes;
  run : l.count + prefix_len (λ b. is_digit b l.base) (drop l.count l.bytes) ≡ prefix_len (λ b. is_digit b l.base) l.bytes;
}

abbrev pub decreases-loop-count : goal.decreases-loop-count
decreases-loop-count l = length l.bytes - l.count
