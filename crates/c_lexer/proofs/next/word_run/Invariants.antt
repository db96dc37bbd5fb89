use Rattle.std.proofs.Common.{◌≡◌, ◌+◌, ◌-◌, ◌≤◌, length, drop}
use Rattle.std.specs.List.{prefix_len}
use Rattle.c_lexer.specs.Bytes.{is_word_byte}
use Rattle.c_lexer.proofs.next.word_run.Given as goal

-- the bytes so far, and what goes on behind them
abbrev pub invariant-loop-end : goal.invariant-loop-end
invariant-loop-end l = record {
  within : l.end ≤ length l.rest;
  run : l.end + prefix_len is_word_byte (drop l.end l.rest) ≡ prefix_len is_word_byte l.rest;
}

abbrev pub decreases-loop-end : goal.decreases-loop-end
decreases-loop-end l = length l.rest - l.end
