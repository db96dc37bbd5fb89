use Rattle.std.proofs.Common.{◌≡◌, ◌+◌, ◌-◌, ◌≤◌, length, drop}
use Rattle.std.specs.List.{prefix_len}
use Rattle.std.specs.Prelude.{not}
use Rattle.policy.specs.Lines.{is_blank}
use Rattle.policy.proofs.line.word_length.Given as goal

-- the bytes so far, and what goes on behind them
abbrev pub invariant-loop-end : goal.invariant-loop-end
invariant-loop-end l = record {
  within : l.end ≤ length l.line;
  run : l.end + prefix_len (λ b. not (is_blank b)) (drop l.end l.line) ≡ prefix_len (λ b. not (is_blank b)) l.line;
}

abbrev pub decreases-loop-end : goal.decreases-loop-end
decreases-loop-end l = length l.line - l.end
