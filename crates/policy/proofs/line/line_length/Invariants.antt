use Rattle.std.proofs.Common.{◌≡◌, ◌+◌, ◌-◌, ◌≤◌, length, drop}
use Rattle.std.specs.List.{prefix_len}
use Rattle.std.specs.Prelude.{not, ◌==◌}
use Rattle.policy.proofs.line.line_length.Given as goal

-- the bytes so far, and what goes on behind them
abbrev pub invariant-loop-end : goal.invariant-loop-end
invariant-loop-end l = record {
  within : l.end ≤ length l.text;
  run : l.end + prefix_len (λ b. not (b == 10)) (drop l.end l.text) ≡ prefix_len (λ b. not (b == 10)) l.text;
}

abbrev pub decreases-loop-end : goal.decreases-loop-end
decreases-loop-end l = length l.text - l.end
