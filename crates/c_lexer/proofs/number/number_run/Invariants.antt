use Rattle.std.proofs.Common.{◌≡◌, ◌+◌, ◌-◌, ◌≤◌, length, drop}
use Rattle.c_lexer.specs.Next.{run_after, number_run}
use Rattle.c_lexer.proofs.number.number_run.Given as goal

-- the bytes so far, and what goes on behind them
abbrev pub invariant-loop-end : goal.invariant-loop-end
invariant-loop-end l = record {
  within : l.end ≤ length l.rest;
  run : l.end + run_after l.before (drop l.end l.rest) ≡ number_run l.rest;
}

abbrev pub decreases-loop-end : goal.decreases-loop-end
decreases-loop-end l = length l.rest - l.end
