use Rattle.std.proofs.Common.{◌≡◌, ◌+◌, ◌-◌, ◌≤◌, length, drop}
use Rattle.std.specs.Option.{option_map}
use Rattle.c_lexer.specs.Next.{close_of}
use Rattle.c_lexer.proofs.comment.close.Given as goal

-- what is found in what is left is what is found in all
abbrev pub invariant-loop-at : goal.invariant-loop-at
invariant-loop-at l = record {
  within : l.at ≤ length l.rest;
  found : option_map (λ n. l.at + n) (close_of (drop l.at l.rest)) ≡ close_of l.rest;
}

abbrev pub decreases-loop-at : goal.decreases-loop-at
decreases-loop-at l = length l.rest - l.at
