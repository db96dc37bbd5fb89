use Rattle.std.proofs.Common.{◌≡◌, ◌+◌, ◌≤◌, [], length}
use Rattle.policy.specs.Lines.{lines_of}
use Rattle.policy.specs.Functions.{known}
use Rattle.policy.specs.LineReading.{read_from}
use Rattle.policy.proofs.text.read_rules.Given as goal

-- the rules so far, and the lines that are left
abbrev pub invariant-loop-rest : goal.invariant-loop-rest
invariant-loop-rest l = record {
  number : l.number + length l.rest ≤ length l.text;
  read : read_from (known l.functions) l.rules.items l.number (lines_of l.rest) ≡ read_from (known l.functions) [] 0 (lines_of l.text);
}

abbrev pub decreases-loop-rest : goal.decreases-loop-rest
decreases-loop-rest l = length l.rest
