use Rattle.std.proofs.Common.{◌≡◌, ◌++◌, drop}
use Rattle.policy.proofs.rule.copied_rules.Given as goal

-- the copies so far, and then the others, are all of them
abbrev pub invariant-loop-rule : goal.invariant-loop-rule
invariant-loop-rule l = l.copies.items ++ drop l.rule-index l.rules ≡ l.rules
