use Rattle.std.proofs.Common.{◌≡◌, ◌≤◌, ℕ, length, drop, reverse}
use Rattle.std.specs.List.{position_from}
use Rattle.policy.specs.Places.{is_keyed, head_at, steps_from}
use Rattle.policy.proofs.indexing.rule_index.Given as goal

-- the rules from here on are in the index
abbrev pub invariant-loop-next : goal.invariant-loop-next
invariant-loop-next l = record {
  within : l.next ≤ length l.rules;
  heads : (number f : ℕ) → head_at l.heads.entries number f ≡ position_from (is_keyed l.rules number f) l.next (drop l.next l.rules);
  steps : reverse l.steps.items ≡ steps_from l.rules l.next (drop l.next l.rules);
}

abbrev pub decreases-loop-next : goal.decreases-loop-next
decreases-loop-next l = l.next
