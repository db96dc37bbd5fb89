use Rattle.std.proofs.Common.{◌≡◌, ◌≤◌, ℕ, List, length, drop}
use Rattle.std.specs.List.{position_from}
use Rattle.std.specs.Map.{lookup}
use Rattle.std.specs.Str.{bytes_eq}
use Rattle.policy.proofs.states.state_numbers.Given as goal

-- the states of the rules from here on have their numbers
abbrev pub invariant-loop-next : goal.invariant-loop-next
invariant-loop-next l = record {
  within : l.next ≤ length l.rules;
  numbers : (state : List ℕ) → lookup (λ k. bytes_eq state k.now) l.numbers.entries ≡ position_from (λ r. bytes_eq r.from state) l.next (drop l.next l.rules);
}

abbrev pub decreases-loop-next : goal.decreases-loop-next
decreases-loop-next l = l.next
