-- What a policy keeps.
use Rattle.std.specs.Prelude.{◌≡◌, ◌≤◌, ℕ, List, length, Option, Some, None, slice_get}
use Rattle.std.specs.Option.{option_map_or}
use Rattle.policy.specs.Places.{state_number}
use Rattle.policy.specs.Indexed.{IsIndex}
use Rattle.policy.specs.Verdicts.{first_state}
use Rattle.policy.specs.declared.rule.Rule.{Rule}
use Rattle.policy.specs.declared.index.RuleIndex.{RuleIndex}
use Rattle.policy.specs.declared.TheConstants.{RULE_LIMIT}

-- the state after the rule at this place was used last, or at the start
abbrev pub state_after : List Rule → Option ℕ → List ℕ
state_after rules None = first_state rules
state_after rules (Some k) = option_map_or (λ r. r.to) (slice_get rules k) (first_state rules)

-- the index is that of the rules, each of which has a count, and `number` is the number of the state
pub record IsKept (rules : List Rule) (uses : List ℕ) (table : RuleIndex) (number : ℕ) (last : Option ℕ) : Type 0 where
  pub few : length rules ≤ RULE_LIMIT
  pub counts : length uses ≡ length rules
  pub index : IsIndex rules table
  pub state : number ≡ state_number rules (state_after rules last)
