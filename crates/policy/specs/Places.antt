-- Rules by their state and function.
use Rattle.std.specs.Prelude.{◌≡◌, ℕ, ◌+◌, Bool, ◌&&◌, nat_eq, List, [], ◌∷◌, length, Option, unwrap_or}
use Rattle.std.specs.List.{position_from}
use Rattle.std.specs.Map.{lookup}
use Rattle.std.specs.Str.{bytes_eq}
use Rattle.std.specs.Borrow.{Bor}
use Rattle.policy.specs.declared.rule.Rule.{Rule}
use Rattle.policy.specs.declared.step.Step.{Step}

-- the place of the first rule that begins in the state
abbrev pub first_in : List Rule → List ℕ → Option ℕ
first_in rules state = position_from (λ r. bytes_eq r.from state) 0 rules

-- the number of a state: that place, or the number of rules where none begins there
abbrev pub state_number : List Rule → List ℕ → ℕ
state_number rules state = unwrap_or (first_in rules state) (length rules)

-- the rule begins in the state of this number, and is of this function
abbrev pub is_keyed : List Rule → ℕ → ℕ → Rule → Bool
is_keyed all state f rule = nat_eq (state_number all rule.from) state && nat_eq rule.function.0 f

-- of rules that are counted from k, with the place of the next one of the same state and function
abbrev pub steps_from : List Rule → ℕ → List Rule → List Step
steps_from all k [] = []
steps_from all k (rule ∷ rules) =
    record {
      to = state_number all rule.to;
      following = position_from (is_keyed all (state_number all rule.from) rule.function.0) (k + 1) rules;
    } ∷ steps_from all (k + 1) rules

-- the entries have the number of each state in which rules begin
abbrev pub HaveStates : List (Bor (List ℕ) × ℕ) → List Rule → Type 0
HaveStates entries rules = (state : List ℕ) → lookup (λ k. bytes_eq state k.now) entries ≡ first_in rules state

-- the place that the entries have for a state and a function
abbrev pub head_at : List ((ℕ × ℕ) × ℕ) → ℕ → ℕ → Option ℕ
head_at entries state f = lookup (λ k. nat_eq state k.0 && nat_eq f k.1) entries

-- the entries have the place of the first rule of each state and function
abbrev pub HaveHeads : List ((ℕ × ℕ) × ℕ) → List Rule → Type 0
HaveHeads entries rules = (state f : ℕ) → head_at entries state f ≡ position_from (is_keyed rules state f) 0 rules
