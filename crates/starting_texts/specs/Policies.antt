-- The policy to start from: one state, in which each of its functions may be called.
use Rattle.std.specs.Prelude.{◌≡◌, ◌≤◌, ◌<◌, ◌⊎◌, ℕ, List, [], ◌++◌, length, map, flat_map, None, IsTrue, codes}
use Rattle.std.specs.List.{list_all}
use Rattle.std.specs.Option.{option_map_or}
use Rattle.pt_base.specs.declared.ids.FnId.{FnId}
use Rattle.typed_tree.specs.Lookup.{signature_of}
use Rattle.typed_tree.specs.TypedTree.{TypedTree, signatures_of}
use Rattle.policy.specs.ProgramRules.{is_privileged}
use Rattle.policy.specs.declared.TheConstants.{TEXT_LIMIT, RULE_LIMIT}
use Rattle.policy.specs.declared.rule.Rule.{Rule}
use Rattle.starting_texts.specs.declared.texts.StartingPolicy.{StartingPolicy}
use Rattle.starting_texts.specs.declared.texts.StartingPolicy.TheVariants.{Text, TooLong}

-- ---- the text

-- the rule of a function of this name
abbrev pub rule_line : List ℕ → List ℕ
rule_line name = codes "from start allow " ++ name ++ codes " to start\n"

-- of the function of this number; nothing where there is none
abbrev pub rule_of : TypedTree → FnId → List ℕ
rule_of t f = option_map_or (λ s. rule_line s.name) (signature_of t f) []

abbrev pub policy_text : TypedTree → List FnId → List ℕ
policy_text t fs = flat_map (rule_of t) fs

-- ---- its rules

-- no range and no limit: from the state it leads back to it
abbrev pub start_rule : FnId → Rule
start_rule f = record { from = codes "start"; function = f; ranges = []; most = None; to = codes "start" }

abbrev pub start_rules : List FnId → List Rule
start_rules fs = map start_rule fs

-- each of these is a privileged function or host of the program
abbrev pub AreGuarded : TypedTree → List FnId → Type 0
AreGuarded t fs = IsTrue (list_all (λ f. is_privileged (signatures_of t) f.0) fs)

-- ---- the answer

abbrev pub IsStartingPolicy : TypedTree → List FnId → StartingPolicy → Type 0
IsStartingPolicy t fs (Text text) = (text.items ≡ policy_text t fs) × (length fs ≤ RULE_LIMIT) × (length (policy_text t fs) ≤ TEXT_LIMIT)
IsStartingPolicy t fs TooLong = (RULE_LIMIT < length fs) ⊎ (TEXT_LIMIT < length (policy_text t fs))
