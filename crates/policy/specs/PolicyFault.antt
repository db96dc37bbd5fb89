-- The rules that a text has, and its first fault.
use Rattle.std.specs.Prelude.{◌≡◌, ℕ, ◌+◌, ◌<◌, ◌≤◌, ◌⊎◌, false, List, [], ◌∷◌, ◌++◌, length, Some, None, IsTrue}
use Rattle.pt_tree.specs.declared.signature.Signature.{Signature}
use Rattle.policy.specs.Lines.{lines_of, words_of, is_passed_over}
use Rattle.policy.specs.Rules.{IsRule}
use Rattle.policy.specs.Spelled.{SpelledRule}
use Rattle.policy.specs.ProgramRules.{guarded_function, params_of, are_seen, IsRuleOf}
use Rattle.policy.specs.declared.rule.Rule.{Rule}
use Rattle.policy.specs.declared.error.PolicyFaultKind.{PolicyFaultKind}
use Rattle.policy.specs.declared.error.PolicyFaultKind.TheVariants.{Syntax, UnknownFunction, UnseenArg, TooLong}
use Rattle.policy.specs.declared.error.PolicyFault.{PolicyFault}
use Rattle.policy.specs.declared.error.PolicyError.{PolicyError}
use Rattle.policy.specs.declared.error.PolicyError.TheVariants.{Memory, Fault}
use Rattle.policy.specs.declared.TheConstants.{TEXT_LIMIT, RULE_LIMIT}

-- each line is passed over or spells the next of the rules
pub data HaveRules (signatures : List Signature) : List (List ℕ) → List Rule → Type 0 where
  none : HaveRules signatures [] []
  passed : (line : List ℕ) (lines : List (List ℕ)) (rules : List Rule) → IsTrue (is_passed_over line)
      → HaveRules signatures lines rules → HaveRules signatures (line ∷ lines) rules
  rule : (line : List ℕ) (lines : List (List ℕ)) (rule : Rule) (rules : List Rule) → IsRuleOf signatures (words_of line) rule
      → HaveRules signatures lines rules → HaveRules signatures (line ∷ lines) (rule ∷ rules)

-- the line has a fault, where so many rules stand before it. The kinds are tried in this order
pub data HasFault (signatures : List Signature) (before : ℕ) (line : List ℕ) : PolicyFaultKind → Type 0 where
  syntax : is_passed_over line ≡ false → ((spelled : SpelledRule) → ¬ IsRule (words_of line) spelled)
      → HasFault signatures before line Syntax
  too_long : (spelled : SpelledRule) → IsRule (words_of line) spelled → RULE_LIMIT ≤ before
      → HasFault signatures before line TooLong
  unknown_function : (spelled : SpelledRule) → IsRule (words_of line) spelled → before < RULE_LIMIT
      → guarded_function signatures spelled.function ≡ None → HasFault signatures before line UnknownFunction
  unseen_arg : (spelled : SpelledRule) (f : ℕ) → IsRule (words_of line) spelled → before < RULE_LIMIT
      → guarded_function signatures spelled.function ≡ Some f → are_seen (params_of signatures f) spelled.ranges ≡ false
      → HasFault signatures before line UnseenArg

-- the text is a policy of these rules
pub record IsPolicy (signatures : List Signature) (text : List ℕ) (rules : List Rule) : Type 0 where
  pub short : length text ≤ TEXT_LIMIT
  pub lines : HaveRules signatures (lines_of text) rules
  pub few : length rules ≤ RULE_LIMIT

-- the lines before this one are faultless, and it has the fault
pub record IsFirstFault (signatures : List Signature) (text : List ℕ) (fault : PolicyFault) : Type 0 where
  pub before : List (List ℕ)
  pub line : List ℕ
  pub after : List (List ℕ)
  pub rules : List Rule
  pub lines : lines_of text ≡ before ++ line ∷ after
  pub number : fault.line ≡ length before + 1
  pub faultless : HaveRules signatures before rules
  pub few : length rules ≤ RULE_LIMIT
  pub faulty : HasFault signatures (length rules) line fault.kind

-- a text over the limit has the fault TooLong at line 0, and any other its first faulty line's
abbrev pub IsPolicyFault : List Signature → List ℕ → PolicyFault → Type 0
IsPolicyFault signatures text fault =
    ((TEXT_LIMIT < length text) × (fault ≡ record { kind = TooLong; line = 0 }))
    ⊎ ((length text ≤ TEXT_LIMIT) × IsFirstFault signatures text fault)

-- the error is want of memory, or exactly the text's fault
abbrev pub IsPolicyError : List Signature → List ℕ → PolicyError → Type 0
IsPolicyError signatures text Memory = Unit {0}
IsPolicyError signatures text (Fault fault) = IsPolicyFault signatures text fault
