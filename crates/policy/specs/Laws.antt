-- Laws of policies.
use Rattle.std.specs.Prelude.{◌≡◌, ◌≤◌, ◌⊎◌, ℕ, Bool, false, nat_eq, List, [], ◌∷◌, ◌++◌, Some, slice_get}
use Rattle.std.specs.List.{count_by}
use Rattle.pt_tree.specs.declared.signature.Signature.{Signature}
use Rattle.policy.specs.Rules.{IsRule}
use Rattle.policy.specs.Spelled.{SpelledRule}
use Rattle.policy.specs.PolicyFault.{IsPolicy, IsPolicyFault}
use Rattle.policy.specs.Verdicts.{Standing, Call, verdict_on, after, verdicts, start}
use Rattle.policy.specs.declared.rule.Rule.{Rule}
use Rattle.policy.specs.declared.error.PolicyFault.{PolicyFault}
use Rattle.policy.specs.declared.verdict.Verdict.{Verdict}
use Rattle.policy.specs.declared.verdict.Verdict.TheVariants.{Allow, Deny}

-- words spell at most one rule
abbrev pub RuleIsOne : Type 0
RuleIsOne = (words : List (List ℕ)) (r s : SpelledRule) → IsRule words r → IsRule words s → r ≡ s

-- a text is a policy of at most one list of rules
abbrev pub PolicyIsOne : Type 0
PolicyIsOne = (signatures : List Signature) (text : List ℕ) (rs ss : List Rule)
    → IsPolicy signatures text rs → IsPolicy signatures text ss → rs ≡ ss

-- two faults of one text are equal
abbrev pub FaultIsOne : Type 0
FaultIsOne = (signatures : List Signature) (text : List ℕ) (f g : PolicyFault)
    → IsPolicyFault signatures text f → IsPolicyFault signatures text g → f ≡ g

-- a text is a policy or has a fault, and never both
abbrev pub PolicyOrFault : Type 0
PolicyOrFault = (signatures : List Signature) (text : List ℕ)
    → (((rules : List Rule) × IsPolicy signatures text rules) ⊎ ((fault : PolicyFault) × IsPolicyFault signatures text fault))
    × ((rules : List Rule) (fault : PolicyFault) → IsPolicy signatures text rules → IsPolicyFault signatures text fault → ⊥)

-- where a policy stands after calls
abbrev pub standing_after : Standing → List Call → Standing
standing_after s [] = s
standing_after s (call ∷ calls) = standing_after (after s (verdict_on s call.function call.plain)) calls

-- the verdicts on calls and then on more are those on the calls, and then those on the others from where the policy then stands
abbrev pub VerdictsAreSteps : Type 0
VerdictsAreSteps = (s : Standing) (calls more : List Call)
    → verdicts s (calls ++ more) ≡ verdicts s calls ++ verdicts (standing_after s calls) more

-- the verdict allows by the rule at this place
abbrev pub is_by : ℕ → Verdict → Bool
is_by k (Allow j) = nat_eq j k
is_by k Deny = false

-- whatever is called, a rule allows at most so many calls as it says
abbrev pub LimitsHold : Type 0
LimitsHold = (rules : List Rule) (k most : ℕ) (rule : Rule) (calls : List Call)
    → slice_get rules k ≡ Some rule → rule.most ≡ Some most → count_by (is_by k) (verdicts (start rules) calls) ≤ most
