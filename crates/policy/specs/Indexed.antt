-- An index of rules.
use Rattle.std.specs.Prelude.{◌≡◌, List}
use Rattle.policy.specs.Places.{HaveHeads, steps_from}
use Rattle.policy.specs.declared.rule.Rule.{Rule}
use Rattle.policy.specs.declared.index.RuleIndex.{RuleIndex}

-- the index leads to the first rule of each state and function, and from each rule to the next of the same two
pub record IsIndex (rules : List Rule) (index : RuleIndex) : Type 0 where
  pub heads : HaveHeads index.heads.entries rules
  pub steps : index.steps.items ≡ steps_from rules 0 rules
