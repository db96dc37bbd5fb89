use Rattle.std.proofs.Common.{◌≡◌, ◌++◌, drop}
use Rattle.std.specs.List.{flat_map}
use Rattle.program_gen.specs.Policies.{policy_of, rule_of}
use Rattle.program_gen.proofs.policies.policy_of.Given as goal

-- with those that are left, the policy has all
abbrev pub invariant-loop-function : goal.invariant-loop-function
invariant-loop-function l = l.policy.items ++ flat_map rule_of (drop l.function-index l.functions) ≡ policy_of l.fn.functions
