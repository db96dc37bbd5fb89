-- The rules that a policy has over the functions of a program.
use Rattle.std.specs.Prelude.{◌≡◌, ℕ, Bool, false, List, [], map, Option, Some, None, slice_get, IsTrue, if◌then◌else◌}
use Rattle.std.specs.Option.{option_map, option_map_or, option_and_then}
use Rattle.std.specs.List.{list_all}
use Rattle.pt_tree.specs.declared.signature.Param.{Param}
use Rattle.pt_tree.specs.declared.signature.Signature.{Signature}
use Rattle.policy.specs.Named.{function_named}
use Rattle.policy.specs.Plain.{is_seen, plain_place}
use Rattle.policy.specs.Rules.{IsRule}
use Rattle.policy.specs.Spelled.{SpelledRule}
use Rattle.policy.specs.declared.argument.ArgRange.{ArgRange}
use Rattle.policy.specs.declared.rule.PlainRange.{PlainRange}
use Rattle.policy.specs.declared.rule.Rule.{Rule}

abbrev pub is_privileged : List Signature → ℕ → Bool
is_privileged signatures f = option_map_or (λ s. s.privileged) (slice_get signatures f) false

-- the number of the privileged function or host of that name
abbrev pub guarded_function : List Signature → List ℕ → Option ℕ
guarded_function signatures name =
    option_and_then (λ f. if is_privileged signatures f then Some f else None) (function_named signatures name)

abbrev pub params_of : List Signature → ℕ → List Param
params_of signatures f = option_map_or (λ s. s.params) (slice_get signatures f) []

-- its parameters
abbrev pub guarded_params : List Signature → List ℕ → Option (List Param)
guarded_params signatures name = option_map (params_of signatures) (guarded_function signatures name)

-- each of the ranges is of a parameter whose argument is a plain number
abbrev pub are_seen : List Param → List ArgRange → Bool
are_seen params ranges = list_all (λ r. is_seen params r.parameter) ranges

-- the range, with the place of its argument among the plain numbers
abbrev pub plain_range : List Param → ArgRange → PlainRange
plain_range params r = record { place = plain_place params r.parameter; low = r.low; high = r.high }

-- the spelled rule, over the function of this number with these parameters
abbrev pub rule_over : List Param → SpelledRule → ℕ → Rule
rule_over params s f = record {
  from = s.from;
  function = record { 0 = f };
  ranges = map (plain_range params) s.ranges;
  most = s.most;
  to = s.to;
}

-- the words spell a rule, and this is it in the program: its function is privileged, and its arguments are seen
pub record IsRuleOf (signatures : List Signature) (words : List (List ℕ)) (rule : Rule) : Type 0 where
  pub spelled : SpelledRule
  pub spells : IsRule words spelled
  pub guarded : guarded_function signatures spelled.function ≡ Some rule.function.0
  pub seen : IsTrue (are_seen (params_of signatures rule.function.0) spelled.ranges)
  pub is : rule ≡ rule_over (params_of signatures rule.function.0) spelled rule.function.0
