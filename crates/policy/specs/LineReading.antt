-- What a line comes to, step by step, as the code finds it.
use Rattle.std.specs.Prelude.{◌≡◌, ℕ, ◌+◌, nat_lt, Vec, List, [], ◌∷◌, ◌++◌, length, Result, Ok, Err, if◌then◌else◌}
use Rattle.std.specs.Option.{option_map_or}
use Rattle.std.specs.declared.alloc.Global.{Global}
use Rattle.pt_tree.specs.declared.signature.Param.{Param}
use Rattle.pt_tree.specs.declared.signature.Signature.{Signature}
use Rattle.policy.specs.Lines.{words_of, is_passed_over}
use Rattle.policy.specs.Spelled.{SpelledRule}
use Rattle.policy.specs.Reading.{rule_of}
use Rattle.policy.specs.ProgramRules.{guarded_function, params_of, are_seen, rule_over}
use Rattle.policy.specs.declared.rule.Rule.{Rule}
use Rattle.policy.specs.declared.error.PolicyFaultKind.{PolicyFaultKind}
use Rattle.policy.specs.declared.error.PolicyFaultKind.TheVariants.{Syntax, UnknownFunction, UnseenArg, TooLong}
use Rattle.policy.specs.declared.error.PolicyFault.{PolicyFault}
use Rattle.policy.specs.declared.error.PolicyError.{PolicyError}
use Rattle.policy.specs.declared.error.PolicyError.TheVariants.{Memory, Fault}
use Rattle.policy.specs.declared.TheConstants.{RULE_LIMIT}

-- the rule over the function of this number with these parameters
abbrev pub checked_rule : List Param → SpelledRule → ℕ → Result Rule PolicyFaultKind
checked_rule params s f = if are_seen params s.ranges then Ok (rule_over params s f) else Err UnseenArg

abbrev pub resolved : List Signature → SpelledRule → Result Rule PolicyFaultKind
resolved signatures s =
    option_map_or (λ f. checked_rule (params_of signatures f) s f) (guarded_function signatures s.function) (Err UnknownFunction)

-- the rule of a line, where so many rules stand before it
abbrev pub line_rule : List Signature → ℕ → List ℕ → Result Rule PolicyFaultKind
line_rule signatures before line =
    option_map_or (λ s. if nat_lt before RULE_LIMIT then resolved signatures s else Err TooLong) (rule_of (words_of line)) (Err Syntax)

-- the rules with this one, or its fault
abbrev pub with_rule : List Rule → ℕ → Result Rule PolicyFaultKind → Result (List Rule) PolicyFault
with_rule rules number (Ok rule) = Ok (rules ++ rule ∷ [])
with_rule rules number (Err kind) = Err (record { kind = kind; line = number })

-- the rules up to and with this line
abbrev pub line_read : List Signature → List Rule → ℕ → List ℕ → Result (List Rule) PolicyFault
line_read signatures rules number line =
    if is_passed_over line then Ok rules else with_rule rules number (line_rule signatures (length rules) line)

abbrev pub then_read : (List Rule → Result (List Rule) PolicyFault) → Result (List Rule) PolicyFault → Result (List Rule) PolicyFault
then_read go (Ok rules) = go rules
then_read go (Err fault) = Err fault

-- the rules up to and with the lines behind the line of this number
abbrev pub read_from : List Signature → List Rule → ℕ → List (List ℕ) → Result (List Rule) PolicyFault
read_from signatures rules number [] = Ok rules
read_from signatures rules number (line ∷ lines) =
    then_read (λ rs. read_from signatures rs (number + 1) lines) (line_read signatures rules (number + 1) line)

-- what a call answers, with the rules that it leaves
abbrev pub LineGives : Result (Unit {0}) PolicyError → List Rule → Result (List Rule) PolicyFault → Type 0
LineGives (Ok u) rules r = r ≡ Ok rules
LineGives (Err (Fault fault)) rules r = r ≡ Err fault
LineGives (Err Memory) rules r = Unit {0}

abbrev pub TextGives : Result (Vec Rule Global) PolicyError → Result (List Rule) PolicyFault → Type 0
TextGives (Ok rules) r = r ≡ Ok rules.items
TextGives (Err (Fault fault)) r = r ≡ Err fault
TextGives (Err Memory) r = Unit {0}
