-- Verdicts on guarded calls, by the rules of a policy.
use Rattle.std.specs.Prelude.{ℕ, ◌+◌, ℤ, int_le, Bool, true, false, ◌&&◌, nat_eq, nat_lt, if◌then◌else◌, List, [], ◌∷◌, length, replicate, Option, Some, None, slice_get, slice_index, slice_set, codes}
use Rattle.std.specs.Option.{option_map_or}
use Rattle.std.specs.List.{list_all}
use Rattle.std.specs.Str.{bytes_eq}
use Rattle.pt_base.specs.declared.ids.FnId.{FnId}
use Rattle.policy.specs.declared.rule.PlainRange.{PlainRange}
use Rattle.policy.specs.declared.rule.Rule.{Rule}
use Rattle.policy.specs.declared.verdict.Verdict.{Verdict}
use Rattle.policy.specs.declared.verdict.Verdict.TheVariants.{Allow, Deny}

-- a policy where it stands: its rules, the state, and how often each rule with a limit was used
pub record Standing : Type 0 where
  pub rules : List Rule
  pub state : List ℕ
  pub uses : List ℕ

-- the number at the place is in the range; where the call gives none there, it isn't
abbrev pub is_within : List ℤ → PlainRange → Bool
is_within plain r = option_map_or (λ v. int_le r.low v && int_le v r.high) (slice_get plain r.place) false

-- a rule that was used so often may be used again
abbrev pub is_left : Option ℕ → ℕ → Bool
is_left None uses = true
is_left (Some most) uses = nat_lt uses most

-- the rule is one of the state and the function
abbrev pub is_of : List ℕ → FnId → Rule → Bool
is_of state f rule = bytes_eq rule.from state && nat_eq rule.function.0 f.0

-- the rule, used so often, fits a call with these plain numbers in the state
abbrev pub fits : List ℕ → FnId → List ℤ → Rule → ℕ → Bool
fits state f plain rule uses = is_of state f rule && (list_all (is_within plain) rule.ranges && is_left rule.most uses)

-- the place of the first rule that passes with its uses, where the rules are counted from k
abbrev pub first_fit_from : (Rule → ℕ → Bool) → ℕ → List Rule → List ℕ → Option ℕ
first_fit_from test k [] uses = None
first_fit_from test k (rule ∷ rules) [] = None
first_fit_from test k (rule ∷ rules) (n ∷ uses) = if test rule n then Some k else first_fit_from test (k + 1) rules uses

-- the place of the first rule that fits
abbrev pub first_fit : Standing → FnId → List ℤ → Option ℕ
first_fit s f plain = first_fit_from (fits s.state f plain) 0 s.rules s.uses

-- the first rule that fits allows the call
abbrev pub verdict_on : Standing → FnId → List ℤ → Verdict
verdict_on s f plain = option_map_or Allow (first_fit s f plain) Deny

-- one use more is counted where the rule has a limit
abbrev pub one_more : Option ℕ → ℕ → ℕ
one_more None uses = uses
one_more (Some most) uses = uses + 1

abbrev pub used : Standing → ℕ → Option Rule → Standing
used s k None = s
used s k (Some rule) = record {
  rules = s.rules;
  state = rule.to;
  uses = slice_set s.uses k (one_more rule.most (slice_index s.uses k));
}

-- the standing after a verdict: the rule that allowed the call counts one use more, and names the new state
abbrev pub after : Standing → Verdict → Standing
after s (Allow k) = used s k (slice_get s.rules k)
after s Deny = s

-- a guarded call: its function and its plain numbers
pub record Call : Type 0 where
  pub function : FnId
  pub plain : List ℤ

-- the verdicts on calls, one after the other
abbrev pub verdicts : Standing → List Call → List Verdict
verdicts s [] = []
verdicts s (call ∷ calls) =
    let v = verdict_on s call.function call.plain in v ∷ verdicts (after s v) calls

-- the state at the start: the first rule's, and `-` where there are no rules
abbrev pub first_state : List Rule → List ℕ
first_state [] = codes "-"
first_state (rule ∷ rules) = rule.from

-- where a policy of these rules starts
abbrev pub start : List Rule → Standing
start rules = record { rules = rules; state = first_state rules; uses = replicate (length rules) 0 }
