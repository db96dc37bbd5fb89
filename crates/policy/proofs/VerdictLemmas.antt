-- Verdicts on many calls.
use Rattle.std.proofs.Common.{◌≡◌, ◌∙◌, ◌+◌, ◌<◌, ◌≤◌, ℕ, ℤ, zero, suc, Bool, true, false, cond, nat_eq, nat_lt, List, [], ◌∷◌, length, replicate, get_or, slice_get, slice_index, Option, Some, None, refl, ap, sym, subst, arith, count_by, length-set, get_or-set_same, get_or-set_other, ◌≢◌}
use Rattle.std.specs.Option.{option_map_or}
use Rattle.std.proofs.lemmas.Bool.{eqb-true, ltb-true}
use Rattle.std.proofs.lemmas.Bool.Decides.{nat_tests}
use Rattle.std.proofs.lemmas.Option.{slice_get_within, get_or_from_slice_get}
use Rattle.std.proofs.lemmas.List.{length-replicate}
use Rattle.std.proofs.lemmas.List.Sums.{sum_by-cons}
use Rattle.pt_base.specs.declared.ids.FnId.{FnId}
use Rattle.policy.specs.Verdicts.{Standing, is_left, first_fit, verdict_on, one_more, used, after, Call, verdicts, start}
use Rattle.policy.specs.Laws.{VerdictsAreSteps, is_by, LimitsHold}
use Rattle.policy.specs.declared.rule.Rule.{Rule}
use Rattle.policy.specs.declared.verdict.Verdict.TheVariants.{Allow, Deny}
use Rattle.policy.proofs.FitLemmas.{fit_is_left}

pub verdicts_are_steps_lem : VerdictsAreSteps
verdicts_are_steps_lem s [] more = refl
verdicts_are_steps_lem s (call ∷ calls) more =
    ap (λ vs. verdict_on s call.function call.plain ∷ vs) (verdicts_are_steps_lem (after s (verdict_on s call.function call.plain)) calls more)

-- the uses of a rule with a limit

-- the rule at the place, and how often it was used
pub record Limited (rules : List Rule) (k most : ℕ) (s : Standing) : Type 0 where
  pub same : s.rules ≡ rules
  pub counts : length s.uses ≡ length rules
  pub few : slice_index s.uses k ≤ most

fit_place : (s : Standing) (f : FnId) (plain : List ℤ) (j : ℕ) (d : Rule) → first_fit s f plain ≡ Some j → is_left (get_or s.rules j d).most (slice_index s.uses j) ≡ true
fit_place s f plain j d e =
    let left = fit_is_left s.state f plain 0 j s.rules s.uses e in
    let at : j ≡ 0 + left.0 = left.1 in
    let past : left.0 ≡ j = omega arith in
    ap (λ i. is_left (get_or s.rules i d).most (slice_index s.uses i)) (sym past) ∙ left.2 d

used_rules : (s : Standing) (j : ℕ) (o : Option Rule) → (used s j o).rules ≡ s.rules
used_rules s j None = refl
used_rules s j (Some r) = refl

used_counts : (s : Standing) (j : ℕ) (o : Option Rule) → length (used s j o).uses ≡ length s.uses
used_counts s j None = refl
used_counts s j (Some r) = length-set s.uses j (one_more r.most (slice_index s.uses j))

used_other : (s : Standing) (j k : ℕ) (o : Option Rule) → k ≢ j → slice_index (used s j o).uses k ≡ slice_index s.uses k
used_other s j k None apart = refl
used_other s j k (Some r) apart = get_or-set_other s.uses j k (one_more r.most (slice_index s.uses j)) 0 apart

used_here : (s : Standing) (k most : ℕ) (rule : Rule) → slice_get s.rules k ≡ Some rule → rule.most ≡ Some most → k < length s.uses → slice_index (used s k (slice_get s.rules k)).uses k ≡ slice_index s.uses k + 1
used_here s k most rule at limit within =
    ap (λ o. slice_index (used s k o).uses k) at
    ∙ get_or-set_same s.uses k (one_more rule.most (slice_index s.uses k)) 0 within
    ∙ ap (λ m. one_more m (slice_index s.uses k)) limit

-- one verdict: the uses grow by what it counts, up to the limit
pub record Steps (rules : List Rule) (k most : ℕ) (s new : Standing) (one : ℕ) : Type 0 where
  pub kept : Limited rules k most new
  pub grown : slice_index new.uses k ≡ slice_index s.uses k + one

used_limited : (rules : List Rule) (k most j one : ℕ) (s : Standing) → Limited rules k most s → slice_index (used s j (slice_get s.rules j)).uses k ≡ slice_index s.uses k + one
    → slice_index s.uses k + one ≤ most → Steps rules k most s (used s j (slice_get s.rules j)) one
used_limited rules k most j one s is grown few = record {
  kept = record {
    same = used_rules s j (slice_get s.rules j) ∙ is.same;
    counts = used_counts s j (slice_get s.rules j) ∙ is.counts;
    few = subst (λ n. n ≤ most) (sym grown) few;
  };
  grown = grown;
}

allow_limited : (rules : List Rule) (k most : ℕ) (rule : Rule) (s : Standing) (f : FnId) (plain : List ℤ) (j : ℕ) (b : Bool) → slice_get rules k ≡ Some rule → rule.most ≡ Some most
    → Limited rules k most s → first_fit s f plain ≡ Some j → nat_eq j k ≡ b → Steps rules k most s (used s j (slice_get s.rules j)) (cond b 1 0)
allow_limited rules k most rule s f plain j true at limit is e same =
    let here : j ≡ k = eqb-true j k same in
    let in_rules : k < length rules = slice_get_within rules k rule at in
    let counts : length s.uses ≡ length rules = is.counts in
    let within : k < length s.uses = omega arith in
    let found : slice_get s.rules k ≡ Some rule = ap (λ rs. slice_get rs k) is.same ∙ at in
    let left : is_left (get_or s.rules k rule).most (slice_index s.uses k) ≡ true = subst (λ i. is_left (get_or s.rules i rule).most (slice_index s.uses i) ≡ true) here (fit_place s f plain j rule e) in
    let below : nat_lt (slice_index s.uses k) most ≡ true = ap (λ m. is_left m (slice_index s.uses k)) (sym (ap (λ (r : Rule). r.most) (get_or_from_slice_get s.rules k rule rule found) ∙ limit)) ∙ left in
    let less : slice_index s.uses k < most = ltb-true (slice_index s.uses k) most below in
    used_limited rules k most j 1 s is (subst (λ i. slice_index (used s i (slice_get s.rules i)).uses k ≡ slice_index s.uses k + 1) (sym here) (used_here s k most rule found limit within)) (omega arith)
allow_limited rules k most rule s f plain j false at limit is e other =
    let apart : k ≢ j = grind (arith, nat_tests) in
    let few : slice_index s.uses k ≤ most = is.few in
    let same : slice_index s.uses k ≡ slice_index s.uses k + 0 = omega arith in
    used_limited rules k most j 0 s is (used_other s j k (slice_get s.rules j) apart ∙ same) (omega arith)

step_limited : (rules : List Rule) (k most : ℕ) (rule : Rule) (s : Standing) (f : FnId) (plain : List ℤ) (o : Option ℕ) → slice_get rules k ≡ Some rule → rule.most ≡ Some most
    → Limited rules k most s → first_fit s f plain ≡ o
    → Steps rules k most s (after s (option_map_or Allow o Deny)) (cond (is_by k (option_map_or Allow o Deny)) 1 0)
step_limited rules k most rule s f plain None at limit is e = record { kept = is; grown = omega arith }
step_limited rules k most rule s f plain (Some j) at limit is e = allow_limited rules k most rule s f plain j (nat_eq j k) at limit is e refl

all_limited : (rules : List Rule) (k most : ℕ) (rule : Rule) (s : Standing) (calls : List Call) → slice_get rules k ≡ Some rule → rule.most ≡ Some most
    → Limited rules k most s → slice_index s.uses k + count_by (is_by k) (verdicts s calls) ≤ most
all_limited rules k most rule s [] at limit is = let few : slice_index s.uses k ≤ most = is.few in omega arith
all_limited rules k most rule s (call ∷ calls) at limit is =
    let step = step_limited rules k most rule s call.function call.plain (first_fit s call.function call.plain) at limit is refl in
    let new : Standing = after s (verdict_on s call.function call.plain) in
    let grown : slice_index new.uses k ≡ slice_index s.uses k + cond (is_by k (verdict_on s call.function call.plain)) 1 0 = step.grown in
    let rest : slice_index new.uses k + count_by (is_by k) (verdicts new calls) ≤ most = all_limited rules k most rule new calls at limit step.kept in
    omega (arith, sum_by-cons (λ v. cond (is_by k v) 1 0) (verdict_on s call.function call.plain) (verdicts new calls))

none_used : (n k : ℕ) → slice_index (replicate n 0) k ≡ 0
none_used zero k = refl
none_used (suc n) zero = refl
none_used (suc n) (suc k) = none_used n k

pub limits_hold_lem : LimitsHold
limits_hold_lem rules k most rule calls at limit =
    let start_uses : slice_index (replicate (length rules) 0) k ≡ 0 = none_used (length rules) k in
    let is : Limited rules k most (start rules) = record { same = refl; counts = length-replicate (length rules) 0; few = omega arith } in
    let all : slice_index (replicate (length rules) 0) k + count_by (is_by k) (verdicts (start rules) calls) ≤ most = all_limited rules k most rule (start rules) calls at limit is in
    omega arith
