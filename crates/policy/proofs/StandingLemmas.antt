-- A policy after a rule was used.
use Rattle.std.proofs.Common.{◌≡◌, ◌∙◌, ◌+◌, ◌<◌, ℕ, ℤ, true, List, length, get_or, slice_get, slice_index, slice_set, Option, Some, refl, ap, ap₂, sym, arith, length-set}
use Rattle.std.specs.Option.{option_map_or}
use Rattle.std.proofs.lemmas.Option.{slice_get_read}
use Rattle.pt_base.specs.declared.ids.FnId.{FnId}
use Rattle.policy.specs.Places.{state_number}
use Rattle.policy.specs.Verdicts.{Standing, is_left, fits, first_fit_from, first_state, one_more, used}
use Rattle.policy.specs.PolicyView.{state_after, IsKept}
use Rattle.policy.specs.declared.rule.Rule.{Rule}
use Rattle.policy.specs.declared.step.Step.{Step}
use Rattle.policy.specs.declared.index.RuleIndex.{RuleIndex}
use Rattle.policy.proofs.FitLemmas.{fit_is_left, step_at}

pub place_left : (name : List ℕ) (f : FnId) (plain : List ℤ) (rules : List Rule) (uses : List ℕ) (place : ℕ) (r : Rule) (n : ℕ)
    → Some place ≡ first_fit_from (fits name f plain) 0 rules uses → r ≡ get_or rules place r → n ≡ slice_index uses place → is_left r.most n ≡ true
place_left name f plain rules uses place r n found read count =
    let left = fit_is_left name f plain 0 place rules uses (sym found) in
    let at : place ≡ 0 + left.0 = left.1 in
    let past : left.0 ≡ place = omega arith in
    ap₂ (λ (q : Rule) m. is_left q.most m) read count
    ∙ ap (λ i. is_left (get_or rules i r).most (slice_index uses i)) (sym past)
    ∙ left.2 r

pub kept_after : (rules : List Rule) (uses : List ℕ) (table : RuleIndex) (number place value : ℕ) (last : Option ℕ) (r : Rule) (step : Step)
    → IsKept rules uses table number last → place < length rules → r ≡ get_or rules place r → slice_get table.steps.items place ≡ Some step
    → IsKept rules (slice_set uses place value) table step.to (Some place)
kept_after rules uses table number place value last r step kept within read at =
    let leads = step_at rules rules 0 place step (ap (λ s. slice_get s place) (sym kept.index.steps) ∙ at) in
    let here : slice_get rules place ≡ Some r = slice_get_read rules (length rules) place r refl within read in
    record {
      few = kept.few;
      counts = length-set uses place value ∙ kept.counts;
      index = kept.index;
      state =
          leads.target r ∙ ap (λ (q : Rule). state_number rules q.to) (sym read)
          ∙ ap (λ o. state_number rules (option_map_or (λ q. q.to) o (first_state rules))) (sym here);
    }

pub used_is : (rules : List Rule) (state uses : List ℕ) (place value : ℕ) (r : Rule) → place < length rules → r ≡ get_or rules place r → value ≡ one_more r.most (slice_index uses place)
    → ◌≡◌ {A = Standing} (record { rules = rules; state = state_after rules (Some place); uses = slice_set uses place value })
    (used (record { rules = rules; state = state; uses = uses }) place (slice_get rules place))
used_is rules state uses place value r within read is =
    let here : slice_get rules place ≡ Some r = slice_get_read rules (length rules) place r refl within read in
    let made : List ℕ → ℕ → Standing = λ s v. record { rules = rules; state = s; uses = slice_set uses place v } in
    ap₂ made (ap (λ o. option_map_or (λ (q : Rule). q.to) o (first_state rules)) here) is
    ∙ ap (used (record { rules = rules; state = state; uses = uses }) place) (sym here)
