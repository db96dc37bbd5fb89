-- One item more at the front, in tables of places.
use Rattle.std.proofs.Common.{◌≡◌, ◌∙◌, ◌+◌, ◌-◌, ◌<◌, ℕ, Bool, cond, List, [], ◌∷◌, ◌++◌, length, drop, get_or, reverse, Option, Some, ap, ap₂, sym, arith}
use Rattle.std.specs.List.{position_from}
use Rattle.std.proofs.lemmas.List.{reverse-append}
use Rattle.pt_base.proofs.Places.{drop_step_before}
use Rattle.policy.specs.Places.{is_keyed, state_number, steps_from}
use Rattle.policy.specs.declared.rule.Rule.{Rule}
use Rattle.policy.specs.declared.step.Step.{Step}

pub place_step : {X : Type 0} (p : X → Bool) (xs : List X) (next : ℕ) (x : X) (t : Bool) (new old : Option ℕ)
    → 0 < next → next - 1 < length xs → x ≡ get_or xs (next - 1) x → t ≡ p x
    → new ≡ cond t (Some (next - 1)) old → old ≡ position_from p next (drop next xs) → new ≡ position_from p (next - 1) (drop (next - 1) xs)
place_step p xs next x t new old some within read is put before =
    let same : next ≡ next - 1 + 1 = omega arith in
    put
    ∙ ap₂ (λ b o. cond b (Some (next - 1)) o) is (before ∙ ap (λ n. position_from p n (drop next xs)) same)
    ∙ sym (ap (position_from p (next - 1)) (drop_step_before xs next x some within read))

pub steps_more : (rules : List Rule) (next : ℕ) (rule : Rule) (to : ℕ) (following : Option ℕ) (old new : List Step)
    → 0 < next → next - 1 < length rules → rule ≡ get_or rules (next - 1) rule → to ≡ state_number rules rule.to
    → following ≡ position_from (is_keyed rules (state_number rules rule.from) rule.function.0) next (drop next rules)
    → new ≡ old ++ record { to = to; following = following } ∷ [] → reverse old ≡ steps_from rules next (drop next rules)
    → reverse new ≡ steps_from rules (next - 1) (drop (next - 1) rules)
steps_more rules next rule to following old new some within read target next_one pushed before =
    let same : next ≡ next - 1 + 1 = omega arith in
    let step : ℕ → Option ℕ → List Step → List Step = λ t f rest. record { to = t; following = f } ∷ rest in
    ap reverse pushed
    ∙ reverse-append old (record { to = to; following = following } ∷ [])
    ∙ ap (step to following) (before ∙ ap (λ n. steps_from rules n (drop next rules)) same)
    ∙ ap₂ (λ t f. step t f (steps_from rules (next - 1 + 1) (drop next rules))) target
    (next_one ∙ ap (λ n. position_from (is_keyed rules (state_number rules rule.from) rule.function.0) n (drop next rules)) same)
    ∙ sym (ap (steps_from rules (next - 1)) (drop_step_before rules next rule some within read))
