use Rattle.std.proofs.Common.{◌≡◌, ◌∙◌, ◌<◌, ℕ, List, Some, length, ap, ap₂, sym, subst, arith, slice_get}
use Rattle.std.proofs.lemmas.List.{get_or_default}
use Rattle.policy.specs.Places.{state_number}
use Rattle.policy.specs.Verdicts.{fits, first_fit_from, one_more, used as used_by}
use Rattle.policy.specs.PolicyView.{state_after}
use Rattle.policy.proofs.FitLemmas.{steps_long}
use Rattle.policy.proofs.StandingLemmas.{place_left, kept_after, used_is}
use Rattle.policy.proofs.policy.Policy.decide.Goals as goal

pub one_more-requires : goal.one_more-requires
one_more-requires c =
    let name : List ℕ = state_after c.self.inside.rules.items c.self.inside.last in
    let found : Some c.in-Some.place ≡ first_fit_from (fits name c.args.f c.args.plain.now) 0 c.self.inside.rules.items c.self.inside.uses.items
    = c.in-Some.ensures.fit name (c.self.invariant.state ∙ ap (λ rs. state_number rs name) (sym c.deref.ensures.value))
    ∙ ap₂ (first_fit_from (fits name c.args.f c.args.plain.now) 0) c.deref.ensures.value c.deref-2.ensures.value in
    let within : c.in-Some.place < length c.self.inside.rules.items = subst (λ rs. c.in-Some.place < length rs) c.deref.ensures.value c.in-Some.ensures.within in
    let counts : length c.self.inside.uses.items ≡ length c.self.inside.rules.items = c.self.invariant.counts in
    let used : c.in-Some.place < length c.self.inside.uses.items = omega arith in
    place_left name c.args.f c.args.plain.now c.self.inside.rules.items c.self.inside.uses.items c.in-Some.place c.index.result.now c.index-2.result.now found c.index.ensures
    (c.index-2.ensures ∙ get_or_default c.self.inside.uses.items c.in-Some.place c.index-2.result.now 0 used)

pub step-requires : goal.step-requires
step-requires c =
    let same : length c.self.inside.index.steps.items ≡ length c.self.inside.rules.items = ap length c.self.invariant.index.steps ∙ steps_long c.self.inside.rules.items c.self.inside.rules.items 0 in
    let within : c.in-Some.place < length c.self.inside.rules.items = subst (λ rs. c.in-Some.place < length rs) c.deref.ensures.value c.in-Some.ensures.within in
    omega arith

pub invariant_of-self : goal.invariant_of-self
invariant_of-self c =
    let within : c.in-Some.place < length c.self.inside.rules.items = subst (λ rs. c.in-Some.place < length rs) c.deref.ensures.value c.in-Some.ensures.within in
    kept_after c.self.inside.rules.items c.self.inside.uses.items c.self.inside.index c.self.inside.number c.in-Some.place c.one_more.result c.self.inside.last c.index.result.now c.step.result
    c.self.invariant within c.index.ensures c.step.ensures

pub returns-clause-after : goal.returns-clause-after
returns-clause-after c =
    let within : c.in-Some.place < length c.self.inside.rules.items = subst (λ rs. c.in-Some.place < length rs) c.deref.ensures.value c.in-Some.ensures.within in
    let counts : length c.self.inside.uses.items ≡ length c.self.inside.rules.items = c.self.invariant.counts in
    let counted : c.in-Some.place < length c.self.inside.uses.items = omega arith in
    used_is c.self.inside.rules.items (state_after c.self.inside.rules.items c.self.inside.last) c.self.inside.uses.items c.in-Some.place c.one_more.result c.index.result.now within c.index.ensures
    (c.one_more.ensures ∙ ap (one_more c.index.result.now.most) (c.index-2.ensures ∙ get_or_default c.self.inside.uses.items c.in-Some.place c.index-2.result.now 0 counted))
    ∙ ap (λ s. used_by s c.in-Some.place (slice_get s.rules c.in-Some.place)) c.self.view_is
