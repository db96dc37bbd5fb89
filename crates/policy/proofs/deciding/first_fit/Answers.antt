use Rattle.std.proofs.Common.{◌≡◌, ◌∙◌, ◌<◌, ℕ, Option, None, length, slice_get, ap, sym, subst, arith}
use Rattle.policy.specs.Places.{is_keyed}
use Rattle.policy.proofs.FitLemmas.{Ahead, ahead_start, ahead_next, ahead_found, left_to, left_in, left_less, key_step, steps_long, fit_by_name}
use Rattle.policy.proofs.deciding.first_fit.Goals as goal

pub loop-next-init : goal.loop-next-init
loop-next-init c =
    ahead_start (is_keyed c.args.rules.now c.args.state c.args.f.0) c.args.plain.now c.args.rules.now c.args.uses.now c.first-next.result c.requires.uses
    (c.first-next.ensures ∙ c.requires.index.heads c.args.state c.args.f.0)

pub returns-then-may_use-clause-fit : goal.returns-then-may_use-clause-fit
returns-then-may_use-clause-fit c = λ name number.
    sym (ahead_found (is_keyed c.args.rules.now c.args.state c.args.f.0) c.args.plain.now c.args.rules.now c.args.uses.now c.in-Some.place c.index-rules-k.result c.requires.uses
    (subst (λ (o : Option ℕ). Ahead (is_keyed c.args.rules.now c.args.state c.args.f.0) c.args.plain.now c.args.rules.now c.args.uses.now o) c.in-Some.is c.loop-next.invariant)
    c.index-rules-k.is (sym c.may_use.ensures ∙ c.if-may_use.true))
    ∙ fit_by_name c.args.rules.now c.args.uses.now c.args.state c.args.f c.args.plain.now name number

pub step-next-requires : goal.step-next-requires
step-next-requires c =
    let same : length c.args.index.now.steps.items ≡ length c.args.rules.now = ap length c.requires.index.steps ∙ steps_long c.args.rules.now c.args.rules.now 0 in
    let within : c.in-Some.place < length c.args.rules.now = c.loop-next.invariant.within c.in-Some.place c.in-Some.is in
    omega arith

pub loop-next-preserved : goal.loop-next-preserved
loop-next-preserved c =
    (ahead_next (is_keyed c.args.rules.now c.args.state c.args.f.0) c.args.plain.now c.args.rules.now c.args.uses.now c.in-Some.place c.index-rules-k.result c.step-next.result.following c.requires.uses
    (subst (λ (o : Option ℕ). Ahead (is_keyed c.args.rules.now c.args.state c.args.f.0) c.args.plain.now c.args.rules.now c.args.uses.now o) c.in-Some.is c.loop-next.invariant)
    c.index-rules-k.is (sym c.may_use.ensures ∙ c.if-may_use.false)
    (key_step c.args.rules.now c.in-Some.place c.args.state c.args.f.0 c.step-next.result c.index-rules-k.result
    (ap (λ s. slice_get s c.in-Some.place) (sym c.requires.index.steps) ∙ c.step-next.ensures)
    (c.loop-next.invariant.keyed c.in-Some.place c.index-rules-k.result c.in-Some.is))).ahead

pub loop-next-smaller : goal.loop-next-smaller
loop-next-smaller c =
    subst (λ (o : Option ℕ). left_in c.args.rules.now c.step-next.result.following < left_in c.args.rules.now o) (sym c.in-Some.is)
    (left_less c.args.rules.now c.in-Some.place c.step-next.result.following (c.loop-next.invariant.within c.in-Some.place c.in-Some.is)
    (ahead_next (is_keyed c.args.rules.now c.args.state c.args.f.0) c.args.plain.now c.args.rules.now c.args.uses.now c.in-Some.place c.index-rules-k.result c.step-next.result.following c.requires.uses
    (subst (λ (o : Option ℕ). Ahead (is_keyed c.args.rules.now c.args.state c.args.f.0) c.args.plain.now c.args.rules.now c.args.uses.now o) c.in-Some.is c.loop-next.invariant)
    c.index-rules-k.is (sym c.may_use.ensures ∙ c.if-may_use.false)
    (key_step c.args.rules.now c.in-Some.place c.args.state c.args.f.0 c.step-next.result c.index-rules-k.result
    (ap (λ s. slice_get s c.in-Some.place) (sym c.requires.index.steps) ∙ c.step-next.ensures)
    (c.loop-next.invariant.keyed c.in-Some.place c.index-rules-k.result c.in-Some.is))).later)

pub returns-clause-fit : goal.returns-clause-fit
returns-clause-fit c = λ name number.
    let none : c.loop-next.next ≡ None = c.in_default.is in
    sym (c.loop-next.invariant.fit ∙ ap (left_to (is_keyed c.args.rules.now c.args.state c.args.f.0) c.args.plain.now c.args.rules.now c.args.uses.now) none)
    ∙ fit_by_name c.args.rules.now c.args.uses.now c.args.state c.args.f c.args.plain.now name number
