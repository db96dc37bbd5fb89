use Rattle.std.proofs.Common.{◌≡◌, ◌∙◌, ◌<◌, ◌-◌, ◌&&◌, nat_eq, length, arith, ap, refl, drop}
use Rattle.std.specs.List.{position_from}
use Rattle.policy.specs.Places.{state_number, is_keyed, steps_from}
use Rattle.policy.proofs.PlaceLemmas.{place_step, steps_more}
use Rattle.policy.proofs.indexing.rule_index.Goals as goal

pub loop-next-preserved : goal.loop-next-preserved
loop-next-preserved c =
    let within : c.loop-next.next - 1 < length c.args.rules.now = omega arith in
    let state : c.state_number-state.result ≡ state_number c.args.rules.now c.index-rules-next.result.from
    = c.state_number-state.ensures c.args.rules.now c.in_ok-numbers.ensures refl ∙ ap (state_number c.args.rules.now) c.as_slice.ensures in
    let to : c.state_number-to.result ≡ state_number c.args.rules.now c.index-rules-next.result.to
    = c.state_number-to.ensures c.args.rules.now c.in_ok-numbers.ensures refl ∙ ap (state_number c.args.rules.now) c.as_slice-in-loop-next.ensures in
    record {
      within = omega arith;
      heads = λ number f.
          place_step (is_keyed c.args.rules.now number f) c.args.rules.now c.loop-next.next c.index-rules-next.result
          (nat_eq c.state_number-state.result number && nat_eq c.index-rules-next.result.function.0 f) _ _ c.loop-next-test.true within
          c.index-rules-next.is (ap (λ h. nat_eq h number && nat_eq c.index-rules-next.result.function.0 f) state)
          (c.in_ok-following.ensures.updates.0 (number, f)) (c.loop-next.invariant.heads number f);
      steps =
          steps_more c.args.rules.now c.loop-next.next c.index-rules-next.result c.state_number-to.result c.in_ok-following.following c.loop-next.steps.items c.push.new.self.items
          c.loop-next-test.true within c.index-rules-next.is to
          (c.in_ok-following.ensures.old ∙ c.loop-next.invariant.heads c.state_number-state.result c.index-rules-next.result.function.0
          ∙ ap (λ h. position_from (is_keyed c.args.rules.now h c.index-rules-next.result.function.0) c.loop-next.next (drop c.loop-next.next c.args.rules.now)) state)
          c.in_ok-push.ensures.items c.loop-next.invariant.steps;
    }

pub returns : goal.returns
returns c =
    let none : c.loop-next.next ≡ 0 = omega arith in
    record {
      heads = λ number f. c.loop-next.invariant.heads number f ∙ ap (λ n. position_from (is_keyed c.args.rules.now number f) n (drop n c.args.rules.now)) none;
      steps = c.reverse.ensures.items ∙ c.loop-next.invariant.steps ∙ ap (λ n. steps_from c.args.rules.now n (drop n c.args.rules.now)) none;
    }
