use Rattle.std.proofs.Common.{◌<◌, ◌-◌, length, arith, ap, bytes_eq}
use Rattle.policy.proofs.PlaceLemmas.{place_step}
use Rattle.policy.proofs.states.state_numbers.Goals as goal

pub loop-next-preserved : goal.loop-next-preserved
loop-next-preserved c =
    let within : c.loop-next.next - 1 < length c.args.rules.now = omega arith in
    record {
      within = omega arith;
      numbers = λ state.
          place_step (λ r. bytes_eq r.from state) c.args.rules.now c.loop-next.next c.index-rules-next.result (bytes_eq c.as_slice.result.now state) _ _ c.loop-next-test.true within
          c.index-rules-next.is (ap (λ w. bytes_eq w state) c.as_slice.ensures) (c.in_ok-insert.ensures.updates.0 record { ref_ptr = (0, 0); now = state }) (c.loop-next.invariant.numbers state);
    }
