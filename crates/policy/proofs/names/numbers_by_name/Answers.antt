use Rattle.std.proofs.Common.{◌<◌, ◌-◌, length, arith}
use Rattle.policy.proofs.NamedLemmas.{named_step}
use Rattle.policy.proofs.names.numbers_by_name.Goals as goal

pub loop-next-preserved : goal.loop-next-preserved
loop-next-preserved c =
    let within : c.loop-next.next - 1 < length c.args.signatures.now = omega arith in
    record {
      within = omega arith;
      named = λ name.
          named_step c.args.signatures.now c.loop-next.next c.index-signatures-next.result c.as_slice.result.now name _ _ c.loop-next-test.true within
          c.index-signatures-next.is c.as_slice.ensures (c.in_ok-insert.ensures.updates.0 record { ref_ptr = (0, 0); now = name }) (c.loop-next.invariant.named name);
    }
