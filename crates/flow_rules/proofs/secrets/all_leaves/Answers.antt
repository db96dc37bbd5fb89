-- One leaf after the other.
use Rattle.std.proofs.Common.{arith}
use Rattle.flow_rules.proofs.SecretLemmas.{next_number}
use Rattle.flow_rules.proofs.secrets.all_leaves.Goals as goal

pub loop-leaf-preserved : goal.loop-leaf-preserved
loop-leaf-preserved c =
    next_number c.loop-leaf.list.items _ _ c.args.count c.loop-leaf.leaf (grind arith) c.in_ok-push.ensures.items c.loop-leaf.invariant
