use Rattle.std.proofs.Common.{arith, refl}
use Rattle.sides.proofs.LastLemmas.{added_before, remembers_on}
use Rattle.sides.proofs.outs.add_behind.Goals as goal

pub returns-then-not-branch-clause-table : goal.returns-then-not-branch-clause-table
returns-then-not-branch-clause-table c = (added_before c.args.slots.now c.args.out _ _ _ _ _ (grind arith) refl c.requires c.in_ok-is_new.ensures).0

pub returns-then-not-branch-clause-seen : goal.returns-then-not-branch-clause-seen
returns-then-not-branch-clause-seen c = (added_before c.args.slots.now c.args.out _ _ _ _ _ (grind arith) refl c.requires c.in_ok-is_new.ensures).1

pub returns-clause-seen : goal.returns-clause-seen
returns-clause-seen c = remembers_on c.args.slots.now c.args.out _ _ _ _ _ _ (grind arith) refl c.requires c.in_ok-is_new.ensures c.in_ok-add_all.ensures
