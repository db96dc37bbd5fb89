use Rattle.pt_base.proofs.Places.{drop_step_at}
use Rattle.pt_core.specs.declared.monitor.Entry.{Entry}
use Rattle.splitter.proofs.WalkLemmas.{number_on}
use Rattle.splitter.proofs.hosts.add_entries.Goals as goal

pub loop-entry-preserved : goal.loop-entry-preserved
loop-entry-preserved c = number_on (λ (e : Entry). e.function.0) c.entry-item.result _ _ _ _ _ (drop_step_at c.args.entries.now c.loop-entry.entry-index c.entry-item.result c.loop-entry-test.true c.entry-item.is) c.add.ensures c.loop-entry.invariant
