use Rattle.monitor_soundness_law.proofs.ServingEntries.{entries_are_named}
use Rattle.monitor_soundness_law.proofs.serving.entries_are_named.Goals as goal

pub returns : goal.returns
returns c = entries_are_named
