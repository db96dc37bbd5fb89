use Rattle.std.proofs.Common.{◌≡◌, drop}
use Rattle.reach.specs.Tables.{set_all}
use Rattle.splitter.specs.Halves.{entry_numbers}
use Rattle.splitter.proofs.hosts.add_entries.Given as goal

abbrev pub invariant-loop-entry : goal.invariant-loop-entry
invariant-loop-entry l = set_all l.set (entry_numbers (drop l.entry-index l.entries)) ≡ set_all l.fn.set (entry_numbers l.fn.entries)
