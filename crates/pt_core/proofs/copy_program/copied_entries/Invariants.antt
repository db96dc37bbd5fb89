use Rattle.std.proofs.Common.{◌≡◌, ◌++◌, drop}
use Rattle.pt_core.proofs.copy_program.copied_entries.Given as goal

-- the copies so far, and then the others, are all of them
abbrev pub invariant-loop-entry : goal.invariant-loop-entry
invariant-loop-entry l = l.copies.items ++ drop l.entry-index l.entries ≡ l.entries
