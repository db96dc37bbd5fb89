use Rattle.std.proofs.Common.{◌≡◌, ◌++◌, drop, map}
use Rattle.pt_core.specs.CodeTree.{numbered}
use Rattle.monitor_interp.specs.Marks.{mark_of}
use Rattle.monitor_interp.proofs.marks.marks_of.Given as goal

abbrev pub invariant-loop-entry : goal.invariant-loop-entry
invariant-loop-entry l = l.marks.items ++ map mark_of (numbered (drop l.entry-index l.signatures)) ≡ map mark_of (numbered l.fn.signatures)
