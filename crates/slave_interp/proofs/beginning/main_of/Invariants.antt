use Rattle.std.proofs.Common.{◌≡◌, drop}
use Rattle.pt_core.specs.CodeTree.{numbered}
use Rattle.slave_interp.specs.Beginning.{main_among}
use Rattle.slave_interp.proofs.beginning.main_of.Given as goal

abbrev pub invariant-loop-entry : goal.invariant-loop-entry
invariant-loop-entry l = main_among (numbered (drop l.entry-index l.signatures)) ≡ main_among (numbered l.fn.signatures)
