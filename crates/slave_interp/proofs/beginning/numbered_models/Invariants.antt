use Rattle.std.proofs.Common.{◌≡◌, ◌++◌, drop}
use Rattle.pt_core.specs.CodeTree.{numbered}
use Rattle.slave_interp.proofs.beginning.numbered_models.Given as goal

abbrev pub invariant-loop-f : goal.invariant-loop-f
invariant-loop-f l = l.numbered.items ++ numbered (drop l.f-index l.models) ≡ numbered l.fn.models
