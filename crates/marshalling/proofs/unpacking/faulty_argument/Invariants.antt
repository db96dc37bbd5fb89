use Rattle.std.proofs.Common.{◌≡◌, drop}
use Rattle.marshalling.specs.Handles.{arguments_fault}
use Rattle.marshalling.proofs.unpacking.faulty_argument.Given as goal

abbrev pub invariant-loop-i : goal.invariant-loop-i
invariant-loop-i l = arguments_fault l.store (drop l.i l.params) (drop l.i l.args) ≡ arguments_fault l.store l.params l.args
