use Rattle.std.proofs.Common.{◌≡◌, ◌++◌, drop}
use Rattle.flow_picture.specs.Kept.{told_steps}
use Rattle.flow_picture.proofs.steps.steps_in.Given as goal

abbrev pub invariant-loop-fault : goal.invariant-loop-fault
invariant-loop-fault l = l.steps.items ++ told_steps (drop l.fault-index l.faults) ≡ told_steps l.fn.faults
