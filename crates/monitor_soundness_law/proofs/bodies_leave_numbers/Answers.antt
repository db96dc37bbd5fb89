use Rattle.monitor_soundness_law.proofs.Bodies.{bodies_leave_numbers}
use Rattle.monitor_soundness_law.proofs.bodies_leave_numbers.Goals as goal

pub returns : goal.returns
returns c = bodies_leave_numbers
