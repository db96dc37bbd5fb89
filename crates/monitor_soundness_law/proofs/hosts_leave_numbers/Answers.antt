use Rattle.monitor_soundness_law.proofs.Hosts.{hosts_leave_numbers}
use Rattle.monitor_soundness_law.proofs.hosts_leave_numbers.Goals as goal

pub returns : goal.returns
returns c = hosts_leave_numbers
