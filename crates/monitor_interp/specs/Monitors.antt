-- Which monitor the code is.
use Rattle.pt_core.specs.declared.monitor.MonitorProgram.{MonitorProgram}
use Rattle.pair_meaning.specs.Monitors as pair
use Rattle.monitor_interp.specs.declared.monitor.Monitor.{Monitor}
use Rattle.monitor_interp.specs.declared.seat.Seat.{Seat}
use Rattle.monitor_interp.specs.Standing.{Stands}

-- With this program it has the monitor's store, globals, hosts and policy, and its counts. The monitor is sound.
unfoldable pub IsSeat : MonitorProgram → Seat → pair.Monitor → Type 0
IsSeat program x m = Stands program x.state m

-- It has the monitor's program, and all else that it has.
unfoldable pub IsMonitor : Monitor → pair.Monitor → Type 0
IsMonitor x m = IsSeat x.program x.seat m
