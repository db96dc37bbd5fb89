use Rattle.std.proofs.Common.{◌≡◌}
use Rattle.monitor_interp.specs.Monitors.{IsMonitor}
use Rattle.pair_meaning.specs.Monitors as s
use Rattle.pair_runner.specs.Sending.{Moves}
use Rattle.pair_runner.proofs.Turning.{Now}
use Rattle.pair_runner.proofs.supervising.serve_peer.Given as goal

abbrev pub invariant-loop : goal.invariant-loop
invariant-loop g l = record {
  ready : g.L.Link.ready l.link;
  each : (m : s.Monitor) → IsMonitor l.fn.monitor m → Now (Moves g.L.Link.came g.L.Link.sent g.L.Link.given g.K.Sink.taken l.fn.link l.link l.fn.sink l.sink) (IsMonitor l.monitor) m l.reader;
  links : g.L.Link.faults l.link ≡ g.L.Link.faults l.fn.link;
  sinks : g.K.Sink.faults l.sink ≡ g.K.Sink.faults l.fn.sink;
}
