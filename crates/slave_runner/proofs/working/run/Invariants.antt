use Rattle.std.proofs.Common.{◌≡◌, ◌-◌, ◌^◌, []}
use Rattle.pt_core.specs.CodeTree.{BootTree}
use Rattle.pair_meaning.specs.SlaveRun as s
use Rattle.slave_interp.specs.Slaves.{IsSlave}
use Rattle.pair_runner.specs.Sending.{Talks}
use Rattle.slave_runner.specs.SoFar.{Working, WorksOn}
use Rattle.slave_runner.specs.Turns.{Runs}
use Rattle.slave_runner.proofs.working.run.Given as goal

abbrev pub decreases-loop-turns : goal.decreases-loop-turns
decreases-loop-turns g l = 2 ^ 128 - 1 - l._turns

abbrev pub invariant-loop-turns : goal.invariant-loop-turns
invariant-loop-turns g l = record {
  ready : g.L.Link.ready l.link;
  each : (a : _) (b : BootTree) (x : s.Slave) → IsSlave l.fn.slave x → Working (Talks g.L.Link.came g.L.Link.sent g.L.Link.given a l.fn.link) b x [] l.fn.reader → WorksOn (Talks g.L.Link.came g.L.Link.sent g.L.Link.given a l.link) (IsSlave l.slave) b l.waiting.items l.reader;
  runs : Runs l._turns (IsSlave l.slave) l.reader;
  links : g.L.Link.faults l.link ≡ g.L.Link.faults l.fn.link;
}
