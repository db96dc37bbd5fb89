use Rattle.std.proofs.Common.{◌≡◌}
use Rattle.pair_runner.specs.Sending.{Talks}
use Rattle.slave_runner.specs.SoFar.{Begun}
use Rattle.slave_runner.specs.Turns.{Reads}
use Rattle.slave_runner.proofs.beginning.read_pieces.Given as goal

abbrev pub invariant-loop-turns : goal.invariant-loop-turns
invariant-loop-turns g l = record {
  ready : g.L.Link.ready l.link;
  begun : Begun (Talks g.L.Link.came g.L.Link.sent g.L.Link.given l.fn.link l.link) l.bytes.items l.reader;
  reads : Reads l._turns l.reader;
  links : g.L.Link.faults l.link ≡ g.L.Link.faults l.fn.link;
}
