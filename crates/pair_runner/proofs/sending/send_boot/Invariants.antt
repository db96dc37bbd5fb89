use Rattle.std.proofs.Common.{◌≡◌, length}
use Rattle.pair_runner.proofs.Pieces.{Sent}
use Rattle.pair_runner.proofs.sending.send_boot.Given as goal

abbrev pub invariant-loop-rest : goal.invariant-loop-rest
invariant-loop-rest g l = record {
  ready : g.L.Link.ready l.link;
  sent : Sent g.L.Link.came g.L.Link.sent g.L.Link.given l.fn.link l.link l.fn.boot l.rest;
  links : g.L.Link.faults l.link ≡ g.L.Link.faults l.fn.link;
}

abbrev pub decreases-loop-rest : goal.decreases-loop-rest
decreases-loop-rest g l = length l.rest
