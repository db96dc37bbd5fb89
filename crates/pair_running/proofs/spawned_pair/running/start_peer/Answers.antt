use Rattle.std.proofs.Common.{◌≡◌, Ok, Err, rules}
use Rattle.honest_link.specs.Came.{Started}
use Rattle.pair_runner.specs.Faults.{of_link}
use Rattle.pair_running.proofs.SpawnedPairLinks.{not_started, since_start}
use Rattle.pair_running.proofs.spawned_pair.running.start_peer.Goals as goal

pub returns-in_err-start-clause-outcome : goal.returns-in_err-start-clause-outcome
returns-in_err-start-clause-outcome g c =
    let is : c.from_residual.result ≡ Err (of_link c.in_err-start.field-0.0) = search rules in
    λ m at. rw is (not_started (Started g.S.Spawner.starts g.S.Link.came g.S.Link.honest g.S.Link.sent g.S.Link.given) g.S.Link.sent g.S.Link.given g.K.Sink.taken c.args.spawner.now c.start.new.self c.args.out.now c.args.boot.now m c.in_err-start.field-0.0 c.in_err-start.ensures.sent c.in_err-start.ensures.given)

pub returns-in_err-end-clause-outcome : goal.returns-in_err-end-clause-outcome
returns-in_err-end-clause-outcome g c =
    let is : c.from_residual-in_err-end.result ≡ Err c.in_err-end.field-0.0 = search rules in
    λ m at. rw is (since_start g.S.Spawner.starts g.S.Link.came g.S.Link.honest g.S.Link.sent g.S.Link.given g.K.Sink.taken c.args.spawner.now c.start.new.self c.supervise.new.link c.args.out.now c.supervise.new.sink c.args.boot.now m (Err c.in_err-end.field-0.0) g.met.S.Witnessed.along
    (record { became = c.in_ok-start.ensures.started; honest_still = c.in_ok-start.ensures.honest; none_sent = c.in_ok-start.ensures.sent; none_given = c.in_ok-start.ensures.given }) (c.in_err-end.ensures.outcome m at))

pub returns-clause-outcome : goal.returns-clause-outcome
returns-clause-outcome g c = λ m at.
    since_start g.S.Spawner.starts g.S.Link.came g.S.Link.honest g.S.Link.sent g.S.Link.given g.K.Sink.taken c.args.spawner.now c.start.new.self c.supervise.new.link c.args.out.now c.supervise.new.sink c.args.boot.now m (Ok c.in_ok-end.end) g.met.S.Witnessed.along
    (record { became = c.in_ok-start.ensures.started; honest_still = c.in_ok-start.ensures.honest; none_sent = c.in_ok-start.ensures.sent; none_given = c.in_ok-start.ensures.given }) (c.in_ok-end.ensures.outcome m at)
