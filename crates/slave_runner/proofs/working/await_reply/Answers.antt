use Rattle.std.proofs.Common.{◌≡◌, ℕ, List, [], Err, refl, rules, subst, sym}
use Rattle.slave_interp.specs.Slaves.{IsSlave}
use Rattle.pair_runner.specs.Sending.{Parts, Talks}
use Rattle.slave_runner.specs.Faults.{of_link}
use Rattle.slave_runner.specs.SoFar.{WorksOn}
use Rattle.slave_runner.proofs.SayLemmas.{stuck_link}
use Rattle.slave_runner.proofs.WorkLemmas.{works_all, works_unsent}
use Rattle.slave_runner.proofs.LinkLemmas.{joins, joins_parts}
use Rattle.slave_runner.proofs.working.await_reply.Goals as goal

pub returns-in_err-send_waiting-clause-err : goal.returns-in_err-send_waiting-clause-err
returns-in_err-send_waiting-clause-err g c =
    let is : c.from_residual.result ≡ Err (of_link c.in_err-send_waiting.field-0.0) = search rules in
    rw is (λ a b x at m so. works_unsent (Talks g.L.Link.came g.L.Link.sent g.L.Link.given a c.args.link.now) (Talks g.L.Link.came g.L.Link.sent g.L.Link.given a c.send_waiting.new.link) (Parts g.L.Link.sent g.L.Link.given c.args.link.now c.send_waiting.new.link) (Parts g.L.Link.sent g.L.Link.given a c.send_waiting.new.link) b x c.args.waiting.now.items c.args.reader.now (of_link c.in_err-send_waiting.field-0.0)
    (joins_parts g.L.Link.came g.L.Link.sent g.L.Link.given a c.args.link.now c.send_waiting.new.link) so (stuck_link c.in_err-send_waiting.field-0.0 _ c.in_err-send_waiting.ensures.err))

pub returns-in_err-take_reply-clause-err : goal.returns-in_err-take_reply-clause-err
returns-in_err-take_reply-clause-err g c =
    let is : c.from_residual-in_err-take_reply.result ≡ Err c.in_err-take_reply.field-0.0 = search rules in
    rw is (λ a b x at m so. c.in_err-take_reply.ensures.err a b x at m (works_all (Talks g.L.Link.came g.L.Link.sent g.L.Link.given a c.args.link.now) (Talks g.L.Link.came g.L.Link.sent g.L.Link.given c.args.link.now c.send_waiting.new.link) (Talks g.L.Link.came g.L.Link.sent g.L.Link.given a c.send_waiting.new.link) b x c.args.waiting.now.items [] c.args.reader.now (joins g.L.Link.came g.L.Link.sent g.L.Link.given g.met.L.Link.further a c.args.link.now c.send_waiting.new.link) so c.in_ok-send_waiting.ensures.ok refl))

pub returns-clause-ok : goal.returns-clause-ok
returns-clause-ok g c = λ a b x at m so.
    subst (λ (l : List ℕ). WorksOn (Talks g.L.Link.came g.L.Link.sent g.L.Link.given a c.take_reply.new.link) (IsSlave c.take_reply.new.slave) b l c.take_reply.new.reader) (sym c.in_ok-send_waiting.ensures.none)
    (c.in_ok-take_reply.ensures.ok a b x at m (works_all (Talks g.L.Link.came g.L.Link.sent g.L.Link.given a c.args.link.now) (Talks g.L.Link.came g.L.Link.sent g.L.Link.given c.args.link.now c.send_waiting.new.link) (Talks g.L.Link.came g.L.Link.sent g.L.Link.given a c.send_waiting.new.link) b x c.args.waiting.now.items [] c.args.reader.now (joins g.L.Link.came g.L.Link.sent g.L.Link.given g.met.L.Link.further a c.args.link.now c.send_waiting.new.link) so c.in_ok-send_waiting.ensures.ok refl))

pub returns-clause-turn : goal.returns-clause-turn
returns-clause-turn g c = c.in_ok-take_reply.ensures.turn
