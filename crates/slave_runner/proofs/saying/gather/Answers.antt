use Rattle.std.proofs.Common.{◌≡◌, Err, rules}
use Rattle.pair_runner.specs.Sending.{Talks}
use Rattle.pair_runner.proofs.Moving.{talks_none}
use Rattle.slave_runner.specs.declared.fault.WorkFault.TheVariants.{Memory}
use Rattle.slave_runner.specs.Faults.{of_link}
use Rattle.slave_runner.proofs.SayLemmas.{gathered_all, gathered_sent, stuck_link}
use Rattle.slave_runner.proofs.LinkLemmas.{idle}
use Rattle.slave_runner.proofs.saying.gather.Goals as goal

pub returns-in_err-write_message-clause-err : goal.returns-in_err-write_message-clause-err
returns-in_err-write_message-clause-err g c =
    let is : c.from_residual.result ≡ Err Memory = search rules in
    rw is (idle g.L.Link.sent g.L.Link.given c.args.link.now _)

pub returns-then-len-lt-MOST_GATHERED-clause-ok : goal.returns-then-len-lt-MOST_GATHERED-clause-ok
returns-then-len-lt-MOST_GATHERED-clause-ok g c = gathered_all (Talks g.L.Link.came g.L.Link.sent g.L.Link.given c.args.link.now c.args.link.now) _ _ (talks_none g.L.Link.came g.L.Link.sent g.L.Link.given g.met.L.Link.same c.args.link.now) c.in_ok-write_message.ensures.appended

pub returns-in_err-send_waiting-clause-err : goal.returns-in_err-send_waiting-clause-err
returns-in_err-send_waiting-clause-err g c =
    let is : c.from_residual-in_err-send_waiting.result ≡ Err (of_link c.in_err-send_waiting.field-0.0) = search rules in
    rw is (stuck_link c.in_err-send_waiting.field-0.0 _ (rw c.in_ok-write_message.ensures.appended at c.in_err-send_waiting.ensures.err))

pub returns-clause-ok : goal.returns-clause-ok
returns-clause-ok g c = gathered_sent (Talks g.L.Link.came g.L.Link.sent g.L.Link.given c.args.link.now c.send_waiting.new.link) _ c.write_message.new.out.items _ c.in_ok-send_waiting.ensures.ok c.in_ok-write_message.ensures.appended c.in_ok-send_waiting.ensures.none
