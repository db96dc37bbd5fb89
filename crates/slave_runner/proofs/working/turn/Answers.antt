use Rattle.std.proofs.Common.{◌≡◌, [], Err, ap, refl, rules, sym, ◌∙◌}
use Rattle.slave_interp.specs.Doings.{mode_in}
use Rattle.slave_interp.specs.Slaves.{IsSlave}
use Rattle.pair_runner.specs.Sending.{Parts, Talks}
use Rattle.slave_runner.specs.Faults.{of_link}
use Rattle.slave_runner.proofs.SayLemmas.{stuck_link}
use Rattle.slave_runner.proofs.WorkLemmas.{works_all, works_broke, works_on, works_over, works_unsent}
use Rattle.slave_runner.proofs.TurnLemmas.{runs_on}
use Rattle.slave_runner.proofs.LinkLemmas.{joins, joins_parts}
use Rattle.slave_runner.proofs.working.turn.Goals as goal

pub returns-in_err-go_on-in-Going-clause-err : goal.returns-in_err-go_on-in-Going-clause-err
returns-in_err-go_on-in-Going-clause-err g c =
    let is : c.from_residual.result ≡ Err c.in_err-go_on-in-Going.field-0.0 = search rules in
    rw is (λ a b x at so. works_broke (Talks g.L.Link.came g.L.Link.sent g.L.Link.given a c.args.link.now) (Talks g.L.Link.came g.L.Link.sent g.L.Link.given a c.go_on.new.link) (Parts g.L.Link.sent g.L.Link.given c.args.link.now c.go_on.new.link) (Parts g.L.Link.sent g.L.Link.given a c.go_on.new.link) b x c.args.waiting.now.items c.args.reader.now c.in_err-go_on-in-Going.field-0.0
    (joins_parts g.L.Link.came g.L.Link.sent g.L.Link.given a c.args.link.now c.go_on.new.link) so (c.in_err-go_on-in-Going.ensures.err x at))

pub returns-in_ok-go_on-in-Going-clause-ok : goal.returns-in_ok-go_on-in-Going-clause-ok
returns-in_ok-go_on-in-Going-clause-ok g c = λ a b x at so.
    works_on (Talks g.L.Link.came g.L.Link.sent g.L.Link.given a c.args.link.now) (Talks g.L.Link.came g.L.Link.sent g.L.Link.given c.args.link.now c.go_on.new.link) (Talks g.L.Link.came g.L.Link.sent g.L.Link.given a c.go_on.new.link) (IsSlave c.go_on.new.slave) b x c.args.waiting.now.items c.go_on.new.waiting.items c.args.reader.now (joins g.L.Link.came g.L.Link.sent g.L.Link.given g.met.L.Link.further a c.args.link.now c.go_on.new.link) so (c.in_ok-go_on-in-Going.ensures.ok x at)

pub returns-in_err-await_reply-in-Waits-clause-err : goal.returns-in_err-await_reply-in-Waits-clause-err
returns-in_err-await_reply-in-Waits-clause-err g c =
    let is : c.from_residual-in_err-await_reply-in-Waits.result ≡ Err c.in_err-await_reply-in-Waits.field-0.0 = search rules in
    rw is (λ a b x at so. c.in_err-await_reply-in-Waits.ensures.err a b x at (sym (c.mode.ensures x at) ∙ ap mode_in c.in-Waits.is) so)

pub returns-in_ok-await_reply-in-Waits-clause-ok : goal.returns-in_ok-await_reply-in-Waits-clause-ok
returns-in_ok-await_reply-in-Waits-clause-ok g c = λ a b x at so. c.in_ok-await_reply-in-Waits.ensures.ok a b x at (sym (c.mode.ensures x at) ∙ ap mode_in c.in-Waits.is) so

pub returns-in_err-send_waiting-in-Over-clause-err : goal.returns-in_err-send_waiting-in-Over-clause-err
returns-in_err-send_waiting-in-Over-clause-err g c =
    let is : c.from_residual-in_err-send_waiting-in-Over.result ≡ Err (of_link c.in_err-send_waiting-in-Over.field-0.0) = search rules in
    rw is (λ a b x at so. works_unsent (Talks g.L.Link.came g.L.Link.sent g.L.Link.given a c.args.link.now) (Talks g.L.Link.came g.L.Link.sent g.L.Link.given a c.send_waiting.new.link) (Parts g.L.Link.sent g.L.Link.given c.args.link.now c.send_waiting.new.link) (Parts g.L.Link.sent g.L.Link.given a c.send_waiting.new.link) b x c.args.waiting.now.items c.args.reader.now (of_link c.in_err-send_waiting-in-Over.field-0.0)
    (joins_parts g.L.Link.came g.L.Link.sent g.L.Link.given a c.args.link.now c.send_waiting.new.link) so (stuck_link c.in_err-send_waiting-in-Over.field-0.0 _ c.in_err-send_waiting-in-Over.ensures.err))

pub returns-in_ok-send_waiting-in-Over-clause-ok : goal.returns-in_ok-send_waiting-in-Over-clause-ok
returns-in_ok-send_waiting-in-Over-clause-ok g c = λ a b x at so.
    works_over (Talks g.L.Link.came g.L.Link.sent g.L.Link.given a c.send_waiting.new.link) b x c.args.reader.now (works_all (Talks g.L.Link.came g.L.Link.sent g.L.Link.given a c.args.link.now) (Talks g.L.Link.came g.L.Link.sent g.L.Link.given c.args.link.now c.send_waiting.new.link) (Talks g.L.Link.came g.L.Link.sent g.L.Link.given a c.send_waiting.new.link) b x c.args.waiting.now.items [] c.args.reader.now (joins g.L.Link.came g.L.Link.sent g.L.Link.given g.met.L.Link.further a c.args.link.now c.send_waiting.new.link) so c.in_ok-send_waiting-in-Over.ensures.ok refl) (sym (c.mode.ensures x at) ∙ ap mode_in c.in-Over.is)

pub returns-in_ok-go_on-in-Going-clause-turn : goal.returns-in_ok-go_on-in-Going-clause-turn
returns-in_ok-go_on-in-Going-clause-turn g c = λ going n r.
    runs_on (Talks g.L.Link.came g.L.Link.sent g.L.Link.given c.args.link.now c.go_on.new.link) (IsSlave c.args.slave.now) (IsSlave c.go_on.new.slave) c.args.reader.now n c.args.waiting.now.items c.go_on.new.waiting.items r
    (sym (c.mode.ensures r.slave r.there) ∙ ap mode_in c.in-Going.is) (c.in_ok-go_on-in-Going.ensures.ok r.slave r.there)

pub returns-in_ok-await_reply-in-Waits-clause-turn : goal.returns-in_ok-await_reply-in-Waits-clause-turn
returns-in_ok-await_reply-in-Waits-clause-turn g c = λ going n r. c.in_ok-await_reply-in-Waits.ensures.turn n r (sym (c.mode.ensures r.slave r.there) ∙ ap mode_in c.in-Waits.is)
