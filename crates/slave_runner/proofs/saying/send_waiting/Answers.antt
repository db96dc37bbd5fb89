use Rattle.std.proofs.Common.{◌≡◌, ◌==◌, Err, ap, rules, ◌∙◌}
use Rattle.pair_runner.specs.Sending.{Talks}
use Rattle.pair_runner.proofs.Moving.{parts_sent, talks_none, took_one}
use Rattle.slave_runner.proofs.BootLemmas.{empty_so}
use Rattle.slave_runner.proofs.SayLemmas.{none_waits, some_wait}
use Rattle.slave_runner.proofs.saying.send_waiting.Goals as goal

pub returns-then-is_empty-clause-ok : goal.returns-then-is_empty-clause-ok
returns-then-is_empty-clause-ok g c = none_waits (Talks g.L.Link.came g.L.Link.sent g.L.Link.given c.args.link.now c.args.link.now) _ _ (c.is_empty.ensures ∙ ap (λ n. n == 0) c.args.waiting.now.ok.0) c.if-is_empty.true (talks_none g.L.Link.came g.L.Link.sent g.L.Link.given g.met.L.Link.same c.args.link.now)

pub returns-then-is_empty-clause-none : goal.returns-then-is_empty-clause-none
returns-then-is_empty-clause-none g c = empty_so _ _ (c.is_empty.ensures ∙ ap (λ n. n == 0) c.args.waiting.now.ok.0) c.if-is_empty.true

pub returns-in_err-send-clause-err : goal.returns-in_err-send-clause-err
returns-in_err-send-clause-err g c =
    let is : c.from_residual.result ≡ Err c.in_err-send.field-0.0 = search rules in
    rw is (parts_sent g.L.Link.sent g.L.Link.given _ _ _ (rw c.deref.ensures.value at c.in_err-send.ensures.err) c.in_err-send.ensures.given)

pub returns-clause-ok : goal.returns-clause-ok
returns-clause-ok g c =
    some_wait (Talks g.L.Link.came g.L.Link.sent g.L.Link.given c.args.link.now c.send.new.self) _ _ (c.is_empty.ensures ∙ ap (λ n. n == 0) c.args.waiting.now.ok.0) c.if-is_empty.false
    (took_one g.L.Link.came g.L.Link.sent g.L.Link.given _ _ _ (rw c.deref.ensures.value at c.in_ok-send.ensures.came) (rw c.deref.ensures.value at c.in_ok-send.ensures.ok) c.in_ok-send.ensures.given)
