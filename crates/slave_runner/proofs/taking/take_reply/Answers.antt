use Rattle.std.proofs.Common.{◌≡◌, [], Ok, Err, rules, subst, sym}
use Rattle.wire.specs.View.{ReaderView}
use Rattle.slave_interp.specs.Slaves.{IsSlave}
use Rattle.pair_runner.specs.Sending.{Parts, Talks}
use Rattle.slave_runner.specs.declared.hearing.Front.{Front}
use Rattle.slave_runner.specs.Fronts.{Fed, IsFront}
use Rattle.slave_runner.specs.Turns.{Runs}
use Rattle.slave_runner.proofs.WorkLemmas.{taken_refused, taken_works, works_bad, works_hears, works_refused, works_unfed}
use Rattle.slave_runner.proofs.TurnLemmas.{runs_hear, runs_take}
use Rattle.slave_runner.proofs.LinkLemmas.{idle, joins, joins_parts}
use Rattle.slave_runner.proofs.taking.take_reply.Goals as goal

pub returns-in_err-found-clause-err : goal.returns-in_err-found-clause-err
returns-in_err-found-clause-err g c =
    let is : c.from_residual.result ≡ Err c.in_err-found.field-0.0 = search rules in
    rw is (λ a b x at m so. works_refused (Talks g.L.Link.came g.L.Link.sent g.L.Link.given a c.args.link.now) (Parts g.L.Link.sent g.L.Link.given c.args.link.now c.args.link.now) (Parts g.L.Link.sent g.L.Link.given a c.args.link.now) b x c.args.reader.now c.next_frame.new.reader c.in_err-found.field-0.0
    (joins_parts g.L.Link.came g.L.Link.sent g.L.Link.given a c.args.link.now c.args.link.now) (idle g.L.Link.sent g.L.Link.given c.args.link.now []) so m (c.in_err-found.ensures.front so.sound))

pub returns-in_err-hear-in-Unfinished-clause-err : goal.returns-in_err-hear-in-Unfinished-clause-err
returns-in_err-hear-in-Unfinished-clause-err g c =
    let is : c.from_residual-in_err-hear-in-Unfinished.result ≡ Err c.in_err-hear-in-Unfinished.field-0.0 = search rules in
    rw is (λ a b x at m so.
    let found = subst (λ (w : Front). IsFront c.args.reader.now (Ok w) c.next_frame.new.reader) c.in-Unfinished.is (c.in_ok-found.ensures.front so.sound) in
    works_unfed (Talks g.L.Link.came g.L.Link.sent g.L.Link.given a c.args.link.now) (Talks g.L.Link.came g.L.Link.sent g.L.Link.given c.args.link.now c.hear.new.link) (Talks g.L.Link.came g.L.Link.sent g.L.Link.given a c.hear.new.link) (Parts g.L.Link.sent g.L.Link.given c.args.link.now c.hear.new.link) (Parts g.L.Link.sent g.L.Link.given a c.hear.new.link) b x c.args.reader.now c.in_err-hear-in-Unfinished.field-0.0
    (joins g.L.Link.came g.L.Link.sent g.L.Link.given g.met.L.Link.further a c.args.link.now c.hear.new.link) (joins_parts g.L.Link.came g.L.Link.sent g.L.Link.given a c.args.link.now c.hear.new.link) so m found.0 c.in_err-hear-in-Unfinished.ensures.err)

pub returns-in_ok-hear-in-Unfinished-clause-ok : goal.returns-in_ok-hear-in-Unfinished-clause-ok
returns-in_ok-hear-in-Unfinished-clause-ok g c = λ a b x at m so.
    let found = subst (λ (w : Front). IsFront c.args.reader.now (Ok w) c.next_frame.new.reader) c.in-Unfinished.is (c.in_ok-found.ensures.front so.sound) in (
      x,
      at,
      works_hears (Talks g.L.Link.came g.L.Link.sent g.L.Link.given a c.args.link.now) (Talks g.L.Link.came g.L.Link.sent g.L.Link.given c.args.link.now c.hear.new.link) (Talks g.L.Link.came g.L.Link.sent g.L.Link.given a c.hear.new.link) b x c.args.reader.now c.hear.new.reader (joins g.L.Link.came g.L.Link.sent g.L.Link.given g.met.L.Link.further a c.args.link.now c.hear.new.link) so m found.0
          (subst (λ (v : ReaderView). Fed (Talks g.L.Link.came g.L.Link.sent g.L.Link.given c.args.link.now c.hear.new.link) v c.hear.new.reader) found.1 c.in_ok-hear-in-Unfinished.ensures.ok),
    )

pub returns-in_err-take-in-Framed-clause-err : goal.returns-in_err-take-in-Framed-clause-err
returns-in_err-take-in-Framed-clause-err g c =
    let is : c.from_residual-in_err-take-in-Framed.result ≡ Err c.in_err-take-in-Framed.field-0.0 = search rules in
    rw is (λ a b x at m so. taken_refused _ (Talks g.L.Link.came g.L.Link.sent g.L.Link.given a c.args.link.now) (Parts g.L.Link.sent g.L.Link.given c.args.link.now c.args.link.now) (Parts g.L.Link.sent g.L.Link.given a c.args.link.now) (IsSlave c.take.new.slave) b x c.args.reader.now c.next_frame.new.reader _ c.in-Framed.place c.reply_in.result c.in_err-take-in-Framed.field-0.0
    (joins_parts g.L.Link.came g.L.Link.sent g.L.Link.given a c.args.link.now c.args.link.now) (idle g.L.Link.sent g.L.Link.given c.args.link.now []) so m (subst (λ (w : Front). IsFront c.args.reader.now (Ok w) c.next_frame.new.reader) c.in-Framed.is (c.in_ok-found.ensures.front so.sound)) (sym c.reply_in.ensures) (c.in_err-take-in-Framed.ensures.taken x at))

pub returns-in_ok-take-in-Framed-clause-ok : goal.returns-in_ok-take-in-Framed-clause-ok
returns-in_ok-take-in-Framed-clause-ok g c = λ a b x at m so.
    taken_works (Talks g.L.Link.came g.L.Link.sent g.L.Link.given a c.args.link.now) (IsSlave c.take.new.slave) b x c.args.reader.now c.next_frame.new.reader _ c.in-Framed.place c.reply_in.result _ so m (subst (λ (w : Front). IsFront c.args.reader.now (Ok w) c.next_frame.new.reader) c.in-Framed.is (c.in_ok-found.ensures.front so.sound)) (sym c.reply_in.ensures) (c.in_ok-take-in-Framed.ensures.taken x at)

pub returns-in-Bad-clause-err : goal.returns-in-Bad-clause-err
returns-in-Bad-clause-err g c =
    rw c.bad_reply.ensures (λ a b x at m so.
    let found = subst (λ (w : Front). IsFront c.args.reader.now (Ok w) c.next_frame.new.reader) c.in-Bad.is (c.in_ok-found.ensures.front so.sound) in
    works_bad (Talks g.L.Link.came g.L.Link.sent g.L.Link.given a c.args.link.now) (Parts g.L.Link.sent g.L.Link.given a c.args.link.now) b x c.args.reader.now c.in-Bad.place so m found.0 found.1)

pub returns-in_ok-hear-in-Unfinished-clause-turn : goal.returns-in_ok-hear-in-Unfinished-clause-turn
returns-in_ok-hear-in-Unfinished-clause-turn g c = λ n r m.
    let found = subst (λ (w : Front). IsFront c.args.reader.now (Ok w) c.next_frame.new.reader) c.in-Unfinished.is (c.in_ok-found.ensures.front r.sound) in
    runs_hear (Talks g.L.Link.came g.L.Link.sent g.L.Link.given c.args.link.now c.hear.new.link) (IsSlave c.args.slave.now) c.next_frame.new.reader c.hear.new.reader n c.in_ok-hear-in-Unfinished.ensures.ok c.in_ok-hear-in-Unfinished.ensures.short (subst (λ (v : ReaderView). Runs n (IsSlave c.args.slave.now) v) (sym found.1) r)

pub returns-in_ok-take-in-Framed-clause-turn : goal.returns-in_ok-take-in-Framed-clause-turn
returns-in_ok-take-in-Framed-clause-turn g c = λ n r m.
    runs_take (IsSlave c.args.slave.now) (IsSlave c.take.new.slave) c.args.reader.now c.next_frame.new.reader _ c.in-Framed.place n c.reply_in.result _
    (subst (λ (w : Front). IsFront c.args.reader.now (Ok w) c.next_frame.new.reader) c.in-Framed.is (c.in_ok-found.ensures.front r.sound)) r m (c.in_ok-take-in-Framed.ensures.taken r.slave r.there)
