use Rattle.std.proofs.Common.{◌≡◌, [], Ok, Err, rules, subst, sym}
use Rattle.wire.specs.View.{ReaderView}
use Rattle.pair_runner.specs.Sending.{Parts, Talks}
use Rattle.slave_runner.specs.declared.hearing.Front.{Front}
use Rattle.slave_runner.specs.Fronts.{Fed, IsFront}
use Rattle.slave_runner.specs.Turns.{Reads}
use Rattle.slave_runner.proofs.BootLemmas.{begun_bad, begun_hears, begun_refused, begun_unfed, pieced_read, pieced_refused}
use Rattle.slave_runner.proofs.TurnLemmas.{reads_fed, reads_taken}
use Rattle.slave_runner.proofs.LinkLemmas.{idle, joins, joins_parts}
use Rattle.slave_runner.proofs.beginning.read_piece.Goals as goal

pub returns-in_err-found-clause-err : goal.returns-in_err-found-clause-err
returns-in_err-found-clause-err g c =
    let is : c.from_residual.result ≡ Err c.in_err-found.field-0.0 = search rules in
    rw is (λ a so. begun_refused (Talks g.L.Link.came g.L.Link.sent g.L.Link.given a c.args.link.now) (Parts g.L.Link.sent g.L.Link.given c.args.link.now c.args.link.now) (Parts g.L.Link.sent g.L.Link.given a c.args.link.now) c.args.bytes.now.items c.args.reader.now c.next_frame.new.reader c.in_err-found.field-0.0
    (joins_parts g.L.Link.came g.L.Link.sent g.L.Link.given a c.args.link.now c.args.link.now) (idle g.L.Link.sent g.L.Link.given c.args.link.now []) so (c.in_err-found.ensures.front so.sound))

pub returns-in_err-hear-in-Unfinished-clause-err : goal.returns-in_err-hear-in-Unfinished-clause-err
returns-in_err-hear-in-Unfinished-clause-err g c =
    let is : c.from_residual-in_err-hear-in-Unfinished.result ≡ Err c.in_err-hear-in-Unfinished.field-0.0 = search rules in
    rw is (λ a so.
    let found = subst (λ (w : Front). IsFront c.args.reader.now (Ok w) c.next_frame.new.reader) c.in-Unfinished.is (c.in_ok-found.ensures.front so.sound) in
    begun_unfed (Talks g.L.Link.came g.L.Link.sent g.L.Link.given a c.args.link.now) (Talks g.L.Link.came g.L.Link.sent g.L.Link.given c.args.link.now c.hear.new.link) (Talks g.L.Link.came g.L.Link.sent g.L.Link.given a c.hear.new.link) (Parts g.L.Link.sent g.L.Link.given c.args.link.now c.hear.new.link) (Parts g.L.Link.sent g.L.Link.given a c.hear.new.link) c.args.bytes.now.items c.args.reader.now c.in_err-hear-in-Unfinished.field-0.0
    (joins g.L.Link.came g.L.Link.sent g.L.Link.given g.met.L.Link.further a c.args.link.now c.hear.new.link) (joins_parts g.L.Link.came g.L.Link.sent g.L.Link.given a c.args.link.now c.hear.new.link) so found.0 c.in_err-hear-in-Unfinished.ensures.err)

pub returns-in_ok-hear-in-Unfinished-clause-ok : goal.returns-in_ok-hear-in-Unfinished-clause-ok
returns-in_ok-hear-in-Unfinished-clause-ok g c = λ a so.
    let found = subst (λ (w : Front). IsFront c.args.reader.now (Ok w) c.next_frame.new.reader) c.in-Unfinished.is (c.in_ok-found.ensures.front so.sound) in
    begun_hears (Talks g.L.Link.came g.L.Link.sent g.L.Link.given a c.args.link.now) (Talks g.L.Link.came g.L.Link.sent g.L.Link.given c.args.link.now c.hear.new.link) (Talks g.L.Link.came g.L.Link.sent g.L.Link.given a c.hear.new.link) c.args.bytes.now.items c.args.reader.now c.hear.new.reader (joins g.L.Link.came g.L.Link.sent g.L.Link.given g.met.L.Link.further a c.args.link.now c.hear.new.link) so found.0
    (subst (λ (v : ReaderView). Fed (Talks g.L.Link.came g.L.Link.sent g.L.Link.given c.args.link.now c.hear.new.link) v c.hear.new.reader) found.1 c.in_ok-hear-in-Unfinished.ensures.ok)

pub returns-in_err-done-in-Framed-clause-err : goal.returns-in_err-done-in-Framed-clause-err
returns-in_err-done-in-Framed-clause-err g c =
    let is : c.from_residual-in_err-done-in-Framed.result ≡ Err c.in_err-done-in-Framed.field-0.0 = search rules in
    rw is (λ a so. pieced_refused (Talks g.L.Link.came g.L.Link.sent g.L.Link.given a c.args.link.now) (Parts g.L.Link.sent g.L.Link.given c.args.link.now c.args.link.now) (Parts g.L.Link.sent g.L.Link.given a c.args.link.now) c.args.bytes.now.items c.add_piece.new.bytes.items c.args.reader.now c.next_frame.new.reader _ _ c.piece_of.result c.in_err-done-in-Framed.field-0.0
    (joins_parts g.L.Link.came g.L.Link.sent g.L.Link.given a c.args.link.now c.args.link.now) (idle g.L.Link.sent g.L.Link.given c.args.link.now []) so (subst (λ (w : Front). IsFront c.args.reader.now (Ok w) c.next_frame.new.reader) c.in-Framed.is (c.in_ok-found.ensures.front so.sound)) (sym c.piece_of.ensures) c.in_err-done-in-Framed.ensures.pieced)

pub returns-in_ok-done-in-Framed-clause-ok : goal.returns-in_ok-done-in-Framed-clause-ok
returns-in_ok-done-in-Framed-clause-ok g c = λ a so.
    pieced_read (Talks g.L.Link.came g.L.Link.sent g.L.Link.given a c.args.link.now) c.args.bytes.now.items c.add_piece.new.bytes.items c.args.reader.now c.next_frame.new.reader _ _ c.piece_of.result c.in_ok-done-in-Framed.done so (subst (λ (w : Front). IsFront c.args.reader.now (Ok w) c.next_frame.new.reader) c.in-Framed.is (c.in_ok-found.ensures.front so.sound)) (sym c.piece_of.ensures) c.in_ok-done-in-Framed.ensures.pieced

pub returns-in-Bad-clause-err : goal.returns-in-Bad-clause-err
returns-in-Bad-clause-err g c = λ a so.
    let found = subst (λ (w : Front). IsFront c.args.reader.now (Ok w) c.next_frame.new.reader) c.in-Bad.is (c.in_ok-found.ensures.front so.sound) in
    begun_bad (Talks g.L.Link.came g.L.Link.sent g.L.Link.given a c.args.link.now) (Parts g.L.Link.sent g.L.Link.given a c.args.link.now) c.args.bytes.now.items c.args.reader.now so found.0

pub returns-in_ok-hear-in-Unfinished-clause-turn : goal.returns-in_ok-hear-in-Unfinished-clause-turn
returns-in_ok-hear-in-Unfinished-clause-turn g c = λ sound n r.
    let found = subst (λ (w : Front). IsFront c.args.reader.now (Ok w) c.next_frame.new.reader) c.in-Unfinished.is (c.in_ok-found.ensures.front sound) in
    reads_fed (Talks g.L.Link.came g.L.Link.sent g.L.Link.given c.args.link.now c.hear.new.link) c.next_frame.new.reader c.hear.new.reader n c.in_ok-hear-in-Unfinished.ensures.ok c.in_ok-hear-in-Unfinished.ensures.short (subst (λ (v : ReaderView). Reads n v) (sym found.1) r)

pub returns-in_ok-done-in-Framed-clause-turn : goal.returns-in_ok-done-in-Framed-clause-turn
returns-in_ok-done-in-Framed-clause-turn g c = λ sound n r.
    reads_taken c.args.reader.now c.next_frame.new.reader _ _ n (subst (λ (w : Front). IsFront c.args.reader.now (Ok w) c.next_frame.new.reader) c.in-Framed.is (c.in_ok-found.ensures.front sound)) r
