use Rattle.std.proofs.Common.{◌≡◌, ℕ, List, [], Bool, Err, arith, refl, rules, subst, sym, ◌∙◌}
use Rattle.wire.specs.View.{ReaderView}
use Rattle.pair_runner.specs.Sending.{Talks}
use Rattle.pair_runner.proofs.Moving.{talks_none}
use Rattle.slave_runner.specs.SoFar.{Begun, Read}
use Rattle.slave_runner.specs.Turns.{Reads}
use Rattle.slave_runner.proofs.BootLemmas.{begun_none}
use Rattle.slave_runner.proofs.TurnLemmas.{few_reads, reads_none}
use Rattle.slave_runner.proofs.beginning.read_pieces.Goals as goal

pub loop-turns-init : goal.loop-turns-init
loop-turns-init g c = record {
  ready = c.requires.ready;
  begun = subst (λ (l : List ℕ). Begun (Talks g.L.Link.came g.L.Link.sent g.L.Link.given c.args.link.now c.args.link.now) l c.args.reader.now) (sym c.new-bytes.ensures.items)
      (subst (λ (v : ReaderView). Begun (Talks g.L.Link.came g.L.Link.sent g.L.Link.given c.args.link.now c.args.link.now) [] v) (sym c.requires.fresh) (begun_none (Talks g.L.Link.came g.L.Link.sent g.L.Link.given c.args.link.now c.args.link.now) (talks_none g.L.Link.came g.L.Link.sent g.L.Link.given g.met.L.Link.same c.args.link.now)));
  reads = subst (λ (v : ReaderView). Reads 0 v) (sym c.requires.fresh) reads_none;
  links = refl;
}

pub loop-turns-preserved : goal.loop-turns-preserved
loop-turns-preserved g c = record {
  ready = c.in_ok-done.ensures.ready;
  begun = subst (λ (d : Bool). Read d (Talks g.L.Link.came g.L.Link.sent g.L.Link.given c.args.link.now c.read_piece.new.link) c.read_piece.new.bytes.items c.read_piece.new.reader) c.if-done.false (c.in_ok-done.ensures.ok c.args.link.now c.loop-turns.invariant.begun);
  reads = c.in_ok-done.ensures.turn c.loop-turns.invariant.begun.sound c.loop-turns._turns c.loop-turns.invariant.reads;
  links = c.in_ok-done.ensures.cause.stays ∙ c.loop-turns.invariant.links;
}

pub returns-in_err-done-clause-err : goal.returns-in_err-done-clause-err
returns-in_err-done-clause-err g c =
    let is : c.from_residual.result ≡ Err c.in_err-done.field-0.0 = search rules in
    rw is (c.in_err-done.ensures.err c.args.link.now c.loop-turns.invariant.begun)

pub returns-then-done-clause-ok : goal.returns-then-done-clause-ok
returns-then-done-clause-ok g c = subst (λ (d : Bool). Read d (Talks g.L.Link.came g.L.Link.sent g.L.Link.given c.args.link.now c.read_piece.new.link) c.read_piece.new.bytes.items c.read_piece.new.reader) c.if-done.true (c.in_ok-done.ensures.ok c.args.link.now c.loop-turns.invariant.begun)

pub returns-then-done-clause-short : goal.returns-then-done-clause-short
returns-then-done-clause-short g c = (c.in_ok-done.ensures.turn c.loop-turns.invariant.begun.sound c.loop-turns._turns c.loop-turns.invariant.reads).short

pub unreachable-requires : goal.unreachable-requires
unreachable-requires g c =
    let few = few_reads c.loop-turns._turns c.loop-turns.reader c.loop-turns.invariant.reads in
    let most = c.loop-turns-test.false in
    omega (arith, few, most)
