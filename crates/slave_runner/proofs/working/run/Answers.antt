use Rattle.std.proofs.Common.{◌≡◌, ℕ, List, Bool, Err, arith, refl, rules, subst, sym, ◌∙◌}
use Rattle.slave_interp.specs.Slaves.{IsSlave}
use Rattle.pair_runner.specs.Sending.{Talks}
use Rattle.slave_runner.specs.SoFar.{Worked, WorksOn}
use Rattle.slave_runner.proofs.TurnLemmas.{few_runs, runs_speak}
use Rattle.slave_runner.proofs.working.run.Goals as goal

pub loop-turns-init : goal.loop-turns-init
loop-turns-init g c = record {
  ready = c.requires.ready;
  each = λ a b x at so. subst (λ (l : List ℕ). WorksOn (Talks g.L.Link.came g.L.Link.sent g.L.Link.given a c.args.link.now) (IsSlave c.args.slave.now) b l c.args.reader.now) (sym c.new-waiting.ensures.items) (x, at, so);
  runs = c.requires.runs;
  links = refl;
}

pub loop-turns-preserved : goal.loop-turns-preserved
loop-turns-preserved g c = record {
  ready = c.in_ok-done.ensures.ready;
  each = λ a b x at so. let n = c.loop-turns.invariant.each a b x at so in
      subst (λ (d : Bool). Worked d (Talks g.L.Link.came g.L.Link.sent g.L.Link.given a c.turn.new.link) (IsSlave c.turn.new.slave) b c.turn.new.waiting.items c.turn.new.reader) c.if-done.false (c.in_ok-done.ensures.ok a b n.0 n.1 n.2);
  runs = c.in_ok-done.ensures.turn c.if-done.false c.loop-turns._turns c.loop-turns.invariant.runs;
  links = c.in_ok-done.ensures.cause.stays ∙ c.loop-turns.invariant.links;
}

pub returns-in_err-done-clause-err : goal.returns-in_err-done-clause-err
returns-in_err-done-clause-err g c =
    let is : c.from_residual.result ≡ Err c.in_err-done.field-0.0 = search rules in
    rw is (λ a b x at so. let n = c.loop-turns.invariant.each a b x at so in c.in_err-done.ensures.err a b n.0 n.1 n.2)

pub returns-then-done-clause-ok : goal.returns-then-done-clause-ok
returns-then-done-clause-ok g c = λ a b x at so.
    let n = c.loop-turns.invariant.each a b x at so in
    subst (λ (d : Bool). Worked d (Talks g.L.Link.came g.L.Link.sent g.L.Link.given a c.turn.new.link) (IsSlave c.turn.new.slave) b c.turn.new.waiting.items c.turn.new.reader) c.if-done.true (c.in_ok-done.ensures.ok a b n.0 n.1 n.2)

pub unreachable-requires : goal.unreachable-requires
unreachable-requires g c =
    let few = few_runs c.loop-turns._turns (IsSlave c.loop-turns.slave) c.loop-turns.reader c.loop-turns.invariant.runs in
    let most = c.loop-turns-test.false in
    omega (arith, few, most)

pub turn-requires-clause-speaks : goal.turn-requires-clause-speaks
turn-requires-clause-speaks g c = runs_speak c.loop-turns._turns (IsSlave c.loop-turns.slave) c.loop-turns.reader c.loop-turns.invariant.runs
