use Rattle.pair_running.proofs.ServedPairsPlaces.{passes_on, reaches}
use Rattle.pair_running.proofs.served_pairs.turning.reached.Goals as goal

pub returns-in-Parent : goal.returns-in-Parent
returns-in-Parent g c =
    reaches c.args.talks.now c.args.running c.loop-passed.passed c.place_of.result (g.C.Chooser.answers c.args.chooser.now) (g.C.Chooser.answers c.loop-passed.chooser) (g.C.Chooser.answers c.next.new.self) c.next.result
    c.in-Parent.is c.loop-passed.invariant c.next.ensures.gives c.next.ensures.rest c.loop-passed-test.true c.place_of.ensures

pub loop-passed-preserved : goal.loop-passed-preserved
loop-passed-preserved g c =
    passes_on c.loop-passed.passed (g.C.Chooser.answers c.args.chooser.now) (g.C.Chooser.answers c.loop-passed.chooser) (g.C.Chooser.answers c.next.new.self) c.next.result
    c.in-Slave.is c.loop-passed.invariant c.next.ensures.gives c.next.ensures.rest
