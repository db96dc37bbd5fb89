use Rattle.pair_running.proofs.ServedPairsPlaces.{gone_further}
use Rattle.pair_running.proofs.served_pairs.turning.turns.Goals as goal

pub loop-turn-preserved : goal.loop-turn-preserved
loop-turn-preserved g c =
    let stand = c.loop-turn.invariant.stand in
    let turned = c.in_ok-running.ensures stand.0 stand.1 stand.2 in
    record {
      stand = (turned.h, turned.pairs, turned.stand);
      gone = λ starts begins.
          let gone = c.loop-turn.invariant.gone starts begins in
          gone_further c.loop-turn.hub c.go_on.new.hub c.loop-turn.talks.items c.go_on.new.talks.items c.loop-turn.running c.in_ok-running.running starts
          (g.C.Chooser.answers c.args.chooser.now) (g.C.Chooser.answers c.loop-turn.chooser) (g.C.Chooser.answers c.go_on.new.chooser) gone (c.in_ok-running.ensures gone.h gone.pairs gone.stand);
    }
