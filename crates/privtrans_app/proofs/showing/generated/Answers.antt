use Rattle.privtrans_app.proofs.ShowingLemmas.{made_shows, made_turns}
use Rattle.privtrans_app.proofs.showing.generated.Goals as goal

pub returns-clause-gives : goal.returns-clause-gives
returns-clause-gives g c = made_shows c.args.words.now.seed c.args.words.now.count c.run-answer.result c.pair_shown.result c.run-answer.ensures.outcome c.pair_shown.ensures

pub returns-clause-turns : goal.returns-clause-turns
returns-clause-turns g c =
    made_turns c.args.words.now.seed c.args.words.now.count (g.C.Chooser.answers c.args.chooser.now) (g.C.Chooser.answers c.run-answer.new.chooser) c.run-answer.result c.pair_shown.result
    c.run-answer.ensures.whole c.pair_shown.ensures
