use Rattle.std.proofs.Common.{◌∷◌, [], ◌++◌, ◌∙◌, List, length, sym, subst}
use Rattle.std.proofs.lemmas.Iterator.Adapters.{YieldsList-from_vec}
use Rattle.std.proofs.lemmas.Iterator.Consumers.{YieldsList-turn}
use Rattle.pair_running.specs.declared.served_pairs.served.SessionEnd.{SessionEnd}
use Rattle.pair_running.specs.ServedPairsTurns.{AreEnds}
use Rattle.pair_running.proofs.ServedPairsPlaces.{closed_at, ends_push}
use Rattle.pair_running.proofs.served_pairs.turning.ends_of.Goals as goal

pub ended-requires : goal.ended-requires
ended-requires c =
    let from = c.into_iter-talk-iterator.ensures.into_iter_gives in
    let road = YieldsList-from_vec {s = c.into_iter-talk-iterator.result} c.args.talks.items from.0 (from.1 ∙ c.args.talks.ok.0) in
    closed_at c.args.talks.items (length c.loop-talk.yielded) c.in-Some.talk c.requires (YieldsList-turn road c.loop-talk.yielded c.loop-talk.talk-iterator c.loop-talk.yielded_by c.next.result c.next.new.self c.in-Some.talk c.in-Some.is c.next.ensures.steps)

pub loop-talk-preserved : goal.loop-talk-preserved
loop-talk-preserved c =
    subst (λ (es : List SessionEnd). AreEnds (c.loop-talk.yielded ++ c.in-Some.talk ∷ []) es) (sym c.in_ok-push.ensures.items)
    (ends_push c.loop-talk.yielded c.loop-talk.ends.items c.in-Some.talk c.ended.result c.loop-talk.invariant c.ended.ensures)
