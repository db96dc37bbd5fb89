use Rattle.std.proofs.Common.{Err, ap, refl}
use Rattle.pair_meaning.specs.Serving.{serve}
use Rattle.pair_running.proofs.ServedPairsHearing.{has_taken, served_so, session_open}
use Rattle.pair_running.proofs.served_pairs.turning.turn.Goals as goal

pub handle-requires-clause-counts : goal.handle-requires-clause-counts
handle-requires-clause-counts c = (c.in_ok-message.ensures c.requires.1 c.requires.3.talks.2).counts

pub handle-requires-clause-stands : goal.handle-requires-clause-stands
handle-requires-clause-stands c = (c.requires.0, c.requires.3.hub_is)

pub hear-requires : goal.hear-requires
hear-requires c =
    let h = c.requires.0 in
    let m = c.requires.2 in
    let runs = c.requires.3 in
    let said = c.in_ok-message.ensures c.requires.1 runs.talks.2 in
    (said.to, c.args.talk.now.written.items, serve m c.in_ok-message.message, served_so c.the_sides_are_fair.ensures c.args.hub.now h c.args.talk.now _ c.requires.1 m c.in_ok-message.message c.in-Ok.handled runs said refl (c.in-Ok.ensures.handled h runs.hub_is))

pub returns-in-Ok : goal.returns-in-Ok
returns-in-Ok c = λ h x m runs.
    let said = c.in_ok-message.ensures x runs.talks.2 in
    has_taken c.args.hub.now c.handle.new.self h c.args.talk.now _ _ x m c.in_ok-message.message _ runs said refl (c.in-Ok.ensures.after h runs.hub_is)
    (c.in_ok-over-in-Ok.ensures said.to c.args.talk.now.written.items (serve m c.in_ok-message.message)
    (served_so c.the_sides_are_fair.ensures c.args.hub.now h c.args.talk.now _ x m c.in_ok-message.message c.in-Ok.handled runs said refl (c.in-Ok.ensures.handled h runs.hub_is)))

pub unreachable-requires : goal.unreachable-requires
unreachable-requires c = session_open c.args.hub.now c.requires.0 c.args.talk.now c.requires.1 c.requires.2 c.requires.3 ((c.in-Err-NotOpen.ensures.not_open c.requires.0 c.requires.3.hub_is).0 (ap (λ e. Err e) c.in-Err-NotOpen.field-0-is))
