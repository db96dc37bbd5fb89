use Rattle.std.proofs.Common.{◌≡◌, ◌<◌, ◌-◌, List, length, subst, sym, rules}
use Rattle.pair_running.specs.declared.served_pairs.turning.Talk.{Talk}
use Rattle.pair_running.specs.ServedPairsTurns.{count_open}
use Rattle.pair_running.proofs.ServedPairsPlaces.{fewer_run, have_turned, open_count, reached_within, same_run, turn_begins}
use Rattle.pair_running.proofs.served_pairs.turning.go_on.Goals as goal

pub reached-place-requires-clause-running : goal.reached-place-requires-clause-running
reached-place-requires-clause-running g c =
    subst (λ (xs : List Talk). c.args.running ≡ count_open xs) (sym c.as_slice.ensures.value) (open_count c.args.hub.now c.requires.stand.0 c.args.talks.now.items c.requires.stand.1 c.args.running c.requires.stand.2)

pub index_mut-talk-requires : goal.index_mut-talk-requires
index_mut-talk-requires g c =
    let within : c.reached-place.result < length c.args.talks.now.items = reached_within c.args.talks.now.items c.as_slice.result.now c.args.running c.reached-place.result (g.C.Chooser.answers c.args.chooser.now) (g.C.Chooser.answers c.reached-place.new.chooser) c.as_slice.ensures.value c.reached-place.ensures in
    search rules

pub turn-requires : goal.turn-requires
turn-requires g c =
    let h = c.requires.stand.0 in
    let begins = turn_begins c.args.hub.now h c.args.talks.now.items c.as_slice.result.now c.requires.stand.1 c.args.running c.reached-place.result (g.C.Chooser.answers c.args.chooser.now) (g.C.Chooser.answers c.reached-place.new.chooser) c.index_mut-talk.result.now
    c.as_slice.ensures.value c.index_mut-talk.ensures.value c.reached-place.ensures c.requires.stand.2 in
    (h, begins.there.slave, begins.there.monitor, begins.runs)

pub returns-then-over : goal.returns-then-over
returns-then-over g c = λ h bs stand.
    let begins = turn_begins c.args.hub.now h c.args.talks.now.items c.as_slice.result.now bs c.args.running c.reached-place.result (g.C.Chooser.answers c.args.chooser.now) (g.C.Chooser.answers c.reached-place.new.chooser) c.index_mut-talk.result.now
    c.as_slice.ensures.value c.index_mut-talk.ensures.value c.reached-place.ensures stand in
    have_turned c.args.hub.now c.turn.new.hub h c.args.talks.now.items bs c.args.running c.reached-place.result (c.args.running - 1) (g.C.Chooser.answers c.args.chooser.now) (g.C.Chooser.answers c.reached-place.new.chooser) c.index_mut-talk.result.now c.turn.new.talk c.in_ok-over.over
    stand begins (c.in_ok-over.ensures h begins.there.slave begins.there.monitor begins.runs) (fewer_run c.args.running c.in_ok-over.over c.if-over.true c.requires.some)

pub returns : goal.returns
returns g c = λ h bs stand.
    let begins = turn_begins c.args.hub.now h c.args.talks.now.items c.as_slice.result.now bs c.args.running c.reached-place.result (g.C.Chooser.answers c.args.chooser.now) (g.C.Chooser.answers c.reached-place.new.chooser) c.index_mut-talk.result.now
    c.as_slice.ensures.value c.index_mut-talk.ensures.value c.reached-place.ensures stand in
    have_turned c.args.hub.now c.turn.new.hub h c.args.talks.now.items bs c.args.running c.reached-place.result c.args.running (g.C.Chooser.answers c.args.chooser.now) (g.C.Chooser.answers c.reached-place.new.chooser) c.index_mut-talk.result.now c.turn.new.talk c.in_ok-over.over
    stand begins (c.in_ok-over.ensures h begins.there.slave begins.there.monitor begins.runs) (same_run c.args.running c.in_ok-over.over c.if-over.false)
