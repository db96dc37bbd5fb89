use Rattle.std.proofs.Common.{◌<◌, ◌^◌, rules}
use Rattle.pair_running.specs.declared.served_pairs.served.Served.{Served}
use Rattle.pair_running.specs.ServedPairsBeginning.{starts_of}
use Rattle.pair_running.proofs.ServedPairsBeginning.{have_turns, is_served}
use Rattle.pair_running.proofs.served_pairs.pairs.served.Goals as goal

pub run_sessions-requires : goal.run_sessions-requires
run_sessions-requires g c =
    let begun = c.in_ok-hub.ensures c.requires.texts.0 c.requires.texts.1 in
    (begun.h, starts_of c.args.shared c.args.turns c.args.all.now, begun.hub_is, begun.seated)

pub returns-clause-outcome : goal.returns-clause-outcome
returns-clause-outcome g c = λ t may.
    let small : c.args.turns < 2 ^ 32 = search rules in
    let begun = c.in_ok-hub.ensures t may in
    let v : Served = record { sessions = c.in_ok-sessions.sessions; names = c.in_ok-hub.field-0.names } in
    is_served c.begun_pairs_are_expected.ensures t c.args.shared c.args.turns c.args.all.now (g.C.Chooser.answers c.args.chooser.now) (g.C.Chooser.answers c.run_sessions.new.chooser) v small c.requires.some may begun.names_are
    (c.in_ok-sessions.ensures begun.h (starts_of c.args.shared c.args.turns c.args.all.now) begun.hub_is begun.seated)

pub returns-clause-whole : goal.returns-clause-whole
returns-clause-whole g c = λ t may.
    let small : c.args.turns < 2 ^ 32 = search rules in
    let begun = c.in_ok-hub.ensures t may in
    have_turns c.begun_pairs_are_expected.ensures t c.args.shared c.args.turns c.args.all.now (g.C.Chooser.answers c.args.chooser.now) (g.C.Chooser.answers c.run_sessions.new.chooser) c.in_ok-sessions.sessions.items small may
    (c.in_ok-sessions.ensures begun.h (starts_of c.args.shared c.args.turns c.args.all.now) begun.hub_is begun.seated)
