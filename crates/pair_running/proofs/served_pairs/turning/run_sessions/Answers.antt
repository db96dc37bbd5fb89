use Rattle.std.proofs.Common.{map}
use Rattle.session_turns.specs.Turns.{begun}
use Rattle.pair_running.proofs.ServedPairsTurning.{have_run, none_open, seated_stand}
use Rattle.pair_running.proofs.served_pairs.turning.run_sessions.Goals as goal

pub turns-requires : goal.turns-requires
turns-requires g c =
    let h = c.requires.0 in
    let starts = c.requires.1 in
    (h, map begun starts, seated_stand c.args.hub.now h c.args.talks.items starts c.requires.2 c.requires.3)

pub ends_of-requires : goal.ends_of-requires
ends_of-requires g c =
    let h = c.requires.0 in
    let starts = c.requires.1 in
    let gone = c.in_ok-turns.ensures starts (h, seated_stand c.args.hub.now h c.args.talks.items starts c.requires.2 c.requires.3) in
    none_open gone.h _ gone.pairs gone.stand.talks gone.stand.running

pub returns : goal.returns
returns g c = λ h starts is seated.
    let gone = c.in_ok-turns.ensures starts (h, seated_stand c.args.hub.now h c.args.talks.items starts is seated) in
    have_run starts _ _ gone c.in_ok-ends.ends.items c.in_ok-ends.ensures
