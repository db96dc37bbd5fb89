use Rattle.std.proofs.Common.{rules}
use Rattle.pair_running.proofs.LocalPairTalking.{only_memory, run_of}
use Rattle.pair_running.proofs.local_pair.running.converse.Goals as goal

pub wanting-requires : goal.wanting-requires
wanting-requires g c =
    let at = c.requires.stand.2 in
    only_memory g.C.Chooser.answers c.new-link.result _ c.new-sink.result _ c.args.boot.now c.requires.stand.0 c.requires.stand.1 c.args.window c.in-Err.fault c.talks_end.ensures at.ends
    (record { link = c.new-link.ensures.slave c.requires.stand.0 at.slave_is; window_is = c.new-link.ensures.window; none = c.new-sink.ensures })
    (c.in-Err.ensures.outcome c.requires.stand.1 at.monitor_is) c.in-Err.ensures.link c.in-Err.ensures.sink

pub returns-in-Ok : goal.returns-in-Ok
returns-in-Ok g c = λ x m at.
    let stops = c.in-Ok.ensures.outcome m at.monitor_is in
    run_of g.C.Chooser.answers _ _ c.new-link.result _ c.new-sink.result _ c.args.boot.now x m c.args.window _ c.in-Ok.end c.talks_are_whole.ensures
    (record { link = c.new-link.ensures.slave x at.slave_is; window_is = c.new-link.ensures.window; none = c.new-sink.ensures })
    c.new-link.ensures.chooser (let same = stops.moved.talks.came_by.same_reference in search rules) c.into_vec.ensures stops
