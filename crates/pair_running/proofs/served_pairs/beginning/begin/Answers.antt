use Rattle.std.proofs.Common.{◌<◌, ◌^◌, refl, rules}
use Rattle.pair_running.proofs.ServedPairsBeginning.{first_hub, have_begun, hosts_fit, monitor_fits}
use Rattle.pair_running.proofs.served_pairs.beginning.begin.Goals as goal

pub new-requires-clause-well_formed : goal.new-requires-clause-well_formed
new-requires-clause-well_formed c = monitor_fits c.begun_monitors_are_well_formed.ensures c.requires.texts.0 c.args.shared c.args.turns c.requires.texts.1.shared

pub new-requires-clause-hosts : goal.new-requires-clause-hosts
new-requires-clause-hosts c = hosts_fit c.begun_monitors_hosts_serve.ensures c.requires.texts.0 c.args.shared c.args.turns c.requires.texts.1.shared

pub open_all-requires-clause-fresh : goal.open_all-requires-clause-fresh
open_all-requires-clause-fresh c = (first_hub c.args.shared c.args.turns, c.in_ok-hub.ensures, record { opened = refl; seats = refl })

pub returns : goal.returns
returns c = λ t may.
    let small : c.args.turns < 2 ^ 32 = search rules in
    have_begun c.begun_pairs_are_expected.ensures t c.args.shared c.args.turns c.args.all.now _ small c.requires.few may c.in_ok-hub.ensures.kept
    (c.in_ok-open_all.ensures (first_hub c.args.shared c.args.turns) c.in_ok-hub.ensures (record { opened = refl; seats = refl })) c.in_ok-talks.ensures refl
