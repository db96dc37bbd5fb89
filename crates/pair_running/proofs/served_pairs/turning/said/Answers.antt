use Rattle.std.proofs.Common.{◌≡◌, Some, rules}
use Rattle.pair_running.proofs.ServedPairsSaying.{has_said}
use Rattle.pair_running.proofs.served_pairs.turning.said.Goals as goal

pub returns-in-Some : goal.returns-in-Some
returns-in-Some c = λ x is.
    let told : c.in_ok-said.field-0.said ≡ Some c.in-Some.message = search rules in
    has_said c.calls_are_ready.ensures c.bodies_keep_counts.ensures c.slaves_stay_sound.ensures c.the_sides_are_fair.ensures x c.in_ok-said.field-0.made _ c.in_ok-said.field-0.said c.in-Some.message c.run.new.self is.sound told (c.in_ok-said.ensures x is)
