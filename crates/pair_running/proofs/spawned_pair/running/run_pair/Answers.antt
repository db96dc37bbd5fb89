use Rattle.std.proofs.Common.{◌≡◌, ◌<◌, ◌^◌, Err, inl, rules}
use Rattle.boot_fields.specs.Limits.{Spells}
use Rattle.honest_link.specs.Came.{Started}
use Rattle.pair_runner.specs.declared.fault.RunFault.TheVariants.{Memory}
use Rattle.pair_runner.specs.Sending.{Breaks, Moves}
use Rattle.pair_texts.specs.Seen.{monitor_in}
use Rattle.pt_core.specs.CodeTree.{view_boot}
use Rattle.pair_running.specs.LocalPairWhole.{alone}
use Rattle.pair_running.specs.SpawnedPairSupervised.{AreUntouched}
use Rattle.pair_running.proofs.SpawnedPairBeginning.{hosts_serve, input_is_bytes, monitor_is_well_formed}
use Rattle.pair_running.proofs.SpawnedPairHonest.{expected_end, expected_fault}
use Rattle.pair_running.proofs.SpawnedPairServing.{served_end, served_fault, stays_untouched}
use Rattle.pair_running.proofs.spawned_pair.running.run_pair.Goals as goal

pub begin-requires-clause-monitor : goal.begin-requires-clause-monitor
begin-requires-clause-monitor g c = monitor_is_well_formed c.begun_monitors_are_well_formed.ensures c.args.pair c.args.turns c.requires.texts.0 c.requires.texts.1

pub begin-requires-clause-hosts : goal.begin-requires-clause-hosts
begin-requires-clause-hosts g c = hosts_serve c.begun_monitors_hosts_serve.ensures c.args.pair c.args.turns c.requires.texts.0 c.requires.texts.1

pub begin-requires-clause-bytes : goal.begin-requires-clause-bytes
begin-requires-clause-bytes g c = input_is_bytes c.args.pair c.args.turns c.requires.texts.0 c.requires.texts.1

pub returns-in_err-boot-clause-served : goal.returns-in_err-boot-clause-served
returns-in_err-boot-clause-served g c =
    let is : c.from_residual.result ≡ Err Memory = search rules in
    λ t texts. rw is (inl (stays_untouched c.args.spawner.now c.args.out.now))

pub returns-in_err-boot-clause-expected : goal.returns-in_err-boot-clause-expected
returns-in_err-boot-clause-expected g c =
    let is : c.from_residual.result ≡ Err Memory = search rules in
    λ t texts for_it. rw is (tt {0})

pub start_peer-requires : goal.start_peer-requires
start_peer-requires g c = record { monitor = (alone (monitor_in c.args.pair c.args.turns), c.in_ok-boot.ensures.monitor) }

pub returns-in_err-end-clause-served : goal.returns-in_err-end-clause-served
returns-in_err-end-clause-served g c =
    let is : c.from_residual-in_err-end.result ≡ Err c.in_err-end.field-0.0 = search rules in
    let spelled : Spells (view_boot c.args.pair.boot) c.deref.result.now = let h = c.in_ok-boot.ensures.boot in search rules in
    λ t texts.
    rw is (served_fault (AreUntouched c.args.spawner.now c.start_peer.new.spawner c.args.out.now c.start_peer.new.out)
    (Moves (Started g.S.Spawner.starts g.S.Link.came g.S.Link.honest g.S.Link.sent g.S.Link.given) g.S.Link.sent g.S.Link.given g.K.Sink.taken c.args.spawner.now c.start_peer.new.spawner c.args.out.now c.start_peer.new.out)
    (Breaks g.S.Link.sent g.S.Link.given g.K.Sink.taken c.args.spawner.now c.start_peer.new.spawner c.args.out.now c.start_peer.new.out)
    c.args.pair c.args.turns t c.deref.result.now c.in_err-end.field-0.0 texts spelled (c.in_err-end.ensures.outcome (alone (monitor_in c.args.pair c.args.turns)) c.in_ok-boot.ensures.monitor))

pub returns-in_err-end-clause-expected : goal.returns-in_err-end-clause-expected
returns-in_err-end-clause-expected g c =
    let is : c.from_residual-in_err-end.result ≡ Err c.in_err-end.field-0.0 = search rules in
    let spelled : Spells (view_boot c.args.pair.boot) c.deref.result.now = let h = c.in_ok-boot.ensures.boot in search rules in
    let small : c.args.turns < 2 ^ 32 = search rules in
    λ t texts for_it.
    rw is (expected_fault g.S.Spawner.starts g.S.Link.came g.S.Link.honest g.S.Link.sent g.S.Link.given g.K.Sink.taken c.args.spawner.now c.start_peer.new.spawner c.args.out.now c.start_peer.new.out c.args.pair c.args.turns t c.deref.result.now c.in_err-end.field-0.0
    (record { talks = c.honest_talks_are_expected.ensures; fair = c.begun_pairs_are_fair.ensures; small = small; texts = texts; spelled = spelled; for_it = for_it })
    (c.in_err-end.ensures.outcome (alone (monitor_in c.args.pair c.args.turns)) c.in_ok-boot.ensures.monitor))

pub returns-clause-served : goal.returns-clause-served
returns-clause-served g c =
    let spelled : Spells (view_boot c.args.pair.boot) c.deref.result.now = let h = c.in_ok-boot.ensures.boot in search rules in
    λ t texts.
    served_end (AreUntouched c.args.spawner.now c.start_peer.new.spawner c.args.out.now c.start_peer.new.out)
    (Moves (Started g.S.Spawner.starts g.S.Link.came g.S.Link.honest g.S.Link.sent g.S.Link.given) g.S.Link.sent g.S.Link.given g.K.Sink.taken c.args.spawner.now c.start_peer.new.spawner c.args.out.now c.start_peer.new.out)
    (Breaks g.S.Link.sent g.S.Link.given g.K.Sink.taken c.args.spawner.now c.start_peer.new.spawner c.args.out.now c.start_peer.new.out)
    c.args.pair c.args.turns t c.deref.result.now c.in_ok-end.end _ texts spelled
    (c.in_ok-end.ensures.outcome (alone (monitor_in c.args.pair c.args.turns)) c.in_ok-boot.ensures.monitor) c.in_ok-boot.ensures.names

pub returns-clause-expected : goal.returns-clause-expected
returns-clause-expected g c =
    let spelled : Spells (view_boot c.args.pair.boot) c.deref.result.now = let h = c.in_ok-boot.ensures.boot in search rules in
    let small : c.args.turns < 2 ^ 32 = search rules in
    λ t texts for_it.
    expected_end g.S.Spawner.starts g.S.Link.came g.S.Link.honest g.S.Link.sent g.S.Link.given g.K.Sink.taken c.args.spawner.now c.start_peer.new.spawner c.args.out.now c.start_peer.new.out c.args.pair c.args.turns t c.deref.result.now c.in_ok-end.end _
    (record { talks = c.honest_talks_are_expected.ensures; fair = c.begun_pairs_are_fair.ensures; small = small; texts = texts; spelled = spelled; for_it = for_it })
    (c.in_ok-end.ensures.outcome (alone (monitor_in c.args.pair c.args.turns)) c.in_ok-boot.ensures.monitor) c.in_ok-boot.ensures.names
