use Rattle.std.proofs.Common.{◌<◌, ◌^◌, rules}
use Rattle.pt_core.specs.CodeTree.{view_boot}
use Rattle.pair_meaning.specs.SlaveRun.{slave_of}
use Rattle.pair_texts.specs.Seen.{monitor_in}
use Rattle.pair_running.specs.LocalPairWhole.{alone}
use Rattle.pair_running.proofs.LocalPairBeginning.{boot_is_well_formed, comes_to, has_whole, hosts_serve, input_is_bytes, monitor_is_well_formed, stand_at}
use Rattle.pair_running.proofs.local_pair.running.run_pair.Goals as goal

pub begin-requires-clause-boot : goal.begin-requires-clause-boot
begin-requires-clause-boot g c = boot_is_well_formed c.begun_boots_are_well_formed.ensures c.args.pair c.args.turns c.requires.texts.0 c.requires.texts.1

pub begin-requires-clause-monitor : goal.begin-requires-clause-monitor
begin-requires-clause-monitor g c = monitor_is_well_formed c.begun_monitors_are_well_formed.ensures c.args.pair c.args.turns c.requires.texts.0 c.requires.texts.1

pub begin-requires-clause-hosts : goal.begin-requires-clause-hosts
begin-requires-clause-hosts g c = hosts_serve c.begun_monitors_hosts_serve.ensures c.args.pair c.args.turns c.requires.texts.0 c.requires.texts.1

pub begin-requires-clause-bytes : goal.begin-requires-clause-bytes
begin-requires-clause-bytes g c = input_is_bytes c.args.pair c.args.turns c.requires.texts.0 c.requires.texts.1

pub converse-requires-clause-stand : goal.converse-requires-clause-stand
converse-requires-clause-stand g c =
    let small : c.args.turns < 2 ^ 32 = search rules in (
      slave_of (view_boot c.args.pair.boot),
      alone (monitor_in c.args.pair c.args.turns),
      stand_at c.begun_pairs_are_expected.ensures c.args.pair c.args.turns c.args.window c.in_ok-boot.field-0 c.requires.texts.0 small c.requires.window c.requires.texts.1 c.in_ok-boot.ensures,
    )

pub returns-clause-outcome : goal.returns-clause-outcome
returns-clause-outcome g c = λ t texts.
    let small : c.args.turns < 2 ^ 32 = search rules in
    let at = stand_at c.begun_pairs_are_expected.ensures c.args.pair c.args.turns c.args.window c.in_ok-boot.field-0 t small c.requires.window texts c.in_ok-boot.ensures in
    let run = c.in_ok-written.ensures (slave_of (view_boot c.args.pair.boot)) (alone (monitor_in c.args.pair c.args.turns)) at in
    comes_to c.begun_pairs_are_expected.ensures c.args.pair c.args.turns c.args.window (g.C.Chooser.answers c.args.chooser.now) (g.C.Chooser.answers c.converse.new.chooser) t c.in_ok-written.written.items c.in_ok-written.end
    _ small texts run c.in_ok-boot.ensures.names

pub returns-clause-whole : goal.returns-clause-whole
returns-clause-whole g c = λ t texts.
    let small : c.args.turns < 2 ^ 32 = search rules in
    let at = stand_at c.begun_pairs_are_expected.ensures c.args.pair c.args.turns c.args.window c.in_ok-boot.field-0 t small c.requires.window texts c.in_ok-boot.ensures in
    let run = c.in_ok-written.ensures (slave_of (view_boot c.args.pair.boot)) (alone (monitor_in c.args.pair c.args.turns)) at in
    has_whole c.args.pair c.args.turns c.args.window (g.C.Chooser.answers c.args.chooser.now) (g.C.Chooser.answers c.converse.new.chooser) t c.in_ok-written.written.items c.in_ok-written.end texts run
