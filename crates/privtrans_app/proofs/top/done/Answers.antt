use Rattle.std.proofs.Common.{◌≡◌, ℕ, refl, sym, ap, subst, inl}
use Rattle.std.specs.Io.KnownBytes.{Appends}
use Rattle.honest_link.specs.Came.{Started}
use Rattle.pair_runner.specs.Sending.{Breaks, Moves}
use Rattle.stages.specs.Climb.{Texts}
use Rattle.pair_running.specs.SpawnedPairOutcomeSeen.{IsHonestFor}
use Rattle.pair_running.specs.SpawnedPairSupervised.{AreUntouched}
use Rattle.privtrans_app.specs.Call.{HasTurned}
use Rattle.privtrans_app.specs.Comes.{Does}
use Rattle.privtrans_app.specs.Ending.{Ending, status_of}
use Rattle.privtrans_app.specs.EndingSeen.{ending_seen}
use Rattle.privtrans_app.specs.Outside.{Outside, folder_told, outside, sink_told}
use Rattle.privtrans_app.specs.ProcessRun.{Answer, IsRun, Serves}
use Rattle.privtrans_app.specs.SlaveRun.{IsWorkOver}
use Rattle.privtrans_app.specs.Words.{Command}
use Rattle.privtrans_app.specs.WordsSeen.{command_seen, plain_seen, run_seen, split_seen}
use Rattle.privtrans_app.proofs.CallLemmas.{help_left}
use Rattle.privtrans_app.proofs.ComesLemmas.{alone_comes, as_command, comes_more, help_comes, version_comes}
use Rattle.privtrans_app.proofs.ReadingLemmas.{same_refl}
use Rattle.privtrans_app.proofs.Statuses.{none_taken}
use Rattle.privtrans_app.proofs.top.done.Given.{Over}
use Rattle.privtrans_app.proofs.top.done.Goals as goal

-- what a run in two processes is that goes on so
abbrev run_so : (g : Over) → g.row.S.Denot → g.row.S.Denot → g.row.K.Denot → g.row.K.Denot → Texts → ℕ → Answer → Type 0
run_so g s s' k k' = IsRun (AreUntouched s s' k k') (Moves (Started g.S.Spawner.starts g.S.Link.came g.S.Link.honest g.S.Link.sent g.S.Link.given) g.S.Link.sent g.S.Link.given g.K.Sink.taken s s' k k')
    (Breaks g.S.Link.sent g.S.Link.given g.K.Sink.taken s s' k k') (Appends (g.K.Sink.taken k) (g.K.Sink.taken k')) (λ t turns. IsHonestFor g.S.Link.honest g.S.Link.sent g.S.Link.given t turns s)

-- and what a command does with it
abbrev does_so : (g : Over) → g.row.S.Denot → g.row.S.Denot → g.row.K.Denot → g.row.K.Denot → Command → Outside → Ending → Type 0
does_so g s s' k k' = Does (run_so g s s' k k') (IsWorkOver g.S.Spawner.inherits g.S.Link.came g.S.Link.sent g.S.Link.given s s')

pub returns-in-Help-clause-ending : goal.returns-in-Help-clause-ending
returns-in-Help-clause-ending g c = λ report report'.
    help_comes (does_so g c.args.spawner.now c.args.spawner.now c.args.out.now c.put.new.out) _ _ _ _ _ (same_refl (g.F.Folder.files c.args.folder.now)) (ap command_seen c.in-Help.is) c.put.ensures.ending

pub returns-in-Help-clause-untouched : goal.returns-in-Help-clause-untouched
returns-in-Help-clause-untouched g c = λ report report'.
    help_left _ _ _ _ _ _ _ _ (ap command_seen c.in-Help.is) refl refl refl (same_refl (g.F.Folder.files c.args.folder.now)) refl (none_taken (g.C.Chooser.answers c.args.chooser.now))

pub returns-in-Version-clause-ending : goal.returns-in-Version-clause-ending
returns-in-Version-clause-ending g c = λ report report'.
    version_comes (does_so g c.args.spawner.now c.args.spawner.now c.args.out.now c.put-in-Version.new.out) _ _ _ _ _ (same_refl (g.F.Folder.files c.args.folder.now)) (ap command_seen c.in-Version.is) c.put-in-Version.ensures.ending

pub returns-in-Show-clause-ending : goal.returns-in-Show-clause-ending
returns-in-Show-clause-ending g c = λ report report'.
    let s = c.args.spawner.now in
    let does = does_so g s s c.args.out.now c.shown.new.out in
    let same = c.shown.new.out ≡ c.args.out.now in
    let b : Outside = outside (folder_told g.F.Folder.files g.F.Folder.read_faults g.F.Folder.failed_reads g.F.Folder.write_faults c.args.folder.now) (sink_told g.K.Sink.taken g.K.Sink.faults c.args.out.now) report
    (g.S.Link.faults s) (g.C.Chooser.answers c.args.chooser.now) in
    let a : Outside = outside (folder_told g.F.Folder.files g.F.Folder.read_faults g.F.Folder.failed_reads g.F.Folder.write_faults c.shown.new.folder) (sink_told g.K.Sink.taken g.K.Sink.faults c.shown.new.out) report'
    (g.S.Link.faults s) (g.C.Chooser.answers c.shown.new.chooser) in
    as_command does same (command_seen c.args.command.now) (plain_seen c.in-Show.plain) b a (ending_seen c.shown.result) (ap command_seen c.in-Show.is)
    (alone_comes does same same (plain_seen c.in-Show.plain) b a (ending_seen c.shown.result) (λ x. x) (c.shown.ensures.ending b a))

pub returns-in-Show-clause-turns : goal.returns-in-Show-clause-turns
returns-in-Show-clause-turns g c = λ report report'.
    let s = c.args.spawner.now in
    let b : Outside = outside (folder_told g.F.Folder.files g.F.Folder.read_faults g.F.Folder.failed_reads g.F.Folder.write_faults c.args.folder.now) (sink_told g.K.Sink.taken g.K.Sink.faults c.args.out.now) report
    (g.S.Link.faults s) (g.C.Chooser.answers c.args.chooser.now) in
    let a : Outside = outside (folder_told g.F.Folder.files g.F.Folder.read_faults g.F.Folder.failed_reads g.F.Folder.write_faults c.shown.new.folder) (sink_told g.K.Sink.taken g.K.Sink.faults c.shown.new.out) report'
    (g.S.Link.faults s) (g.C.Chooser.answers c.shown.new.chooser) in
    subst (λ (d : Command). HasTurned d b a (status_of (ending_seen c.shown.result))) (sym (ap command_seen c.in-Show.is)) (c.shown.ensures.turns b a)

pub returns-in-Run-clause-ending : goal.returns-in-Run-clause-ending
returns-in-Run-clause-ending g c = λ report report'.
    let s = c.args.spawner.now in
    let s' = c.run.new.spawner in
    let k = c.args.out.now in
    let k' = c.run.new.out in
    let does = does_so g s s' k k' in
    let same = k' ≡ k in
    let words = c.in-Run.words in
    let b : Outside = outside (folder_told g.F.Folder.files g.F.Folder.read_faults g.F.Folder.failed_reads g.F.Folder.write_faults c.args.folder.now) (sink_told g.K.Sink.taken g.K.Sink.faults c.args.out.now) report
    (g.S.Link.faults s) (g.C.Chooser.answers c.args.chooser.now) in
    let a : Outside = outside (folder_told g.F.Folder.files g.F.Folder.read_faults g.F.Folder.failed_reads g.F.Folder.write_faults c.run.new.folder) (sink_told g.K.Sink.taken g.K.Sink.faults k') report'
    (g.S.Link.faults s') (g.C.Chooser.answers c.args.chooser.now) in
    as_command does same (command_seen c.args.command.now) (run_seen words) b a (ending_seen c.run.result) (ap command_seen c.in-Run.is)
    (comes_more (Serves (run_so g s s' k k')) does same same (run_seen words) b a (λ e x. inl x) (λ x. x) (ending_seen c.run.result) (c.run.ensures.ending b a))

pub returns-in-Split-clause-ending : goal.returns-in-Split-clause-ending
returns-in-Split-clause-ending g c = λ report report'.
    let s = c.args.spawner.now in
    let k = c.args.out.now in
    let does = does_so g s s k k in
    let words = c.in-Split.words in
    let b : Outside = outside (folder_told g.F.Folder.files g.F.Folder.read_faults g.F.Folder.failed_reads g.F.Folder.write_faults c.args.folder.now) (sink_told g.K.Sink.taken g.K.Sink.faults c.args.out.now) report
    (g.S.Link.faults s) (g.C.Chooser.answers c.args.chooser.now) in
    let a : Outside = outside (folder_told g.F.Folder.files g.F.Folder.read_faults g.F.Folder.failed_reads g.F.Folder.write_faults c.split.new.folder) (sink_told g.K.Sink.taken g.K.Sink.faults k) report'
    (g.S.Link.faults s) (g.C.Chooser.answers c.args.chooser.now) in
    as_command does (k ≡ k) (command_seen c.args.command.now) (split_seen words) b a (ending_seen c.split.result) (ap command_seen c.in-Split.is)
    (alone_comes does (Unit {0}) (k ≡ k) (split_seen words) b a (ending_seen c.split.result) (λ x. refl) (c.split.ensures.ending b a))
