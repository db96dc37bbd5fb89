use Rattle.std.proofs.Common.{◌≡◌, map, subst, inr}
use Rattle.privtrans_app.specs.Call.{HasTurned}
use Rattle.privtrans_app.specs.Ending.{status_of}
use Rattle.privtrans_app.specs.EndingSeen.{ending_seen}
use Rattle.privtrans_app.specs.Outside.{Outside, folder_told, outside, sink_told}
use Rattle.privtrans_app.specs.Words.{Command}
use Rattle.privtrans_app.specs.WordsSeen.{command_seen}
use Rattle.privtrans_app.proofs.CallLemmas.{words_left}
use Rattle.privtrans_app.proofs.Decoding.{says_one}
use Rattle.privtrans_app.proofs.top.ended.Goals as goal

pub returns-in-Some-clause-ending : goal.returns-in-Some-clause-ending
returns-in-Some-clause-ending g c = λ report report'. inr (command_seen c.in-Some.command, c.in-Some.ensures, c.done.ensures.ending report report')

pub returns-in-Some-clause-turns : goal.returns-in-Some-clause-turns
returns-in-Some-clause-turns g c = λ report report' d says.
    let b : Outside = outside (folder_told g.F.Folder.files g.F.Folder.read_faults g.F.Folder.failed_reads g.F.Folder.write_faults c.args.folder.now) (sink_told g.K.Sink.taken g.K.Sink.faults c.args.out.now) report
    (g.S.Link.faults c.args.spawner.now) (g.C.Chooser.answers c.args.chooser.now) in
    let a : Outside = outside (folder_told g.F.Folder.files g.F.Folder.read_faults g.F.Folder.failed_reads g.F.Folder.write_faults c.done.new.folder) (sink_told g.K.Sink.taken g.K.Sink.faults c.done.new.out) report'
    (g.S.Link.faults c.done.new.spawner) (g.C.Chooser.answers c.done.new.chooser) in
    subst (λ (x : Command). HasTurned x b a (status_of (ending_seen c.done.result))) (says_one (map (λ w. w.now) c.args.words.now) (command_seen c.in-Some.command) d c.in-Some.ensures says)
    (c.done.ensures.turns report report')

pub returns-in-Some-clause-untouched : goal.returns-in-Some-clause-untouched
returns-in-Some-clause-untouched g c = λ report report'.
    let b : Outside = outside (folder_told g.F.Folder.files g.F.Folder.read_faults g.F.Folder.failed_reads g.F.Folder.write_faults c.args.folder.now) (sink_told g.K.Sink.taken g.K.Sink.faults c.args.out.now) report
    (g.S.Link.faults c.args.spawner.now) (g.C.Chooser.answers c.args.chooser.now) in
    let a : Outside = outside (folder_told g.F.Folder.files g.F.Folder.read_faults g.F.Folder.failed_reads g.F.Folder.write_faults c.done.new.folder) (sink_told g.K.Sink.taken g.K.Sink.faults c.done.new.out) report'
    (g.S.Link.faults c.done.new.spawner) (g.C.Chooser.answers c.done.new.chooser) in
    words_left (c.done.new.folder ≡ c.args.folder.now) (c.done.new.out ≡ c.args.out.now) (c.done.new.spawner ≡ c.args.spawner.now) (c.done.new.chooser ≡ c.args.chooser.now)
    (map (λ w. w.now) c.args.words.now) (command_seen c.in-Some.command) b a (status_of (ending_seen c.done.result)) c.in-Some.ensures (c.done.ensures.untouched report report')
