use Rattle.std.proofs.Common.{◌≡◌, map}
use Rattle.honest_link.specs.Came.{Started}
use Rattle.pair_runner.specs.Sending.{Breaks, Moves}
use Rattle.pair_running.specs.SpawnedPairOutcomeSeen.{IsHonestFor}
use Rattle.pair_running.specs.SpawnedPairSupervised.{AreUntouched}
use Rattle.privtrans_app.specs.EndingSeen.{ending_seen}
use Rattle.privtrans_app.specs.Outside.{Outside, SinkTold, folder_told, outside, sink_told}
use Rattle.privtrans_app.specs.SlaveRun.{IsWorkOver}
use Rattle.privtrans_app.proofs.CallLemmas.{is_call, told_untouched}
use Rattle.privtrans_app.proofs.ProcessLemmas.{untouched_keeps}
use Rattle.privtrans_app.proofs.top.privtrans.Goals as goal

pub returns-clause-call : goal.returns-clause-call
returns-clause-call g c =
    let s = c.args.spawner.now in
    let s' = c.ended-ending.new.spawner in
    let k = c.args.out.now in
    let k' = c.ended-ending.new.out in
    let r : SinkTold = sink_told g.E.Sink.taken g.E.Sink.faults c.args.report.now in
    let r' : SinkTold = sink_told g.E.Sink.taken g.E.Sink.faults c.tell.new.sink in
    let b : Outside = outside (folder_told g.F.Folder.files g.F.Folder.read_faults g.F.Folder.failed_reads g.F.Folder.write_faults c.args.folder.now) (sink_told g.K.Sink.taken g.K.Sink.faults k) r
    (g.S.Link.faults s) (g.C.Chooser.answers c.args.chooser.now) in
    let a : Outside = outside (folder_told g.F.Folder.files g.F.Folder.read_faults g.F.Folder.failed_reads g.F.Folder.write_faults c.ended-ending.new.folder) (sink_told g.K.Sink.taken g.K.Sink.faults k') r'
    (g.S.Link.faults s') (g.C.Chooser.answers c.ended-ending.new.chooser) in
    is_call (AreUntouched s s' k k') (Moves (Started g.S.Spawner.starts g.S.Link.came g.S.Link.honest g.S.Link.sent g.S.Link.given) g.S.Link.sent g.S.Link.given g.K.Sink.taken s s' k k')
    (Breaks g.S.Link.sent g.S.Link.given g.K.Sink.taken s s' k k') (λ t turns. IsHonestFor g.S.Link.honest g.S.Link.sent g.S.Link.given t turns s)
    (IsWorkOver g.S.Spawner.inherits g.S.Link.came g.S.Link.sent g.S.Link.given s s') (k' ≡ k) (map (λ w. w.now) c.args.words.now) b a c.tell.result
    (λ is. untouched_keeps g.K.Sink.taken s s' k k' is) (ending_seen c.ended-ending.result) (c.ended-ending.ensures.ending r r') c.tell.ensures.report
    (λ never. ((c.ended-ending.ensures.untouched r r').unwritten never).0) (λ d says. c.ended-ending.ensures.turns r r' d says)
    (record {
      reads = c.ended-ending.ensures.later.0;
      failed = c.ended-ending.ensures.failed.later;
      writes = c.ended-ending.ensures.later.1;
      out = c.ended-ending.ensures.later.2;
      report = c.tell.ensures.later;
      links = c.ended-ending.ensures.later.3;
    }) c.ended-ending.ensures.once c.ended-ending.ensures.failed c.tell.ensures.once

pub returns-clause-untouched : goal.returns-clause-untouched
returns-clause-untouched g c =
    let s = c.args.spawner.now in
    let s' = c.ended-ending.new.spawner in
    let k = c.args.out.now in
    let k' = c.ended-ending.new.out in
    let r : SinkTold = sink_told g.E.Sink.taken g.E.Sink.faults c.args.report.now in
    let r' : SinkTold = sink_told g.E.Sink.taken g.E.Sink.faults c.tell.new.sink in
    let b : Outside = outside (folder_told g.F.Folder.files g.F.Folder.read_faults g.F.Folder.failed_reads g.F.Folder.write_faults c.args.folder.now) (sink_told g.K.Sink.taken g.K.Sink.faults k) r
    (g.S.Link.faults s) (g.C.Chooser.answers c.args.chooser.now) in
    let a : Outside = outside (folder_told g.F.Folder.files g.F.Folder.read_faults g.F.Folder.failed_reads g.F.Folder.write_faults c.ended-ending.new.folder) (sink_told g.K.Sink.taken g.K.Sink.faults k') r'
    (g.S.Link.faults s') (g.C.Chooser.answers c.ended-ending.new.chooser) in
    told_untouched (c.ended-ending.new.folder ≡ c.args.folder.now) (k' ≡ k) (s' ≡ s) (c.ended-ending.new.chooser ≡ c.args.chooser.now) (map (λ w. w.now) c.args.words.now) b a
    (ending_seen c.ended-ending.result) c.tell.result c.tell.ensures.report (c.ended-ending.ensures.untouched r r')
