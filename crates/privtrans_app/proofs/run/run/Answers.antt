use Rattle.std.proofs.Common.{◌≡◌, ◌∙◌, ℕ, List, Ok, ap, subst}
use Rattle.std.specs.Io.KnownBytes.{Appends, Keeps}
use Rattle.honest_link.specs.Came.{Started}
use Rattle.pair_runner.specs.Sending.{Breaks, Moves}
use Rattle.stages.specs.Climb.{Texts}
use Rattle.stages.specs.declared.refusal.Refusal as code
use Rattle.pair_texts.specs.Seen.{texts_with}
use Rattle.pair_running.specs.SpawnedPairOutcomeSeen.{IsHonestFor, IsServed}
use Rattle.pair_running.specs.SpawnedPairSupervised.{AreUntouched}
use Rattle.pair_running.specs.declared.spawned_pair.outcome.Outcome.TheVariants.{Refused}
use Rattle.pair_running.proofs.SpawnedPairCuts.{honest_cut}
use Rattle.privtrans_app.specs.Comes.{Rests}
use Rattle.privtrans_app.specs.EndingSeen.{ending_seen}
use Rattle.privtrans_app.specs.Gives.{pair_of, text_at}
use Rattle.privtrans_app.specs.Outside.{Outside, folder_told, sink_told}
use Rattle.privtrans_app.specs.ProcessRun.{Answer, IsRun, Serves, ending_of}
use Rattle.privtrans_app.specs.Words.{files_of}
use Rattle.privtrans_app.specs.WordsSeen.{run_seen}
use Rattle.privtrans_app.proofs.HeldLemmas.{Whole, whole_of}
use Rattle.privtrans_app.proofs.ProcessLemmas.{answer_ends, files_run, untouched_keeps}
use Rattle.privtrans_app.proofs.run.run.Goals as goal

pub returns-clause-ending : goal.returns-clause-ending
returns-clause-ending g c = λ b a.
    let s = c.args.spawner.now in
    let s' = c.run-answer.new.spawner in
    let k = c.args.out.now in
    let k' = c.run-answer.new.out in
    let words = c.args.words.now in
    let program : List ℕ = words.names.program.now in
    let host : List ℕ = words.names.host.now in
    let policy : List ℕ = words.names.policy.now in
    let input : List ℕ = words.names.input.now in
    let turns : ℕ = words.turns in
    let answer : Answer = c.run-answer.result in
    let before : Outside = record b { folder = folder_told g.F.Folder.files g.F.Folder.read_faults g.F.Folder.failed_reads g.F.Folder.write_faults c.args.folder.now; out = sink_told g.K.Sink.taken g.K.Sink.faults k; links = g.S.Link.faults s } in
    let after : Outside = record a { folder = folder_told g.F.Folder.files g.F.Folder.read_faults g.F.Folder.failed_reads g.F.Folder.write_faults c.read_all.new.folder; out = sink_told g.K.Sink.taken g.K.Sink.faults k'; links = g.S.Link.faults s' } in
    let untouched = AreUntouched s s' k k' in
    let moves = Moves (Started g.S.Spawner.starts g.S.Link.came g.S.Link.honest g.S.Link.sent g.S.Link.given) g.S.Link.sent g.S.Link.given g.K.Sink.taken s s' k k' in
    let breaks = Breaks g.S.Link.sent g.S.Link.given g.K.Sink.taken s s' k k' in
    let fair = λ (t : Texts) (turns : ℕ). IsHonestFor g.S.Link.honest g.S.Link.sent g.S.Link.given t turns s in
    let writes = λ (bytes : List ℕ). Appends (g.K.Sink.taken k) (g.K.Sink.taken k') bytes in
    let is = IsRun untouched moves breaks writes fair in
    let cut : List (List ℕ) = c.in-Ok.texts.items in
    let w : Whole before.folder.files (files_of (run_seen words)) cut = whole_of before.folder.files (files_of (run_seen words)) cut c.in-Ok.ensures.texts in
    let there : c.text_at.result.now ≡ text_at c.as_slice-texts.result.now 0 = c.text_at.ensures in
    let read : Texts = texts_with c.text_at.result.now c.texts_beside-beside.result in
    let same : read ≡ pair_of cut =
    ap (λ (p : List ℕ). texts_with p c.texts_beside-beside.result) there ∙ c.texts_beside-beside.ensures.texts ∙ ap pair_of c.as_slice-texts.ensures.value in
    let came : is (pair_of cut) turns answer = subst (λ (n : ℕ). is (pair_of cut) n answer) c.texts_beside-beside.ensures.turns
    (subst (λ (t : Texts). is t c.texts_beside-beside.result.turns answer) same (record { served = c.run-answer.ensures.served; expected = c.run-answer.ensures.expected })) in
    let serves : Serves is (run_seen words) before (ending_of answer) =
    files_run untouched moves breaks writes fair (λ whole first turns cuts fair. honest_cut g.S.Link.honest g.S.Link.sent g.S.Link.given whole first turns s cuts fair)
    program host policy input turns before cut answer w came in
    let keeps : (refusal : code.Refusal) → answer ≡ Ok (Refused refusal) → Keeps (g.K.Sink.taken k) (g.K.Sink.taken k') = λ refusal same.
    untouched_keeps g.K.Sink.taken s s' k k' (subst (λ (r : Answer). IsServed untouched moves breaks read c.texts_beside-beside.result.turns r) same c.run-answer.ensures.served).1 in
    let rests : (refusal : code.Refusal) → answer ≡ Ok (Refused refusal) → Rests (run_seen words) before after = λ refusal same.
    record { no_slave = λ is. cc; keeps = keeps refusal same; stay = c.in-Ok.ensures.same } in
    answer_ends (Serves is) (k' ≡ k) program host policy input turns before after answer (ending_seen c.ending_by.result) c.ending_by.ensures rests c.run-answer.ensures.link.cause c.run-answer.ensures.sink.cause serves
