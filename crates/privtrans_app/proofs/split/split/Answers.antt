use Rattle.std.proofs.Common.{◌≡◌, ◌∙◌, ℕ, List, [], ◌∷◌, Option, refl, sym, ap, subst, inl, inr}
use Rattle.std.specs.Io.KnownBytes.{Appends, Keeps}
use Rattle.pt_base.specs.Files.{SameFiles}
use Rattle.pair_runner.proofs.Parts.{keeps_nil}
use Rattle.stages.specs.Climb.{alone, flows}
use Rattle.stages.specs.Seen.{IsStop, view_refusal}
use Rattle.stages.specs.declared.refusal.Stop.{Stop}
use Rattle.stages.specs.declared.refusal.Stop.TheVariants as stop
use Rattle.stages.specs.declared.refusal.Stop.TheVariants.{Refused}
use Rattle.program_split.specs.Split.{IsSplit}
use Rattle.privtrans_app.specs.Comes.{ComesAlone}
use Rattle.privtrans_app.specs.Ending.{Ending, memory}
use Rattle.privtrans_app.specs.EndingSeen.{IsStopped, ending_seen}
use Rattle.privtrans_app.specs.Gives.{program_in, text_at}
use Rattle.privtrans_app.specs.Outside.{Outside, folder_told}
use Rattle.privtrans_app.specs.SplitRun.{AreWritten}
use Rattle.privtrans_app.specs.Words.{files_of}
use Rattle.privtrans_app.specs.WordsSeen.{split_seen}
use Rattle.privtrans_app.specs.declared.words.SplitWords.{SplitWords}
use Rattle.privtrans_app.proofs.ComesLemmas.{keeps_same, memory_comes}
use Rattle.privtrans_app.proofs.HeldLemmas.{Whole, whole_of}
use Rattle.privtrans_app.proofs.SplitLemmas.{faults_come, halves_come}
use Rattle.privtrans_app.proofs.split.split.Goals as goal

nothing : (o : Option (List ℕ)) → Appends o o []
nothing o = keeps_nil o o (keeps_same o)

-- what stages stop, with the lines of the refusal or for want of memory
module _ (words : SplitWords) (b a : Outside) (cut : List (List ℕ)) (w : Whole b.folder.files (files_of (split_seen words)) cut) (none : Appends b.out.taken a.out.taken []) (keeps : Keeps b.out.taken a.out.taken)
    (stay : SameFiles b.folder.files a.folder.files) where
  abbrev CameSo : Ending → Type 0
  CameSo e = ComesAlone (Unit {0}) (split_seen words) b a e

  wants : (e : Ending) → e ≡ memory → CameSo e
  wants e is = subst CameSo (sym is) (memory_comes (λ c b e. ⊥) (Unit {0}) (split_seen words) b a (λ is. cc) tt keeps stay)

  stops_come : (s : Stop) (e : Ending) → IsStop (flows ∷ []) (program_in cut) s → IsStopped s e → CameSo e
  stops_come (Refused refusal) e stops (inl is) = subst CameSo (sym is) (faults_come words b a cut w none (view_refusal refusal) stops stay)
  stops_come (Refused refusal) e stops (inr is) = wants e is
  stops_come stop.Memory e stops is = wants e is

pub returns-in-Ok-split-clause-ending : goal.returns-in-Ok-split-clause-ending
returns-in-Ok-split-clause-ending g c = λ b a.
    let before : Outside = record b { folder = folder_told g.F.Folder.files g.F.Folder.read_faults g.F.Folder.failed_reads g.F.Folder.write_faults c.args.folder.now } in
    let after : Outside = record a { folder = folder_told g.F.Folder.files g.F.Folder.read_faults g.F.Folder.failed_reads g.F.Folder.write_faults c.write_halves.new.folder; out = b.out } in
    let mid = g.F.Folder.files c.read_all.new.folder in
    let w1 : ℕ = g.F.Folder.write_faults c.read_all.new.folder in
    let w2 : ℕ = g.F.Folder.write_faults c.write_halves.new.folder in
    let cut : List (List ℕ) = c.in-Ok.texts.items in
    let low : List ℕ = c.in-Ok-split.field-0.slave.items in
    let high : List ℕ = c.in-Ok-split.field-0.monitor.items in
    let w : Whole before.folder.files (files_of (split_seen c.args.words.now)) cut = whole_of before.folder.files (files_of (split_seen c.args.words.now)) cut c.in-Ok.ensures.texts in
    let there : c.text_at.result.now ≡ text_at cut 0 = c.text_at.ensures ∙ ap (λ (ts : List (List ℕ)). text_at ts 0) c.as_slice.ensures.value in
    let has : IsSplit (program_in cut) (record { slave = low; monitor = high }) =
    subst (λ (text : List ℕ). IsSplit (alone text) (record { slave = low; monitor = high })) there c.in-Ok-split.ensures in
    let written : AreWritten c.args.words.now mid (g.F.Folder.files c.write_halves.new.folder) w1 w2 low high (ending_seen c.write_halves.result) =
    subst (λ (x : List ℕ). AreWritten c.args.words.now mid (g.F.Folder.files c.write_halves.new.folder) w1 w2 x high (ending_seen c.write_halves.result)) c.as_slice-in-Ok-split.ensures.value
    (subst (λ (x : List ℕ). AreWritten c.args.words.now mid (g.F.Folder.files c.write_halves.new.folder) w1 w2 c.as_slice-in-Ok-split.result.now x (ending_seen c.write_halves.result)) c.as_slice-in-Ok-split-2.ensures.value c.write_halves.ensures.ending) in
    halves_come c.args.words.now before after cut w (nothing b.out.taken) mid low high (g.F.Folder.write_faults c.args.folder.now) w1 w2 has c.in-Ok.ensures.same c.in-Ok.ensures.writes refl refl
    (ending_seen c.write_halves.result) written

pub returns-clause-ending : goal.returns-clause-ending
returns-clause-ending g c = λ b a.
    let before : Outside = record b { folder = folder_told g.F.Folder.files g.F.Folder.read_faults g.F.Folder.failed_reads g.F.Folder.write_faults c.args.folder.now } in
    let after : Outside = record a { folder = folder_told g.F.Folder.files g.F.Folder.read_faults g.F.Folder.failed_reads g.F.Folder.write_faults c.read_all.new.folder; out = b.out } in
    let cut : List (List ℕ) = c.in-Ok.texts.items in
    let w : Whole before.folder.files (files_of (split_seen c.args.words.now)) cut = whole_of before.folder.files (files_of (split_seen c.args.words.now)) cut c.in-Ok.ensures.texts in
    let there : c.text_at.result.now ≡ text_at cut 0 = c.text_at.ensures ∙ ap (λ (ts : List (List ℕ)). text_at ts 0) c.as_slice.ensures.value in
    stops_come c.args.words.now before after cut w (nothing b.out.taken) (keeps_same b.out.taken) c.in-Ok.ensures.same c.in-Err-split.stop (ending_seen c.stopped.result)
    (subst (λ (text : List ℕ). IsStop (flows ∷ []) (alone text) c.in-Err-split.stop) there c.in-Err-split.ensures) c.stopped.ensures
