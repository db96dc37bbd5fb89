-- What a call promises, put together.
use Rattle.std.proofs.Common.{◌≡◌, ◌≢◌, ◌∙◌, ℕ, false, List, [], Option, sym, ap, inl, inr}
use Rattle.std.specs.Io.KnownBytes.{Appends, Keeps}
use Rattle.pt_base.proofs.Booleans.{false_true_absurd}
use Rattle.pt_base.specs.Files.{SameFiles}
use Rattle.pt_base.specs.Talk.{Event}
use Rattle.pair_meaning.specs.LinkChoosing.{AreTaken}
use Rattle.pair_texts.specs.Start.{Texts}
use Rattle.privtrans_app.specs.Call.{HasTurned, IsCall, IsLeft, IsUntouched}
use Rattle.privtrans_app.specs.Comes.{Comes, Does}
use Rattle.privtrans_app.specs.Ending.{Ending, status_of, Reports}
use Rattle.privtrans_app.specs.Interleaving.{IsOfRun}
use Rattle.privtrans_app.specs.Once.{CallFailsOnce, FailsOnce, ReadsFail, is_of_fault}
use Rattle.privtrans_app.specs.Outside.{Outside, NeverFall, failures}
use Rattle.privtrans_app.specs.ProcessRun.{IsRun}
use Rattle.privtrans_app.specs.Words.{Command, help, local, gen, serve, split, Never, Says, uses_of}
use Rattle.privtrans_app.proofs.CompleteLemmas.{is_complete, is_generated_run, is_headline, is_headline_of_sessions, is_headline_of_two, is_whole}
use Rattle.privtrans_app.proofs.Decoding.{says_one}
use Rattle.privtrans_app.proofs.SplitLemmas.{same_but}
use Rattle.privtrans_app.proofs.Statuses.{idle_ends, run_ends}

-- ---- what isn't used

-- of the command that the words ask for
pub words_left : (folder out spawner chooser : Type 0) (words : List (List ℕ)) (c : Command) (b a : Outside) (status : ℕ) → Says words c → IsLeft folder out spawner chooser c b a status → IsUntouched folder out spawner chooser words b a status
words_left folder out spawner chooser words c b a status says left = record {
  unwritten = λ never. left.unwritten (never c says);
  unread = λ none. left.unread (none c says);
  silent = λ never. left.silent (never c says);
  unlinked = λ never. left.unlinked (never c says);
  unasked = λ never. left.unasked (never c says);
  others = λ program to_slave to_monitor says'. left.others program to_slave to_monitor (says_one words c (split program to_slave to_monitor) says says');
  idle = left.idle;
}

-- where help alone was written
pub help_left : (folder out spawner chooser : Type 0) (c : Command) (b a : Outside) (status : ℕ) → c ≡ help → folder → spawner → chooser → SameFiles b.folder.files a.folder.files → a.folder.writes ≡ b.folder.writes
    → AreTaken [] b.answers a.answers → IsLeft folder out spawner chooser c b a status
help_left folder out spawner chooser c b a status is f s x stay writes taken = record {
  unwritten = λ none. (stay, writes);
  unread = λ none. f;
  silent = λ none. absurd (false_true_absurd (sym none ∙ ap (λ (d : Command). (uses_of d).out) is));
  unlinked = λ none. s;
  unasked = λ none. x;
  others = λ program to_slave to_monitor split_is. same_but b.folder.files a.folder.files to_slave to_monitor stay;
  idle = λ idle. (taken, s);
}

-- a call that is reported with this status
pub told_untouched : (folder out spawner chooser : Type 0) (words : List (List ℕ)) (b a : Outside) (e : Ending) (status : ℕ) → Reports e b.report.taken a.report.taken b.report.failed a.report.failed status
    → IsUntouched folder out spawner chooser words b a (status_of e) → IsUntouched folder out spawner chooser words b a status
told_untouched folder out spawner chooser words b a e status reports left = record {
  unwritten = left.unwritten;
  unread = left.unread;
  silent = left.silent;
  unlinked = left.unlinked;
  unasked = left.unasked;
  others = left.others;
  idle = λ idle. left.idle (idle_ends e b.report.taken a.report.taken b.report.failed a.report.failed status reports idle);
}

-- ---- how often a call failed

abbrev pub of_want : ℕ → ℕ → ℕ → Type 0
of_want before now status = is_of_fault status ≡ false → status ≢ 12 → now ≡ before

pub call_once : (before now : ℕ) (e : Ending) (report report' : Option (List ℕ)) (failed failed' status : ℕ) → Reports e report report' failed failed' status → FailsOnce before now (status_of e) → CallFailsOnce before now status
call_once before now e report report' failed failed' status reports f = record { once = f.once; quiet = quiet reports }
  where
    quiet : Reports e report report' failed failed' status → of_want before now status
    quiet (inl is) none no_want = f.quiet (ap is_of_fault (sym is.0) ∙ none)
    quiet (inr (inl is)) none no_want = absurd (false_true_absurd (sym none ∙ ap is_of_fault is.0))
    quiet (inr (inr is)) none no_want = absurd (no_want is.0)

-- ---- the whole call

module _ (untouched : Type 0) (moves : List Event → List ℕ → Type 0) (breaks : List ℕ → List ℕ → List ℕ → Type 0) (fair : Texts → ℕ → Type 0) (worked : Ending → Type 0) (same : Type 0)
    (words : List (List ℕ)) (b a : Outside) (status : ℕ) (keeps : untouched → Keeps b.out.taken a.out.taken) where
  abbrev pub CameSo : Ending → Type 0
  CameSo e = Comes (Does (IsRun untouched moves breaks (λ bytes. Appends b.out.taken a.out.taken bytes) fair) worked) same words b a e

  pub is_call : (e : Ending) → CameSo e → Reports e b.report.taken a.report.taken b.report.failed a.report.failed status → (Never (λ u. u.writes_files) words → SameFiles b.folder.files a.folder.files)
      → ((c : Command) → Says words c → HasTurned c b a (status_of e)) → NeverFall b a → FailsOnce (failures b) (failures a) (status_of e) → ReadsFail b.folder.failed a.folder.failed (status_of e)
      → CallFailsOnce b.report.failed a.report.failed status
      → IsCall (IsRun untouched moves breaks (λ bytes. Appends b.out.taken a.out.taken bytes) fair) worked fair same words b a status
  is_call e comes reports stay turned counts once failed report_once = record {
    answer = record { ending = e; comes = comes; reports = reports; once = once; failed = failed };
    complete = is_complete untouched moves breaks fair worked same words b a status keeps stay e reports comes;
    whole = is_whole untouched moves breaks fair worked same words b a status keeps stay e reports comes;
    headline = is_headline untouched moves breaks fair worked same words b a status keeps stay e reports comes;
    headline_of_two = is_headline_of_two untouched moves breaks fair worked same words b a status keeps stay e reports comes;
    interleaving = λ program host policy input turns window says ran. turned (local program host policy input turns window) says (ended ran);
    generated_run = is_generated_run untouched moves breaks fair worked same words b a status keeps stay e reports comes;
    generated_turns = λ seed count says ran. turned (gen seed count) says (ended ran);
    headline_of_sessions = is_headline_of_sessions untouched moves breaks fair worked same words b a status keeps stay e reports comes;
    turns_of_sessions = λ program host policy turns inputs says ran. turned (serve program host policy turns inputs) says (ended ran);
    counts = counts;
    once = call_once (failures b) (failures a) e b.report.taken a.report.taken b.report.failed a.report.failed status reports once;
    report_once = report_once;
  }
    where
      ended : IsOfRun status → IsOfRun (status_of e)
      ended ran = run_ends e b.report.taken a.report.taken b.report.failed a.report.failed status reports ran
