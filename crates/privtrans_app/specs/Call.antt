-- What the top call promises. `b` is what the outside told before it, and `a` behind.
use Rattle.std.specs.Prelude.{◌≡◌, ◌⊎◌, ⊤, ℕ, true, false, List, [], Some, None}
use Rattle.runs.specs.Run.{Expected}
use Rattle.typed_tree.specs.TypedTree.{TypedTree}
use Rattle.pt_base.specs.Files.{Files, SameFiles}
use Rattle.front_end.specs.FaultLinesSeen.{Seen}
use Rattle.pair_meaning.specs.LinkChoosing.{AreTaken}
use Rattle.stages.specs.Climb.{Texts}
use Rattle.pair_running.specs.LocalPairLocal.{IsExpected}
use Rattle.pair_running.specs.GeneratedPairGenerated as made
use Rattle.pair_running.specs.ServedPairsServed.{AreExpected}
use Rattle.privtrans_app.specs.Comes.{Comes, Does}
use Rattle.privtrans_app.specs.Ending.{Ending, status_of, EndsWith, Reports, StaysDown}
use Rattle.privtrans_app.specs.Gives.{Gives, generated_of, inputs_of, pair_of, shared_of, shown_of}
use Rattle.privtrans_app.specs.Held.{AreKnown, IsReached}
use Rattle.privtrans_app.specs.Interleaving.{AreInterleaved, IsGeneratedInterleaved, IsInterleaved, IsOfNoRun, IsOfRun}
use Rattle.privtrans_app.specs.Once.{CallFailsOnce, FailsOnce, ReadsFail}
use Rattle.privtrans_app.specs.Outside.{Outside, AreSeen, GoesWell, NeverFall, failures}
use Rattle.privtrans_app.specs.ProcessRun.{Answer}
use Rattle.privtrans_app.specs.Sessions.{served_of}
use Rattle.privtrans_app.specs.SplitRun.{Leaves, SameBut}
use Rattle.privtrans_app.specs.Words.{Command, help, version, check, explain, outline, picture, explain_pair, orig, local, run, split, slave, gen, serve, audit, IsUsage, NameNone, Never, Says, files_of, uses_of}

-- The call comes to an ending, only where the words, the files, the outside and what the link gave have its cause, and reports it. Of the
-- calls of folder, out and link one at most failed, and none where the ending tells of no fault of the outside; and a read failed only
-- where it is told as one that did.
pub record IsAnswered (does : Command → Outside → Ending → Type 0) (same : Type 0) (words : List (List ℕ)) (b a : Outside) (status : ℕ) : Type 0 where
  pub ending : Ending
  pub comes : Comes does same words b a ending
  pub reports : Reports ending b.report.taken a.report.taken b.report.failed a.report.failed status
  pub once : FailsOnce (failures b) (failures a) (status_of ending)
  pub failed : ReadsFail b.folder.failed a.folder.failed (status_of ending)

-- Where nothing failed, the status is that of what the words and the files lead to, or 12: 1 for words that ask for nothing, 2 where a file
-- isn't held, else that of what is seen of the texts.
pub record IsComplete (words : List (List ℕ)) (b a : Outside) (status : ℕ) : Type 0 where
  pub usage : StaysDown b.report.failed a.report.failed → IsUsage words → EndsWith status 1
  pub missing : (c : Command) (files : Files) (name : List ℕ) → Says words c → GoesWell c b a → b.folder.files ≡ Some files
      → IsReached c (Some files) name → files name ≡ None → EndsWith status 2
  pub shown : (c : Command) (texts : List (List ℕ)) (s : Seen) → Says words c → GoesWell c b a → AreKnown b.folder.files (files_of c) texts
      → Gives c texts s → EndsWith status s.status

-- And all that is seen is what the files' texts give, or memory was wanting. Of a run in two processes it is so where a stage has faults.
abbrev pub IsWhole : List (List ℕ) → Outside → Outside → ℕ → Type 0
IsWhole words b a status = (c : Command) (texts : List (List ℕ)) → Says words c → GoesWell c b a → AreKnown b.folder.files (files_of c) texts
    → ((uses_of c).link ≡ true → (s : Seen) × Gives c texts s)
    → (status ≡ 12) ⊎ ((s : Seen) × Gives c texts s × AreSeen s b a status × Leaves c texts b.folder.files a.folder.files s)

-- The headline. Where nothing failed: of files that hold a program that breaks no rule of flows, with a host table, a policy and an
-- input, both halves together write what is expected of the program itself under the policy within the budget, and the report and the
-- status say that it ended as is expected; or memory was wanting.
abbrev pub IsHeadline : List (List ℕ) → Outside → Outside → ℕ → Type 0
IsHeadline words b a status = (program host policy input : List ℕ) (turns window : ℕ) (texts : List (List ℕ)) (tree : TypedTree) (e : Expected)
    → Says words (local program host policy input turns window) → GoesWell (local program host policy input turns window) b a
    → AreKnown b.folder.files (files_of (local program host policy input turns window)) texts → IsExpected (pair_of texts) turns tree e
    → (status ≡ 12) ⊎ AreSeen (shown_of tree e) b a status

-- The same of the halves in two processes, where moreover the link had no fault and the spawner is fair to these texts.
abbrev pub IsHeadlineOfTwo : (Texts → ℕ → Type 0) → List (List ℕ) → Outside → Outside → ℕ → Type 0
IsHeadlineOfTwo fair words b a status = (program host policy input : List ℕ) (turns : ℕ) (texts : List (List ℕ)) (tree : TypedTree) (e : Expected)
    → Says words (run program host policy input turns) → GoesWell (run program host policy input turns) b a → StaysDown b.links a.links
    → AreKnown b.folder.files (files_of (run program host policy input turns)) texts → fair (pair_of texts) turns → IsExpected (pair_of texts) turns tree e
    → (status ≡ 12) ⊎ AreSeen (shown_of tree e) b a status

-- Whatever failed: where a run of both halves in one process came to its end, out's new bytes are what the steps of a slave and a monitor
-- write that go on one by one as the answers say that were taken from the chooser, to the last one.
abbrev pub IsInLine : List (List ℕ) → Outside → Outside → ℕ → Type 0
IsInLine words b a status = (program host policy input : List ℕ) (turns window : ℕ) → Says words (local program host policy input turns window) → IsOfRun status
    → IsInterleaved (local program host policy input turns window) turns window b a

-- Of a generated program, where no stage of its texts has a fault, what is expected of them is seen: where main is expected to return, the
-- line with the lengths of the program and of the bytes that are expected.
abbrev pub IsGeneratedRun : List (List ℕ) → Outside → Outside → ℕ → Type 0
IsGeneratedRun words b a status = (seed count : ℕ) (tree : TypedTree) (e : Expected) → Says words (gen seed count) → GoesWell (gen seed count) b a
    → IsExpected (made.texts_of seed count) made.turns tree e → (status ≡ 12) ⊎ AreSeen (generated_of seed count tree e) b a status

-- whatever failed: where both its halves came to their end, they went on as the answers say that were taken from the chooser
abbrev pub IsGeneratedInLine : List (List ℕ) → Outside → Outside → ℕ → Type 0
IsGeneratedInLine words b a status = (seed count : ℕ) → Says words (gen seed count) → IsOfRun status → IsGeneratedInterleaved seed count b a

-- The headline of sessions. Where nothing failed: of files that hold a program that breaks no rule of flows, with a host table, a policy and
-- some inputs, each session writes what is expected of the program with its input, and the report says that it ended as is expected; or
-- memory was wanting.
abbrev pub IsHeadlineOfSessions : List (List ℕ) → Outside → Outside → ℕ → Type 0
IsHeadlineOfSessions words b a status = (program host policy : List ℕ) (turns : ℕ) (inputs texts : List (List ℕ)) (tree : TypedTree) (es : List Expected)
    → Says words (serve program host policy turns inputs) → GoesWell (serve program host policy turns inputs) b a
    → AreKnown b.folder.files (files_of (serve program host policy turns inputs)) texts → AreExpected (shared_of texts) turns tree (inputs_of texts) es
    → (status ≡ 12) ⊎ AreSeen (served_of tree es) b a status

-- whatever failed: where sessions came to their ends, they went on turn by turn as the answers say that were taken from the chooser
abbrev pub AreInTurns : List (List ℕ) → Outside → Outside → ℕ → Type 0
AreInTurns words b a status = (program host policy : List ℕ) (turns : ℕ) (inputs : List (List ℕ)) → Says words (serve program host policy turns inputs) → IsOfRun status
    → AreInterleaved (serve program host policy turns inputs) turns b a

-- all at once, by the command
abbrev pub HasTurned : Command → Outside → Outside → ℕ → Type 0
HasTurned help b a status = ⊤
HasTurned version b a status = ⊤
HasTurned (check program) b a status = ⊤
HasTurned (explain program) b a status = ⊤
HasTurned (outline program) b a status = ⊤
HasTurned (picture program) b a status = ⊤
HasTurned (explain_pair program host policy) b a status = ⊤
HasTurned (orig program host input turns) b a status = ⊤
HasTurned (local program host policy input turns window) b a status = IsOfRun status → IsInterleaved (local program host policy input turns window) turns window b a
HasTurned (run program host policy input turns) b a status = ⊤
HasTurned (split program to_slave to_monitor) b a status = ⊤
HasTurned slave b a status = ⊤
HasTurned (gen seed count) b a status = IsOfRun status → IsGeneratedInterleaved seed count b a
HasTurned (serve program host policy turns inputs) b a status = IsOfRun status → AreInterleaved (serve program host policy turns inputs) turns b a
HasTurned (audit program) b a status = ⊤

-- All of it. `served` says what texts come to that run in two processes, `worked` what a slave's work does, and `fair` for which texts the
-- spawner is honest; `same` says that out is as it was.
pub record IsCall (served : Texts → ℕ → Answer → Type 0) (worked : Ending → Type 0) (fair : Texts → ℕ → Type 0) (same : Type 0) (words : List (List ℕ)) (b a : Outside) (status : ℕ) : Type 0 where
  pub answer : IsAnswered (Does served worked) same words b a status
  pub complete : IsComplete words b a status
  pub whole : IsWhole words b a status
  pub headline : IsHeadline words b a status
  pub headline_of_two : IsHeadlineOfTwo fair words b a status
  pub interleaving : IsInLine words b a status
  pub generated_run : IsGeneratedRun words b a status
  pub generated_turns : IsGeneratedInLine words b a status
  pub headline_of_sessions : IsHeadlineOfSessions words b a status
  pub turns_of_sessions : AreInTurns words b a status
  pub counts : NeverFall b a
  -- of all reads and writes of the folder, writes to out and calls of the link together one at most fails, and of the writes of the
  -- report one; none does where the status tells of no fault of the outside, nor that memory was wanting
  pub once : CallFailsOnce (failures b) (failures a) status
  pub report_once : CallFailsOnce b.report.failed a.report.failed status

-- What this command doesn't use stays as it is: `folder`, `out`, `spawner` and `chooser` say so of each whole.
pub record IsLeft (folder out spawner chooser : Type 0) (c : Command) (b a : Outside) (status : ℕ) : Type 0 where
  pub unwritten : (uses_of c).writes_files ≡ false → SameFiles b.folder.files a.folder.files × (a.folder.writes ≡ b.folder.writes)
  pub unread : files_of c ≡ [] → folder
  pub silent : (uses_of c).out ≡ false → out
  pub unlinked : (uses_of c).link ≡ false → spawner
  pub unasked : (uses_of c).chooser ≡ false → chooser
  pub others : (program to_slave to_monitor : List ℕ) → c ≡ split program to_slave to_monitor → SameBut b.folder.files a.folder.files to_slave to_monitor
  pub idle : IsOfNoRun status → AreTaken [] b.answers a.answers × spawner

-- What the words' command doesn't use stays as it is: `folder`, `out`, `spawner` and `chooser` say so of each whole. A split writes no file but its
-- two, and where nothing runs, no answer is taken and the spawner isn't used.
pub record IsUntouched (folder out spawner chooser : Type 0) (words : List (List ℕ)) (b a : Outside) (status : ℕ) : Type 0 where
  pub unwritten : Never (λ u. u.writes_files) words → SameFiles b.folder.files a.folder.files × (a.folder.writes ≡ b.folder.writes)
  pub unread : NameNone words → folder
  pub silent : Never (λ u. u.out) words → out
  pub unlinked : Never (λ u. u.link) words → spawner
  pub unasked : Never (λ u. u.chooser) words → chooser
  pub others : (program to_slave to_monitor : List ℕ) → Says words (split program to_slave to_monitor) → SameBut b.folder.files a.folder.files to_slave to_monitor
  pub idle : IsOfNoRun status → AreTaken [] b.answers a.answers × spawner
