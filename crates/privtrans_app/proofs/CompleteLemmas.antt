-- Where nothing failed, a call has the status of its words and files, and tells what the files' texts give.
use Rattle.std.proofs.Common.{◌≡◌, ◌≢◌, ◌∙◌, ◌⊎◌, ℕ, true, false, List, [], ◌∷◌, ◌++◌, Option, Some, None, refl, sym, ap, subst, inl, inr, arith}
use Rattle.std.specs.Io.KnownBytes.{Appends, Keeps}
use Rattle.pt_base.proofs.Booleans.{false_true_absurd}
use Rattle.pt_base.specs.Faults.{Rose}
use Rattle.pt_base.specs.Files.{Files, Lacks, SameFiles}
use Rattle.pt_base.specs.Talk.{Event}
use Rattle.front_end.specs.FaultLinesSeen.{Seen}
use Rattle.runs.specs.Run.{Expected}
use Rattle.typed_tree.specs.TypedTree.{TypedTree}
use Rattle.stages.specs.Climb.{Texts}
use Rattle.pair_running.specs.LocalPairLocal.{IsExpected}
use Rattle.privtrans_app.specs.Call.{IsComplete, IsGeneratedRun, IsHeadline, IsHeadlineOfSessions, IsHeadlineOfTwo, IsWhole}
use Rattle.privtrans_app.specs.Comes.{Comes, ComesTo, Does, HasShown}
use Rattle.privtrans_app.specs.Ending.{Ending, told, usage, missing, read_fault, write_fault, link_fault, bad_peer, peer_ended, memory, status_of, EndsWith, Reports, StaysDown}
use Rattle.privtrans_app.specs.Gives.{Gives, generated_of, inputs_of, pair_of, shared_of, shown_of}
use Rattle.privtrans_app.specs.Held.{AreHeld, AreKnown, IsReached}
use Rattle.privtrans_app.specs.Outside.{Outside, AreSeen, GoesWell}
use Rattle.privtrans_app.specs.ProcessRun.{Answer, IsRun, Serves}
use Rattle.privtrans_app.specs.Sessions.{ServesAll, served_of}
use Rattle.privtrans_app.specs.SplitRun.{Leaves, StopsWriting}
use Rattle.privtrans_app.specs.Words.{Command, local, run, slave, gen, serve, IsUsage, Never, Says, files_of, uses_of}
use Rattle.privtrans_app.proofs.Decoding.{says_one}
use Rattle.privtrans_app.proofs.GivenLemmas.{IsMadeSeen, IsPairSeen, expected_seen, generated_seen, sessions_seen}
use Rattle.privtrans_app.proofs.HeldLemmas.{not_lacking, same_texts}
use Rattle.privtrans_app.proofs.SeenLemmas.{status_is_one}
use Rattle.privtrans_app.proofs.ProcessLemmas.{AreFaultsOf, IsTold, Reported, faults_told, pair_told}
use Rattle.privtrans_app.proofs.Statuses.{memory_of, told_status}

-- ---- commands apart

true_or_false : true ≡ false → ⊥
true_or_false same = false_true_absurd (sym same)

run_or_slave : (program host policy input : List ℕ) (turns : ℕ) → run program host policy input turns ≡ slave → ⊥
run_or_slave program host policy input turns same = cc

turns_are : (program host policy input program' host' policy' input' : List ℕ) (turns turns' : ℕ) → run program host policy input turns ≡ run program' host' policy' input' turns' → turns' ≡ turns
turns_are program host policy input program' host' policy' input' turns turns' same = cc

-- a command with a file of this name reads some
some_files : (before after : List (List ℕ)) (name : List ℕ) → before ++ name ∷ after ≡ [] → ⊥
some_files [] after name none = cc
some_files (other ∷ before) after name none = cc

reads_some : (c : Command) (files : Option Files) (name : List ℕ) → IsReached c files name → files_of c ≢ []
reads_some c files name reached none = some_files reached.before reached.after name (sym reached.are ∙ none)

-- a split writes files
split_writes : (c : Command) (files files' : Option Files) → StopsWriting c files files' → (uses_of c).writes_files ≡ true
split_writes c files files' stops = ap (λ (d : Command). (uses_of d).writes_files) stops.is

-- what words ask for uses what their command does
pub never_by : (words : List (List ℕ)) (c : Command) → Says words c → (uses_of c).writes_files ≡ false → Never (λ u. u.writes_files) words
never_by words c says none d says' = subst (λ (x : Command). (uses_of x).writes_files ≡ false) (says_one words c d says says') none

-- ---- one call

module _ (untouched : Type 0) (moves : List Event → List ℕ → Type 0) (breaks : List ℕ → List ℕ → List ℕ → Type 0) (fair : Texts → ℕ → Type 0) (worked : Ending → Type 0) (same : Type 0)
    (words : List (List ℕ)) (b a : Outside) (status : ℕ) (keeps : untouched → Keeps b.out.taken a.out.taken) (stay : Never (λ u. u.writes_files) words → SameFiles b.folder.files a.folder.files)
    (e : Ending) (reports : Reports e b.report.taken a.report.taken b.report.failed a.report.failed status) where
  abbrev Served : Texts → ℕ → Answer → Type 0
  Served = IsRun untouched moves breaks (λ bytes. Appends b.out.taken a.out.taken bytes) fair

  abbrev IsDone : Command → Outside → Ending → Type 0
  IsDone = Does Served worked

  -- the command comes to it
  abbrev CameTo : Command → Ending → Type 0
  CameTo c x = ComesTo IsDone same c b a x

  abbrev Tells : Ending → Type 0
  Tells x = Reports x b.report.taken a.report.taken b.report.failed a.report.failed status

  ends : StaysDown b.report.failed a.report.failed → (n : ℕ) → status_of e ≡ n → EndsWith status n
  ends down n is = subst (EndsWith status) is (told_status e b.report.taken a.report.taken b.report.failed a.report.failed status reports down)

  -- words that ask for a command come to what it does
  by_command : (c : Command) → Says words c → Comes IsDone same words b a e → CameTo c e
  by_command c says (inl x) = absurd (x.0 c says)
  by_command c says (inr (d, says', comes)) = subst (λ (x : Command). CameTo x e) (says_one words d c says' says) comes

  pub by_usage : StaysDown b.report.failed a.report.failed → IsUsage words → Comes IsDone same words b a e → EndsWith status 1
  by_usage down none (inl x) = ends down 1 (ap status_of x.1)
  by_usage down none (inr x) = absurd (none x.0 x.1)

  -- ---- a file that isn't held

  module _ (c : Command) (files : Files) (name : List ℕ) (goes : GoesWell c b a) (are : b.folder.files ≡ Some files) (reached : IsReached c (Some files) name) (lacks : files name ≡ None) where
    held_not : (texts : List (List ℕ)) → AreHeld b.folder.files (files_of c) texts → ⊥
    held_not texts held = not_lacking c files name texts (subst (λ (f : Option Files). AreHeld f (files_of c) texts) are held) reached lacks

    reads_not : Rose b.folder.reads a.folder.reads → ⊥
    reads_not rose = goes.reads (reads_some c (Some files) name reached) rose

    slave_not : c ≡ slave → ⊥
    slave_not is = reads_some c (Some files) name reached (ap files_of is)

    does_not : (x : Ending) → IsDone c b x → ⊥
    does_not x (inl serves) = held_not serves.texts serves.held
    does_not x (inr slaves) = slave_not slaves.0

    lacking : (x : Ending) → Tells x → CameTo c x → EndsWith status 2
    lacking (told report n) tells (inl x) = absurd (held_not x.texts x.held)
    lacking (told report n) tells (inr x) = absurd (does_not (told report n) x)
    lacking usage tells comes = absurd comes
    lacking (missing other) tells comes = told_status (missing other) b.report.taken a.report.taken b.report.failed a.report.failed status tells goes.report
    lacking (read_fault other) tells comes = absurd (reads_not comes.1)
    lacking write_fault tells (inl (uses, rose, x)) = absurd (goes.out uses rose)
    lacking write_fault tells (inr (rose, x)) = absurd (goes.writes (split_writes c b.folder.files a.folder.files x) rose)
    lacking link_fault tells comes = absurd (does_not link_fault comes.1)
    lacking (bad_peer rule offset) tells comes = absurd (does_not (bad_peer rule offset) comes)
    lacking peer_ended tells comes = absurd (does_not peer_ended comes)
    lacking memory tells comes = memory_of status 2 (told_status memory b.report.taken a.report.taken b.report.failed a.report.failed status tells goes.report)

  -- ---- files that are held

  reported : StaysDown b.report.failed a.report.failed → (x : Ending) → Tells x → Reported x b.report.taken a.report.taken status
  reported down x (inl is) = inl is
  reported down x (inr (inl is)) = absurd (down is.2)
  reported down x (inr (inr is)) = inr is.0

  wants : StaysDown b.report.failed a.report.failed → Tells memory → status ≡ 12
  wants down (inl is) = is.0
  wants down (inr (inl is)) = absurd (is.1 refl)
  wants down (inr (inr is)) = is.0

  module _ (c : Command) (texts : List (List ℕ)) (says : Says words c) (goes : GoesWell c b a) (known : AreKnown b.folder.files (files_of c) texts) where
    abbrev Tolds : Type 0
    Tolds = (status ≡ 12) ⊎ ((s : Seen) × Gives c texts s × AreSeen s b a status × Leaves c texts b.folder.files a.folder.files s)

    here : (others : List (List ℕ)) → AreHeld b.folder.files (files_of c) others → others ≡ texts
    here others held = sym (same_texts b.folder.files (files_of c) texts others known held)

    none_missing : (name : List ℕ) → IsReached c b.folder.files name → Lacks b.folder.files name ⊎ Rose b.folder.reads a.folder.reads → ⊥
    none_missing name reached (inr rose) = goes.reads (reads_some c b.folder.files name reached) rose
    none_missing name reached (inl lacks) =
        let files = known.are_told (reads_some c b.folder.files name reached) in
        not_lacking c files.0 name texts (subst (λ (f : Option Files). AreHeld f (files_of c) texts) files.1 known.held)
        (subst (λ (f : Option Files). IsReached c f name) files.1 reached) (subst (λ (f : Option Files). Lacks f name) files.1 lacks)

    shown_told : (report : List ℕ) (n : ℕ) → HasShown same c b a report n → Reported (told report n) b.report.taken a.report.taken status → Tolds
    shown_told report n x (inr want) = inl want
    shown_told report n x (inl tells) = inr (
      x.seen,
      subst (λ (t : List (List ℕ)). Gives c t x.seen) (here x.texts x.held) x.gives,
      record { writes = x.out; reports = subst (Appends b.report.taken a.report.taken) x.report_is tells.1; ends = tells.0 ∙ x.status_is },
      subst (λ (t : List (List ℕ)). Leaves c t b.folder.files a.folder.files x.seen) (here x.texts x.held) x.leaves,
    )

    -- what a run in two processes came to
    module _ (program host policy input : List ℕ) (turns : ℕ) (is_run : c ≡ run program host policy input turns) where
      serves_here : (x : Ending) → (serves : Serves Served c b x) → Served (pair_of texts) turns serves.answer
      serves_here x serves =
          let n : serves.turns ≡ turns = turns_are program host policy input serves.program serves.host serves.policy serves.input turns serves.turns (sym is_run ∙ serves.is) in
          subst (λ (m : ℕ). Served (pair_of texts) m serves.answer) n
          (subst (λ (t : List (List ℕ)). Served (pair_of t) serves.turns serves.answer) (here serves.texts serves.held) serves.came)

    -- where a stage of its texts has faults
    does_told : (x : Ending) → ((uses_of c).link ≡ true → (s : Seen) × Gives c texts s) → Reported x b.report.taken a.report.taken status → IsDone c b x → Tolds
    does_told x gives tells (inl serves) = by (faults_told untouched moves breaks fair b a status keeps (pair_of texts) serves.turns faults.0 serves.answer faults.2
        (serves_here serves.program serves.host serves.policy serves.input serves.turns serves.is x serves) (subst (λ (y : Ending). Reported y b.report.taken a.report.taken status) serves.ends tells))
      where
        seen : (s : Seen) × Gives c texts s
        seen = gives (ap (λ (d : Command). (uses_of d).link) serves.is)

        faults : Gives (run serves.program serves.host serves.policy serves.input serves.turns) texts seen.0
        faults = subst (λ (d : Command). Gives d texts seen.0) serves.is seen.1

        left : (s : Seen) → Leaves c texts b.folder.files a.folder.files s
        left s = subst (λ (d : Command). Leaves d texts b.folder.files a.folder.files s) (sym serves.is)
            (stay (never_by words c says (ap (λ (d : Command). (uses_of d).writes_files) serves.is)))

        by : IsTold (AreFaultsOf (pair_of texts)) b a status → Tolds
        by (inl want) = inl want
        by (inr (s, is, tells)) = inr (s, subst (λ (d : Command). Gives d texts s) (sym serves.is) is, tells, left s)
    does_told x gives tells (inr slaves) = absurd (subst (λ (d : Command). Gives d texts (gives (ap (λ (d : Command). (uses_of d).link) slaves.0)).0) slaves.0 (gives (ap (λ (d : Command). (uses_of d).link) slaves.0)).1)

    telling : ((uses_of c).link ≡ true → (s : Seen) × Gives c texts s) → (x : Ending) → Tells x → CameTo c x → Tolds
    telling gives (told report n) tells (inl x) = shown_told report n x (reported goes.report (told report n) tells)
    telling gives (told report n) tells (inr x) = does_told (told report n) gives (reported goes.report (told report n) tells) x
    telling gives usage tells comes = absurd comes
    telling gives (missing name) tells comes = absurd (none_missing name comes.0 comes.1)
    telling gives (read_fault name) tells comes = absurd (goes.reads (reads_some c b.folder.files name comes.0) comes.1)
    telling gives write_fault tells (inl (uses, rose, x)) = absurd (goes.out uses rose)
    telling gives write_fault tells (inr (rose, x)) = absurd (goes.writes (split_writes c b.folder.files a.folder.files x) rose)
    telling gives link_fault tells comes = does_told link_fault gives (reported goes.report link_fault tells) comes.1
    telling gives (bad_peer rule offset) tells comes = does_told (bad_peer rule offset) gives (reported goes.report (bad_peer rule offset) tells) comes
    telling gives peer_ended tells comes = does_told peer_ended gives (reported goes.report peer_ended tells) comes
    telling gives memory tells comes = inl (wants goes.report tells)

  -- ---- the clauses

  module _ (comes : Comes IsDone same words b a e) where
    pub is_whole : IsWhole words b a status
    is_whole c texts says goes known gives = telling c texts says goes known gives e reports (by_command c says comes)

    seen_ends : (c : Command) (texts : List (List ℕ)) (s : Seen) → Gives c texts s → ((status ≡ 12) ⊎ ((x : Seen) × Gives c texts x × AreSeen x b a status × Leaves c texts b.folder.files a.folder.files x)) → EndsWith status s.status
    seen_ends c texts s gives (inl want) = inr want
    seen_ends c texts s gives (inr x) = inl (x.2.ends ∙ status_is_one c texts x.0 s x.1 gives)

    pub is_complete : IsComplete words b a status
    is_complete = record {
      usage = λ down none. by_usage down none comes;
      missing = λ c files name says goes are reached lacks. lacking c files name goes are reached lacks e reports (by_command c says comes);
      shown = λ c texts s says goes known gives. seen_ends c texts s gives (is_whole c texts says goes known (λ link. (s, gives)));
    }

    -- ---- the headlines

    expected : (t : Texts) (turns : ℕ) (tree : TypedTree) (x : Expected) (s : Seen) → IsExpected t turns tree x → IsPairSeen t turns s → AreSeen s b a status → AreSeen (shown_of tree x) b a status
    expected t turns tree x s is gives tells = subst (λ (z : Seen). AreSeen z b a status) (expected_seen t turns tree x is s gives) tells

    pub is_headline : IsHeadline words b a status
    is_headline program host policy input turns window texts tree x says goes known is = by (is_whole (local program host policy input turns window) texts says goes known (λ link. absurd (false_true_absurd link)))
      where
        by : (status ≡ 12) ⊎ ((s : Seen) × IsPairSeen (pair_of texts) turns s × AreSeen s b a status × SameFiles b.folder.files a.folder.files) → (status ≡ 12) ⊎ AreSeen (shown_of tree x) b a status
        by (inl want) = inl want
        by (inr (s, gives, tells, stays)) = inr (expected (pair_of texts) turns tree x s is gives tells)

    pub is_generated_run : IsGeneratedRun words b a status
    is_generated_run seed count tree x says goes is = by (is_whole (gen seed count) [] says goes (record { are_told = λ some. absurd (some refl); held = tt }) (λ link. absurd (false_true_absurd link)))
      where
        by : (status ≡ 12) ⊎ ((s : Seen) × IsMadeSeen seed count s × AreSeen s b a status × SameFiles b.folder.files a.folder.files) → (status ≡ 12) ⊎ AreSeen (generated_of seed count tree x) b a status
        by (inl want) = inl want
        by (inr (s, gives, tells, stays)) = inr (subst (λ (z : Seen). AreSeen z b a status) (generated_seen seed count tree x s is gives) tells)

    pub is_headline_of_sessions : IsHeadlineOfSessions words b a status
    is_headline_of_sessions program host policy turns inputs texts tree es says goes known is =
        by (is_whole (serve program host policy turns inputs) texts says goes known (λ link. absurd (false_true_absurd link)))
      where
        by : (status ≡ 12) ⊎ ((s : Seen) × ServesAll (shared_of texts) (inputs_of texts) turns s × AreSeen s b a status × SameFiles b.folder.files a.folder.files) → (status ≡ 12) ⊎ AreSeen (served_of tree es) b a status
        by (inl want) = inl want
        by (inr (s, gives, tells, stays)) =
            inr (subst (λ (z : Seen). AreSeen z b a status) (sessions_seen (shared_of texts) turns tree (inputs_of texts) es s (omega arith) is gives) tells)

    -- over an honest link
    module _ (program host policy input : List ℕ) (turns : ℕ) (texts : List (List ℕ)) (says : Says words (run program host policy input turns)) (goes : GoesWell (run program host policy input turns) b a)
        (links : StaysDown b.links a.links) (known : AreKnown b.folder.files (files_of (run program host policy input turns)) texts) (is_fair : fair (pair_of texts) turns) where
      abbrev Pairs : Type 0
      Pairs = IsTold (IsPairSeen (pair_of texts) turns) b a status

      two_do : (x : Ending) → (x ≡ link_fault → ⊥) → (x ≡ write_fault → ⊥) → Reported x b.report.taken a.report.taken status → IsDone (run program host policy input turns) b x → Pairs
      two_do x link sink tells (inl serves) =
          pair_told untouched moves breaks fair b a status keeps (pair_of texts) turns serves.answer is_fair
          (serves_here (run program host policy input turns) texts says goes known program host policy input turns refl x serves)
          (λ is. link (serves.ends ∙ is)) (λ is. sink (serves.ends ∙ is)) (subst (λ (y : Ending). Reported y b.report.taken a.report.taken status) serves.ends tells)
      two_do x link sink tells (inr slaves) = absurd (run_or_slave program host policy input turns slaves.0)

      two : (x : Ending) → Tells x → CameTo (run program host policy input turns) x → Pairs
      two (told report n) tells (inl x) = absurd (true_or_false x.own)
      two (told report n) tells (inr x) = two_do (told report n) (λ is. cc) (λ is. cc) (reported goes.report (told report n) tells) x
      two usage tells came = absurd came
      two (missing name) tells came = absurd (none_missing (run program host policy input turns) texts says goes known name came.0 came.1)
      two (read_fault name) tells came = absurd (goes.reads (reads_some (run program host policy input turns) b.folder.files name came.0) came.1)
      two write_fault tells (inl (uses, rose, x)) = absurd (goes.out uses rose)
      two write_fault tells (inr (rose, x)) = absurd (goes.writes (split_writes (run program host policy input turns) b.folder.files a.folder.files x) rose)
      two link_fault tells came = absurd (links came.0)
      two (bad_peer rule offset) tells came = two_do (bad_peer rule offset) (λ is. cc) (λ is. cc) (reported goes.report (bad_peer rule offset) tells) came
      two peer_ended tells came = two_do peer_ended (λ is. cc) (λ is. cc) (reported goes.report peer_ended tells) came
      two memory tells came = inl (wants goes.report tells)

    pub is_headline_of_two : IsHeadlineOfTwo fair words b a status
    is_headline_of_two program host policy input turns texts tree x says goes links known is_fair is =
        by (two program host policy input turns texts says goes links known is_fair e reports (by_command (run program host policy input turns) says comes))
      where
        by : IsTold (IsPairSeen (pair_of texts) turns) b a status → (status ≡ 12) ⊎ AreSeen (shown_of tree x) b a status
        by (inl want) = inl want
        by (inr (s, gives, tells)) = inr (expected (pair_of texts) turns tree x s is gives tells)
