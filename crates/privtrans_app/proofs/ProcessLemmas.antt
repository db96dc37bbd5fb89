-- What the files of a run in two processes come to.
use Rattle.std.proofs.Common.{◌≡◌, ◌⊎◌, ℕ, List, Option, Ok, Err, refl, sym, subst, inl, inr}
use Rattle.std.specs.Io.KnownBytes.{Appends, Keeps}
use Rattle.pt_base.specs.Faults.{Rose}
use Rattle.pt_base.specs.Talk.{Event}
use Rattle.front_end.specs.FaultLinesSeen.{Seen, faulty}
use Rattle.pair_runner.specs.declared.fault.RunFault.TheVariants.{LinkFailed, SinkFailed, BadPeer, PeerEnded, Memory}
use Rattle.pair_runner.proofs.Parts.{keeps_nil}
use Rattle.stages.specs.Commands.{AreCut}
use Rattle.pt_base.specs.declared.end.End.{End}
use Rattle.pt_base.specs.declared.end.End.TheVariants as ends
use Rattle.pt_core.specs.CodeTree.{BootTree}
use Rattle.pair_meaning.specs.Monitors.{Monitor}
use Rattle.stages.specs.Climb.{IsRefused, Refusal, Texts, of_pair}
use Rattle.stages.specs.Seen.{view_refusal}
use Rattle.stages.specs.declared.refusal.Refusal as code
use Rattle.stages.proofs.OneRefusal.{passed_unrefused}
use Rattle.refusal_lines.specs.Ends.{end_line, end_status}
use Rattle.refusal_lines.specs.Lines.{lines_of}
use Rattle.pair_texts.specs.Start.{AreStarted}
use Rattle.pair_texts.proofs.OneOutcome.{begun_has_passed}
use Rattle.pair_running.specs.LocalPairLocal.{IsPairRun}
use Rattle.pair_running.specs.declared.spawned_pair.outcome.Outcome.TheVariants.{Refused, Ran}
use Rattle.pair_running.specs.SpawnedPairOutcomeSeen.{IsServed}
use Rattle.pair_running.specs.SpawnedPairSupervised.{AreUntouched}
use Rattle.pair_running.proofs.SpawnedPairCuts.{expected_whole, served_whole}
use Rattle.privtrans_app.specs.Comes.{ComesTo, Rests}
use Rattle.privtrans_app.specs.Ending.{Ending, told, link_fault, write_fault, status_of, report_of}
use Rattle.privtrans_app.specs.Gives.{IsRefusedBy, by_lines, pair_of, ran_both}
use Rattle.privtrans_app.specs.Interleaving.{IsOfNoRun}
use Rattle.privtrans_app.specs.Outside.{Outside, AreSeen}
use Rattle.privtrans_app.specs.ProcessRun.{Answer, EndsSo, IsRun, Serves, ending_of}
use Rattle.privtrans_app.specs.Reading.{AreCutOf}
use Rattle.privtrans_app.specs.Words.{Command, run, files_of}
use Rattle.privtrans_app.proofs.ComesLemmas.{keeps_same}
use Rattle.privtrans_app.proofs.Cuts.{firsts, pair_cut}
use Rattle.privtrans_app.proofs.GivenLemmas.{IsPairSeen}
use Rattle.privtrans_app.proofs.HeldLemmas.{Whole}
use Rattle.privtrans_app.proofs.Statuses.{done}

-- ---- texts that were read

-- what the first bytes come to, the whole texts come to
module _ (untouched : Type 0) (moves : List Event → List ℕ → Type 0) (breaks : List ℕ → List ℕ → List ℕ → Type 0) (writes : List ℕ → Type 0) (fair : Texts → ℕ → Type 0)
    (fair_cut : (whole cut : Texts) (turns : ℕ) → AreCut whole cut → fair whole turns → fair cut turns) where
  abbrev IsRunSo : Texts → ℕ → Answer → Type 0
  IsRunSo = IsRun untouched moves breaks writes fair

  cut_run : (whole cut : Texts) (turns : ℕ) (answer : Answer) → AreCut whole cut → IsRunSo cut turns answer → IsRunSo whole turns answer
  cut_run whole cut turns answer cuts came = record {
    served = served_whole untouched moves breaks whole cut turns answer cuts came.served;
    expected = λ is_fair. expected_whole writes whole cut turns answer cuts (came.expected (fair_cut whole cut turns cuts is_fair));
  }

  pub run_whole : (whole cut : List (List ℕ)) (turns : ℕ) (answer : Answer) → AreCutOf whole cut → IsRunSo (pair_of cut) turns answer → IsRunSo (pair_of whole) turns answer
  run_whole whole cut turns answer (inl same) came = subst (λ (t : List (List ℕ)). IsRunSo (pair_of t) turns answer) same came
  run_whole whole cut turns answer (inr same) came =
      cut_run (pair_of whole) (pair_of (firsts whole)) turns answer (pair_cut whole) (subst (λ (t : List (List ℕ)). IsRunSo (pair_of t) turns answer) same came)

  -- the files' texts came to it, and it ends the call so
  pub files_run : (program host policy input : List ℕ) (turns : ℕ) (b : Outside) (cut : List (List ℕ)) (answer : Answer) → Whole b.folder.files (files_of (run program host policy input turns)) cut
      → IsRunSo (pair_of cut) turns answer → Serves IsRunSo (run program host policy input turns) b (ending_of answer)
  files_run program host policy input turns b cut answer w came = record {
    program = program;
    host = host;
    policy = policy;
    input = input;
    turns = turns;
    is = refl;
    texts = w.texts;
    held = w.held;
    answer = answer;
    came = run_whole w.texts cut turns answer w.cuts came;
    ends = refl;
  }

-- ---- an answer

busy : (end : End) → IsOfNoRun (end_status end) → ⊥
busy (ends.Exit status) idle = done 0 0 refl refl idle
busy (ends.Trapped trap span) idle = done 6 6 refl refl idle
busy ends.Spent idle = done 8 8 refl refl idle
busy (ends.Refused call f state) idle = done 7 7 refl refl idle

-- where the call runs nothing, neither link nor out was used
idle_so : (untouched : Type 0) (moves : List Event → List ℕ → Type 0) (breaks : List ℕ → List ℕ → List ℕ → Type 0) (t : Texts) (turns : ℕ) (answer : Answer)
    → IsOfNoRun (status_of (ending_of answer)) → IsServed untouched moves breaks t turns answer → untouched
idle_so untouched moves breaks t turns (Ok (Refused refusal)) idle served = served.1
idle_so untouched moves breaks t turns (Ok (Ran end names)) idle served = absurd (busy end idle)
idle_so untouched moves breaks t turns (Err LinkFailed) idle served = absurd (done 9 9 refl refl idle)
idle_so untouched moves breaks t turns (Err SinkFailed) idle served = absurd (done 4 4 refl refl idle)
idle_so untouched moves breaks t turns (Err (BadPeer rule offset)) idle served = absurd (done 10 10 refl refl idle)
idle_so untouched moves breaks t turns (Err PeerEnded) idle served = absurd (done 11 11 refl refl idle)
idle_so untouched moves breaks t turns (Err Memory) idle served = absurd (done 12 12 refl refl idle)

pub idle_ends : (untouched : Type 0) (moves : List Event → List ℕ → Type 0) (breaks : List ℕ → List ℕ → List ℕ → Type 0) (t : Texts) (turns : ℕ) (answer : Answer) (e : Ending)
    → EndsSo answer e → IsOfNoRun (status_of e) → IsServed untouched moves breaks t turns answer → untouched
idle_ends untouched moves breaks t turns (Ok (Refused refusal)) e is idle served = served.1
idle_ends untouched moves breaks t turns (Ok (Ran end names)) e is idle served =
    idle_so untouched moves breaks t turns (Ok (Ran end names)) (subst (λ (x : Ending). IsOfNoRun (status_of x)) is idle) served
idle_ends untouched moves breaks t turns (Err fault) e is idle served =
    idle_so untouched moves breaks t turns (Err fault) (subst (λ (x : Ending). IsOfNoRun (status_of x)) is idle) served

-- the ending of an answer, with its cause
answer_comes : (does : Command → Outside → Ending → Type 0) (same : Type 0) (program host policy input : List ℕ) (turns : ℕ) (b a : Outside) (answer : Answer)
    → (answer ≡ Err LinkFailed → Rose b.links a.links) → (answer ≡ Err SinkFailed → Rose b.out.failed a.out.failed) → does (run program host policy input turns) b (ending_of answer)
    → ComesTo does same (run program host policy input turns) b a (ending_of answer)
answer_comes does same program host policy input turns b a (Ok (Refused refusal)) link sink is = inr is
answer_comes does same program host policy input turns b a (Ok (Ran end names)) link sink is = inr is
answer_comes does same program host policy input turns b a (Err LinkFailed) link sink is = (link refl, is)
answer_comes does same program host policy input turns b a (Err SinkFailed) link sink is = inl (refl, sink refl, inr is)
answer_comes does same program host policy input turns b a (Err (BadPeer rule offset)) link sink is = is
answer_comes does same program host policy input turns b a (Err PeerEnded) link sink is = is
answer_comes does same program host policy input turns b a (Err Memory) link sink is = inr (inr (inr is))

-- where memory is wanting for the lines of a refusal, nothing was done
pub answer_ends : (does : Command → Outside → Ending → Type 0) (same : Type 0) (program host policy input : List ℕ) (turns : ℕ) (b a : Outside) (answer : Answer) (e : Ending) → EndsSo answer e
    → ((refusal : code.Refusal) → answer ≡ Ok (Refused refusal) → Rests (run program host policy input turns) b a)
    → (answer ≡ Err LinkFailed → Rose b.links a.links) → (answer ≡ Err SinkFailed → Rose b.out.failed a.out.failed) → does (run program host policy input turns) b (ending_of answer)
    → ComesTo does same (run program host policy input turns) b a e
answer_ends does same program host policy input turns b a (Ok (Refused refusal)) e (inl is) rests link sink came =
    subst (ComesTo does same (run program host policy input turns) b a) (sym is) (answer_comes does same program host policy input turns b a (Ok (Refused refusal)) link sink came)
answer_ends does same program host policy input turns b a (Ok (Refused refusal)) e (inr is) rests link sink came =
    subst (ComesTo does same (run program host policy input turns) b a) (sym is) (inl (rests refusal refl))
answer_ends does same program host policy input turns b a (Ok (Ran end names)) e is rests link sink came =
    subst (ComesTo does same (run program host policy input turns) b a) (sym is) (answer_comes does same program host policy input turns b a (Ok (Ran end names)) link sink came)
answer_ends does same program host policy input turns b a (Err fault) e is rests link sink came =
    subst (ComesTo does same (run program host policy input turns) b a) (sym is) (answer_comes does same program host policy input turns b a (Err fault) link sink came)

-- ---- what is told

-- the ending as it is reported, where the report was written
abbrev pub Reported : Ending → Option (List ℕ) → Option (List ℕ) → ℕ → Type 0
Reported e report report' status = ((status ≡ status_of e) × Appends report report' (report_of e)) ⊎ (status ≡ 12)

-- this is seen, or memory was wanting
abbrev pub IsTold : (Seen → Type 0) → Outside → Outside → ℕ → Type 0
IsTold gives b a status = (status ≡ 12) ⊎ ((s : Seen) × gives s × AreSeen s b a status)

-- the faults of these texts
abbrev pub AreFaultsOf : Texts → Seen → Type 0
AreFaultsOf t s = IsRefusedBy of_pair by_lines t s

-- a pair begins of texts that aren't refused
begun_unrefused : (t : Texts) (turns : ℕ) (boot : BootTree) (monitor : Monitor) (refusal : Refusal) → AreStarted t turns boot monitor → IsRefused of_pair t refusal → ⊥
begun_unrefused t turns boot monitor refusal started stops =
    let h = begun_has_passed turns t (record { boot = boot; monitor = monitor }) started in
    passed_unrefused of_pair t h.0 refusal h.1 stops

module _ (untouched : Type 0) (moves : List Event → List ℕ → Type 0) (breaks : List ℕ → List ℕ → List ℕ → Type 0) (fair : Texts → ℕ → Type 0) (b a : Outside) (status : ℕ)
    (keeps : untouched → Keeps b.out.taken a.out.taken) where
  abbrev pub IsRunHere : Texts → ℕ → Answer → Type 0
  IsRunHere = IsRun untouched moves breaks (λ bytes. Appends b.out.taken a.out.taken bytes) fair

  abbrev Tells : Ending → Type 0
  Tells e = Reported e b.report.taken a.report.taken status

  lines_told : (t : Texts) (refusal : Refusal) → IsRefused of_pair t refusal → untouched → Tells (told (lines_of refusal) 5) → IsTold (AreFaultsOf t) b a status
  lines_told t refusal stops quiet (inr want) = inl want
  lines_told t refusal stops quiet (inl tells) =
      inr (
        faulty (lines_of refusal),
        (refusal, lines_of refusal, stops, refl, refl),
        record {
          writes = keeps_nil b.out.taken a.out.taken (keeps quiet);
          reports = tells.1;
          ends = tells.0;
        },
      )

  -- of texts with faults
  pub faults_told : (t : Texts) (turns : ℕ) (refusal : Refusal) (answer : Answer) → IsRefused of_pair t refusal → IsRunHere t turns answer → Tells (ending_of answer) → IsTold (AreFaultsOf t) b a status
  faults_told t turns refusal (Ok (Refused found)) is came tells = lines_told t (view_refusal found) came.served.0 came.served.1 tells
  faults_told t turns refusal (Ok (Ran end names)) is came tells = absurd (begun_unrefused t turns came.served.0.boot came.served.0.monitor refusal came.served.0.started is)
  faults_told t turns refusal (Err LinkFailed) is came tells = absurd (begun_unrefused t turns came.served.boot came.served.monitor refusal came.served.started is)
  faults_told t turns refusal (Err SinkFailed) is came tells = absurd (begun_unrefused t turns came.served.boot came.served.monitor refusal came.served.started is)
  faults_told t turns refusal (Err (BadPeer rule offset)) is came tells = absurd (begun_unrefused t turns came.served.boot came.served.monitor refusal came.served.started is)
  faults_told t turns refusal (Err PeerEnded) is came tells = absurd (begun_unrefused t turns came.served.boot came.served.monitor refusal came.served.started is)
  faults_told t turns refusal (Err Memory) is came (inl tells) = inl tells.0
  faults_told t turns refusal (Err Memory) is came (inr want) = inl want

  as_pair : (t : Texts) (turns : ℕ) → IsTold (AreFaultsOf t) b a status → IsTold (IsPairSeen t turns) b a status
  as_pair t turns (inl want) = inl want
  as_pair t turns (inr is) = inr (is.0, inl is.1, is.2)

  end_told : (t : Texts) (turns : ℕ) (bytes : List ℕ) (end : End) (names : List (List ℕ)) → IsPairRun turns t (record { bytes = bytes; names = names; end = end }) → Appends b.out.taken a.out.taken bytes
      → Tells (told (end_line names end) (end_status end)) → IsTold (IsPairSeen t turns) b a status
  end_told t turns bytes end names runs wrote (inr want) = inl want
  end_told t turns bytes end names runs wrote (inl tells) =
      inr (ran_both (record { bytes = bytes; names = names; end = end }), inr (record { bytes = bytes; names = names; end = end }, runs, refl), record { writes = wrote; reports = tells.1; ends = tells.0 })

  -- over an honest link
  pub pair_told : (t : Texts) (turns : ℕ) (answer : Answer) → fair t turns → IsRunHere t turns answer → (ending_of answer ≡ link_fault → ⊥) → (ending_of answer ≡ write_fault → ⊥)
      → Tells (ending_of answer) → IsTold (IsPairSeen t turns) b a status
  pair_told t turns (Ok (Refused found)) is came link sink tells = as_pair t turns (lines_told t (view_refusal found) came.served.0 came.served.1 tells)
  pair_told t turns (Ok (Ran end names)) is came link sink tells = let due = came.expected is in end_told t turns due.0 end names due.1 due.2 tells
  pair_told t turns (Err LinkFailed) is came link sink tells = absurd (link refl)
  pair_told t turns (Err SinkFailed) is came link sink tells = absurd (sink refl)
  pair_told t turns (Err (BadPeer rule offset)) is came link sink tells = absurd (came.expected is)
  pair_told t turns (Err PeerEnded) is came link sink tells = absurd (came.expected is)
  pair_told t turns (Err Memory) is came link sink (inl tells) = inl tells.0
  pair_told t turns (Err Memory) is came link sink (inr want) = inl want

-- ---- what wasn't used

pub untouched_keeps : {S K : Type 0} (taken : K → Option (List ℕ)) (s s' : S) (k k' : K) → AreUntouched s s' k k' → Keeps (taken k) (taken k')
untouched_keeps taken s s' k k' is = subst (λ x. Keeps (taken k) (taken x)) (sym is.sink_is) (keeps_same (taken k))
