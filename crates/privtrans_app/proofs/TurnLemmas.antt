-- How a chooser was asked.
use Rattle.std.proofs.Common.{◌≡◌, ℕ, false, List, [], map, Option, Result, Ok, refl, sym, ap, subst, inl, inr}
use Rattle.std.specs.declared.alloc.AllocError.{AllocError}
use Rattle.std.specs.Io.KnownBytes.{Appends}
use Rattle.pt_base.proofs.Booleans.{false_true_absurd}
use Rattle.pt_base.specs.Files.{Files}
use Rattle.pt_base.specs.declared.chooser.Who.{Who}
use Rattle.pair_meaning.specs.LinkChoosing.{AreTaken}
use Rattle.privtrans_app.specs.Call.{HasTurned}
use Rattle.privtrans_app.specs.Ending.{Ending, told, usage, missing, read_fault, write_fault, link_fault, bad_peer, peer_ended, memory, status_of, Puts}
use Rattle.privtrans_app.specs.EndingSeen.{report_bytes, report_status}
use Rattle.privtrans_app.specs.Interleaving.{IsOfNoRun, IsOfRun}
use Rattle.privtrans_app.specs.Outside.{Outside}
use Rattle.privtrans_app.specs.Reading.{IsReadRefusal, IsRefusal}
use Rattle.privtrans_app.specs.Showing.{HasAsked}
use Rattle.privtrans_app.specs.Words.{Command, help, version, check, explain, outline, picture, explain_pair, orig, local, run, split, slave, gen, serve, audit, files_of, uses_of}
use Rattle.privtrans_app.specs.declared.showing.Shown.{Shown}
use Rattle.privtrans_app.proofs.Cuts.{run_whole, turns_whole}
use Rattle.privtrans_app.proofs.HeldLemmas.{Whole}
use Rattle.privtrans_app.proofs.Statuses.{done, other}

-- ---- what wasn't asked

-- a command that asks no chooser left it as it was
pub asked_same : (same : Type 0) (c : Command) (texts : List (List ℕ)) (before after : Option (ℕ → Who)) (r : Result Shown AllocError) → (uses_of c).chooser ≡ false → HasAsked same c texts before after r → same
asked_same same help texts before after r none asked = asked
asked_same same version texts before after r none asked = asked
asked_same same (check program) texts before after r none asked = asked
asked_same same (explain program) texts before after r none asked = asked
asked_same same (outline program) texts before after r none asked = asked
asked_same same (picture program) texts before after r none asked = asked
asked_same same (explain_pair program host policy) texts before after r none asked = asked
asked_same same (orig program host input turns) texts before after r none asked = asked
asked_same same (local program host policy input turns window) texts before after r none asked = absurd (false_true_absurd (sym none))
asked_same same (run program host policy input turns) texts before after r none asked = asked
asked_same same (split program to_slave to_monitor) texts before after r none asked = asked
asked_same same slave texts before after r none asked = asked
asked_same same (gen seed count) texts before after r none asked = absurd (false_true_absurd (sym none))
asked_same same (serve program host policy turns inputs) texts before after r none asked = absurd (false_true_absurd (sym none))
asked_same same (audit program) texts before after r none asked = asked

-- where nothing ran, no answer was taken
pub asked_idle : (same : Type 0) (c : Command) (texts : List (List ℕ)) (before after : Option (ℕ → Who)) (s : Shown) → (same → AreTaken [] before after) → HasAsked same c texts before after (Ok s)
    → IsOfNoRun (report_status s.report) → AreTaken [] before after
asked_idle same help texts before after s none asked idle = none asked
asked_idle same version texts before after s none asked idle = none asked
asked_idle same (check program) texts before after s none asked idle = none asked
asked_idle same (explain program) texts before after s none asked idle = none asked
asked_idle same (outline program) texts before after s none asked idle = none asked
asked_idle same (picture program) texts before after s none asked idle = none asked
asked_idle same (explain_pair program host policy) texts before after s none asked idle = none asked
asked_idle same (orig program host input turns) texts before after s none asked idle = none asked
asked_idle same (local program host policy input turns window) texts before after s none asked idle = asked.idle idle
asked_idle same (run program host policy input turns) texts before after s none asked idle = none asked
asked_idle same (split program to_slave to_monitor) texts before after s none asked idle = none asked
asked_idle same slave texts before after s none asked idle = none asked
asked_idle same (gen seed count) texts before after s none asked idle = asked.idle idle
asked_idle same (serve program host policy turns inputs) texts before after s none asked idle = asked.idle idle
asked_idle same (audit program) texts before after s none asked idle = none asked

-- the same of what writing it came to
pub puts_idle : (same : Type 0) (c : Command) (texts : List (List ℕ)) (before after : Option (ℕ → Who)) (s : Shown) (o o' : Option (List ℕ)) (writes writes' : ℕ) (came : Ending)
    → (same → AreTaken [] before after) → HasAsked same c texts before after (Ok s) → Puts o o' writes writes' s.out.items (told (report_bytes s.report) (report_status s.report)) came
    → IsOfNoRun (status_of came) → AreTaken [] before after
puts_idle same c texts before after s o o' writes writes' came none asked (inl puts) idle = asked_idle same c texts before after s none asked (subst IsOfNoRun (ap status_of puts.0) idle)
puts_idle same c texts before after s o o' writes writes' came none asked (inr (inl puts)) idle = absurd (done (status_of came) 4 (ap status_of puts.0) refl idle)
puts_idle same c texts before after s o o' writes writes' came none asked (inr (inr puts)) idle = absurd (done (status_of came) 12 (ap status_of puts.0) refl idle)

-- ---- both halves that came to their end

-- where nothing came to an end
pub no_turns : (c : Command) (b a : Outside) (status : ℕ) → (IsOfRun status → ⊥) → HasTurned c b a status
no_turns help b a status none = tt
no_turns version b a status none = tt
no_turns (check program) b a status none = tt
no_turns (explain program) b a status none = tt
no_turns (outline program) b a status none = tt
no_turns (picture program) b a status none = tt
no_turns (explain_pair program host policy) b a status none = tt
no_turns (orig program host input turns) b a status none = tt
no_turns (local program host policy input turns window) b a status none = λ ran. absurd (none ran)
no_turns (run program host policy input turns) b a status none = tt
no_turns (split program to_slave to_monitor) b a status none = tt
no_turns slave b a status none = tt
no_turns (gen seed count) b a status none = λ ran. absurd (none ran)
no_turns (serve program host policy turns inputs) b a status none = λ ran. absurd (none ran)
no_turns (audit program) b a status none = tt

-- a file that isn't read ends no run
unread_ran : (name : List ℕ) (files : Option Files) (reads reads' : ℕ) (e : Ending) → IsReadRefusal name files reads reads' e → IsOfRun (status_of e) → ⊥
unread_ran name files reads reads' (told report status) is ran = is
unread_ran name files reads reads' usage is ran = is
unread_ran name files reads reads' (missing n) is ran = other 2 2 refl refl ran
unread_ran name files reads reads' (read_fault n) is ran = other 3 3 refl refl ran
unread_ran name files reads reads' write_fault is ran = is
unread_ran name files reads reads' link_fault is ran = is
unread_ran name files reads reads' (bad_peer rule offset) is ran = is
unread_ran name files reads reads' peer_ended is ran = is
unread_ran name files reads reads' memory is ran = other 12 12 refl refl ran

pub refusal_turns : (c : Command) (b a : Outside) (names : List (List ℕ)) (files : Option Files) (reads reads' : ℕ) (e : Ending) → IsRefusal names files reads reads' e → HasTurned c b a (status_of e)
refusal_turns c b a names files reads reads' e refusal = no_turns c b a (status_of e) (λ ran. unread_ran refusal.name files reads reads' e refusal.is ran)

-- what was shown and written
module _ (same : Type 0) (b a : Outside) (cut : List (List ℕ)) (s : Shown) (came : Ending) where
  abbrev pub IsPut : Type 0
  IsPut = Puts b.out.taken a.out.taken b.out.failed a.out.failed s.out.items (told (report_bytes s.report) (report_status s.report)) came

  -- it came to an end only where it was written
  put_ran : IsPut → IsOfRun (status_of came) → IsOfRun (report_status s.report) × Appends b.out.taken a.out.taken s.out.items
  put_ran (inl puts) ran = (subst IsOfRun (ap status_of puts.0) ran, puts.1)
  put_ran (inr (inl puts)) ran = absurd (other (status_of came) 4 (ap status_of puts.0) refl ran)
  put_ran (inr (inr puts)) ran = absurd (other (status_of came) 12 (ap status_of puts.0) refl ran)

  pub shown_turns : (c : Command) → Whole b.folder.files (files_of c) cut → HasAsked same c cut b.answers a.answers (Ok s) → IsPut → HasTurned c b a (status_of came)
  shown_turns help w asked puts = tt
  shown_turns version w asked puts = tt
  shown_turns (check program) w asked puts = tt
  shown_turns (explain program) w asked puts = tt
  shown_turns (outline program) w asked puts = tt
  shown_turns (picture program) w asked puts = tt
  shown_turns (explain_pair program host policy) w asked puts = tt
  shown_turns (orig program host input turns) w asked puts = tt
  shown_turns (local program host policy input turns window) w asked puts = λ ran.
      let wrote = put_ran puts ran in
      record {
        texts = w.texts;
        held = w.held;
        bytes = s.out.items;
        whole = run_whole w.texts cut turns window b.answers a.answers s.out.items w.cuts (asked.ran wrote.0);
        writes = wrote.1;
      }
  shown_turns (run program host policy input turns) w asked puts = tt
  shown_turns (split program to_slave to_monitor) w asked puts = tt
  shown_turns slave w asked puts = tt
  shown_turns (gen seed count) w asked puts = λ ran.
      let wrote = put_ran puts ran in
      let tells = asked.ran wrote.0 in
      record { bytes = tells.0; end = tells.1; whole = tells.2; writes = subst (Appends b.out.taken a.out.taken) tells.3 wrote.1 }
  shown_turns (serve program host policy turns inputs) w asked puts = λ ran.
      let wrote = put_ran puts ran in
      let tells = asked.ran wrote.0 in
      record {
        texts = w.texts;
        held = w.held;
        sessions = tells.0;
        whole = turns_whole w.texts cut turns b.answers a.answers (map (λ x. x.bytes) tells.0) w.cuts tells.1;
        writes = subst (Appends b.out.taken a.out.taken) tells.2 wrote.1;
      }
  shown_turns (audit program) w asked puts = tt
