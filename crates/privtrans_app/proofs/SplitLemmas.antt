-- What the steps of a split come to together.
use Rattle.std.proofs.Common.{◌≡◌, ◌∙◌, ◌⊎◌, ℕ, List, [], ◌∷◌, Option, Some, None, refl, subst, inl, inr}
use Rattle.std.specs.Io.KnownBytes.{Appends}
use Rattle.pt_base.specs.Faults.{Rose}
use Rattle.pt_base.specs.Files.{Files, SameFiles, SameOthers}
use Rattle.front_end.specs.FaultLinesSeen.{faulty}
use Rattle.stages.specs.Climb.{IsRefused, Refusal, flows}
use Rattle.refusal_lines.specs.Lines.{lines_of}
use Rattle.program_split.specs.Split.{IsSplit}
use Rattle.privtrans_app.specs.Comes.{ComesAlone}
use Rattle.privtrans_app.specs.Ending.{Ending, told, usage, missing, read_fault, write_fault, link_fault, bad_peer, peer_ended, memory}
use Rattle.privtrans_app.specs.Gives.{halved, program_in}
use Rattle.privtrans_app.specs.Outside.{Outside}
use Rattle.privtrans_app.specs.SplitRun.{AreWritten, LeavesAt, SameBut, StopsWriting}
use Rattle.privtrans_app.specs.Words.{files_of}
use Rattle.privtrans_app.specs.WordsSeen.{split_seen}
use Rattle.privtrans_app.specs.declared.words.SplitWords.{SplitWords}
use Rattle.privtrans_app.proofs.Cuts.{gives_whole, halves_whole}
use Rattle.privtrans_app.proofs.HeldLemmas.{Whole}

-- ---- files that stayed as they were

others_since : (a b c : Option Files) (name : List ℕ) → SameFiles a b → SameOthers b c name → SameOthers a c name
others_since None b c name x y = tt
others_since (Some f) None c name x y = absurd x
others_since (Some f) (Some g) None name x y = absurd y
others_since (Some f) (Some g) (Some h) name x y = λ other n. y other n ∙ x other

leaves_since : (a b c : Option Files) (name text : List ℕ) → SameFiles a b → LeavesAt b c name text → LeavesAt a c name text
leaves_since None b c name text same leaves = tt
leaves_since (Some f) None c name text same leaves = absurd same
leaves_since (Some f) (Some g) c name text same leaves = leaves

touched_since : (a b c : Option Files) (name text : List ℕ) → SameFiles a b → SameOthers b c name ⊎ LeavesAt b c name text → SameOthers a c name ⊎ LeavesAt a c name text
touched_since a b c name text same (inl is) = inl (others_since a b c name same is)
touched_since a b c name text same (inr is) = inr (leaves_since a b c name text same is)

pub but_since : (a b c : Option Files) (slave monitor : List ℕ) → SameFiles a b → SameBut b c slave monitor → SameBut a c slave monitor
but_since None b c slave monitor x y = tt
but_since (Some f) None c slave monitor x y = absurd x
but_since (Some f) (Some g) None slave monitor x y = absurd y
but_since (Some f) (Some g) (Some h) slave monitor x y = λ other m n. y other m n ∙ x other

-- files that stayed stayed but for two
pub same_but : (a b : Option Files) (slave monitor : List ℕ) → SameFiles a b → SameBut a b slave monitor
same_but None b slave monitor same = tt
same_but (Some f) None slave monitor same = absurd same
same_but (Some f) (Some g) slave monitor same = λ other m n. same other

-- ---- what a split comes to

module _ (words : SplitWords) (b a : Outside) (cut : List (List ℕ)) (w : Whole b.folder.files (files_of (split_seen words)) cut) (nothing : Appends b.out.taken a.out.taken []) where
  -- of a text with faults
  pub faults_come : (r : Refusal) → IsRefused (flows ∷ []) (program_in cut) r → SameFiles b.folder.files a.folder.files → ComesAlone (Unit {0}) (split_seen words) b a (told (lines_of r) 5)
  faults_come r stops stay = inl (record {
    own = refl;
    texts = w.texts;
    held = w.held;
    seen = faulty (lines_of r);
    gives = gives_whole (split_seen words) w.texts cut (faulty (lines_of r)) w.cuts (inl (r, lines_of r, stops, refl, refl));
    out = nothing;
    quiet = λ quiet. tt;
    report_is = refl;
    status_is = refl;
    leaves = inl (refl, stay);
  })

  module _ (mid : Option Files) (slave_text monitor_text : List ℕ) (w0 w1 w2 : ℕ) (has : IsSplit (program_in cut) (record { slave = slave_text; monitor = monitor_text })) (stay : SameFiles b.folder.files mid) (same : w1 ≡ w0)
      (before : w0 ≡ b.folder.writes) (after : w2 ≡ a.folder.writes) where
    stops : SameOthers mid a.folder.files words.slave.now ⊎ LeavesAt mid a.folder.files words.slave.now slave_text → StopsWriting (split_seen words) b.folder.files a.folder.files
    stops touched = record {
      program = words.program.now;
      to_slave = words.slave.now;
      to_monitor = words.monitor.now;
      is = refl;
      texts = w.texts;
      held = w.held;
      slave_text = slave_text;
      monitor_text = monitor_text;
      halves = halves_whole w.texts cut slave_text monitor_text w.cuts has;
      touched = touched_since b.folder.files mid a.folder.files words.slave.now slave_text stay touched;
    }

    rose : Rose w1 w2 → Rose b.folder.writes a.folder.writes
    rose r = subst (λ (n : ℕ). Rose b.folder.writes n) after (subst (λ (n : ℕ). Rose n w2) (same ∙ before) r)

    -- of a text with halves, and what writing them came to
    pub halves_come : (e : Ending) → AreWritten words mid a.folder.files w1 w2 slave_text monitor_text e → ComesAlone (Unit {0}) (split_seen words) b a e
    halves_come (told report status) is = inl (record {
      own = refl;
      texts = w.texts;
      held = w.held;
      seen = halved (record { slave = slave_text; monitor = monitor_text });
      gives = inr (record { slave = slave_text; monitor = monitor_text }, halves_whole w.texts cut slave_text monitor_text w.cuts has, refl);
      out = nothing;
      quiet = λ quiet. tt;
      report_is = is.0;
      status_is = is.1;
      leaves = inr (
        refl,
        record {
          slave_text = slave_text;
          monitor_text = monitor_text;
          halves = halves_whole w.texts cut slave_text monitor_text w.cuts has;
          slave_left = leaves_since b.folder.files mid a.folder.files words.slave.now slave_text stay is.2;
          monitor_left = leaves_since b.folder.files mid a.folder.files words.monitor.now monitor_text stay is.3;
        },
      );
    })
    halves_come usage is = absurd is
    halves_come (missing name) is = absurd is
    halves_come (read_fault name) is = absurd is
    halves_come write_fault is = inr (rose is.0, stops is.1)
    halves_come link_fault is = absurd is
    halves_come (bad_peer rule offset) is = absurd is
    halves_come peer_ended is = absurd is
    halves_come memory is = inr (inr (inl (stops is)))
