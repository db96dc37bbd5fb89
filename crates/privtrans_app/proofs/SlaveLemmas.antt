-- What a slave's work comes to.
use Rattle.std.proofs.Common.{◌≡◌, ◌≤◌, ◌⊎◌, ℕ, List, [], ◌∷◌, ◌++◌, Option, Some, None, Result, Ok, Err, OnOk, IfErr, refl, sym, ◌∙◌, inl, inr, arith}
use Rattle.std.specs.Prelude.{⊤}
use Rattle.std.specs.Io.KnownBytes.{Appends, Keeps}
use Rattle.std.proofs.lemmas.List.{append-nil}
use Rattle.pair_running.proofs.SpawnedPairLinks.{appends_kept, part_kept}
use Rattle.pt_base.specs.Faults.{HasCause, Rose}
use Rattle.pt_base.specs.Talk.{Event, gave}
use Rattle.pt_base.specs.Told.{AppendsPart}
use Rattle.wire.specs.Frames.{open_end}
use Rattle.pair_runner.specs.Sending.{Parts, Talks}
use Rattle.slave_runner.specs.declared.fault.WorkFault.{WorkFault}
use Rattle.slave_runner.specs.declared.fault.WorkFault.TheVariants.{LinkFailed, BadPeer, PeerEnded, Memory}
use Rattle.slave_runner.specs.Outcomes.{BreaksOff, IsRefused, PartOf, Stops, then_the_end}
use Rattle.slave_runner.specs.Rules.{Stopped, has_ended, still_open, at_rule}
use Rattle.privtrans_app.specs.Comes.{ComesTo}
use Rattle.privtrans_app.specs.Ending.{Ending, told, usage, missing, read_fault, write_fault, link_fault, bad_peer, peer_ended, memory, status_of}
use Rattle.privtrans_app.specs.Interleaving.{IsOfNoRun}
use Rattle.privtrans_app.specs.Outside.{Outside}
use Rattle.privtrans_app.specs.SlaveRun.{Inherits, Works, ending_of}
use Rattle.privtrans_app.specs.Words.{Command, slave}
use Rattle.privtrans_app.proofs.ReadingLemmas.{rose_since}
use Rattle.privtrans_app.proofs.Statuses.{done as done_not}

-- ---- other talks and parts

talks_other : (talks other : List Event → Type 0) (stopped : Stopped) → ((talk : List Event) → talks talk → other talk) → Stops talks stopped → Stops other stopped
talks_other talks other stopped on s = record {
  talk = s.talk;
  talked = on s.talk s.talked;
  turns = s.turns;
  frames = s.frames;
  ending = s.ending;
  stream = s.stream;
  comes = s.comes;
}

parts_other : (parts other : List ℕ → List ℕ → Type 0) → ((given sent : List ℕ) → parts given sent → other given sent) → BreaksOff parts → BreaksOff other
parts_other parts other on b = record {
  given = b.given;
  frames = b.frames;
  ending = b.ending;
  stream = b.stream;
  broke = broken b.broke;
}
  where
    broken : parts b.given [] ⊎ PartOf (parts b.given) b.frames b.ending → other b.given [] ⊎ PartOf (other b.given) b.frames b.ending
    broken (inl nothing) = inl (on b.given [] nothing)
    broken (inr p) = inr (record {
      bytes = p.bytes;
      behind = p.behind;
      pieces = p.pieces;
      boot = p.boot;
      is_boot = p.is_boot;
      replies = p.replies;
      later = p.later;
      read = p.read;
      sent = on b.given _ p.sent;
    })

-- ---- since the link was inherited

nothing_part : (a b : Option (List ℕ)) → Keeps a b → AppendsPart a b []
nothing_part None b k = tt
nothing_part (Some x) None k = absurd k
nothing_part (Some x) (Some y) k = (0, k ∙ sym (append-nil x))

module _ {S : Type 0} (inherits : S → S → Type 0) (came : S → List Event → S → Type 0) (sent given : S → Option (List ℕ)) (s m s' : S) (sent_kept : Keeps (sent s) (sent m)) (given_kept : Keeps (given s) (given m)) where
  inherited : inherits s m → (talk : List Event) → Talks came sent given m s' talk → Inherits inherits came sent given s s' talk
  inherited became talk talked = record { link = m; became = became; sent_so = sent_kept; given_so = given_kept; talked = talked }

  parts_since : (g t : List ℕ) → Parts sent given m s' g t → Parts sent given s s' g t
  parts_since g t p = record { given_so = appends_kept (given s) (given m) (given s') g given_kept p.given_so; sent_so = part_kept (sent s) (sent m) (sent s') t sent_kept p.sent_so }

  -- what the work over it comes to
  pub work_comes : (answer : Result ⊤ WorkFault) → OnOk answer (Stops (Talks came sent given m s') has_ended)
      → IfErr answer (IsRefused (Talks came sent given m s') (Parts sent given m s')) → inherits s m
      → Works (Inherits inherits came sent given s s') (Parts sent given s s') (ending_of answer)
  work_comes (Ok done) ok err became = (refl, refl, talks_other (Talks came sent given m s') (Inherits inherits came sent given s s') has_ended (inherited became) ok)
  work_comes (Err LinkFailed) ok err became = parts_other (Parts sent given m s') (Parts sent given s s') parts_since err
  work_comes (Err (BadPeer rule offset)) ok err became =
      (err.0, err.1, talks_other (Talks came sent given m s') (Inherits inherits came sent given s s') (at_rule err.0 offset) (inherited became) err.2)
  work_comes (Err PeerEnded) ok err became =
      talks_other (then_the_end (Talks came sent given m s')) (then_the_end (Inherits inherits came sent given s s')) still_open (λ talk talked. inherited became (talk ++ gave [] ∷ []) talked) err
  work_comes (Err Memory) ok err became = parts_other (Parts sent given m s') (Parts sent given s s') parts_since err

-- its count of faults rose where the link failed
pub work_rose : (f0 f1 f2 : ℕ) (answer : Result ⊤ WorkFault) → f0 ≤ f1 → HasCause f1 f2 answer LinkFailed Memory → ending_of answer ≡ link_fault → Rose f0 f2
work_rose f0 f1 f2 (Ok done) later cause is = absurd (told_or_link is)
  where
    told_or_link : told [] 0 ≡ link_fault → ⊥
    told_or_link e = cc
work_rose f0 f1 f2 (Err LinkFailed) later cause is = rose_since f0 f1 f2 later cause.later (cause.cause refl)
work_rose f0 f1 f2 (Err (BadPeer rule offset)) later cause is = absurd (peer_or_link rule offset is)
  where
    peer_or_link : (rule offset : ℕ) → bad_peer rule offset ≡ link_fault → ⊥
    peer_or_link rule offset e = cc
work_rose f0 f1 f2 (Err PeerEnded) later cause is = absurd (end_or_link is)
  where
    end_or_link : peer_ended ≡ link_fault → ⊥
    end_or_link e = cc
work_rose f0 f1 f2 (Err Memory) later cause is = absurd (want_or_link is)
  where
    want_or_link : memory ≡ link_fault → ⊥
    want_or_link e = cc

-- a slave's work never ends as a call does that runs nothing
pub work_busy : (answer : Result ⊤ WorkFault) → IsOfNoRun (status_of (ending_of answer)) → ⊥
work_busy (Ok done) idle = done_not 0 0 refl refl idle
work_busy (Err LinkFailed) idle = done_not 9 9 refl refl idle
work_busy (Err (BadPeer rule offset)) idle = done_not 10 10 refl refl idle
work_busy (Err PeerEnded) idle = done_not 11 11 refl refl idle
work_busy (Err Memory) idle = done_not 12 12 refl refl idle

-- ---- the command

-- so a slave comes to it
pub slave_comes : (does : Command → Outside → Ending → Type 0) (same : Type 0) (talks : List Event → Type 0) (parts : List ℕ → List ℕ → Type 0) (b a : Outside) (e : Ending)
    → ((e : Ending) → Works talks parts e → does slave b e) → (e ≡ link_fault → Rose b.links a.links) → Works talks parts e → ComesTo does same slave b a e
slave_comes does same talks parts b a (told report status) f link is = inr (f (told report status) is)
slave_comes does same talks parts b a usage f link is = absurd is
slave_comes does same talks parts b a (missing name) f link is = absurd is
slave_comes does same talks parts b a (read_fault name) f link is = absurd is
slave_comes does same talks parts b a write_fault f link is = absurd is
slave_comes does same talks parts b a link_fault f link is = (link refl, f link_fault is)
slave_comes does same talks parts b a (bad_peer rule offset) f link is = f (bad_peer rule offset) is
slave_comes does same talks parts b a peer_ended f link is = f peer_ended is
slave_comes does same talks parts b a memory f link is = inr (inr (inr (f memory is)))

-- a link that couldn't be inherited: nothing was said
pub none_said : {S : Type 0} (sent given : S → Option (List ℕ)) (s s' : S) → Keeps (sent s) (sent s') → Keeps (given s) (given s') → BreaksOff (Parts sent given s s')
none_said sent given s s' sent_kept given_kept = record {
  given = [];
  frames = [];
  ending = open_end;
  stream = inl (omega arith);
  broke = inl (record { given_so = appends_kept (given s) (given s') (given s') [] given_kept (nothing_more (given s')); sent_so = nothing_part (sent s) (sent s') sent_kept });
}
  where
    nothing_more : (a : Option (List ℕ)) → Appends a a []
    nothing_more None = tt
    nothing_more (Some x) = sym (append-nil x)
