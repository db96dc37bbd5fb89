-- The run behind the boot.
use Rattle.std.proofs.Common.{ℕ, List, [], ◌++◌, Option, Result, Ok, Err, subst, append-nil, inl, arith}
use Rattle.pt_base.specs.declared.end.End.{End}
use Rattle.pt_base.specs.declared.link.LinkFault.{LinkFault}
use Rattle.pt_base.specs.declared.link.LinkFault.TheVariants as link
use Rattle.pt_base.specs.Talk.{Event}
use Rattle.wire.specs.Frames.{open_end}
use Rattle.pair_meaning.specs.Monitors.{Monitor}
use Rattle.pair_meaning.specs.Peer.{boot_frames}
use Rattle.pair_meaning.specs.Streams.{Stopped}
use Rattle.pair_runner.specs.declared.fault.RunFault.{RunFault}
use Rattle.pair_runner.specs.declared.fault.RunFault.TheVariants.{LinkFailed, SinkFailed, BadPeer, PeerEnded, Memory}
use Rattle.pair_runner.specs.Faults.{of_link}
use Rattle.pair_runner.specs.Outcomes.{Stops, BreaksOff, IsOutcome, behind_boot, broken_behind_boot}
use Rattle.pair_runner.specs.Sending.{given_in, sent_in, boot_talk, Talks, Parts, Moves, Breaks}
use Rattle.pair_runner.proofs.Moving.{Law, talks_more, parts_behind, breaks_by_parts}
use Rattle.pair_runner.proofs.Parts.{part_more}
use Rattle.pair_runner.proofs.Pieces.{boot_given, boot_sent}

pub stops_mapped : (moves moves' : List Event → List ℕ → Type 0) (m : Monitor) (stopped : Stopped) → ((talk : List Event) (bytes : List ℕ) → moves talk bytes → moves' talk bytes) → Stops moves m stopped → Stops moves' m stopped
stops_mapped moves moves' m stopped f s = record {
  talk = s.talk;
  served = s.served;
  moved = f s.talk s.served.bytes s.moved;
  serves = s.serves;
  replied = s.replied;
  few = s.few;
  frames = s.frames;
  ending = s.ending;
  stream = s.stream;
  whole = s.whole;
  stop = s.stop;
}

pub broken_mapped : (breaks breaks' : List ℕ → List ℕ → List ℕ → Type 0) (m : Monitor) → ((given sent bytes : List ℕ) → breaks given sent bytes → breaks' given sent bytes) → BreaksOff breaks m → BreaksOff breaks' m
broken_mapped breaks breaks' m f b = record { given = b.given; few = b.few; frames = b.frames; ending = b.ending; stream = b.stream; broke = f b.given _ _ b.broke }

pub outcome_mapped : (moves moves' : List Event → List ℕ → Type 0) (breaks breaks' : List ℕ → List ℕ → List ℕ → Type 0) (m : Monitor) → ((talk : List Event) (bytes : List ℕ) → moves talk bytes → moves' talk bytes) →
    ((given sent bytes : List ℕ) → breaks given sent bytes → breaks' given sent bytes) → (result : Result End RunFault) → IsOutcome moves breaks m result → IsOutcome moves' breaks' m result
outcome_mapped moves moves' breaks breaks' m f g (Ok end) h = stops_mapped moves moves' m _ f h
outcome_mapped moves moves' breaks breaks' m f g (Err (BadPeer rule offset)) (r, e, s) = (r, e, stops_mapped moves moves' m _ f s)
outcome_mapped moves moves' breaks breaks' m f g (Err PeerEnded) h = stops_mapped moves moves' m _ f h
outcome_mapped moves moves' breaks breaks' m f g (Err LinkFailed) h = broken_mapped breaks breaks' m g h
outcome_mapped moves moves' breaks breaks' m f g (Err SinkFailed) h = broken_mapped breaks breaks' m g h
outcome_mapped moves moves' breaks breaks' m f g (Err Memory) h = broken_mapped breaks breaks' m g h

-- the boot was sent, and then the peer served
pub behind_the_boot : {L K : Type 0} (came : L → List Event → L → Type 0) (sent given : L → Option (List ℕ)) (taken : K → Option (List ℕ)) → Law came → (a b c : L) (k n : K) (boot : List ℕ) (m : Monitor) (result : Result End RunFault) →
    Talks came sent given a b (boot_talk boot) → IsOutcome (Moves came sent given taken b c k n) (Breaks sent given taken b c k n) m result →
    IsOutcome (behind_boot (Moves came sent given taken a c k n) boot) (broken_behind_boot (Breaks sent given taken a c k n) boot) m result
behind_the_boot came sent given taken further a b c k n boot m result first h =
    outcome_mapped (Moves came sent given taken b c k n) (behind_boot (Moves came sent given taken a c k n) boot) (Breaks sent given taken b c k n) (broken_behind_boot (Breaks sent given taken a c k n) boot) m
    (λ talk bytes moved. record { talks = talks_more came sent given further a b c (boot_talk boot) talk first moved.talks; writes = moved.writes })
    (λ g s bytes broke. record { parts = parts g s broke.parts; writes = broke.writes }) result h
  where
    parts : (g s : List ℕ) → Parts sent given b c g s → Parts sent given a c g (boot_frames boot ++ s)
    parts g s p =
        subst (λ l. Parts sent given a c (l ++ g) (boot_frames boot ++ s)) (boot_given boot)
        (subst (λ l. Parts sent given a c (given_in (boot_talk boot) ++ g) (l ++ s)) (boot_sent boot)
        (subst (λ l. Parts sent given a c (given_in (boot_talk boot) ++ g) (sent_in (boot_talk boot) ++ l)) (append-nil s) (parts_behind came sent given a b c (boot_talk boot) g s [] first p)))

-- the boot wasn't sent whole
unsent : {L K : Type 0} (sent given : L → Option (List ℕ)) (taken : K → Option (List ℕ)) (a b : L) (k : K) (boot : List ℕ) (m : Monitor) → Parts sent given a b [] (boot_frames boot) → BreaksOff (broken_behind_boot (Breaks sent given taken a b k k) boot) m
unsent sent given taken a b k boot m p = record {
  given = [];
  few = omega arith;
  frames = [];
  ending = open_end;
  stream = inl (omega arith);
  broke = breaks_by_parts sent given taken a b k [] (boot_frames boot ++ []) [] (record { given_so = p.given_so; sent_so = part_more (sent a) (sent b) (boot_frames boot) [] p.sent_so });
}

pub boot_unsent : {L K : Type 0} (came : L → List Event → L → Type 0) (sent given : L → Option (List ℕ)) (taken : K → Option (List ℕ)) (a b : L) (k : K) (boot : List ℕ) (m : Monitor) (fault : LinkFault) → Parts sent given a b [] (boot_frames boot) →
    IsOutcome (behind_boot (Moves came sent given taken a b k k) boot) (broken_behind_boot (Breaks sent given taken a b k k) boot) m (Err (of_link fault))
boot_unsent came sent given taken a b k boot m link.Failed p = unsent sent given taken a b k boot m p
boot_unsent came sent given taken a b k boot m link.Memory p = unsent sent given taken a b k boot m p
