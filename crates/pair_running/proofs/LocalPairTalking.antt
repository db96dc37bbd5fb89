-- What a monitor's talk with a link in memory comes to.
use Rattle.std.proofs.Common.{◌≡◌, ◌∙◌, ℕ, List, [], ◌++◌, Option, Some, None, Err, refl, sym, subst, inl, inr, arith}
use Rattle.pt_base.specs.declared.chooser.Who as base
use Rattle.pt_base.specs.declared.end.End.{End}
use Rattle.pt_base.specs.Faults.{HasCause, Rose}
use Rattle.pt_base.specs.Talk.{Event}
use Rattle.pair_meaning.specs.LinkChoosing.{AreTaken}
use Rattle.pair_meaning.specs.LinkTalks.{Side, Runs, begun}
use Rattle.memory_link.specs.declared.link.MemoryLink.{MemoryLink}
use Rattle.memory_link.specs.Came.{Came, IsLink}
use Rattle.pair_running.specs.MemoryTalksLaws.{ComesToAnEnd, TalksAreWhole, TalksEnd}
use Rattle.pair_protocol.specs.Pair.{IsWhole}
use Rattle.pair_meaning.specs.Monitors.{Monitor}
use Rattle.pair_meaning.specs.Pair.{the_sides}
use Rattle.pair_meaning.specs.Rules.{PeerRule}
use Rattle.pair_meaning.specs.SlaveRun.{Slave}
use Rattle.pair_meaning.specs.Streams.{Stopped, at_end, at_rule, still_open}
use Rattle.pair_runner.specs.declared.fault.RunFault.{RunFault}
use Rattle.pair_runner.specs.declared.fault.RunFault.TheVariants.{LinkFailed, SinkFailed, BadPeer, PeerEnded, Memory}
use Rattle.pair_runner.specs.Outcomes.{IsOutcome, Stops, behind_boot, broken_behind_boot}
use Rattle.pair_runner.specs.Sending.{Breaks, Moves, boot_talk}
use Rattle.pair_running.specs.declared.local_pair.sink.Written.{Written}
use Rattle.pair_running.specs.LocalPairRunning.{HaveRun}

-- ---- over a link in memory, to a sink in memory

abbrev nothing_told : {L : Type 0} → L → Option (List ℕ)
nothing_told link = None

abbrev pub taken : Written → Option (List ℕ)
taken w = Some w.bytes.items

-- by this talk behind the boot the link and the sink came from there to here
abbrev pub TalksBy : {C : Type 0} → (C → Option (ℕ → base.Who)) → MemoryLink C → MemoryLink C → Written → Written → List ℕ → List Event → List ℕ → Type 0
TalksBy answers a b sink sink' boot = behind_boot (Moves (Came answers) nothing_told nothing_told taken a b sink sink') boot

abbrev pub BreaksBy : {C : Type 0} → MemoryLink C → MemoryLink C → Written → Written → List ℕ → List ℕ → List ℕ → List ℕ → Type 0
BreaksBy a b sink sink' boot = broken_behind_boot (Breaks nothing_told nothing_told taken a b sink sink') boot

-- it stands at its beginning, with this slave and this window
pub record Begins {C : Type 0} (a : MemoryLink C) (x : Slave) (window : ℕ) (sink : Written) : Type 0 where
  pub link : IsLink a (begun x)
  pub window_is : a.window ≡ window
  pub none : sink.bytes.items ≡ []

-- ---- an end

-- under the answers that were taken the talk runs
runs : {C : Type 0} (answers : C → Option (ℕ → base.Who)) (a b : MemoryLink C) (x : Slave) (window : ℕ) (talk : List Event) → IsLink a (begun x) → a.window ≡ window →
    (came : Came answers a talk b) → (s' : Side) × Runs window came.under (begun x) talk s'
runs answers a b x window talk is same came =
    let so = came.runs (begun x) is in
    (so.0, subst (λ w. Runs w came.under (begun x) talk so.0) same so.2)

written_is : (sink sink' : Written) (bytes : List ℕ) → sink.bytes.items ≡ [] → sink'.bytes.items ≡ sink.bytes.items ++ bytes → bytes ≡ sink'.bytes.items
written_is sink sink' bytes none is = sym (is ∙ (λ i. none i ++ bytes))

have_run : {C : Type 0} (answers : C → Option (ℕ → base.Who)) (a b : MemoryLink C) (sink sink' : Written) (boot : List ℕ) (x : Slave) (m : Monitor) (window : ℕ) (end : End) →
    TalksAreWhole → Begins a x window sink → Stops (TalksBy answers a b sink sink' boot) m (at_end end) →
    HaveRun x m window (answers a.chooser.now) (answers b.chooser.now) sink'.bytes.items end
have_run answers a b sink sink' boot x m window end law at stops =
    let came = stops.moved.talks.came_by in
    let so = runs answers a b x window (boot_talk boot ++ stops.talk) at.link at.window_is came in
    record {
      answers = came.under;
      taken = came.taken;
      whole = subst (λ bytes. IsWhole the_sides x m window came.under bytes end) (written_is sink sink' stops.served.bytes at.none stops.moved.writes)
          (law window came.under x m boot stops.talk stops.served end so.0 so.1 stops.serves stops.stop);
    }

-- the chooser, and the bytes, are those that are handed on
pub run_of : {C : Type 0} (answers : C → Option (ℕ → base.Who)) (chooser left : C) (a b : MemoryLink C) (sink sink' : Written) (boot : List ℕ) (x : Slave) (m : Monitor) (window : ℕ) (bytes : List ℕ) (end : End) →
    TalksAreWhole → Begins a x window sink → a.chooser.now ≡ chooser → left ≡ b.chooser.now → bytes ≡ sink'.bytes.items → Stops (TalksBy answers a b sink sink' boot) m (at_end end) →
    HaveRun x m window (answers chooser) (answers left) bytes end
run_of {C = C} answers chooser left a b sink sink' boot x m window bytes end law at first last are stops =
    let run = have_run answers a b sink sink' boot x m window end law at stops in
    record {
      answers = run.answers;
      taken = subst (λ (c : C). AreTaken run.answers (answers chooser) (answers c)) (sym last)
          (subst (λ (c : C). AreTaken run.answers (answers c) (answers b.chooser.now)) first run.taken);
      whole = subst (λ xs. IsWhole the_sides x m window run.answers xs end) (sym are) run.whole;
    }

-- ---- nothing else

no_rise : Rose 0 0 → ⊥
no_rise (inl over) = omega (arith, over)
no_rise (inr over) = omega (arith, over)

-- the talk doesn't stop before an end, and breaks no rule
ends : {C : Type 0} (answers : C → Option (ℕ → base.Who)) (a b : MemoryLink C) (sink sink' : Written) (boot : List ℕ) (x : Slave) (m : Monitor) (window : ℕ) (stopped : Stopped) →
    TalksEnd → ComesToAnEnd x m window → Begins a x window sink → Stops (TalksBy answers a b sink sink' boot) m stopped →
    (stopped ≡ still_open → ⊥) × ((rule : PeerRule) (place : ℕ) → stopped ≡ at_rule rule place → ⊥)
ends answers a b sink sink' boot x m window stopped law end at stops =
    let came = stops.moved.talks.came_by in
    let so = runs answers a b x window (boot_talk boot ++ stops.talk) at.link at.window_is came in
    let not = law window came.under x m boot stops.talk stops.served so.0 end so.1 stops.serves in
    ((λ is. not.0 (stops.stop ∙ is)), (λ rule place is. not.1 rule place (stops.stop ∙ is)))

pub only_memory : {C : Type 0} (answers : C → Option (ℕ → base.Who)) (a b : MemoryLink C) (sink sink' : Written) (boot : List ℕ) (x : Slave) (m : Monitor) (window : ℕ) (fault : RunFault) →
    TalksEnd → ComesToAnEnd x m window → Begins a x window sink → IsOutcome (TalksBy answers a b sink sink' boot) (BreaksBy a b sink sink' boot) m (Err fault) →
    HasCause {T = End} 0 0 (Err fault) LinkFailed Memory → HasCause {T = End} 0 0 (Err fault) SinkFailed Memory → fault ≡ Memory
only_memory answers a b sink sink' boot x m window LinkFailed law end at outcome link sink_cause = absurd (no_rise (link.cause refl))
only_memory answers a b sink sink' boot x m window SinkFailed law end at outcome link sink_cause = absurd (no_rise (sink_cause.cause refl))
only_memory answers a b sink sink' boot x m window (BadPeer number place) law end at outcome link sink_cause =
    absurd ((ends answers a b sink sink' boot x m window (at_rule outcome.0 place) law end at outcome.2).1 outcome.0 place refl)
only_memory answers a b sink sink' boot x m window PeerEnded law end at outcome link sink_cause =
    absurd ((ends answers a b sink sink' boot x m window still_open law end at outcome).0 refl)
only_memory answers a b sink sink' boot x m window Memory law end at outcome link sink_cause = refl
