-- What a run comes to, over an honest spawner.
use Rattle.std.proofs.Common.{◌≡◌, ◌∙◌, ◌<◌, ◌^◌, ℕ, Bool, true, List, [], ◌∷◌, ◌++◌, length, Option, Ok, Err, refl, sym, subst}
use Rattle.std.specs.Prelude.{◌||◌, ◌&&◌, IsTrue, drop, ⊤}
use Rattle.std.specs.Io.KnownBytes.{Appends}
use Rattle.boot_fields.specs.Limits.{Spells}
use Rattle.honest_link.specs.Came.{IsHonest, Started}
use Rattle.honest_link.specs.Talks.{Along}
use Rattle.pair_running.specs.HonestTalksLaws.{BegunPairsAreFair, HonestTalksAreExpected, IsHonestTalk}
use Rattle.monitor_interp.specs.Gates.{hosts_for}
use Rattle.pair_meaning.specs.Peer.{are_its_replies, begins, boot_frames, cut, is_form, says}
use Rattle.pair_meaning.specs.Streams.{Stopped, at_end, at_rule, still_open}
use Rattle.pair_runner.specs.declared.fault.RunFault.{RunFault}
use Rattle.pair_runner.specs.declared.fault.RunFault.TheVariants.{LinkFailed, SinkFailed, BadPeer, PeerEnded, Memory}
use Rattle.pair_runner.specs.Outcomes.{IsOutcome, Stops, behind_boot, broken_behind_boot}
use Rattle.pair_runner.specs.Sending.{Breaks, Moves, boot_talk}
use Rattle.pair_texts.specs.declared.pair.Pair.{Pair}
use Rattle.pair_texts.specs.Seen.{monitor_in}
use Rattle.pair_texts.specs.Start.{Texts}
use Rattle.pair_running.specs.HonestTalksLaws.{HostsAre, expected_of}
use Rattle.policy.specs.Verdicts.{start}
use Rattle.pt_base.specs.declared.end.End.{End}
use Rattle.pt_base.specs.Talk.{Event, gave, took}
use Rattle.pt_core.specs.CodeTree.{BootTree, MonitorTree, view_boot}
use Rattle.runs.specs.Run.{Expected}
use Rattle.runs.specs.State.{Hosts}
use Rattle.pair_running.specs.LocalPairRunning.{AreTextsOf}
use Rattle.pair_running.specs.LocalPairWhole.{alone}
use Rattle.pair_running.specs.declared.spawned_pair.outcome.Outcome.TheVariants.{Ran}
use Rattle.pair_running.specs.SpawnedPairOutcomeSeen.{IsExpectedOver, IsHonestFor}
use Rattle.pair_running.proofs.SpawnedPairBeginning.{begun_of}

-- ---- at the beginning

begins_none : (ys : List ℕ) → begins [] ys ≡ true
begins_none [] = refl
begins_none (y ∷ ys) = refl

or_true : (x y : Bool) → x ≡ true → IsTrue (x || y)
or_true x y is = rw is refl

-- nothing sent has the form
none_in_form : (bytes : List ℕ) (b : BootTree) → IsTrue (is_form bytes b [])
none_in_form bytes b = or_true (begins [] (boot_frames bytes)) (begins (boot_frames bytes) [] && are_its_replies b (cut (drop (length (boot_frames bytes)) []))) (begins_none (boot_frames bytes))

-- whatever holds at last
loosened : (says : List ℕ → List ℕ) (form : List ℕ → Bool) (After : List ℕ → List ℕ → Type 0) (talk : List Event) (s g : List ℕ) → Along says form After s g talk → Along says form (λ sent given. ⊤) s g talk
loosened says form After [] s g h = tt {0}
loosened says form After (took bytes ∷ talk) s g h = λ is. loosened says form After talk (s ++ bytes) g (h is)
loosened says form After (gave piece ∷ talk) s g h = (h.0, h.1, loosened says form After talk s (g ++ piece) h.2)

-- a monitor's own hosts are those that its program has signatures of
own_hosts_are : (p : MonitorTree) (hosts : Hosts) → HostsAre p (hosts_for p hosts) hosts
own_hosts_are p hosts f has host = rw has refl

abbrev expected_in : (pair : Pair) (turns : ℕ) (t : Texts) → AreTextsOf pair turns t → Expected
expected_in pair turns t texts =
    let b = (begun_of pair turns t texts).started in
    expected_of b.tree (start b.rules) b.hosts t.input turns

-- ---- where the peer is served

-- Both laws, and what they are of.
pub record Knows {S : Type 0} (honest : S → (List ℕ → List ℕ) → (List ℕ → Bool) → Type 0) (sent given : S → Option (List ℕ)) (spawner : S) (pair : Pair) (turns : ℕ) (t : Texts) (bytes : List ℕ) : Type 0 where
  pub talks : HonestTalksAreExpected
  pub fair : BegunPairsAreFair
  pub small : turns < 2 ^ 32
  pub texts : AreTextsOf pair turns t
  pub spelled : Spells (view_boot pair.boot) bytes
  pub for_it : IsHonestFor honest sent given t turns spawner

-- it stopped at the expected end, and the expected bytes are written
record StopsAsExpected (e : Expected) (stopped : Stopped) (writes : List ℕ → Type 0) : Type 0 where
  at : stopped ≡ at_end e.end
  written : writes e.bytes

stops_as_expected : {S K : Type 0} (starts : S → S → Type 0) (came : S → List Event → S → Type 0) (honest : S → (List ℕ → List ℕ) → (List ℕ → Bool) → Type 0) (sent given : S → Option (List ℕ)) (taken : K → Option (List ℕ)) (a b : S) (k n : K) (pair : Pair) (turns : ℕ) (t : Texts) (bytes : List ℕ) (stopped : Stopped) →
    (x : Knows honest sent given a pair turns t bytes) → Stops (behind_boot (Moves (Started starts came honest sent given) sent given taken a b k n) bytes) (alone (monitor_in pair turns)) stopped →
    StopsAsExpected (expected_in pair turns t x.texts) stopped (Appends (taken k) (taken n))
stops_as_expected starts came honest sent given taken a b k n pair turns t bytes stopped x s =
    let m = monitor_in pair turns in
    let boot = view_boot pair.boot in
    let begun = begun_of pair turns t x.texts in
    let pair_is = x.fair t turns boot m begun (hosts_for m.program m.hosts) bytes x.texts.bytes x.small (own_hosts_are m.program m.hosts) x.spelled in
    let at_first : IsHonest honest sent given a (says boot) (is_form bytes boot) [] [] = record {
      is = x.for_it.is_honest boot m bytes begun.started x.spelled;
      sent_so = x.for_it.none_sent;
      given_so = x.for_it.none_given;
      in_form = none_in_form bytes boot;
    } in
    let talk_is : IsHonestTalk boot bytes (boot_talk bytes ++ s.talk) =
    loosened (says boot) (is_form bytes boot) (IsHonest honest sent given b (says boot) (is_form bytes boot)) (boot_talk bytes ++ s.talk) [] [] (s.moved.talks.came_by.along (says boot) (is_form bytes boot) [] [] at_first) in
    let comes = x.talks (expected_in pair turns t x.texts) boot (alone m) pair_is bytes s.talk s.served talk_is s.serves in
    record { at = sym s.stop ∙ comes.0; written = subst (Appends (taken k) (taken n)) comes.1 s.moved.writes }

-- ---- what it comes to

no_rule : (rule : _) (place : ℕ) (end : End) → at_rule rule place ≡ at_end end → ⊥
no_rule rule place end is = cc

not_open : (end : End) → still_open ≡ at_end end → ⊥
not_open end is = cc

one_end : (end end' : End) → at_end end ≡ at_end end' → end ≡ end'
one_end end end' is = cc

pub expected_fault : {S K : Type 0} (starts : S → S → Type 0) (came : S → List Event → S → Type 0) (honest : S → (List ℕ → List ℕ) → (List ℕ → Bool) → Type 0) (sent given : S → Option (List ℕ)) (taken : K → Option (List ℕ)) (a b : S) (k n : K) (pair : Pair) (turns : ℕ) (t : Texts) (bytes : List ℕ) (fault : RunFault) →
    Knows honest sent given a pair turns t bytes → IsOutcome (behind_boot (Moves (Started starts came honest sent given) sent given taken a b k n) bytes) (broken_behind_boot (Breaks sent given taken a b k n) bytes) (alone (monitor_in pair turns)) (Err fault) →
    IsExpectedOver (λ written. Appends (taken k) (taken n) written) t turns (Err fault)
expected_fault starts came honest sent given taken a b k n pair turns t bytes LinkFailed x outcome = tt {0}
expected_fault starts came honest sent given taken a b k n pair turns t bytes SinkFailed x outcome = tt {0}
expected_fault starts came honest sent given taken a b k n pair turns t bytes (BadPeer number place) x outcome =
    no_rule outcome.0 place _ (stops_as_expected starts came honest sent given taken a b k n pair turns t bytes (at_rule outcome.0 place) x outcome.2).at
expected_fault starts came honest sent given taken a b k n pair turns t bytes PeerEnded x outcome = not_open _ (stops_as_expected starts came honest sent given taken a b k n pair turns t bytes still_open x outcome).at
expected_fault starts came honest sent given taken a b k n pair turns t bytes Memory x outcome = tt {0}

pub expected_end : {S K : Type 0} (starts : S → S → Type 0) (came : S → List Event → S → Type 0) (honest : S → (List ℕ → List ℕ) → (List ℕ → Bool) → Type 0) (sent given : S → Option (List ℕ)) (taken : K → Option (List ℕ)) (a b : S) (k n : K) (pair : Pair) (turns : ℕ) (t : Texts) (bytes : List ℕ) (end : End) (names : List (List ℕ)) →
    Knows honest sent given a pair turns t bytes → IsOutcome (behind_boot (Moves (Started starts came honest sent given) sent given taken a b k n) bytes) (broken_behind_boot (Breaks sent given taken a b k n) bytes) (alone (monitor_in pair turns)) (Ok end) →
    names ≡ pair.names → IsExpectedOver (λ written. Appends (taken k) (taken n) written) t turns (Ok (Ran end names))
expected_end starts came honest sent given taken a b k n pair turns t bytes end names x outcome named =
    let begun = (begun_of pair turns t x.texts).started in
    let e = expected_in pair turns t x.texts in
    let stops = stops_as_expected starts came honest sent given taken a b k n pair turns t bytes (at_end end) x outcome in (
      e.bytes,
      (
        begun.tree,
        e,
        record { hosts = begun.hosts; rules = begun.rules; accepted = begun.accepted; read = begun.read; is = begun.is; short = begun.short; expected_is = refl },
        refl,
        named ∙ x.texts.begins.1,
        one_end end e.end stops.at,
      ),
      stops.written,
    )
