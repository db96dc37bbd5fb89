-- What begins from texts comes to what is expected of them.
use Rattle.std.proofs.Common.{◌≡◌, ◌∙◌, ◌<◌, ◌≤◌, ◌+◌, ◌^◌, ℕ, List, [], Some, None, Err, refl, sym, ap, subst, arith}
use Rattle.std.specs.Prelude.{All, IsTrue, Option}
use Rattle.host_models.specs.Fitting.{fits}
use Rattle.host_table.specs.Hosts.{hosts_of}
use Rattle.host_table.specs.RunHosts.{models_of}
use Rattle.runs.specs.Run.{Expected}
use Rattle.runs.specs.State.{Hosts}
use Rattle.pt_base.specs.declared.chooser.Who as base
use Rattle.pt_base.specs.declared.end.End.{End}
use Rattle.policy.specs.Verdicts.{start}
use Rattle.pt_core.specs.CodeTree.{BootTree, MonitorTree, view_boot, view_monitor}
use Rattle.pt_core.specs.WellFormed.{is_well_formed_boot, is_well_formed_monitor}
use Rattle.pair_meaning.specs.Monitors.{Monitor}
use Rattle.pair_meaning.specs.SlaveRun.{longest, slave_of}
use Rattle.pair_laws.specs.BegunPairsLaws.{HostsServe}
use Rattle.monitor_interp.specs.Gates.{hosts_for}
use Rattle.pair_running.specs.MemoryTalksLaws.{ComesToAnEnd}
use Rattle.pair_laws.specs.BegunPairsLaws.{HostsAre}
use Rattle.pair_laws.specs.BegunPairsLaws.{DoesWhatIsExpected, expected_of}
use Rattle.pair_meaning.specs.LinkChoosing.{AreTaken}
use Rattle.stages.specs.declared.refusal.Stop.{Stop}
use Rattle.stages.specs.declared.refusal.Stop.TheVariants.{Refused, Memory}
use Rattle.pair_texts.specs.declared.pair.Pair.{Pair}
use Rattle.pair_texts.specs.Seen.{monitor_in}
use Rattle.pair_texts.specs.Start.{HaveBegun, Texts}
use Rattle.pair_laws.specs.BegunPairsLaws.{BegunBootsAreWellFormed, BegunMonitorsAreWellFormed, BegunMonitorsHostsServe, BegunPairsAreExpected}
use Rattle.pair_running.specs.declared.local_pair.running.Begun.{Begun}
use Rattle.pair_running.specs.LocalPairLocal.{IsPairRun}
use Rattle.pair_running.specs.LocalPairOutcomeSeen.{IsWholeRun}
use Rattle.pair_running.specs.LocalPairRunning.{AreTextsOf, BeginsAs, HaveRun, StandAt}
use Rattle.pair_running.specs.LocalPairWhole.{HasWhole, alone}

-- ---- what both begin from

abbrev begun_of : (pair : Pair) (turns : ℕ) (t : Texts) → AreTextsOf pair turns t → HaveBegun t turns (view_boot pair.boot) (monitor_in pair turns)
begun_of pair turns t texts = texts.begins.0

pub boot_is_well_formed : BegunBootsAreWellFormed → (pair : Pair) (turns : ℕ) (t : Texts) → AreTextsOf pair turns t → IsTrue (is_well_formed_boot fits (view_boot pair.boot))
boot_is_well_formed law pair turns t texts = law t turns (view_boot pair.boot) (monitor_in pair turns) (begun_of pair turns t texts)

pub monitor_is_well_formed : BegunMonitorsAreWellFormed → (pair : Pair) (turns : ℕ) (t : Texts) → AreTextsOf pair turns t → IsTrue (is_well_formed_monitor (view_monitor pair.monitor))
monitor_is_well_formed law pair turns t texts = law t turns (view_boot pair.boot) (monitor_in pair turns) (begun_of pair turns t texts)

pub hosts_serve : BegunMonitorsHostsServe → (pair : Pair) (turns : ℕ) (t : Texts) → AreTextsOf pair turns t → HostsServe (view_monitor pair.monitor) (models_of (hosts_of pair.hosts).models)
hosts_serve law pair turns t texts = law t turns (view_boot pair.boot) (monitor_in pair turns) (begun_of pair turns t texts)

pub input_is_bytes : (pair : Pair) (turns : ℕ) (t : Texts) → AreTextsOf pair turns t → All (λ b. b < 256) (hosts_of pair.hosts).input
input_is_bytes pair turns t texts =
    subst (λ (bytes : List ℕ). All (λ b. b < 256) bytes) (sym (ap (λ (m : Monitor). m.input) (begun_of pair turns t texts).started.monitor_is)) texts.bytes

-- ---- what is expected

-- a monitor's own hosts are those that its program has signatures of
pub own_hosts_are : (p : MonitorTree) (hosts : Hosts) → HostsAre p (hosts_for p hosts) hosts
own_hosts_are p hosts f has host = rw has refl

abbrev expected_in : (pair : Pair) (turns : ℕ) (t : Texts) → AreTextsOf pair turns t → Expected
expected_in pair turns t texts =
    let b = (begun_of pair turns t texts).started in
    expected_of b.tree (start b.rules) b.hosts t.input turns

does : BegunPairsAreExpected → (pair : Pair) (turns : ℕ) (t : Texts) (texts : AreTextsOf pair turns t) → turns < 2 ^ 32 →
    DoesWhatIsExpected (expected_in pair turns t texts) (view_boot pair.boot) (alone (monitor_in pair turns))
does law pair turns t texts small =
    let m = monitor_in pair turns in
    law t turns (view_boot pair.boot) m (begun_of pair turns t texts) (hosts_for m.program m.hosts) texts.bytes small (own_hosts_are m.program m.hosts)

comes_to_an_end : (e : Expected) (b : BootTree) (m : Monitor) (window : ℕ) → 1 ≤ window → DoesWhatIsExpected e b m → ComesToAnEnd (slave_of b) m window
comes_to_an_end e b m window some law =
    let positive : 0 < window = omega (arith, some) in
    (longest b + longest b, λ answers more. let so = law.comes window answers positive more in (so.0, so.1, so.2, e.bytes, e.end, so.3))

pub stand_at : BegunPairsAreExpected → (pair : Pair) (turns window : ℕ) (begun : Begun) (t : Texts) → turns < 2 ^ 32 → 1 ≤ window → AreTextsOf pair turns t → BeginsAs pair turns begun →
    StandAt begun.slave begun.monitor window (slave_of (view_boot pair.boot)) (alone (monitor_in pair turns))
stand_at law pair turns window begun t small some texts as_said = record {
  slave_is = as_said.slave;
  monitor_is = as_said.monitor;
  ends = comes_to_an_end (expected_in pair turns t texts) (view_boot pair.boot) (alone (monitor_in pair turns)) window some (does law pair turns t texts small);
}

-- ---- where nothing begins

-- no answer is taken
none_taken : (told : Option (ℕ → base.Who)) → AreTaken [] told told
none_taken None = tt
none_taken (Some told) = λ k. refl

pub none_run : (t : Texts) (turns window : ℕ) (told : Option (ℕ → base.Who)) (stop : Stop) → IsWholeRun t turns window told told (Err stop)
none_run t turns window told (Refused refusal) = none_taken told
none_run t turns window told Memory = tt

-- ---- what it comes to

-- a run of both halves of a pair
abbrev pub RunOf : Pair → ℕ → ℕ → Option (ℕ → base.Who) → Option (ℕ → base.Who) → List ℕ → End → Type 0
RunOf pair turns window told told' bytes end = HaveRun (slave_of (view_boot pair.boot)) (alone (monitor_in pair turns)) window told told' bytes end

pub comes_to : BegunPairsAreExpected → (pair : Pair) (turns window : ℕ) (told told' : Option (ℕ → base.Who)) (t : Texts) (bytes : List ℕ) (end : End) (names : List (List ℕ)) → turns < 2 ^ 32 →
    AreTextsOf pair turns t → RunOf pair turns window told told' bytes end → names ≡ pair.names → IsPairRun turns t (record { bytes = bytes; names = names; end = end })
comes_to law pair turns window told told' t bytes end names small texts run named =
    let b = (begun_of pair turns t texts).started in
    let e = expected_in pair turns t texts in
    let same : e ≡ record { bytes = bytes; end = end } = (does law pair turns t texts small).runs window run.answers bytes end run.whole in
    let back : record { bytes = bytes; end = end } ≡ e = sym same in (
      b.tree,
      e,
      record { hosts = b.hosts; rules = b.rules; accepted = b.accepted; read = b.read; is = b.is; short = b.short; expected_is = refl },
      ap (λ (x : Expected). x.bytes) back,
      named ∙ texts.begins.1,
      ap (λ (x : Expected). x.end) back,
    )

pub has_whole : (pair : Pair) (turns window : ℕ) (told told' : Option (ℕ → base.Who)) (t : Texts) (bytes : List ℕ) (end : End) →
    AreTextsOf pair turns t → RunOf pair turns window told told' bytes end → HasWhole t turns window told told' bytes
has_whole pair turns window told told' t bytes end texts run = record {
  boot = view_boot pair.boot;
  monitor = monitor_in pair turns;
  started = (begun_of pair turns t texts).started;
  answers = run.answers;
  taken = run.taken;
  end = end;
  whole = run.whole;
}
