-- The pair that begins from faultless texts is a fair one.
use Rattle.std.proofs.Common.{◌<◌, ◌^◌, ℕ, subst, sym}
use Rattle.std.specs.Prelude.{All, IsTrue}
use Rattle.std.specs.List.{list_any}
use Rattle.pt_base.proofs.Lists.{bytes_if}
use Rattle.runs.specs.State.{Hosts}
use Rattle.typed_tree.specs.TypedTree.{TypedTree}
use Rattle.policy.specs.Verdicts.{start}
use Rattle.host_models.specs.Fitting.{fits}
use Rattle.half_names_law.specs.SaidLaws.{CheckedProgramsPlaceNulls}
use Rattle.half_names_law.specs.SaidNulls.{nulls_stand}
use Rattle.pt_core.specs.CodeTree.{BootTree}
use Rattle.pt_core.specs.WellFormed.{is_well_formed_boot}
use Rattle.pair_meaning.specs.Monitors.{Monitor}
use Rattle.pair_meaning.specs.SlaveRun.{slave_of}
use Rattle.pair_meaning.specs.Start.{reads_input}
use Rattle.pair_invariant_law.specs.Laws.{CallsKeep}
use Rattle.pair_invariant_law.specs.Slaves.{Stays}
use Rattle.pair_laws.specs.BegunPairsLaws.{AcceptedSlavesStay, AcceptedPairsBegin, boot_at, setting_of, BegunBootsAreWellFormed, BegunPairsAreExpected, HostsAre, with_hosts}
use Rattle.pair_laws.specs.PairStepsEnds.{Begins}
use Rattle.pair_laws.specs.AwaitedRepliesLaws.{RepliesAreAwaited}
use Rattle.slave_soundness_law.specs.MessagesLaws.{SpokenMessagesAreSpelled}
use Rattle.pair_texts.specs.Start.{HaveBegun, Texts}
use Rattle.pair_running.specs.HonestTalksLaws.{BegunPairsAreFair}

-- what both begin as the halves of
module _ (t : Texts) (turns : ℕ) (boot : BootTree) (monitor : Monitor) (b : HaveBegun t turns boot monitor) where
  abbrev tree : TypedTree
  tree = b.started.tree

  abbrev at_start : BootTree
  at_start = boot_at tree b.started.accepted b.started.hosts t.input turns

  stays : BegunBootsAreWellFormed → AcceptedSlavesStay → All (λ b. b < 256) t.input → turns < 2 ^ 32 → Stays (slave_of at_start)
  stays boots slaves bytes small =
      let well : IsTrue (is_well_formed_boot fits at_start) = subst (λ (x : BootTree). IsTrue (is_well_formed_boot fits x)) b.started.boot_is (boots t turns boot monitor b) in
      slaves tree b.started.accepted at_start.hosts at_start.input at_start.turns b.well_formed b.started.is well (bytes_if (list_any (λ h. reads_input h.1) at_start.hosts) t.input bytes) small

  begins : CheckedProgramsPlaceNulls → BegunBootsAreWellFormed → AcceptedSlavesStay → AcceptedPairsBegin → (own : Hosts) → All (λ b. b < 256) t.input → turns < 2 ^ 32 → HostsAre monitor.program own monitor.hosts →
      Begins Stays (setting_of tree b.started.accepted (start b.started.rules) b.started.hosts t.input turns) boot (with_hosts own monitor)
  begins nulls boots slaves begin own bytes small are =
      let s = b.started in
      let w = setting_of tree s.accepted (start s.rules) s.hosts t.input turns in
      let placed : IsTrue (nulls_stand tree) = subst (λ (x : TypedTree). IsTrue (nulls_stand x)) (sym s.read.program.typed) (nulls s.read.program.program) in
      subst (λ (x : BootTree). Begins Stays w x (with_hosts own monitor)) (sym s.boot_is)
      (subst (λ (m : Monitor). Begins Stays w at_start (with_hosts own m)) (sym s.monitor_is)
      (begin tree s.accepted (start s.rules) s.hosts t.input turns own (record { well_formed = b.well_formed; accepted = s.is; has_hosts = b.has_hosts })
      (subst (λ (m : Monitor). HostsAre m.program own m.hosts) s.monitor_is are) placed bytes small (stays boots slaves bytes small)))

pub pairs_are_fair : BegunPairsAreExpected → BegunBootsAreWellFormed → CheckedProgramsPlaceNulls → AcceptedSlavesStay → AcceptedPairsBegin → CallsKeep Stays → RepliesAreAwaited Stays → SpokenMessagesAreSpelled → BegunPairsAreFair
pairs_are_fair expected boots nulls slaves begin calls awaited spoken t turns boot monitor b own bytes input small are spells = record {
  expected = expected t turns boot monitor b own input small are;
  awaited = λ given rest said.
      awaited calls (setting_of b.started.tree b.started.accepted (start b.started.rules) b.started.hosts t.input turns) boot (with_hosts own monitor) (begins t turns boot monitor b nulls boots slaves begin own input small are) given rest said;
  spelled = λ replies. spoken boot bytes spells (boots t turns boot monitor b) replies;
}
