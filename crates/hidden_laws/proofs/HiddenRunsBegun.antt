-- The monitors of pairs that begin are sound.
use Rattle.std.proofs.Common.{◌∙◌, ◌<◌, ◌^◌, ℕ, sym, ap, subst}
use Rattle.std.specs.Prelude.{All, IsTrue, is_some}
use Rattle.pt_tree.specs.declared.signature.Signature.{Signature}
use Rattle.runs.specs.State.{Hosts}
use Rattle.host_models.specs.Fitting.{fits}
use Rattle.host_table.specs.RunHosts.{models_of}
use Rattle.policy.specs.Verdicts.{start}
use Rattle.pt_core.specs.CodeTree.{BootTree, MonitorTree}
use Rattle.pt_core.specs.Calls.{signature_in}
use Rattle.pt_core.specs.WellFormed.{is_well_formed_monitor, monitor_program}
use Rattle.program_halves.specs.ProgramHalves.{monitor_half}
use Rattle.pair_invariant_law.proofs.MonitorGatesModels.{called_signed}
use Rattle.pair_meaning.specs.Monitors.{Monitor}
use Rattle.monitor_soundness_law.specs.ServingLaws.{MonitorsBeginSound}
use Rattle.monitor_soundness_law.specs.ServingSound.{HostsServe, IsSound}
use Rattle.monitor_soundness_law.proofs.ServingEntries.{facts_of_entry, sound_of}
use Rattle.pair_texts.specs.Start.{HaveBegun, Texts}
use Rattle.pair_laws.specs.BegunPairsLaws.{BegunMonitorsAreWellFormed, BegunMonitorsHostsServe, HostsAre, with_hosts}
use Rattle.hidden_laws.specs.HiddenRunsLaws.{BegunRunsAreLow, RunsAreLow, RunsGoAlike}

-- what a monitor calls or may be asked for has a signature, so the same stands for it
own_serve : (p : MonitorTree) (own hosts : Hosts) → IsTrue (is_well_formed_monitor p) → HostsAre p own hosts → HostsServe p hosts → HostsServe p own
own_serve p own hosts well are serve = record {
  called = λ f is host.
      subst (λ h. IsTrue (fits h (signature_in (monitor_program p) f))) (sym (are f (called_signed (monitor_program p) f (sound_of p well) is) host)) (serve.called f is host);
  asked = λ f s entry host.
      let facts = facts_of_entry p f s well entry in
      subst (λ h. IsTrue (fits h s)) (sym (are f (ap is_some facts.signed) (ap (λ (z : Signature). z.host) facts.signature ∙ host))) (serve.asked f s entry host);
}

module _ (sound : MonitorsBeginSound) (well : BegunMonitorsAreWellFormed) (serve : BegunMonitorsHostsServe) where
  begun_sound : (t : Texts) (turns : ℕ) (boot : BootTree) (m : Monitor) → HaveBegun t turns boot m → (own : Hosts) → All (λ b. b < 256) t.input → turns < 2 ^ 32 → HostsAre m.program own m.hosts → IsSound (with_hosts own m)
  begun_sound t turns boot m b own bytes small are =
      let half : MonitorTree = monitor_half b.started.tree b.started.accepted in
      let is = b.started.monitor_is in
      let well' : IsTrue (is_well_formed_monitor half) = subst (λ (x : Monitor). IsTrue (is_well_formed_monitor x.program)) is (well t turns boot m b) in
      let serve' : HostsServe half (models_of b.started.hosts.models) = subst (λ (x : Monitor). HostsServe x.program x.hosts) is (serve t turns boot m b) in
      let are' : HostsAre half own (models_of b.started.hosts.models) = subst (λ (x : Monitor). HostsAre x.program own x.hosts) is are in
      subst (λ (x : Monitor). IsSound (with_hosts own x)) (sym is)
      (sound half own t.input (start b.started.rules) turns well' (own_serve half own (models_of b.started.hosts.models) well' are' serve') bytes small)

  pub begun_low : RunsAreLow → BegunRunsAreLow
  begun_low law t t' turns b b' m m' own own' both boots same =
      subst (λ (x : BootTree). RunsGoAlike b x (with_hosts own m) (with_hosts own' m')) boots
      (law b (with_hosts own m) (with_hosts own' m') (begun_sound t turns b m both.one own both.bytes both.small both.own_are) (begun_sound t' turns b' m' both.other own' both.other_bytes both.small both.other_own) same)
