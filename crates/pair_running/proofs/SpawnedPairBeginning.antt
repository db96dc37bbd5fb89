-- What a monitor begins with, of texts.
use Rattle.std.proofs.Common.{◌≡◌, ◌∙◌, ◌<◌, ℕ, List, Result, Err, MatchResult, sym, ap, subst}
use Rattle.std.specs.Prelude.{All, IsTrue}
use Rattle.host_table.specs.Hosts.{hosts_of}
use Rattle.host_table.specs.RunHosts.{models_of}
use Rattle.pt_core.specs.CodeTree.{view_boot, view_monitor}
use Rattle.pt_core.specs.WellFormed.{is_well_formed_monitor}
use Rattle.pair_meaning.specs.Monitors.{Monitor}
use Rattle.stages.specs.Climb.{IsRefused, of_pair}
use Rattle.stages.specs.Seen.{IsStop, view_refusal}
use Rattle.stages.specs.declared.refusal.Refusal.{Refusal}
use Rattle.stages.specs.declared.refusal.Stop.{Stop}
use Rattle.stages.specs.declared.refusal.Stop.TheVariants.{Refused}
use Rattle.pair_texts.specs.declared.pair.Pair.{Pair}
use Rattle.pair_texts.specs.Seen.{HasPair, monitor_in}
use Rattle.pair_texts.specs.Start.{HaveBegun, Texts}
use Rattle.pair_running.specs.HonestTalksLaws.{BegunMonitorsAreWellFormed, BegunMonitorsHostsServe, HostsServe}
use Rattle.pair_running.specs.LocalPairRunning.{AreTextsOf}

abbrev pub begun_of : (pair : Pair) (turns : ℕ) (t : Texts) → AreTextsOf pair turns t → HaveBegun t turns (view_boot pair.boot) (monitor_in pair turns)
begun_of pair turns t texts = texts.begins.0

pub monitor_is_well_formed : BegunMonitorsAreWellFormed → (pair : Pair) (turns : ℕ) (t : Texts) → AreTextsOf pair turns t → IsTrue (is_well_formed_monitor (view_monitor pair.monitor))
monitor_is_well_formed law pair turns t texts = law t turns (view_boot pair.boot) (monitor_in pair turns) (begun_of pair turns t texts)

pub hosts_serve : BegunMonitorsHostsServe → (pair : Pair) (turns : ℕ) (t : Texts) → AreTextsOf pair turns t → HostsServe (view_monitor pair.monitor) (models_of (hosts_of pair.hosts).models)
hosts_serve law pair turns t texts = law t turns (view_boot pair.boot) (monitor_in pair turns) (begun_of pair turns t texts)

pub input_is_bytes : (pair : Pair) (turns : ℕ) (t : Texts) → AreTextsOf pair turns t → All (λ b. b < 256) (hosts_of pair.hosts).input
input_is_bytes pair turns t texts =
    subst (λ (bytes : List ℕ). All (λ b. b < 256) bytes) (sym (ap (λ (m : Monitor). m.input) (begun_of pair turns t texts).started.monitor_is)) texts.bytes

-- texts that are refused
pub refused_so : (turns : ℕ) (t : Texts) (r : Result Pair Stop) (e : Stop) (refusal : Refusal) → MatchResult r (HasPair t turns) (IsStop of_pair t) → r ≡ Err e → e ≡ Refused refusal
    → IsRefused of_pair t (view_refusal refusal)
refused_so turns t r e refusal is same as_said = subst (λ (x : Result Pair Stop). MatchResult x (HasPair t turns) (IsStop of_pair t)) (same ∙ ap Err as_said) is
