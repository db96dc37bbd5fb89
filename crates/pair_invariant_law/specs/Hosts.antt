-- The hosts of a whole run and those of the halves.
use Rattle.std.specs.Prelude.{◌≡◌, ℕ, ℤ, true, List, IsTrue}
use Rattle.pt_tree.specs.HostStep.{host_step}
use Rattle.runs.specs.State.{Hosts}
use Rattle.host_models.specs.Fitting.{fits}
use Rattle.pt_core.specs.CodeTree.{ProgramTree}
use Rattle.pt_core.specs.Calls.{signature_in}
use Rattle.part_views_law.specs.StepsParts.{HasSignature}
use Rattle.pair_meaning.specs.Start.{reads_input}
use Rattle.pair_invariant_law.specs.Halves.{is_own_host}

-- For each host that the slave calls itself the same stands as in the whole, for each host of the monitor's too; the slave has the
-- whole's input where one of its own hosts reads it; and one that both may call answers alike for ever.
pub record HostsAgree (slave monitor : ProgramTree) (whole_hosts : Hosts) (input : List ℕ) (slave_hosts : Hosts) (slave_input : List ℕ) (monitor_hosts : Hosts) : Type 0 where
  pub slave_has : (f : ℕ) → HasSignature slave f → is_own_host (signature_in slave f) ≡ true → slave_hosts f ≡ whole_hosts f
  pub monitor_has : (f : ℕ) → HasSignature monitor f → (signature_in monitor f).host ≡ true → monitor_hosts f ≡ whole_hosts f
  pub reads : (f : ℕ) → HasSignature slave f → is_own_host (signature_in slave f) ≡ true → reads_input (whole_hosts f) ≡ true → slave_input ≡ input
  pub stays : (f : ℕ) → HasSignature slave f → is_own_host (signature_in slave f) ≡ true → HasSignature monitor f → (args : List ℤ) → (host_step input (whole_hosts f) args).next ≡ whole_hosts f

-- each host that the program has a signature for, called or not, has a model that may stand for it
abbrev pub AllHostsFit : ProgramTree → Hosts → Type 0
AllHostsFit program hosts = (f : ℕ) → HasSignature program f → (signature_in program f).host ≡ true → IsTrue (fits (hosts f) (signature_in program f))
