-- Where both begin, of the two halves of a program.
use Rattle.std.specs.Prelude.{ℕ, List, [], map, if◌then◌else◌}
use Rattle.std.specs.List.{list_any}
use Rattle.pt_tree.specs.declared.host_model.HostModel.{HostModel}
use Rattle.runs.specs.State.{Hosts}
use Rattle.block_memory.specs.Blocks.{no_blocks}
use Rattle.policy.specs.Verdicts.{Standing}
use Rattle.pt_core.specs.CodeTree.{SlaveTree, MonitorTree, BootTree}
use Rattle.pt_core.specs.BootLaw.{boot_with}
use Rattle.pt_core.specs.CoreRun.{with_globals}
use Rattle.pair_meaning.specs.Monitors.{Monitor}
pub use Rattle.host_table.specs.HostFaults.{is_input as reads_input}

-- ---- the slave's boot

-- what stands for each of these hosts
abbrev pub models_for : Hosts → List ℕ → List (ℕ × HostModel)
models_for hosts fns = map (λ f. (f, hosts f)) fns

-- the input, where one of the hosts reads it
abbrev pub input_for : List (ℕ × HostModel) → List ℕ → List ℕ
input_for models input = if list_any (λ h. reads_input h.1) models then input else []

-- The boot has what stands for the slave's own hosts, and no other, and the input where one of these reads it.
abbrev pub boot_of : SlaveTree → Hosts → List ℕ → ℕ → BootTree
boot_of half hosts input turns = boot_with half (models_for hosts half.hosts) (input_for (models_for hosts half.hosts) input) turns

-- ---- the monitor

-- nothing is stored, no call was made, and its globals are at their start
abbrev pub monitor_start : MonitorTree → Hosts → List ℕ → Standing → ℕ → Monitor
monitor_start half hosts input policy budget = record {
  program = half;
  store = [];
  globals = with_globals half.structs no_blocks half.globals;
  hosts = hosts;
  input = input;
  policy = policy;
  calls = 0;
  turns = 0;
  last = 0;
  budget = budget;
}
