-- The gate of a slave's machine, and what it shows of the gate of the definitions.
use Rattle.std.specs.Prelude.{ℕ, ℤ, Bool, List, map, nat_eq, Option, if◌then◌else◌, is_some, unwrap_or}
use Rattle.std.specs.Map.{lookup}
use Rattle.pt_base.specs.declared.ids.FnId.{FnId}
use Rattle.pt_tree.specs.HostStep.{Answer, host_step}
use Rattle.pt_tree.specs.declared.host_model.HostModel.{HostModel}
use Rattle.pt_tree.specs.declared.signature.Signature.{Signature}
use Rattle.runs.specs.State as r
use Rattle.host_table.specs.declared.host.Host.{Host}
use Rattle.host_table.specs.Hosts.{Hosts, hosts_of}
use Rattle.host_table.specs.RunHosts.{model_or_none, models_of}
use Rattle.block_memory.specs.declared.cell.Cell.{Cell}
use Rattle.pt_core.specs.CodeTree.{numbered}
use Rattle.pt_core.specs.Calls.{no_signature}
use Rattle.pt_core.specs.Steps.{Way}
use Rattle.pair_meaning.specs.SlaveRun.{Heard, way_by}
use Rattle.slave_interp.specs.Hearing.{Hearing}

-- what stands for each of these functions
abbrev pub models_at : r.Hosts → List (ℕ × Signature) → List (ℕ × HostModel)
models_at hosts signatures = map (λ s. (s.0, hosts s.0)) signatures

abbrev pub hearing_of : Hosts → List (FnId × Signature) → Option (List ℕ) → Hearing
hearing_of hosts signatures wrote = record {
  signatures = numbered signatures;
  models = models_at (models_of hosts.models) (numbered signatures);
  input = hosts.input;
  wrote = wrote;
}

abbrev pub hearing_by : Host → List (FnId × Signature) → Option (List ℕ) → Hearing
hearing_by host signatures wrote = hearing_of (hosts_of host) signatures wrote

-- what stands for this number
abbrev pub model_in : Hearing → r.Hosts
model_in h f = model_or_none (lookup (nat_eq f) h.models)

-- ---- the gate

abbrev pub hearing_way : Hearing → ℕ → List Cell → Way
hearing_way h f args = way_by (unwrap_or (lookup (nat_eq f) h.signatures) no_signature) args

abbrev pub with_model : ℕ → HostModel → List (ℕ × HostModel) → List (ℕ × HostModel)
with_model f next models = map (λ m. (m.0, if nat_eq m.0 f then next else m.1)) models

-- a host gave this answer
abbrev pub hears : ℕ → Answer → Hearing → Option ℤ × Hearing
hears f answer h = (answer.result, record h { models = with_model f answer.next h.models; wrote = answer.written })

abbrev pub hearing_answer : ℕ → List ℤ → Hearing → Option ℤ × Hearing
hearing_answer f numbers h = hears f (host_step h.input (model_in h f) numbers) h

-- the call of a host made last wrote, maybe no byte
abbrev pub has_written : Hearing → Bool
has_written h = is_some h.wrote

-- the same with what stands for every number
abbrev pub told_of : Hearing → Heard
told_of h = record { hosts = model_in h; input = h.input; wrote = h.wrote }
