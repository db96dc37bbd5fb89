-- The hosts of a table as the gate of a machine.
use Rattle.std.specs.Prelude.{◌≡◌, ◌≤◌, ℕ, ℤ, Bool, true, List, ◌++◌, Option, None, get_or, if◌then◌else◌, length, map, set}
use Rattle.std.specs.List.{range_with_len}
use Rattle.pt_tree.specs.declared.host_model.HostModel.{HostModel}
use Rattle.pt_tree.specs.HostStep.{Answer, host_step}
use Rattle.typed_tree.specs.TypedTree.{TypedTree}
use Rattle.runs.specs.Run.{written}
use Rattle.runs.specs.State.{out_event}
use Rattle.host_table.specs.declared.host.Host.{Host}
use Rattle.host_table.specs.Hosts.{Hosts, hosts_of}
use Rattle.host_table.specs.RunHosts.{models_of, no_model}
use Rattle.block_memory.specs.declared.cell.Cell.{Cell}
use Rattle.pt_core.specs.Steps.{Way, enters, here}
use Rattle.core_steps_law.specs.GatesWritten.{Written}
use Rattle.original.specs.MachineRunHeard.{Heard}

-- no number past the program's functions has a host
abbrev pub AreOf : TypedTree → Hosts → Type 0
AreOf t hosts = (f : ℕ) → length t.functions ≤ f → hosts.models f ≡ None

abbrev pub marks_of : TypedTree → List Bool
marks_of t = map (λ f. f.signature.host) t.functions

abbrev pub heard_of : Hosts → List ℕ → List Bool → Heard
heard_of hosts bytes marks = record { models = map (models_of hosts.models) (range_with_len 0 (length marks)); input = hosts.input; bytes = bytes; is_host = marks }

abbrev pub heard_by : Host → List ℕ → List Bool → Heard
heard_by host bytes marks = heard_of (hosts_of host) bytes marks

-- what stands for this number
abbrev pub model_in : Heard → ℕ → HostModel
model_in h f = get_or h.models f no_model

-- a host's call is made here, and every other call enters
abbrev pub heard_way : Heard → ℕ → List Cell → Way
heard_way h f args = if get_or h.is_host f true then here else enters

-- a host gave this answer
abbrev pub heard : ℕ → Answer → Heard → Option ℤ × Heard
heard f answer h = (answer.result, record h { models = set h.models f answer.next; bytes = h.bytes ++ written (out_event answer.written) })

abbrev pub heard_answer : ℕ → List ℤ → Heard → Option ℤ × Heard
heard_answer f numbers h = heard f (host_step h.input (model_in h f) numbers) h

-- the same, with what stands for every number
abbrev pub told_of : Heard → Written
told_of h = record { hosts = model_in h; input = h.input; bytes = h.bytes }
