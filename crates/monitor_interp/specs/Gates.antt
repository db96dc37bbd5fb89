-- The hosts of a monitor as the gate of its machine.
use Rattle.std.specs.Prelude.{ℕ, ℤ, Bool, true, List, ◌++◌, Option, if◌then◌else◌, is_some, map, nat_eq, unwrap_or}
use Rattle.std.specs.Map.{lookup}
use Rattle.pt_tree.specs.declared.host_model.HostModel.{HostModel}
use Rattle.pt_tree.specs.HostStep.{Answer, host_step}
use Rattle.runs.specs.Run.{written}
use Rattle.runs.specs.State as r
use Rattle.runs.specs.State.{out_event}
use Rattle.host_table.specs.declared.host.Host.{Host}
use Rattle.host_table.specs.Hosts.{Hosts, hosts_of}
use Rattle.host_table.specs.RunHosts.{models_of, no_model}
use Rattle.block_memory.specs.declared.cell.Cell.{Cell}
use Rattle.pt_core.specs.CodeTree.{MonitorTree, ProgramTree}
use Rattle.pt_core.specs.Calls.{signature_in}
use Rattle.pt_core.specs.Steps.{Way, enters, here}
use Rattle.pt_core.specs.WellFormed.{monitor_program, signature_at}
use Rattle.core_steps_law.specs.GatesWritten.{Written}
use Rattle.monitor_interp.specs.declared.marks.Mark.{Mark}
use Rattle.monitor_interp.specs.Heard.{Heard, Known}

-- ---- what is heard

abbrev pub known_by : r.Hosts → Mark → Known
known_by models mark = record { number = mark.number; host = mark.host; model = models mark.number }

abbrev pub heard_of : Hosts → List ℕ → List Mark → Heard
heard_of hosts bytes marks = record { known = map (known_by (models_of hosts.models)) marks; input = hosts.input; bytes = bytes }

abbrev pub heard_by : Host → List ℕ → List Mark → Heard
heard_by host bytes marks = heard_of (hosts_of host) bytes marks

abbrev pub hosts_among : List Known → List (ℕ × Bool)
hosts_among known = map (λ k. (k.number, k.host)) known

abbrev pub models_among : List Known → List (ℕ × HostModel)
models_among known = map (λ k. (k.number, k.model)) known

-- a number that isn't known counts as a host
abbrev pub is_host_in : Heard → ℕ → Bool
is_host_in h f = unwrap_or (lookup (nat_eq f) (hosts_among h.known)) true

-- what stands for this number
abbrev pub model_in : Heard → ℕ → HostModel
model_in h f = unwrap_or (lookup (nat_eq f) (models_among h.known)) no_model

-- the same, with what stands for every number
abbrev pub told_of : Heard → Written
told_of h = record { hosts = model_in h; input = h.input; bytes = h.bytes }

-- ---- calls

-- a host's call is made here, and every other call enters
abbrev pub heard_way : Heard → ℕ → List Cell → Way
heard_way h f args = if is_host_in h f then here else enters

-- this model stands for the number from then on
abbrev pub changed : ℕ → HostModel → Known → Known
changed f next k = record { number = k.number; host = k.host; model = if nat_eq k.number f then next else k.model }

-- a host gave this answer
abbrev pub heard : ℕ → Answer → Heard → Option ℤ × Heard
heard f answer h = (answer.result, record { known = map (changed f answer.next) h.known; input = h.input; bytes = h.bytes ++ written (out_event answer.written) })

abbrev pub heard_answer : ℕ → List ℤ → Heard → Option ℤ × Heard
heard_answer f numbers h = heard f (host_step h.input (model_in h f) numbers) h

-- ---- a program's

-- which numbers are hosts
abbrev pub hosts_in : ProgramTree → ℕ → Bool
hosts_in program f = (signature_in program f).host

-- what stands for what the program has signatures of, and nothing for other numbers
abbrev pub hosts_for : MonitorTree → r.Hosts → r.Hosts
hosts_for p models f = if is_some (signature_at (monitor_program p) f) then models f else no_model
