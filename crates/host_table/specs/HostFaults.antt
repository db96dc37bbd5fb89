-- The faults of a host table, and the hosts that a table without faults gives.
use Rattle.std.specs.Prelude.{◌≡◌, ◌≢◌, ℕ, Bool, true, false, ◌&&◌, nat_lt, List, [], ◌∷◌, ◌++◌, length, Option, Some, None, is_some, option_map, option_and_then, option_to_list, slice_get, if◌then◌else◌, Result, Ok, Err}
use Rattle.std.specs.List.{list_any}
use Rattle.std.specs.Str.{is_utf8}
use Rattle.host_models.specs.Fitting.{has_right_params, has_numbers_in_range}
use Rattle.pt_base.specs.declared.ids.FnId.{FnId}
use Rattle.pt_tree.specs.declared.host_model.HostModel.{HostModel}
use Rattle.pt_tree.specs.declared.host_model.HostModel.TheVariants.{Table, Feed, Input, Bytes, Line}
use Rattle.pt_tree.specs.declared.signature.Signature.{Signature}
use Rattle.serde_json.specs.Data.{Data}
use Rattle.serde_json.specs.Find.{as_object}
use Rattle.serde_json.specs.Read.{read}
use Rattle.host_table.specs.Entries.{entry_of}
use Rattle.host_table.specs.Hosts.{Hosts, hosts_of}
use Rattle.host_table.specs.declared.entry.Entry.{Entry}
use Rattle.host_table.specs.declared.entry.Entry.TheVariants as entry
use Rattle.host_table.specs.declared.fault.HostFault.{HostFault}
use Rattle.host_table.specs.declared.fault.HostFault.TheVariants.{NotJson, Shape, Missing, Range, WrongParams, TwoInputs, TooLong}
use Rattle.host_table.specs.declared.fault.HostError.{HostError}
use Rattle.host_table.specs.declared.fault.HostError.TheVariants.{Faults, Memory}
use Rattle.host_table.specs.declared.host.Host.{Host}

-- the value of a text: JSON is in UTF-8
abbrev pub reading_of : List ℕ → Option Data
reading_of text = if is_utf8 text then read text else None

-- the model is fed from the input
abbrev pub is_input : HostModel → Bool
is_input (Table rows other) = false
is_input (Feed values other next) = false
is_input (Input next) = true
is_input Bytes = false
is_input (Line name) = false

-- the model that the entry says
abbrev pub shaped_model : Entry → Option HostModel
shaped_model entry.Missing = None
shaped_model entry.Misshaped = None
shaped_model (entry.Shaped model) = Some model

-- the entry is of kind input
abbrev pub reads_input : Entry → Bool
reads_input entry.Missing = false
reads_input entry.Misshaped = false
reads_input (entry.Shaped model) = is_input model

-- the first fault of a host's entry; `taken` says that an earlier host reads the input
abbrev pub entry_fault : Bool → FnId → Signature → Entry → Option HostFault
entry_fault taken f s entry.Missing = Some (Missing f)
entry_fault taken f s entry.Misshaped = Some (Shape (Some f))
entry_fault taken f s (entry.Shaped model) =
    if has_right_params s model
    then (if has_numbers_in_range s model then (if taken && is_input model then Some (TwoInputs f) else None) else Some (Range f))
    else Some (WrongParams f)

-- a host among these functions reads the input
abbrev pub is_taken : Data → List Signature → Bool
is_taken table fns = list_any (λ s. s.host && reads_input (entry_of table s)) fns

-- the first fault of a function that these stand before, which are as many as its number says
abbrev pub fault_after : Data → List Signature → Signature → Option HostFault
fault_after table before s =
    if s.host then entry_fault (is_taken table before) (record { 0 = length before }) s (entry_of table s) else None

-- the faults of the functions that stand behind these
abbrev pub faults_after : Data → List Signature → List Signature → List HostFault
faults_after table before [] = []
faults_after table before (s ∷ fns) = option_to_list (fault_after table before s) ++ faults_after table (before ++ s ∷ []) fns

-- the same by the table's value
abbrev pub faults_by : Option Data → List Signature → List HostFault
faults_by None fns = NotJson ∷ []
faults_by (Some table) fns = if is_some (as_object table) then faults_after table [] fns else Shape None ∷ []

-- the faults of a host table for these functions
abbrev pub host_faults : List ℕ → List Signature → List HostFault
host_faults text fns = if nat_lt 1048576 (length text) then TooLong ∷ [] else faults_by (reading_of text) fns

-- the model that the table has for a function, if it is a host
abbrev pub host_model : Data → Signature → Option HostModel
host_model table s = if s.host then shaped_model (entry_of table s) else None

-- the hosts of a table: for each function that is one its model, and no input
abbrev pub table_hosts : Data → List Signature → Hosts
table_hosts table fns = record { models = λ f. option_and_then (host_model table) (slice_get fns f); input = [] }

-- the faults where there are some, else the hosts
abbrev pub IsAnswer : List HostFault → Option Hosts → Result Host HostError → Type 0
IsAnswer faults hosts (Ok host) = (faults ≡ []) × (hosts ≡ Some (hosts_of host))
IsAnswer faults hosts (Err (Faults found)) = (found ≡ faults) × (found ≢ [])
IsAnswer faults hosts (Err Memory) = Unit {0}

-- what a host table is read as for these functions
abbrev pub IsReading : List ℕ → List Signature → Result Host HostError → Type 0
IsReading text fns = IsAnswer (host_faults text fns) (option_map (λ table. table_hosts table fns) (reading_of text))

-- a fault that stands alone
abbrev pub IsOneFault : HostFault → HostError → Type 0
IsOneFault fault (Faults found) = found ≡ fault ∷ []
IsOneFault fault Memory = Unit {0}
