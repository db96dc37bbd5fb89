-- The text of an outline, line by line.
use Rattle.std.specs.Prelude.{ℕ, List, [], ◌++◌, Bool, false, codes, map}
use Rattle.std.specs.List.{filter, flat_map}
use Rattle.std.specs.Option.{option_map_or}
use Rattle.pt_base.specs.declared.ids.FnId.{FnId}
use Rattle.pt_tree.specs.declared.signature.Elem.{Elem}
use Rattle.typed_tree.specs.Lookup.{signature_of}
use Rattle.typed_tree.specs.TypedTree.{TypedTree}
use Rattle.pt_core.specs.declared.monitor.Entry.{Entry}
use Rattle.pt_core.specs.CodeTree.{FunctionTree, GlobalTree, MonitorTree, SlaveTree}
use Rattle.starting_texts.specs.declared.texts.StartingTable.{StartingTable}
use Rattle.starting_texts.specs.declared.texts.StartingTable.TheVariants as in_table
use Rattle.starting_texts.specs.declared.texts.StartingPolicy.{StartingPolicy}
use Rattle.starting_texts.specs.declared.texts.StartingPolicy.TheVariants as in_policy
use Rattle.outlining.specs.EntryTexts.{entry_line, has_marked_field}

-- ---- what both halves have

-- of a function or host, by its number
abbrev pub name_of : TypedTree → ℕ → List ℕ
name_of t n = option_map_or (λ s. s.name) (signature_of t (record { 0 = n })) []

abbrev pub function_line : TypedTree → ℕ → List ℕ
function_line t n = codes "  function " ++ name_of t n ++ codes "\n"

abbrev pub functions_text : TypedTree → List FunctionTree → List ℕ
functions_text t functions = flat_map (λ f. function_line t f.id) functions

abbrev pub global_line : List ℕ → List ℕ
global_line name = codes "  global " ++ name ++ codes "\n"

abbrev pub globals_text : List GlobalTree → List ℕ
globals_text globals = flat_map (λ g. global_line g.var.name) globals

-- ---- the slave

abbrev pub host_line : TypedTree → ℕ → List ℕ
host_line t n = codes "  host " ++ name_of t n ++ codes "\n"

abbrev pub hosts_text : TypedTree → List ℕ → List ℕ
hosts_text t hosts = flat_map (host_line t) hosts

abbrev pub slave_part : TypedTree → SlaveTree → List ℕ
slave_part t slave = codes "slave\n" ++ functions_text t slave.functions ++ globals_text slave.globals ++ hosts_text t slave.hosts

-- ---- the monitor

-- the line of an entry, where `marked` says which elements have a marked field
abbrev pub entry_text : (Elem → Bool) → TypedTree → FnId → List ℕ
entry_text marked t f = option_map_or (entry_line marked) (signature_of t f) []

abbrev pub entries_text : (Elem → Bool) → TypedTree → List Entry → List ℕ
entries_text marked t entries = flat_map (λ e. entry_text marked t e.function) entries

abbrev pub monitor_part : (Elem → Bool) → TypedTree → MonitorTree → List ℕ
monitor_part marked t monitor = codes "monitor\n" ++ functions_text t monitor.functions ++ globals_text monitor.globals ++ entries_text marked t monitor.entries

abbrev pub halves_part : TypedTree → SlaveTree → MonitorTree → List ℕ
halves_part t slave monitor = slave_part t slave ++ monitor_part (has_marked_field t.structs) t monitor

-- ---- what to start from

abbrev pub unfit_line : List ℕ → List ℕ
unfit_line name = codes "no host table fits " ++ name ++ codes ", which takes secrets, isn't priv and gives nothing back\n"

abbrev pub table_lines : TypedTree → StartingTable → List ℕ
table_lines t (in_table.Text bytes) = bytes.items ++ codes "\n"
table_lines t (in_table.NoneFits f) = unfit_line (name_of t f.0)
table_lines t in_table.TooLong = codes "the host table would be too long\n"

abbrev pub table_part : TypedTree → StartingTable → List ℕ
table_part t table = codes "hosts\n" ++ table_lines t table

abbrev pub policy_lines : StartingPolicy → List ℕ
policy_lines (in_policy.Text bytes) = bytes.items
policy_lines in_policy.TooLong = codes "the policy would be too long\n"

abbrev pub policy_part : StartingPolicy → List ℕ
policy_part policy = codes "policy\n" ++ policy_lines policy

-- the function or host is privileged
abbrev pub is_guarded : TypedTree → FnId → Bool
is_guarded t f = option_map_or (λ s. s.privileged) (signature_of t f) false

-- the entries of which the policy is asked
abbrev pub guarded_in : TypedTree → List Entry → List FnId
guarded_in t entries = filter (is_guarded t) (map (λ e. e.function) entries)

-- ---- the whole

abbrev pub outline_text : TypedTree → SlaveTree → MonitorTree → StartingTable → StartingPolicy → List ℕ
outline_text t slave monitor table policy = halves_part t slave monitor ++ table_part t table ++ policy_part policy
