-- The two programs into which one is split.
use Rattle.std.specs.Prelude.{◌≡◌, ℕ, List, [], ◌∷◌, ◌++◌, Bool, not, ◌&&◌, ◌||◌, nat_eq, map}
use Rattle.std.specs.List.{filter, flat_map, list_any}
use Rattle.pt_base.specs.declared.ids.FnId.{FnId}
use Rattle.pt_tree.specs.declared.signature.Signature.{Signature}
use Rattle.host_models.specs.Mixed.{is_mixed}
use Rattle.typed_tree.specs.TypedTree.{TypedTree, signatures_of}
use Rattle.sides.specs.declared.halves.Sides.{Sides}
use Rattle.pt_core.specs.declared.monitor.Entry.{Entry}
use Rattle.pt_core.specs.CodeTree.{FunctionTree, GlobalTree, SlaveTree, MonitorTree}
use Rattle.pt_core.specs.WellFormedStatement.{callees_of}
use Rattle.lowering.specs.Functions.{functions_from, signatures_from, globals_from}

-- The functions of each half and the globals that the slave owns, by number.
pub record Halves : Type 0 where
  pub slave : List ℕ
  pub monitor : List ℕ
  pub owned : List ℕ

abbrev pub halves_of : Sides → Halves
halves_of s = record { slave = map (λ f. f.0) s.slave; monitor = map (λ f. f.0) s.monitor; owned = map (λ g. g.0) s.owned }

-- the number is in the list
abbrev pub is_among : List ℕ → ℕ → Bool
is_among ns n = list_any (nat_eq n) ns

-- one function for each that has a body, with its number, in their order
abbrev pub IsWholeCode : TypedTree → List FunctionTree → Type 0
IsWholeCode t code = map (λ f. f.id) code ≡ map (λ f. f.id) (functions_from t 0 t.functions)

-- ---- parts of a program, of the numbers that pass a test

abbrev pub chosen_functions : (ℕ → Bool) → List FunctionTree → List FunctionTree
chosen_functions has code = filter (λ f. has f.id) code

-- what functions and hosts are called with, each with its number
abbrev pub chosen_signatures : (ℕ → Bool) → TypedTree → List (ℕ × Signature)
chosen_signatures has t = filter (λ s. has s.0) (signatures_from 0 (signatures_of t))

abbrev pub chosen_globals : (ℕ → Bool) → TypedTree → List GlobalTree
chosen_globals has t = filter (λ g. has g.id) (globals_from 0 t.globals)

-- what these functions call
abbrev pub called_by : List FunctionTree → List ℕ
called_by functions = flat_map (λ f. callees_of f.body) functions

-- ---- hosts and entries

-- a host that isn't privileged, and that the slave calls
abbrev pub is_slave_host : Bool → Signature → Bool
is_slave_host called s = (s.host && not s.privileged) && called

-- a privileged function or host, or a mixed host, that the slave calls
abbrev pub is_entry : Bool → Signature → Bool
is_entry called s = (s.privileged || (s.host && is_mixed s)) && called

-- it shares no global
abbrev pub entry_of : FnId → Entry
entry_of f = record { function = f; shared = [] }

-- the slave's hosts, by number, where it calls what passes the test
abbrev pub slave_hosts : (ℕ → Bool) → TypedTree → List ℕ
slave_hosts called t = map (λ s. s.0) (filter (λ s. is_slave_host (called s.0) s.1) (signatures_from 0 (signatures_of t)))

-- what the slave may ask for, where it calls what passes the test
abbrev pub entries_of : (ℕ → Bool) → TypedTree → List Entry
entries_of called t = map (λ s. entry_of (record { 0 = s.0 })) (filter (λ s. is_entry (called s.0) s.1) (signatures_from 0 (signatures_of t)))

-- ---- the programs

abbrev pub slave_code : Halves → List FunctionTree → List FunctionTree
slave_code h code = chosen_functions (is_among h.slave) code

abbrev pub monitor_code : Halves → List FunctionTree → List FunctionTree
monitor_code h code = chosen_functions (is_among h.monitor) code

-- what the slave's code calls
abbrev pub asked : Halves → List FunctionTree → List ℕ
asked h code = called_by (slave_code h code)

-- the functions and hosts of entries
abbrev pub entry_numbers : List Entry → List ℕ
entry_numbers entries = map (λ e. e.function.0) entries

-- The slave's program: its functions, the signatures of these and of all that they call, the globals that
-- it owns, and the hosts that its functions call and that aren't privileged.
abbrev pub slave_of : TypedTree → Halves → List FunctionTree → SlaveTree
slave_of t h code = record {
  structs = t.structs;
  signatures = chosen_signatures (is_among (asked h code ++ h.slave)) t;
  functions = slave_code h code;
  globals = chosen_globals (is_among h.owned) t;
  hosts = slave_hosts (is_among (asked h code)) t;
}

-- what the slave may ask for
abbrev pub monitor_entries : TypedTree → Halves → List FunctionTree → List Entry
monitor_entries t h code = entries_of (is_among (asked h code)) t

-- The monitor's program: its functions, the signatures of these, of all that they call and of the entries,
-- the globals that the slave doesn't own, and what the slave may ask for.
abbrev pub monitor_of : TypedTree → Halves → List FunctionTree → MonitorTree
monitor_of t h code = record {
  structs = t.structs;
  signatures = chosen_signatures (is_among (called_by (monitor_code h code) ++ h.monitor ++ entry_numbers (monitor_entries t h code))) t;
  functions = monitor_code h code;
  globals = chosen_globals (λ n. not (is_among h.owned n)) t;
  entries = monitor_entries t h code;
}
