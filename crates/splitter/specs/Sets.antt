-- Both programs, as code makes them of sets of numbers that are kept as a truth for each number.
use Rattle.std.specs.Prelude.{ℕ, List, Bool, false, get_or, map}
use Rattle.pt_base.specs.declared.ids.FnId.{FnId}
use Rattle.pt_base.specs.declared.ids.GlobalId.{GlobalId}
use Rattle.typed_tree.specs.declared.variable.TypedGlobal.{TypedGlobal}
use Rattle.typed_tree.specs.TypedTree.{TypedTree}
use Rattle.reach.specs.Tables.{set_all}
use Rattle.pt_core.specs.declared.monitor.Entry.{Entry}
use Rattle.pt_core.specs.CodeTree.{FunctionTree, GlobalTree, SlaveTree, MonitorTree}
use Rattle.splitter.specs.Halves.{chosen_signatures, entry_numbers, slave_hosts}

-- the number is in the set
abbrev pub is_set : List Bool → ℕ → Bool
is_set truths n = get_or truths n false

abbrev pub function_numbers : List FnId → List ℕ
function_numbers fs = map (λ f. f.0) fs

abbrev pub global_numbers : List GlobalId → List ℕ
global_numbers gs = map (λ g. g.0) gs

abbrev pub numbered_global : ℕ → TypedGlobal → GlobalTree
numbered_global n g = record { id = n; var = g.var; cells = g.cells }

-- the slave's program of these functions and globals, where they call those of the set
abbrev pub slave_with : TypedTree → List Bool → List ℕ → List FunctionTree → List GlobalTree → SlaveTree
slave_with t called slave functions globals = record {
  structs = t.structs;
  signatures = chosen_signatures (is_set (set_all called slave)) t;
  functions = functions;
  globals = globals;
  hosts = slave_hosts (is_set called) t;
}

-- the monitor's program of these functions, globals and entries, where the functions call those of the set
abbrev pub monitor_with : TypedTree → List Bool → List ℕ → List FunctionTree → List GlobalTree → List Entry → MonitorTree
monitor_with t called monitor functions globals entries = record {
  structs = t.structs;
  signatures = chosen_signatures (is_set (set_all (set_all called monitor) (entry_numbers entries))) t;
  functions = functions;
  globals = globals;
  entries = entries;
}
