-- The C tree of a half: its structs, a prototype of each function and host, its globals, its functions.
use Rattle.std.specs.Prelude.{ℕ, List, ◌++◌, Bool, true, false, length, map}
use Rattle.std.specs.List.{range_with_len}
use Rattle.pt_tree.specs.declared.signature.Signature.{Signature}
use Rattle.pt_tree.specs.ProgramTree.{ItemTree}
use Rattle.pt_core.specs.CodeTree.{ProgramTree, SlaveTree, MonitorTree}
use Rattle.pt_core.specs.WellFormed.{function_at, with_own, slave_program, monitor_program}
use Rattle.half_trees.specs.Declarations.{struct_item, prototype_item, global_item}
use Rattle.half_trees.specs.Functions.{function_item}

-- In the monitor's half a function that is no host has its own parameters alone.
abbrev pub prototype_of : Bool → ProgramTree → ℕ × Signature → ItemTree
prototype_of monitor p s = prototype_item p.structs s.0 (with_own monitor (function_at p s.0) s.1)

abbrev pub half_tree : Bool → ProgramTree → List ItemTree
half_tree monitor p =
    map (struct_item p.structs) (range_with_len 0 (length p.structs))
    ++ (map (prototype_of monitor p) p.signatures
    ++ (map (global_item p.structs) p.globals
    ++ map (function_item p) p.functions))

unfoldable pub slave_tree : SlaveTree → List ItemTree
slave_tree s = half_tree false (slave_program s)

unfoldable pub monitor_tree : MonitorTree → List ItemTree
monitor_tree m = half_tree true (monitor_program m)
