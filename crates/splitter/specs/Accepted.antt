-- The halves of an accepted program, with the code of its lowering.
use Rattle.typed_tree.specs.TypedTree.{TypedTree}
use Rattle.flow_rules.specs.declared.accepted.Accepted.{Accepted}
use Rattle.pt_core.specs.CodeTree.{SlaveTree, MonitorTree, ProgramTree}
use Rattle.pt_core.specs.WellFormed.{slave_program}
use Rattle.lowering.specs.Functions.{functions_from}
use Rattle.splitter.specs.Halves.{halves_of, slave_of, monitor_of}

abbrev pub slave_half : TypedTree → Accepted → SlaveTree
slave_half t a = slave_of t (halves_of a.sides) (functions_from t 0 t.functions)

abbrev pub monitor_half : TypedTree → Accepted → MonitorTree
monitor_half t a = monitor_of t (halves_of a.sides) (functions_from t 0 t.functions)

-- the slave's, as a program
abbrev pub slave_code : TypedTree → Accepted → ProgramTree
slave_code t a = slave_program (slave_of t (halves_of a.sides) (functions_from t 0 t.functions))
