-- What is proved of the C trees of halves.
use Rattle.std.specs.Prelude.{IsTrue}
use Rattle.pt_core.specs.CodeTree.{SlaveTree, MonitorTree}
use Rattle.pt_core.specs.WellFormed.{is_well_formed_slave, is_well_formed_monitor}
use Rattle.c_printer.specs.Plain.{items_plain}
use Rattle.half_trees.specs.Halves.{slave_tree, monitor_tree}

-- a text can have the tree of a well-formed slave's program
abbrev pub SlaveTreesArePlain : Type 0
SlaveTreesArePlain = (p : SlaveTree) → IsTrue (is_well_formed_slave p) → IsTrue (items_plain (slave_tree p))

-- and that of a well-formed monitor's
abbrev pub MonitorTreesArePlain : Type 0
MonitorTreesArePlain = (p : MonitorTree) → IsTrue (is_well_formed_monitor p) → IsTrue (items_plain (monitor_tree p))
