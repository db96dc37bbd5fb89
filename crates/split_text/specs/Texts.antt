-- The texts of halves.
use Rattle.std.specs.Prelude.{ℕ, List, codes}
use Rattle.std.specs.List.{flat_map}
use Rattle.pt_core.specs.CodeTree.{SlaveTree, MonitorTree}
use Rattle.pt_tree.specs.ProgramTree.{ItemTree}
use Rattle.c_printer.specs.Sheets.{Written, lay}
use Rattle.c_printer.specs.Items.{item_words, text_of}
use Rattle.half_trees.specs.Halves.{slave_tree, monitor_tree}

-- what stands in the first line of each text
abbrev pub slave_heading : List ℕ
slave_heading = codes "The slave's half. What is privileged the monitor does for it."

abbrev pub monitor_heading : List ℕ
monitor_heading = codes "The monitor's half. It does what is privileged, when the slave asks for it."

abbrev pub slave_text : SlaveTree → List ℕ
slave_text s = text_of slave_heading (slave_tree s)

abbrev pub monitor_text : MonitorTree → List ℕ
monitor_text m = text_of monitor_heading (monitor_tree m)

-- the words of these items behind what is written
abbrev pub printed : List ItemTree → Written → Written
printed items w = lay (flat_map item_words items) w
