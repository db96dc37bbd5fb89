-- The lines that report the faults of a host table and of an input.
use Rattle.std.specs.Prelude.{ℕ, List, [], ◌∷◌, ◌++◌, codes}
use Rattle.typed_tree.specs.TypedTree.{TypedTree}
use Rattle.host_table.specs.ReportLines.{report_line}
use Rattle.host_table.specs.declared.fault.HostFault.{HostFault}

-- a fault of a host table for the program of this tree
abbrev pub host_line : TypedTree → HostFault → List ℕ
host_line tree f = report_line tree f ++ codes "\n"

-- faults of a host table, a line each
abbrev pub host_lines : TypedTree → List HostFault → List ℕ
host_lines tree [] = []
host_lines tree (f ∷ fs) = host_line tree f ++ host_lines tree fs

-- an input that is too long
abbrev pub input_line : List ℕ
input_line = codes "input 1 TooLong\n"
