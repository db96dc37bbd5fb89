-- How many nodes a typed tree has.
use Rattle.std.specs.Prelude.{◌≤◌, ◌*◌, List}
use Rattle.pt_tree.specs.Nodes as parsed
use Rattle.pt_tree.specs.ProgramTree.{ItemTree}
use Rattle.typed_tree.specs.Nodes as typed
use Rattle.check_programs.specs.Programs.{checked_program}

-- whatever its faults are, at most three for each node of the program
abbrev pub TypedTreesAreSmall : Type 0
TypedTreesAreSmall = (items : List ItemTree) → typed.nodes_of (checked_program items).tree ≤ 3 * parsed.nodes_of items
