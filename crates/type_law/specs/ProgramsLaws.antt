-- A program without a fault has a well formed tree.
use Rattle.std.specs.Prelude.{◌≡◌, ◌^◌, ◌<◌, List, [], IsTrue}
use Rattle.pt_tree.specs.ProgramTree.{ItemTree}
use Rattle.pt_tree.specs.Facts.{items_sound}
use Rattle.pt_tree.specs.Nodes as parsed
use Rattle.typed_tree.specs.WellFormed.{is_well_formed}
use Rattle.check_programs.specs.Programs.{checked_program, type_faults}

-- a parsed program's nodes are few, its constants in range, and its words short
abbrev pub ProgramsAreWellFormed : Type 0
ProgramsAreWellFormed = (items : List ItemTree) → parsed.nodes_of items < 2 ^ 22 → IsTrue (items_sound items) →
    type_faults items ≡ [] → IsTrue (is_well_formed (checked_program items).tree)
