-- What holds of all texts.
use Rattle.std.specs.Prelude.{◌≡◌, ◌⊎◌, ℕ, List, [], IsTrue}
use Rattle.pt_tree.specs.ProgramTree.{ItemTree}
use Rattle.check_declarations.specs.declared.fault.TypeFault.{TypeFault}
use Rattle.check_programs.specs.Answers.{AreFaults}
use Rattle.check_programs.specs.Programs.{type_faults}
use Rattle.typed_tree.specs.TypedTree.{TypedTree}
use Rattle.typed_tree.specs.WellFormed.{is_well_formed}
use Rattle.front_end.specs.Reading.{Reading, ComesTo, HasTypedTree}

-- each program has no type fault, or a list of all its type faults
abbrev pub ProgramsAreTypedOrFaulty : Type 0
ProgramsAreTypedOrFaulty = (program : List ItemTree) → (type_faults program ≡ []) ⊎ ((faults : List TypeFault) × AreFaults faults (type_faults program))

-- each text comes to a reading
abbrev pub TextsComeToAReading : Type 0
TextsComeToAReading = (text : List ℕ) → (r : Reading) × ComesTo text r

-- the typed tree of a text is well formed
abbrev pub TreesOfTextsAreWellFormed : Type 0
TreesOfTextsAreWellFormed = (text : List ℕ) (tree : TypedTree) → HasTypedTree text tree → IsTrue (is_well_formed tree)
