-- What is proved of both halves of a checked program that breaks no rule.
use Rattle.std.specs.Prelude.{◌≡◌, ◌^◌, ◌<◌, List, [], Bool, true, false, IsTrue}
use Rattle.pt_tree.specs.Facts.{items_sound}
use Rattle.pt_tree.specs.Nodes as parsed
use Rattle.pt_tree.specs.ProgramTree.{ItemTree}
use Rattle.typed_tree.specs.TypedTree.{TypedTree}
use Rattle.check_programs.specs.Programs.{checked_program, type_faults}
use Rattle.flow_rules.specs.declared.accepted.Accepted.{Accepted}
use Rattle.flow_rules.specs.Faults.{IsAccepted}
use Rattle.pt_core.specs.CodeTree.{ProgramTree}
use Rattle.half_names_law.specs.Declarable.{prototypes_take_no_pointers}
use Rattle.half_names_law.specs.Standing.{Marks, own_marks, whole_marks}
use Rattle.half_texts_law.specs.DeclarationsLaws.{slave_half, monitor_half}
use Rattle.half_texts_law.specs.CallsLaws.{FunctionsAgree, StartsAgree}

-- with each function counted as one that has a body, and as the half's own items say where no function that is only
-- declared takes a pointer
abbrev pub InMarks : (Marks → Bool → ProgramTree → Type 0) → Bool → ProgramTree → Type 0
InMarks P monitor p = P (whole_marks monitor p) monitor p × (IsTrue (prototypes_take_no_pointers p) → P (own_marks monitor p) monitor p)

-- the statements of each function, and each function that is entered where none is active
abbrev pub RunsAlike : Bool → ProgramTree → Type 0
RunsAlike monitor p = InMarks FunctionsAgree monitor p × InMarks StartsAgree monitor p

abbrev pub AcceptedHalvesRunAlike : Type 0
AcceptedHalvesRunAlike = (items : List ItemTree) (a : Accepted) → parsed.nodes_of items < 2 ^ 22 → IsTrue (items_sound items) → type_faults items ≡ [] → let t : TypedTree = (checked_program items).tree in
    IsAccepted t a → RunsAlike false (slave_half t a) × RunsAlike true (monitor_half t a)
