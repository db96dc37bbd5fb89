-- What the answer for a program is.
use Rattle.std.specs.Prelude.{◌≡◌, ◌↔◌, ◌<◌, List, [], length, Result, Ok, Err}
use Rattle.std.specs.List.{Contains}
use Rattle.std.specs.List.Sorted.{IsStrictlySortedBy}
use Rattle.pt_tree.specs.ProgramTree.{ItemTree}
use Rattle.typed_tree.specs.TypedTree.{TypedTree, tree_of}
use Rattle.check_declarations.specs.declared.fault.TypeFault.{TypeFault}
use Rattle.check_declarations.specs.Faults.{fault_cmp}
use Rattle.check_programs.specs.declared.answer.Elaborated.{Elaborated}
use Rattle.check_programs.specs.declared.answer.TypeError.{TypeError}
use Rattle.check_programs.specs.declared.answer.TypeError.TheVariants.{Faults, Memory}
use Rattle.check_programs.specs.Programs.{CheckedProgram, checked_program}

-- the faults are strictly ascending, by place and then by number, and they are all that there are, of
-- which there is one
pub record AreFaults (faults all : List TypeFault) : Type 0 where
  pub sorted : IsStrictlySortedBy fault_cmp faults
  pub same : (f : TypeFault) → Contains faults f ↔ Contains all f
  pub some : 0 < length all

abbrev pub view_elaborated : Elaborated → TypedTree
view_elaborated e = tree_of e.structs e.globals e.functions.items e.exprs.items

-- without a fault the typed tree, else all faults
abbrev pub Answers : Result Elaborated TypeError → CheckedProgram → Type 0
Answers (Ok e) c = (c.faults ≡ []) × (view_elaborated e ≡ c.tree)
Answers (Err (Faults fs)) c = AreFaults fs.items c.faults
Answers (Err Memory) c = Unit {0}

-- the same, of the parts that were made and the faults that were found
abbrev pub AnswersWith : Result Elaborated TypeError → Elaborated → List TypeFault → Type 0
AnswersWith (Ok e) parts faults = (faults ≡ []) × (e ≡ parts)
AnswersWith (Err (Faults fs)) parts faults = AreFaults fs.items faults
AnswersWith (Err Memory) parts faults = Unit {0}

abbrev pub IsAnswer : Result Elaborated TypeError → List ItemTree → Type 0
IsAnswer r items = Answers r (checked_program items)
