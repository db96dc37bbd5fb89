-- What the answer for a program is.
use Rattle.std.specs.Prelude.{◌≡◌, List, [], Result, Ok, Err}
use Rattle.pt_tree.specs.ProgramTree.{ItemTree}
use Rattle.typed_tree.specs.declared.typed.Typed.{Typed}
use Rattle.typed_tree.specs.TypedView.{view_typed}
use Rattle.check_programs.specs.declared.answer.TypeError.{TypeError}
use Rattle.check_programs.specs.declared.answer.TypeError.TheVariants.{Faults, Memory}
use Rattle.check_programs.specs.Answers.{AreFaults}
use Rattle.check_programs.specs.Programs.{CheckedProgram, checked_program}

-- without a fault the typed tree, else all faults
abbrev pub Answers : Result Typed TypeError → CheckedProgram → Type 0
Answers (Ok t) c = (c.faults ≡ []) × (view_typed t ≡ c.tree)
Answers (Err (Faults fs)) c = AreFaults fs.items c.faults
Answers (Err Memory) c = Unit {0}

abbrev pub IsAnswer : Result Typed TypeError → List ItemTree → Type 0
IsAnswer r items = Answers r (checked_program items)
