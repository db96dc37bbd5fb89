-- Whole programs (C99 6.9): the typed tree, and all type faults.
use Rattle.std.specs.Prelude.{ℕ, List, [], ◌∷◌, ◌++◌, Bool, not}
use Rattle.pt_tree.specs.ProgramTree.{ItemTree, declares, function}
use Rattle.typed_tree.specs.TypedTree.{TypedTree}
use Rattle.check_declarations.specs.declared.fault.FaultKind.TheVariants.{NoMain}
use Rattle.check_declarations.specs.declared.fault.TypeFault.{TypeFault}
use Rattle.check_declarations.specs.Faults.{fault_if}
use Rattle.check_expressions.specs.StructInfos.{infos_of}
use Rattle.check_programs.specs.declared.function_marks.FunctionMarks.{FunctionMarks}
use Rattle.check_programs.specs.Unions.{function_marks}
use Rattle.check_programs.specs.Progress.{Progress, at_start}
use Rattle.check_programs.specs.Functions.{Checked, checked_function}
use Rattle.check_programs.specs.Globals.{checked_declaration}
pub use Rattle.pt_base.specs.Spans.{nowhere}

-- ---- items, in order

-- an item, by what all declarations say of the function, if it is one
abbrev pub checked_item : FunctionMarks → Progress → ItemTree → Checked
checked_item marks st (declares d) = checked_declaration st d
checked_item marks st (function f) = checked_function marks st f

-- the name of a function; none of a declaration
abbrev pub function_name : ItemTree → List ℕ
function_name (declares d) = []
function_name (function f) = f.declarator.name.bytes

-- `marks` says what the whole program says of the function of a name
abbrev pub checked_items : (List ℕ → FunctionMarks) → Progress → List ItemTree → Checked
checked_items marks st [] = record { progress = st; faults = [] }
checked_items marks st (item ∷ items) =
    let one = checked_item (marks (function_name item)) st item in
    let rest = checked_items marks one.progress items in
    record { progress = rest.progress; faults = one.faults ++ rest.faults }

-- ---- the tree

abbrev pub tree_of : Progress → TypedTree
tree_of st = record { structs = infos_of st.structs; globals = st.globals; functions = st.functions; exprs = st.exprs }

-- ---- the program

pub record CheckedProgram : Type 0 where
  pub tree : TypedTree
  pub faults : List TypeFault

-- the fault of a program that can't begin
abbrev pub main_faults : Bool → List TypeFault
main_faults has_main = fault_if (not has_main) NoMain nowhere

abbrev pub with_main : Checked → CheckedProgram
with_main c = record { tree = tree_of c.progress; faults = c.faults ++ main_faults c.progress.has_main }

abbrev pub checked_program : List ItemTree → CheckedProgram
checked_program items = with_main (checked_items (function_marks items) at_start items)

-- all type faults of a program, in the order of the walk
abbrev pub type_faults : List ItemTree → List TypeFault
type_faults items = (checked_program items).faults
