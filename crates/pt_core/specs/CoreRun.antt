-- The run of a whole program in the normal form, by recursion, within a budget of turns.
use Rattle.std.specs.Prelude.{ℕ, ◌-◌, ℤ, pos, false, List, [], ◌∷◌, Option, Some, None, map, codes, unwrap_or, option_map}
use Rattle.std.specs.List.{find}
use Rattle.std.specs.Str.{bytes_eq}
use Rattle.pt_base.specs.declared.end.End.TheVariants.{Exit, Trapped, Spent}
use Rattle.pt_base.specs.declared.int_type.IntType.TheVariants as i
use Rattle.pt_int.specs.Conversion.{conv}
use Rattle.typed_tree.specs.declared.types.StructInfo.{StructInfo}
use Rattle.typed_tree.specs.Cells.{leaves_of}
use Rattle.runs.specs.State.{Hosts, gives, trapped, spent}
use Rattle.runs.specs.Run.{Run, deepest}
use Rattle.block_memory.specs.declared.cell.Cell.{Cell}
use Rattle.block_memory.specs.declared.cell.Cell.TheVariants as cell
use Rattle.block_memory.specs.declared.cell.BlockName.TheVariants.{Global}
use Rattle.block_memory.specs.Blocks.{Blocks, no_blocks, put}
use Rattle.pt_core.specs.CodeTree.{GlobalTree, ProgramTree}
use Rattle.pt_core.specs.Values.{number_in}
use Rattle.pt_core.specs.Statements.{State, Outcome, Frame}
use Rattle.pt_core.specs.Calls.{context_in, body_run, calls_within}

-- the number of main; 0 where no function has the name
abbrev pub main_in : ProgramTree → ℕ
main_in program = unwrap_or (option_map (λ s. s.0) (find (λ s. bytes_eq s.1.name (codes "main")) program.signatures)) 0

-- each global with its cells
abbrev pub with_globals : List StructInfo → Blocks → List GlobalTree → Blocks
with_globals structs blocks [] = blocks
with_globals structs blocks (g ∷ gs) =
    with_globals structs (put blocks (Global g.id) (record { types = leaves_of structs g.var.ty; cells = map cell.Int g.cells })) gs

abbrev pub begun : ProgramTree → Hosts → List ℕ → ℕ → State
begun program hosts input turns =
    record { memory = with_globals program.structs no_blocks program.globals; hosts = hosts; input = input; events = []; left = turns }

-- main has depth 1, and to enter it takes no turn
abbrev pub main_frame : ProgramTree → Frame
main_frame program = record { context = context_in program (main_in program); depth = 1; privileged = false }

abbrev pub status_of : Option Cell → ℤ
status_of None = pos 0
status_of (Some c) = conv i.Int (number_in c)

-- the run that main comes to
abbrev pub run_of : ℕ → Outcome (Option Cell) → Run
run_of turns (gives v st) = record { events = st.events; end = Exit (status_of v); turns = turns - st.left }
run_of turns (trapped trap s st) = record { events = st.events; end = Trapped trap s; turns = turns - st.left }
run_of turns (spent st) = record { events = st.events; end = Spent; turns = turns - st.left }

-- the run of a program with these hosts and this input within a budget of turns
abbrev pub core_run : ProgramTree → Hosts → List ℕ → ℕ → Run
core_run program hosts input turns =
    run_of turns (body_run program (calls_within program (deepest - 1)) (main_frame program) (main_in program) [] (begun program hosts input turns))
