-- The run of a whole program within a budget of turns.
use Rattle.std.specs.Prelude.{ℕ, ◌-◌, ◌+◌, pos, false, List, [], ◌∷◌, Option, Some, None, map, codes}
use Rattle.pt_base.specs.declared.end.End.TheVariants.{Exit, Trapped, Spent}
use Rattle.pt_base.specs.declared.ids.FnId.{FnId}
use Rattle.pt_base.specs.declared.int_type.IntType.TheVariants as i
use Rattle.pt_int.specs.Conversion.{conv}
use Rattle.runs.specs.Run.{Run, deepest}
use Rattle.runs.specs.State.{Hosts, gives, trapped, spent}
use Rattle.typed_tree.specs.declared.variable.TypedGlobal.{TypedGlobal}
use Rattle.typed_tree.specs.TypedTree.{TypedTree}
use Rattle.typed_tree.specs.Lookup.{function_named}
use Rattle.source_meaning.specs.Memory.{Memory, global, number, nothing_live, put}
use Rattle.source_meaning.specs.State.{State, Outcome}
use Rattle.source_meaning.specs.Values.{number_of}
use Rattle.source_meaning.specs.Expressions.{Frame}
use Rattle.source_meaning.specs.Statements.{Code, Flow, goes_on, broke, continues, returned, statement}
use Rattle.source_meaning.specs.Functions.{body_at, code_at, opened, calls_within}

-- the memory at the start: each global with its cells
abbrev pub with_globals : Memory → ℕ → List TypedGlobal → Memory
with_globals memory g [] = memory
with_globals memory g (x ∷ xs) = with_globals (put memory (global g) (map number x.cells)) (g + 1) xs

abbrev pub begun : TypedTree → Hosts → List ℕ → ℕ → State
begun program hosts input turns =
    record { memory = with_globals nothing_live 0 program.globals; hosts = hosts; input = input; events = []; left = turns }

abbrev pub main_frame : Frame
main_frame = record { depth = 1; privileged = false }

-- the run that main comes to: it ends with its int, and reaching its closing brace returns 0 (C99
-- 5.1.2.2.3)
abbrev pub run_of : ℕ → Outcome Flow → Run
run_of turns (gives goes_on st) = record { events = st.events; end = Exit (pos 0); turns = turns - st.left }
run_of turns (gives broke st) = record { events = st.events; end = Exit (pos 0); turns = turns - st.left }
run_of turns (gives continues st) = record { events = st.events; end = Exit (pos 0); turns = turns - st.left }
run_of turns (gives (returned v) st) = record { events = st.events; end = Exit (conv i.Int (number_of v)); turns = turns - st.left }
run_of turns (trapped trap s st) = record { events = st.events; end = Trapped trap s; turns = turns - st.left }
run_of turns (spent st) = record { events = st.events; end = Spent; turns = turns - st.left }

-- the code of main, where it has this number
abbrev pub main_code : TypedTree → FnId → Code
main_code program f = code_at program f.0 main_frame (calls_within program (deepest - 1))

-- main is entered, and its body runs; where there is no main, nothing is done
abbrev pub main_run : TypedTree → Option FnId → State → Outcome Flow
main_run program None st = gives goes_on st
main_run program (Some f) st = statement (body_at program f.0) (main_code program f) (opened (main_code program f) [] st)

-- the run of a program with these hosts and this input within a budget of turns; the depth of main
-- is 1, and its entry takes no turn
abbrev pub whole_run : TypedTree → Hosts → List ℕ → ℕ → Run
whole_run program hosts input turns =
    run_of turns (main_run program (function_named program (codes "main")) (begun program hosts input turns))
