-- The meaning of calls by recursion (C99 6.5.2.2), within a depth and a budget of turns.
use Rattle.std.specs.Prelude.{ℕ, zero, suc, ◌+◌, ℤ, ◌||◌, List, [], ◌∷◌, Option, Some, None, map, if◌then◌else◌, nat_eq, unwrap_or, option_map}
use Rattle.std.specs.List.{find}
use Rattle.std.specs.Map.{lookup}
use Rattle.pt_base.specs.declared.int_type.IntType.{IntType}
use Rattle.pt_base.specs.declared.span.Span.{Span}
use Rattle.pt_base.specs.declared.trap.Trap.TheVariants.{Depth, NoReturn}
use Rattle.pt_tree.specs.declared.signature.Signature.{Signature}
use Rattle.runs.specs.State.{gives, trapped, ◌>>=◌, take_turn, guarded_event, noted, answer_of, after_answer}
use Rattle.block_memory.specs.declared.cell.Cell.{Cell}
use Rattle.block_memory.specs.declared.cell.Cell.TheVariants as cell
use Rattle.block_memory.specs.declared.cell.BlockName.TheVariants.{Local}
use Rattle.block_memory.specs.Block.{with_cell}
use Rattle.block_memory.specs.Blocks.{Blocks, put, with_frame, without_frames}
use Rattle.pt_core.specs.CodeTree.{FunctionTree, ProgramTree, no_stmts}
use Rattle.pt_core.specs.Types.{Context, shape_of}
use Rattle.pt_core.specs.Values.{number_in}
use Rattle.pt_core.specs.Statements.{State, Outcome, Frame, Calls, Flow, goes_on, broke, continues, returned, with_blocks, do_all}
pub use Rattle.pt_tree.specs.Signatures.{no_signature}

-- ---- what numbers name

abbrev pub signature_in : ProgramTree → ℕ → Signature
signature_in program f = unwrap_or (lookup (nat_eq f) program.signatures) no_signature

abbrev pub no_function : FunctionTree
no_function = record { id = 0; params = 0; vars = []; body = no_stmts; end = record { from = 0; to = 0 } }

abbrev pub function_in : ProgramTree → ℕ → FunctionTree
function_in program f = unwrap_or (find (λ g. nat_eq f g.id) program.functions) no_function

-- the types that the code of a function names
abbrev pub context_in : ProgramTree → ℕ → Context
context_in program f = record {
  structs = program.structs;
  globals = map (λ g. (g.id, g.var.ty)) program.globals;
  variables = map (λ x. x.ty) (function_in program f).vars;
}

-- ---- entering and leaving

-- the arguments lie in the first variables
abbrev pub with_arguments : Blocks → ℕ → ℕ → List Cell → Blocks
with_arguments blocks depth v [] = blocks
with_arguments blocks depth v (a ∷ rest) = with_arguments (put blocks (Local depth v) (with_cell (blocks (Local depth v)) 0 a)) depth (v + 1) rest

-- a function is entered at this depth: its variables are as at their declarations, the arguments in the
-- first of them
abbrev pub entered : ProgramTree → ℕ → ℕ → List Cell → Blocks → Blocks
entered program f depth args blocks =
    with_arguments (with_frame blocks depth (map (λ x. shape_of program.structs x.ty) (function_in program f).vars)) depth 0 args

abbrev pub left_at : ℕ → State → State
left_at depth st = with_blocks (without_frames st.memory depth) st

-- at the end of its code a function without a result returns, and another owes one
abbrev pub at_end : Option IntType → Span → ℕ → State → Outcome (Option Cell)
at_end None s depth st = gives None (left_at depth st)
at_end (Some t) s depth st = trapped NoReturn s st

abbrev pub returned_from : Option IntType → Span → ℕ → Flow → State → Outcome (Option Cell)
returned_from result s depth goes_on st = at_end result s depth st
returned_from result s depth broke st = at_end result s depth st
returned_from result s depth continues st = at_end result s depth st
returned_from result s depth (returned v) st = gives v (left_at depth st)

-- ---- calls

abbrev pub noted_call : ProgramTree → Frame → ℕ → List Cell → State → State
noted_call program frame f args st = noted (guarded_event frame.privileged (signature_in program f) f (map number_in args)) st

abbrev pub number_cell : Option ℤ → Option Cell
number_cell result = option_map cell.Int result

-- a call of a host: its turn, its event if it is guarded, its step
abbrev pub host_call : ProgramTree → Frame → ℕ → List Cell → State → Outcome (Option Cell)
host_call program frame f args st = take_turn st.left st (λ st1.
    let st2 = noted_call program frame f args st1 in
    let answer = answer_of f (map number_in args) st2 in
    gives (number_cell answer.result) (after_answer f answer st2))

abbrev pub inner_frame : ProgramTree → Frame → ℕ → Frame
inner_frame program frame f = record {
  context = context_in program f;
  depth = frame.depth + 1;
  privileged = frame.privileged || (signature_in program f).privileged;
}

-- a function's body, from its entry on
abbrev pub body_run : ProgramTree → Calls → Frame → ℕ → List Cell → State → Outcome (Option Cell)
body_run program calls frame f args st =
    do_all (function_in program f).body frame calls (with_blocks (entered program f frame.depth args st.memory) st)
    >>= returned_from (signature_in program f).result (function_in program f).end frame.depth

-- a call of a function: its turn, its event if it is guarded, its body
abbrev pub function_call : ProgramTree → Calls → Frame → ℕ → List Cell → State → Outcome (Option Cell)
function_call program calls frame f args st = take_turn st.left st (λ st1.
    body_run program calls (inner_frame program frame f) f args (noted_call program frame f args st1))

-- what calls do where functions may be entered this much deeper: the depth is tested first
abbrev pub calls_within : ProgramTree → ℕ → Calls
calls_within program zero frame s f args st =
    if (signature_in program f).host then host_call program frame f args st else trapped Depth s st
calls_within program (suc deeper) frame s f args st =
    if (signature_in program f).host then host_call program frame f args st else function_call program (calls_within program deeper) frame f args st
