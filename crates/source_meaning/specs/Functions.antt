-- The meaning of calls (C99 6.5.2.2), within a depth and a budget of turns.
use Rattle.std.specs.Prelude.{ℕ, zero, suc, ◌+◌, ◌-◌, ℤ, pos, Bool, false, ◌||◌, List, [], Option, Some, None, map, unwrap_or, if◌then◌else◌, nat_eq}
use Rattle.pt_base.specs.declared.int_type.IntType.{IntType}
use Rattle.pt_base.specs.declared.span.Span.{Span}
use Rattle.pt_base.specs.declared.trap.Trap.TheVariants.{Depth, NoReturn}
use Rattle.pt_tree.specs.declared.signature.Signature.{Signature}
use Rattle.pt_tree.specs.HostStep.{Answer}
use Rattle.runs.specs.State.{gives, trapped, ◌>>=◌, take_turn, noted, guarded_event, answer_of, after_answer}
use Rattle.typed_tree.specs.StatementTree.{BodyTree, block, nothing}
use Rattle.typed_tree.specs.TypedTree.{TypedTree, FunctionTree}
use Rattle.typed_tree.specs.Lookup.{function_at}
use Rattle.source_meaning.specs.Memory.{Block, local, global, number, Memory, with_frame}
use Rattle.source_meaning.specs.State.{State, Outcome}
use Rattle.source_meaning.specs.Values as v
use Rattle.source_meaning.specs.Values.{Value, holds, numbers_of, frame_cells}
use Rattle.source_meaning.specs.Expressions.{Frame, Calls, sizes}
use Rattle.source_meaning.specs.Statements.{Code, Flow, goes_on, broke, continues, returned, statement}
pub use Rattle.pt_tree.specs.Signatures.{no_signature}

-- a host without parameters
abbrev pub no_function : FunctionTree
no_function = record { signature = no_signature; name = record { from = 0; to = 0 }; vars = []; body = None }

-- the function of this number, where there is one
abbrev pub function_or_none : TypedTree → ℕ → FunctionTree
function_or_none program f = unwrap_or (function_at program (record { 0 = f })) no_function

abbrev pub no_body : BodyTree
no_body = nothing (record { from = 0; to = 0 })

abbrev pub body_or_none : Option BodyTree → BodyTree
body_or_none (Some body) = body
body_or_none None = no_body

abbrev pub body_at : TypedTree → ℕ → BodyTree
body_at program f = body_or_none (function_or_none program f).body

-- the code of a function in a frame, with what its calls do
abbrev pub code_at : TypedTree → ℕ → Frame → Calls → Code
code_at program f frame calls = record {
  context = record {
    structs = program.structs;
    globals = map (λ g. g.var.ty) program.globals;
    variables = map (λ x. x.ty) (function_or_none program f).vars;
    frame = frame;
    calls = calls;
  };
  exprs = program.exprs;
}

-- ---- hosts

-- what a call of a host gives: a host that gives nothing gives 0, which a void host's caller doesn't use
abbrev pub result_value : Option ℤ → Value
result_value None = holds (number (pos 0))
result_value (Some n) = holds (number n)

abbrev pub answered : ℕ → Answer → State → Outcome Value
answered f answer st = gives (result_value answer.result) (after_answer f answer st)

-- a call of a host: its turn, its event if it is guarded, its step
abbrev pub host_call : TypedTree → Frame → ℕ → List Value → State → Outcome Value
host_call program frame f values st = take_turn st.left st (λ st1.
    answered f (answer_of f (numbers_of values) st1) (noted (guarded_event frame.privileged (function_or_none program f).signature f (numbers_of values)) st1))

-- ---- functions

-- the state in which a function's body begins: each of its variables has its cells
abbrev pub opened : Code → List Value → State → State
opened code values st =
    record st { memory = with_frame st.memory code.context.frame.depth (frame_cells (sizes code.context) code.context.variables values) }

abbrev pub is_local_of : ℕ → Block → Bool
is_local_of depth (local d x) = nat_eq d depth
is_local_of depth (global g) = false

-- the memory without the locals of a function that was called at this depth
abbrev pub without_locals : Memory → ℕ → Memory
without_locals memory depth at = if is_local_of depth at then [] else memory at

abbrev pub left_at : ℕ → State → State
left_at depth st = record st { memory = without_locals st.memory depth }

-- the closing brace of a body
abbrev pub brace_of : BodyTree → Span
brace_of (block s statements) = record { from = s.to - 1; to = s.to }
brace_of body = record { from = 0; to = 0 }

-- at the closing brace a function without a result returns, and another owes one
abbrev pub at_brace : Option IntType → Span → ℕ → State → Outcome Value
at_brace None s depth st = gives v.nothing (left_at depth st)
at_brace (Some t) s depth st = trapped NoReturn s st

abbrev pub returned_from : Option IntType → Span → ℕ → Flow → State → Outcome Value
returned_from result s depth goes_on st = at_brace result s depth st
returned_from result s depth broke st = at_brace result s depth st
returned_from result s depth continues st = at_brace result s depth st
returned_from result s depth (returned v) st = gives v (left_at depth st)

-- the frame of a called function
abbrev pub frame_in : Frame → Signature → Frame
frame_in frame s = record { depth = frame.depth + 1; privileged = frame.privileged || s.privileged }

-- a function is entered: its variables get their cells, and its body runs
abbrev pub entered : TypedTree → Calls → Frame → ℕ → List Value → State → Outcome Value
entered program calls frame f values st =
    let function = function_or_none program f in
    let inner = frame_in frame function.signature in
    let code = code_at program f inner calls in
    statement (body_at program f) code (opened code values st) >>= returned_from function.signature.result (brace_of (body_at program f)) inner.depth

-- a call of a function, with what calls do one deeper: its turn, its event if it is guarded, its body
abbrev pub function_call : TypedTree → Calls → Frame → ℕ → List Value → State → Outcome Value
function_call program calls frame f values st = take_turn st.left st (λ st1.
    entered program calls frame f values (noted (guarded_event frame.privileged (function_or_none program f).signature f (numbers_of values)) st1))

-- what calls do where functions may be entered this much deeper: the depth is tested first
abbrev pub calls_within : TypedTree → ℕ → Calls
calls_within program zero frame s f values st =
    if (function_or_none program f).signature.host then host_call program frame f values st else trapped Depth s st
calls_within program (suc deeper) frame s f values st =
    if (function_or_none program f).signature.host then host_call program frame f values st else function_call program (calls_within program deeper) frame f values st
