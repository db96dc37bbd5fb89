-- Calls keep their budget, at each depth.
use Rattle.std.proofs.Common.{ℕ, zero, suc, List, Option, Some, None, refl, arith}
use Rattle.pt_base.specs.declared.int_type.IntType.{IntType}
use Rattle.pt_base.specs.declared.span.Span.{Span}
use Rattle.pt_base.specs.declared.trap.Trap.TheVariants.{Depth, NoReturn}
use Rattle.runs.specs.State.{Event, gives, trapped, guarded_event, out_event, noted, answer_of}
use Rattle.typed_tree.specs.StatementTree.{BodyTree}
use Rattle.typed_tree.specs.TypedTree.{TypedTree}
use Rattle.source_meaning.specs.Memory.{with_frame}
use Rattle.source_meaning.specs.State.{State, Outcome}
use Rattle.source_meaning.specs.Values as v
use Rattle.source_meaning.specs.Values.{Value, numbers_of, frame_cells}
use Rattle.source_meaning.specs.Expressions.{Frame, Calls, sizes}
use Rattle.source_meaning.specs.Statements.{Code, Flow, goes_on, broke, continues, returned, statement}
use Rattle.source_meaning.specs.Functions.{function_or_none, body_at, code_at, answered, host_call, opened, without_locals, brace_of, at_brace, returned_from, frame_in, entered, function_call, calls_within}
use Rattle.source_meaning.proofs.Budgets.{Keeps, keeps_bind, keeps_gives, keeps_trapped, keeps_change, keeps_memory, keeps_either, keeps_turn}
use Rattle.source_meaning.proofs.ExpressionBudgets.{CallsKeep}
use Rattle.source_meaning.proofs.StatementBudgets.{keeps_statement}

keeps_noted : {A : Type 0} (events : List Event) (f : State → Outcome A) → Keeps f → Keeps (λ st. f (noted events st))
keeps_noted events f k = keeps_change (noted events) f (λ st. record { added = (events, refl); taken = omega arith }) (λ d st. refl) k

-- ---- hosts

-- the answer of a host depends on its model and the input alone
keeps_answered : (f : ℕ) (values : List Value) → Keeps (λ st. answered f (answer_of f (numbers_of values) st) st)
keeps_answered f values = record {
  grows = λ st. record { added = (out_event (answer_of f (numbers_of values) st).written, refl); taken = omega arith };
  follows = λ d st. refl;
}

keeps_host : (program : TypedTree) (frame : Frame) (f : ℕ) (values : List Value) → Keeps (host_call program frame f values)
keeps_host program frame f values =
    keeps_turn (λ st1. answered f (answer_of f (numbers_of values) st1) (noted (guarded_event frame.privileged (function_or_none program f).signature f (numbers_of values)) st1))
    (keeps_noted (guarded_event frame.privileged (function_or_none program f).signature f (numbers_of values)) (λ st. answered f (answer_of f (numbers_of values) st) st) (keeps_answered f values))

-- ---- functions

keeps_left : (v : Value) (depth : ℕ) → Keeps (λ st. gives v (record st { memory = without_locals st.memory depth }))
keeps_left v depth = keeps_memory (λ memory. without_locals memory depth) (λ st. gives v st) (keeps_gives v)

keeps_brace : (result : Option IntType) (s : Span) (depth : ℕ) → Keeps (at_brace result s depth)
keeps_brace None s depth = keeps_left v.nothing depth
keeps_brace (Some t) s depth = keeps_trapped NoReturn s

keeps_returned : (result : Option IntType) (s : Span) (depth : ℕ) (flow : Flow) → Keeps (returned_from result s depth flow)
keeps_returned result s depth goes_on = keeps_brace result s depth
keeps_returned result s depth broke = keeps_brace result s depth
keeps_returned result s depth continues = keeps_brace result s depth
keeps_returned result s depth (returned v) = keeps_left v depth

-- what a function does from its entry on
pub keeps_opened : (s : BodyTree) (code : Code) (values : List Value) → CallsKeep code.context.calls → Keeps (λ st. statement s code (opened code values st))
keeps_opened s code values k =
    keeps_memory (λ memory. with_frame memory code.context.frame.depth (frame_cells (sizes code.context) code.context.variables values)) (statement s code) (keeps_statement s code k)

keeps_entered : (program : TypedTree) (calls : Calls) → CallsKeep calls → (frame : Frame) (f : ℕ) (values : List Value) → Keeps (entered program calls frame f values)
keeps_entered program calls k frame f values =
    let inner : Frame = frame_in frame (function_or_none program f).signature in
    let code : Code = code_at program f inner calls in
    keeps_bind (λ st. statement (body_at program f) code (opened code values st))
    (returned_from (function_or_none program f).signature.result (brace_of (body_at program f)) inner.depth)
    (keeps_opened (body_at program f) code values k)
    (keeps_returned (function_or_none program f).signature.result (brace_of (body_at program f)) inner.depth)

keeps_function : (program : TypedTree) (calls : Calls) → CallsKeep calls → (frame : Frame) (f : ℕ) (values : List Value) → Keeps (function_call program calls frame f values)
keeps_function program calls k frame f values =
    keeps_turn (λ st1. entered program calls frame f values (noted (guarded_event frame.privileged (function_or_none program f).signature f (numbers_of values)) st1))
    (keeps_noted (guarded_event frame.privileged (function_or_none program f).signature f (numbers_of values)) (entered program calls frame f values) (keeps_entered program calls k frame f values))

pub keeps_calls : (program : TypedTree) (deeper : ℕ) → CallsKeep (calls_within program deeper)
keeps_calls program zero = record {
  each = λ frame s f values. keeps_either (function_or_none program f).signature.host (host_call program frame f values) (λ st. trapped Depth s st) (keeps_host program frame f values) (keeps_trapped Depth s);
}
keeps_calls program (suc deeper) = record {
  each = λ frame s f values. keeps_either (function_or_none program f).signature.host (host_call program frame f values) (function_call program (calls_within program deeper) frame f values)
      (keeps_host program frame f values) (keeps_function program (calls_within program deeper) (keeps_calls program deeper) frame f values);
}
