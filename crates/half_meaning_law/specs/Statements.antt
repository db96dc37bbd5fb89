-- What the tree of a half keeps of statements.
use Rattle.std.specs.Prelude.{◌≡◌, ◌+◌, ℕ, ℤ, pos, Bool, true, List, [], ◌∷◌, Option, Some, None, IsTrue, not, length, get_or, slice_get, unwrap_or}
use Rattle.pt_base.specs.declared.int_type.IntType.{IntType}
use Rattle.pt_base.specs.declared.span.Span.{Span}
use Rattle.pt_tree.specs.declared.signature.Param.{Param}
use Rattle.pt_tree.specs.declared.signature.Signature.{Signature}
use Rattle.pt_tree.specs.StatementTree as e
use Rattle.typed_tree.specs.ExpressionTree.{ExprTree}
use Rattle.typed_tree.specs.StatementTree.{body_trees}
use Rattle.typed_tree.specs.WellFormedExpression.{param_type, is_main}
use Rattle.check_statements.specs.declared.context.Context as k
use Rattle.check_statements.specs.Outermost as o
use Rattle.check_statements.specs.Statements.{CheckedAll, checked_all}
use Rattle.block_memory.specs.declared.cell.Cell as core
use Rattle.block_memory.specs.declared.cell.Cell.TheVariants.{Int}
use Rattle.source_meaning.specs.Memory.{number}
use Rattle.source_meaning.specs.State.{State, Outcome}
use Rattle.source_meaning.specs.Values.{Value, holds, nothing}
use Rattle.source_meaning.specs.Statements as m
use Rattle.source_meaning.specs.Statements.{no_expr, all_of}
use Rattle.pt_core.specs.CodeTree.{StmtTree, StmtTrees, FunctionTree, ProgramTree}
use Rattle.pt_core.specs.WellFormed as half
use Rattle.pt_core.specs.WellFormed.{signature_at, called_signature, is_sound}
use Rattle.pt_core.specs.Statements as c
use Rattle.pt_core.specs.Statements.{does, do_all}
use Rattle.pt_core.specs.WellFormedStatement.{Scope, stmt_fits, stmts_fit}
use Rattle.half_trees.specs.Statements.{statement_trees, statements_trees}
use Rattle.half_meaning_law.specs.Relations.{Scene, context_of, frame_of, Alike, Same}
use Rattle.half_meaning_law.specs.CForms.{is_said, are_said}
use Rattle.half_meaning_law.specs.Known.{Known, FunctionsKnown, result_as}
use Rattle.half_meaning_law.specs.Expressions.{IsValue, SceneFits}

-- ---- code

-- the text's statements name these outermost expressions
abbrev pub code_of : Scene → List ExprTree → m.Code
code_of s exprs = record { context = context_of s; exprs = exprs }

-- the outermost expressions from this number on are these
abbrev pub ListedFrom : List ExprTree → ℕ → List ExprTree → Type 0
ListedFrom exprs n [] = Unit {0}
ListedFrom exprs n (x ∷ xs) = (get_or exprs n no_expr ≡ x) × ListedFrom exprs (n + 1) xs

-- ---- how control goes on

-- what is returned
abbrev pub SameReturn : Value → Option core.Cell → Type 0
SameReturn v None = v ≡ nothing
SameReturn v (Some x) = (n : ℤ) × (v ≡ holds (number n)) × (x ≡ Int n)

-- both go on in the same way
abbrev pub SameFlow : m.Flow → c.Flow → Type 0
SameFlow m.goes_on c.goes_on = Unit {0}
SameFlow m.goes_on c.broke = ⊥
SameFlow m.goes_on c.continues = ⊥
SameFlow m.goes_on (c.returned x) = ⊥
SameFlow m.broke c.goes_on = ⊥
SameFlow m.broke c.broke = Unit {0}
SameFlow m.broke c.continues = ⊥
SameFlow m.broke (c.returned x) = ⊥
SameFlow m.continues c.goes_on = ⊥
SameFlow m.continues c.broke = ⊥
SameFlow m.continues c.continues = Unit {0}
SameFlow m.continues (c.returned x) = ⊥
SameFlow (m.returned v) c.goes_on = ⊥
SameFlow (m.returned v) c.broke = ⊥
SameFlow (m.returned v) c.continues = ⊥
SameFlow (m.returned v) (c.returned x) = SameReturn v x

pub record GoesOn (s : Scene) (flow : m.Flow) (st : State) (flow' : c.Flow) (st' : c.State) : Type 0 where
  pub alike : Alike s st st'
  pub same : SameFlow flow flow'

-- in states that are alike, both come to the same
abbrev pub SameRuns : Scene → (State → Outcome m.Flow) → (c.State → c.Outcome c.Flow) → Type 0
SameRuns s run run' = (st : State) (st' : c.State) → Alike s st st' → Same s (GoesOn s) (run st) (run' st')

-- ---- calls

-- one argument for each parameter, of its type
abbrev pub AreArguments : Scene → List Param → List Value → List core.Cell → Type 0
AreArguments s [] [] [] = Unit {0}
AreArguments s (p ∷ ps) (v ∷ vs) (x ∷ xs) = IsValue s (param_type p.kind) v x × AreArguments s ps vs xs
AreArguments s _ _ _ = ⊥

-- the result of a call, 0 where a host gave none; nothing is said of a result that isn't one
abbrev pub SameResult : Option IntType → Value → Option core.Cell → Type 0
SameResult None v x = Unit {0}
SameResult (Some t) v x = (n : ℤ) × (v ≡ holds (number n)) × (unwrap_or x (Int (pos 0)) ≡ Int n)

pub record GivesResult (s : Scene) (result : Option IntType) (v : Value) (st : State) (x : Option core.Cell) (st' : c.State) : Type 0 where
  pub alike : Alike s st st'
  pub same : SameResult result v x

-- calls with the same arguments come to the same
abbrev pub CallsAlike : Scene → (ℕ → Option Signature) → Type 0
CallsAlike s called = (span span' : Span) (f : ℕ) (signature : Signature) (vs : List Value) (xs : List core.Cell) (st : State) (st' : c.State) →
    called (s.function_number f) ≡ Some signature → IsTrue (not (is_main signature)) → AreArguments s signature.params vs xs → Alike s st st' →
    Same s (GivesResult s signature.result) (s.calls s.frame span f vs st) (s.core_calls (frame_of s) span' (s.function_number f) xs st')

-- ---- what is judged of trees

-- the state behind so many outermost expressions
abbrev pub advanced : o.State → ℕ → o.State
advanced st n = record { env = st.env; structs = st.structs; next = st.next + n }

-- Statements are judged without fault, declare nothing, and their typed trees run as this does.
pub record StatementsMean (s : Scene) (st : o.State) (ch : CheckedAll) (run : c.State → c.Outcome c.Flow) : Type 0 where
  pub fine : ch.faults ≡ []
  pub state : ch.state ≡ advanced st (length ch.trees)
  pub same : (exprs : List ExprTree) → ListedFrom exprs st.next ch.trees → SameRuns s (all_of (body_trees ch.bodies) (code_of s exprs)) run

-- what the normal form's statements are tested by, and what their trees are judged in
pub record Judging (s : Scene) (scope : Scope) (looped : Bool) (c : k.Context) : Type 0 where
  pub context : scope.context ≡ s.context
  pub result : c.result ≡ result_as scope.result
  pub in_loop : looped ≡ true → c.in_loop ≡ true
  pub calls : CallsAlike s scope.called

-- ---- laws

-- each statement
abbrev pub StatementsKeepTheirMeaning : Type 0
StatementsKeepTheirMeaning = (s : Scene) (names : List (ℕ × Signature)) (scope : Scope) (looped : Bool) (c : k.Context) (st : o.State) (a : StmtTree) → SceneFits s → Known s st.env st.structs → FunctionsKnown s names scope.called st.env → Judging s scope looped c →
    IsTrue (stmt_fits scope looped a) → IsTrue (is_said s.context scope.called a) →
    StatementsMean s st (checked_all c st (e.stmt_trees (statement_trees names s.context a))) (does a (frame_of s) s.core_calls)

-- and lists of them
abbrev pub BlocksKeepTheirMeaning : Type 0
BlocksKeepTheirMeaning = (s : Scene) (names : List (ℕ × Signature)) (scope : Scope) (looped : Bool) (c : k.Context) (st : o.State) (xs : StmtTrees) → SceneFits s → Known s st.env st.structs → FunctionsKnown s names scope.called st.env → Judging s scope looped c →
    IsTrue (stmts_fit scope looped xs) → IsTrue (are_said s.context scope.called xs) →
    StatementsMean s st (checked_all c st (e.stmt_trees (statements_trees names s.context xs))) (do_all xs (frame_of s) s.core_calls)

-- The body of a function of a sound half, as its tree has it: what its statements' trees are judged in knows
-- the names of the half, and the function's result.
abbrev pub BodiesKeepTheirMeaning : Type 0
BodiesKeepTheirMeaning = (monitor : Bool) (program : ProgramTree) (n : ℕ) (f : FunctionTree) (signature : Signature) (s : Scene) (c : k.Context) (st : o.State) → IsTrue (is_sound monitor program) → slice_get program.functions n ≡ Some f → signature_at program f.id ≡ Some signature →
    SceneFits s → s.context ≡ half.context_of program f.vars → CallsAlike s (called_signature monitor program) → Known s st.env st.structs → FunctionsKnown s program.signatures (called_signature monitor program) st.env → c.result ≡ result_as signature.result →
    IsTrue (are_said s.context (called_signature monitor program) f.body) → StatementsMean s st (checked_all c st (e.stmt_trees (statements_trees program.signatures s.context f.body))) (do_all f.body (frame_of s) s.core_calls)
