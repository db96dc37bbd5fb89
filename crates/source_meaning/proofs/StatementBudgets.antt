-- Statements keep their budget where calls do.
use Rattle.std.proofs.Common.{◌+◌, ℕ, zero, suc, Bool, true, false, List, [], ◌∷◌, Option, Some, None, if◌then◌else◌, get_or}
use Rattle.pt_int.specs.Conversion.{conv}
use Rattle.runs.specs.State.{gives, ◌>>=◌, take_turn}
use Rattle.typed_tree.specs.declared.ids.ExprId.{ExprId}
use Rattle.typed_tree.specs.declared.statement.TypedInit.{TypedInit}
use Rattle.typed_tree.specs.declared.statement.TypedInit.TheVariants as n
use Rattle.typed_tree.specs.declared.statement.TypedDeclarator.{TypedDeclarator}
use Rattle.typed_tree.specs.declared.statement.TypedForInit.{TypedForInit}
use Rattle.typed_tree.specs.declared.statement.TypedForInit.TheVariants as f
use Rattle.typed_tree.specs.StatementTree.{BodyTree, block, nothing, evaluate, declare, choose, while_true, do_while, for_each, give_back, stop_loop, next_turn, switch, ElseTree, no_else, otherwise, BodyTrees, no_bodies, body_and, SectionTree, section, SectionTrees, no_sections, section_and}
use Rattle.source_meaning.specs.Memory.{local, put}
use Rattle.source_meaning.specs.State.{State, Outcome}
use Rattle.source_meaning.specs.Values as v
use Rattle.source_meaning.specs.Values.{Value, number_of, is_true, cleared}
use Rattle.source_meaning.specs.Expressions.{sizes, type_at, store}
use Rattle.source_meaning.specs.Statements.{Code, no_expr, outermost, Flow, goes_on, broke, continues, returned, after_flow, variable_at, items_stored, initialised, declared, Round, again, leaves, body_round, looped, tested, stepped_first, tested_later, for_begins, chosen, past_switch, statement, otherwise_of, all_of, sections_from, section_of}
use Rattle.source_meaning.proofs.Budgets.{Keeps, keeps_bind, keeps_gives, keeps_memory, keeps_if, keeps_turn}
use Rattle.source_meaning.proofs.LoopBudgets.{keeps_looped}
use Rattle.source_meaning.proofs.ExpressionBudgets.{CallsKeep, keeps_value, keeps_store}

-- ---- parts of statements

keeps_outermost : (code : Code) (e : ExprId) → CallsKeep code.context.calls → Keeps (outermost code e)
keeps_outermost code e k = keeps_value (get_or code.exprs e.0 no_expr) code.context k

keeps_flow : (rest : State → Outcome Flow) → Keeps rest → (flow : Flow) → Keeps (after_flow rest flow)
keeps_flow rest k goes_on = k
keeps_flow rest k broke = keeps_gives broke
keeps_flow rest k continues = keeps_gives continues
keeps_flow rest k (returned v) = keeps_gives (returned v)

-- ---- declarations

keeps_items : (es : List ExprId) (x cell : ℕ) (code : Code) → CallsKeep code.context.calls → Keeps (items_stored es x cell code)
keeps_items [] x cell code k = keeps_gives goes_on
keeps_items (e ∷ es) x cell code k =
    keeps_bind (outermost code e) (λ v st1. store (variable_at code x cell) v st1 >>= λ w. items_stored es x (cell + 1) code) (keeps_outermost code e k)
    (λ v. keeps_bind (store (variable_at code x cell) v) (λ w. items_stored es x (cell + 1) code) (keeps_store (variable_at code x cell) v) (λ w. keeps_items es x (cell + 1) code k))

keeps_initialised : (init : TypedInit) (x : ℕ) (code : Code) → CallsKeep code.context.calls → Keeps (initialised init x code)
keeps_initialised n.Nothing x code k = keeps_gives goes_on
keeps_initialised (n.Value e) x code k =
    keeps_bind (outermost code e) (λ v st1. store (variable_at code x 0) v st1 >>= λ w. gives goes_on) (keeps_outermost code e k)
    (λ v. keeps_bind (store (variable_at code x 0) v) (λ w. gives goes_on) (keeps_store (variable_at code x 0) v) (λ w. keeps_gives goes_on))
keeps_initialised (n.Items s es) x code k = keeps_items es x 0 code k

keeps_declared : (ds : List TypedDeclarator) (code : Code) → CallsKeep code.context.calls → Keeps (declared ds code)
keeps_declared [] code k = keeps_gives goes_on
keeps_declared (d ∷ ds) code k =
    keeps_memory (λ memory. put memory (local code.context.frame.depth d.var.0) (cleared (sizes code.context) (type_at code.context.variables d.var.0)))
    (λ st. initialised d.init d.var.0 code st >>= λ flow. declared ds code)
    (keeps_bind (initialised d.init d.var.0 code) (λ flow. declared ds code) (keeps_initialised d.init d.var.0 code k) (λ flow. keeps_declared ds code k))

-- ---- loops

keeps_round : (flow : Flow) → Keeps (body_round flow)
keeps_round goes_on = keeps_gives again
keeps_round continues = keeps_gives again
keeps_round broke = keeps_gives (leaves goes_on)
keeps_round (returned v) = keeps_gives (leaves (returned v))

keeps_tested : (test : Option ExprId) (code : Code) (body : State → Outcome Round) → CallsKeep code.context.calls → Keeps body → Keeps (tested test code body)
keeps_tested None code body k kb = kb
keeps_tested (Some e) code body k kb =
    keeps_bind (outermost code e) (λ v. if is_true v then body else gives (leaves goes_on)) (keeps_outermost code e k)
    (λ v. keeps_if (is_true v) body (gives (leaves goes_on)) kb (keeps_gives (leaves goes_on)))

keeps_stepped : (first : Bool) (step : Option ExprId) (code : Code) (rest : State → Outcome Round) → CallsKeep code.context.calls → Keeps rest → Keeps (stepped_first first step code rest)
keeps_stepped true step code rest k kr = kr
keeps_stepped false None code rest k kr = kr
keeps_stepped false (Some e) code rest k kr = keeps_bind (outermost code e) (λ v. rest) (keeps_outermost code e k) (λ v. kr)

keeps_later : (first : Bool) (e : ExprId) (code : Code) (body : State → Outcome Round) → CallsKeep code.context.calls → Keeps body → Keeps (tested_later first e code body)
keeps_later true e code body k kb = kb
keeps_later false e code body k kb = keeps_tested (Some e) code body k kb

keeps_begins : (begin : TypedForInit) (code : Code) → CallsKeep code.context.calls → Keeps (for_begins begin code)
keeps_begins f.Nothing code k = keeps_gives goes_on
keeps_begins (f.Declare d) code k = keeps_declared d.declarators code k
keeps_begins (f.Evaluate e) code k = keeps_bind (outermost code e) (λ v. gives goes_on) (keeps_outermost code e k) (λ v. keeps_gives goes_on)

keeps_past : (flow : Flow) → Keeps (past_switch flow)
keeps_past goes_on = keeps_gives goes_on
keeps_past broke = keeps_gives goes_on
keeps_past continues = keeps_gives continues
keeps_past (returned v) = keeps_gives (returned v)

-- ---- the forms

mutual
  pub keeps_statement : (s : BodyTree) (code : Code) → CallsKeep code.context.calls → Keeps (statement s code)
  keeps_statement (block s statements) code k = keeps_all statements code k
  keeps_statement (nothing s) code k = keeps_gives goes_on
  keeps_statement (evaluate s e) code k = keeps_bind (outermost code e) (λ v. gives goes_on) (keeps_outermost code e k) (λ v. keeps_gives goes_on)
  keeps_statement (declare d) code k = keeps_declared d.declarators code k
  keeps_statement (choose s e a b) code k =
      keeps_bind (outermost code e) (λ v. if is_true v then statement a code else otherwise_of b code) (keeps_outermost code e k)
      (λ v. keeps_if (is_true v) (statement a code) (otherwise_of b code) (keeps_statement a code k) (keeps_otherwise b code k))
  keeps_statement (while_true s e a) code k =
      keeps_looped (λ first. tested (Some e) code (λ st1. statement a code st1 >>= body_round))
      (λ first. keeps_tested (Some e) code (λ st1. statement a code st1 >>= body_round) k (keeps_bind (statement a code) body_round (keeps_statement a code k) keeps_round)) true
  keeps_statement (do_while s a e) code k =
      keeps_looped (λ first. tested_later first e code (λ st1. statement a code st1 >>= body_round))
      (λ first. keeps_later first e code (λ st1. statement a code st1 >>= body_round) k (keeps_bind (statement a code) body_round (keeps_statement a code k) keeps_round)) true
  keeps_statement (for_each s begin test step a) code k =
      keeps_bind (for_begins begin code) (λ flow st1. looped st1.left (λ first. stepped_first first step code (tested test code (λ st2. statement a code st2 >>= body_round))) true st1) (keeps_begins begin code k)
      (λ flow. keeps_looped (λ first. stepped_first first step code (tested test code (λ st2. statement a code st2 >>= body_round)))
      (λ first. keeps_stepped first step code (tested test code (λ st2. statement a code st2 >>= body_round)) k
      (keeps_tested test code (λ st2. statement a code st2 >>= body_round) k (keeps_bind (statement a code) body_round (keeps_statement a code k) keeps_round))) true)
  keeps_statement (give_back s None) code k = keeps_gives (returned v.nothing)
  keeps_statement (give_back s (Some e)) code k = keeps_bind (outermost code e) (λ x. gives (returned x)) (keeps_outermost code e k) (λ x. keeps_gives (returned x))
  keeps_statement (stop_loop s) code k = keeps_gives broke
  keeps_statement (next_turn s) code k = keeps_gives continues
  keeps_statement (switch s e ty sections) code k =
      keeps_bind (outermost code e) (λ x st1. take_turn st1.left st1 (λ st2. sections_from sections (chosen sections (conv ty (number_of x))) code st2 >>= past_switch)) (keeps_outermost code e k)
      (λ x. keeps_turn (λ st2. sections_from sections (chosen sections (conv ty (number_of x))) code st2 >>= past_switch)
      (keeps_bind (sections_from sections (chosen sections (conv ty (number_of x))) code) past_switch (keeps_sections sections (chosen sections (conv ty (number_of x))) code k) keeps_past))

  keeps_otherwise : (b : ElseTree) (code : Code) → CallsKeep code.context.calls → Keeps (otherwise_of b code)
  keeps_otherwise no_else code k = keeps_gives goes_on
  keeps_otherwise (otherwise a) code k = keeps_statement a code k

  keeps_all : (ss : BodyTrees) (code : Code) → CallsKeep code.context.calls → Keeps (all_of ss code)
  keeps_all no_bodies code k = keeps_gives goes_on
  keeps_all (body_and s rest) code k = keeps_bind (statement s code) (after_flow (all_of rest code)) (keeps_statement s code k) (keeps_flow (all_of rest code) (keeps_all rest code k))

  keeps_sections : (sections : SectionTrees) (skipped : ℕ) (code : Code) → CallsKeep code.context.calls → Keeps (sections_from sections skipped code)
  keeps_sections no_sections skipped code k = keeps_gives goes_on
  keeps_sections (section_and s rest) zero code k =
      keeps_bind (section_of s code) (after_flow (sections_from rest zero code)) (keeps_section s code k) (keeps_flow (sections_from rest zero code) (keeps_sections rest zero code k))
  keeps_sections (section_and s rest) (suc skipped) code k = keeps_sections rest skipped code k

  keeps_section : (s : SectionTree) (code : Code) → CallsKeep code.context.calls → Keeps (section_of s code)
  keeps_section (section s label statements) code k = keeps_all statements code k
