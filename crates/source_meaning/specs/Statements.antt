-- The meaning of statements: one equation for each form (C99 6.8).
use Rattle.std.specs.Prelude.{ℕ, zero, suc, ◌+◌, ℤ, Bool, true, false, List, [], ◌∷◌, Option, Some, None, if◌then◌else◌, get_or, unwrap_or, option_map}
use Rattle.std.specs.Ordering.{int_eq}
use Rattle.pt_int.specs.Conversion.{conv}
use Rattle.runs.specs.State.{gives, spent, ◌>>=◌, take_turn}
use Rattle.typed_tree.specs.declared.ids.ExprId.{ExprId}
use Rattle.typed_tree.specs.declared.statement.TypedLabel.{TypedLabel}
use Rattle.typed_tree.specs.declared.statement.TypedLabel.TheVariants.{Case, Default}
use Rattle.typed_tree.specs.declared.statement.TypedInit.{TypedInit}
use Rattle.typed_tree.specs.declared.statement.TypedInit.TheVariants as n
use Rattle.typed_tree.specs.declared.statement.TypedDeclarator.{TypedDeclarator}
use Rattle.typed_tree.specs.declared.statement.TypedForInit.{TypedForInit}
use Rattle.typed_tree.specs.declared.statement.TypedForInit.TheVariants as f
use Rattle.typed_tree.specs.ExpressionTree.{ExprTree, typed}
use Rattle.typed_tree.specs.ExpressionTree as t
use Rattle.typed_tree.specs.StatementTree.{BodyTree, block, nothing, evaluate, declare, choose, while_true, do_while, for_each, give_back, stop_loop, next_turn, switch, ElseTree, no_else, otherwise, BodyTrees, no_bodies, body_and, SectionTree, section, SectionTrees, no_sections, section_and}
use Rattle.source_meaning.specs.Memory.{local, put}
use Rattle.source_meaning.specs.State.{State, Outcome}
use Rattle.source_meaning.specs.Values as v
use Rattle.source_meaning.specs.Values.{Value, number_of, is_true, cleared, Location}
use Rattle.source_meaning.specs.Expressions.{Context, sizes, type_at, value_of, store}
pub use Rattle.typed_tree.specs.WellFormedStatement.{section_label as label_of}

-- What a function's statements run with: what its expressions are evaluated with, and the outermost
-- expressions of the program, which statements name by number.
pub record Code : Type 0 where
  pub context : Context
  pub exprs : List ExprTree

abbrev pub no_expr : ExprTree
no_expr = typed (record { from = 0; to = 0 }) None t.null

-- the value of an outermost expression
abbrev pub outermost : Code → ExprId → State → Outcome Value
outermost code e st = value_of (get_or code.exprs e.0 no_expr) code.context st

-- how control goes on past a statement
pub data Flow : Type 0 where
  goes_on : Flow
  broke : Flow
  continues : Flow
  returned : Value → Flow

-- the rest of a list of statements, as control goes on
abbrev pub after_flow : (State → Outcome Flow) → Flow → State → Outcome Flow
after_flow rest goes_on st = rest st
after_flow rest broke st = gives broke st
after_flow rest continues st = gives continues st
after_flow rest (returned v) st = gives (returned v) st

-- ---- declarations (C99 6.7)

-- a part of a variable, of its own type where it is all
abbrev pub variable_at : Code → ℕ → ℕ → Location
variable_at code x cell = record { block = local code.context.frame.depth x; cell = cell; ty = type_at code.context.variables x }

-- the items of a brace list, each evaluated and stored before the next: one for each cell
abbrev pub items_stored : List ExprId → ℕ → ℕ → Code → State → Outcome Flow
items_stored [] x cell code st = gives goes_on st
items_stored (e ∷ es) x cell code st =
    outermost code e st >>= λ v st1. store (variable_at code x cell) v st1 >>= λ w. items_stored es x (cell + 1) code

abbrev pub initialised : TypedInit → ℕ → Code → State → Outcome Flow
initialised n.Nothing x code st = gives goes_on st
initialised (n.Value e) x code st = outermost code e st >>= λ v st1. store (variable_at code x 0) v st1 >>= λ w. gives goes_on
initialised (n.Items s es) x code st = items_stored es x 0 code st

-- each time that a declaration is reached, the variable's cells are made anew, and then its
-- initialiser is evaluated
abbrev pub cleared_at : Code → ℕ → State → State
cleared_at code x st = record st { memory = put st.memory (local code.context.frame.depth x) (cleared (sizes code.context) (type_at code.context.variables x)) }

abbrev pub declared : List TypedDeclarator → Code → State → Outcome Flow
declared [] code st = gives goes_on st
declared (d ∷ ds) code st = initialised d.init d.var.0 code (cleared_at code d.var.0 st) >>= λ flow. declared ds code

-- ---- loops (C99 6.8.5)

-- what a turn of a loop comes to: another turn, or the loop is left
pub data Round : Type 0 where
  again : Round
  leaves : Flow → Round

-- `continue` goes back to the head, `break` leaves the loop
abbrev pub body_round : Flow → State → Outcome Round
body_round goes_on st = gives again st
body_round continues st = gives again st
body_round broke st = gives (leaves goes_on) st
body_round (returned v) st = gives (leaves (returned v)) st

abbrev pub after_round : (State → Outcome Flow) → Round → State → Outcome Flow
after_round more again st = more st
after_round more (leaves flow) st = gives flow st

-- a loop takes one turn at its entry and one for each return to its head; a round is told whether it is
-- the first. With as many rounds as turns are left, none is missed.
abbrev pub looped : ℕ → (Bool → State → Outcome Round) → Bool → State → Outcome Flow
looped zero round first st = spent st
looped (suc rounds) round first st = take_turn st.left st (λ st1. round first st1 >>= after_round (looped rounds round false))

-- the test of a loop, if it has one, and then its body
abbrev pub tested : Option ExprId → Code → (State → Outcome Round) → State → Outcome Round
tested None code body st = body st
tested (Some e) code body st = outermost code e st >>= λ v. if is_true v then body else gives (leaves goes_on)

-- the step of a `for`, on the way back to its head
abbrev pub stepped_first : Bool → Option ExprId → Code → (State → Outcome Round) → State → Outcome Round
stepped_first true step code rest st = rest st
stepped_first false None code rest st = rest st
stepped_first false (Some e) code rest st = outermost code e st >>= λ v. rest

-- the test of a `do`, on the way back to its head
abbrev pub tested_later : Bool → ExprId → Code → (State → Outcome Round) → State → Outcome Round
tested_later true e code body st = body st
tested_later false e code body st = tested (Some e) code body st

abbrev pub for_begins : TypedForInit → Code → State → Outcome Flow
for_begins f.Nothing code st = gives goes_on st
for_begins (f.Declare d) code st = declared d.declarators code st
for_begins (f.Evaluate e) code st = outermost code e st >>= λ v. gives goes_on

-- ---- switches (C99 6.8.4.2)

abbrev pub has_label : TypedLabel → ℤ → Bool
has_label (Case s v) value = int_eq v value
has_label (Default s) value = false

abbrev pub is_default : TypedLabel → Bool
is_default (Case s v) = false
is_default (Default s) = true

-- the first section whose label passes the test, counted from 0
abbrev pub section_with : (TypedLabel → Bool) → SectionTrees → Option ℕ
section_with is no_sections = None
section_with is (section_and s rest) = if is (label_of s) then Some 0 else option_map suc (section_with is rest)

abbrev pub count_of : SectionTrees → ℕ
count_of no_sections = 0
count_of (section_and s rest) = suc (count_of rest)

-- the section to which control goes: that of the equal case, else that of `default`, else past all
abbrev pub chosen : SectionTrees → ℤ → ℕ
chosen sections value =
    unwrap_or (section_with (λ label. has_label label value) sections) (unwrap_or (section_with is_default sections) (count_of sections))

-- after `break` the switch is over; `continue` is left to the loop around it
abbrev pub past_switch : Flow → State → Outcome Flow
past_switch goes_on st = gives goes_on st
past_switch broke st = gives goes_on st
past_switch continues st = gives continues st
past_switch (returned v) st = gives (returned v) st

abbrev mutual
  pub statement : BodyTree → Code → State → Outcome Flow
  statement (block s statements) code st = all_of statements code st
  statement (nothing s) code st = gives goes_on st
  statement (evaluate s e) code st = outermost code e st >>= λ v. gives goes_on
  statement (declare d) code st = declared d.declarators code st
  statement (choose s e a b) code st = outermost code e st >>= λ v. if is_true v then statement a code else otherwise_of b code
  statement (while_true s e a) code st =
      looped st.left (λ first. tested (Some e) code (λ st1. statement a code st1 >>= body_round)) true st
  statement (do_while s a e) code st =
      looped st.left (λ first. tested_later first e code (λ st1. statement a code st1 >>= body_round)) true st
  statement (for_each s begin test step a) code st =
      for_begins begin code st >>= λ flow st1. looped st1.left (λ first. stepped_first first step code (tested test code (λ st2. statement a code st2 >>= body_round))) true st1
  statement (give_back s None) code st = gives (returned v.nothing) st
  statement (give_back s (Some e)) code st = outermost code e st >>= λ v. gives (returned v)
  statement (stop_loop s) code st = gives broke st
  statement (next_turn s) code st = gives continues st
  statement (switch s e ty sections) code st =
      outermost code e st >>= λ v st1. take_turn st1.left st1 (λ st2. sections_from sections (chosen sections (conv ty (number_of v))) code st2 >>= past_switch)

  pub otherwise_of : ElseTree → Code → State → Outcome Flow
  otherwise_of no_else code st = gives goes_on st
  otherwise_of (otherwise a) code st = statement a code st

  -- a list of statements, one after the other
  pub all_of : BodyTrees → Code → State → Outcome Flow
  all_of no_bodies code st = gives goes_on st
  all_of (body_and s rest) code st = statement s code st >>= after_flow (all_of rest code)

  -- the statements of the sections from this one on
  pub sections_from : SectionTrees → ℕ → Code → State → Outcome Flow
  sections_from no_sections skipped code st = gives goes_on st
  sections_from (section_and s rest) zero code st = section_of s code st >>= after_flow (sections_from rest zero code)
  sections_from (section_and s rest) (suc skipped) code st = sections_from rest skipped code st

  pub section_of : SectionTree → Code → State → Outcome Flow
  section_of (section s label statements) code st = all_of statements code st
