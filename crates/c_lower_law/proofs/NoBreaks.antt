-- A sound statement breaks only where a break may stand.
use Rattle.std.proofs.Common.{◌≡◌, ◌∙◌, ℕ, zero, suc, ◌+◌, refl, ap, sym, subst, Bool, true, false, Option, Some, None, List, [], ◌∷◌, if◌then◌else◌}
use Rattle.std.specs.Prelude.{IsTrue, ◌&&◌}
use Rattle.pt_base.specs.declared.int_type.IntType.{IntType}
use Rattle.pt_base.proofs.Booleans.{both_hold_first as left, both_hold_second}
use Rattle.pt_int.specs.Conversion.{conv}
use Rattle.runs.specs.State.{gives, trapped, spent, ◌>>=◌, take_turn}
use Rattle.typed_tree.specs.declared.ids.ExprId.{ExprId}
use Rattle.typed_tree.specs.declared.statement.TypedInit.{TypedInit}
use Rattle.typed_tree.specs.declared.statement.TypedInit.TheVariants as n
use Rattle.typed_tree.specs.declared.statement.TypedDeclarator.{TypedDeclarator}
use Rattle.typed_tree.specs.StatementTree.{BodyTree, ElseTree, BodyTrees, SectionTree, SectionTrees, block, nothing, evaluate, declare, choose, while_true, do_while, for_each, give_back, stop_loop, next_turn, switch, no_else, otherwise, no_bodies, body_and, section, no_sections, section_and}
use Rattle.typed_tree.specs.TypeTests.{is_scalar}
use Rattle.typed_tree.specs.WellFormedStatement as w
use Rattle.typed_tree.specs.WellFormedStatement.{is_sound, else_sound, all_sound, sections_sound, expr_fits, labels_fit, labels_of, promotes_to, for_init_fits, option_fits, any_type}
use Rattle.source_meaning.specs.State.{State, Outcome}
use Rattle.source_meaning.specs.Values.{Value, is_true, number_of}
use Rattle.source_meaning.specs.Expressions.{store}
use Rattle.source_meaning.specs.Statements as m
use Rattle.source_meaning.specs.Statements.{Code, outermost, Flow, goes_on, broke, continues, returned, after_flow, items_stored, initialised, declared, Round, again, leaves, body_round, after_round, looped, chosen, past_switch, statement, otherwise_of, all_of, sections_from, section_of}

-- it doesn't break, where that isn't allowed
abbrev pub Breaks : Bool → Outcome Flow → Type 0
Breaks out (gives goes_on st) = Unit {0}
Breaks out (gives broke st) = out ≡ true
Breaks out (gives continues st) = Unit {0}
Breaks out (gives (returned v) st) = Unit {0}
Breaks out (trapped trap span st) = Unit {0}
Breaks out (spent st) = Unit {0}

after_value : {A : Type 0} (out : Bool) (o : Outcome A) (k : A → State → Outcome Flow) → ((a : A) (st : State) → Breaks out (k a st)) → Breaks out (o >>= k)
after_value out (gives a st) k h = h a st
after_value out (trapped trap span st) k h = tt
after_value out (spent st) k h = tt

after_one : (out : Bool) (o : Outcome Flow) (k : State → Outcome Flow) → Breaks out o → ((st : State) → Breaks out (k st)) → Breaks out (o >>= after_flow k)
after_one out (gives goes_on st) k h g = g st
after_one out (gives broke st) k h g = h
after_one out (gives continues st) k h g = tt
after_one out (gives (returned v) st) k h g = tt
after_one out (trapped trap span st) k h g = tt
after_one out (spent st) k h g = tt

-- a round leaves its loop with no break
abbrev Leaves : Outcome Round → Type 0
Leaves (gives again st) = Unit {0}
Leaves (gives (leaves goes_on) st) = Unit {0}
Leaves (gives (leaves broke) st) = ⊥
Leaves (gives (leaves continues) st) = Unit {0}
Leaves (gives (leaves (returned v)) st) = Unit {0}
Leaves (trapped trap span st) = Unit {0}
Leaves (spent st) = Unit {0}

round_leaves : (o : Outcome Flow) → Leaves (o >>= body_round)
round_leaves (gives goes_on st) = tt
round_leaves (gives broke st) = tt
round_leaves (gives continues st) = tt
round_leaves (gives (returned v) st) = tt
round_leaves (trapped trap span st) = tt
round_leaves (spent st) = tt

value_leaves : {A : Type 0} (o : Outcome A) (k : A → State → Outcome Round) → ((a : A) (st : State) → Leaves (k a st)) → Leaves (o >>= k)
value_leaves (gives a st) k h = h a st
value_leaves (trapped trap span st) k h = tt
value_leaves (spent st) k h = tt

test_leaves : (b : Bool) (body : State → Outcome Round) (st : State) → ((st1 : State) → Leaves (body st1)) → Leaves ((if b then body else gives (leaves goes_on)) st)
test_leaves true body st h = h st
test_leaves false body st h = tt

tested_leaves : (test : Option ExprId) (code : Code) (body : State → Outcome Round) (st : State) → ((st1 : State) → Leaves (body st1)) → Leaves (m.tested test code body st)
tested_leaves None code body st h = h st
tested_leaves (Some e) code body st h = value_leaves (outermost code e st) (λ v. if is_true v then body else gives (leaves goes_on)) (λ v st1. test_leaves (is_true v) body st1 h)

stepped_leaves : (first : Bool) (step : Option ExprId) (code : Code) (rest : State → Outcome Round) (st : State) → ((st1 : State) → Leaves (rest st1)) → Leaves (m.stepped_first first step code rest st)
stepped_leaves true step code rest st h = h st
stepped_leaves false None code rest st h = h st
stepped_leaves false (Some e) code rest st h = value_leaves (outermost code e st) (λ v. rest) (λ v st1. h st1)

later_leaves : (first : Bool) (e : ExprId) (code : Code) (body : State → Outcome Round) (st : State) → ((st1 : State) → Leaves (body st1)) → Leaves (m.tested_later first e code body st)
later_leaves true e code body st h = h st
later_leaves false e code body st h = tested_leaves (Some e) code body st h

turn_breaks : (out : Bool) (left : ℕ) (st : State) (k : State → Outcome Flow) → ((st1 : State) → Breaks out (k st1)) → Breaks out (take_turn left st k)
turn_breaks out zero st k h = tt
turn_breaks out (suc left) st k h = h (record st { left = left })

round_breaks : (out : Bool) (o : Outcome Round) (more : State → Outcome Flow) → Leaves o → ((st : State) → Breaks out (more st)) → Breaks out (o >>= after_round more)
round_breaks out (gives again st) more h g = g st
round_breaks out (gives (leaves goes_on) st) more h g = tt
round_breaks out (gives (leaves broke) st) more h g = absurd h
round_breaks out (gives (leaves continues) st) more h g = tt
round_breaks out (gives (leaves (returned v)) st) more h g = tt
round_breaks out (trapped trap span st) more h g = tt
round_breaks out (spent st) more h g = tt

looped_breaks : (out : Bool) (rounds : ℕ) (round : Bool → State → Outcome Round) (first : Bool) (st : State) → ((b : Bool) (st1 : State) → Leaves (round b st1)) → Breaks out (looped rounds round first st)
looped_breaks out zero round first st h = tt
looped_breaks out (suc rounds) round first st h =
    turn_breaks out st.left st (λ st1. round first st1 >>= after_round (looped rounds round false)) (λ st1. round_breaks out (round first st1) (looped rounds round false) (h first st1) (λ st2. looped_breaks out rounds round false st2 h))

items_break : (es : List ExprId) (out : Bool) (x cell : ℕ) (code : Code) (st : State) → Breaks out (items_stored es x cell code st)
items_break [] out x cell code st = tt
items_break (e ∷ es) out x cell code st =
    after_value out (outermost code e st) (λ v st1. store (m.variable_at code x cell) v st1 >>= λ w. items_stored es x (cell + 1) code)
    (λ v st1. after_value out (store (m.variable_at code x cell) v st1) (λ w. items_stored es x (cell + 1) code) (λ w st2. items_break es out x (cell + 1) code st2))

init_breaks : (init : TypedInit) (out : Bool) (x : ℕ) (code : Code) (st : State) → Breaks out (initialised init x code st)
init_breaks n.Nothing out x code st = tt
init_breaks (n.Value e) out x code st =
    after_value out (outermost code e st) (λ v st1. store (m.variable_at code x 0) v st1 >>= λ w. gives goes_on) (λ v st1. after_value out (store (m.variable_at code x 0) v st1) (λ w. gives goes_on) (λ w st2. tt))
init_breaks (n.Items s es) out x code st = items_break es out x 0 code st

declared_breaks : (ds : List TypedDeclarator) (out : Bool) (code : Code) (st : State) → Breaks out (declared ds code st)
declared_breaks [] out code st = tt
declared_breaks (d ∷ ds) out code st = after_value out (initialised d.init d.var.0 code (m.cleared_at code d.var.0 st)) (λ flow. declared ds code) (λ flow st1. declared_breaks ds out code st1)

switch_breaks : (out : Bool) (o : Outcome Flow) → Breaks out (o >>= past_switch)
switch_breaks out (gives goes_on st) = tt
switch_breaks out (gives broke st) = tt
switch_breaks out (gives continues st) = tt
switch_breaks out (gives (returned v) st) = tt
switch_breaks out (trapped trap span st) = tt
switch_breaks out (spent st) = tt

if_breaks : (out b : Bool) (one two : State → Outcome Flow) (st : State) → ((st1 : State) → Breaks out (one st1)) → ((st1 : State) → Breaks out (two st1)) → Breaks out ((if b then one else two) st)
if_breaks out true one two st h g = h st
if_breaks out false one two st h g = g st

mutual
  pub statement_breaks : (body : BodyTree) (scope : w.Scope) (out back : Bool) (code : Code) (st : State) → IsTrue (is_sound scope out back body) → Breaks out (statement body code st)
  statement_breaks (block s bs) scope out back code st h = all_break bs scope out back code st h
  statement_breaks (nothing s) scope out back code st h = tt
  statement_breaks (evaluate s e) scope out back code st h = after_value out (outermost code e st) (λ v. gives goes_on) (λ v st1. tt)
  statement_breaks (declare d) scope out back code st h = declared_breaks d.declarators out code st
  statement_breaks (choose s e a b) scope out back code st h =
      let rest = both_hold_second (expr_fits scope is_scalar e) (is_sound scope out back a && else_sound scope out back b) h in
      after_value out (outermost code e st) (λ v. if is_true v then statement a code else otherwise_of b code)
      (λ v st1. if_breaks out (is_true v) (statement a code) (otherwise_of b code) st1 (λ st2. statement_breaks a scope out back code st2 (left (is_sound scope out back a) (else_sound scope out back b) rest)) (λ st2. else_breaks b scope out back code st2 (both_hold_second (is_sound scope out back a) (else_sound scope out back b) rest)))
  statement_breaks (while_true s e a) scope out back code st h =
      looped_breaks out st.left (λ first. m.tested (Some e) code (λ st1. statement a code st1 >>= body_round)) true st (λ first st1. tested_leaves (Some e) code (λ st2. statement a code st2 >>= body_round) st1 (λ st2. round_leaves (statement a code st2)))
  statement_breaks (do_while s a e) scope out back code st h =
      looped_breaks out st.left (λ first. m.tested_later first e code (λ st1. statement a code st1 >>= body_round)) true st (λ first st1. later_leaves first e code (λ st2. statement a code st2 >>= body_round) st1 (λ st2. round_leaves (statement a code st2)))
  statement_breaks (for_each s begin test step a) scope out back code st h =
      after_value out (m.for_begins begin code st) (λ flow st1. looped st1.left (λ first. m.stepped_first first step code (m.tested test code (λ st2. statement a code st2 >>= body_round))) true st1)
      (λ flow st1. looped_breaks out st1.left (λ first. m.stepped_first first step code (m.tested test code (λ st2. statement a code st2 >>= body_round))) true st1
      (λ first st2. stepped_leaves first step code (m.tested test code (λ st3. statement a code st3 >>= body_round)) st2 (λ st3. tested_leaves test code (λ st4. statement a code st4 >>= body_round) st3 (λ st4. round_leaves (statement a code st4)))))
  statement_breaks (give_back s None) scope out back code st h = tt
  statement_breaks (give_back s (Some e)) scope out back code st h = after_value out (outermost code e st) (λ v. gives (returned v)) (λ v st1. tt)
  statement_breaks (stop_loop s) scope out back code st h = h
  statement_breaks (next_turn s) scope out back code st h = tt
  statement_breaks (switch s e ty sections) scope out back code st h =
      after_value out (outermost code e st) (λ v st1. take_turn st1.left st1 (λ st2. sections_from sections (chosen sections (conv ty (number_of v))) code st2 >>= past_switch))
      (λ v st1. turn_breaks out st1.left st1 (λ st2. sections_from sections (chosen sections (conv ty (number_of v))) code st2 >>= past_switch) (λ st2. switch_breaks out (sections_from sections (chosen sections (conv ty (number_of v))) code st2)))

  else_breaks : (b : ElseTree) (scope : w.Scope) (out back : Bool) (code : Code) (st : State) → IsTrue (else_sound scope out back b) → Breaks out (otherwise_of b code st)
  else_breaks no_else scope out back code st h = tt
  else_breaks (otherwise a) scope out back code st h = statement_breaks a scope out back code st h

  all_break : (bs : BodyTrees) (scope : w.Scope) (out back : Bool) (code : Code) (st : State) → IsTrue (all_sound scope out back bs) → Breaks out (all_of bs code st)
  all_break no_bodies scope out back code st h = tt
  all_break (body_and a rest) scope out back code st h =
      after_one out (statement a code st) (all_of rest code) (statement_breaks a scope out back code st (left (is_sound scope out back a) (all_sound scope out back rest) h))
      (λ st1. all_break rest scope out back code st1 (both_hold_second (is_sound scope out back a) (all_sound scope out back rest) h))
