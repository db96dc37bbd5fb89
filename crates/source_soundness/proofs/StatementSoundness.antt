-- Statements keep what fits, and return values of the function's result.
use Rattle.std.proofs.Common.{◌≡◌, ◌∙◌, ℕ, zero, suc, ◌+◌, pos, refl, ap, sym, subst, Bool, true, false, Option, Some, None, List, [], ◌∷◌, if◌then◌else◌, map, replicate}
use Rattle.std.specs.Prelude.{IsTrue, ◌&&◌, is_none, slice_get, get_or, option_map}
use Rattle.std.specs.List.{list_all}
use Rattle.std.proofs.lemmas.Option.{get_or_from_slice_get}
use Rattle.pt_base.specs.declared.int_type.IntType.{IntType}
use Rattle.pt_base.specs.declared.int_type.IntType.TheVariants as i
use Rattle.pt_base.proofs.Booleans.{both_hold_first as left, both_hold_second, false_not_true}
use Rattle.pt_int.specs.Conversion.{conv}
use Rattle.runs.specs.State.{gives, trapped, spent, ◌>>=◌, take_turn}
use Rattle.typed_tree.specs.declared.ids.ExprId.{ExprId}
use Rattle.typed_tree.specs.declared.types.VarTy.{VarTy}
use Rattle.typed_tree.specs.declared.types.VarTy.TheVariants.{Int, Struct, Array, Pointer}
use Rattle.typed_tree.specs.declared.variable.Var.{Var}
use Rattle.typed_tree.specs.declared.statement.TypedInit.{TypedInit}
use Rattle.typed_tree.specs.declared.statement.TypedInit.TheVariants as n
use Rattle.typed_tree.specs.declared.statement.TypedDeclarator.{TypedDeclarator}
use Rattle.typed_tree.specs.declared.statement.TypedForInit.{TypedForInit}
use Rattle.typed_tree.specs.declared.statement.TypedForInit.TheVariants as f
use Rattle.typed_tree.specs.ExpressionTree.{ExprTree}
use Rattle.typed_tree.specs.StatementTree as b
use Rattle.typed_tree.specs.StatementTree.{BodyTree, ElseTree, no_else, otherwise, BodyTrees, no_bodies, body_and, SectionTree, section, SectionTrees, no_sections, section_and}
use Rattle.typed_tree.specs.Cells.{leaves_of}
use Rattle.typed_tree.specs.Sizes.{cells_by}
use Rattle.typed_tree.specs.TypeTests.{same_types, both_int, integer_of, is_scalar, is_value}
use Rattle.typed_tree.specs.WellFormedExpression.{is_typed, ty_of}
use Rattle.typed_tree.specs.WellFormedStatement.{Scope, found_fits, expr_fits, any_type, promotes_to, option_fits, item_types, items_fit, init_fits, declarator_fits, declaration_fits, for_init_fits, labels_of, labels_fit, is_sound, else_sound, all_sound, sections_sound}
use Rattle.source_meaning.specs.Memory.{local, number, null}
use Rattle.source_meaning.specs.State.{State, Outcome}
use Rattle.source_meaning.specs.Values.{Value, holds, whole, nothing, number_of, is_true, cleared}
use Rattle.source_meaning.specs.Expressions.{sizes, type_at, value_of, store, stored_in}
use Rattle.source_meaning.specs.Statements.{Code, no_expr, outermost, Flow, goes_on, broke, continues, returned, after_flow, variable_at, items_stored, initialised, cleared_at, declared, Round, again, leaves, body_round, after_round, looped, tested, stepped_first, tested_later, for_begins, chosen, past_switch, statement, otherwise_of, all_of, sections_from}
use Rattle.source_soundness.specs.Worlds.{World, type_in, is_pointer, AreNumbers, CellsFit, Fits, ValueFits, LocationFits}
use Rattle.source_soundness.specs.Laws.{Keeps, FlowFits, CodeFits}
use Rattle.typed_tree.proofs.SameTypes.{equal_options, equal_ints}
use Rattle.source_soundness.proofs.Memories.{put_fits, number_written}
use Rattle.source_soundness.proofs.Soundness.{keeps_bind, keeps_either, keeps_store, names_live, entry_type, names_variable, value_fits}

-- ---- outermost expressions

-- an outermost expression whose type passes a test gives a value of such a type
pub record Passed (w : World) (test : Option VarTy → Bool) (v : Value) : Type 0 where
  pub ty : Option VarTy
  pub passes : IsTrue (test ty)
  pub fit : ValueFits w ty v

keeps_weaker : {A : Type 0} (w : World) (Q R : A → Type 0) (o : Outcome A) → Keeps w Q o → ((a : A) → Q a → R a) → Keeps w R o
keeps_weaker w Q R (gives a st) h k = (k a h.0, h.1)
keeps_weaker w Q R (trapped trap s st) h k = tt
keeps_weaker w Q R (spent st) h k = tt

pub outermost_keeps : (w : World) (scope : Scope) (code : Code) (test : Option VarTy → Bool) (e : ExprId) (st : State) → CodeFits w scope code → IsTrue (expr_fits scope test e) → Fits w st.memory → Keeps w (Passed w test) (outermost code e st)
outermost_keeps w scope code test e st k h m = go (slice_get scope.exprs e.0) refl h
  where
    at_entry : (a : ExprTree) → get_or code.exprs e.0 no_expr ≡ a → IsTrue (is_typed scope.names a) → IsTrue (test (ty_of a)) → Keeps w (Passed w test) (outermost code e st)
    at_entry a is typed_a passes = subst (λ z. Keeps w (Passed w test) (value_of z code.context st)) (sym is)
        (keeps_weaker w (ValueFits w (ty_of a)) (Passed w test) (value_of a code.context st) (value_fits a w scope.names code.context st k.context typed_a m) (λ v q. record { ty = ty_of a; passes = passes; fit = q }))

    go : (o : Option ExprTree) → slice_get scope.exprs e.0 ≡ o → found_fits scope.names test o ≡ true → Keeps w (Passed w test) (outermost code e st)
    go None is h = false_not_true h
    go (Some a) is h = at_entry a (ap (λ xs. get_or xs e.0 no_expr) k.exprs ∙ get_or_from_slice_get scope.exprs e.0 a no_expr is) (left (is_typed scope.names a) (test (ty_of a)) h) (both_hold_second (is_typed scope.names a) (test (ty_of a)) h)

-- ---- declarations

zeros : (k : ℕ) → AreNumbers (replicate k (number (pos 0)))
zeros zero = tt
zeros (suc k) = (tt, zeros k)

pub cleared_fit : (w : World) (d : ℕ) (ss : List ℕ) (ty : VarTy) → CellsFit w d ty (cleared ss ty)
cleared_fit w d ss (Int t) = (tt, tt)
cleared_fit w d ss (Struct k) = zeros (cells_by ss (Struct k))
cleared_fit w d ss (Array elem count) = zeros (cells_by ss (Array elem count))
cleared_fit w d ss (Pointer elem fixed) = (null, refl, tt)

-- the variable's entry
pub record Entry (scope : Scope) (x : ℕ) (ty : VarTy) : Type 0 where
  pub is : option_map (λ (y : Var). y.ty) (slice_get scope.names.vars x) ≡ Some ty

-- a variable lies where its name says
pub lies : (w : World) (scope : Scope) (code : Code) (x : ℕ) (ty : VarTy) → CodeFits w scope code → Entry scope x ty → LocationFits w (Some ty) (variable_at code x 0)
lies w scope code x ty k en = names_variable w scope.names code.context x ty k.context en.is

pub clearing : (w : World) (scope : Scope) (code : Code) (x : ℕ) (ty : VarTy) (st : State) → CodeFits w scope code → Entry scope x ty → Fits w st.memory → Fits w (cleared_at code x st).memory
clearing w scope code x ty st k en m =
    put_fits w st.memory (local code.context.frame.depth x) (cleared (sizes code.context) (type_at code.context.variables x)) m
    (λ u is. subst (λ z. CellsFit w code.context.frame.depth z (cleared (sizes code.context) (type_at code.context.variables x))) (same (type_at code.context.variables x) ty u (get_or_from_slice_get code.context.variables x ty (Int i.Int) (entry_type w scope.names code.context x ty k.context en.is)) (names_live w scope.names code.context x ty k.context en.is) is)
    (cleared_fit w code.context.frame.depth (sizes code.context) (type_at code.context.variables x)))
  where
    same : (a ty u : VarTy) → a ≡ ty → type_in w (local code.context.frame.depth x) ≡ Some ty → type_in w (local code.context.frame.depth x) ≡ Some u → a ≡ u
    same a ty u p q r = cc

-- a value of the variable's type is stored in it
store_whole : (w : World) (scope : Scope) (code : Code) (x : ℕ) (ty : VarTy) (v : Value) (st : State) → CodeFits w scope code → Entry scope x ty → ValueFits w (Some ty) v → Fits w st.memory → Keeps w (ValueFits w (Some ty)) (store (variable_at code x 0) v st)
store_whole w scope code x ty v st k en fit m = keeps_store w (variable_at code x 0) v ty st (lies w scope code x ty k en) fit m

pub same_as : (w : World) (ty : VarTy) (v : Value) → Passed w (same_types (Some ty)) v → ValueFits w (Some ty) v
same_as w ty v p = subst (λ z. ValueFits w z v) (sym (equal_options (Some ty) p.ty p.passes)) p.fit

-- a number is stored in a cell of a variable that is no pointer
pub number_stored : (w : World) (scope : Scope) (code : Code) (x cell : ℕ) (ty : VarTy) (t : IntType) (v : Value) (st : State) → CodeFits w scope code → Entry scope x ty → is_pointer ty ≡ false → ValueFits w (Some (Int t)) v → Fits w st.memory → Fits w (stored_in st.memory (variable_at code x cell) v)
number_stored w scope code x cell ty t (holds c) st k en plain fit m = number_written w st.memory (local code.context.frame.depth x) cell c ty m (names_live w scope.names code.context x ty k.context en.is) plain fit
number_stored w scope code x cell ty t (whole cells) st k en plain fit m = absurd fit
number_stored w scope code x cell ty t nothing st k en plain fit m = absurd fit

-- the items of a brace list of an object without pointers
numbers_stored : (es : List ExprId) (ts : List IntType) (w : World) (scope : Scope) (code : Code) (x cell : ℕ) (ty : VarTy) (result : Option IntType) (st : State) → CodeFits w scope code → Entry scope x ty → is_pointer ty ≡ false → IsTrue (items_fit scope (map Int ts) es) → Fits w st.memory → Keeps w (FlowFits w result) (items_stored es x cell code st)
numbers_stored [] ts w scope code x cell ty result st k en plain h m = (tt, m)
numbers_stored (e ∷ es) [] w scope code x cell ty result st k en plain h m = false_not_true h
numbers_stored (e ∷ es) (t ∷ ts) w scope code x cell ty result st k en plain h m =
    keeps_bind w (Passed w (same_types (Some (Int t)))) (FlowFits w result) (outermost code e st) (λ v st1. store (variable_at code x cell) v st1 >>= λ u. items_stored es x (cell + 1) code)
    (outermost_keeps w scope code (same_types (Some (Int t))) e st k (left (expr_fits scope (same_types (Some (Int t))) e) (items_fit scope (map Int ts) es) h) m)
    (λ v st1 p m1. numbers_stored es ts w scope code x (cell + 1) ty result (record st1 { memory = stored_in st1.memory (variable_at code x cell) v }) k en plain
    (both_hold_second (expr_fits scope (same_types (Some (Int t))) e) (items_fit scope (map Int ts) es) h) (number_stored w scope code x cell ty t v st1 k en plain (same_as w (Int t) v p) m1))

items_keep : (es : List ExprId) (w : World) (scope : Scope) (code : Code) (x : ℕ) (ty : VarTy) (result : Option IntType) (st : State) → CodeFits w scope code → Entry scope x ty → IsTrue (items_fit scope (item_types scope.names.structs ty) es) → Fits w st.memory → Keeps w (FlowFits w result) (items_stored es x 0 code st)
items_keep es w scope code x (Int t) result st k en h m = numbers_stored es (leaves_of scope.names.structs (Int t)) w scope code x 0 (Int t) result st k en refl h m
items_keep es w scope code x (Struct j) result st k en h m = numbers_stored es (leaves_of scope.names.structs (Struct j)) w scope code x 0 (Struct j) result st k en refl h m
items_keep es w scope code x (Array elem count) result st k en h m = numbers_stored es (leaves_of scope.names.structs (Array elem count)) w scope code x 0 (Array elem count) result st k en refl h m
items_keep [] w scope code x (Pointer elem fixed) result st k en h m = (tt, m)
items_keep (e ∷ []) w scope code x (Pointer elem fixed) result st k en h m =
    keeps_bind w (Passed w (same_types (Some (Pointer elem fixed)))) (FlowFits w result) (outermost code e st) (λ v st1. store (variable_at code x 0) v st1 >>= λ u. items_stored [] x 1 code)
    (outermost_keeps w scope code (same_types (Some (Pointer elem fixed))) e st k (left (expr_fits scope (same_types (Some (Pointer elem fixed))) e) (items_fit scope [] []) h) m)
    (λ v st1 p m1. (tt, (store_whole w scope code x (Pointer elem fixed) v st1 k en (same_as w (Pointer elem fixed) v p) m1).1))
items_keep (e ∷ e' ∷ es) w scope code x (Pointer elem fixed) result st k en h m = false_not_true (both_hold_second (expr_fits scope (same_types (Some (Pointer elem fixed))) e) false h)

init_keeps : (init : TypedInit) (w : World) (scope : Scope) (code : Code) (x : ℕ) (ty : VarTy) (result : Option IntType) (st : State) → CodeFits w scope code → Entry scope x ty → IsTrue (init_fits scope (Some ty) init) → Fits w st.memory → Keeps w (FlowFits w result) (initialised init x code st)
init_keeps n.Nothing w scope code x ty result st k en h m = (tt, m)
init_keeps (n.Value e) w scope code x ty result st k en h m =
    keeps_bind w (Passed w (same_types (Some ty))) (FlowFits w result) (outermost code e st) (λ v st1. store (variable_at code x 0) v st1 >>= λ u. gives goes_on)
    (outermost_keeps w scope code (same_types (Some ty)) e st k (both_hold_second (is_value (Some ty)) (expr_fits scope (same_types (Some ty)) e) h) m)
    (λ v st1 p m1. (tt, (store_whole w scope code x ty v st1 k en (same_as w ty v p) m1).1))
init_keeps (n.Items s es) w scope code x ty result st k en h m = items_keep es w scope code x ty result st k en h m

declared_keeps : (ds : List TypedDeclarator) (w : World) (scope : Scope) (code : Code) (st : State) → CodeFits w scope code → IsTrue (declaration_fits scope ds) → Fits w st.memory → Keeps w (FlowFits w scope.result) (declared ds code st)
declared_keeps [] w scope code st k h m = (tt, m)
declared_keeps (d ∷ ds) w scope code st k h m =
    keeps_bind w (FlowFits w scope.result) (FlowFits w scope.result) (initialised d.init d.var.0 code (cleared_at code d.var.0 st)) (λ flow. declared ds code)
    (at_entry (option_map (λ (y : Var). y.ty) (slice_get scope.names.vars d.var.0)) refl (left (declarator_fits scope d) (list_all (declarator_fits scope) ds) h))
    (λ flow st1 q m1. declared_keeps ds w scope code st1 k (both_hold_second (declarator_fits scope d) (list_all (declarator_fits scope) ds) h) m1)
  where
    at_entry : (o : Option VarTy) → option_map (λ (y : Var). y.ty) (slice_get scope.names.vars d.var.0) ≡ o → init_fits scope o d.init ≡ true → Keeps w (FlowFits w scope.result) (initialised d.init d.var.0 code (cleared_at code d.var.0 st))
    at_entry None is h = false_not_true h
    at_entry (Some ty) is h = let en : Entry scope d.var.0 ty = record { is = is } in
        init_keeps d.init w scope code d.var.0 ty scope.result (cleared_at code d.var.0 st) k en h (clearing w scope code d.var.0 ty st k en m)

-- ---- loops

-- how a round ends
abbrev RoundFits : World → Option IntType → Round → Type 0
RoundFits w result again = Unit {0}
RoundFits w result (leaves flow) = FlowFits w result flow

-- a round keeps what fits, from every state
abbrev Rounds : World → Option IntType → (State → Outcome Round) → Type 0
Rounds w result round = (st : State) → Fits w st.memory → Keeps w (RoundFits w result) (round st)

pub turn_keeps : {A : Type 0} (w : World) (Q : A → Type 0) (left : ℕ) (st : State) (next : State → Outcome A) → Fits w st.memory → ((st1 : State) → Fits w st1.memory → Keeps w Q (next st1)) → Keeps w Q (take_turn left st next)
turn_keeps w Q zero st next m k = tt
turn_keeps w Q (suc left) st next m k = k (record st { left = left }) m

after_round_keeps : (w : World) (result : Option IntType) (more : State → Outcome Flow) (round : Round) (st : State) → RoundFits w result round → Fits w st.memory → Keeps w (FlowFits w result) (more st) → Keeps w (FlowFits w result) (after_round more round st)
after_round_keeps w result more again st q m k = k
after_round_keeps w result more (leaves flow) st q m k = (q, m)

looped_keeps : (rounds : ℕ) (w : World) (result : Option IntType) (round : Bool → State → Outcome Round) (first : Bool) (st : State) → ((b : Bool) → Rounds w result (round b)) → Fits w st.memory → Keeps w (FlowFits w result) (looped rounds round first st)
looped_keeps zero w result round first st h m = tt
looped_keeps (suc rounds) w result round first st h m =
    turn_keeps w (FlowFits w result) st.left st (λ st1. round first st1 >>= after_round (looped rounds round false)) m
    (λ st1 m1. keeps_bind w (RoundFits w result) (FlowFits w result) (round first st1) (after_round (looped rounds round false)) (h first st1 m1)
    (λ r st2 q m2. after_round_keeps w result (looped rounds round false) r st2 q m2 (looped_keeps rounds w result round false st2 h m2)))

tested_keeps : (w : World) (scope : Scope) (code : Code) (test : Option ExprId) (body : State → Outcome Round) (st : State) → CodeFits w scope code → IsTrue (option_fits scope is_scalar test) → Rounds w scope.result body → Fits w st.memory → Keeps w (RoundFits w scope.result) (tested test code body st)
tested_keeps w scope code None body st k h r m = r st m
tested_keeps w scope code (Some e) body st k h r m =
    keeps_bind w (Passed w is_scalar) (RoundFits w scope.result) (outermost code e st) (λ v. if is_true v then body else gives (leaves goes_on)) (outermost_keeps w scope code is_scalar e st k h m)
    (λ v st1 p m1. keeps_either w (RoundFits w scope.result) (is_true v) body (gives (leaves goes_on)) st1 (r st1 m1) (tt, m1))

stepped_keeps : (b : Bool) (w : World) (scope : Scope) (code : Code) (step : Option ExprId) (rest : State → Outcome Round) (st : State) → CodeFits w scope code → IsTrue (option_fits scope any_type step) → Rounds w scope.result rest → Fits w st.memory → Keeps w (RoundFits w scope.result) (stepped_first b step code rest st)
stepped_keeps true w scope code step rest st k h r m = r st m
stepped_keeps false w scope code None rest st k h r m = r st m
stepped_keeps false w scope code (Some e) rest st k h r m =
    keeps_bind w (Passed w any_type) (RoundFits w scope.result) (outermost code e st) (λ v. rest) (outermost_keeps w scope code any_type e st k h m) (λ v st1 p m1. r st1 m1)

later_keeps : (b : Bool) (w : World) (scope : Scope) (code : Code) (e : ExprId) (rest : State → Outcome Round) (st : State) → CodeFits w scope code → IsTrue (expr_fits scope is_scalar e) → Rounds w scope.result rest → Fits w st.memory → Keeps w (RoundFits w scope.result) (tested_later b e code rest st)
later_keeps true w scope code e rest st k h r m = r st m
later_keeps false w scope code e rest st k h r m = tested_keeps w scope code (Some e) rest st k h r m

begins_keep : (begin : TypedForInit) (w : World) (scope : Scope) (code : Code) (st : State) → CodeFits w scope code → IsTrue (for_init_fits scope begin) → Fits w st.memory → Keeps w (FlowFits w scope.result) (for_begins begin code st)
begins_keep f.Nothing w scope code st k h m = (tt, m)
begins_keep (f.Declare d) w scope code st k h m = declared_keeps d.declarators w scope code st k h m
begins_keep (f.Evaluate e) w scope code st k h m =
    keeps_bind w (Passed w any_type) (FlowFits w scope.result) (outermost code e st) (λ v. gives goes_on) (outermost_keeps w scope code any_type e st k h m) (λ v st1 p m1. (tt, m1))

body_rounds : (w : World) (result : Option IntType) (flow : Flow) (st : State) → FlowFits w result flow → Fits w st.memory → Keeps w (RoundFits w result) (body_round flow st)
body_rounds w result goes_on st q m = (tt, m)
body_rounds w result continues st q m = (tt, m)
body_rounds w result broke st q m = (tt, m)
body_rounds w result (returned v) st q m = (q, m)

past_keeps : (w : World) (result : Option IntType) (flow : Flow) (st : State) → FlowFits w result flow → Fits w st.memory → Keeps w (FlowFits w result) (past_switch flow st)
past_keeps w result goes_on st q m = (tt, m)
past_keeps w result broke st q m = (tt, m)
past_keeps w result continues st q m = (tt, m)
past_keeps w result (returned v) st q m = (q, m)

after_keeps : (w : World) (result : Option IntType) (rest : State → Outcome Flow) (flow : Flow) (st : State) → FlowFits w result flow → Fits w st.memory → Keeps w (FlowFits w result) (rest st) → Keeps w (FlowFits w result) (after_flow rest flow st)
after_keeps w result rest goes_on st q m k = k
after_keeps w result rest broke st q m k = (tt, m)
after_keeps w result rest continues st q m k = (tt, m)
after_keeps w result rest (returned v) st q m k = (q, m)

result_fits : (w : World) (result : Option IntType) (v : Value) → Passed w (λ t. both_int (integer_of t) result) v → ValueFits w (option_map Int result) v
result_fits w result v p = go p.ty p.passes p.fit
  where
    go : (t : Option VarTy) → both_int (integer_of t) result ≡ true → ValueFits w t v → ValueFits w (option_map Int result) v
    go (Some (Int a)) h fit = at_result result h
      where
        at_result : (o : Option IntType) → both_int (Some a) o ≡ true → ValueFits w (option_map Int o) v
        at_result None h = false_not_true h
        at_result (Some b) h = subst (λ z. ValueFits w (Some (Int z)) v) (equal_ints a b h) fit
    go None h fit = false_not_true h
    go (Some (Struct j)) h fit = false_not_true h
    go (Some (Array elem count)) h fit = false_not_true h
    go (Some (Pointer elem fixed)) h fit = false_not_true h

-- ---- the induction

mutual
  pub statement_keeps : (body : BodyTree) (w : World) (scope : Scope) (code : Code) (out back : Bool) (st : State) → CodeFits w scope code → IsTrue (is_sound scope out back body) → Fits w st.memory → Keeps w (FlowFits w scope.result) (statement body code st)
  statement_keeps (b.block s bs) w scope code out back st k h m = all_keep bs w scope code out back st k h m
  statement_keeps (b.nothing s) w scope code out back st k h m = (tt, m)
  statement_keeps (b.evaluate s e) w scope code out back st k h m =
      keeps_bind w (Passed w any_type) (FlowFits w scope.result) (outermost code e st) (λ v. gives goes_on) (outermost_keeps w scope code any_type e st k h m) (λ v st1 p m1. (tt, m1))
  statement_keeps (b.declare d) w scope code out back st k h m = declared_keeps d.declarators w scope code st k h m
  statement_keeps (b.choose s e a o) w scope code out back st k h m =
      let rest = both_hold_second (expr_fits scope is_scalar e) (is_sound scope out back a && else_sound scope out back o) h in
      keeps_bind w (Passed w is_scalar) (FlowFits w scope.result) (outermost code e st) (λ v. if is_true v then statement a code else otherwise_of o code)
      (outermost_keeps w scope code is_scalar e st k (left (expr_fits scope is_scalar e) (is_sound scope out back a && else_sound scope out back o) h) m)
      (λ v st1 p m1. keeps_either w (FlowFits w scope.result) (is_true v) (statement a code) (otherwise_of o code) st1
      (statement_keeps a w scope code out back st1 k (left (is_sound scope out back a) (else_sound scope out back o) rest) m1)
      (else_keeps o w scope code out back st1 k (both_hold_second (is_sound scope out back a) (else_sound scope out back o) rest) m1))
  statement_keeps (b.while_true s e a) w scope code out back st k h m =
      looped_keeps st.left w scope.result (λ first. tested (Some e) code (λ st1. statement a code st1 >>= body_round)) true st
      (λ first st1 m1. tested_keeps w scope code (Some e) (λ st2. statement a code st2 >>= body_round) st1 k (left (expr_fits scope is_scalar e) (is_sound scope true true a) h)
      (λ st2 m2. keeps_bind w (FlowFits w scope.result) (RoundFits w scope.result) (statement a code st2) body_round (statement_keeps a w scope code true true st2 k (both_hold_second (expr_fits scope is_scalar e) (is_sound scope true true a) h) m2) (body_rounds w scope.result)) m1) m
  statement_keeps (b.do_while s a e) w scope code out back st k h m =
      looped_keeps st.left w scope.result (λ first. tested_later first e code (λ st1. statement a code st1 >>= body_round)) true st
      (λ first st1 m1. later_keeps first w scope code e (λ st2. statement a code st2 >>= body_round) st1 k (both_hold_second (is_sound scope true true a) (expr_fits scope is_scalar e) h)
      (λ st2 m2. keeps_bind w (FlowFits w scope.result) (RoundFits w scope.result) (statement a code st2) body_round (statement_keeps a w scope code true true st2 k (left (is_sound scope true true a) (expr_fits scope is_scalar e) h) m2) (body_rounds w scope.result)) m1) m
  statement_keeps (b.for_each s begin test step a) w scope code out back st k h m =
      let rest = both_hold_second (for_init_fits scope begin) (option_fits scope is_scalar test && (option_fits scope any_type step && is_sound scope true true a)) h in
      let more = both_hold_second (option_fits scope is_scalar test) (option_fits scope any_type step && is_sound scope true true a) rest in
      keeps_bind w (FlowFits w scope.result) (FlowFits w scope.result) (for_begins begin code st) (λ flow st1. looped st1.left (λ first. stepped_first first step code (tested test code (λ st2. statement a code st2 >>= body_round))) true st1)
      (begins_keep begin w scope code st k (left (for_init_fits scope begin) (option_fits scope is_scalar test && (option_fits scope any_type step && is_sound scope true true a)) h) m)
      (λ flow st1 q m1. looped_keeps st1.left w scope.result (λ first. stepped_first first step code (tested test code (λ st2. statement a code st2 >>= body_round))) true st1
      (λ first st2 m2. stepped_keeps first w scope code step (tested test code (λ st3. statement a code st3 >>= body_round)) st2 k (left (option_fits scope any_type step) (is_sound scope true true a) more)
      (λ st3 m3. tested_keeps w scope code test (λ st4. statement a code st4 >>= body_round) st3 k (left (option_fits scope is_scalar test) (option_fits scope any_type step && is_sound scope true true a) rest)
      (λ st4 m4. keeps_bind w (FlowFits w scope.result) (RoundFits w scope.result) (statement a code st4) body_round (statement_keeps a w scope code true true st4 k (both_hold_second (option_fits scope any_type step) (is_sound scope true true a) more) m4) (body_rounds w scope.result)) m3) m2) m1)
  statement_keeps (b.give_back s None) w scope code out back st k h m = (nothing_fits scope.result h, m)
    where
      nothing_fits : (o : Option IntType) → IsTrue (is_none o) → ValueFits w (option_map Int o) nothing
      nothing_fits None h = tt
      nothing_fits (Some t) h = false_not_true h
  statement_keeps (b.give_back s (Some e)) w scope code out back st k h m =
      keeps_bind w (Passed w (λ t. both_int (integer_of t) scope.result)) (FlowFits w scope.result) (outermost code e st) (λ v. gives (returned v))
      (outermost_keeps w scope code (λ t. both_int (integer_of t) scope.result) e st k h m) (λ v st1 p m1. (result_fits w scope.result v p, m1))
  statement_keeps (b.stop_loop s) w scope code out back st k h m = (tt, m)
  statement_keeps (b.next_turn s) w scope code out back st k h m = (tt, m)
  statement_keeps (b.switch s e ty sections) w scope code out back st k h m =
      let rest = both_hold_second (expr_fits scope (promotes_to ty) e) (labels_fit ty (labels_of sections) && sections_sound scope back sections) h in
      keeps_bind w (Passed w (promotes_to ty)) (FlowFits w scope.result) (outermost code e st) (λ v st1. take_turn st1.left st1 (λ st2. sections_from sections (chosen sections (conv ty (number_of v))) code st2 >>= past_switch))
      (outermost_keeps w scope code (promotes_to ty) e st k (left (expr_fits scope (promotes_to ty) e) (labels_fit ty (labels_of sections) && sections_sound scope back sections) h) m)
      (λ v st1 p m1. turn_keeps w (FlowFits w scope.result) st1.left st1 (λ st2. sections_from sections (chosen sections (conv ty (number_of v))) code st2 >>= past_switch) m1
      (λ st2 m2. keeps_bind w (FlowFits w scope.result) (FlowFits w scope.result) (sections_from sections (chosen sections (conv ty (number_of v))) code st2) past_switch
      (sections_keep sections (chosen sections (conv ty (number_of v))) w scope code back st2 k (both_hold_second (labels_fit ty (labels_of sections)) (sections_sound scope back sections) rest) m2) (past_keeps w scope.result)))

  else_keeps : (o : ElseTree) (w : World) (scope : Scope) (code : Code) (out back : Bool) (st : State) → CodeFits w scope code → IsTrue (else_sound scope out back o) → Fits w st.memory → Keeps w (FlowFits w scope.result) (otherwise_of o code st)
  else_keeps no_else w scope code out back st k h m = (tt, m)
  else_keeps (otherwise a) w scope code out back st k h m = statement_keeps a w scope code out back st k h m

  all_keep : (bs : BodyTrees) (w : World) (scope : Scope) (code : Code) (out back : Bool) (st : State) → CodeFits w scope code → IsTrue (all_sound scope out back bs) → Fits w st.memory → Keeps w (FlowFits w scope.result) (all_of bs code st)
  all_keep no_bodies w scope code out back st k h m = (tt, m)
  all_keep (body_and a rest) w scope code out back st k h m =
      keeps_bind w (FlowFits w scope.result) (FlowFits w scope.result) (statement a code st) (after_flow (all_of rest code)) (statement_keeps a w scope code out back st k (left (is_sound scope out back a) (all_sound scope out back rest) h) m)
      (λ flow st1 q m1. after_keeps w scope.result (all_of rest code) flow st1 q m1 (all_keep rest w scope code out back st1 k (both_hold_second (is_sound scope out back a) (all_sound scope out back rest) h) m1))

  sections_keep : (ss : SectionTrees) (skipped : ℕ) (w : World) (scope : Scope) (code : Code) (back : Bool) (st : State) → CodeFits w scope code → IsTrue (sections_sound scope back ss) → Fits w st.memory → Keeps w (FlowFits w scope.result) (sections_from ss skipped code st)
  sections_keep no_sections skipped w scope code back st k h m = (tt, m)
  sections_keep (section_and (section s l bs) rest) zero w scope code back st k h m =
      keeps_bind w (FlowFits w scope.result) (FlowFits w scope.result) (all_of bs code st) (after_flow (sections_from rest zero code)) (all_keep bs w scope code true back st k (left (all_sound scope true back bs) (sections_sound scope back rest) h) m)
      (λ flow st1 q m1. after_keeps w scope.result (sections_from rest zero code) flow st1 q m1 (sections_keep rest zero w scope code back st1 k (both_hold_second (all_sound scope true back bs) (sections_sound scope back rest) h) m1))
  sections_keep (section_and (section s l bs) rest) (suc skipped) w scope code back st k h m = sections_keep rest skipped w scope code back st k (both_hold_second (all_sound scope true back bs) (sections_sound scope back rest) h) m
