-- Statements keep sizes: each live object has the cells of its type, and pointers point within.
use Rattle.std.proofs.Common.{◌≡◌, ◌∙◌, ℕ, zero, suc, ◌+◌, pos, refl, ap, sym, subst, Bool, true, false, Option, Some, None, List, [], ◌∷◌, length, if◌then◌else◌, map, replicate}
use Rattle.std.specs.Prelude.{IsTrue, ◌&&◌, slice_get, get_or, slice_index_or, option_map}
use Rattle.std.specs.List.{list_all}
use Rattle.std.proofs.lemmas.List.{length-replicate}
use Rattle.std.proofs.lemmas.Option.{get_or_from_slice_get}
use Rattle.pt_base.specs.declared.int_type.IntType.{IntType}
use Rattle.pt_base.specs.declared.int_type.IntType.TheVariants as i
use Rattle.pt_base.proofs.Booleans.{both_hold_first as left, both_hold_second, false_not_true}
use Rattle.pt_int.specs.Conversion.{conv}
use Rattle.pt_tree.specs.declared.signature.Elem.{Elem}
use Rattle.runs.specs.State.{gives, trapped, spent, ◌>>=◌, take_turn}
use Rattle.typed_tree.specs.declared.ids.ExprId.{ExprId}
use Rattle.typed_tree.specs.declared.types.VarTy.{VarTy}
use Rattle.typed_tree.specs.declared.types.VarTy.TheVariants.{Int, Struct, Array, Pointer}
use Rattle.typed_tree.specs.declared.variable.Var.{Var}
use Rattle.typed_tree.specs.declared.statement.TypedInit.{TypedInit}
use Rattle.typed_tree.specs.declared.statement.TypedInit.TheVariants as n
use Rattle.typed_tree.specs.declared.statement.TypedDeclarator.{TypedDeclarator}
use Rattle.typed_tree.specs.declared.statement.TypedForInit.{TypedForInit}
use Rattle.typed_tree.specs.declared.statement.TypedForInit.TheVariants as f
use Rattle.typed_tree.specs.ExpressionTree.{ExprTree}
use Rattle.typed_tree.specs.StatementTree as b
use Rattle.typed_tree.specs.StatementTree.{BodyTree, ElseTree, no_else, otherwise, BodyTrees, no_bodies, body_and, SectionTree, section, SectionTrees, no_sections, section_and}
use Rattle.typed_tree.specs.Cells.{leaves_of}
use Rattle.typed_tree.specs.Sizes.{cells_by}
use Rattle.typed_tree.specs.TypeTests.{same_types, both_int, integer_of, is_scalar, is_value}
use Rattle.typed_tree.specs.WellFormed.{structs_sound}
use Rattle.typed_tree.specs.WellFormedExpression.{is_typed, ty_of}
use Rattle.typed_tree.specs.WellFormedStatement.{Scope, found_fits, expr_fits, any_type, promotes_to, option_fits, item_types, items_fit, init_fits, declarator_fits, declaration_fits, for_init_fits, labels_of, labels_fit, is_sound, else_sound, all_sound, sections_sound}
use Rattle.source_meaning.specs.Memory.{local, number, Memory}
use Rattle.source_meaning.specs.State.{State, Outcome}
use Rattle.source_meaning.specs.Values.{Value, number_of, is_true, cleared}
use Rattle.source_meaning.specs.Expressions.{sizes, type_at, value_of, store, stored_in}
use Rattle.source_meaning.specs.Statements.{Code, no_expr, outermost, Flow, goes_on, broke, continues, returned, after_flow, variable_at, items_stored, initialised, cleared_at, declared, Round, again, leaves, body_round, after_round, looped, tested, stepped_first, tested_later, for_begins, chosen, past_switch, statement, otherwise_of, all_of, sections_from}
use Rattle.source_soundness.specs.Worlds.{World, type_in, is_pointer, Fits, ValueFits}
use Rattle.source_soundness.specs.Laws.{Keeps, CodeFits}
use Rattle.source_soundness.specs.Sizes.{object_cells, PointsWithin, Sized, KeepsSizes, ValueSized, CallsKeepSizes}
use Rattle.typed_tree.proofs.SameTypes.{equal_options}
use Rattle.source_soundness.proofs.Objects.{stored_fits}
use Rattle.source_soundness.proofs.Soundness.{names_live, entry_type, value_fits}
use Rattle.source_soundness.proofs.StatementSoundness.{Passed, Entry, lies, clearing, same_as, number_stored}
use Rattle.source_soundness.proofs.SizedObjects.{put_sized, plain_stored, stored_sized}
use Rattle.source_soundness.proofs.SizeSoundness.{value_sized}

-- ---- parts of a run

-- a memory that fits and has its sizes
abbrev pub Good : World → List ℕ → Memory → Type 0
Good w ss memory = Fits w memory × Sized w ss memory

-- where a part of a run gives something, its memory is so
abbrev pub Steady : {A : Type 0} → World → List ℕ → Outcome A → Type 0
Steady w ss (gives a st) = Good w ss st.memory
Steady w ss (trapped trap s st) = Unit {0}
Steady w ss (spent st) = Unit {0}

pub steady_sizes : {A : Type 0} (w : World) (ss : List ℕ) (o : Outcome A) → Steady w ss o → KeepsSizes w ss (λ a. Unit {0}) o
steady_sizes w ss (gives a st) h = (tt, h.1)
steady_sizes w ss (trapped trap s st) h = tt
steady_sizes w ss (spent st) h = tt

steady_bind : {A B : Type 0} (w : World) (ss : List ℕ) (o : Outcome A) (next : A → State → Outcome B) → Steady w ss o → ((a : A) (st : State) → Good w ss st.memory → Steady w ss (next a st)) → Steady w ss (o >>= next)
steady_bind w ss (gives a st) next h k = k a st h
steady_bind w ss (trapped trap s st) next h k = tt
steady_bind w ss (spent st) next h k = tt

-- after what gives a value that fits and has its size
steady_from : {B : Type 0} (w : World) (ss : List ℕ) (Q P : Value → Type 0) (o : Outcome Value) (next : Value → State → Outcome B) → Keeps w Q o → KeepsSizes w ss P o → ((v : Value) (st : State) → Q v → P v → Good w ss st.memory → Steady w ss (next v st)) → Steady w ss (o >>= next)
steady_from w ss Q P (gives v st) next h p k = k v st h.0 p.0 (h.1, p.1)
steady_from w ss Q P (trapped trap s st) next h p k = tt
steady_from w ss Q P (spent st) next h p k = tt

steady_either : {A : Type 0} (w : World) (ss : List ℕ) (b : Bool) (first second : State → Outcome A) (st : State) → Steady w ss (first st) → Steady w ss (second st) → Steady w ss ((if b then first else second) st)
steady_either w ss true first second st h k = h
steady_either w ss false first second st h k = k

-- ---- outermost expressions

-- the code keeps sizes
pub record Ready (w : World) (scope : Scope) (code : Code) : Type 0 where
  pub fits : CodeFits w scope code
  pub sound : IsTrue (structs_sound scope.names.structs 0 scope.names.structs)
  pub calls : CallsKeepSizes w scope.names (sizes code.context) code.context.frame code.context.calls

-- a value of a type that passes the test, and of its size
record Measured (w : World) (ss : List ℕ) (test : Option VarTy → Bool) (v : Value) : Type 0 where
  passed : Passed w test v
  size : ValueSized w ss passed.ty v

outermost_then : {B : Type 0} (w : World) (scope : Scope) (code : Code) (test : Option VarTy → Bool) (e : ExprId) (st : State) (next : Value → State → Outcome B) → Ready w scope code → IsTrue (expr_fits scope test e) → Good w (sizes code.context) st.memory →
    ((v : Value) (st1 : State) → Measured w (sizes code.context) test v → Good w (sizes code.context) st1.memory → Steady w (sizes code.context) (next v st1)) → Steady w (sizes code.context) (outermost code e st >>= next)
outermost_then w scope code test e st next u h m on = go (slice_get scope.exprs e.0) refl h
  where
    at_entry : (a : ExprTree) → get_or code.exprs e.0 no_expr ≡ a → IsTrue (is_typed scope.names a) → IsTrue (test (ty_of a)) → Steady w (sizes code.context) (outermost code e st >>= next)
    at_entry a is typed_a passes = subst (λ y. Steady w (sizes code.context) (value_of y code.context st >>= next)) (sym is)
        (steady_from w (sizes code.context) (ValueFits w (ty_of a)) (ValueSized w (sizes code.context) (ty_of a)) (value_of a code.context st) next (value_fits a w scope.names code.context st u.fits.context typed_a m.0)
        (value_sized a w scope.names code.context st (record { fits = u.fits.context; sound = u.sound; calls = u.calls }) typed_a m.0 m.1)
        (λ v st1 q p m1. on v st1 (record { passed = record { ty = ty_of a; passes = passes; fit = q }; size = p }) m1))

    go : (o : Option ExprTree) → slice_get scope.exprs e.0 ≡ o → found_fits scope.names test o ≡ true → Steady w (sizes code.context) (outermost code e st >>= next)
    go None is h = false_not_true h
    go (Some a) is h = at_entry a (ap (λ xs. get_or xs e.0 no_expr) u.fits.exprs ∙ get_or_from_slice_get scope.exprs e.0 a no_expr is) (left (is_typed scope.names a) (test (ty_of a)) h) (both_hold_second (is_typed scope.names a) (test (ty_of a)) h)

same_size : (w : World) (ss : List ℕ) (ty : VarTy) (v : Value) → Measured w ss (same_types (Some ty)) v → ValueSized w ss (Some ty) v
same_size w ss ty v p = subst (λ y. ValueSized w ss y v) (sym (equal_options (Some ty) p.passed.ty p.passed.passes)) p.size

-- ---- declarations

pub cleared_length : (ss : List ℕ) (ty : VarTy) → length (cleared ss ty) ≡ object_cells ss ty
cleared_length ss (Int t) = refl
cleared_length ss (Struct k) = length-replicate (cells_by ss (Struct k)) (number (pos 0))
cleared_length ss (Array elem count) = length-replicate (cells_by ss (Array elem count)) (number (pos 0))
cleared_length ss (Pointer elem fixed) = refl

zero_first : (w : World) (ss : List ℕ) (elem : Elem) (k : ℕ) → PointsWithin w ss elem (slice_index_or (replicate k (number (pos 0))) 0 (number (pos 0)))
zero_first w ss elem zero = tt
zero_first w ss elem (suc k) = tt

-- what is cleared points nowhere
pub cleared_points : (w : World) (ss : List ℕ) (elem : Elem) (ty : VarTy) → PointsWithin w ss elem (slice_index_or (cleared ss ty) 0 (number (pos 0)))
cleared_points w ss elem (Int t) = tt
cleared_points w ss elem (Struct k) = zero_first w ss elem (cells_by ss (Struct k))
cleared_points w ss elem (Array other count) = zero_first w ss elem (cells_by ss (Array other count))
cleared_points w ss elem (Pointer other fixed) = tt

clearing_good : (w : World) (scope : Scope) (code : Code) (x : ℕ) (ty : VarTy) (st : State) → Ready w scope code → Entry scope x ty → Good w (sizes code.context) st.memory → Good w (sizes code.context) (cleared_at code x st).memory
clearing_good w scope code x ty st u en m = (
  clearing w scope code x ty st u.fits en m.0,
  put_sized w (sizes code.context) st.memory (local code.context.frame.depth x) (cleared (sizes code.context) (type_at code.context.variables x)) m.1
      (λ a is. cleared_length (sizes code.context) (type_at code.context.variables x) ∙ ap (object_cells (sizes code.context)) (same (type_at code.context.variables x) ty a (get_or_from_slice_get code.context.variables x ty (Int i.Int) (entry_type w scope.names code.context x ty u.fits.context en.is)) (names_live w scope.names code.context x ty u.fits.context en.is) is))
      (λ elem fixed is. cleared_points w (sizes code.context) elem (type_at code.context.variables x)),
)
  where
    same : (a ty c : VarTy) → a ≡ ty → type_in w (local code.context.frame.depth x) ≡ Some ty → type_in w (local code.context.frame.depth x) ≡ Some c → a ≡ c
    same a ty c p q r = cc

-- a value of the variable's type is stored in it
whole_good : (w : World) (scope : Scope) (code : Code) (x : ℕ) (ty : VarTy) (v : Value) (st : State) → Ready w scope code → Entry scope x ty → Measured w (sizes code.context) (same_types (Some ty)) v → Good w (sizes code.context) st.memory → Good w (sizes code.context) (stored_in st.memory (variable_at code x 0) v)
whole_good w scope code x ty v st u en p m = (
  stored_fits w st.memory (variable_at code x 0) v ty (lies w scope code x ty u.fits en) (same_as w ty v p.passed) m.0,
  stored_sized w (sizes code.context) st.memory (variable_at code x 0) v ty (lies w scope code x ty u.fits en) (same_as w ty v p.passed) (same_size w (sizes code.context) ty v p) m.1,
)

-- a number is stored in a cell of a variable that is no pointer
number_good : (w : World) (scope : Scope) (code : Code) (x cell : ℕ) (ty : VarTy) (t : IntType) (v : Value) (st : State) → Ready w scope code → Entry scope x ty → is_pointer ty ≡ false → Measured w (sizes code.context) (same_types (Some (Int t))) v → Good w (sizes code.context) st.memory → Good w (sizes code.context) (stored_in st.memory (variable_at code x cell) v)
number_good w scope code x cell ty t v st u en plain p m = (
  number_stored w scope code x cell ty t v st u.fits en plain (same_as w (Int t) v p.passed) m.0,
  plain_stored w (sizes code.context) st.memory (variable_at code x cell) v ty m.1 (names_live w scope.names code.context x ty u.fits.context en.is) plain,
)

numbers_good : (es : List ExprId) (ts : List IntType) (w : World) (scope : Scope) (code : Code) (x cell : ℕ) (ty : VarTy) (st : State) → Ready w scope code → Entry scope x ty → is_pointer ty ≡ false → IsTrue (items_fit scope (map Int ts) es) → Good w (sizes code.context) st.memory → Steady w (sizes code.context) (items_stored es x cell code st)
numbers_good [] ts w scope code x cell ty st u en plain h m = m
numbers_good (e ∷ es) [] w scope code x cell ty st u en plain h m = false_not_true h
numbers_good (e ∷ es) (t ∷ ts) w scope code x cell ty st u en plain h m =
    outermost_then w scope code (same_types (Some (Int t))) e st (λ v st1. store (variable_at code x cell) v st1 >>= λ y. items_stored es x (cell + 1) code) u (left (expr_fits scope (same_types (Some (Int t))) e) (items_fit scope (map Int ts) es) h) m
    (λ v st1 p m1. numbers_good es ts w scope code x (cell + 1) ty (record st1 { memory = stored_in st1.memory (variable_at code x cell) v }) u en plain
    (both_hold_second (expr_fits scope (same_types (Some (Int t))) e) (items_fit scope (map Int ts) es) h) (number_good w scope code x cell ty t v st1 u en plain p m1))

items_good : (es : List ExprId) (w : World) (scope : Scope) (code : Code) (x : ℕ) (ty : VarTy) (st : State) → Ready w scope code → Entry scope x ty → IsTrue (items_fit scope (item_types scope.names.structs ty) es) → Good w (sizes code.context) st.memory → Steady w (sizes code.context) (items_stored es x 0 code st)
items_good es w scope code x (Int t) st u en h m = numbers_good es (leaves_of scope.names.structs (Int t)) w scope code x 0 (Int t) st u en refl h m
items_good es w scope code x (Struct j) st u en h m = numbers_good es (leaves_of scope.names.structs (Struct j)) w scope code x 0 (Struct j) st u en refl h m
items_good es w scope code x (Array elem count) st u en h m = numbers_good es (leaves_of scope.names.structs (Array elem count)) w scope code x 0 (Array elem count) st u en refl h m
items_good [] w scope code x (Pointer elem fixed) st u en h m = m
items_good (e ∷ []) w scope code x (Pointer elem fixed) st u en h m =
    outermost_then w scope code (same_types (Some (Pointer elem fixed))) e st (λ v st1. store (variable_at code x 0) v st1 >>= λ y. items_stored [] x 1 code) u (left (expr_fits scope (same_types (Some (Pointer elem fixed))) e) (items_fit scope [] []) h) m
    (λ v st1 p m1. whole_good w scope code x (Pointer elem fixed) v st1 u en p m1)
items_good (e ∷ e' ∷ es) w scope code x (Pointer elem fixed) st u en h m = false_not_true (both_hold_second (expr_fits scope (same_types (Some (Pointer elem fixed))) e) false h)

init_good : (init : TypedInit) (w : World) (scope : Scope) (code : Code) (x : ℕ) (ty : VarTy) (st : State) → Ready w scope code → Entry scope x ty → IsTrue (init_fits scope (Some ty) init) → Good w (sizes code.context) st.memory → Steady w (sizes code.context) (initialised init x code st)
init_good n.Nothing w scope code x ty st u en h m = m
init_good (n.Value e) w scope code x ty st u en h m =
    outermost_then w scope code (same_types (Some ty)) e st (λ v st1. store (variable_at code x 0) v st1 >>= λ y. gives goes_on) u (both_hold_second (is_value (Some ty)) (expr_fits scope (same_types (Some ty)) e) h) m
    (λ v st1 p m1. whole_good w scope code x ty v st1 u en p m1)
init_good (n.Items s es) w scope code x ty st u en h m = items_good es w scope code x ty st u en h m

declared_good : (ds : List TypedDeclarator) (w : World) (scope : Scope) (code : Code) (st : State) → Ready w scope code → IsTrue (declaration_fits scope ds) → Good w (sizes code.context) st.memory → Steady w (sizes code.context) (declared ds code st)
declared_good [] w scope code st u h m = m
declared_good (d ∷ ds) w scope code st u h m =
    steady_bind w (sizes code.context) (initialised d.init d.var.0 code (cleared_at code d.var.0 st)) (λ flow. declared ds code)
    (at_entry (option_map (λ (y : Var). y.ty) (slice_get scope.names.vars d.var.0)) refl (left (declarator_fits scope d) (list_all (declarator_fits scope) ds) h))
    (λ flow st1 m1. declared_good ds w scope code st1 u (both_hold_second (declarator_fits scope d) (list_all (declarator_fits scope) ds) h) m1)
  where
    at_entry : (o : Option VarTy) → option_map (λ (y : Var). y.ty) (slice_get scope.names.vars d.var.0) ≡ o → init_fits scope o d.init ≡ true → Steady w (sizes code.context) (initialised d.init d.var.0 code (cleared_at code d.var.0 st))
    at_entry None is h = false_not_true h
    at_entry (Some ty) is h = let en : Entry scope d.var.0 ty = record { is = is } in
        init_good d.init w scope code d.var.0 ty (cleared_at code d.var.0 st) u en h (clearing_good w scope code d.var.0 ty st u en m)

-- ---- loops

-- a round keeps what is so, from every state
abbrev SteadyFrom : {A : Type 0} → World → List ℕ → (State → Outcome A) → Type 0
SteadyFrom w ss part = (st : State) → Good w ss st.memory → Steady w ss (part st)

pub turn_good : {A : Type 0} (w : World) (ss : List ℕ) (left : ℕ) (st : State) (next : State → Outcome A) → Good w ss st.memory → SteadyFrom w ss next → Steady w ss (take_turn left st next)
turn_good w ss zero st next m k = tt
turn_good w ss (suc left) st next m k = k (record st { left = left }) m

after_round_good : (w : World) (ss : List ℕ) (more : State → Outcome Flow) (round : Round) (st : State) → Good w ss st.memory → Steady w ss (more st) → Steady w ss (after_round more round st)
after_round_good w ss more again st m k = k
after_round_good w ss more (leaves flow) st m k = m

looped_good : (rounds : ℕ) (w : World) (ss : List ℕ) (round : Bool → State → Outcome Round) (first : Bool) (st : State) → ((b : Bool) → SteadyFrom w ss (round b)) → Good w ss st.memory → Steady w ss (looped rounds round first st)
looped_good zero w ss round first st h m = tt
looped_good (suc rounds) w ss round first st h m =
    turn_good w ss st.left st (λ st1. round first st1 >>= after_round (looped rounds round false)) m
    (λ st1 m1. steady_bind w ss (round first st1) (after_round (looped rounds round false)) (h first st1 m1)
    (λ r st2 m2. after_round_good w ss (looped rounds round false) r st2 m2 (looped_good rounds w ss round false st2 h m2)))

tested_good : (w : World) (scope : Scope) (code : Code) (test : Option ExprId) (body : State → Outcome Round) (st : State) → Ready w scope code → IsTrue (option_fits scope is_scalar test) → SteadyFrom w (sizes code.context) body → Good w (sizes code.context) st.memory → Steady w (sizes code.context) (tested test code body st)
tested_good w scope code None body st u h r m = r st m
tested_good w scope code (Some e) body st u h r m =
    outermost_then w scope code is_scalar e st (λ v. if is_true v then body else gives (leaves goes_on)) u h m
    (λ v st1 p m1. steady_either w (sizes code.context) (is_true v) body (gives (leaves goes_on)) st1 (r st1 m1) m1)

stepped_good : (b : Bool) (w : World) (scope : Scope) (code : Code) (step : Option ExprId) (rest : State → Outcome Round) (st : State) → Ready w scope code → IsTrue (option_fits scope any_type step) → SteadyFrom w (sizes code.context) rest → Good w (sizes code.context) st.memory → Steady w (sizes code.context) (stepped_first b step code rest st)
stepped_good true w scope code step rest st u h r m = r st m
stepped_good false w scope code None rest st u h r m = r st m
stepped_good false w scope code (Some e) rest st u h r m = outermost_then w scope code any_type e st (λ v. rest) u h m (λ v st1 p m1. r st1 m1)

later_good : (b : Bool) (w : World) (scope : Scope) (code : Code) (e : ExprId) (rest : State → Outcome Round) (st : State) → Ready w scope code → IsTrue (expr_fits scope is_scalar e) → SteadyFrom w (sizes code.context) rest → Good w (sizes code.context) st.memory → Steady w (sizes code.context) (tested_later b e code rest st)
later_good true w scope code e rest st u h r m = r st m
later_good false w scope code e rest st u h r m = tested_good w scope code (Some e) rest st u h r m

begins_good : (begin : TypedForInit) (w : World) (scope : Scope) (code : Code) (st : State) → Ready w scope code → IsTrue (for_init_fits scope begin) → Good w (sizes code.context) st.memory → Steady w (sizes code.context) (for_begins begin code st)
begins_good f.Nothing w scope code st u h m = m
begins_good (f.Declare d) w scope code st u h m = declared_good d.declarators w scope code st u h m
begins_good (f.Evaluate e) w scope code st u h m = outermost_then w scope code any_type e st (λ v. gives goes_on) u h m (λ v st1 p m1. m1)

round_good : (w : World) (ss : List ℕ) (flow : Flow) (st : State) → Good w ss st.memory → Steady w ss (body_round flow st)
round_good w ss goes_on st m = m
round_good w ss continues st m = m
round_good w ss broke st m = m
round_good w ss (returned v) st m = m

past_good : (w : World) (ss : List ℕ) (flow : Flow) (st : State) → Good w ss st.memory → Steady w ss (past_switch flow st)
past_good w ss goes_on st m = m
past_good w ss broke st m = m
past_good w ss continues st m = m
past_good w ss (returned v) st m = m

after_good : (w : World) (ss : List ℕ) (rest : State → Outcome Flow) (flow : Flow) (st : State) → Good w ss st.memory → Steady w ss (rest st) → Steady w ss (after_flow rest flow st)
after_good w ss rest goes_on st m k = k
after_good w ss rest broke st m k = m
after_good w ss rest continues st m k = m
after_good w ss rest (returned v) st m k = m

-- ---- the induction

mutual
  pub statement_good : (body : BodyTree) (w : World) (scope : Scope) (code : Code) (out back : Bool) (st : State) → Ready w scope code → IsTrue (is_sound scope out back body) → Good w (sizes code.context) st.memory → Steady w (sizes code.context) (statement body code st)
  statement_good (b.block s bs) w scope code out back st u h m = all_good bs w scope code out back st u h m
  statement_good (b.nothing s) w scope code out back st u h m = m
  statement_good (b.evaluate s e) w scope code out back st u h m = outermost_then w scope code any_type e st (λ v. gives goes_on) u h m (λ v st1 p m1. m1)
  statement_good (b.declare d) w scope code out back st u h m = declared_good d.declarators w scope code st u h m
  statement_good (b.choose s e a o) w scope code out back st u h m =
      let rest = both_hold_second (expr_fits scope is_scalar e) (is_sound scope out back a && else_sound scope out back o) h in
      outermost_then w scope code is_scalar e st (λ v. if is_true v then statement a code else otherwise_of o code) u (left (expr_fits scope is_scalar e) (is_sound scope out back a && else_sound scope out back o) h) m
      (λ v st1 p m1. steady_either w (sizes code.context) (is_true v) (statement a code) (otherwise_of o code) st1
      (statement_good a w scope code out back st1 u (left (is_sound scope out back a) (else_sound scope out back o) rest) m1)
      (else_good o w scope code out back st1 u (both_hold_second (is_sound scope out back a) (else_sound scope out back o) rest) m1))
  statement_good (b.while_true s e a) w scope code out back st u h m =
      looped_good st.left w (sizes code.context) (λ first. tested (Some e) code (λ st1. statement a code st1 >>= body_round)) true st
      (λ first st1 m1. tested_good w scope code (Some e) (λ st2. statement a code st2 >>= body_round) st1 u (left (expr_fits scope is_scalar e) (is_sound scope true true a) h)
      (λ st2 m2. steady_bind w (sizes code.context) (statement a code st2) body_round (statement_good a w scope code true true st2 u (both_hold_second (expr_fits scope is_scalar e) (is_sound scope true true a) h) m2) (round_good w (sizes code.context))) m1) m
  statement_good (b.do_while s a e) w scope code out back st u h m =
      looped_good st.left w (sizes code.context) (λ first. tested_later first e code (λ st1. statement a code st1 >>= body_round)) true st
      (λ first st1 m1. later_good first w scope code e (λ st2. statement a code st2 >>= body_round) st1 u (both_hold_second (is_sound scope true true a) (expr_fits scope is_scalar e) h)
      (λ st2 m2. steady_bind w (sizes code.context) (statement a code st2) body_round (statement_good a w scope code true true st2 u (left (is_sound scope true true a) (expr_fits scope is_scalar e) h) m2) (round_good w (sizes code.context))) m1) m
  statement_good (b.for_each s begin test step a) w scope code out back st u h m =
      let rest = both_hold_second (for_init_fits scope begin) (option_fits scope is_scalar test && (option_fits scope any_type step && is_sound scope true true a)) h in
      let more = both_hold_second (option_fits scope is_scalar test) (option_fits scope any_type step && is_sound scope true true a) rest in
      steady_bind w (sizes code.context) (for_begins begin code st) (λ flow st1. looped st1.left (λ first. stepped_first first step code (tested test code (λ st2. statement a code st2 >>= body_round))) true st1)
      (begins_good begin w scope code st u (left (for_init_fits scope begin) (option_fits scope is_scalar test && (option_fits scope any_type step && is_sound scope true true a)) h) m)
      (λ flow st1 m1. looped_good st1.left w (sizes code.context) (λ first. stepped_first first step code (tested test code (λ st2. statement a code st2 >>= body_round))) true st1
      (λ first st2 m2. stepped_good first w scope code step (tested test code (λ st3. statement a code st3 >>= body_round)) st2 u (left (option_fits scope any_type step) (is_sound scope true true a) more)
      (λ st3 m3. tested_good w scope code test (λ st4. statement a code st4 >>= body_round) st3 u (left (option_fits scope is_scalar test) (option_fits scope any_type step && is_sound scope true true a) rest)
      (λ st4 m4. steady_bind w (sizes code.context) (statement a code st4) body_round (statement_good a w scope code true true st4 u (both_hold_second (option_fits scope any_type step) (is_sound scope true true a) more) m4) (round_good w (sizes code.context))) m3) m2) m1)
  statement_good (b.give_back s None) w scope code out back st u h m = m
  statement_good (b.give_back s (Some e)) w scope code out back st u h m =
      outermost_then w scope code (λ t. both_int (integer_of t) scope.result) e st (λ v. gives (returned v)) u h m (λ v st1 p m1. m1)
  statement_good (b.stop_loop s) w scope code out back st u h m = m
  statement_good (b.next_turn s) w scope code out back st u h m = m
  statement_good (b.switch s e ty sections) w scope code out back st u h m =
      let rest = both_hold_second (expr_fits scope (promotes_to ty) e) (labels_fit ty (labels_of sections) && sections_sound scope back sections) h in
      outermost_then w scope code (promotes_to ty) e st (λ v st1. take_turn st1.left st1 (λ st2. sections_from sections (chosen sections (conv ty (number_of v))) code st2 >>= past_switch)) u
      (left (expr_fits scope (promotes_to ty) e) (labels_fit ty (labels_of sections) && sections_sound scope back sections) h) m
      (λ v st1 p m1. turn_good w (sizes code.context) st1.left st1 (λ st2. sections_from sections (chosen sections (conv ty (number_of v))) code st2 >>= past_switch) m1
      (λ st2 m2. steady_bind w (sizes code.context) (sections_from sections (chosen sections (conv ty (number_of v))) code st2) past_switch
      (sections_good sections (chosen sections (conv ty (number_of v))) w scope code back st2 u (both_hold_second (labels_fit ty (labels_of sections)) (sections_sound scope back sections) rest) m2) (past_good w (sizes code.context))))

  else_good : (o : ElseTree) (w : World) (scope : Scope) (code : Code) (out back : Bool) (st : State) → Ready w scope code → IsTrue (else_sound scope out back o) → Good w (sizes code.context) st.memory → Steady w (sizes code.context) (otherwise_of o code st)
  else_good no_else w scope code out back st u h m = m
  else_good (otherwise a) w scope code out back st u h m = statement_good a w scope code out back st u h m

  all_good : (bs : BodyTrees) (w : World) (scope : Scope) (code : Code) (out back : Bool) (st : State) → Ready w scope code → IsTrue (all_sound scope out back bs) → Good w (sizes code.context) st.memory → Steady w (sizes code.context) (all_of bs code st)
  all_good no_bodies w scope code out back st u h m = m
  all_good (body_and a rest) w scope code out back st u h m =
      steady_bind w (sizes code.context) (statement a code st) (after_flow (all_of rest code)) (statement_good a w scope code out back st u (left (is_sound scope out back a) (all_sound scope out back rest) h) m)
      (λ flow st1 m1. after_good w (sizes code.context) (all_of rest code) flow st1 m1 (all_good rest w scope code out back st1 u (both_hold_second (is_sound scope out back a) (all_sound scope out back rest) h) m1))

  sections_good : (xs : SectionTrees) (skipped : ℕ) (w : World) (scope : Scope) (code : Code) (back : Bool) (st : State) → Ready w scope code → IsTrue (sections_sound scope back xs) → Good w (sizes code.context) st.memory → Steady w (sizes code.context) (sections_from xs skipped code st)
  sections_good no_sections skipped w scope code back st u h m = m
  sections_good (section_and (section s l bs) rest) zero w scope code back st u h m =
      steady_bind w (sizes code.context) (all_of bs code st) (after_flow (sections_from rest zero code)) (all_good bs w scope code true back st u (left (all_sound scope true back bs) (sections_sound scope back rest) h) m)
      (λ flow st1 m1. after_good w (sizes code.context) (sections_from rest zero code) flow st1 m1 (sections_good rest zero w scope code back st1 u (both_hold_second (all_sound scope true back bs) (sections_sound scope back rest) h) m1))
  sections_good (section_and (section s l bs) rest) (suc skipped) w scope code back st u h m = sections_good rest skipped w scope code back st u (both_hold_second (all_sound scope true back bs) (sections_sound scope back rest) h) m
