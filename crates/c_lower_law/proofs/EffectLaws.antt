-- The law of lowering, form by form: expressions whose value is dropped, and objects.
use Rattle.std.proofs.Common.{◌≡◌, ◌∙◌, ◌≤◌, ◌<◌, ℕ, zero, suc, ◌+◌, pos, refl, ap, sym, subst, arith, Bool, true, false, not, Option, Some, None, List, [], ◌∷◌, ◌++◌, length, Result, Ok, Err, if◌then◌else◌}
use Rattle.std.specs.Prelude.{IsTrue, ◌&&◌, ◌||◌, slice_get, slice_index_or, option_map}
use Rattle.pt_base.specs.declared.int_type.IntType.TheVariants as i
use Rattle.pt_base.specs.declared.ids.FnId.{FnId}
use Rattle.pt_base.specs.declared.span.Span.{Span}
use Rattle.pt_base.proofs.Booleans.{both_hold_first, both_hold_second, from_not_false}
use Rattle.runs.specs.State.{gives, trapped, spent, ◌>>=◌}
use Rattle.typed_tree.specs.declared.types.VarTy.{VarTy}
use Rattle.typed_tree.specs.declared.types.VarTy.TheVariants.{Int, Struct, Array, Pointer}
use Rattle.typed_tree.specs.declared.link.LinkStep.{LinkStep}
use Rattle.typed_tree.specs.declared.link.LogicalOp.{LogicalOp}
use Rattle.typed_tree.specs.ExpressionTree as x
use Rattle.typed_tree.specs.ExpressionTree.{ExprTree, typed, FormTree, ExprTrees, PlaceTree}
use Rattle.typed_tree.specs.TypeTests.{same_types, is_scalar, is_value}
use Rattle.typed_tree.specs.TypeRules.{is_arm}
use Rattle.typed_tree.specs.WellFormedExpression as f
use Rattle.typed_tree.specs.WellFormedExpression.{is_typed, form_fits, all_typed, place_fits, ty_of, is_struct, place_type, is_object, is_written, call_fits}
use Rattle.block_memory.specs.declared.cell.Cell as core
use Rattle.block_memory.specs.declared.cell.Cell.TheVariants as cell
use Rattle.block_memory.specs.declared.cell.BlockName.TheVariants.{Local}
use Rattle.block_memory.specs.Blocks.{Blocks}
use Rattle.source_meaning.specs.State.{State, Outcome}
use Rattle.source_meaning.specs.Values as m
use Rattle.source_meaning.specs.Values.{Value, holds, cell_of, is_true, Location}
use Rattle.source_meaning.specs.Expressions as e
use Rattle.source_meaning.specs.Expressions.{value_of, values_of, location_of, type_or_int, store, compounded}
use Rattle.source_soundness.specs.Worlds.{ValueFits}
use Rattle.source_soundness.specs.Sizes.{ValueSized}
use Rattle.typed_tree.proofs.SameTypes.{equal_options}
use Rattle.source_soundness.proofs.Soundness.{value_fits}
use Rattle.source_soundness.proofs.SizeSoundness.{value_sized}
use Rattle.pt_core.specs.CodeTree as t
use Rattle.pt_core.specs.CodeTree.{StmtTree, check, choose, stmt_trees, assign, copy}
use Rattle.pt_core.specs.Values as v
use Rattle.pt_core.specs.Values.{Stop}
use Rattle.pt_core.specs.Statements as c
use Rattle.pt_core.specs.Statements.{Flow, goes_on, after_flow, evaluated}
use Rattle.lowering.specs.Lowered.{Temp, Effects, Lowered, LoweredPlace, past, temp, hold, holding}
use Rattle.lowering.specs.Purity.{is_pure}
use Rattle.lowering.specs.Expressions as l
use Rattle.lowering.specs.Expressions.{value_in, form_in, effects_in, arguments_in, place_in, object_in, fixed_if}
use Rattle.c_lower_law.proofs.Relations.{Scene, world_of, context_of, scope_of, sizes_in, HasTemps, Kept, Alike, Same, After, below}
use Rattle.c_lower_law.proofs.Expressions.{run_all, cell_asked, place_asked, object_asked, SameAsked, SameCell, Gives, IsValue, IsPlace, IsObject, SceneFits}
use Rattle.c_lower_law.proofs.Runs.{bind_gives, run_append, Stops, stops_at, asked_run, same_weaken}
use Rattle.c_lower_law.proofs.Memories.{kept_same, kept_then}
use Rattle.c_lower_law.proofs.Held.{temps_first, temps_rest, temp_there, IsNext, Both, pair_of, both}
use Rattle.c_lower_law.proofs.Operators.{holds_same}
use Rattle.c_lower_law.proofs.Places.{setup, PlaceLowered, ValueLowered}
use Rattle.c_lower_law.proofs.Fixed.{place_then}
use Rattle.c_lower_law.proofs.Values.{near, GivesNear, IsNear, nearly, asked_settled, Scalar}
use Rattle.c_lower_law.proofs.Choices.{hold_value, choose_then, choose_stops}
use Rattle.c_lower_law.proofs.OperandTypes.{ScalarType, scalar_type, not_struct}
use Rattle.c_lower_law.proofs.Copies.{HasCells, object_near, copied_dropped, copied_object}
use Rattle.c_lower_law.proofs.Stores.{given_dropped, computed, computed_dropped, fixed_on_temps}
use Rattle.c_lower_law.proofs.Forms.{next_as, next_weaken, value_typed, Runs, RunsNear, effects_settled, runs_near, runs_give, runs_as, near_runs, fixed_first, fixed_type, past_from, scalar_expr}
use Rattle.c_lower_law.proofs.FormLaws.{ValueLaw, FormLaw, PlaceLaw, EffectsLaw}
use Rattle.c_lower_law.proofs.StoreLaws.{paired, second_typed, written_object, lower_plain, compound_facts}
use Rattle.c_lower_law.proofs.Shapes.{pure_value}
use Rattle.c_lower_law.proofs.Steps.{bind_same}

-- ---- nothing is run

pub nothing_runs : (s : Scene) (n : ℕ) (w : Value) → RunsNear s n (λ st. gives w st) []
nothing_runs s n w st st' al = record { near = near s st st' al; kept = kept_same s (below n) st'.memory; facts = refl }

-- ---- an object is found, and that is all

abbrev checking : c.State → Result v.Location Stop → c.Outcome Flow
checking st r = (evaluated r st (λ at. gives goes_on)) >>= after_flow (λ st1. gives goes_on st1)

pub checked_runs : {A : Type 0} (s : Scene) (n : ℕ) (u : VarTy) (source : State → Outcome Location) (k : Location → State → A) (stmts : List StmtTree) (p : t.PlaceTree) → IsNext s (IsPlace s u) n source stmts (place_asked s p) → RunsNear s n (λ st. source st >>= λ at st1. gives (k at st1) st1) (stmts ++ check p ∷ [])
checked_runs s n u source k stmts p h st st' al =
    subst (λ o. Same (GivesNear s (below n) st'.memory (λ a flow. flow ≡ goes_on)) (source st >>= λ at st1. gives (k at st1) st1) o) (sym (run_append s stmts (check p ∷ []) st'))
    (asked_run (Kept s (below n) st'.memory) (Gives s (below n) st'.memory (IsPlace s u)) (GivesNear s (below n) st'.memory (λ a flow. flow ≡ goes_on)) (place_asked s p) (source st) (run_all s stmts st') (λ at st1. gives (k at st1) st1) (run_all s (check p ∷ []))
    (h st st' al) (λ stop st1' q no. stops_at stop st1' (run_all s (check p ∷ []) st1') (ap (checking st1') no))
    (λ at st1 at' st1' q is. subst (λ o. Same (GivesNear s (below n) st'.memory (λ a flow. flow ≡ goes_on)) (gives (k at st1) st1) o) (sym (ap (checking st1') is)) (record { near = near s st1 st1' q.after.alike; kept = q.after.kept; facts = refl })))

-- ---- a value is held, and that is all

pub held_runs : (s : Scene) (n : ℕ) (ex : ExprTree) (x1 : Temp) (l1 : Lowered) → SceneFits s → length s.names.vars ≤ n → HasTemps s.core_variables n (l1.temps ++ x1 ∷ []) → ValueLowered s (ty_of ex) n (value_of ex (context_of s)) l1 → RunsNear s n (value_of ex (context_of s)) (l1.stmts ++ hold (past n l1.temps) l1.value ∷ [])
held_runs s n ex x1 l1 k from temps v =
    near_runs s n (IsValue s (ty_of ex)) (cell_asked s (temp (past n l1.temps))) (λ blocks. slice_index_or (blocks (Local s.frame.depth (past n l1.temps))).cells 0 (cell.Int (pos 0))) (value_of ex (context_of s)) (l1.stmts ++ hold (past n l1.temps) l1.value ∷ []) (λ blocks. refl)
    (nearly s (IsValue s (ty_of ex)) n (value_of ex (context_of s)) (l1.stmts ++ hold (past n l1.temps) l1.value ∷ []) (cell_asked s (temp (past n l1.temps)))
    (next_as s (IsValue s (ty_of ex)) n (λ st. value_of ex (context_of s) st >>= λ w. gives w) (value_of ex (context_of s)) (l1.stmts ++ hold (past n l1.temps) l1.value ∷ []) (cell_asked s (temp (past n l1.temps))) (λ st. sym (bind_gives (value_of ex (context_of s) st)))
    (hold_value s n n (past n l1.temps) x1.ty (IsValue s (ty_of ex)) (value_of ex (context_of s)) l1.stmts l1.value k (past_from (length s.names.vars) n l1.temps from) (omega arith) (omega arith) (temp_there s.core_variables n l1.temps x1 [] temps) v.runs)))

-- ---- `?:`

pub choice_runs : (s : Scene) (n m1 m2 : ℕ) (u : VarTy) (source one two : State → Outcome Value) (stmts first second : List StmtTree) (e1 : t.ExprTree) → Scalar u → n ≤ m1 → n ≤ m2 → IsNext s (IsValue s (Some u)) n source stmts (cell_asked s e1) → Runs s m1 one first → Runs s m2 two second →
    RunsNear s n (λ st. source st >>= λ w. if is_true w then one else two) (stmts ++ choose e1 (stmt_trees first) (stmt_trees second) ∷ [])
choice_runs s n m1 m2 u source one two stmts first second e1 scalar le1 le2 h h1 h2 st st' al =
    subst (λ o. Same (GivesNear s (below n) st'.memory (λ a flow. flow ≡ goes_on)) (source st >>= λ w. if is_true w then one else two) o) (sym (run_append s stmts (choose e1 (stmt_trees first) (stmt_trees second) ∷ []) st'))
    (asked_run (Kept s (below n) st'.memory) (Gives s (below n) st'.memory (IsValue s (Some u))) (GivesNear s (below n) st'.memory (λ a flow. flow ≡ goes_on)) (cell_asked s e1) (source st) (run_all s stmts st') (λ w. if is_true w then one else two) (run_all s (choose e1 (stmt_trees first) (stmt_trees second) ∷ []))
    (h st st' al) (λ stop st1' q no. choose_stops s e1 first second stop st1' no)
    (λ w st1 z st1' q is. subst (λ o. Same (GivesNear s (below n) st'.memory (λ a flow. flow ≡ goes_on)) ((if is_true w then one else two) st1) o) (sym (choose_then s e1 first second z (is_true w) st1' is (ap v.holds_in q.facts.same ∙ holds_same (cell_of w)))) (either (is_true w) st1 st1' q.after)))
  where
    more : (m : ℕ) (source1 : State → Outcome Value) (stmts1 : List StmtTree) → n ≤ m → Runs s m source1 stmts1 → (st1 : State) (st1' : c.State) → After s (below n) st'.memory st1 st1' → Same (GivesNear s (below n) st'.memory (λ a flow. flow ≡ goes_on)) (source1 st1) (run_all s stmts1 st1')
    more m source1 stmts1 le g st1 st1' q =
        same_weaken (Gives s (below m) st1'.memory (λ a flow. flow ≡ goes_on)) (GivesNear s (below n) st'.memory (λ a flow. flow ≡ goes_on)) (source1 st1) (run_all s stmts1 st1') (g st1 st1' q.alike)
        (λ w st2 flow st2' z. record { near = near s st2 st2' z.after.alike; kept = kept_then s (below n) (below m) (below n) st'.memory st1'.memory st2'.memory q.kept z.after.kept (λ j h. h) (λ j h. omega (arith, le, h)); facts = z.facts })

    either : (b : Bool) (st1 : State) (st1' : c.State) → After s (below n) st'.memory st1 st1' → Same (GivesNear s (below n) st'.memory (λ a flow. flow ≡ goes_on)) ((if b then one else two) st1) (if b then run_all s first st1' else run_all s second st1')
    either true st1 st1' q = more m1 one first le1 h1 st1 st1' q
    either false st1 st1' q = more m2 two second le2 h2 st1 st1' q

-- ---- objects

abbrev pub ObjectLaw : ExprTree → Type 0
ObjectLaw ex = (s : Scene) (n j : ℕ) → SceneFits s → IsTrue (is_typed s.names ex) → ty_of ex ≡ Some (Struct j) → length s.names.vars ≤ n → HasTemps s.core_variables n (object_in (scope_of s) ex n).temps →
    IsNext s (IsObject s j) n (value_of ex (context_of s)) (object_in (scope_of s) ex n).stmts (object_asked s (object_in (scope_of s) ex n).place j)

-- the cells of a struct's value are known to be all
pub object_settled : (s : Scene) (ex : ExprTree) (n j : ℕ) (stmts : List StmtTree) (p : t.PlaceTree) → SceneFits s → IsTrue (is_typed s.names ex) → ty_of ex ≡ Some (Struct j) → IsNear s HasCells n (value_of ex (context_of s)) stmts (object_asked s p j) →
    IsNext s (IsObject s j) n (value_of ex (context_of s)) stmts (object_asked s p j)
object_settled s ex n j stmts p fits typed1 is h st st' al =
    asked_settled s n st'.memory HasCells (IsObject s j) (ValueFits (world_of s) (ty_of ex)) (ValueSized (world_of s) (sizes_in s) (ty_of ex)) (object_asked s p j) (value_of ex (context_of s) st) (run_all s stmts st') (h st st' al)
    (value_fits ex (world_of s) s.names (context_of s) st fits.fits typed1 al.fits) (value_sized ex (world_of s) s.names (context_of s) st (setup s fits) typed1 al.fits al.sized)
    (λ w xs q t1 u1. record { fits = subst (λ z. ValueFits (world_of s) z w) is t1; sized = subst (λ z. ValueSized (world_of s) (sizes_in s) z w) is u1; cells = q.cells; is = q.is; same = q.same })

pub as_cells : (s : Scene) (j : ℕ) (w : Value) (xs : List core.Cell) → IsObject s j w xs → HasCells w xs
as_cells s j w xs q = record { cells = q.cells; is = q.is; same = q.same }

-- ---- `=`, dropped or not, between structs

struct_only : (ty : Option VarTy) (j : ℕ) → ty ≡ Some (Struct j) → l.is_struct ty ≡ true
struct_only ty j is = ap l.is_struct is

pub record AssignKinds (s : Scene) (p : PlaceTree) (a : ExprTree) (ty : Option VarTy) : Type 0 where
  pub there : IsTrue (place_fits s.names p)
  pub can : IsTrue (is_object p)
  pub place_is : place_type s.names p ≡ ty
  pub value : IsTrue (is_value ty)
  pub typed_a : IsTrue (is_typed s.names a)
  pub a_is : ty_of a ≡ ty

pub assign_kinds : (s : Scene) (p : PlaceTree) (a : ExprTree) (ty : Option VarTy) → IsTrue (form_fits s.names (x.assign p a) ty) → AssignKinds s p a ty
assign_kinds s p a ty h =
    let whole = both_hold_first (place_fits s.names p && is_written s.names p) ((same_types (place_type s.names p) ty && is_value ty) && (is_typed s.names a && same_types (ty_of a) ty)) h in
    let rest = both_hold_second (place_fits s.names p && is_written s.names p) ((same_types (place_type s.names p) ty && is_value ty) && (is_typed s.names a && same_types (ty_of a) ty)) h in
    let own = both_hold_first (same_types (place_type s.names p) ty && is_value ty) (is_typed s.names a && same_types (ty_of a) ty) rest in
    let of = both_hold_second (same_types (place_type s.names p) ty && is_value ty) (is_typed s.names a && same_types (ty_of a) ty) rest in
    record {
      there = both_hold_first (place_fits s.names p) (is_written s.names p) whole;
      can = written_object s p (both_hold_second (place_fits s.names p) (is_written s.names p) whole);
      place_is = equal_options (place_type s.names p) ty (both_hold_first (same_types (place_type s.names p) ty) (is_value ty) own);
      value = both_hold_second (same_types (place_type s.names p) ty) (is_value ty) own;
      typed_a = both_hold_first (is_typed s.names a) (same_types (ty_of a) ty) of;
      a_is = equal_options (ty_of a) ty (both_hold_second (is_typed s.names a) (same_types (ty_of a) ty) of);
    }

-- a pure expression of a struct's type reads a place
pub pure_object : (a : ExprTree) (s : Scene) (n j : ℕ) → IsTrue (is_typed s.names a) → ty_of a ≡ Some (Struct j) → is_pure a ≡ true → (object_in (scope_of s) a n).stmts ≡ []
pure_object (typed at ty (x.read p)) s n j h is k = (pure_value (typed at ty (x.read p)) (scope_of s) n k).stmts_none
pure_object (typed at ty (x.constant z)) s n j h is k = refl
pure_object (typed at ty x.null) s n j h is k = refl
pure_object (typed at ty (x.decay p)) s n j h is k = refl
pure_object (typed at ty (x.address p)) s n j h is k = refl
pure_object (typed at ty (x.unary op a)) s n j h is k = refl
pure_object (typed at ty (x.convert a)) s n j h is k = refl
pure_object (typed at ty (x.discard a)) s n j h is k = refl
pure_object (typed at ty (x.chain a links)) s n j h is k = refl
pure_object (typed at ty (x.logical op a others)) s n j h is k = refl
pure_object (typed at ty (x.choice a b d)) s n j h is k = refl
pure_object (typed at ty (x.assign p a)) s n j h is k = cc
pure_object (typed at ty (x.compound p sp step a)) s n j h is k = refl
pure_object (typed at ty (x.step p sp back postfix)) s n j h is k = refl
pure_object (typed at ty (x.call g es)) s n j h is k = refl

-- both objects of an assignment
abbrev pub ObjectsPaired : Scene → ℕ → ℕ → Bool → PlaceTree → ExprTree → Type 0
ObjectsPaired s n j fix p a =
    let to = fixed_if fix n (place_in (scope_of s) p n) in
    let of = object_in (scope_of s) a (past n to.temps) in
    IsNext s (Both (IsPlace s (Struct j)) (IsObject s j)) n (pair_of (location_of p (context_of s)) (value_of a (context_of s))) (to.stmts ++ of.stmts) (both (place_asked s to.place) (object_asked s of.place j))

pub objects_paired : (s : Scene) (n j : ℕ) (fix : Bool) (p : PlaceTree) (a : ExprTree) → SceneFits s → length s.names.vars ≤ n → (fix ≡ false → is_pure a ≡ true) → IsTrue (is_object p) → IsTrue (is_typed s.names a) → ty_of a ≡ Some (Struct j) →
    HasTemps s.core_variables n ((fixed_if fix n (place_in (scope_of s) p n)).temps ++ (object_in (scope_of s) a (past n (fixed_if fix n (place_in (scope_of s) p n)).temps)).temps) → PlaceLowered s (Struct j) n (is_object p) (location_of p (context_of s)) (place_in (scope_of s) p n) → ObjectLaw a →
    ObjectsPaired s n j fix p a
objects_paired s n j fix p a k from fixes can h is temps pl law =
    let tt1 = temps_first s.core_variables n (fixed_if fix n (place_in (scope_of s) p n)).temps (object_in (scope_of s) a (past n (fixed_if fix n (place_in (scope_of s) p n)).temps)).temps temps in
    let tt2 = temps_rest s.core_variables n (fixed_if fix n (place_in (scope_of s) p n)).temps (object_in (scope_of s) a (past n (fixed_if fix n (place_in (scope_of s) p n)).temps)).temps temps in
    place_then s n (Struct j) (is_object p) fix (place_in (scope_of s) p n) (IsObject s j) (location_of p (context_of s)) (value_of a (context_of s)) (object_in (scope_of s) a (past n (fixed_if fix n (place_in (scope_of s) p n)).temps)).stmts (object_asked s (object_in (scope_of s) a (past n (fixed_if fix n (place_in (scope_of s) p n)).temps)).place j)
    k from tt1 can pl (law s (past n (fixed_if fix n (place_in (scope_of s) p n)).temps) j k h is (past_from (length s.names.vars) n (fixed_if fix n (place_in (scope_of s) p n)).temps from) tt2)
    (λ e1. pure_object a s (past n (fixed_if fix n (place_in (scope_of s) p n)).temps) j h is (fixes e1))

-- an assignment that is dropped
pub assign_struct_runs : (p : PlaceTree) (a : ExprTree) → PlaceLaw p → ObjectLaw a → (at : Span) (ty : Option VarTy) (s : Scene) (n j : ℕ) → SceneFits s → IsTrue (form_fits s.names (x.assign p a) ty) → ty ≡ Some (Struct j) → length s.names.vars ≤ n → HasTemps s.core_variables n (effects_in (scope_of s) (typed at ty (x.assign p a)) n).temps →
    RunsNear s n (value_of (typed at ty (x.assign p a)) (context_of s)) (effects_in (scope_of s) (typed at ty (x.assign p a)) n).stmts
assign_struct_runs p a lp la at ty s n j k h is from temps =
    let q = assign_kinds s p a ty h in
    let plain = struct_only ty j is in
    let ts = subst (λ z. HasTemps s.core_variables n (l.assigned z (fixed_if (not (is_pure a)) n (place_in (scope_of s) p n)) (object_in (scope_of s) a (past n (fixed_if (not (is_pure a)) n (place_in (scope_of s) p n)).temps)) (value_in (scope_of s) a (past n (fixed_if (not (is_pure a)) n (place_in (scope_of s) p n)).temps))).temps) plain temps in
    let pl = lp s n (Struct j) k q.there (q.place_is ∙ is) from (fixed_first s.core_variables n (not (is_pure a)) (place_in (scope_of s) p n) (temps_first s.core_variables n (fixed_if (not (is_pure a)) n (place_in (scope_of s) p n)).temps (object_in (scope_of s) a (past n (fixed_if (not (is_pure a)) n (place_in (scope_of s) p n)).temps)).temps ts)) in
    let pr = objects_paired s n j (not (is_pure a)) p a k from (from_not_false (is_pure a)) q.can q.typed_a (q.a_is ∙ is) ts pl la in
    subst (λ z. RunsNear s n (value_of (typed at ty (x.assign p a)) (context_of s)) (l.assigned z (fixed_if (not (is_pure a)) n (place_in (scope_of s) p n)) (object_in (scope_of s) a (past n (fixed_if (not (is_pure a)) n (place_in (scope_of s) p n)).temps)) (value_in (scope_of s) a (past n (fixed_if (not (is_pure a)) n (place_in (scope_of s) p n)).temps))).stmts) (sym plain)
    (copied_dropped s n j (location_of p (context_of s)) (value_of a (context_of s)) ((fixed_if (not (is_pure a)) n (place_in (scope_of s) p n)).stmts ++ (object_in (scope_of s) a (past n (fixed_if (not (is_pure a)) n (place_in (scope_of s) p n)).temps)).stmts) (fixed_if (not (is_pure a)) n (place_in (scope_of s) p n)).place (object_in (scope_of s) a (past n (fixed_if (not (is_pure a)) n (place_in (scope_of s) p n)).temps)).place k
    (next_weaken s (Both (IsPlace s (Struct j)) (IsObject s j)) (Both (IsPlace s (Struct j)) HasCells) n (pair_of (location_of p (context_of s)) (value_of a (context_of s))) ((fixed_if (not (is_pure a)) n (place_in (scope_of s) p n)).stmts ++ (object_in (scope_of s) a (past n (fixed_if (not (is_pure a)) n (place_in (scope_of s) p n)).temps)).stmts)
    (both (place_asked s (fixed_if (not (is_pure a)) n (place_in (scope_of s) p n)).place) (object_asked s (object_in (scope_of s) a (past n (fixed_if (not (is_pure a)) n (place_in (scope_of s) p n)).temps)).place j)) pr (λ q1 z1 g. (g.0, as_cells s j q1.1 z1.1 g.1))))

scalar_struct : (u : VarTy) → Scalar u → is_struct (Some u) ≡ false
scalar_struct (Int z) h = refl
scalar_struct (Pointer elem fixed) h = refl
scalar_struct (Struct n) h = absurd h
scalar_struct (Array elem count) h = absurd h

pub assign_scalar_runs : (p : PlaceTree) (a : ExprTree) → PlaceLaw p → ValueLaw a → (at : Span) (ty : Option VarTy) (s : Scene) (n : ℕ) (u : VarTy) → SceneFits s → IsTrue (form_fits s.names (x.assign p a) ty) → ty ≡ Some u → Scalar u → length s.names.vars ≤ n → HasTemps s.core_variables n (effects_in (scope_of s) (typed at ty (x.assign p a)) n).temps →
    RunsNear s n (value_of (typed at ty (x.assign p a)) (context_of s)) (effects_in (scope_of s) (typed at ty (x.assign p a)) n).stmts
assign_scalar_runs p a lp la at ty s n u k h is scalar from temps =
    let q = assign_kinds s p a ty h in
    let plain = lower_plain u ty is scalar in
    let ts = subst (λ z. HasTemps s.core_variables n (l.assigned z (fixed_if (not (is_pure a)) n (place_in (scope_of s) p n)) (object_in (scope_of s) a (past n (fixed_if (not (is_pure a)) n (place_in (scope_of s) p n)).temps)) (value_in (scope_of s) a (past n (fixed_if (not (is_pure a)) n (place_in (scope_of s) p n)).temps))).temps) plain temps in
    let pl = lp s n u k q.there (q.place_is ∙ is) from (fixed_first s.core_variables n (not (is_pure a)) (place_in (scope_of s) p n) (temps_first s.core_variables n (fixed_if (not (is_pure a)) n (place_in (scope_of s) p n)).temps (value_in (scope_of s) a (past n (fixed_if (not (is_pure a)) n (place_in (scope_of s) p n)).temps)).temps ts)) in
    let pr = second_typed s n u (ty_of a) (Some u) (pair_of (location_of p (context_of s)) (value_of a (context_of s))) ((fixed_if (not (is_pure a)) n (place_in (scope_of s) p n)).stmts ++ (value_in (scope_of s) a (past n (fixed_if (not (is_pure a)) n (place_in (scope_of s) p n)).temps)).stmts)
    (both (place_asked s (fixed_if (not (is_pure a)) n (place_in (scope_of s) p n)).place) (cell_asked s (value_in (scope_of s) a (past n (fixed_if (not (is_pure a)) n (place_in (scope_of s) p n)).temps)).value)) (q.a_is ∙ is)
    (paired s n u (not (is_pure a)) p a k from (from_not_false (is_pure a)) q.can q.typed_a (ap is_struct (q.a_is ∙ is) ∙ scalar_struct u scalar) ts pl la) in
    subst (λ z. RunsNear s n (value_of (typed at ty (x.assign p a)) (context_of s)) (l.assigned z (fixed_if (not (is_pure a)) n (place_in (scope_of s) p n)) (object_in (scope_of s) a (past n (fixed_if (not (is_pure a)) n (place_in (scope_of s) p n)).temps)) (value_in (scope_of s) a (past n (fixed_if (not (is_pure a)) n (place_in (scope_of s) p n)).temps))).stmts) (sym plain)
    (given_dropped s n u (location_of p (context_of s)) (value_of a (context_of s)) ((fixed_if (not (is_pure a)) n (place_in (scope_of s) p n)).stmts ++ (value_in (scope_of s) a (past n (fixed_if (not (is_pure a)) n (place_in (scope_of s) p n)).temps)).stmts) (fixed_if (not (is_pure a)) n (place_in (scope_of s) p n)).place (value_in (scope_of s) a (past n (fixed_if (not (is_pure a)) n (place_in (scope_of s) p n)).temps)).value k scalar pr)

pub compound_runs : (p : PlaceTree) (sp : Span) (step : LinkStep) (a : ExprTree) → PlaceLaw p → ValueLaw a → (at : Span) (ty : Option VarTy) (s : Scene) (n : ℕ) → SceneFits s → IsTrue (form_fits s.names (x.compound p sp step a) ty) → length s.names.vars ≤ n → HasTemps s.core_variables n (effects_in (scope_of s) (typed at ty (x.compound p sp step a)) n).temps →
    RunsNear s n (value_of (typed at ty (x.compound p sp step a)) (context_of s)) (effects_in (scope_of s) (typed at ty (x.compound p sp step a)) n).stmts
compound_runs p sp step a lp la at ty s n k h from temps =
    let q = compound_facts s p sp step a ty h in
    let pl = lp s n q.u k q.there (q.place_is ∙ q.is) from (fixed_first s.core_variables n (not (is_pure a)) (place_in (scope_of s) p n) (temps_first s.core_variables n (fixed_if (not (is_pure a)) n (place_in (scope_of s) p n)).temps (value_in (scope_of s) a (past n (fixed_if (not (is_pure a)) n (place_in (scope_of s) p n)).temps)).temps temps)) in
    let pr = paired s n q.u (not (is_pure a)) p a k from (from_not_false (is_pure a)) q.can q.typed_a (not_struct (ty_of a) q.operand) temps pl la in
    let same_ty : (fixed_if (not (is_pure a)) n (place_in (scope_of s) p n)).ty ≡ q.u = fixed_type n (not (is_pure a)) (place_in (scope_of s) p n) ∙ pl.named in
    subst (λ z. RunsNear s n (value_of (typed at ty (x.compound p sp step a)) (context_of s)) (((fixed_if (not (is_pure a)) n (place_in (scope_of s) p n)).stmts ++ (value_in (scope_of s) a (past n (fixed_if (not (is_pure a)) n (place_in (scope_of s) p n)).temps)).stmts) ++ assign (fixed_if (not (is_pure a)) n (place_in (scope_of s) p n)).place (computed z step (fixed_if (not (is_pure a)) n (place_in (scope_of s) p n)).place (value_in (scope_of s) a (past n (fixed_if (not (is_pure a)) n (place_in (scope_of s) p n)).temps)).value at) ∷ [])) (sym same_ty)
    (runs_as s n (λ st. location_of p (context_of s) st >>= λ l1 st1. value_of a (context_of s) st1 >>= λ w st2. compounded (context_of s) at l1 step w st2 >>= λ z. gives z) (value_of (typed at ty (x.compound p sp step a)) (context_of s)) (((fixed_if (not (is_pure a)) n (place_in (scope_of s) p n)).stmts ++ (value_in (scope_of s) a (past n (fixed_if (not (is_pure a)) n (place_in (scope_of s) p n)).temps)).stmts) ++ assign (fixed_if (not (is_pure a)) n (place_in (scope_of s) p n)).place (computed q.u step (fixed_if (not (is_pure a)) n (place_in (scope_of s) p n)).place (value_in (scope_of s) a (past n (fixed_if (not (is_pure a)) n (place_in (scope_of s) p n)).temps)).value at) ∷ [])
    (λ st. bind_same (location_of p (context_of s) st) (λ l1 st1. value_of a (context_of s) st1 >>= compounded (context_of s) at l1 step) (λ l1 st1. value_of a (context_of s) st1 >>= λ w st2. compounded (context_of s) at l1 step w st2 >>= λ z. gives z)
    (λ l1 st1. bind_same (value_of a (context_of s) st1) (compounded (context_of s) at l1 step) (λ w st2. compounded (context_of s) at l1 step w st2 >>= λ z. gives z) (λ w st2. sym (bind_gives (compounded (context_of s) at l1 step w st2)))))
    (computed_dropped s n q.u (ty_of a) q.operand.u step at (λ l1 st1 z. z) (location_of p (context_of s)) (value_of a (context_of s)) ((fixed_if (not (is_pure a)) n (place_in (scope_of s) p n)).stmts ++ (value_in (scope_of s) a (past n (fixed_if (not (is_pure a)) n (place_in (scope_of s) p n)).temps)).stmts) (fixed_if (not (is_pure a)) n (place_in (scope_of s) p n)).place (value_in (scope_of s) a (past n (fixed_if (not (is_pure a)) n (place_in (scope_of s) p n)).temps)).value k q.computes q.operand.is pr))
