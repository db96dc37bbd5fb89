-- The law of lowering, form by form: choices, assignments and calls, by the laws of the parts.
use Rattle.std.proofs.Common.{◌≡◌, ◌∙◌, ◌≤◌, ◌<◌, ℕ, zero, ◌+◌, pos, refl, ap, sym, subst, arith, Bool, true, false, not, Option, Some, None, List, [], ◌∷◌, ◌++◌, length, append_assoc, Result, Ok, Err, if◌then◌else◌}
use Rattle.std.specs.Prelude.{IsTrue, ◌&&◌, ◌||◌, slice_get, slice_index_or, option_map}
use Rattle.std.proofs.lemmas.Option.{get_or_from_slice_get}
use Rattle.pt_base.specs.declared.int_type.IntType.{IntType}
use Rattle.pt_base.specs.declared.int_type.IntType.TheVariants as i
use Rattle.pt_base.specs.declared.ids.FnId.{FnId}
use Rattle.pt_base.specs.declared.span.Span.{Span}
use Rattle.pt_base.proofs.Booleans.{both_hold_first, both_hold_second, false_not_true, true_not_false}
use Rattle.pt_base.proofs.Lists.{append_nil}
use Rattle.pt_tree.specs.declared.signature.Param.{Param}
use Rattle.pt_tree.specs.declared.signature.Signature.{Signature}
use Rattle.runs.specs.State.{gives, trapped, spent, ◌>>=◌}
use Rattle.typed_tree.specs.declared.types.VarTy.{VarTy}
use Rattle.typed_tree.specs.declared.types.VarTy.TheVariants.{Int, Struct, Array, Pointer}
use Rattle.typed_tree.specs.declared.link.LinkStep.{LinkStep}
use Rattle.typed_tree.specs.declared.link.LogicalOp.{LogicalOp}
use Rattle.typed_tree.specs.ExpressionTree as x
use Rattle.typed_tree.specs.ExpressionTree.{ExprTree, typed, FormTree, ExprTrees, OperandTrees, PlaceTree}
use Rattle.typed_tree.specs.TypeTests.{same_types, is_scalar, is_value}
use Rattle.typed_tree.specs.TypeRules as r
use Rattle.typed_tree.specs.TypeRules.{converts, promoted_value, is_compound, is_arm}
use Rattle.typed_tree.specs.WellFormedExpression as f
use Rattle.typed_tree.specs.WellFormedExpression.{is_typed, form_fits, all_typed, operands_fit, place_fits, ty_of, is_struct, place_type, has_operands, is_object, is_written, place_const, arguments_fit, call_fits, is_main}
use Rattle.block_memory.specs.declared.cell.Cell as core
use Rattle.block_memory.specs.Blocks.{Blocks}
use Rattle.source_meaning.specs.Memory.{number}
use Rattle.source_meaning.specs.State.{State, Outcome}
use Rattle.source_meaning.specs.Values as m
use Rattle.source_meaning.specs.Values.{Value, holds, cell_of, is_true, Location}
use Rattle.source_meaning.specs.Expressions as e
use Rattle.source_meaning.specs.Expressions.{value_of, values_of, location_of, operands_value, type_or_int, store, compounded, counted, step_gives, loaded}
use Rattle.source_soundness.specs.Worlds.{LocationFits}
use Rattle.source_soundness.specs.Laws.{Keeps}
use Rattle.source_soundness.proofs.Soundness.{place_keeps}
use Rattle.typed_tree.proofs.SameTypes.{equal_options}
use Rattle.pt_core.specs.CodeTree as t
use Rattle.pt_core.specs.CodeTree.{StmtTree, assign, expr_trees, call}
use Rattle.pt_core.specs.Types.{type_of}
use Rattle.pt_core.specs.Statements as c
use Rattle.pt_core.specs.Statements.{goes_on}
use Rattle.lowering.specs.Lowered.{Temp, Effects, Lowered, LoweredPlace, Arguments, past, temp, hold, holding, int}
use Rattle.lowering.specs.Operators as lo
use Rattle.lowering.specs.Operators.{unit_of, unit_step}
use Rattle.lowering.specs.Purity.{is_pure}
use Rattle.lowering.specs.Expressions as l
use Rattle.lowering.specs.Expressions.{value_in, form_in, effects_in, form_effects, operands_in, arguments_in, place_in, object_in, started, arm, fixed_if, left_place, value_at, place_effects, given, compounded as lowered_compound}
use Rattle.c_lower_law.proofs.Relations.{Scene, world_of, context_of, scope_of, sizes_in, HasTemps, Kept, Alike, Same, After, below}
use Rattle.c_lower_law.proofs.Expressions.{run_all, cell_asked, place_asked, cells_asked, SameAsked, SameCell, Gives, IsValue, IsPlace, AreArguments, SceneFits}
use Rattle.c_lower_law.proofs.Runs.{bind_bind, bind_gives}
use Rattle.c_lower_law.proofs.Held.{temps_first, temps_rest, temp_there, past_append, own_length, IsNext, Both, pair_of, both}
use Rattle.c_lower_law.proofs.Operators.{PointerType, Computes}
use Rattle.c_lower_law.proofs.Places.{some_same, PlaceLowered, ValueLowered}
use Rattle.c_lower_law.proofs.Fixed.{place_then, fixed_place_type, fixed_runs}
use Rattle.c_lower_law.proofs.Values.{GivesNear, IsNear, nearly, value_settled, Scalar, place_pointer}
use Rattle.c_lower_law.proofs.Choices.{hold_value, choice_near, IsTruth, truth_held, operand_near, next_truth}
use Rattle.c_lower_law.proofs.OperandTypes.{ComputeType, ScalarType, scalar_value_type, scalar_type, not_struct, type_is, compute_type, unit_computes}
use Rattle.c_lower_law.proofs.Shapes.{pure_value, pure_arguments, operands_first}
use Rattle.c_lower_law.proofs.Stores.{OnTemps, step_facts, fixed_on_temps, given_read, given_dropped, computed, computed_read, computed_dropped}
use Rattle.c_lower_law.proofs.Steps.{one, one_runs, bind_same, postfix_near, unit_same}
use Rattle.c_lower_law.proofs.Calls.{call_dropped, call_held}
use Rattle.c_lower_law.proofs.Forms.{next_as, near_as, value_typed, value_cell, settled_as, Runs, RunsNear, effects_settled, runs_then_nothing, runs_near, runs_give, runs_as, fixed_first, fixed_type, past_from, past_one, scalar_expr}
use Rattle.c_lower_law.proofs.FormLaws.{ValueLaw, FormLaw, PlaceLaw, EffectsLaw, IsTruthSoFar}

-- ---- `?:`

-- the temporaries of a choice of values
choice_temps : (n : ℕ) (a f1 : List Temp) (own : Temp) → past n ((a ++ own ∷ []) ++ f1) ≡ past (past n a + 1) f1
choice_temps n a f1 own = past_append n (a ++ own ∷ []) f1 ∙ ap (λ k. past k f1) (past_one n a own)

own_type : (s : Scene) (ty : Option VarTy) (k : ℕ) → slice_get s.core_variables k ≡ Some (type_or_int ty) → PointerType s ty (temp k)
own_type s ty k there elem fixed is = (fixed, get_or_from_slice_get s.core_variables k (type_or_int ty) (Int i.Int) there ∙ ap type_or_int is)

-- an arm, whose value temporary k holds
arm_holds : (s : Scene) (n k : ℕ) (own : VarTy) (a : ExprTree) (ty : Option VarTy) → SceneFits s → length s.names.vars ≤ k → k ≤ n → slice_get s.core_variables k ≡ Some own → ty_of a ≡ ty → ValueLowered s (ty_of a) n (value_of a (context_of s)) (value_in (scope_of s) a n) →
    IsNext s (SameCell ty) k (value_of a (context_of s)) (arm k (value_in (scope_of s) a n)) (cell_asked s (temp k))
arm_holds s n k own a ty fits far le there is v =
    next_as s (SameCell ty) k (λ st. value_of a (context_of s) st >>= λ w. gives w) (value_of a (context_of s)) (arm k (value_in (scope_of s) a n)) (cell_asked s (temp k)) (λ st. sym (bind_gives (value_of a (context_of s) st)))
    (hold_value s n k k own (SameCell ty) (value_of a (context_of s)) (value_in (scope_of s) a n).stmts (value_in (scope_of s) a n).value fits far le (omega arith) there
    (value_cell s n (ty_of a) ty (value_of a (context_of s)) (value_in (scope_of s) a n).stmts (cell_asked s (value_in (scope_of s) a n).value) is v.runs))

pub choice_law : (a b d : ExprTree) → ValueLaw a → ValueLaw b → ValueLaw d → FormLaw (x.choice a b d)
choice_law a b d la lb ld at ty s n k h ns from temps =
    let test = both_hold_first (is_typed s.names a && is_scalar (ty_of a)) ((is_typed s.names b && same_types (ty_of b) ty) && ((is_typed s.names d && same_types (ty_of d) ty) && is_arm ty)) h in
    let arms = both_hold_second (is_typed s.names a && is_scalar (ty_of a)) ((is_typed s.names b && same_types (ty_of b) ty) && ((is_typed s.names d && same_types (ty_of d) ty) && is_arm ty)) h in
    let first = both_hold_first (is_typed s.names b && same_types (ty_of b) ty) ((is_typed s.names d && same_types (ty_of d) ty) && is_arm ty) arms in
    let second = both_hold_first (is_typed s.names d && same_types (ty_of d) ty) (is_arm ty) (both_hold_second (is_typed s.names b && same_types (ty_of b) ty) ((is_typed s.names d && same_types (ty_of d) ty) && is_arm ty) arms) in
    let bis = equal_options (ty_of b) ty (both_hold_second (is_typed s.names b) (same_types (ty_of b) ty) first) in
    let dis = equal_options (ty_of d) ty (both_hold_second (is_typed s.names d) (same_types (ty_of d) ty) second) in
    let st = scalar_type (ty_of a) (both_hold_second (is_typed s.names a) (is_scalar (ty_of a)) test) in
    let sc = scalar_expr a st in
    let va = value_in (scope_of s) a n in
    let j : ℕ = past n (value_in (scope_of s) a n).temps in
    let own : Temp = holding (type_or_int ty) (typed at ty (x.choice a b d)) in
    let t3 = temps_first s.core_variables n (((value_in (scope_of s) a n).temps ++ holding (type_or_int ty) (typed at ty (x.choice a b d)) ∷ []) ++ (value_in (scope_of s) b (past n (value_in (scope_of s) a n).temps + 1)).temps) (value_in (scope_of s) d (past (past n (value_in (scope_of s) a n).temps + 1) (value_in (scope_of s) b (past n (value_in (scope_of s) a n).temps + 1)).temps)).temps temps in
    let t2 = temps_first s.core_variables n ((value_in (scope_of s) a n).temps ++ holding (type_or_int ty) (typed at ty (x.choice a b d)) ∷ []) (value_in (scope_of s) b (past n (value_in (scope_of s) a n).temps + 1)).temps t3 in
    let t1 = temps_first s.core_variables n (value_in (scope_of s) a n).temps (holding (type_or_int ty) (typed at ty (x.choice a b d)) ∷ []) t2 in
    let there : slice_get s.core_variables (past n (value_in (scope_of s) a n).temps) ≡ Some (type_or_int ty) = temp_there s.core_variables n (value_in (scope_of s) a n).temps (holding (type_or_int ty) (typed at ty (x.choice a b d))) [] t2 in
    let tb = subst (λ q. HasTemps s.core_variables q (value_in (scope_of s) b (past n (value_in (scope_of s) a n).temps + 1)).temps) (past_one n (value_in (scope_of s) a n).temps (holding (type_or_int ty) (typed at ty (x.choice a b d))))
    (temps_rest s.core_variables n ((value_in (scope_of s) a n).temps ++ holding (type_or_int ty) (typed at ty (x.choice a b d)) ∷ []) (value_in (scope_of s) b (past n (value_in (scope_of s) a n).temps + 1)).temps t3) in
    let td = subst (λ q. HasTemps s.core_variables q (value_in (scope_of s) d (past (past n (value_in (scope_of s) a n).temps + 1) (value_in (scope_of s) b (past n (value_in (scope_of s) a n).temps + 1)).temps)).temps)
    (choice_temps n (value_in (scope_of s) a n).temps (value_in (scope_of s) b (past n (value_in (scope_of s) a n).temps + 1)).temps (holding (type_or_int ty) (typed at ty (x.choice a b d))))
    (temps_rest s.core_variables n (((value_in (scope_of s) a n).temps ++ holding (type_or_int ty) (typed at ty (x.choice a b d)) ∷ []) ++ (value_in (scope_of s) b (past n (value_in (scope_of s) a n).temps + 1)).temps) (value_in (scope_of s) d (past (past n (value_in (scope_of s) a n).temps + 1) (value_in (scope_of s) b (past n (value_in (scope_of s) a n).temps + 1)).temps)).temps temps) in
    let wa = la s n k (both_hold_first (is_typed s.names a) (is_scalar (ty_of a)) test) (not_struct (ty_of a) st) from t1 in
    let wb = lb s (past n (value_in (scope_of s) a n).temps + 1) k (both_hold_first (is_typed s.names b) (same_types (ty_of b) ty) first) (ap is_struct bis ∙ ns) (omega (arith, from)) tb in
    let wd = ld s (past (past n (value_in (scope_of s) a n).temps + 1) (value_in (scope_of s) b (past n (value_in (scope_of s) a n).temps + 1)).temps) k (both_hold_first (is_typed s.names d) (same_types (ty_of d) ty) second) (ap is_struct dis ∙ ns) (omega (arith, from)) td in
    record {
      type = own_type s ty (past n (value_in (scope_of s) a n).temps) there;
      runs = value_settled s (typed at ty (x.choice a b d)) n (form_in (scope_of s) (x.choice a b d) at ty n).stmts (cell_asked s (temp (past n (value_in (scope_of s) a n).temps))) k h
          (nearly s (SameCell ty) n (value_of (typed at ty (x.choice a b d)) (context_of s)) (form_in (scope_of s) (x.choice a b d) at ty n).stmts (cell_asked s (temp (past n (value_in (scope_of s) a n).temps)))
          (choice_near s n (past n (value_in (scope_of s) a n).temps) (e.type_of a) ty (past n (value_in (scope_of s) a n).temps) (value_of a (context_of s)) (value_of b (context_of s)) (value_of d (context_of s)) (value_in (scope_of s) a n).stmts
          (arm (past n (value_in (scope_of s) a n).temps) (value_in (scope_of s) b (past n (value_in (scope_of s) a n).temps + 1))) (arm (past n (value_in (scope_of s) a n).temps) (value_in (scope_of s) d (past (past n (value_in (scope_of s) a n).temps + 1) (value_in (scope_of s) b (past n (value_in (scope_of s) a n).temps + 1)).temps)))
          (value_in (scope_of s) a n).value sc.scalar (omega arith)
          (value_typed s n (ty_of a) (Some (e.type_of a)) (value_of a (context_of s)) (value_in (scope_of s) a n).stmts (cell_asked s (value_in (scope_of s) a n).value) sc.is wa.runs)
          (arm_holds s (past n (value_in (scope_of s) a n).temps + 1) (past n (value_in (scope_of s) a n).temps) (type_or_int ty) b ty k (past_from (length s.names.vars) n (value_in (scope_of s) a n).temps from) (omega arith) there bis wb)
          (arm_holds s (past (past n (value_in (scope_of s) a n).temps + 1) (value_in (scope_of s) b (past n (value_in (scope_of s) a n).temps + 1)).temps) (past n (value_in (scope_of s) a n).temps) (type_or_int ty) d ty k (past_from (length s.names.vars) n (value_in (scope_of s) a n).temps from) (omega arith) there dis wd)));
    }

-- ---- assignments

pub written_object : (s : Scene) (p : PlaceTree) → IsTrue (is_written s.names p) → IsTrue (is_object p)
written_object s p h = both_hold_first (is_object p) (not (place_const s.names p)) h

pub own_from : (s : Scene) (n : ℕ) → SceneFits s → length s.names.vars ≤ n → length (s.frames s.frame.depth) ≤ n
own_from s n k from = let own = own_length s k in omega (arith, own, from)

pub lower_plain : (u : VarTy) (ty : Option VarTy) → ty ≡ Some u → Scalar u → l.is_struct ty ≡ false
lower_plain u ty is h = ap l.is_struct is ∙ of_scalar u h
  where
    of_scalar : (u : VarTy) → Scalar u → l.is_struct (Some u) ≡ false
    of_scalar (Int z) h = refl
    of_scalar (Pointer elem fixed) h = refl
    of_scalar (Struct n) h = absurd h
    of_scalar (Array elem count) h = absurd h

-- a place and a value behind it, where something is used of both
abbrev pub Paired : Scene → ℕ → VarTy → Option VarTy → Bool → PlaceTree → ExprTree → Type 0
Paired s n u ity fix p a =
    let to = fixed_if fix n (place_in (scope_of s) p n) in
    let v = value_in (scope_of s) a (past n to.temps) in
    IsNext s (Both (IsPlace s u) (IsValue s ity)) n (pair_of (location_of p (context_of s)) (value_of a (context_of s))) (to.stmts ++ v.stmts) (both (place_asked s to.place) (cell_asked s v.value))

pub paired : (s : Scene) (n : ℕ) (u : VarTy) (fix : Bool) (p : PlaceTree) (a : ExprTree) → SceneFits s → length s.names.vars ≤ n → (fix ≡ false → is_pure a ≡ true) → IsTrue (is_object p) → IsTrue (is_typed s.names a) → is_struct (ty_of a) ≡ false →
    HasTemps s.core_variables n ((fixed_if fix n (place_in (scope_of s) p n)).temps ++ (value_in (scope_of s) a (past n (fixed_if fix n (place_in (scope_of s) p n)).temps)).temps) → PlaceLowered s u n (is_object p) (location_of p (context_of s)) (place_in (scope_of s) p n) → ValueLaw a →
    Paired s n u (ty_of a) fix p a
paired s n u fix p a k from fixes can h ns temps pl law =
    let tt1 = temps_first s.core_variables n (fixed_if fix n (place_in (scope_of s) p n)).temps (value_in (scope_of s) a (past n (fixed_if fix n (place_in (scope_of s) p n)).temps)).temps temps in
    let tt2 = temps_rest s.core_variables n (fixed_if fix n (place_in (scope_of s) p n)).temps (value_in (scope_of s) a (past n (fixed_if fix n (place_in (scope_of s) p n)).temps)).temps temps in
    let v = law s (past n (fixed_if fix n (place_in (scope_of s) p n)).temps) k h ns (past_from (length s.names.vars) n (fixed_if fix n (place_in (scope_of s) p n)).temps from) tt2 in
    place_then s n u (is_object p) fix (place_in (scope_of s) p n) (IsValue s (ty_of a)) (location_of p (context_of s)) (value_of a (context_of s)) (value_in (scope_of s) a (past n (fixed_if fix n (place_in (scope_of s) p n)).temps)).stmts (cell_asked s (value_in (scope_of s) a (past n (fixed_if fix n (place_in (scope_of s) p n)).temps)).value)
    k from tt1 can pl v.runs (λ e1. (pure_value a (scope_of s) (past n (fixed_if fix n (place_in (scope_of s) p n)).temps) (fixes e1)).stmts_none)

pub second_typed : (s : Scene) (n : ℕ) (u : VarTy) (a z : Option VarTy) (source : State → Outcome (Location × Value)) (stmts : List StmtTree) (ask : _) → a ≡ z → IsNext s (Both (IsPlace s u) (IsValue s a)) n source stmts ask → IsNext s (Both (IsPlace s u) (IsValue s z)) n source stmts ask
second_typed s n u a z source stmts ask is h = subst (λ q. IsNext s (Both (IsPlace s u) (IsValue s q)) n source stmts ask) is h

pub assign_law : (p : PlaceTree) (a : ExprTree) → PlaceLaw p → ValueLaw a → FormLaw (x.assign p a)
assign_law p a lp la at ty s n k h ns from temps =
    let there = both_hold_first (place_fits s.names p) (is_written s.names p) (both_hold_first (place_fits s.names p && is_written s.names p) ((same_types (place_type s.names p) ty && is_value ty) && (is_typed s.names a && same_types (ty_of a) ty)) h) in
    let can = written_object s p (both_hold_second (place_fits s.names p) (is_written s.names p) (both_hold_first (place_fits s.names p && is_written s.names p) ((same_types (place_type s.names p) ty && is_value ty) && (is_typed s.names a && same_types (ty_of a) ty)) h)) in
    let rest = both_hold_second (place_fits s.names p && is_written s.names p) ((same_types (place_type s.names p) ty && is_value ty) && (is_typed s.names a && same_types (ty_of a) ty)) h in
    let own = both_hold_first (same_types (place_type s.names p) ty && is_value ty) (is_typed s.names a && same_types (ty_of a) ty) rest in
    let of = both_hold_second (same_types (place_type s.names p) ty && is_value ty) (is_typed s.names a && same_types (ty_of a) ty) rest in
    let u = scalar_value_type ty (both_hold_second (same_types (place_type s.names p) ty) (is_value ty) own) ns in
    let ais = equal_options (ty_of a) ty (both_hold_second (is_typed s.names a) (same_types (ty_of a) ty) of) in
    let plain = lower_plain u.u ty u.is u.scalar in
    let to = fixed_if true n (place_in (scope_of s) p n) in
    let ts = subst (λ z. HasTemps s.core_variables n (l.assigned z (fixed_if true n (place_in (scope_of s) p n)) (object_in (scope_of s) a (past n (fixed_if true n (place_in (scope_of s) p n)).temps)) (value_in (scope_of s) a (past n (fixed_if true n (place_in (scope_of s) p n)).temps))).temps) plain temps in
    let pl = lp s n u.u k there (equal_options (place_type s.names p) ty (both_hold_first (same_types (place_type s.names p) ty) (is_value ty) own) ∙ u.is) from
    (fixed_first s.core_variables n true (place_in (scope_of s) p n) (temps_first s.core_variables n (fixed_if true n (place_in (scope_of s) p n)).temps (value_in (scope_of s) a (past n (fixed_if true n (place_in (scope_of s) p n)).temps)).temps ts)) in
    let pair = second_typed s n u.u (ty_of a) (Some u.u) (pair_of (location_of p (context_of s)) (value_of a (context_of s))) ((fixed_if true n (place_in (scope_of s) p n)).stmts ++ (value_in (scope_of s) a (past n (fixed_if true n (place_in (scope_of s) p n)).temps)).stmts)
    (both (place_asked s (fixed_if true n (place_in (scope_of s) p n)).place) (cell_asked s (value_in (scope_of s) a (past n (fixed_if true n (place_in (scope_of s) p n)).temps)).value)) (ais ∙ u.is)
    (paired s n u.u true p a k from true_not_false can (both_hold_first (is_typed s.names a) (same_types (ty_of a) ty) of) (ap is_struct ais ∙ ns) ts pl la) in
    subst (λ z. ValueLowered s ty n (value_of (typed at ty (x.assign p a)) (context_of s)) (value_at (l.assigned z (fixed_if true n (place_in (scope_of s) p n)) (object_in (scope_of s) a (past n (fixed_if true n (place_in (scope_of s) p n)).temps)) (value_in (scope_of s) a (past n (fixed_if true n (place_in (scope_of s) p n)).temps))))) (sym plain)
    (record {
      type = λ elem fixed e1. place_pointer s u.u (fixed_if true n (place_in (scope_of s) p n)).place (fixed_place_type s n u.u u.u (place_in (scope_of s) p n) (location_of p (context_of s)) (temps_first s.core_variables n (fixed_if true n (place_in (scope_of s) p n)).temps (value_in (scope_of s) a (past n (fixed_if true n (place_in (scope_of s) p n)).temps)).temps ts) pl.type (pl.stage can)) elem fixed (sym u.is ∙ e1);
      runs = settled_as s (typed at ty (x.assign p a)) u.u n (((fixed_if true n (place_in (scope_of s) p n)).stmts ++ (value_in (scope_of s) a (past n (fixed_if true n (place_in (scope_of s) p n)).temps)).stmts) ++ assign (fixed_if true n (place_in (scope_of s) p n)).place (value_in (scope_of s) a (past n (fixed_if true n (place_in (scope_of s) p n)).temps)).value ∷ []) (cell_asked s (t.read (fixed_if true n (place_in (scope_of s) p n)).place)) k h u.is
          (given_read s n (past n (fixed_if true n (place_in (scope_of s) p n)).temps) u.u (location_of p (context_of s)) (value_of a (context_of s)) ((fixed_if true n (place_in (scope_of s) p n)).stmts ++ (value_in (scope_of s) a (past n (fixed_if true n (place_in (scope_of s) p n)).temps)).stmts) (fixed_if true n (place_in (scope_of s) p n)).place (value_in (scope_of s) a (past n (fixed_if true n (place_in (scope_of s) p n)).temps)).value k u.scalar
          (fixed_on_temps s n u.u (location_of p (context_of s)) (place_in (scope_of s) p n) (own_from s n k from) (pl.stage can)) pair);
    })

-- ---- `op=`

pub record CompoundFacts (s : Scene) (p : PlaceTree) (step : LinkStep) (a : ExprTree) (ty : Option VarTy) : Type 0 where
  pub there : IsTrue (place_fits s.names p)
  pub can : IsTrue (is_object p)
  pub place_is : place_type s.names p ≡ ty
  pub typed_a : IsTrue (is_typed s.names a)
  pub u : VarTy
  pub is : ty ≡ Some u
  pub scalar : Scalar u
  pub computes : Computes u step
  pub operand : ScalarType (ty_of a)

compound_types : (ty : Option VarTy) (step : LinkStep) (z : Option VarTy) → is_compound step ≡ true → converts (r.stepped (promoted_value ty) step z) ty ≡ true → (u : VarTy) × (ty ≡ Some u) × ComputeType u step z
compound_types (Some u) step z h k = (u, refl, compute_type u step z h k)
compound_types None step z h k = false_not_true (no_conversion (r.stepped (promoted_value None) step z) k)
  where
    no_conversion : (u : Option VarTy) → converts u None ≡ true → false ≡ true
    no_conversion None h = h
    no_conversion (Some (Int t1)) h = h
    no_conversion (Some (Struct j)) h = h
    no_conversion (Some (Array elem count)) h = h
    no_conversion (Some (Pointer elem fixed)) h = h

scalar_of : (s : Scene) (u : VarTy) (step : LinkStep) (e1 : t.ExprTree) → Computes u step → Scalar u
scalar_of s u step e1 h = (step_facts s u step e1 h).scalar

pub compound_facts : (s : Scene) (p : PlaceTree) (sp : Span) (step : LinkStep) (a : ExprTree) (ty : Option VarTy) → IsTrue (form_fits s.names (x.compound p sp step a) ty) → CompoundFacts s p step a ty
compound_facts s p sp step a ty h =
    let whole = both_hold_first (place_fits s.names p && is_written s.names p) (same_types (place_type s.names p) ty && (is_typed s.names a && (is_compound step && converts (r.stepped (promoted_value ty) step (ty_of a)) ty))) h in
    let rest = both_hold_second (place_fits s.names p && is_written s.names p) (same_types (place_type s.names p) ty && (is_typed s.names a && (is_compound step && converts (r.stepped (promoted_value ty) step (ty_of a)) ty))) h in
    let of = both_hold_second (same_types (place_type s.names p) ty) (is_typed s.names a && (is_compound step && converts (r.stepped (promoted_value ty) step (ty_of a)) ty)) rest in
    let both1 = both_hold_second (is_typed s.names a) (is_compound step && converts (r.stepped (promoted_value ty) step (ty_of a)) ty) of in
    let k = compound_types ty step (ty_of a) (both_hold_first (is_compound step) (converts (r.stepped (promoted_value ty) step (ty_of a)) ty) both1) (both_hold_second (is_compound step) (converts (r.stepped (promoted_value ty) step (ty_of a)) ty) both1) in
    record {
      there = both_hold_first (place_fits s.names p) (is_written s.names p) whole;
      can = written_object s p (both_hold_second (place_fits s.names p) (is_written s.names p) whole);
      place_is = equal_options (place_type s.names p) ty (both_hold_first (same_types (place_type s.names p) ty) (is_typed s.names a && (is_compound step && converts (r.stepped (promoted_value ty) step (ty_of a)) ty)) rest);
      typed_a = both_hold_first (is_typed s.names a) (is_compound step && converts (r.stepped (promoted_value ty) step (ty_of a)) ty) of;
      u = k.0;
      is = k.1;
      scalar = scalar_of s k.0 step (t.constant i.Int (pos 0)) k.2.computes;
      computes = k.2.computes;
      operand = k.2.operand;
    }

pub compound_law : (p : PlaceTree) (sp : Span) (step : LinkStep) (a : ExprTree) → PlaceLaw p → ValueLaw a → FormLaw (x.compound p sp step a)
compound_law p sp step a lp la at ty s n k h ns from temps =
    let q = compound_facts s p sp step a ty h in
    let pl = lp s n q.u k q.there (q.place_is ∙ q.is) from
    (fixed_first s.core_variables n true (place_in (scope_of s) p n) (temps_first s.core_variables n (fixed_if true n (place_in (scope_of s) p n)).temps (value_in (scope_of s) a (past n (fixed_if true n (place_in (scope_of s) p n)).temps)).temps temps)) in
    let pair = paired s n q.u true p a k from true_not_false q.can q.typed_a (not_struct (ty_of a) q.operand) temps pl la in
    let same_ty : (fixed_if true n (place_in (scope_of s) p n)).ty ≡ q.u = fixed_type n true (place_in (scope_of s) p n) ∙ pl.named in
    record {
      type = λ elem fixed e1. place_pointer s q.u (fixed_if true n (place_in (scope_of s) p n)).place (fixed_place_type s n q.u q.u (place_in (scope_of s) p n) (location_of p (context_of s)) (temps_first s.core_variables n (fixed_if true n (place_in (scope_of s) p n)).temps (value_in (scope_of s) a (past n (fixed_if true n (place_in (scope_of s) p n)).temps)).temps temps) pl.type (pl.stage q.can)) elem fixed (sym q.is ∙ e1);
      runs = settled_as s (typed at ty (x.compound p sp step a)) q.u n (form_in (scope_of s) (x.compound p sp step a) at ty n).stmts (cell_asked s (t.read (fixed_if true n (place_in (scope_of s) p n)).place)) k h q.is
          (subst (λ z. IsNear s (SameCell (Some q.u)) n (value_of (typed at ty (x.compound p sp step a)) (context_of s)) (((fixed_if true n (place_in (scope_of s) p n)).stmts ++ (value_in (scope_of s) a (past n (fixed_if true n (place_in (scope_of s) p n)).temps)).stmts) ++ assign (fixed_if true n (place_in (scope_of s) p n)).place (computed z step (fixed_if true n (place_in (scope_of s) p n)).place (value_in (scope_of s) a (past n (fixed_if true n (place_in (scope_of s) p n)).temps)).value at) ∷ []) (cell_asked s (t.read (fixed_if true n (place_in (scope_of s) p n)).place))) (sym same_ty)
          (computed_read s n (past n (fixed_if true n (place_in (scope_of s) p n)).temps) q.u (ty_of a) q.operand.u step at (location_of p (context_of s)) (value_of a (context_of s)) ((fixed_if true n (place_in (scope_of s) p n)).stmts ++ (value_in (scope_of s) a (past n (fixed_if true n (place_in (scope_of s) p n)).temps)).stmts) (fixed_if true n (place_in (scope_of s) p n)).place (value_in (scope_of s) a (past n (fixed_if true n (place_in (scope_of s) p n)).temps)).value k q.computes
          (fixed_on_temps s n q.u (location_of p (context_of s)) (place_in (scope_of s) p n) (own_from s n k from) (pl.stage q.can)) q.operand.is pair));
    }

-- ---- `++` and `--`

pub record StepKinds (s : Scene) (p : PlaceTree) (ty : Option VarTy) : Type 0 where
  pub there : IsTrue (place_fits s.names p)
  pub can : IsTrue (is_object p)
  pub place_is : place_type s.names p ≡ ty
  pub scalar : ScalarType ty

pub step_kinds : (s : Scene) (p : PlaceTree) (sp : Span) (back postfix : Bool) (ty : Option VarTy) → IsTrue (form_fits s.names (x.step p sp back postfix) ty) → StepKinds s p ty
step_kinds s p sp back postfix ty h =
    let whole = both_hold_first (place_fits s.names p && is_written s.names p) (same_types (place_type s.names p) ty && is_scalar ty) h in
    let rest = both_hold_second (place_fits s.names p && is_written s.names p) (same_types (place_type s.names p) ty && is_scalar ty) h in
    record {
      there = both_hold_first (place_fits s.names p) (is_written s.names p) whole;
      can = written_object s p (both_hold_second (place_fits s.names p) (is_written s.names p) whole);
      place_is = equal_options (place_type s.names p) ty (both_hold_first (same_types (place_type s.names p) ty) (is_scalar ty) rest);
      scalar = scalar_type ty (both_hold_second (same_types (place_type s.names p) ty) (is_scalar ty) rest);
    }

-- what is known of what a part comes to
bind_known : {A B : Type 0} (s : Scene) (T : A → Type 0) (o : Outcome A) (f1 g1 : A → State → Outcome B) → Keeps (world_of s) T o → ((a : A) (st : State) → T a → f1 a st ≡ g1 a st) → (o >>= f1) ≡ (o >>= g1)
bind_known s T (gives a st) f1 g1 k e1 = e1 a st k.0
bind_known s T (trapped trap span st) f1 g1 k e1 = refl
bind_known s T (spent st) f1 g1 k e1 = refl

-- the source steps by 1
counted_one : (s : Scene) (u : VarTy) (sp : Span) (back : Bool) (at : Location) (st : State) → u ≡ at.ty → counted (context_of s) sp back false at st ≡ (one st >>= compounded (context_of s) sp at (unit_step u back))
counted_one s u sp back at st is =
    bind_gives (compounded (context_of s) sp at (m.unit_step at.ty back) (holds (number (pos 1))) st)
    ∙ ap (λ z. compounded (context_of s) sp at (m.unit_step z back) (holds (number (pos 1))) st) (sym is) ∙ ap (λ z. compounded (context_of s) sp at z (holds (number (pos 1))) st) (unit_same u back)

counted_dropped : (s : Scene) (u : VarTy) (sp : Span) (back postfix : Bool) (at : Location) (st : State) → u ≡ at.ty →
    counted (context_of s) sp back postfix at st ≡ (one st >>= λ w st2. compounded (context_of s) sp at (unit_step u back) w st2 >>= λ z. gives (step_gives postfix (loaded (context_of s) at at.ty st2) z))
counted_dropped s u sp back postfix at st is =
    ap (λ z. compounded (context_of s) sp at (m.unit_step z back) (holds (number (pos 1))) st >>= λ w. gives (step_gives postfix (loaded (context_of s) at at.ty st) w)) (sym is)
    ∙ ap (λ z. compounded (context_of s) sp at z (holds (number (pos 1))) st >>= λ w. gives (step_gives postfix (loaded (context_of s) at at.ty st) w)) (unit_same u back)

one_paired : (s : Scene) (n : ℕ) (u : VarTy) (can fix : Bool) (p : LoweredPlace) (source : State → Outcome Location) → SceneFits s → length s.names.vars ≤ n → HasTemps s.core_variables n (fixed_if fix n p).temps → IsTrue can → PlaceLowered s u n can source p → Scalar u →
    IsNext s (Both (IsPlace s u) (IsValue s (Some (Int i.Int)))) n (pair_of source one) ((fixed_if fix n p).stmts ++ []) (both (place_asked s (fixed_if fix n p).place) (cell_asked s (unit_of u)))
one_paired s n u can fix p source k from temps ok h scalar =
    place_then s n u can fix p (IsValue s (Some (Int i.Int))) source one [] (cell_asked s (unit_of u)) k from temps ok h (one_runs s (past n (fixed_if fix n p).temps) u scalar) (λ e1. refl)

-- before its operand
prefix_near : (s : Scene) (n : ℕ) (u : VarTy) (back : Bool) (at : Span) (p : PlaceTree) → SceneFits s → length s.names.vars ≤ n → IsTrue (place_fits s.names p) → place_type s.names p ≡ Some u → IsTrue (is_object p) → Scalar u → HasTemps s.core_variables n (fixed_if true n (place_in (scope_of s) p n)).temps →
    PlaceLowered s u n (is_object p) (location_of p (context_of s)) (place_in (scope_of s) p n) →
    IsNear s (SameCell (Some u)) n (λ st. location_of p (context_of s) st >>= counted (context_of s) at back false)
    (((fixed_if true n (place_in (scope_of s) p n)).stmts ++ []) ++ assign (fixed_if true n (place_in (scope_of s) p n)).place (computed u (unit_step u back) (fixed_if true n (place_in (scope_of s) p n)).place (unit_of u) at) ∷ []) (cell_asked s (t.read (fixed_if true n (place_in (scope_of s) p n)).place))
prefix_near s n u back at p k from there is can scalar temps pl st st' al =
    subst (λ o. SameAsked (Kept s (below n) st'.memory) (GivesNear s (below n) st'.memory (SameCell (Some u))) (cell_asked s (t.read (fixed_if true n (place_in (scope_of s) p n)).place)) o
    (run_all s (((fixed_if true n (place_in (scope_of s) p n)).stmts ++ []) ++ assign (fixed_if true n (place_in (scope_of s) p n)).place (computed u (unit_step u back) (fixed_if true n (place_in (scope_of s) p n)).place (unit_of u) at) ∷ []) st'))
    (sym (bind_known s (LocationFits (world_of s) (Some u)) (location_of p (context_of s) st) (counted (context_of s) at back false) (λ l1 st1. one st1 >>= compounded (context_of s) at l1 (unit_step u back)) (place_keeps p (world_of s) s.names (context_of s) st u k.fits there is al.fits)
    (λ l1 st1 t1. counted_one s u at back l1 st1 (some_same u l1.ty t1.has))))
    (computed_read s n (past n (fixed_if true n (place_in (scope_of s) p n)).temps) u (Some (Int i.Int)) (Int i.Int) (unit_step u back) at (location_of p (context_of s)) one ((fixed_if true n (place_in (scope_of s) p n)).stmts ++ []) (fixed_if true n (place_in (scope_of s) p n)).place (unit_of u) k (unit_computes u back scalar)
    (fixed_on_temps s n u (location_of p (context_of s)) (place_in (scope_of s) p n) (own_from s n k from) (pl.stage can)) refl
    (one_paired s n u (is_object p) true (place_in (scope_of s) p n) (location_of p (context_of s)) k from temps can pl scalar) st st' al)

-- dropped
pub step_dropped : (s : Scene) (n : ℕ) (u : VarTy) (back postfix : Bool) (at : Span) (p : PlaceTree) → SceneFits s → length s.names.vars ≤ n → IsTrue (place_fits s.names p) → place_type s.names p ≡ Some u → IsTrue (is_object p) → Scalar u → HasTemps s.core_variables n (place_in (scope_of s) p n).temps →
    PlaceLowered s u n (is_object p) (location_of p (context_of s)) (place_in (scope_of s) p n) →
    RunsNear s n (λ st. location_of p (context_of s) st >>= counted (context_of s) at back postfix) (((place_in (scope_of s) p n).stmts ++ []) ++ assign (place_in (scope_of s) p n).place (computed u (unit_step u back) (place_in (scope_of s) p n).place (unit_of u) at) ∷ [])
step_dropped s n u back postfix at p k from there is can scalar temps pl st st' al =
    subst (λ o. Same (GivesNear s (below n) st'.memory (λ w flow. flow ≡ goes_on)) o
    (run_all s (((place_in (scope_of s) p n).stmts ++ []) ++ assign (place_in (scope_of s) p n).place (computed u (unit_step u back) (place_in (scope_of s) p n).place (unit_of u) at) ∷ []) st'))
    (sym (bind_known s (LocationFits (world_of s) (Some u)) (location_of p (context_of s) st) (counted (context_of s) at back postfix)
    (λ l1 st1. one st1 >>= λ w st2. compounded (context_of s) at l1 (unit_step u back) w st2 >>= λ z. gives (step_gives postfix (loaded (context_of s) l1 l1.ty st2) z)) (place_keeps p (world_of s) s.names (context_of s) st u k.fits there is al.fits)
    (λ l1 st1 t1. counted_dropped s u at back postfix l1 st1 (some_same u l1.ty t1.has))))
    (computed_dropped s n u (Some (Int i.Int)) (Int i.Int) (unit_step u back) at (λ l1 st1 z. step_gives postfix (loaded (context_of s) l1 l1.ty st1) z) (location_of p (context_of s)) one ((place_in (scope_of s) p n).stmts ++ []) (place_in (scope_of s) p n).place (unit_of u) k (unit_computes u back scalar) refl
    (one_paired s n u (is_object p) false (place_in (scope_of s) p n) (location_of p (context_of s)) k from temps can pl scalar) st st' al)

-- a list of statements, otherwise bracketed
postfix_list : (xs : List StmtTree) (h a : StmtTree) → ((xs ++ h ∷ []) ++ []) ++ a ∷ [] ≡ xs ++ (h ∷ a ∷ [])
postfix_list xs h a = ap (λ ys. ys ++ a ∷ []) (append_nil (xs ++ h ∷ [])) ∙ append_assoc xs (h ∷ []) (a ∷ [])

pub step_law : (p : PlaceTree) (sp : Span) (back postfix : Bool) → PlaceLaw p → FormLaw (x.step p sp back postfix)
step_law p sp back false lp at ty s n k h ns from temps =
    let q = step_kinds s p sp back false ty h in
    let ts = temps_first s.core_variables n (fixed_if true n (place_in (scope_of s) p n)).temps [] temps in
    let pl = lp s n q.scalar.u k q.there (q.place_is ∙ q.scalar.is) from (fixed_first s.core_variables n true (place_in (scope_of s) p n) ts) in
    let same_ty : (fixed_if true n (place_in (scope_of s) p n)).ty ≡ q.scalar.u = fixed_type n true (place_in (scope_of s) p n) ∙ pl.named in
    record {
      type = λ elem fixed e1. place_pointer s q.scalar.u (fixed_if true n (place_in (scope_of s) p n)).place (fixed_place_type s n q.scalar.u q.scalar.u (place_in (scope_of s) p n) (location_of p (context_of s)) ts pl.type (pl.stage q.can)) elem fixed (sym q.scalar.is ∙ e1);
      runs = settled_as s (typed at ty (x.step p sp back false)) q.scalar.u n (form_in (scope_of s) (x.step p sp back false) at ty n).stmts (cell_asked s (t.read (fixed_if true n (place_in (scope_of s) p n)).place)) k h q.scalar.is
          (subst (λ z. IsNear s (SameCell (Some q.scalar.u)) n (value_of (typed at ty (x.step p sp back false)) (context_of s)) (((fixed_if true n (place_in (scope_of s) p n)).stmts ++ []) ++ assign (fixed_if true n (place_in (scope_of s) p n)).place (computed z (unit_step z back) (fixed_if true n (place_in (scope_of s) p n)).place (unit_of z) at) ∷ []) (cell_asked s (t.read (fixed_if true n (place_in (scope_of s) p n)).place))) (sym same_ty)
          (prefix_near s n q.scalar.u back at p k from q.there (q.place_is ∙ q.scalar.is) q.can q.scalar.scalar ts pl));
    }
step_law p sp back true lp at ty s n k h ns from temps =
    let q = step_kinds s p sp back true ty h in
    let x1 : Temp = holding (fixed_if true n (place_in (scope_of s) p n)).ty (typed sp (Some (fixed_if true n (place_in (scope_of s) p n)).ty) (x.read p)) in
    let t0 = temps_first s.core_variables n ((fixed_if true n (place_in (scope_of s) p n)).temps ++ holding (fixed_if true n (place_in (scope_of s) p n)).ty (typed sp (Some (fixed_if true n (place_in (scope_of s) p n)).ty) (x.read p)) ∷ []) [] temps in
    let ts = temps_first s.core_variables n (fixed_if true n (place_in (scope_of s) p n)).temps (holding (fixed_if true n (place_in (scope_of s) p n)).ty (typed sp (Some (fixed_if true n (place_in (scope_of s) p n)).ty) (x.read p)) ∷ []) t0 in
    let there = temp_there s.core_variables n (fixed_if true n (place_in (scope_of s) p n)).temps (holding (fixed_if true n (place_in (scope_of s) p n)).ty (typed sp (Some (fixed_if true n (place_in (scope_of s) p n)).ty) (x.read p))) [] t0 in
    let pl = lp s n q.scalar.u k q.there (q.place_is ∙ q.scalar.is) from (fixed_first s.core_variables n true (place_in (scope_of s) p n) ts) in
    let same_ty : (fixed_if true n (place_in (scope_of s) p n)).ty ≡ q.scalar.u = fixed_type n true (place_in (scope_of s) p n) ∙ pl.named in
    record {
      type = λ elem fixed e1. (fixed, get_or_from_slice_get s.core_variables (past n (fixed_if true n (place_in (scope_of s) p n)).temps) (fixed_if true n (place_in (scope_of s) p n)).ty (Int i.Int) there ∙ same_ty ∙ some_same q.scalar.u (Pointer elem fixed) (sym q.scalar.is ∙ e1));
      runs = settled_as s (typed at ty (x.step p sp back true)) q.scalar.u n (form_in (scope_of s) (x.step p sp back true) at ty n).stmts (cell_asked s (temp (past n (fixed_if true n (place_in (scope_of s) p n)).temps))) k h q.scalar.is
          (subst (λ z. IsNear s (SameCell (Some q.scalar.u)) n (value_of (typed at ty (x.step p sp back true)) (context_of s))
          ((((fixed_if true n (place_in (scope_of s) p n)).stmts ++ hold (past n (fixed_if true n (place_in (scope_of s) p n)).temps) (t.read (fixed_if true n (place_in (scope_of s) p n)).place) ∷ []) ++ []) ++ assign (fixed_if true n (place_in (scope_of s) p n)).place (computed z (unit_step z back) (fixed_if true n (place_in (scope_of s) p n)).place (unit_of z) at) ∷ [])
          (cell_asked s (temp (past n (fixed_if true n (place_in (scope_of s) p n)).temps)))) (sym same_ty)
          (subst (λ xs. IsNear s (SameCell (Some q.scalar.u)) n (value_of (typed at ty (x.step p sp back true)) (context_of s)) xs (cell_asked s (temp (past n (fixed_if true n (place_in (scope_of s) p n)).temps))))
          (sym (postfix_list (fixed_if true n (place_in (scope_of s) p n)).stmts (hold (past n (fixed_if true n (place_in (scope_of s) p n)).temps) (t.read (fixed_if true n (place_in (scope_of s) p n)).place)) (assign (fixed_if true n (place_in (scope_of s) p n)).place (computed q.scalar.u (unit_step q.scalar.u back) (fixed_if true n (place_in (scope_of s) p n)).place (unit_of q.scalar.u) at))))
          (postfix_near s n (past n (fixed_if true n (place_in (scope_of s) p n)).temps) q.scalar.u (holding (fixed_if true n (place_in (scope_of s) p n)).ty (typed sp (Some (fixed_if true n (place_in (scope_of s) p n)).ty) (x.read p))) back at (location_of p (context_of s)) (fixed_if true n (place_in (scope_of s) p n)).stmts (fixed_if true n (place_in (scope_of s) p n)).place k
          (past_from (length s.names.vars) n (fixed_if true n (place_in (scope_of s) p n)).temps from) (omega arith) there (unit_computes q.scalar.u back q.scalar.scalar)
          (fixed_on_temps s n q.scalar.u (location_of p (context_of s)) (place_in (scope_of s) p n) (own_from s n k from) (pl.stage q.can))
          (fixed_runs s n q.scalar.u (is_object p) true (place_in (scope_of s) p n) (location_of p (context_of s)) k from ts q.can pl))));
    }

-- ---- calls

abbrev pub ArgumentsLaw : ExprTrees → Type 0
ArgumentsLaw es = (s : Scene) (n : ℕ) (params : List Param) → SceneFits s → IsTrue (all_typed s.names es) → IsTrue (arguments_fit params es) → length s.names.vars ≤ n → HasTemps s.core_variables n (arguments_in (scope_of s) es n).temps →
    IsNext s (AreArguments s params) n (values_of es (context_of s)) (arguments_in (scope_of s) es n).stmts (cells_asked s (arguments_in (scope_of s) es n).values)

-- the function that is called
pub record Called (s : Scene) (g : FnId) (es : ExprTrees) (ty : Option VarTy) : Type 0 where
  pub signature : Signature
  pub there : slice_get s.names.signatures g.0 ≡ Some signature
  pub not_main : IsTrue (not (is_main signature))
  pub fit : IsTrue (arguments_fit signature.params es)
  pub result : ty ≡ option_map Int signature.result

pub called_is : (s : Scene) (g : FnId) (es : ExprTrees) (ty : Option VarTy) → IsTrue (call_fits (slice_get s.names.signatures g.0) es ty) → Called s g es ty
called_is s g es ty h = go (slice_get s.names.signatures g.0) refl h
  where
    go : (o : Option Signature) → slice_get s.names.signatures g.0 ≡ o → IsTrue (call_fits o es ty) → Called s g es ty
    go None is h = false_not_true h
    go (Some signature) is h =
        let rest = both_hold_second (not (is_main signature)) (arguments_fit signature.params es && same_types ty (option_map Int signature.result)) h in
        record {
          signature = signature;
          there = is;
          not_main = both_hold_first (not (is_main signature)) (arguments_fit signature.params es && same_types ty (option_map Int signature.result)) h;
          fit = both_hold_first (arguments_fit signature.params es) (same_types ty (option_map Int signature.result)) rest;
          result = equal_options ty (option_map Int signature.result) (both_hold_second (arguments_fit signature.params es) (same_types ty (option_map Int signature.result)) rest);
        }

result_int : (o : Option IntType) (u : VarTy) → Some u ≡ option_map Int o → (z : IntType) × (o ≡ Some z) × (u ≡ Int z)
result_int None u h = cc
result_int (Some z) u h = (z, refl, some_same u (Int z) h)

pub call_law : (g : FnId) (es : ExprTrees) → ArgumentsLaw es → FormLaw (x.call g es)
call_law g es la at None s n k h ns from temps =
    let q = called_is s g es None (both_hold_second (all_typed s.names es) (call_fits (slice_get s.names.signatures g.0) es None) h) in
    let ta = temps_first s.core_variables n (arguments_in (scope_of s) es n).temps [] temps in
    record {
      type = λ elem fixed is. cc;
      runs = value_settled s (typed at None (x.call g es)) n (form_in (scope_of s) (x.call g es) at None n).stmts (cell_asked s (t.constant i.Int (pos 0))) k h
          (near_as s (SameCell None) n (λ st. value_of (typed at None (x.call g es)) (context_of s) st >>= λ w. gives w) (value_of (typed at None (x.call g es)) (context_of s)) (form_in (scope_of s) (x.call g es) at None n).stmts (cell_asked s (t.constant i.Int (pos 0))) (λ st. sym (bind_gives (value_of (typed at None (x.call g es)) (context_of s) st)))
          (runs_then_nothing s n (value_of (typed at None (x.call g es)) (context_of s)) (form_in (scope_of s) (x.call g es) at None n).stmts (λ w. w)
          (call_dropped s n g.0 q.signature at (values_of es (context_of s)) (arguments_in (scope_of s) es n).stmts (arguments_in (scope_of s) es n).values k q.there q.not_main
          (la s n q.signature.params k (both_hold_first (all_typed s.names es) (call_fits (slice_get s.names.signatures g.0) es None) h) q.fit from ta))));
    }
call_law g es la at (Some u) s n k h ns from temps =
    let q = called_is s g es (Some u) (both_hold_second (all_typed s.names es) (call_fits (slice_get s.names.signatures g.0) es (Some u)) h) in
    let z = result_int q.signature.result u q.result in
    let ta = temps_first s.core_variables n (arguments_in (scope_of s) es n).temps (holding u (typed at (Some u) (x.call g es)) ∷ []) temps in
    let there = temp_there s.core_variables n (arguments_in (scope_of s) es n).temps (holding u (typed at (Some u) (x.call g es))) [] temps in
    record {
      type = λ elem fixed is. (fixed, get_or_from_slice_get s.core_variables (past n (arguments_in (scope_of s) es n).temps) u (Int i.Int) there ∙ some_same u (Pointer elem fixed) is);
      runs = settled_as s (typed at (Some u) (x.call g es)) (Int z.0) n (form_in (scope_of s) (x.call g es) at (Some u) n).stmts (cell_asked s (temp (past n (arguments_in (scope_of s) es n).temps))) k h (ap (λ w. Some w) z.2)
          (call_held s n (past n (arguments_in (scope_of s) es n).temps) g.0 u q.signature z.0 at (values_of es (context_of s)) (arguments_in (scope_of s) es n).stmts (arguments_in (scope_of s) es n).values k (past_from (length s.names.vars) n (arguments_in (scope_of s) es n).temps from) (omega arith) there q.there q.not_main z.1
          (la s n q.signature.params k (both_hold_first (all_typed s.names es) (call_fits (slice_get s.names.signatures g.0) es (Some u)) h) q.fit from ta));
    }
