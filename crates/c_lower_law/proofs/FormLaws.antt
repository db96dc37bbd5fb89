-- The law of lowering, form by form: what is read and computed, by the laws of the parts.
use Rattle.std.proofs.Common.{◌≡◌, ◌∙◌, ◌≤◌, ◌<◌, ℕ, zero, suc, ◌+◌, pos, refl, ap, sym, subst, arith, Bool, true, false, not, Option, Some, None, List, [], ◌∷◌, ◌++◌, length, Result, Ok, Err, if◌then◌else◌}
use Rattle.std.specs.Prelude.{IsTrue, ◌&&◌, ◌||◌, is_none, slice_get, slice_index_or, option_map}
use Rattle.pt_base.specs.declared.int_type.IntType.{IntType}
use Rattle.pt_base.specs.declared.int_type.IntType.TheVariants as i
use Rattle.pt_base.specs.declared.ids.FnId.{FnId}
use Rattle.pt_base.specs.declared.span.Span.{Span}
use Rattle.pt_base.proofs.Booleans.{both_hold_first, both_hold_second, false_not_true}
use Rattle.pt_tree.specs.declared.signature.Param.{Param}
use Rattle.pt_tree.specs.declared.signature.Signature.{Signature}
use Rattle.runs.specs.State.{gives, trapped, spent, ◌>>=◌}
use Rattle.typed_tree.specs.declared.types.VarTy.{VarTy}
use Rattle.typed_tree.specs.declared.types.VarTy.TheVariants.{Int, Struct, Array, Pointer}
use Rattle.typed_tree.specs.declared.link.LinkStep.{LinkStep}
use Rattle.typed_tree.specs.declared.link.LogicalOp.{LogicalOp}
use Rattle.typed_tree.specs.ExpressionTree as x
use Rattle.typed_tree.specs.ExpressionTree.{ExprTree, typed, FormTree, ExprTrees, no_exprs, expr_and, LinkTree, LinkTrees, no_links, link_and, link, OperandTrees, no_operands, operand_and, operand, PlaceTree, place, RootTree, StepTree, StepTrees, no_steps, step_and}
use Rattle.typed_tree.specs.TypeTests.{same_types, both_elem, integer_of, pointee_of, element_of, item_of, is_scalar, is_value, type_of_elem}
use Rattle.typed_tree.specs.TypeRules as r
use Rattle.typed_tree.specs.TypeRules.{unary_fits, converts, promoted_value, is_compound, is_arm}
use Rattle.typed_tree.specs.WellFormedExpression as f
use Rattle.typed_tree.specs.WellFormedExpression.{Names, is_typed, form_fits, all_typed, links_fit, operands_fit, place_fits, root_fits, steps_fit, ty_of, constant_fits, is_elem, is_struct, place_type, has_links, has_operands, is_addressed, is_object, is_written, keeps_const, place_const, param_type, arguments_fit, call_fits, is_main}
use Rattle.block_memory.specs.declared.cell.Cell as core
use Rattle.block_memory.specs.declared.cell.Cell.TheVariants as cell
use Rattle.block_memory.specs.declared.cell.Pointer.TheVariants as ptr
use Rattle.block_memory.specs.declared.cell.BlockName.TheVariants.{Local}
use Rattle.block_memory.specs.Blocks.{Blocks}
use Rattle.source_meaning.specs.Memory.{number, null}
use Rattle.source_meaning.specs.State.{State, Outcome}
use Rattle.source_meaning.specs.Values as m
use Rattle.source_meaning.specs.Values.{Value, holds, cell_of, is_true, Location}
use Rattle.source_meaning.specs.Expressions as e
use Rattle.source_meaning.specs.Expressions.{value_of, values_of, location_of, root_location, links_value, link_value, operands_value, type_or_int, cell_or_trap}
use Rattle.typed_tree.proofs.SameTypes.{equal_options}
use Rattle.source_soundness.proofs.Soundness.{array_of, object_of}
use Rattle.pt_core.specs.CodeTree as t
use Rattle.pt_core.specs.CodeTree.{StmtTree}
use Rattle.pt_core.specs.Types.{type_of}
use Rattle.pt_core.specs.Statements as c
use Rattle.lowering.specs.Lowered.{Temp, Effects, Lowered, LoweredPlace, past, temp, hold, holding, held_if, int}
use Rattle.lowering.specs.Operators as lo
use Rattle.lowering.specs.Operators.{prefixed, truth_of}
use Rattle.lowering.specs.Purity.{takes_left_first, is_pure}
use Rattle.lowering.specs.Expressions as l
use Rattle.lowering.specs.Expressions.{Scope, int_of, elem_of, value_in, form_in, effects_in, links_in, operands_in, arguments_in, place_in, root_in, steps_in, object_in, started, with_operand, where_open, arm, fixed_if}
use Rattle.c_lower_law.proofs.Relations.{core_cell, Scene, world_of, context_of, frame_of, scope_of, sizes_in, HasTemps, Kept, Alike, Same, After, below}
use Rattle.c_lower_law.proofs.Expressions.{run_all, cell_asked, place_asked, SameAsked, SameCell, Gives, IsValue, IsPlace, SceneFits}
use Rattle.c_lower_law.proofs.Runs.{bind_bind, bind_gives}
use Rattle.c_lower_law.proofs.Memories.{kept_same}
use Rattle.c_lower_law.proofs.Held.{temps_first, temps_rest, temp_there, past_append, IsNext, Both, pair_of, first_then, both}
use Rattle.c_lower_law.proofs.Operators.{PointerType}
use Rattle.c_lower_law.proofs.Places.{some_same, PlaceLowered, ValueLowered, array_runs}
use Rattle.c_lower_law.proofs.Values.{near, GivesNear, IsNear, nearly, value_settled, Scalar, cell_same, read_runs, place_pointer, decay_near, decay_pointer, address_near, address_pointer, unary_near, convert_near, held_pointer}
use Rattle.c_lower_law.proofs.Choices.{hold_value, choice_near, IsTruth, truth_held, operand_near, next_truth, operands_split, truth_value_near}
use Rattle.c_lower_law.proofs.OperandTypes.{ScalarType, scalar_value_type, scalar_type, not_struct, type_is, unary_type, unary_number, convert_type, convert_pointer, link_operand, link_plain, link_points, link_pointer}
use Rattle.c_lower_law.proofs.Shapes.{links_first, operands_first, steps_first, held_first, link_ready, link_next, item_base, item_next, pure_value}
use Rattle.c_lower_law.proofs.Forms.{next_as, near_as, next_weaken, value_typed, value_cell, settled_as, Runs, RunsNear, effects_settled, runs_then_nothing, runs_near, runs_give, runs_as, near_runs, fixed_first, fixed_type, past_from, past_one, was_pure, ready_by, link_step, link_first, scalar_expr}

-- what the law of an expression says
abbrev pub ValueLaw : ExprTree → Type 0
ValueLaw ex = (s : Scene) (n : ℕ) → SceneFits s → IsTrue (is_typed s.names ex) → is_struct (ty_of ex) ≡ false → length s.names.vars ≤ n → HasTemps s.core_variables n (value_in (scope_of s) ex n).temps →
    ValueLowered s (ty_of ex) n (value_of ex (context_of s)) (value_in (scope_of s) ex n)

abbrev pub FormLaw : FormTree → Type 0
FormLaw form = (at : Span) (ty : Option VarTy) (s : Scene) (n : ℕ) → SceneFits s → IsTrue (form_fits s.names form ty) → is_struct ty ≡ false → length s.names.vars ≤ n → HasTemps s.core_variables n (form_in (scope_of s) form at ty n).temps →
    ValueLowered s ty n (value_of (typed at ty form) (context_of s)) (form_in (scope_of s) form at ty n)

abbrev pub PlaceLaw : PlaceTree → Type 0
PlaceLaw p = (s : Scene) (n : ℕ) (u : VarTy) → SceneFits s → IsTrue (place_fits s.names p) → place_type s.names p ≡ Some u → length s.names.vars ≤ n → HasTemps s.core_variables n (place_in (scope_of s) p n).temps →
    PlaceLowered s u n (is_object p) (location_of p (context_of s)) (place_in (scope_of s) p n)

abbrev pub EffectsLaw : ExprTree → Type 0
EffectsLaw ex = (s : Scene) (n : ℕ) → SceneFits s → IsTrue (is_typed s.names ex) → length s.names.vars ≤ n → HasTemps s.core_variables n (effects_in (scope_of s) ex n).temps →
    Runs s n (value_of ex (context_of s)) (effects_in (scope_of s) ex n).stmts

-- ---- constants

pub constant_law : (z : _) → FormLaw (x.constant z)
constant_law z at ty s n k h ns from temps = record {
  type = λ elem fixed is. false_not_true (subst (λ q. constant_fits z (integer_of q) ≡ true) is h);
  runs = value_settled s (typed at ty (x.constant z)) n [] (cell_asked s (t.constant (int_of ty) z)) k h
      (λ st st' al. (refl, kept_same s (below n) st'.memory, record { near = near s st st' al; kept = kept_same s (below n) st'.memory; facts = cell_same ty (holds (number z)) (cell.Int z) refl }));
}

pub null_law : FormLaw x.null
null_law at ty s n k h ns from temps = record {
  type = λ elem fixed is. (false, ap (λ q. Pointer (elem_of (type_or_int q)) false) is);
  runs = value_settled s (typed at ty x.null) n [] (cell_asked s (t.null (elem_of (type_or_int ty)))) k h
      (λ st st' al. (refl, kept_same s (below n) st'.memory, record { near = near s st st' al; kept = kept_same s (below n) st'.memory; facts = cell_same ty (holds null) (cell.Ptr ptr.Null) refl }));
}

-- ---- what is read

pub read_law : (p : PlaceTree) → PlaceLaw p → FormLaw (x.read p)
read_law p law at ty s n k h ns from temps =
    let there = both_hold_first (place_fits s.names p) (same_types (place_type s.names p) ty && is_value ty) h in
    let is = both_hold_second (place_fits s.names p) (same_types (place_type s.names p) ty && is_value ty) h in
    let u = scalar_value_type ty (both_hold_second (same_types (place_type s.names p) ty) (is_value ty) is) ns in
    let pl = law s n u.u k there (equal_options (place_type s.names p) ty (both_hold_first (same_types (place_type s.names p) ty) (is_value ty) is) ∙ u.is) from temps in
    record {
      type = λ elem fixed e1. place_pointer s u.u (place_in (scope_of s) p n).place pl.type elem fixed (sym u.is ∙ e1);
      runs = settled_as s (typed at ty (x.read p)) u.u n (place_in (scope_of s) p n).stmts (cell_asked s (t.read (place_in (scope_of s) p n).place)) k h u.is
          (nearly s (SameCell (Some u.u)) n (value_of (typed at ty (x.read p)) (context_of s)) (place_in (scope_of s) p n).stmts (cell_asked s (t.read (place_in (scope_of s) p n).place))
          (read_runs s n u.u (location_of p (context_of s)) (place_in (scope_of s) p n).stmts (place_in (scope_of s) p n).place u.scalar pl.runs));
    }

pub decay_law : (p : PlaceTree) → PlaceLaw p → FormLaw (x.decay p)
decay_law p law at ty s n k h ns from temps =
    let there = both_hold_first (place_fits s.names p) (both_elem (item_of (place_type s.names p)) (pointee_of ty) && keeps_const (place_const s.names p) ty) h in
    let is = both_hold_first (both_elem (item_of (place_type s.names p)) (pointee_of ty)) (keeps_const (place_const s.names p) ty) (both_hold_second (place_fits s.names p) (both_elem (item_of (place_type s.names p)) (pointee_of ty) && keeps_const (place_const s.names p) ty) h) in
    let a = array_of (place_type s.names p) ty is in
    let pl = law s n (Array a.elem a.count) k there a.from from temps in
    record {
      type = decay_pointer s a.elem a.count ty a.fixed (place_in (scope_of s) p n).place pl.type a.to;
      runs = settled_as s (typed at ty (x.decay p)) (Pointer a.elem a.fixed) n (place_in (scope_of s) p n).stmts (cell_asked s (t.decay (place_in (scope_of s) p n).place)) k h a.to
          (nearly s (SameCell (Some (Pointer a.elem a.fixed))) n (value_of (typed at ty (x.decay p)) (context_of s)) (place_in (scope_of s) p n).stmts (cell_asked s (t.decay (place_in (scope_of s) p n).place))
          (decay_near s n a.elem a.count a.fixed (location_of p (context_of s)) (place_in (scope_of s) p n).stmts (t.decay (place_in (scope_of s) p n).place)
          (array_runs s n a.elem a.count (location_of p (context_of s)) (place_in (scope_of s) p n).stmts (place_in (scope_of s) p n).place pl.runs)));
    }

pub address_law : (p : PlaceTree) → PlaceLaw p → FormLaw (x.address p)
address_law p law at ty s n k h ns from temps =
    let rest = both_hold_second (place_fits s.names p) (is_addressed p && (both_elem (element_of (place_type s.names p)) (pointee_of ty) && keeps_const (place_const s.names p) ty)) h in
    let there = both_hold_first (place_fits s.names p) (is_addressed p && (both_elem (element_of (place_type s.names p)) (pointee_of ty) && keeps_const (place_const s.names p) ty)) h in
    let is = both_hold_first (both_elem (element_of (place_type s.names p)) (pointee_of ty)) (keeps_const (place_const s.names p) ty) (both_hold_second (is_addressed p) (both_elem (element_of (place_type s.names p)) (pointee_of ty) && keeps_const (place_const s.names p) ty) rest) in
    let o = object_of (place_type s.names p) ty is in
    let pl = law s n (type_of_elem o.elem) k there o.from from temps in
    record {
      type = address_pointer s o.elem ty o.fixed (place_in (scope_of s) p n).place pl.type o.to;
      runs = value_settled s (typed at ty (x.address p)) n (place_in (scope_of s) p n).stmts (cell_asked s (t.address (place_in (scope_of s) p n).place)) k h
          (nearly s (SameCell ty) n (value_of (typed at ty (x.address p)) (context_of s)) (place_in (scope_of s) p n).stmts (cell_asked s (t.address (place_in (scope_of s) p n).place))
          (address_near s n (type_of_elem o.elem) ty (location_of p (context_of s)) (place_in (scope_of s) p n).stmts (place_in (scope_of s) p n).place pl.runs));
    }

-- ---- operators before their operand, and conversions

pub unary_law : (op : _) (a : ExprTree) → ValueLaw a → FormLaw (x.unary op a)
unary_law op a law at ty s n k h ns from temps =
    let fits = both_hold_second (is_typed s.names a) (unary_fits op (ty_of a) ty) h in
    let u = unary_type op (ty_of a) ty fits in
    let va = law s n k (both_hold_first (is_typed s.names a) (unary_fits op (ty_of a) ty) h) (not_struct (ty_of a) (record { u = u.u; is = u.is; scalar = u.scalar })) from temps in
    record {
      type = λ elem fixed is. absurd (unary_number op (ty_of a) ty elem fixed fits is);
      runs = value_settled s (typed at ty (x.unary op a)) n (value_in (scope_of s) a n).stmts (cell_asked s (prefixed op (e.type_of a) (value_in (scope_of s) a n).value at)) k h
          (subst (λ z. IsNear s (SameCell ty) n (λ st. value_of a (context_of s) st >>= λ w. cell_or_trap at (m.unary_cell op z (cell_of w))) (value_in (scope_of s) a n).stmts (cell_asked s (prefixed op z (value_in (scope_of s) a n).value at))) (sym (type_is a u.u u.is))
          (nearly s (SameCell ty) n (λ st. value_of a (context_of s) st >>= λ w. cell_or_trap at (m.unary_cell op u.u (cell_of w))) (value_in (scope_of s) a n).stmts (cell_asked s (prefixed op u.u (value_in (scope_of s) a n).value at))
          (unary_near s n op u.u ty at (value_of a (context_of s)) (value_in (scope_of s) a n).stmts (value_in (scope_of s) a n).value u.prefixes u.scalar
          (value_typed s n (ty_of a) (Some u.u) (value_of a (context_of s)) (value_in (scope_of s) a n).stmts (cell_asked s (value_in (scope_of s) a n).value) u.is va.runs))));
    }

pub convert_law : (a : ExprTree) → ValueLaw a → FormLaw (x.convert a)
convert_law a law at ty s n k h ns from temps =
    let fits = both_hold_second (is_typed s.names a) (converts (ty_of a) ty) h in
    let u = convert_type (ty_of a) ty fits in
    let va = law s n k (both_hold_first (is_typed s.names a) (converts (ty_of a) ty) h) (not_struct (ty_of a) (record { u = u.u; is = u.is; scalar = u.scalar })) from temps in
    record {
      type = convert_pointer s (ty_of a) ty (value_in (scope_of s) a n).value fits va.type;
      runs = settled_as s (typed at ty (x.convert a)) u.to n (value_in (scope_of s) a n).stmts (cell_asked s (lo.converted (type_or_int ty) (value_in (scope_of s) a n).value)) k h u.gives_is
          (subst (λ z. IsNear s (SameCell (Some u.to)) n (λ st. value_of a (context_of s) st >>= λ w. gives (m.converted z w)) (value_in (scope_of s) a n).stmts (cell_asked s (lo.converted z (value_in (scope_of s) a n).value))) (sym (ap type_or_int u.gives_is))
          (nearly s (SameCell (Some u.to)) n (λ st. value_of a (context_of s) st >>= λ w. gives (m.converted u.to w)) (value_in (scope_of s) a n).stmts (cell_asked s (lo.converted u.to (value_in (scope_of s) a n).value))
          (convert_near s n u.u u.to (value_of a (context_of s)) (value_in (scope_of s) a n).stmts (value_in (scope_of s) a n).value u.scalar u.cells
          (value_typed s n (ty_of a) (Some u.u) (value_of a (context_of s)) (value_in (scope_of s) a n).stmts (cell_asked s (value_in (scope_of s) a n).value) u.is va.runs))));
    }

none_is : (ty : Option VarTy) → is_none ty ≡ true → ty ≡ None
none_is None h = refl
none_is (Some u) h = false_not_true h

pub discard_law : (a : ExprTree) → EffectsLaw a → FormLaw (x.discard a)
discard_law a law at ty s n k h ns from temps =
    let none = none_is ty (both_hold_second (is_typed s.names a) (is_none ty) h) in
    record {
      type = λ elem fixed is. absurd (no_type (sym none ∙ is));
      runs = value_settled s (typed at ty (x.discard a)) n (effects_in (scope_of s) a n).stmts (cell_asked s (t.constant i.Int (pos 0))) k h
          (subst (λ z. IsNear s (SameCell z) n (λ st. value_of a (context_of s) st >>= λ w. gives m.nothing) (effects_in (scope_of s) a n).stmts (cell_asked s (t.constant i.Int (pos 0)))) (sym none)
          (runs_then_nothing s n (value_of a (context_of s)) (effects_in (scope_of s) a n).stmts (λ w. m.nothing)
          (runs_near s n (value_of a (context_of s)) (effects_in (scope_of s) a n).stmts (law s n k (both_hold_first (is_typed s.names a) (is_none ty) h) from temps))));
    }
  where
    no_type : {elem : _} {fixed : Bool} → None ≡ Some (Pointer elem fixed) → ⊥
    no_type e1 = cc

-- ---- chains

-- what a chain comes to behind the value so far
pub record ChainLowered (s : Scene) (n : ℕ) (ty : Option VarTy) (source : State → Outcome Value) (far : Lowered) : Type 0 where
  pub type : PointerType s ty far.value
  pub runs : IsNext s (SameCell ty) n source far.stmts (cell_asked s far.value)

-- a link, by its operand
pub link_lowered : (s : Scene) (n : ℕ) (first : ExprTree) (before : List LinkTree) (sp : Span) (u to : VarTy) (at : Span) (step : LinkStep) (ex : ExprTree) (far : Lowered) (source : State → Outcome Value) → ValueLaw ex → SceneFits s → length s.names.vars ≤ n → IsTrue (is_typed s.names ex) →
    r.stepped (Some u) step (ty_of ex) ≡ Some to → HasTemps s.core_variables n (link_next (scope_of s) first before sp u at step ex far n).temps → ChainLowered s n (Some u) source far →
    ChainLowered s n (Some to) (λ st. source st >>= λ w. link_value (link at to step ex) u w (context_of s)) (link_next (scope_of s) first before sp u at step ex far n)
link_lowered s n first before sp u to at step ex far source law k from h is temps c0 =
    let ready = link_ready first before sp u step ex far n in
    let rt = temps_first s.core_variables n (link_ready first before sp u step ex far n).temps (value_in (scope_of s) ex (past n (link_ready first before sp u step ex far n).temps)).temps temps in
    let vt = temps_rest s.core_variables n (link_ready first before sp u step ex far n).temps (value_in (scope_of s) ex (past n (link_ready first before sp u step ex far n).temps)).temps temps in
    let operand = link_operand (Some u) (ty_of ex) step to is in
    let v = law s (past n (link_ready first before sp u step ex far n).temps) k h (not_struct (ty_of ex) operand) (past_from (length s.names.vars) n (link_ready first before sp u step ex far n).temps from) vt in
    let rtype = held_pointer s n far (not (takes_left_first step) || not (is_pure ex)) (holding u (l.chain_so_far first before sp u)) u refl rt c0.type in
    record {
      type = link_pointer s u (ty_of ex) step to (link_ready first before sp u step ex far n).value (value_in (scope_of s) ex (past n (link_ready first before sp u step ex far n).temps)).value at is rtype v.type;
      runs = link_step s n u to (ty_of ex) step at source (value_of ex (context_of s)) ((link_ready first before sp u step ex far n).stmts ++ (value_in (scope_of s) ex (past n (link_ready first before sp u step ex far n).temps)).stmts)
          (link_ready first before sp u step ex far n).value (value_in (scope_of s) ex (past n (link_ready first before sp u step ex far n).temps)).value
          (ready_by first before sp u step ex far n) (link_plain (Some u) (ty_of ex) step to is) (link_points s u (ty_of ex) step to (link_ready first before sp u step ex far n).value is rtype) operand
          (first_then s n far (not (takes_left_first step) || not (is_pure ex)) (holding u (l.chain_so_far first before sp u)) (SameCell (Some u)) (IsValue s (ty_of ex)) source (value_of ex (context_of s))
          (value_in (scope_of s) ex (past n (link_ready first before sp u step ex far n).temps)).stmts (cell_asked s (value_in (scope_of s) ex (past n (link_ready first before sp u step ex far n).temps)).value) k from rt c0.runs v.runs
          (λ e1. (pure_value ex (scope_of s) (past n (link_ready first before sp u step ex far n).temps) (was_pure (takes_left_first step) (is_pure ex) e1)).stmts_none));
    }

chain_as : (s : Scene) (n : ℕ) (ty : Option VarTy) (source other : State → Outcome Value) (far : Lowered) → ((st : State) → other st ≡ source st) → ChainLowered s n ty source far → ChainLowered s n ty other far
chain_as s n ty source other far e1 c0 = record { type = c0.type; runs = next_as s (SameCell ty) n source other far.stmts (cell_asked s far.value) e1 c0.runs }

chain_typed : (s : Scene) (n : ℕ) (a z : Option VarTy) (source : State → Outcome Value) (far : Lowered) → a ≡ z → ChainLowered s n a source far → ChainLowered s n z source far
chain_typed s n a z source far is c0 = subst (λ q. ChainLowered s n q source far) is c0

pub nothing_linked : (s : Scene) (n : ℕ) (u : VarTy) (ty : Option VarTy) (far : Lowered) (source : State → Outcome Value) → Some u ≡ ty → ChainLowered s n (Some u) source far → ChainLowered s n ty (λ st. source st >>= λ w. links_value no_links u w (context_of s)) far
nothing_linked s n u ty far source is c0 = chain_as s n ty source (λ st. source st >>= λ w. gives w) far (λ st. bind_gives (source st)) (chain_typed s n (Some u) ty source far is c0)

-- the links behind one
pub more_linked : (s : Scene) (n : ℕ) (u to : VarTy) (ty : Option VarTy) (at : Span) (step : LinkStep) (ex : ExprTree) (rest : LinkTrees) (far : Lowered) (source : State → Outcome Value) →
    ChainLowered s n ty (λ st. (source st >>= λ w. link_value (link at to step ex) u w (context_of s)) >>= λ w. links_value rest to w (context_of s)) far →
    ChainLowered s n ty (λ st. source st >>= λ w. links_value (link_and (link at to step ex) rest) u w (context_of s)) far
more_linked s n u to ty at step ex rest far source c0 =
    chain_as s n ty (λ st. (source st >>= λ w. link_value (link at to step ex) u w (context_of s)) >>= λ w. links_value rest to w (context_of s)) (λ st. source st >>= λ w. links_value (link_and (link at to step ex) rest) u w (context_of s)) far
    (λ st. sym (bind_bind (source st) (λ w. link_value (link at to step ex) u w (context_of s)) (λ w. links_value rest to w (context_of s)))) c0

-- ---- `&&`, `||` and `?:`

abbrev pub IsTruthSoFar : Scene → ℕ → ℕ → (State → Outcome Bool) → List StmtTree → Type 0
IsTruthSoFar s n k source stmts = IsNext s IsTruth n source stmts (cell_asked s (temp k))

-- an operand, by its expression
pub operand_lowered : (s : Scene) (n k : ℕ) (op : LogicalOp) (sp : Span) (ex : ExprTree) (far : Effects) (source : State → Outcome Bool) → ValueLaw ex → SceneFits s → length s.names.vars ≤ n → n ≤ k → k ≤ past n far.temps → slice_get s.core_variables k ≡ Some int → IsTrue (is_typed s.names ex) → IsTrue (is_scalar (ty_of ex)) →
    HasTemps s.core_variables n (with_operand op k (e.type_of ex) sp far (value_in (scope_of s) ex (past n far.temps))).temps → IsTruthSoFar s n k source far.stmts →
    IsTruthSoFar s n k (λ st. source st >>= next_truth op (λ st1. value_of ex (context_of s) st1 >>= λ w. gives (is_true w))) (with_operand op k (e.type_of ex) sp far (value_in (scope_of s) ex (past n far.temps))).stmts
operand_lowered s n k op sp ex far source law fits from le near_k there h scalar temps held =
    let sc = scalar_expr ex (scalar_type (ty_of ex) scalar) in
    let v = law s (past n far.temps) fits h (not_struct (ty_of ex) (scalar_type (ty_of ex) scalar)) (past_from (length s.names.vars) n far.temps from) (temps_rest s.core_variables n far.temps (value_in (scope_of s) ex (past n far.temps)).temps temps) in
    operand_near s n k op source (λ st1. value_of ex (context_of s) st1 >>= λ w. gives (is_true w)) far.stmts ((value_in (scope_of s) ex (past n far.temps)).stmts ++ hold k (truth_of (e.type_of ex) (value_in (scope_of s) ex (past n far.temps)).value sp) ∷ []) le held
    (truth_held s (past n far.temps) k k (e.type_of ex) int sp (value_of ex (context_of s)) (value_in (scope_of s) ex (past n far.temps)).stmts (value_in (scope_of s) ex (past n far.temps)).value fits (omega (arith, from, le)) near_k (omega arith) there sc.scalar
    (value_typed s (past n far.temps) (ty_of ex) (Some (e.type_of ex)) (value_of ex (context_of s)) (value_in (scope_of s) ex (past n far.temps)).stmts (cell_asked s (value_in (scope_of s) ex (past n far.temps)).value) sc.is v.runs))
