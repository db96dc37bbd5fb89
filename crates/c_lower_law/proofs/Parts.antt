-- The parts from which the induction is put together.
use Rattle.std.proofs.Common.{◌≡◌, ◌∙◌, ◌≤◌, ◌<◌, ℕ, zero, suc, ◌+◌, pos, refl, ap, sym, subst, length-append, arith, Bool, true, false, not, Option, Some, None, List, [], ◌∷◌, ◌++◌, length, Result, Ok, Err, if◌then◌else◌}
use Rattle.std.specs.Prelude.{IsTrue, ◌&&◌, ◌||◌, is_none, slice_get, slice_index_or, option_map}
use Rattle.pt_base.specs.declared.int_type.IntType.{IntType}
use Rattle.pt_base.specs.declared.int_type.IntType.TheVariants as i
use Rattle.pt_base.specs.declared.ids.FnId.{FnId}
use Rattle.pt_base.specs.declared.span.Span.{Span}
use Rattle.pt_tree.specs.declared.signature.Param.{Param}
use Rattle.runs.specs.State.{gives, trapped, spent, ◌>>=◌}
use Rattle.typed_tree.specs.declared.types.VarTy.{VarTy}
use Rattle.typed_tree.specs.declared.types.VarTy.TheVariants.{Int, Struct, Array, Pointer}
use Rattle.typed_tree.specs.declared.types.StructInfo.{StructInfo}
use Rattle.typed_tree.specs.declared.link.LinkStep.{LinkStep}
use Rattle.typed_tree.specs.declared.link.LogicalOp.{LogicalOp}
use Rattle.typed_tree.specs.ExpressionTree as x
use Rattle.typed_tree.specs.ExpressionTree.{ExprTree, typed, FormTree, ExprTrees, no_exprs, expr_and, LinkTree, LinkTrees, no_links, link_and, link, OperandTrees, no_operands, operand_and, operand, PlaceTree, place, RootTree, StepTree, StepTrees, no_steps, step_and}
use Rattle.typed_tree.specs.TypeTests.{same_types, both_elem, integer_of, pointee_of, item_of, is_scalar, is_value, type_of_elem}
use Rattle.typed_tree.specs.TypeRules as r
use Rattle.typed_tree.specs.WellFormedExpression as f
use Rattle.typed_tree.specs.WellFormedExpression.{Names, is_typed, form_fits, all_typed, links_fit, operands_fit, place_fits, root_fits, steps_fit, ty_of, is_struct, is_assign, assigned_type, root_type, step_type, steps_type, place_type, item_type, has_item, has_links, has_operands, is_object, is_written, place_const, param_type, arguments_fit, call_fits}
use Rattle.block_memory.specs.declared.cell.Cell as core
use Rattle.block_memory.specs.Blocks.{Blocks}
use Rattle.source_meaning.specs.State.{State, Outcome}
use Rattle.source_meaning.specs.Values as m
use Rattle.source_meaning.specs.Values.{Value, holds, cell_of, is_true, Location}
use Rattle.source_meaning.specs.Expressions as e
use Rattle.source_meaning.specs.Expressions.{value_of, values_of, location_of, root_location, steps_location, step_location, assigned_location, links_value, link_value, operands_value, operand_value, type_or_int, field_at, indexed, store}
use Rattle.source_soundness.specs.Worlds.{Fits, LocationFits, ValueFits}
use Rattle.source_soundness.specs.Laws.{Keeps}
use Rattle.source_soundness.specs.Sizes.{KeepsSizes, LiesWithin, ValueSized}
use Rattle.typed_tree.proofs.SameTypes.{equal_options}
use Rattle.source_soundness.proofs.Soundness.{value_fits, place_keeps, root_keeps, keeps_bind, field_lies, element_lies, pointer_to_type, element_step, steps_none}
use Rattle.source_soundness.proofs.SizeSoundness.{value_sized, place_sized}
use Rattle.pt_core.specs.CodeTree as t
use Rattle.pt_core.specs.CodeTree.{StmtTree}
use Rattle.pt_core.specs.Statements as c
use Rattle.pt_core.specs.Values as v
use Rattle.pt_core.specs.Statements.{goes_on, evaluated}
use Rattle.lowering.specs.Lowered.{Temp, Effects, Lowered, LoweredPlace, past, temp, hold, holding, held_if, int}
use Rattle.lowering.specs.Purity.{takes_left_first, is_pure, are_pure}
use Rattle.lowering.specs.Expressions as l
use Rattle.lowering.specs.Expressions.{Scope, value_in, form_in, effects_in, form_effects, links_in, operands_in, arguments_in, place_in, root_in, steps_in, object_in, started, with_operand, fixed_if, named_place, behind, field_in, decayed, decayed_type}
use Rattle.c_lower_law.proofs.Relations.{name_of, Scene, global_types, variable_types, world_of, context_of, frame_of, scope_of, sizes_in, HasTemps, Kept, Alike, Same, After, below}
use Rattle.c_lower_law.proofs.Expressions.{run_all, cell_asked, place_asked, cells_asked, object_asked, SameAsked, SameCell, Gives, IsValue, IsPlace, IsObject, AreArguments, SceneFits}
use Rattle.c_lower_law.proofs.Runs.{bind_bind, bind_gives}
use Rattle.c_lower_law.proofs.Memories.{kept_same}
use Rattle.c_lower_law.proofs.Held.{temps_first, temps_rest, temp_there, past_append, IsNext, Both, pair_of, first_then, both}
use Rattle.c_lower_law.proofs.Operators.{PointerType}
use Rattle.c_lower_law.proofs.Places.{some_same, setup, PlaceLowered, ValueLowered, StageOf, IsArray, behind_lowered, field_lowered, array_runs, element_lowered}
use Rattle.c_lower_law.proofs.Values.{IsNear, nearly, value_settled, held_pointer, decay_pointer}
use Rattle.c_lower_law.proofs.Choices.{IsTruth, truth_held, operands_split, truth_value_near}
use Rattle.c_lower_law.proofs.OperandTypes.{ScalarType, scalar_type, not_struct}
use Rattle.c_lower_law.proofs.Shapes.{links_first, operands_first, steps_first, held_first, link_next, item_base, item_next, pure_value, pure_arguments}
use Rattle.c_lower_law.proofs.Forms.{next_as, settled_as, value_typed, past_from, past_one, link_first, scalar_expr, Runs}
use Rattle.c_lower_law.proofs.FormLaws.{ValueLaw, FormLaw, PlaceLaw, EffectsLaw, constant_law, null_law, read_law, decay_law, address_law, unary_law, convert_law, discard_law, ChainLowered, link_lowered, nothing_linked, more_linked, IsTruthSoFar, operand_lowered}
use Rattle.c_lower_law.proofs.StoreLaws.{choice_law, assign_law, compound_law, step_law, ArgumentsLaw, call_law}
use Rattle.c_lower_law.proofs.Calls.{arguments_and, no_arguments}
use Rattle.std.specs.Prelude.{ℤ}
use Rattle.std.proofs.lemmas.Option.{get_or_from_slice_get}
use Rattle.pt_int.specs.declared.operator.UnOp.{UnOp}
use Rattle.pt_int.specs.declared.operator.UnOp.TheVariants.{Minus, Plus, Flip, Not}
use Rattle.pt_base.specs.declared.ids.VarId.{VarId}
use Rattle.pt_base.specs.declared.ids.GlobalId.{GlobalId}
use Rattle.pt_base.proofs.Booleans.{both_hold_first, both_hold_second, false_not_true, from_not_false, true_not_false}
use Rattle.pt_base.proofs.Lists.{append_nil}
use Rattle.pt_base.proofs.Places.{get_map}
use Rattle.pt_tree.specs.declared.signature.ParamKind.{ParamKind}
use Rattle.pt_tree.specs.declared.signature.ParamKind.TheVariants as pk
use Rattle.typed_tree.specs.declared.variable.Var.{Var}
use Rattle.typed_tree.specs.declared.variable.TypedGlobal.{TypedGlobal}
use Rattle.typed_tree.specs.declared.link.LinkStep.TheVariants.{Arithmetic, Shift, Move, MoveBy, Difference, Compare}
use Rattle.typed_tree.specs.TypeTests.{element_of}
use Rattle.typed_tree.specs.TypeRules.{unary_fits, converts, is_arm}
use Rattle.block_memory.specs.declared.cell.Cell.TheVariants as cell
use Rattle.block_memory.specs.declared.cell.BlockName.TheVariants.{Local, Global}
use Rattle.source_meaning.specs.Memory.{local, global}
use Rattle.source_soundness.proofs.Operators.{same_promoted_is}
use Rattle.source_soundness.proofs.Steps.{arithmetic_int, shift_int, moved_is, when}
use Rattle.source_soundness.proofs.Soundness.{array_of, object_of, some_of, given_struct, converts_scalar}
use Rattle.pt_core.specs.Types.{type_at, global_type}
use Rattle.lowering.specs.Operators as lo
use Rattle.c_lower_law.proofs.Fixed.{fixed_place_type}
use Rattle.c_lower_law.proofs.Values.{asked_settled}
use Rattle.c_lower_law.proofs.Choices.{next_truth}
use Rattle.c_lower_law.proofs.OperandTypes.{type_is}
use Rattle.c_lower_law.proofs.Stores.{computed, fixed_on_temps}
use Rattle.c_lower_law.proofs.Copies.{HasCells, object_near, copied_place, copied_object}
use Rattle.c_lower_law.proofs.Calls.{call_dropped}
use Rattle.c_lower_law.proofs.Forms.{RunsNear, near_runs, runs_near, runs_give, value_cell, fixed_first, fixed_type, effects_settled}
use Rattle.c_lower_law.proofs.StoreLaws.{own_from, compound_facts, step_kinds, step_dropped, called_is}
use Rattle.c_lower_law.proofs.EffectLaws.{ObjectLaw, assign_kinds, objects_paired, object_settled, checked_runs, choice_runs, assign_scalar_runs, assign_struct_runs}

-- ---- roots and steps of places

-- whether a place can be fixed behind these steps
abbrev pub can_after : Bool → StepTrees → Bool
can_after can no_steps = can
can_after can (step_and (x.field k) rest) = can_after can rest
can_after can (step_and (x.item a s) rest) = can_after true rest

abbrev pub can_root : RootTree → Bool
can_root (x.local v) = true
can_root (x.global g) = true
can_root (x.deref a s) = true
can_root (x.assigned a) = false

pub after_true : (steps : StepTrees) → can_after true steps ≡ true
after_true no_steps = refl
after_true (step_and (x.field k) rest) = after_true rest
after_true (step_and (x.item a s) rest) = after_true rest

pub after_false : (steps : StepTrees) → can_after false steps ≡ has_item steps
after_false no_steps = refl
after_false (step_and (x.field k) rest) = after_false rest
after_false (step_and (x.item a s) rest) = after_true rest

pub can_object : (root : RootTree) (steps : StepTrees) → is_object (place root steps) ≡ true → can_after (can_root root) steps ≡ true
can_object (x.local v) steps h = after_true steps
can_object (x.global g) steps h = after_true steps
can_object (x.deref a s) steps h = after_true steps
can_object (x.assigned a) steps h = after_false steps ∙ h

-- a place of the source, and that it lies in a live object
pub record PlaceFound (s : Scene) (u : VarTy) (n : ℕ) (can : Bool) (source : State → Outcome Location) (p : LoweredPlace) : Type 0 where
  pub lowered : PlaceLowered s u n can source p
  pub keeps : (st : State) → Fits (world_of s) st.memory → Keeps (world_of s) (LocationFits (world_of s) (Some u)) (source st)

-- a place without statements
pub named_runs : (s : Scene) (n : ℕ) (u : VarTy) (root : RootTree) (at : Location) (at' : v.Location) (p : t.PlaceTree) → SceneFits s → IsTrue (root_fits s.names root) → root_type s.names root ≡ Some u → ((st : State) → root_location root (context_of s) st ≡ gives at st) →
    ((st : State) → location_of (place root no_steps) (context_of s) st ≡ gives at st) → ((blocks : Blocks) → place_asked s p blocks ≡ Ok at') → at'.block ≡ name_of at.block → at'.cell ≡ at.cell → at'.ty ≡ u →
    IsNext s (IsPlace s u) n (root_location root (context_of s)) [] (place_asked s p)
named_runs s n u root at at' p k h is e1 e2 asks same_block same_cell same_ty st st' al =
    let fit = subst (λ o. Keeps (world_of s) (LocationFits (world_of s) (Some u)) o) (e1 st) (root_keeps root (world_of s) s.names (context_of s) st u k.fits h is al.fits) in
    let lies = subst (λ o. KeepsSizes (world_of s) (sizes_in s) (LiesWithin (world_of s) (sizes_in s)) o) (e2 st) (place_sized (place root no_steps) (world_of s) s.names (context_of s) st u (setup s k) (and_true (root_fits s.names root) h) is al.fits al.sized) in
    subst (λ o. SameAsked (Kept s (below n) st'.memory) (Gives s (below n) st'.memory (IsPlace s u)) (place_asked s p) o (gives goes_on st')) (sym (e1 st)) (
      refl,
      kept_same s (below n) st'.memory,
      subst (λ r1. Same (Gives s (below n) st'.memory (IsPlace s u)) (gives at st) (evaluated r1 st' (λ l1. gives l1))) (sym (asks st'.memory))
          (record { after = record { alike = al; kept = kept_same s (below n) st'.memory }; facts = record { fits = fit.0; within = lies.0; block = same_block; cell = same_cell; ty = same_ty } }),
    )
  where
    and_true : (b : Bool) → b ≡ true → (b && true) ≡ true
    and_true true h = refl
    and_true false h = h

-- by an equal source
pub stage_as : (s : Scene) (u : VarTy) (n : ℕ) (source other : State → Outcome Location) (keeps : Option Temp) (stmts : List StmtTree) (p : t.PlaceTree) → ((st : State) → other st ≡ source st) → StageOf s u n source keeps stmts p → StageOf s u n other keeps stmts p
stage_as s u n source other keeps stmts (t.place (t.local k) path) e1 g = tt
stage_as s u n source other keeps stmts (t.place (t.global k) path) e1 g = tt
stage_as s u n source other None stmts (t.place (t.deref a at) path) e1 g = g
stage_as s u n source other (Some keeps) stmts (t.place (t.deref a at) path) e1 g =
    record { elem = g.elem; fixed = g.fixed; held = g.held; other = g.other; from = g.from; is = λ st fit. e1 st ∙ g.is st fit; runs = g.runs; leads = g.leads; keeps_type = g.keeps_type; type = g.type }

pub found_as : (s : Scene) (u : VarTy) (n : ℕ) (can other : Bool) (source source1 : State → Outcome Location) (p : LoweredPlace) → (IsTrue other → IsTrue can) → ((st : State) → source1 st ≡ source st) → PlaceFound s u n can source p → PlaceFound s u n other source1 p
found_as s u n can other source source1 p up e1 h = record {
  lowered = record {
    named = h.lowered.named;
    type = h.lowered.type;
    runs = next_as s (IsPlace s u) n source source1 p.stmts (place_asked s p.place) e1 h.lowered.runs;
    stage = λ ok. stage_as s u n source source1 p.through p.stmts p.place e1 (h.lowered.stage (up ok));
  };
  keeps = λ st fit. subst (λ o. Keeps (world_of s) (LocationFits (world_of s) (Some u)) o) (sym (e1 st)) (h.keeps st fit);
}

pub found_typed : (s : Scene) (u w : VarTy) (n : ℕ) (can : Bool) (source : State → Outcome Location) (p : LoweredPlace) → u ≡ w → PlaceFound s u n can source p → PlaceFound s w n can source p
found_typed s u w n can source p is h = subst (λ z. PlaceFound s z n can source p) is h

-- a step leads somewhere
pub steps_some : (structs : List StructInfo) (o : Option VarTy) (steps : StepTrees) (ty : VarTy) → steps_type structs o steps ≡ Some ty → (a : VarTy) × (o ≡ Some a)
steps_some structs (Some a) steps ty h = (a, refl)
steps_some structs None steps ty h = absurd (none_leads (sym (steps_none structs steps) ∙ h))
  where
    none_leads : None ≡ Some ty → ⊥
    none_leads e1 = cc

-- the source's step to an element
abbrev pub step_location_of : Scene → ExprTree → Span → Location → State → Outcome Location
step_location_of s ex sp at st = value_of ex (context_of s) st >>= indexed (context_of s) sp at

pub item_integer : (a z : Option VarTy) (w : VarTy) → item_type a (integer_of z) ≡ Some w → ScalarType z
item_integer a (Some (Int u)) w h = record { u = Int u; is = refl; scalar = tt }
item_integer a None w h = cc
item_integer a (Some (Struct n)) w h = cc
item_integer a (Some (Array elem n)) w h = cc
item_integer a (Some (Pointer elem f1)) w h = cc

pub field_found : (s : Scene) (n : ℕ) (can : Bool) (a w : VarTy) (k : ℕ) (source : State → Outcome Location) (far : LoweredPlace) → SceneFits s → f.field_type s.names.structs (Some a) k ≡ Some w → PlaceFound s a n can source far →
    PlaceFound s w n can (λ st. source st >>= λ at. gives (field_at (context_of s) k at)) (field_in (scope_of s) k far)
field_found s n can a w k source far fits is h = record {
  lowered = field_lowered s n can a w k source far fits is h.lowered;
  keeps = λ st fit. keeps_bind (world_of s) (LocationFits (world_of s) (Some a)) (LocationFits (world_of s) (Some w)) (source st) (λ at. gives (field_at (context_of s) k at)) (h.keeps st fit) (λ at st1 l1 m1. (field_lies (world_of s) s.names (context_of s) k a at w fits.fits l1 is, m1));
}

pub item_found : (s : Scene) (n : ℕ) (can : Bool) (a w : VarTy) (ex : ExprTree) (sp : Span) (root : RootTree) (before : List StepTree) (source : State → Outcome Location) (far : LoweredPlace) → SceneFits s → length s.names.vars ≤ n → ValueLaw ex → IsTrue (is_typed s.names ex) → item_type (Some a) (integer_of (ty_of ex)) ≡ Some w →
    HasTemps s.core_variables n (item_next (scope_of s) sp root before far ex n).temps → PlaceFound s a n can source far →
    PlaceFound s w n true (λ st. source st >>= step_location_of s ex sp) (item_next (scope_of s) sp root before far ex n)
item_found s n can a w ex sp root before source far fits from law h is temps g =
    let el = element_step (Some a) (integer_of (ty_of ex)) w is in
    let bt = temps_first s.core_variables n (item_base sp root before far ex n).temps (value_in (scope_of s) ex (past n (item_base sp root before far ex n).temps)).temps temps in
    let vt = temps_rest s.core_variables n (item_base sp root before far ex n).temps (value_in (scope_of s) ex (past n (item_base sp root before far ex n).temps)).temps temps in
    let operand = item_integer (Some a) (ty_of ex) w is in
    let v1 = law s (past n (item_base sp root before far ex n).temps) fits h (not_struct (ty_of ex) operand) (past_from (length s.names.vars) n (item_base sp root before far ex n).temps from) vt in
    let ais : a ≡ Array el.elem el.count = some_same a (Array el.elem el.count) el.from in
    let place1 = (found_typed s a (Array el.elem el.count) n can source far ais g) in
    let fty : far.ty ≡ Array el.elem el.count = g.lowered.named ∙ ais in
    let tyis : decayed_type far.fixed far.ty ≡ Pointer el.elem far.fixed = ap (decayed_type far.fixed) fty in
    let bp : PointerType s (Some (Pointer el.elem far.fixed)) (item_base sp root before far ex n).value =
    held_pointer s n (record { stmts = far.stmts; value = t.decay far.place; temps = far.temps }) (not (is_pure ex)) (holding (decayed_type far.fixed far.ty) (decayed sp (x.place root (x.step_trees before)) far)) (Pointer el.elem far.fixed) tyis bt
    (decay_pointer s el.elem el.count (Some (Pointer el.elem far.fixed)) far.fixed far.place place1.lowered.type refl) in
    let pair = first_then s n (record { stmts = far.stmts; value = t.decay far.place; temps = far.temps }) (not (is_pure ex)) (holding (decayed_type far.fixed far.ty) (decayed sp (x.place root (x.step_trees before)) far)) (IsArray s el.elem el.count) (IsValue s (ty_of ex)) source (value_of ex (context_of s))
    (value_in (scope_of s) ex (past n (item_base sp root before far ex n).temps)).stmts (cell_asked s (value_in (scope_of s) ex (past n (item_base sp root before far ex n).temps)).value) fits from bt (array_runs s n el.elem el.count source far.stmts far.place place1.lowered.runs) v1.runs
    (λ e1. (pure_value ex (scope_of s) (past n (item_base sp root before far ex n).temps) (from_not_false (is_pure ex) e1)).stmts_none) in
    found_typed s (type_of_elem el.elem) w n true (λ st. source st >>= step_location_of s ex sp) (item_next (scope_of s) sp root before far ex n) (sym (some_same w (type_of_elem el.elem) el.to))
    (record {
      lowered = subst (λ z. PlaceLowered s (type_of_elem el.elem) n true (λ st. source st >>= step_location_of s ex sp) (l.element_place sp (decayed sp (x.place root (x.step_trees before)) far) ex z (item_base sp root before far ex n) (value_in (scope_of s) ex (past n (item_base sp root before far ex n).temps)))) (sym tyis)
          (element_lowered s n el.elem el.count (ty_of ex) operand.u far.fixed sp (decayed sp (x.place root (x.step_trees before)) far) ex source (value_of ex (context_of s)) (item_base sp root before far ex n) (value_in (scope_of s) ex (past n (item_base sp root before far ex n).temps)) operand.is place1.keeps bp pair);
      keeps = λ st fit. keeps_bind (world_of s) (LocationFits (world_of s) (Some (Array el.elem el.count))) (LocationFits (world_of s) (Some (type_of_elem el.elem))) (source st) (step_location_of s ex sp) (place1.keeps st fit)
          (λ at st1 l1 m1. keeps_bind (world_of s) (ValueFits (world_of s) (ty_of ex)) (LocationFits (world_of s) (Some (type_of_elem el.elem))) (value_of ex (context_of s) st1) (indexed (context_of s) sp at) (value_fits ex (world_of s) s.names (context_of s) st1 fits.fits h m1)
          (λ w1 st2 q m2. element_lies (world_of s) (context_of s) sp at el.elem el.count w1 st2 l1 m2));
    })

-- ---- places of assigned objects

pub place_settled : (s : Scene) (ex : ExprTree) (n j : ℕ) (stmts : List StmtTree) (p : t.PlaceTree) → SceneFits s → IsTrue (root_fits s.names (x.assigned ex)) → root_type s.names (x.assigned ex) ≡ Some (Struct j) → IsNear s (IsPlace s (Struct j)) n (assigned_location ex (context_of s)) stmts (place_asked s p) →
    IsNext s (IsPlace s (Struct j)) n (assigned_location ex (context_of s)) stmts (place_asked s p)
place_settled s ex n j stmts p k h is near1 st st' al =
    asked_settled s n st'.memory (IsPlace s (Struct j)) (IsPlace s (Struct j)) (LocationFits (world_of s) (Some (Struct j))) (LiesWithin (world_of s) (sizes_in s)) (place_asked s p) (assigned_location ex (context_of s) st) (run_all s stmts st') (near1 st st' al)
    (root_keeps (x.assigned ex) (world_of s) s.names (context_of s) st (Struct j) k.fits h is al.fits)
    (subst (λ o. KeepsSizes (world_of s) (sizes_in s) (LiesWithin (world_of s) (sizes_in s)) o) (bind_gives (assigned_location ex (context_of s) st))
    (place_sized (place (x.assigned ex) no_steps) (world_of s) s.names (context_of s) st (Struct j) (setup s k) (and_true (is_typed s.names ex) h) is al.fits al.sized)) (λ a1 x1 q t1 u1. q)
  where
    and_true : (b : Bool) → b ≡ true → (b && true) ≡ true
    and_true true h = refl
    and_true false h = h

-- ---- assigned objects

-- the left object of an assignment of structs
pub assigned_found : (p : PlaceTree) (a : ExprTree) → PlaceLaw p → ObjectLaw a → (at : Span) (ty : Option VarTy) (s : Scene) (n j : ℕ) → SceneFits s → IsTrue (form_fits s.names (x.assign p a) ty) → ty ≡ Some (Struct j) → length s.names.vars ≤ n → HasTemps s.core_variables n (object_in (scope_of s) (typed at ty (x.assign p a)) n).temps →
    PlaceLowered s (Struct j) n false (assigned_location (typed at ty (x.assign p a)) (context_of s)) (object_in (scope_of s) (typed at ty (x.assign p a)) n)
assigned_found p a lp la at ty s n j k h is from temps =
    let q = assign_kinds s p a ty h in
    let whole1 = ap l.is_struct is in
    let ts = subst (λ z. HasTemps s.core_variables n (l.assigned z (fixed_if true n (place_in (scope_of s) p n)) (object_in (scope_of s) a (past n (fixed_if true n (place_in (scope_of s) p n)).temps)) (value_in (scope_of s) a (past n (fixed_if true n (place_in (scope_of s) p n)).temps))).temps) whole1 temps in
    let t1 = temps_first s.core_variables n (fixed_if true n (place_in (scope_of s) p n)).temps (object_in (scope_of s) a (past n (fixed_if true n (place_in (scope_of s) p n)).temps)).temps ts in
    let pl = lp s n (Struct j) k q.there (q.place_is ∙ is) from (fixed_first s.core_variables n true (place_in (scope_of s) p n) t1) in
    let pr = objects_paired s n j true p a k from true_not_false q.can q.typed_a (q.a_is ∙ is) ts pl la in
    subst (λ z. PlaceLowered s (Struct j) n false (assigned_location (typed at ty (x.assign p a)) (context_of s)) (l.assigned z (fixed_if true n (place_in (scope_of s) p n)) (object_in (scope_of s) a (past n (fixed_if true n (place_in (scope_of s) p n)).temps)) (value_in (scope_of s) a (past n (fixed_if true n (place_in (scope_of s) p n)).temps)))) (sym whole1)
    (record {
      named = fixed_type n true (place_in (scope_of s) p n) ∙ pl.named;
      type = fixed_place_type s n (Struct j) (Struct j) (place_in (scope_of s) p n) (location_of p (context_of s)) t1 pl.type (pl.stage q.can);
      runs = place_settled s (typed at ty (x.assign p a)) n j (((fixed_if true n (place_in (scope_of s) p n)).stmts ++ (object_in (scope_of s) a (past n (fixed_if true n (place_in (scope_of s) p n)).temps)).stmts) ++ t.copy (fixed_if true n (place_in (scope_of s) p n)).place (object_in (scope_of s) a (past n (fixed_if true n (place_in (scope_of s) p n)).temps)).place ∷ []) (fixed_if true n (place_in (scope_of s) p n)).place k h (ap (λ z. assigned_type (typed at z (x.assign p a))) is)
          (copied_place s n (past n (fixed_if true n (place_in (scope_of s) p n)).temps) j (location_of p (context_of s)) (value_of a (context_of s)) ((fixed_if true n (place_in (scope_of s) p n)).stmts ++ (object_in (scope_of s) a (past n (fixed_if true n (place_in (scope_of s) p n)).temps)).stmts) (fixed_if true n (place_in (scope_of s) p n)).place (object_in (scope_of s) a (past n (fixed_if true n (place_in (scope_of s) p n)).temps)).place k
          (fixed_on_temps s n (Struct j) (location_of p (context_of s)) (place_in (scope_of s) p n) (own_from s n k from) (pl.stage q.can)) pr);
      stage = λ ok. false_not_true ok;
    })

pub assigned_object : (p : PlaceTree) (a : ExprTree) → PlaceLaw p → ObjectLaw a → (at : Span) (ty : Option VarTy) → ObjectLaw (typed at ty (x.assign p a))
assigned_object p a lp la at ty s n j k h is from temps =
    let q = assign_kinds s p a ty h in
    let whole1 = ap l.is_struct is in
    let ts = subst (λ z. HasTemps s.core_variables n (l.assigned z (fixed_if true n (place_in (scope_of s) p n)) (object_in (scope_of s) a (past n (fixed_if true n (place_in (scope_of s) p n)).temps)) (value_in (scope_of s) a (past n (fixed_if true n (place_in (scope_of s) p n)).temps))).temps) whole1 temps in
    let t1 = temps_first s.core_variables n (fixed_if true n (place_in (scope_of s) p n)).temps (object_in (scope_of s) a (past n (fixed_if true n (place_in (scope_of s) p n)).temps)).temps ts in
    let pl = lp s n (Struct j) k q.there (q.place_is ∙ is) from (fixed_first s.core_variables n true (place_in (scope_of s) p n) t1) in
    let pr = objects_paired s n j true p a k from true_not_false q.can q.typed_a (q.a_is ∙ is) ts pl la in
    subst (λ z. IsNext s (IsObject s j) n (value_of (typed at ty (x.assign p a)) (context_of s)) (l.assigned z (fixed_if true n (place_in (scope_of s) p n)) (object_in (scope_of s) a (past n (fixed_if true n (place_in (scope_of s) p n)).temps)) (value_in (scope_of s) a (past n (fixed_if true n (place_in (scope_of s) p n)).temps))).stmts
    (object_asked s (l.assigned z (fixed_if true n (place_in (scope_of s) p n)) (object_in (scope_of s) a (past n (fixed_if true n (place_in (scope_of s) p n)).temps)) (value_in (scope_of s) a (past n (fixed_if true n (place_in (scope_of s) p n)).temps))).place j)) (sym whole1)
    (object_settled s (typed at ty (x.assign p a)) n j (((fixed_if true n (place_in (scope_of s) p n)).stmts ++ (object_in (scope_of s) a (past n (fixed_if true n (place_in (scope_of s) p n)).temps)).stmts) ++ t.copy (fixed_if true n (place_in (scope_of s) p n)).place (object_in (scope_of s) a (past n (fixed_if true n (place_in (scope_of s) p n)).temps)).place ∷ []) (fixed_if true n (place_in (scope_of s) p n)).place k h is
    (copied_object s n (past n (fixed_if true n (place_in (scope_of s) p n)).temps) j (location_of p (context_of s)) (value_of a (context_of s)) ((fixed_if true n (place_in (scope_of s) p n)).stmts ++ (object_in (scope_of s) a (past n (fixed_if true n (place_in (scope_of s) p n)).temps)).stmts) (fixed_if true n (place_in (scope_of s) p n)).place (object_in (scope_of s) a (past n (fixed_if true n (place_in (scope_of s) p n)).temps)).place k
    (fixed_on_temps s n (Struct j) (location_of p (context_of s)) (place_in (scope_of s) p n) (own_from s n k from) (pl.stage q.can)) pr))

-- ---- what the laws of the parts say

abbrev pub LinksLaw : LinkTrees → Type 0
LinksLaw links = (s : Scene) (n : ℕ) (first : ExprTree) (before : List LinkTree) (sp : Span) (u : VarTy) (ty : Option VarTy) (far : Lowered) (source : State → Outcome Value) → SceneFits s → length s.names.vars ≤ n → IsTrue (links_fit s.names (Some u) links ty) →
    HasTemps s.core_variables n (links_in (scope_of s) links first before sp u far n).temps → ChainLowered s n (Some u) source far → ChainLowered s n ty (λ st. source st >>= λ w. links_value links u w (context_of s)) (links_in (scope_of s) links first before sp u far n)

abbrev pub OperandsLaw : OperandTrees → Type 0
OperandsLaw operands = (s : Scene) (n : ℕ) (op : LogicalOp) (j : ℕ) (far : Effects) (source : State → Outcome Bool) → SceneFits s → length s.names.vars ≤ n → n ≤ j → j ≤ past n far.temps → slice_get s.core_variables j ≡ Some int → IsTrue (operands_fit s.names operands) →
    HasTemps s.core_variables n (operands_in (scope_of s) operands op j far n).temps → IsTruthSoFar s n j source far.stmts →
    IsNext s (SameCell (Some int)) n (λ st. source st >>= λ z. operands_value operands op z (context_of s)) (operands_in (scope_of s) operands op j far n).stmts (cell_asked s (temp j))

abbrev pub RootLaw : RootTree → Type 0
RootLaw root = (s : Scene) (n : ℕ) (u : VarTy) → SceneFits s → IsTrue (root_fits s.names root) → root_type s.names root ≡ Some u → length s.names.vars ≤ n → HasTemps s.core_variables n (root_in (scope_of s) root n).temps →
    PlaceFound s u n (can_root root) (root_location root (context_of s)) (root_in (scope_of s) root n)

abbrev pub AssignedLaw : ExprTree → Type 0
AssignedLaw b = (s : Scene) (n : ℕ) (u : VarTy) → SceneFits s → IsTrue (is_typed s.names b) → assigned_type b ≡ Some u → length s.names.vars ≤ n → HasTemps s.core_variables n (object_in (scope_of s) b n).temps →
    PlaceLowered s u n false (assigned_location b (context_of s)) (object_in (scope_of s) b n)

abbrev pub StepsLaw : StepTrees → Type 0
StepsLaw steps = (s : Scene) (n : ℕ) (can : Bool) (a ty : VarTy) (root : RootTree) (before : List StepTree) (source : State → Outcome Location) (far : LoweredPlace) → SceneFits s → length s.names.vars ≤ n → IsTrue (steps_fit s.names steps) → steps_type s.names.structs (Some a) steps ≡ Some ty →
    HasTemps s.core_variables n (steps_in (scope_of s) steps root before far n).temps → PlaceFound s a n can source far → PlaceFound s ty n (can_after can steps) (λ st. source st >>= λ at. steps_location steps at (context_of s)) (steps_in (scope_of s) steps root before far n)

abbrev pub FormEffectsLaw : FormTree → Type 0
FormEffectsLaw form = (at : Span) (ty : Option VarTy) (s : Scene) (n : ℕ) → SceneFits s → IsTrue (form_fits s.names form ty) → length s.names.vars ≤ n → HasTemps s.core_variables n (effects_in (scope_of s) (typed at ty form) n).temps →
    RunsNear s n (value_of (typed at ty form) (context_of s)) (effects_in (scope_of s) (typed at ty form) n).stmts

-- ---- chains and truths

chain_operand : (s : Scene) (a : Option VarTy) (links : LinkTrees) (ty : Option VarTy) → has_links links ≡ true → IsTrue (links_fit s.names a links ty) → ScalarType a
chain_operand s a no_links ty h k = false_not_true h
chain_operand s a (link_and (link at to step ex) rest) ty h k =
    let more = both_hold_second (is_typed s.names ex) (same_types (r.stepped a step (ty_of ex)) (Some to) && links_fit s.names (Some to) rest ty) k in
    link_first a (ty_of ex) step to (equal_options (r.stepped a step (ty_of ex)) (Some to) (both_hold_first (same_types (r.stepped a step (ty_of ex)) (Some to)) (links_fit s.names (Some to) rest ty) more))

pub chain_law : (a : ExprTree) (links : LinkTrees) → ValueLaw a → LinksLaw links → FormLaw (x.chain a links)
chain_law a links la ll at ty s n k h ns from temps =
    let is = both_hold_second (is_typed s.names a) (has_links links && links_fit s.names (ty_of a) links ty) h in
    let fit = both_hold_second (has_links links) (links_fit s.names (ty_of a) links ty) is in
    let st = chain_operand s (ty_of a) links ty (both_hold_first (has_links links) (links_fit s.names (ty_of a) links ty) is) fit in
    let sc = scalar_expr a st in
    let ta = links_first links (scope_of s) s.core_variables a [] at (e.type_of a) (value_in (scope_of s) a n) n temps in
    let va = la s n k (both_hold_first (is_typed s.names a) (has_links links && links_fit s.names (ty_of a) links ty) h) (not_struct (ty_of a) st) from ta in
    let c0 = ll s n a [] at (e.type_of a) ty (value_in (scope_of s) a n) (value_of a (context_of s)) k from (subst (λ z. IsTrue (links_fit s.names z links ty)) sc.is fit) temps
    (record { type = subst (λ z. PointerType s z (value_in (scope_of s) a n).value) sc.is va.type; runs = value_cell s n (ty_of a) (Some (e.type_of a)) (value_of a (context_of s)) (value_in (scope_of s) a n).stmts (cell_asked s (value_in (scope_of s) a n).value) sc.is va.runs }) in
    record {
      type = c0.type;
      runs = value_settled s (typed at ty (x.chain a links)) n (form_in (scope_of s) (x.chain a links) at ty n).stmts (cell_asked s (form_in (scope_of s) (x.chain a links) at ty n).value) k h
          (nearly s (SameCell ty) n (value_of (typed at ty (x.chain a links)) (context_of s)) (form_in (scope_of s) (x.chain a links) at ty n).stmts (cell_asked s (form_in (scope_of s) (x.chain a links) at ty n).value) c0.runs);
    }

pub later : (n j : ℕ) (xs ys : List Temp) → j ≤ past n xs → j ≤ past n (xs ++ ys)
later n j xs ys h = let e1 = length-append xs ys in omega (arith, e1, h)

int_pointer : {X : Type 0} (ty : Option VarTy) (elem : _) (fixed : Bool) → ty ≡ r.int → ty ≡ Some (Pointer elem fixed) → X
int_pointer ty elem fixed p q = absurd (clash (sym p ∙ q))
  where
    clash : r.int ≡ Some (Pointer elem fixed) → ⊥
    clash h = cc

pub logical_law : (op : LogicalOp) (a : ExprTree) (others : OperandTrees) → ValueLaw a → OperandsLaw others → FormLaw (x.logical op a others)
logical_law op a others la lo1 at ty s n k h ns from temps =
    let first = both_hold_first (is_typed s.names a && is_scalar (ty_of a)) ((has_operands others && operands_fit s.names others) && same_types ty r.int) h in
    let rest = both_hold_second (is_typed s.names a && is_scalar (ty_of a)) ((has_operands others && operands_fit s.names others) && same_types ty r.int) h in
    let all1 = both_hold_second (has_operands others) (operands_fit s.names others) (both_hold_first (has_operands others && operands_fit s.names others) (same_types ty r.int) rest) in
    let is = equal_options ty r.int (both_hold_second (has_operands others && operands_fit s.names others) (same_types ty r.int) rest) in
    let st = scalar_type (ty_of a) (both_hold_second (is_typed s.names a) (is_scalar (ty_of a)) first) in
    let sc = scalar_expr a st in
    let whole1 = typed at ty (x.logical op a others) in
    let ts = operands_first others (scope_of s) s.core_variables op (past n (value_in (scope_of s) a n).temps) (started (typed at ty (x.logical op a others)) (past n (value_in (scope_of s) a n).temps) (e.type_of a) at (value_in (scope_of s) a n)) n temps in
    let there = temp_there s.core_variables n (value_in (scope_of s) a n).temps (holding int (typed at ty (x.logical op a others))) [] ts in
    let va = la s n k (both_hold_first (is_typed s.names a) (is_scalar (ty_of a)) first) (not_struct (ty_of a) st) from (temps_first s.core_variables n (value_in (scope_of s) a n).temps (holding int (typed at ty (x.logical op a others)) ∷ []) ts) in
    let held = truth_held s n n (past n (value_in (scope_of s) a n).temps) (e.type_of a) int at (value_of a (context_of s)) (value_in (scope_of s) a n).stmts (value_in (scope_of s) a n).value k (past_from (length s.names.vars) n (value_in (scope_of s) a n).temps from) (omega arith) (omega arith) there sc.scalar
    (value_typed s n (ty_of a) (Some (e.type_of a)) (value_of a (context_of s)) (value_in (scope_of s) a n).stmts (cell_asked s (value_in (scope_of s) a n).value) sc.is va.runs) in
    let c0 = lo1 s n op (past n (value_in (scope_of s) a n).temps) (started (typed at ty (x.logical op a others)) (past n (value_in (scope_of s) a n).temps) (e.type_of a) at (value_in (scope_of s) a n)) (λ st1. value_of a (context_of s) st1 >>= λ w. gives (is_true w)) k from (omega arith) (later n (past n (value_in (scope_of s) a n).temps) (value_in (scope_of s) a n).temps (holding int (typed at ty (x.logical op a others)) ∷ []) (omega arith)) there all1 temps held in
    record {
      type = λ elem fixed e1. int_pointer ty elem fixed is e1;
      runs = settled_as s (typed at ty (x.logical op a others)) int n (form_in (scope_of s) (x.logical op a others) at ty n).stmts (cell_asked s (temp (past n (value_in (scope_of s) a n).temps))) k h is
          (nearly s (SameCell (Some int)) n (value_of (typed at ty (x.logical op a others)) (context_of s)) (form_in (scope_of s) (x.logical op a others) at ty n).stmts (cell_asked s (temp (past n (value_in (scope_of s) a n).temps)))
          (next_as s (SameCell (Some int)) n (λ st1. (value_of a (context_of s) st1 >>= λ w. gives (is_true w)) >>= λ z. operands_value others op z (context_of s)) (value_of (typed at ty (x.logical op a others)) (context_of s)) (form_in (scope_of s) (x.logical op a others) at ty n).stmts (cell_asked s (temp (past n (value_in (scope_of s) a n).temps)))
          (λ st1. sym (bind_bind (value_of a (context_of s) st1) (λ w. gives (is_true w)) (λ z. operands_value others op z (context_of s)))) c0));
    }

-- ---- types that are no struct's

step_result : (a z : Option VarTy) (step : LinkStep) (to : VarTy) → r.stepped a step z ≡ Some to → is_struct (Some to) ≡ false
step_result a z (Arithmetic op t1) to h = ap (λ w. is_struct (Some w)) (sym (arithmetic_int op t1 (integer_of a) (integer_of z) to h).1)
step_result a z (Shift back) to h = ap (λ w. is_struct (Some w)) (sym (shift_int (integer_of a) (integer_of z) to h).1)
step_result a z (Move back) to h = ap (λ w. is_struct (Some w)) (sym (moved_is a z to h).gives)
step_result a z MoveBy to h = ap (λ w. is_struct (Some w)) (sym (moved_is z a to h).gives)
step_result a z Difference to h = ap (λ w. is_struct (Some w)) (sym (when (both_elem (pointee_of a) (pointee_of z)) (Int i.Long) to h))
step_result a z (Compare op) to h = ap (λ w. is_struct (Some w)) (sym (when (r.is_comparison op && both_elem (pointee_of a) (pointee_of z)) (Int i.Int) to h))

struct_clash : {X : Type 0} (t1 : Option VarTy) (j : ℕ) (u : IntType) → t1 ≡ Some (Struct j) → t1 ≡ Some (Int u) → X
struct_clash t1 j u p q = absurd (clash (sym p ∙ q))
  where
    clash : Some (Struct j) ≡ Some (Int u) → ⊥
    clash h = cc

no_struct_unary : (op : UnOp) (a : Option VarTy) (j : ℕ) → unary_fits op a (Some (Struct j)) ≡ true → ⊥
no_struct_unary Minus a j h = let p = same_promoted_is a (Some (Struct j)) h in struct_clash (Some (Struct j)) j p.1 refl p.3
no_struct_unary Plus a j h = let p = same_promoted_is a (Some (Struct j)) h in struct_clash (Some (Struct j)) j p.1 refl p.3
no_struct_unary Flip a j h = let p = same_promoted_is a (Some (Struct j)) h in struct_clash (Some (Struct j)) j p.1 refl p.3
no_struct_unary Not a j h = struct_clash (Some (Struct j)) j i.Int refl (equal_options (Some (Struct j)) r.int (both_hold_second (is_scalar a) (same_types (Some (Struct j)) r.int) h))

of_scalar : (t1 : Option VarTy) → is_scalar t1 ≡ true → is_struct t1 ≡ false
of_scalar (Some (Int u)) h = refl
of_scalar (Some (Pointer elem fixed)) h = refl
of_scalar None h = refl
of_scalar (Some (Struct n)) h = false_not_true h
of_scalar (Some (Array elem count)) h = refl

of_converts : (a t1 : Option VarTy) → converts a t1 ≡ true → is_struct t1 ≡ false
of_converts a None h = refl
of_converts a (Some u) h = of_scalar (Some u) (converts_scalar a u h)

of_constant : (z : ℤ) (t1 : Option VarTy) → f.constant_fits z (integer_of t1) ≡ true → is_struct t1 ≡ false
of_constant z None h = refl
of_constant z (Some (Int u)) h = refl
of_constant z (Some (Pointer elem fixed)) h = refl
of_constant z (Some (Array elem count)) h = refl
of_constant z (Some (Struct n)) h = false_not_true h

of_null : (n : ℕ) (t1 : Option VarTy) → f.is_elem n (pointee_of t1) ≡ true → is_struct t1 ≡ false
of_null n None h = refl
of_null n (Some (Int u)) h = refl
of_null n (Some (Pointer elem fixed)) h = refl
of_null n (Some (Array elem count)) h = refl
of_null n (Some (Struct k)) h = false_not_true h

of_none : (t1 : Option VarTy) → is_none t1 ≡ true → is_struct t1 ≡ false
of_none None h = refl
of_none (Some u) h = false_not_true h

of_arm : (t1 : Option VarTy) → is_arm t1 ≡ true → is_struct t1 ≡ false
of_arm None h = refl
of_arm (Some (Int u)) h = refl
of_arm (Some (Pointer elem fixed)) h = refl
of_arm (Some (Array elem count)) h = refl
of_arm (Some (Struct n)) h = false_not_true h

of_result : (o : Option IntType) → is_struct (option_map Int o) ≡ false
of_result None = refl
of_result (Some u) = refl

pub unary_struct : (op : UnOp) (a : ExprTree) (ty : Option VarTy) (s : Scene) → IsTrue (form_fits s.names (x.unary op a) ty) → is_struct ty ≡ false
unary_struct op a ty s h = of_unary op (ty_of a) ty (both_hold_second (is_typed s.names a) (unary_fits op (ty_of a) ty) h)
  where
    of_unary : (op : UnOp) (a t1 : Option VarTy) → unary_fits op a t1 ≡ true → is_struct t1 ≡ false
    of_unary op a None h = refl
    of_unary op a (Some (Int u)) h = refl
    of_unary op a (Some (Array elem count)) h = refl
    of_unary op a (Some (Pointer elem fixed)) h = refl
    of_unary op a (Some (Struct j)) h = absurd (no_struct_unary op a j h)

link_result : (s : Scene) (a : Option VarTy) (links : LinkTrees) (ty : Option VarTy) → has_links links ≡ true → IsTrue (links_fit s.names a links ty) → is_struct ty ≡ false
link_result s a no_links ty h k = false_not_true h
link_result s a (link_and (link at to step ex) no_links) ty h k =
    let more = both_hold_second (is_typed s.names ex) (same_types (r.stepped a step (ty_of ex)) (Some to) && same_types (Some to) ty) k in
    ap is_struct (sym (equal_options (Some to) ty (both_hold_second (same_types (r.stepped a step (ty_of ex)) (Some to)) (same_types (Some to) ty) more)))
    ∙ step_result a (ty_of ex) step to (equal_options (r.stepped a step (ty_of ex)) (Some to) (both_hold_first (same_types (r.stepped a step (ty_of ex)) (Some to)) (same_types (Some to) ty) more))
link_result s a (link_and (link at to step ex) (link_and l1 rest)) ty h k =
    link_result s (Some to) (link_and l1 rest) ty refl (both_hold_second (same_types (r.stepped a step (ty_of ex)) (Some to)) (links_fit s.names (Some to) (link_and l1 rest) ty) (both_hold_second (is_typed s.names ex) (same_types (r.stepped a step (ty_of ex)) (Some to) && links_fit s.names (Some to) (link_and l1 rest) ty) k))

pub chain_struct : (a : ExprTree) (links : LinkTrees) (ty : Option VarTy) (s : Scene) → IsTrue (form_fits s.names (x.chain a links) ty) → is_struct ty ≡ false
chain_struct a links ty s h =
    let is = both_hold_second (is_typed s.names a) (has_links links && links_fit s.names (ty_of a) links ty) h in
    link_result s (ty_of a) links ty (both_hold_first (has_links links) (links_fit s.names (ty_of a) links ty) is) (both_hold_second (has_links links) (links_fit s.names (ty_of a) links ty) is)

pub logical_struct : (op : LogicalOp) (a : ExprTree) (others : OperandTrees) (ty : Option VarTy) (s : Scene) → IsTrue (form_fits s.names (x.logical op a others) ty) → is_struct ty ≡ false
logical_struct op a others ty s h =
    ap is_struct (equal_options ty r.int (both_hold_second (has_operands others && operands_fit s.names others) (same_types ty r.int) (both_hold_second (is_typed s.names a && is_scalar (ty_of a)) ((has_operands others && operands_fit s.names others) && same_types ty r.int) h)))

-- ---- dropped values

pub logical_runs : (op : LogicalOp) (a : ExprTree) (others : OperandTrees) (at : Span) (ty : Option VarTy) (s : Scene) (n : ℕ) → ValueLowered s ty n (value_of (typed at ty (x.logical op a others)) (context_of s)) (form_in (scope_of s) (x.logical op a others) at ty n) →
    RunsNear s n (value_of (typed at ty (x.logical op a others)) (context_of s)) (form_in (scope_of s) (x.logical op a others) at ty n).stmts
logical_runs op a others at ty s n v1 =
    near_runs s n (IsValue s ty) (cell_asked s (temp (past n (value_in (scope_of s) a n).temps))) (λ blocks. slice_index_or (blocks (Local s.frame.depth (past n (value_in (scope_of s) a n).temps))).cells 0 (cell.Int (pos 0))) (value_of (typed at ty (x.logical op a others)) (context_of s)) (form_in (scope_of s) (x.logical op a others) at ty n).stmts (λ blocks. refl)
    (nearly s (IsValue s ty) n (value_of (typed at ty (x.logical op a others)) (context_of s)) (form_in (scope_of s) (x.logical op a others) at ty n).stmts (cell_asked s (temp (past n (value_in (scope_of s) a n).temps))) v1.runs)

pub read_runs_law : (p : PlaceTree) → PlaceLaw p → FormEffectsLaw (x.read p)
read_runs_law p lp at ty s n k h from temps =
    let is = both_hold_second (place_fits s.names p) (same_types (place_type s.names p) ty && is_value ty) h in
    let u = some_of ty (both_hold_second (same_types (place_type s.names p) ty) (is_value ty) is) in
    let pl = lp s n u.0 k (both_hold_first (place_fits s.names p) (same_types (place_type s.names p) ty && is_value ty) h) (equal_options (place_type s.names p) ty (both_hold_first (same_types (place_type s.names p) ty) (is_value ty) is) ∙ u.1) from temps in
    checked_runs s n u.0 (location_of p (context_of s)) (λ l1 st1. e.loaded (context_of s) l1 l1.ty st1) (place_in (scope_of s) p n).stmts (place_in (scope_of s) p n).place pl.runs

pub decay_runs_law : (p : PlaceTree) → PlaceLaw p → FormEffectsLaw (x.decay p)
decay_runs_law p lp at ty s n k h from temps =
    let is = both_hold_first (both_elem (item_of (place_type s.names p)) (pointee_of ty)) (f.keeps_const (place_const s.names p) ty) (both_hold_second (place_fits s.names p) (both_elem (item_of (place_type s.names p)) (pointee_of ty) && f.keeps_const (place_const s.names p) ty) h) in
    let a = array_of (place_type s.names p) ty is in
    let pl = lp s n (Array a.elem a.count) k (both_hold_first (place_fits s.names p) (both_elem (item_of (place_type s.names p)) (pointee_of ty) && f.keeps_const (place_const s.names p) ty) h) a.from from temps in
    checked_runs s n (Array a.elem a.count) (location_of p (context_of s)) (λ l1 st1. holds (e.decayed l1 l1.ty)) (place_in (scope_of s) p n).stmts (place_in (scope_of s) p n).place pl.runs

pub address_runs_law : (p : PlaceTree) → PlaceLaw p → FormEffectsLaw (x.address p)
address_runs_law p lp at ty s n k h from temps =
    let rest = both_hold_second (place_fits s.names p) (f.is_addressed p && (both_elem (element_of (place_type s.names p)) (pointee_of ty) && f.keeps_const (place_const s.names p) ty)) h in
    let is = both_hold_first (both_elem (element_of (place_type s.names p)) (pointee_of ty)) (f.keeps_const (place_const s.names p) ty) (both_hold_second (f.is_addressed p) (both_elem (element_of (place_type s.names p)) (pointee_of ty) && f.keeps_const (place_const s.names p) ty) rest) in
    let o = object_of (place_type s.names p) ty is in
    let pl = lp s n (type_of_elem o.elem) k (both_hold_first (place_fits s.names p) (f.is_addressed p && (both_elem (element_of (place_type s.names p)) (pointee_of ty) && f.keeps_const (place_const s.names p) ty)) h) o.from from temps in
    checked_runs s n (type_of_elem o.elem) (location_of p (context_of s)) (λ l1 st1. holds (e.address_of l1)) (place_in (scope_of s) p n).stmts (place_in (scope_of s) p n).place pl.runs

pub choice_runs_law : (a b d : ExprTree) → ValueLaw a → EffectsLaw b → EffectsLaw d → FormEffectsLaw (x.choice a b d)
choice_runs_law a b d la lb ld at ty s n k h from temps =
    let test = both_hold_first (is_typed s.names a && is_scalar (ty_of a)) ((is_typed s.names b && same_types (ty_of b) ty) && ((is_typed s.names d && same_types (ty_of d) ty) && is_arm ty)) h in
    let arms = both_hold_second (is_typed s.names a && is_scalar (ty_of a)) ((is_typed s.names b && same_types (ty_of b) ty) && ((is_typed s.names d && same_types (ty_of d) ty) && is_arm ty)) h in
    let hb = both_hold_first (is_typed s.names b) (same_types (ty_of b) ty) (both_hold_first (is_typed s.names b && same_types (ty_of b) ty) ((is_typed s.names d && same_types (ty_of d) ty) && is_arm ty) arms) in
    let hd = both_hold_first (is_typed s.names d) (same_types (ty_of d) ty) (both_hold_first (is_typed s.names d && same_types (ty_of d) ty) (is_arm ty) (both_hold_second (is_typed s.names b && same_types (ty_of b) ty) ((is_typed s.names d && same_types (ty_of d) ty) && is_arm ty) arms)) in
    let st = scalar_type (ty_of a) (both_hold_second (is_typed s.names a) (is_scalar (ty_of a)) test) in
    let sc = scalar_expr a st in
    let t3 = temps_first s.core_variables n (((value_in (scope_of s) a n).temps ++ []) ++ (effects_in (scope_of s) b (past n (value_in (scope_of s) a n).temps)).temps) (effects_in (scope_of s) d (past (past n (value_in (scope_of s) a n).temps) (effects_in (scope_of s) b (past n (value_in (scope_of s) a n).temps)).temps)).temps temps in
    let t2 = temps_first s.core_variables n ((value_in (scope_of s) a n).temps ++ []) (effects_in (scope_of s) b (past n (value_in (scope_of s) a n).temps)).temps t3 in
    let t1 = temps_first s.core_variables n (value_in (scope_of s) a n).temps [] t2 in
    let tb = subst (λ z. HasTemps s.core_variables z (effects_in (scope_of s) b (past n (value_in (scope_of s) a n).temps)).temps) (ap (past n) (append_nil (value_in (scope_of s) a n).temps)) (temps_rest s.core_variables n ((value_in (scope_of s) a n).temps ++ []) (effects_in (scope_of s) b (past n (value_in (scope_of s) a n).temps)).temps t3) in
    let td = subst (λ z. HasTemps s.core_variables z (effects_in (scope_of s) d (past (past n (value_in (scope_of s) a n).temps) (effects_in (scope_of s) b (past n (value_in (scope_of s) a n).temps)).temps)).temps)
    (ap (λ xs. past n (xs ++ (effects_in (scope_of s) b (past n (value_in (scope_of s) a n).temps)).temps)) (append_nil (value_in (scope_of s) a n).temps) ∙ past_append n (value_in (scope_of s) a n).temps (effects_in (scope_of s) b (past n (value_in (scope_of s) a n).temps)).temps)
    (temps_rest s.core_variables n (((value_in (scope_of s) a n).temps ++ []) ++ (effects_in (scope_of s) b (past n (value_in (scope_of s) a n).temps)).temps) (effects_in (scope_of s) d (past (past n (value_in (scope_of s) a n).temps) (effects_in (scope_of s) b (past n (value_in (scope_of s) a n).temps)).temps)).temps temps) in
    let va = la s n k (both_hold_first (is_typed s.names a) (is_scalar (ty_of a)) test) (not_struct (ty_of a) st) from t1 in
    choice_runs s n (past n (value_in (scope_of s) a n).temps) (past (past n (value_in (scope_of s) a n).temps) (effects_in (scope_of s) b (past n (value_in (scope_of s) a n).temps)).temps) (e.type_of a) (value_of a (context_of s)) (value_of b (context_of s)) (value_of d (context_of s)) (value_in (scope_of s) a n).stmts
    (effects_in (scope_of s) b (past n (value_in (scope_of s) a n).temps)).stmts (effects_in (scope_of s) d (past (past n (value_in (scope_of s) a n).temps) (effects_in (scope_of s) b (past n (value_in (scope_of s) a n).temps)).temps)).stmts (value_in (scope_of s) a n).value sc.scalar (omega arith) (omega arith)
    (value_typed s n (ty_of a) (Some (e.type_of a)) (value_of a (context_of s)) (value_in (scope_of s) a n).stmts (cell_asked s (value_in (scope_of s) a n).value) sc.is va.runs)
    (lb s (past n (value_in (scope_of s) a n).temps) k hb (omega (arith, from)) tb) (ld s (past (past n (value_in (scope_of s) a n).temps) (effects_in (scope_of s) b (past n (value_in (scope_of s) a n).temps)).temps) k hd (omega (arith, from)) td)

pub assign_runs_law : (p : PlaceTree) (a : ExprTree) → PlaceLaw p → ValueLaw a → ObjectLaw a → FormEffectsLaw (x.assign p a)
assign_runs_law p a lp la lo1 at ty s n k h from temps = go (some_of ty (assign_kinds s p a ty h).value)
  where
    of_type : (u : VarTy) → ty ≡ Some u → is_value (Some u) ≡ true → RunsNear s n (value_of (typed at ty (x.assign p a)) (context_of s)) (effects_in (scope_of s) (typed at ty (x.assign p a)) n).stmts
    of_type (Int z) is v1 = assign_scalar_runs p a lp la at ty s n (Int z) k h is tt from temps
    of_type (Pointer elem fixed) is v1 = assign_scalar_runs p a lp la at ty s n (Pointer elem fixed) k h is tt from temps
    of_type (Struct j) is v1 = assign_struct_runs p a lp lo1 at ty s n j k h is from temps
    of_type (Array elem count) is v1 = false_not_true v1

    go : (u : VarTy) × (ty ≡ Some u) → RunsNear s n (value_of (typed at ty (x.assign p a)) (context_of s)) (effects_in (scope_of s) (typed at ty (x.assign p a)) n).stmts
    go u = of_type u.0 u.1 (sym (ap is_value u.1) ∙ (assign_kinds s p a ty h).value)

pub step_runs_law : (p : PlaceTree) (sp : Span) (back postfix : Bool) → PlaceLaw p → FormEffectsLaw (x.step p sp back postfix)
step_runs_law p sp back postfix lp at ty s n k h from temps =
    let q = step_kinds s p sp back postfix ty h in
    let ts = temps_first s.core_variables n (place_in (scope_of s) p n).temps [] temps in
    let pl = lp s n q.scalar.u k q.there (q.place_is ∙ q.scalar.is) from ts in
    subst (λ z. RunsNear s n (value_of (typed at ty (x.step p sp back postfix)) (context_of s)) (((place_in (scope_of s) p n).stmts ++ []) ++ t.assign (place_in (scope_of s) p n).place (computed z (lo.unit_step z back) (place_in (scope_of s) p n).place (lo.unit_of z) at) ∷ [])) (sym pl.named)
    (step_dropped s n q.scalar.u back postfix at p k from q.there (q.place_is ∙ q.scalar.is) q.can q.scalar.scalar ts pl)

pub call_runs_law : (g : FnId) (es : ExprTrees) → ArgumentsLaw es → FormEffectsLaw (x.call g es)
call_runs_law g es la at ty s n k h from temps =
    let q = called_is s g es ty (both_hold_second (all_typed s.names es) (call_fits (slice_get s.names.signatures g.0) es ty) h) in
    call_dropped s n g.0 q.signature at (values_of es (context_of s)) (arguments_in (scope_of s) es n).stmts (arguments_in (scope_of s) es n).values k q.there q.not_main
    (la s n q.signature.params k (both_hold_first (all_typed s.names es) (call_fits (slice_get s.names.signatures g.0) es ty) h) q.fit from (temps_first s.core_variables n (arguments_in (scope_of s) es n).temps [] temps))

-- ---- objects

pub read_object : (p : PlaceTree) → PlaceLaw p → (at : Span) (ty : Option VarTy) → ObjectLaw (typed at ty (x.read p))
read_object p lp at ty s n j k h is from temps =
    let own = both_hold_second (place_fits s.names p) (same_types (place_type s.names p) ty && is_value ty) h in
    let pl = lp s n (Struct j) k (both_hold_first (place_fits s.names p) (same_types (place_type s.names p) ty && is_value ty) h) (equal_options (place_type s.names p) ty (both_hold_first (same_types (place_type s.names p) ty) (is_value ty) own) ∙ is) from temps in
    object_settled s (typed at ty (x.read p)) n j (place_in (scope_of s) p n).stmts (place_in (scope_of s) p n).place k h is
    (nearly s HasCells n (value_of (typed at ty (x.read p)) (context_of s)) (place_in (scope_of s) p n).stmts (object_asked s (place_in (scope_of s) p n).place j)
    (object_near s n j (location_of p (context_of s)) (place_in (scope_of s) p n).stmts (place_in (scope_of s) p n).place pl.runs))

-- the forms of other types than a struct's
abbrev pub IsOther : FormTree → Type 0
IsOther (x.read p) = ⊥
IsOther (x.assign p a) = ⊥
IsOther form = Unit {0}

other_struct : (form : FormTree) (s : Scene) (ty : Option VarTy) → IsTrue (form_fits s.names form ty) → IsOther form → is_struct ty ≡ false
other_struct (x.read p) s ty h o = absurd o
other_struct (x.assign p a) s ty h o = absurd o
other_struct (x.constant z) s ty h o = of_constant z ty h
other_struct x.null s ty h o = of_null (length s.names.structs) ty h
other_struct (x.decay p) s ty h o =
    ap is_struct (array_of (place_type s.names p) ty (both_hold_first (both_elem (item_of (place_type s.names p)) (pointee_of ty)) (f.keeps_const (place_const s.names p) ty) (both_hold_second (place_fits s.names p) (both_elem (item_of (place_type s.names p)) (pointee_of ty) && f.keeps_const (place_const s.names p) ty) h))).to
other_struct (x.address p) s ty h o =
    ap is_struct (object_of (place_type s.names p) ty (both_hold_first (both_elem (element_of (place_type s.names p)) (pointee_of ty)) (f.keeps_const (place_const s.names p) ty) (both_hold_second (f.is_addressed p) (both_elem (element_of (place_type s.names p)) (pointee_of ty) && f.keeps_const (place_const s.names p) ty)
    (both_hold_second (place_fits s.names p) (f.is_addressed p && (both_elem (element_of (place_type s.names p)) (pointee_of ty) && f.keeps_const (place_const s.names p) ty)) h)))).to
other_struct (x.unary op a) s ty h o = unary_struct op a ty s h
other_struct (x.convert a) s ty h o = of_converts (ty_of a) ty (both_hold_second (is_typed s.names a) (converts (ty_of a) ty) h)
other_struct (x.discard a) s ty h o = of_none ty (both_hold_second (is_typed s.names a) (is_none ty) h)
other_struct (x.chain a links) s ty h o = chain_struct a links ty s h
other_struct (x.logical op a others) s ty h o = logical_struct op a others ty s h
other_struct (x.choice a b d) s ty h o =
    of_arm ty (both_hold_second (is_typed s.names d && same_types (ty_of d) ty) (is_arm ty) (both_hold_second (is_typed s.names b && same_types (ty_of b) ty) ((is_typed s.names d && same_types (ty_of d) ty) && is_arm ty) (both_hold_second (is_typed s.names a && is_scalar (ty_of a)) ((is_typed s.names b && same_types (ty_of b) ty) && ((is_typed s.names d && same_types (ty_of d) ty) && is_arm ty)) h)))
other_struct (x.compound p sp step a) s ty h o = let q = compound_facts s p sp step a ty h in not_struct ty (record { u = q.u; is = q.is; scalar = q.scalar })
other_struct (x.step p sp back postfix) s ty h o = not_struct ty (step_kinds s p sp back postfix ty h).scalar
other_struct (x.call g es) s ty h o = let q = called_is s g es ty (both_hold_second (all_typed s.names es) (call_fits (slice_get s.names.signatures g.0) es ty) h) in ap is_struct q.result ∙ of_result q.signature.result

pub no_object : {X : Type 0} (s : Scene) (form : FormTree) (ty : Option VarTy) (j : ℕ) → IsTrue (form_fits s.names form ty) → ty ≡ Some (Struct j) → IsOther form → X
no_object s form ty j h is o = false_not_true (sym (other_struct form s ty h o) ∙ ap is_struct is)

-- ---- arguments

pub param_plain : (p : Param) → is_struct (Some (param_type p.kind)) ≡ false
param_plain p = of_kind p.kind
  where
    of_kind : (q : ParamKind) → is_struct (Some (param_type q)) ≡ false
    of_kind (pk.Int u) = refl
    of_kind (pk.Ptr elem fixed) = refl

pub argument_and : (a : ExprTree) (rest : ExprTrees) (p : Param) (ps : List Param) → ValueLaw a → ArgumentsLaw rest → (s : Scene) (n : ℕ) → SceneFits s → IsTrue (all_typed s.names (expr_and a rest)) → IsTrue (arguments_fit (p ∷ ps) (expr_and a rest)) → length s.names.vars ≤ n → HasTemps s.core_variables n (arguments_in (scope_of s) (expr_and a rest) n).temps →
    IsNext s (AreArguments s (p ∷ ps)) n (values_of (expr_and a rest) (context_of s)) (arguments_in (scope_of s) (expr_and a rest) n).stmts (cells_asked s (arguments_in (scope_of s) (expr_and a rest) n).values)
argument_and a rest p ps la lr s n k all1 fit from temps =
    let is = equal_options (ty_of a) (Some (param_type p.kind)) (both_hold_first (same_types (ty_of a) (Some (param_type p.kind))) (arguments_fit ps rest) fit) in
    let v0 = value_in (scope_of s) a n in
    let t1 = temps_first s.core_variables n (held_if (not (are_pure rest)) n (holding (e.type_of a) a) (value_in (scope_of s) a n)).temps (arguments_in (scope_of s) rest (past n (held_if (not (are_pure rest)) n (holding (e.type_of a) a) (value_in (scope_of s) a n)).temps)).temps temps in
    let t2 = temps_rest s.core_variables n (held_if (not (are_pure rest)) n (holding (e.type_of a) a) (value_in (scope_of s) a n)).temps (arguments_in (scope_of s) rest (past n (held_if (not (are_pure rest)) n (holding (e.type_of a) a) (value_in (scope_of s) a n)).temps)).temps temps in
    let va = la s n k (both_hold_first (is_typed s.names a) (all_typed s.names rest) all1) (ap is_struct is ∙ param_plain p) from (held_first s.core_variables n (not (are_pure rest)) (holding (e.type_of a) a) (value_in (scope_of s) a n) t1) in
    let vr = lr s (past n (held_if (not (are_pure rest)) n (holding (e.type_of a) a) (value_in (scope_of s) a n)).temps) ps k (both_hold_second (is_typed s.names a) (all_typed s.names rest) all1) (both_hold_second (same_types (ty_of a) (Some (param_type p.kind))) (arguments_fit ps rest) fit) (past_from (length s.names.vars) n (held_if (not (are_pure rest)) n (holding (e.type_of a) a) (value_in (scope_of s) a n)).temps from) t2 in
    arguments_and s n p ps (ty_of a) (value_of a (context_of s)) (values_of rest (context_of s)) ((held_if (not (are_pure rest)) n (holding (e.type_of a) a) (value_in (scope_of s) a n)).stmts ++ (arguments_in (scope_of s) rest (past n (held_if (not (are_pure rest)) n (holding (e.type_of a) a) (value_in (scope_of s) a n)).temps)).stmts)
    (held_if (not (are_pure rest)) n (holding (e.type_of a) a) (value_in (scope_of s) a n)).value (arguments_in (scope_of s) rest (past n (held_if (not (are_pure rest)) n (holding (e.type_of a) a) (value_in (scope_of s) a n)).temps)).values is
    (first_then s n (value_in (scope_of s) a n) (not (are_pure rest)) (holding (e.type_of a) a) (IsValue s (ty_of a)) (AreArguments s ps) (value_of a (context_of s)) (values_of rest (context_of s)) (arguments_in (scope_of s) rest (past n (held_if (not (are_pure rest)) n (holding (e.type_of a) a) (value_in (scope_of s) a n)).temps)).stmts
    (cells_asked s (arguments_in (scope_of s) rest (past n (held_if (not (are_pure rest)) n (holding (e.type_of a) a) (value_in (scope_of s) a n)).temps)).values) k from t1 va.runs vr
    (λ e1. pure_arguments rest (scope_of s) (past n (held_if (not (are_pure rest)) n (holding (e.type_of a) a) (value_in (scope_of s) a n)).temps) (from_not_false (are_pure rest) e1)))

-- ---- roots

struct_of : (ty : Option VarTy) (u : VarTy) → (if true && is_struct ty then ty else None) ≡ Some u → is_struct (Some u) ≡ true
struct_of (Some (Struct n)) u h = sym (ap is_struct h)
struct_of None u h = cc
struct_of (Some (Int z)) u h = cc
struct_of (Some (Array elem count)) u h = cc
struct_of (Some (Pointer elem fixed)) u h = cc

pub local_found : (z : VarId) (s : Scene) (n : ℕ) (u : VarTy) → SceneFits s → root_type s.names (x.local z) ≡ Some u → PlaceFound s u n true (root_location (x.local z) (context_of s)) (root_in (scope_of s) (x.local z) n)
local_found z s n u k is =
    let entry : slice_get (variable_types s) z.0 ≡ Some u = get_map (λ (y : Var). y.ty) s.names.vars z.0 ∙ is in
    record {
      lowered = record {
        named = get_or_from_slice_get (variable_types s) z.0 u (Int i.Int) entry;
        type = k.variables z.0 u entry;
        runs = named_runs s n u (x.local z) (record { block = local s.frame.depth z.0; cell = 0; ty = e.type_at (variable_types s) z.0 }) (record { block = Local s.frame.depth z.0; cell = 0; ty = type_at s.core_variables z.0 }) (t.place (t.local z.0) []) k refl is (λ st. refl) (λ st. refl) (λ blocks. refl) refl refl (k.variables z.0 u entry);
        stage = λ ok. tt;
      };
      keeps = λ st fit. root_keeps (x.local z) (world_of s) s.names (context_of s) st u k.fits refl is fit;
    }

pub global_found : (z : GlobalId) (s : Scene) (n : ℕ) (u : VarTy) → SceneFits s → root_type s.names (x.global z) ≡ Some u → PlaceFound s u n true (root_location (x.global z) (context_of s)) (root_in (scope_of s) (x.global z) n)
global_found z s n u k is =
    let entry : slice_get (global_types s) z.0 ≡ Some u = get_map (λ (y : TypedGlobal). y.var.ty) s.names.globals z.0 ∙ is in
    record {
      lowered = record {
        named = get_or_from_slice_get (global_types s) z.0 u (Int i.Int) entry;
        type = k.globals z.0 u entry;
        runs = named_runs s n u (x.global z) (record { block = global z.0; cell = 0; ty = e.type_at (global_types s) z.0 }) (record { block = Global z.0; cell = 0; ty = global_type (frame_of s).context z.0 }) (t.place (t.global z.0) []) k refl is (λ st. refl) (λ st. refl) (λ blocks. refl) refl refl (k.globals z.0 u entry);
        stage = λ ok. tt;
      };
      keeps = λ st fit. root_keeps (x.global z) (world_of s) s.names (context_of s) st u k.fits refl is fit;
    }

pub deref_found : (b : ExprTree) (sp : Span) → ValueLaw b → RootLaw (x.deref b sp)
deref_found b sp lb s n u k h is from temps =
    let q = pointer_to_type (ty_of b) u is in
    let vb = lb s n k h (ap is_struct q.from) from temps in
    record {
      lowered = subst (λ z. PlaceLowered s z n true (root_location (x.deref b sp) (context_of s)) (root_in (scope_of s) (x.deref b sp) n)) q.to
          (subst (λ z. PlaceLowered s (type_of_elem q.elem) n true (λ st. value_of b (context_of s) st >>= λ w. e.or_trap sp (e.dereferenced (context_of s) z (cell_of w))) (behind sp b (value_in (scope_of s) b n))) (sym (type_is b (Pointer q.elem q.fixed) q.from))
          (behind_lowered s n q.elem q.fixed sp b (value_of b (context_of s)) (value_in (scope_of s) b n) (type_is b (Pointer q.elem q.fixed) q.from)
          (subst (λ z. ValueLowered s z n (value_of b (context_of s)) (value_in (scope_of s) b n)) q.from vb)));
      keeps = λ st fit. root_keeps (x.deref b sp) (world_of s) s.names (context_of s) st u k.fits h is fit;
    }

pub assigned_by : (p : PlaceTree) (d : ExprTree) → PlaceLaw p → ObjectLaw d → (at : Span) (ty : Option VarTy) → AssignedLaw (typed at ty (x.assign p d))
assigned_by p d lp ld at ty s n u k h is from temps = go u (given_struct ty u is) (struct_of ty u is)
  where
    go : (u : VarTy) → ty ≡ Some u → is_struct (Some u) ≡ true → PlaceLowered s u n false (assigned_location (typed at ty (x.assign p d)) (context_of s)) (object_in (scope_of s) (typed at ty (x.assign p d)) n)
    go (Struct j) e1 e2 = assigned_found p d lp ld at ty s n j k h e1 from temps
    go (Int z) e1 e2 = false_not_true e2
    go (Array elem count) e1 e2 = false_not_true e2
    go (Pointer elem fixed) e1 e2 = false_not_true e2
