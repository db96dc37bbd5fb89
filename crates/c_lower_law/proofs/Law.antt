-- The lowering keeps the meaning of expressions: by induction on the tree.
use Rattle.std.proofs.Common.{◌≡◌, ◌∙◌, ◌≤◌, ◌<◌, ℕ, zero, suc, ◌+◌, pos, refl, ap, sym, subst, arith, Bool, true, false, not, Option, Some, None, List, [], ◌∷◌, ◌++◌, length, Result, Ok, Err, if◌then◌else◌}
use Rattle.std.specs.Prelude.{IsTrue, ◌&&◌, ◌||◌, is_none, slice_get, slice_index_or, option_map}
use Rattle.pt_base.specs.declared.int_type.IntType.{IntType}
use Rattle.pt_base.specs.declared.int_type.IntType.TheVariants as i
use Rattle.pt_base.specs.declared.ids.FnId.{FnId}
use Rattle.pt_base.specs.declared.span.Span.{Span}
use Rattle.pt_base.proofs.Booleans.{both_hold_first, both_hold_second, false_not_true}
use Rattle.pt_tree.specs.declared.signature.Param.{Param}
use Rattle.runs.specs.State.{gives, trapped, spent, ◌>>=◌}
use Rattle.typed_tree.specs.declared.types.VarTy.{VarTy}
use Rattle.typed_tree.specs.declared.types.VarTy.TheVariants.{Int, Struct, Array, Pointer}
use Rattle.typed_tree.specs.declared.link.LinkStep.{LinkStep}
use Rattle.typed_tree.specs.declared.link.LogicalOp.{LogicalOp}
use Rattle.typed_tree.specs.ExpressionTree as x
use Rattle.typed_tree.specs.ExpressionTree.{ExprTree, typed, FormTree, ExprTrees, no_exprs, expr_and, LinkTree, LinkTrees, no_links, link_and, link, OperandTrees, no_operands, operand_and, operand, PlaceTree, place, RootTree, StepTree, StepTrees, no_steps, step_and}
use Rattle.typed_tree.specs.TypeTests.{same_types, both_elem, integer_of, pointee_of, item_of, is_scalar, is_value, type_of_elem}
use Rattle.typed_tree.specs.TypeRules as r
use Rattle.typed_tree.specs.WellFormedExpression as f
use Rattle.typed_tree.specs.WellFormedExpression.{Names, is_typed, form_fits, all_typed, links_fit, operands_fit, place_fits, root_fits, steps_fit, ty_of, is_struct, is_assign, assigned_type, root_type, step_type, steps_type, place_type, item_type, has_item, has_links, has_operands, is_object, is_written, place_const, param_type, arguments_fit, call_fits}
use Rattle.block_memory.specs.declared.cell.Cell as core
use Rattle.block_memory.specs.Blocks.{Blocks}
use Rattle.source_meaning.specs.State.{State, Outcome}
use Rattle.source_meaning.specs.Values as m
use Rattle.source_meaning.specs.Values.{Value, holds, cell_of, is_true, Location}
use Rattle.source_meaning.specs.Expressions as e
use Rattle.source_meaning.specs.Expressions.{value_of, values_of, location_of, root_location, steps_location, step_location, assigned_location, links_value, link_value, operands_value, operand_value, type_or_int, field_at, indexed, store}
use Rattle.source_soundness.specs.Worlds.{Fits, LocationFits, ValueFits}
use Rattle.source_soundness.specs.Laws.{Keeps}
use Rattle.source_soundness.specs.Sizes.{KeepsSizes, LiesWithin, ValueSized}
use Rattle.typed_tree.proofs.SameTypes.{equal_options}
use Rattle.source_soundness.proofs.Soundness.{value_fits, place_keeps, root_keeps, keeps_bind, field_lies, element_lies, pointer_to_type, element_step, steps_none}
use Rattle.source_soundness.proofs.SizeSoundness.{value_sized, place_sized}
use Rattle.pt_core.specs.CodeTree as t
use Rattle.pt_core.specs.CodeTree.{StmtTree}
use Rattle.pt_core.specs.Statements as c
use Rattle.pt_core.specs.Values as v
use Rattle.pt_core.specs.Statements.{goes_on, evaluated}
use Rattle.lowering.specs.Lowered.{Temp, Effects, Lowered, LoweredPlace, past, temp, hold, holding, held_if, int}
use Rattle.lowering.specs.Purity.{takes_left_first, is_pure, are_pure}
use Rattle.lowering.specs.Expressions as l
use Rattle.lowering.specs.Expressions.{Scope, value_in, form_in, effects_in, form_effects, links_in, operands_in, arguments_in, place_in, root_in, steps_in, object_in, started, with_operand, fixed_if, named_place, behind, field_in, decayed, decayed_type}
use Rattle.c_lower_law.proofs.Relations.{name_of, Scene, global_types, variable_types, world_of, context_of, frame_of, scope_of, sizes_in, HasTemps, Kept, Alike, Same, After, below}
use Rattle.c_lower_law.proofs.Expressions.{run_all, cell_asked, place_asked, cells_asked, object_asked, SameAsked, SameCell, Gives, IsValue, IsPlace, IsObject, AreArguments, SceneFits}
use Rattle.c_lower_law.proofs.Runs.{bind_bind, bind_gives}
use Rattle.c_lower_law.proofs.Memories.{kept_same}
use Rattle.c_lower_law.proofs.Held.{temps_first, temps_rest, temp_there, past_append, IsNext, Both, pair_of, first_then, both}
use Rattle.c_lower_law.proofs.Operators.{PointerType}
use Rattle.c_lower_law.proofs.Places.{some_same, setup, PlaceLowered, ValueLowered, StageOf, IsArray, behind_lowered, field_lowered, array_runs, element_lowered}
use Rattle.c_lower_law.proofs.Values.{IsNear, nearly, value_settled, held_pointer, decay_pointer}
use Rattle.c_lower_law.proofs.Choices.{IsTruth, truth_held, operands_split, truth_value_near}
use Rattle.c_lower_law.proofs.OperandTypes.{ScalarType, scalar_type, not_struct}
use Rattle.c_lower_law.proofs.Shapes.{links_first, operands_first, steps_first, held_first, link_next, item_base, item_next, pure_value, pure_arguments}
use Rattle.c_lower_law.proofs.Forms.{next_as, settled_as, value_typed, past_from, past_one, link_first, scalar_expr, Runs}
use Rattle.c_lower_law.proofs.FormLaws.{ValueLaw, FormLaw, PlaceLaw, EffectsLaw, constant_law, null_law, read_law, decay_law, address_law, unary_law, convert_law, discard_law, ChainLowered, link_lowered, nothing_linked, more_linked, IsTruthSoFar, operand_lowered}
use Rattle.c_lower_law.proofs.StoreLaws.{choice_law, assign_law, compound_law, step_law, ArgumentsLaw, call_law}
use Rattle.c_lower_law.proofs.Calls.{arguments_and, no_arguments}
use Rattle.typed_tree.specs.TypeRules.{converts}
use Rattle.source_meaning.specs.Memory.{number, null}
use Rattle.c_lower_law.proofs.Choices.{next_truth}
use Rattle.c_lower_law.proofs.Forms.{effects_settled, runs_near, runs_give}
use Rattle.c_lower_law.proofs.EffectLaws.{ObjectLaw, nothing_runs, held_runs, compound_runs}
use Rattle.c_lower_law.proofs.Parts.{can_after, can_root, can_object, PlaceFound, found_as, found_typed, steps_some, step_location_of, field_found, item_found, assigned_object, LinksLaw, OperandsLaw, RootLaw, AssignedLaw, StepsLaw, FormEffectsLaw, chain_law, later, logical_law, unary_struct, chain_struct, logical_struct, logical_runs, read_runs_law, decay_runs_law, address_runs_law, choice_runs_law, assign_runs_law, step_runs_law, call_runs_law, read_object, no_object, argument_and, local_found, global_found, deref_found, assigned_by}

mutual
  pub value_law : (ex : ExprTree) → ValueLaw ex
  value_law (typed at ty form) s n k h ns from temps = form_law form at ty s n k h ns from temps

  form_law : (form : FormTree) → FormLaw form
  form_law (x.constant z) = constant_law z
  form_law x.null = null_law
  form_law (x.read p) = read_law p (place_law p)
  form_law (x.decay p) = decay_law p (place_law p)
  form_law (x.address p) = address_law p (place_law p)
  form_law (x.unary op a) = unary_law op a (value_law a)
  form_law (x.convert a) = convert_law a (value_law a)
  form_law (x.discard a) = discard_law a (effects_law a)
  form_law (x.chain a links) = chain_law a links (value_law a) (links_law links)
  form_law (x.logical op a others) = logical_law op a others (value_law a) (operands_law others)
  form_law (x.choice a b d) = choice_law a b d (value_law a) (value_law b) (value_law d)
  form_law (x.assign p a) = assign_law p a (place_law p) (value_law a)
  form_law (x.compound p sp step a) = compound_law p sp step a (place_law p) (value_law a)
  form_law (x.step p sp back postfix) = step_law p sp back postfix (place_law p)
  form_law (x.call g es) = call_law g es (arguments_law es)

  pub effects_law : (ex : ExprTree) → EffectsLaw ex
  effects_law (typed at ty form) s n k h from temps = effects_settled s (typed at ty form) n (effects_in (scope_of s) (typed at ty form) n).stmts k h (form_effects_law form at ty s n k h from temps)

  form_effects_law : (form : FormTree) → FormEffectsLaw form
  form_effects_law (x.constant z) at ty s n k h from temps = nothing_runs s n (holds (number z))
  form_effects_law x.null at ty s n k h from temps = nothing_runs s n (holds null)
  form_effects_law (x.read p) at ty s n k h from temps = read_runs_law p (place_law p) at ty s n k h from temps
  form_effects_law (x.decay p) at ty s n k h from temps = decay_runs_law p (place_law p) at ty s n k h from temps
  form_effects_law (x.address p) at ty s n k h from temps = address_runs_law p (place_law p) at ty s n k h from temps
  form_effects_law (x.unary op a) at ty s n k h from temps =
      held_runs s n (typed at ty (x.unary op a)) (holding (type_or_int ty) (typed at ty (x.unary op a))) (form_in (scope_of s) (x.unary op a) at ty n) k from temps
      (unary_law op a (value_law a) at ty s n k h (unary_struct op a ty s h) from (temps_first s.core_variables n (form_in (scope_of s) (x.unary op a) at ty n).temps (holding (type_or_int ty) (typed at ty (x.unary op a)) ∷ []) temps))
  form_effects_law (x.convert a) at ty s n k h from temps =
      runs_give s n (value_of a (context_of s)) (effects_in (scope_of s) a n).stmts (m.converted (type_or_int ty)) (runs_near s n (value_of a (context_of s)) (effects_in (scope_of s) a n).stmts (effects_law a s n k (both_hold_first (is_typed s.names a) (converts (ty_of a) ty) h) from temps))
  form_effects_law (x.discard a) at ty s n k h from temps =
      runs_give s n (value_of a (context_of s)) (effects_in (scope_of s) a n).stmts (λ w. m.nothing) (runs_near s n (value_of a (context_of s)) (effects_in (scope_of s) a n).stmts (effects_law a s n k (both_hold_first (is_typed s.names a) (is_none ty) h) from temps))
  form_effects_law (x.chain a links) at ty s n k h from temps =
      held_runs s n (typed at ty (x.chain a links)) (holding (type_or_int ty) (typed at ty (x.chain a links))) (form_in (scope_of s) (x.chain a links) at ty n) k from temps
      (chain_law a links (value_law a) (links_law links) at ty s n k h (chain_struct a links ty s h) from (temps_first s.core_variables n (form_in (scope_of s) (x.chain a links) at ty n).temps (holding (type_or_int ty) (typed at ty (x.chain a links)) ∷ []) temps))
  form_effects_law (x.logical op a others) at ty s n k h from temps =
      logical_runs op a others at ty s n (logical_law op a others (value_law a) (operands_law others) at ty s n k h (logical_struct op a others ty s h) from temps)
  form_effects_law (x.choice a b d) at ty s n k h from temps = choice_runs_law a b d (value_law a) (effects_law b) (effects_law d) at ty s n k h from temps
  form_effects_law (x.assign p a) at ty s n k h from temps = assign_runs_law p a (place_law p) (value_law a) (object_law a) at ty s n k h from temps
  form_effects_law (x.compound p sp step a) at ty s n k h from temps = compound_runs p sp step a (place_law p) (value_law a) at ty s n k h from temps
  form_effects_law (x.step p sp back postfix) at ty s n k h from temps = step_runs_law p sp back postfix (place_law p) at ty s n k h from temps
  form_effects_law (x.call g es) at ty s n k h from temps = call_runs_law g es (arguments_law es) at ty s n k h from temps

  pub object_law : (ex : ExprTree) → ObjectLaw ex
  object_law (typed at ty form) s n j k h is from temps = form_object_law form at ty s n j k h is from temps

  form_object_law : (form : FormTree) → (at : Span) (ty : Option VarTy) → ObjectLaw (typed at ty form)
  form_object_law (x.read p) at ty s n j k h is from temps = read_object p (place_law p) at ty s n j k h is from temps
  form_object_law (x.assign p a) at ty s n j k h is from temps = assigned_object p a (place_law p) (object_law a) at ty s n j k h is from temps
  form_object_law (x.constant z) at ty s n j k h is from temps = no_object s (x.constant z) ty j h is tt
  form_object_law x.null at ty s n j k h is from temps = no_object s x.null ty j h is tt
  form_object_law (x.decay p) at ty s n j k h is from temps = no_object s (x.decay p) ty j h is tt
  form_object_law (x.address p) at ty s n j k h is from temps = no_object s (x.address p) ty j h is tt
  form_object_law (x.unary op a) at ty s n j k h is from temps = no_object s (x.unary op a) ty j h is tt
  form_object_law (x.convert a) at ty s n j k h is from temps = no_object s (x.convert a) ty j h is tt
  form_object_law (x.discard a) at ty s n j k h is from temps = no_object s (x.discard a) ty j h is tt
  form_object_law (x.chain a links) at ty s n j k h is from temps = no_object s (x.chain a links) ty j h is tt
  form_object_law (x.logical op a others) at ty s n j k h is from temps = no_object s (x.logical op a others) ty j h is tt
  form_object_law (x.choice a b d) at ty s n j k h is from temps = no_object s (x.choice a b d) ty j h is tt
  form_object_law (x.compound p sp step a) at ty s n j k h is from temps = no_object s (x.compound p sp step a) ty j h is tt
  form_object_law (x.step p sp back postfix) at ty s n j k h is from temps = no_object s (x.step p sp back postfix) ty j h is tt
  form_object_law (x.call g es) at ty s n j k h is from temps = no_object s (x.call g es) ty j h is tt

  links_law : (links : LinkTrees) → LinksLaw links
  links_law no_links s n first before sp u ty far source k from h temps c0 = nothing_linked s n u ty far source (equal_options (Some u) ty h) c0
  links_law (link_and (link at to step ex) rest) s n first before sp u ty far source k from h temps c0 =
      let more = both_hold_second (is_typed s.names ex) (same_types (r.stepped (Some u) step (ty_of ex)) (Some to) && links_fit s.names (Some to) rest ty) h in
      let is = equal_options (r.stepped (Some u) step (ty_of ex)) (Some to) (both_hold_first (same_types (r.stepped (Some u) step (ty_of ex)) (Some to)) (links_fit s.names (Some to) rest ty) more) in
      let nt = links_first rest (scope_of s) s.core_variables first (before ++ link at to step ex ∷ []) at to (link_next (scope_of s) first before sp u at step ex far n) n temps in
      more_linked s n u to ty at step ex rest (links_in (scope_of s) rest first (before ++ link at to step ex ∷ []) at to (link_next (scope_of s) first before sp u at step ex far n) n) source
      (links_law rest s n first (before ++ link at to step ex ∷ []) at to ty (link_next (scope_of s) first before sp u at step ex far n) (λ st. source st >>= λ w. link_value (link at to step ex) u w (context_of s)) k from (both_hold_second (same_types (r.stepped (Some u) step (ty_of ex)) (Some to)) (links_fit s.names (Some to) rest ty) more) temps
      (link_lowered s n first before sp u to at step ex far source (value_law ex) k from (both_hold_first (is_typed s.names ex) (same_types (r.stepped (Some u) step (ty_of ex)) (Some to) && links_fit s.names (Some to) rest ty) h) is nt c0))

  operands_law : (operands : OperandTrees) → OperandsLaw operands
  operands_law no_operands s n op j far source k from le near_j there h temps held = truth_value_near s n j source far.stmts held
  operands_law (operand_and (operand sp ex) rest) s n op j far source k from le near_j there h temps held =
      let first = both_hold_first (is_typed s.names ex && is_scalar (ty_of ex)) (operands_fit s.names rest) h in
      let nt = operands_first rest (scope_of s) s.core_variables op j (with_operand op j (e.type_of ex) sp far (value_in (scope_of s) ex (past n far.temps))) n temps in
      next_as s (SameCell (Some int)) n (λ st. (source st >>= next_truth op (λ st1. value_of ex (context_of s) st1 >>= λ w. gives (is_true w))) >>= λ z. operands_value rest op z (context_of s)) (λ st. source st >>= λ z. operands_value (operand_and (operand sp ex) rest) op z (context_of s))
      (operands_in (scope_of s) rest op j (with_operand op j (e.type_of ex) sp far (value_in (scope_of s) ex (past n far.temps))) n).stmts (cell_asked s (temp j)) (λ st. operands_split rest op (operand sp ex) (context_of s) (source st))
      (operands_law rest s n op j (with_operand op j (e.type_of ex) sp far (value_in (scope_of s) ex (past n far.temps))) (λ st. source st >>= next_truth op (λ st1. value_of ex (context_of s) st1 >>= λ w. gives (is_true w))) k from le (later n j far.temps (value_in (scope_of s) ex (past n far.temps)).temps near_j) there (both_hold_second (is_typed s.names ex && is_scalar (ty_of ex)) (operands_fit s.names rest) h) temps
      (operand_lowered s n j op sp ex far source (value_law ex) k from le near_j there (both_hold_first (is_typed s.names ex) (is_scalar (ty_of ex)) first) (both_hold_second (is_typed s.names ex) (is_scalar (ty_of ex)) first) nt held))

  pub arguments_law : (es : ExprTrees) → ArgumentsLaw es
  arguments_law no_exprs s n [] k all1 fit from temps = no_arguments s n
  arguments_law no_exprs s n (p ∷ ps) k all1 fit from temps = false_not_true fit
  arguments_law (expr_and a rest) s n [] k all1 fit from temps = false_not_true fit
  arguments_law (expr_and a rest) s n (p ∷ ps) k all1 fit from temps = argument_and a rest p ps (value_law a) (arguments_law rest) s n k all1 fit from temps

  pub place_law : (p : PlaceTree) → PlaceLaw p
  place_law (place root steps) s n u k h is from temps =
      let rt = steps_first steps (scope_of s) s.core_variables root [] (root_in (scope_of s) root n) n temps in
      let b = steps_some s.names.structs (root_type s.names root) steps u is in
      (found_as s u n (can_after (can_root root) steps) (is_object (place root steps)) (λ st. root_location root (context_of s) st >>= λ at. steps_location steps at (context_of s)) (location_of (place root steps) (context_of s)) (place_in (scope_of s) (place root steps) n) (λ ok. can_object root steps ok) (λ st. refl)
      (steps_law steps s n (can_root root) b.0 u root [] (root_location root (context_of s)) (root_in (scope_of s) root n) k from (both_hold_second (root_fits s.names root) (steps_fit s.names steps) h) (subst (λ z. steps_type s.names.structs z steps ≡ Some u) b.1 is) temps
      (root_law root s n b.0 k (both_hold_first (root_fits s.names root) (steps_fit s.names steps) h) b.1 from rt))).lowered

  root_law : (root : RootTree) → RootLaw root
  root_law (x.local z) s n u k h is from temps = local_found z s n u k is
  root_law (x.global z) s n u k h is from temps = global_found z s n u k is
  root_law (x.deref b sp) s n u k h is from temps = deref_found b sp (value_law b) s n u k h is from temps
  root_law (x.assigned b) s n u k h is from temps = record {
    lowered = assigned_law b s n u k h is from temps;
    keeps = λ st fit. root_keeps (x.assigned b) (world_of s) s.names (context_of s) st u k.fits h is fit;
  }

  assigned_law : (b : ExprTree) → AssignedLaw b
  assigned_law (typed at ty (x.assign p d)) s n u k h is from temps = assigned_by p d (place_law p) (object_law d) at ty s n u k h is from temps
  assigned_law (typed at ty (x.constant z)) s n u k h is from temps = cc
  assigned_law (typed at ty x.null) s n u k h is from temps = cc
  assigned_law (typed at ty (x.read p)) s n u k h is from temps = cc
  assigned_law (typed at ty (x.decay p)) s n u k h is from temps = cc
  assigned_law (typed at ty (x.address p)) s n u k h is from temps = cc
  assigned_law (typed at ty (x.unary op a)) s n u k h is from temps = cc
  assigned_law (typed at ty (x.convert a)) s n u k h is from temps = cc
  assigned_law (typed at ty (x.discard a)) s n u k h is from temps = cc
  assigned_law (typed at ty (x.chain a links)) s n u k h is from temps = cc
  assigned_law (typed at ty (x.logical op a others)) s n u k h is from temps = cc
  assigned_law (typed at ty (x.choice a b d)) s n u k h is from temps = cc
  assigned_law (typed at ty (x.compound p sp step a)) s n u k h is from temps = cc
  assigned_law (typed at ty (x.step p sp back postfix)) s n u k h is from temps = cc
  assigned_law (typed at ty (x.call g es)) s n u k h is from temps = cc

  steps_law : (steps : StepTrees) → StepsLaw steps
  steps_law no_steps s n can a ty root before source far k from h is temps g =
      found_as s ty n can can source (λ st. source st >>= λ at. steps_location no_steps at (context_of s)) far (λ ok. ok) (λ st. bind_gives (source st)) (found_typed s a ty n can source far (some_same a ty is) g)
  steps_law (step_and (x.field j) rest) s n can a ty root before source far k from h is temps g =
      let b = steps_some s.names.structs (f.field_type s.names.structs (Some a) j) rest ty is in
      found_as s ty n (can_after can rest) (can_after can rest) (λ st. (source st >>= λ at. gives (field_at (context_of s) j at)) >>= λ at. steps_location rest at (context_of s)) (λ st. source st >>= λ at. steps_location (step_and (x.field j) rest) at (context_of s)) (steps_in (scope_of s) rest root (before ++ x.field j ∷ []) (field_in (scope_of s) j far) n) (λ ok. ok)
      (λ st. sym (bind_bind (source st) (λ at. gives (field_at (context_of s) j at)) (λ at. steps_location rest at (context_of s))))
      (steps_law rest s n can b.0 ty root (before ++ x.field j ∷ []) (λ st. source st >>= λ at. gives (field_at (context_of s) j at)) (field_in (scope_of s) j far) k from h (subst (λ z. steps_type s.names.structs z rest ≡ Some ty) b.1 is) temps (field_found s n can a b.0 j source far k b.1 g))
  steps_law (step_and (x.item ex sp) rest) s n can a ty root before source far k from h is temps g =
      let b = steps_some s.names.structs (item_type (Some a) (integer_of (ty_of ex))) rest ty is in
      let nt = steps_first rest (scope_of s) s.core_variables root (before ++ x.item ex sp ∷ []) (item_next (scope_of s) sp root before far ex n) n temps in
      found_as s ty n (can_after true rest) (can_after true rest) (λ st. (source st >>= step_location_of s ex sp) >>= λ at. steps_location rest at (context_of s)) (λ st. source st >>= λ at. steps_location (step_and (x.item ex sp) rest) at (context_of s)) (steps_in (scope_of s) rest root (before ++ x.item ex sp ∷ []) (item_next (scope_of s) sp root before far ex n) n) (λ ok. ok)
      (λ st. sym (bind_bind (source st) (step_location_of s ex sp) (λ at. steps_location rest at (context_of s))))
      (steps_law rest s n true b.0 ty root (before ++ x.item ex sp ∷ []) (λ st. source st >>= step_location_of s ex sp) (item_next (scope_of s) sp root before far ex n) k from (both_hold_second (is_typed s.names ex) (steps_fit s.names rest) h) (subst (λ z. steps_type s.names.structs z rest ≡ Some ty) b.1 is) temps
      (item_found s n can a b.0 ex sp root before source far k from (value_law ex) (both_hold_first (is_typed s.names ex) (steps_fit s.names rest) h) b.1 nt g))
