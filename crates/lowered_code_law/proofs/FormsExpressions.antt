-- Expressions and places, lowered, fit: by induction on the tree.
use Rattle.std.proofs.Common.{◌≡◌, ◌∙◌, ℕ, ◌+◌, refl, ap, sym, subst, Bool, true, false, Option, Some, List, [], ◌∷◌, ◌++◌}
use Rattle.std.specs.Prelude.{◌&&◌, ◌||◌, not, slice_get, is_none}
use Rattle.pt_base.specs.declared.span.Span.{Span}
use Rattle.pt_base.proofs.Booleans.{both_hold_first, both_hold_second, false_not_true}
use Rattle.pt_tree.specs.declared.signature.Param.{Param}
use Rattle.typed_tree.specs.declared.types.VarTy.{VarTy}
use Rattle.typed_tree.specs.declared.types.VarTy.TheVariants.{Array, Pointer}
use Rattle.typed_tree.specs.declared.link.LogicalOp.{LogicalOp}
use Rattle.typed_tree.specs.ExpressionTree as src
use Rattle.typed_tree.specs.ExpressionTree.{typed, FormTree, ExprTrees, no_exprs, expr_and, LinkTree, LinkTrees, no_links, link_and, link, OperandTrees, no_operands, operand_and, operand, RootTree, StepTree, StepTrees, no_steps, step_and, step_trees}
use Rattle.typed_tree.specs.TypeTests.{same_types, both_elem, integer_of, pointee_of, element_of, item_of, is_scalar, is_value, type_of_elem}
use Rattle.typed_tree.specs.TypeRules as r
use Rattle.typed_tree.specs.TypeRules.{unary_fits, converts, promoted_value, is_arm}
use Rattle.typed_tree.specs.WellFormedExpression as f
use Rattle.typed_tree.specs.WellFormedExpression.{Names, is_typed, form_fits, all_typed, links_fit, operands_fit, place_fits, root_fits, steps_fit, ty_of, root_type, step_type, steps_type, place_type, field_type, item_type, has_links, has_operands, is_addressed, is_written, keeps_const, place_const, is_assign, assigned_type, is_named, ends_in_field, is_object}
use Rattle.source_meaning.specs.Expressions.{type_or_int, type_of}
use Rattle.lowering.specs.Lowered.{Effects, Lowered, LoweredPlace, past, holding, held_if}
use Rattle.lowering.specs.Purity.{takes_left_first, is_pure, are_pure}
use Rattle.lowering.specs.Expressions.{is_struct, field_in, decayed, decayed_type, element_place, left_place, fixed_if, linked, chain_so_far, started, with_operand, counted_after, assigned, compounded, counted, value_at, value_in, form_in, effects_in, form_effects, links_in, operands_in, arguments_in, object_in, form_object, place_in, root_in, steps_in}
use Rattle.lowered_code_law.proofs.FormsSettings.{Agrees, EffectsFit, LoweredFits, PlaceFits, Setting, Stand, source}
use Rattle.typed_tree.proofs.SameTypes.{equal_options}
use Rattle.lowered_code_law.proofs.FormsStanding.{held_if_fits}
use Rattle.lowered_code_law.proofs.FormsSteps.{convert_known, one_type, unary_operand}
use Rattle.lowered_code_law.proofs.FormsPlaces.{behind_fits, fixed_if_fits, global_place_fits, variable_place_fits}
use Rattle.lowered_code_law.proofs.FormsRules.{arm_no_struct, array_of, assign_rules, assigned_struct, chain_scalar, compound_rules, count_rules, no_struct, object_of, other_form, pointee_of_pointer, some_type, type_is, value_scalar}
use Rattle.lowered_code_law.proofs.FormLemmas.{ArgumentsFit, TruthSoFar, argued_fits, argument_no_struct, argument_scalar, call_drops, called_is, called_lowers, checked_fits, choice_drops, choice_lowers, constant_lowers, converted_lowers, counted_after_fits, counted_place, linked_fits, null_lowers, operand_fits, place_effects_fit, prefixed_lowers, so_far_scalar, started_fits, truth_lowers, value_at_fits}
use Rattle.lowered_code_law.proofs.FormsParts.{address_lowers, address_value, array_decays, array_value, assignment_fits, at_type, compound_assignment_fits, discard_lowers, field_lowers, held_effects, item_fits, place_addressed, placed, read_lowers}

-- ---- by induction

mutual
  pub value_lowers : (a : src.ExprTree) (w : Setting) (l : Bool) (n : ℕ) → Agrees w → is_typed w.names a ≡ true → is_struct (ty_of a) ≡ false → Stand w.variables n (value_in (source w.names) a n).temps → LoweredFits w l (type_of a) (value_in (source w.names) a n)
  value_lowers (typed s ty form) w l n g h ns stand = form_lowers form s ty w l n g h ns stand

  form_lowers : (form : FormTree) (s : Span) (ty : Option VarTy) (w : Setting) (l : Bool) (n : ℕ) → Agrees w → form_fits w.names form ty ≡ true → is_struct ty ≡ false → Stand w.variables n (form_in (source w.names) form s ty n).temps → LoweredFits w l (type_or_int ty) (form_in (source w.names) form s ty n)
  form_lowers (src.constant v) s ty w l n g h ns stand = constant_lowers w l v ty h
  form_lowers src.null s ty w l n g h ns stand = null_lowers w l ty h
  form_lowers (src.read p) s ty w l n g h ns stand =
      read_lowers w l n p ty (place_in (source w.names) p n) (both_hold_second (place_fits w.names p) (same_types (place_type w.names p) ty && is_value ty) h) ns
      (λ z is. place_lowers p w l n z g (both_hold_first (place_fits w.names p) (same_types (place_type w.names p) ty && is_value ty) h) is stand)
  form_lowers (src.decay p) s ty w l n g h ns stand =
      let rest = both_hold_second (place_fits w.names p) (both_elem (item_of (place_type w.names p)) (pointee_of ty) && keeps_const (place_const w.names p) ty) h in
      let o = array_of (place_type w.names p) ty (both_hold_first (both_elem (item_of (place_type w.names p)) (pointee_of ty)) (keeps_const (place_const w.names p) ty) rest) in
      let fits = both_hold_first (place_fits w.names p) (both_elem (item_of (place_type w.names p)) (pointee_of ty) && keeps_const (place_const w.names p) ty) h in
      at_type w l ty (Pointer o.elem o.fixed) (array_value (place_in (source w.names) p n)) o.to (array_decays w l o.elem o.count o.fixed (place_in (source w.names) p n) (place_lowers p w l n (Array o.elem o.count) g fits o.from stand))
  form_lowers (src.address p) s ty w l n g h ns stand =
      let rest = both_hold_second (place_fits w.names p) (is_addressed p && (both_elem (element_of (place_type w.names p)) (pointee_of ty) && keeps_const (place_const w.names p) ty)) h in
      let types = both_hold_second (is_addressed p) (both_elem (element_of (place_type w.names p)) (pointee_of ty) && keeps_const (place_const w.names p) ty) rest in
      let o = object_of (place_type w.names p) ty (both_hold_first (both_elem (element_of (place_type w.names p)) (pointee_of ty)) (keeps_const (place_const w.names p) ty) types) in
      let fits = both_hold_first (place_fits w.names p) (is_addressed p && (both_elem (element_of (place_type w.names p)) (pointee_of ty) && keeps_const (place_const w.names p) ty)) h in
      let there = place_addressed (source w.names) p n (both_hold_first (is_addressed p) (both_elem (element_of (place_type w.names p)) (pointee_of ty) && keeps_const (place_const w.names p) ty) rest) in
      at_type w l ty (Pointer o.elem o.fixed) (address_value (place_in (source w.names) p n)) o.to (address_lowers w l o.elem o.fixed (place_in (source w.names) p n) there (place_lowers p w l n (type_of_elem o.elem) g fits o.from stand))
  form_lowers (src.unary op a) s ty w l n g h ns stand =
      let rule = both_hold_second (is_typed w.names a) (unary_fits op (ty_of a) ty) h in
      prefixed_lowers w l op a ty s (value_in (source w.names) a n) rule (value_lowers a w l n g (both_hold_first (is_typed w.names a) (unary_fits op (ty_of a) ty) h) (no_struct (ty_of a) (unary_operand op (ty_of a) ty rule).0) stand)
  form_lowers (src.convert a) s ty w l n g h ns stand =
      let rule = both_hold_second (is_typed w.names a) (converts (ty_of a) ty) h in
      converted_lowers w l a ty (value_in (source w.names) a n) rule (value_lowers a w l n g (both_hold_first (is_typed w.names a) (converts (ty_of a) ty) h) (no_struct (ty_of a) (convert_known 0 (ty_of a) ty rule).0) stand)
  form_lowers (src.discard a) s ty w l n g h ns stand =
      discard_lowers w l ty (effects_in (source w.names) a n) (both_hold_second (is_typed w.names a) (is_none ty) h) (effects_lower a w l n g (both_hold_first (is_typed w.names a) (is_none ty) h) stand)
  form_lowers (src.chain a ls) s ty w l n g h ns stand =
      let rest = both_hold_second (is_typed w.names a) (has_links ls && links_fit w.names (ty_of a) ls ty) h in
      let links = both_hold_second (has_links ls) (links_fit w.names (ty_of a) ls ty) rest in
      let scalar = (chain_scalar w.names (ty_of a) ls ty (both_hold_first (has_links ls) (links_fit w.names (ty_of a) ls ty) rest) links).0 in
      links_lower ls w l n a [] s (type_of a) ty (value_in (source w.names) a n) g (subst (λ z. links_fit w.names z ls ty ≡ true) (some_type a scalar) links)
      (λ st. value_lowers a w l n g (both_hold_first (is_typed w.names a) (has_links ls && links_fit w.names (ty_of a) ls ty) h) (no_struct (ty_of a) scalar) st) stand
  form_lowers (src.logical op a os) s ty w l n g h ns stand =
      let first = both_hold_first (is_typed w.names a && is_scalar (ty_of a)) ((has_operands os && operands_fit w.names os) && same_types ty r.int) h in
      let rest = both_hold_second (is_typed w.names a && is_scalar (ty_of a)) ((has_operands os && operands_fit w.names os) && same_types ty r.int) h in
      let scalar = both_hold_second (is_typed w.names a) (is_scalar (ty_of a)) first in
      let v = value_in (source w.names) a n in
      let far = started (typed s ty (src.logical op a os)) (past n v.temps) (type_of a) s v in
      truth_lowers w l (past n v.temps) (operands_in (source w.names) os op (past n v.temps) far n) ty (both_hold_second (has_operands os && operands_fit w.names os) (same_types ty r.int) rest)
      (operands_lower os w l n (past n v.temps) op far g (both_hold_second (has_operands os) (operands_fit w.names os) (both_hold_first (has_operands os && operands_fit w.names os) (same_types ty r.int) rest))
      (λ st. started_fits w l n (typed s ty (src.logical op a os)) a s v scalar (λ st1. value_lowers a w l n g (both_hold_first (is_typed w.names a) (is_scalar (ty_of a)) first) (no_struct (ty_of a) scalar) st1) st) stand)
  form_lowers (src.choice a b d) s ty w l n g h ns stand =
      let first = both_hold_first (is_typed w.names a && is_scalar (ty_of a)) ((is_typed w.names b && same_types (ty_of b) ty) && ((is_typed w.names d && same_types (ty_of d) ty) && is_arm ty)) h in
      let rest = both_hold_second (is_typed w.names a && is_scalar (ty_of a)) ((is_typed w.names b && same_types (ty_of b) ty) && ((is_typed w.names d && same_types (ty_of d) ty) && is_arm ty)) h in
      let yes = both_hold_first (is_typed w.names b && same_types (ty_of b) ty) ((is_typed w.names d && same_types (ty_of d) ty) && is_arm ty) rest in
      let more = both_hold_second (is_typed w.names b && same_types (ty_of b) ty) ((is_typed w.names d && same_types (ty_of d) ty) && is_arm ty) rest in
      let no = both_hold_first (is_typed w.names d && same_types (ty_of d) ty) (is_arm ty) more in
      let arm = both_hold_second (is_typed w.names d && same_types (ty_of d) ty) (is_arm ty) more in
      let scalar = both_hold_second (is_typed w.names a) (is_scalar (ty_of a)) first in
      let same_b = both_hold_second (is_typed w.names b) (same_types (ty_of b) ty) yes in
      let same_d = both_hold_second (is_typed w.names d) (same_types (ty_of d) ty) no in
      let test = value_in (source w.names) a n in
      let k = past n test.temps in
      let v = value_in (source w.names) b (k + 1) in
      choice_lowers w l n a b d (typed s ty (src.choice a b d)) ty test v (value_in (source w.names) d (past (k + 1) v.temps)) scalar arm same_b same_d
      (λ st. value_lowers a w l n g (both_hold_first (is_typed w.names a) (is_scalar (ty_of a)) first) (no_struct (ty_of a) scalar) st)
      (λ st. value_lowers b w l (k + 1) g (both_hold_first (is_typed w.names b) (same_types (ty_of b) ty) yes) (arm_no_struct (ty_of b) (subst (λ z. is_arm z ≡ true) (sym (equal_options (ty_of b) ty same_b)) arm)) st)
      (λ st. value_lowers d w l (past (k + 1) v.temps) g (both_hold_first (is_typed w.names d) (same_types (ty_of d) ty) no) (arm_no_struct (ty_of d) (subst (λ z. is_arm z ≡ true) (sym (equal_options (ty_of d) ty same_d)) arm)) st) stand
  form_lowers (src.assign p a) s ty w l n g h ns stand =
      let k = assign_rules w.names p a ty h in
      let at = place_in (source w.names) p n in
      let to = left_place true a n at in
      let of = object_in (source w.names) a (past n to.temps) in
      let v = value_in (source w.names) a (past n to.temps) in
      at_type w l ty k.type (value_at (assigned (is_struct ty) to of v)) k.is (value_at_fits w l k.type (assigned (is_struct ty) to of v) (value_scalar k.type k.value (subst (λ z. is_struct z ≡ false) k.is ns))
      (assignment_fits w l n true p a ty at of v k (λ st. place_lowers p w l n k.type g k.fits k.place st) (λ e st. object_lowers a w l (past n to.temps) k.type g k.right k.same e st)
      (λ e st. value_lowers a w l (past n to.temps) g k.right e st) stand))
  form_lowers (src.compound p at step a) s ty w l n g h ns stand =
      let k = compound_rules w.names p at step a ty h in
      let to = left_place true a n (place_in (source w.names) p n) in
      let v = value_in (source w.names) a (past n to.temps) in
      at_type w l ty k.type (value_at (compounded s step to v)) k.is (value_at_fits w l k.type (compounded s step to v) k.scalar
      (compound_assignment_fits w l n true p step a ty s (place_in (source w.names) p n) v k (λ st. place_lowers p w l n k.type g k.fits k.place st) (λ e st. value_lowers a w l (past n to.temps) g k.right e st) stand))
  form_lowers (src.step p at back false) s ty w l n g h ns stand =
      let k = count_rules w.names p at back false ty h in
      let to = fixed_if true n (place_in (source w.names) p n) in
      at_type w l ty k.type (value_at (counted s back to)) k.is (value_at_fits w l k.type (counted s back to) k.scalar
      (counted_place w l k.type n s back to k.scalar (λ st. fixed_if_fits true w l k.type n (place_in (source w.names) p n) (λ st1. place_lowers p w l n k.type g k.fits k.place st1) st) stand))
  form_lowers (src.step p at back true) s ty w l n g h ns stand =
      let k = count_rules w.names p at back true ty h in
      let to = fixed_if true n (place_in (source w.names) p n) in
      let x = holding to.ty (typed at (Some to.ty) (src.read p)) in
      at_type w l ty k.type (counted_after s back (past n to.temps) x to) k.is
      (counted_after_fits w l k.type n s back x to k.scalar refl (λ st. fixed_if_fits true w l k.type n (place_in (source w.names) p n) (λ st1. place_lowers p w l n k.type g k.fits k.place st1) st) stand)
  form_lowers (src.call fn arguments) s ty w l n g h ns stand =
      let c = called_is w fn.0 arguments ty g (both_hold_second (all_typed w.names arguments) (f.call_fits (slice_get w.names.signatures fn.0) arguments ty) h) in
      called_lowers w l n fn.0 s (typed s ty (src.call fn arguments)) arguments ty (arguments_in (source w.names) arguments n) c
      (λ st. arguments_lower arguments w l n c.signature.params g (both_hold_first (all_typed w.names arguments) (f.call_fits (slice_get w.names.signatures fn.0) arguments ty) h) c.given st) stand

  pub effects_lower : (a : src.ExprTree) (w : Setting) (l : Bool) (n : ℕ) → Agrees w → is_typed w.names a ≡ true → Stand w.variables n (effects_in (source w.names) a n).temps → EffectsFit w l (effects_in (source w.names) a n).stmts (effects_in (source w.names) a n).temps
  effects_lower (typed s ty form) w l n g h stand = form_effects_lower form s ty w l n (form_in (source w.names) form s ty n) g h (λ ns st. form_lowers form s ty w l n g h ns st) stand

  form_effects_lower : (form : FormTree) (s : Span) (ty : Option VarTy) (w : Setting) (l : Bool) (n : ℕ) (v : Lowered) → Agrees w → form_fits w.names form ty ≡ true → (is_struct ty ≡ false → Stand w.variables n v.temps → LoweredFits w l (type_or_int ty) v) →
      Stand w.variables n (form_effects (source w.names) form s ty n v).temps → EffectsFit w l (form_effects (source w.names) form s ty n v).stmts (form_effects (source w.names) form s ty n v).temps
  form_effects_lower (src.constant x) s ty w l n v g h k stand = record { stmts = tt; temps = tt }
  form_effects_lower src.null s ty w l n v g h k stand = record { stmts = tt; temps = tt }
  form_effects_lower (src.read p) s ty w l n v g h k stand =
      let o = placed w p ty (both_hold_second (place_fits w.names p) (same_types (place_type w.names p) ty && is_value ty) h) in
      checked_fits w l o.type (place_in (source w.names) p n) (place_lowers p w l n o.type g (both_hold_first (place_fits w.names p) (same_types (place_type w.names p) ty && is_value ty) h) o.is stand)
  form_effects_lower (src.decay p) s ty w l n v g h k stand =
      let rest = both_hold_second (place_fits w.names p) (both_elem (item_of (place_type w.names p)) (pointee_of ty) && keeps_const (place_const w.names p) ty) h in
      let o = array_of (place_type w.names p) ty (both_hold_first (both_elem (item_of (place_type w.names p)) (pointee_of ty)) (keeps_const (place_const w.names p) ty) rest) in
      checked_fits w l (Array o.elem o.count) (place_in (source w.names) p n) (place_lowers p w l n (Array o.elem o.count) g (both_hold_first (place_fits w.names p) (both_elem (item_of (place_type w.names p)) (pointee_of ty) && keeps_const (place_const w.names p) ty) h) o.from stand)
  form_effects_lower (src.address p) s ty w l n v g h k stand =
      let rest = both_hold_second (place_fits w.names p) (is_addressed p && (both_elem (element_of (place_type w.names p)) (pointee_of ty) && keeps_const (place_const w.names p) ty)) h in
      let types = both_hold_second (is_addressed p) (both_elem (element_of (place_type w.names p)) (pointee_of ty) && keeps_const (place_const w.names p) ty) rest in
      let o = object_of (place_type w.names p) ty (both_hold_first (both_elem (element_of (place_type w.names p)) (pointee_of ty)) (keeps_const (place_const w.names p) ty) types) in
      checked_fits w l (type_of_elem o.elem) (place_in (source w.names) p n) (place_lowers p w l n (type_of_elem o.elem) g (both_hold_first (place_fits w.names p) (is_addressed p && (both_elem (element_of (place_type w.names p)) (pointee_of ty) && keeps_const (place_const w.names p) ty)) h) o.from stand)
  form_effects_lower (src.unary op a) s ty w l n v g h k stand =
      let scalar = (unary_operand op (ty_of a) ty (both_hold_second (is_typed w.names a) (unary_fits op (ty_of a) ty) h)).1 in
      held_effects w l ty n (typed s ty (src.unary op a)) v scalar (k (no_struct ty scalar)) stand
  form_effects_lower (src.convert a) s ty w l n v g h k stand = effects_lower a w l n g (both_hold_first (is_typed w.names a) (converts (ty_of a) ty) h) stand
  form_effects_lower (src.discard a) s ty w l n v g h k stand = effects_lower a w l n g (both_hold_first (is_typed w.names a) (is_none ty) h) stand
  form_effects_lower (src.chain a ls) s ty w l n v g h k stand =
      let rest = both_hold_second (is_typed w.names a) (has_links ls && links_fit w.names (ty_of a) ls ty) h in
      let scalar = (chain_scalar w.names (ty_of a) ls ty (both_hold_first (has_links ls) (links_fit w.names (ty_of a) ls ty) rest) (both_hold_second (has_links ls) (links_fit w.names (ty_of a) ls ty) rest)).1 in
      held_effects w l ty n (typed s ty (src.chain a ls)) v scalar (k (no_struct ty scalar)) stand
  form_effects_lower (src.logical op a os) s ty w l n v g h k stand = let all = k (other_form w.names (src.logical op a os) ty refl h) stand in record { stmts = all.stmts; temps = all.temps }
  form_effects_lower (src.choice a b d) s ty w l n v g h k stand =
      let first = both_hold_first (is_typed w.names a && is_scalar (ty_of a)) ((is_typed w.names b && same_types (ty_of b) ty) && ((is_typed w.names d && same_types (ty_of d) ty) && is_arm ty)) h in
      let rest = both_hold_second (is_typed w.names a && is_scalar (ty_of a)) ((is_typed w.names b && same_types (ty_of b) ty) && ((is_typed w.names d && same_types (ty_of d) ty) && is_arm ty)) h in
      let yes = both_hold_first (is_typed w.names b && same_types (ty_of b) ty) ((is_typed w.names d && same_types (ty_of d) ty) && is_arm ty) rest in
      let no = both_hold_first (is_typed w.names d && same_types (ty_of d) ty) (is_arm ty) (both_hold_second (is_typed w.names b && same_types (ty_of b) ty) ((is_typed w.names d && same_types (ty_of d) ty) && is_arm ty) rest) in
      let scalar = both_hold_second (is_typed w.names a) (is_scalar (ty_of a)) first in
      let test = value_in (source w.names) a n in
      let one = effects_in (source w.names) b (past n test.temps) in
      let two = effects_in (source w.names) d (past (past n test.temps) one.temps) in
      choice_drops w l n a test one two scalar
      (λ st. value_lowers a w l n g (both_hold_first (is_typed w.names a) (is_scalar (ty_of a)) first) (no_struct (ty_of a) scalar) st)
      (λ st. effects_lower b w l (past n test.temps) g (both_hold_first (is_typed w.names b) (same_types (ty_of b) ty) yes) st)
      (λ st. effects_lower d w l (past (past n test.temps) one.temps) g (both_hold_first (is_typed w.names d) (same_types (ty_of d) ty) no) st) stand
  form_effects_lower (src.assign p a) s ty w l n v g h k stand =
      let m = assign_rules w.names p a ty h in
      let at = place_in (source w.names) p n in
      let to = left_place false a n at in
      let of = object_in (source w.names) a (past n to.temps) in
      let y = value_in (source w.names) a (past n to.temps) in
      place_effects_fit w l m.type (assigned (is_struct ty) to of y)
      (assignment_fits w l n false p a ty at of y m (λ st. place_lowers p w l n m.type g m.fits m.place st) (λ e st. object_lowers a w l (past n to.temps) m.type g m.right m.same e st)
      (λ e st. value_lowers a w l (past n to.temps) g m.right e st) stand)
  form_effects_lower (src.compound p at step a) s ty w l n v g h k stand =
      let m = compound_rules w.names p at step a ty h in
      let to = left_place false a n (place_in (source w.names) p n) in
      let y = value_in (source w.names) a (past n to.temps) in
      place_effects_fit w l m.type (compounded s step to y)
      (compound_assignment_fits w l n false p step a ty s (place_in (source w.names) p n) y m (λ st. place_lowers p w l n m.type g m.fits m.place st) (λ e st. value_lowers a w l (past n to.temps) g m.right e st) stand)
  form_effects_lower (src.step p at back postfix) s ty w l n v g h k stand =
      let m = count_rules w.names p at back postfix ty h in
      place_effects_fit w l m.type (counted s back (place_in (source w.names) p n))
      (counted_place w l m.type n s back (place_in (source w.names) p n) m.scalar (λ st. place_lowers p w l n m.type g m.fits m.place st) stand)
  form_effects_lower (src.call fn arguments) s ty w l n v g h k stand =
      let c = called_is w fn.0 arguments ty g (both_hold_second (all_typed w.names arguments) (f.call_fits (slice_get w.names.signatures fn.0) arguments ty) h) in
      call_drops w l n fn.0 s arguments ty (arguments_in (source w.names) arguments n) c
      (λ st. arguments_lower arguments w l n c.signature.params g (both_hold_first (all_typed w.names arguments) (f.call_fits (slice_get w.names.signatures fn.0) arguments ty) h) c.given st) stand

  links_lower : (ls : LinkTrees) (w : Setting) (l : Bool) (n : ℕ) (first : src.ExprTree) (before : List LinkTree) (s : Span) (so_far : VarTy) (ty : Option VarTy) (far : Lowered) → Agrees w → links_fit w.names (Some so_far) ls ty ≡ true →
      (Stand w.variables n far.temps → LoweredFits w l so_far far) → Stand w.variables n (links_in (source w.names) ls first before s so_far far n).temps → LoweredFits w l (type_or_int ty) (links_in (source w.names) ls first before s so_far far n)
  links_lower no_links w l n first before s so_far ty far g h k stand = at_type w l ty so_far far (sym (equal_options (Some so_far) ty h)) (k stand)
  links_lower (link_and (link at to step b) rest) w l n first before s so_far ty far g h k stand =
      let own = both_hold_second (is_typed w.names b) (same_types (r.stepped (Some so_far) step (ty_of b)) (Some to) && links_fit w.names (Some to) rest ty) h in
      let is = equal_options (r.stepped (Some so_far) step (ty_of b)) (Some to) (both_hold_first (same_types (r.stepped (Some so_far) step (ty_of b)) (Some to)) (links_fit w.names (Some to) rest ty) own) in
      let waits = not (takes_left_first step) || not (is_pure b) in
      let x = holding so_far (chain_so_far first before s so_far) in
      let ready = held_if waits n x far in
      links_lower rest w l n first (before ++ link at to step b ∷ []) at to ty (linked so_far step at ready (value_in (source w.names) b (past n ready.temps))) g
      (both_hold_second (same_types (r.stepped (Some so_far) step (ty_of b)) (Some to)) (links_fit w.names (Some to) rest ty) own)
      (λ st. linked_fits w l n so_far to step at b ready (value_in (source w.names) b (past n ready.temps)) is
      (λ st1. held_if_fits waits w l so_far n x far refl (so_far_scalar step so_far to (ty_of b) is) k st1)
      (λ ns st1. value_lowers b w l (past n ready.temps) g (both_hold_first (is_typed w.names b) (same_types (r.stepped (Some so_far) step (ty_of b)) (Some to) && links_fit w.names (Some to) rest ty) h) ns st1) st) stand

  operands_lower : (os : OperandTrees) (w : Setting) (l : Bool) (n k : ℕ) (op : LogicalOp) (far : Effects) → Agrees w → operands_fit w.names os ≡ true → (Stand w.variables n far.temps → TruthSoFar w l k far) →
      Stand w.variables n (operands_in (source w.names) os op k far n).temps → TruthSoFar w l k (operands_in (source w.names) os op k far n)
  operands_lower no_operands w l n k op far g h i stand = i stand
  operands_lower (operand_and (operand s a) rest) w l n k op far g h i stand =
      let own = both_hold_first (is_typed w.names a && is_scalar (ty_of a)) (operands_fit w.names rest) h in
      let v = value_in (source w.names) a (past n far.temps) in
      operands_lower rest w l n k op (with_operand op k (type_of a) s far v) g (both_hold_second (is_typed w.names a && is_scalar (ty_of a)) (operands_fit w.names rest) h)
      (λ st. operand_fits w l n k op a s far v (both_hold_second (is_typed w.names a) (is_scalar (ty_of a)) own) i (λ ns st1. value_lowers a w l (past n far.temps) g (both_hold_first (is_typed w.names a) (is_scalar (ty_of a)) own) ns st1) st) stand

  arguments_lower : (as_given : ExprTrees) (w : Setting) (l : Bool) (n : ℕ) (ps : List Param) → Agrees w → all_typed w.names as_given ≡ true → f.arguments_fit ps as_given ≡ true → Stand w.variables n (arguments_in (source w.names) as_given n).temps → ArgumentsFit w l ps (arguments_in (source w.names) as_given n)
  arguments_lower no_exprs w l n [] g h k stand = record { stmts = tt; values = refl; temps = tt }
  arguments_lower no_exprs w l n (p ∷ ps) g h k stand = false_not_true k
  arguments_lower (expr_and a rest) w l n [] g h k stand = false_not_true k
  arguments_lower (expr_and a rest) w l n (p ∷ ps) g h k stand =
      let same = both_hold_first (same_types (ty_of a) (Some (f.param_type p.kind))) (f.arguments_fit ps rest) k in
      let waits = not (are_pure rest) in
      let x = holding (type_of a) a in
      let v = held_if waits n x (value_in (source w.names) a n) in
      argued_fits w l n p ps a v (arguments_in (source w.names) rest (past n v.temps)) same
      (λ st. held_if_fits waits w l (type_of a) n x (value_in (source w.names) a n) refl (argument_scalar a p.kind same)
      (λ st1. value_lowers a w l n g (both_hold_first (is_typed w.names a) (all_typed w.names rest) h) (argument_no_struct a p.kind same) st1) st)
      (λ st. arguments_lower rest w l (past n v.temps) ps g (both_hold_second (is_typed w.names a) (all_typed w.names rest) h) (both_hold_second (same_types (ty_of a) (Some (f.param_type p.kind))) (f.arguments_fit ps rest) k) st) stand

  pub object_lowers : (a : src.ExprTree) (w : Setting) (l : Bool) (n : ℕ) (ty : VarTy) → Agrees w → is_typed w.names a ≡ true → ty_of a ≡ Some ty → is_struct (Some ty) ≡ true → Stand w.variables n (object_in (source w.names) a n).temps → PlaceFits w l ty (object_in (source w.names) a n)
  object_lowers (typed s o form) w l n ty g h is struct stand = form_object_lowers form s o w l n ty g h is struct stand

  form_object_lowers : (form : FormTree) (s : Span) (o : Option VarTy) (w : Setting) (l : Bool) (n : ℕ) (ty : VarTy) → Agrees w → form_fits w.names form o ≡ true → o ≡ Some ty → is_struct (Some ty) ≡ true →
      Stand w.variables n (form_object (source w.names) form s o n).temps → PlaceFits w l ty (form_object (source w.names) form s o n)
  form_object_lowers (src.read p) s o w l n ty g h is struct stand =
      let rest = both_hold_second (place_fits w.names p) (same_types (place_type w.names p) o && is_value o) h in
      place_lowers p w l n ty g (both_hold_first (place_fits w.names p) (same_types (place_type w.names p) o && is_value o) h) (equal_options (place_type w.names p) o (both_hold_first (same_types (place_type w.names p) o) (is_value o) rest) ∙ is) stand
  form_object_lowers (src.assign p a) s o w l n ty g h is struct stand =
      let k = assign_rules w.names p a o h in
      let at = place_in (source w.names) p n in
      let to = left_place true a n at in
      let of = object_in (source w.names) a (past n to.temps) in
      let v = value_in (source w.names) a (past n to.temps) in
      subst (λ z. PlaceFits w l z (assigned (is_struct o) to of v)) (one_type k.type ty (sym k.is ∙ is))
      (assignment_fits w l n true p a o at of v k (λ st. place_lowers p w l n k.type g k.fits k.place st) (λ e st. object_lowers a w l (past n to.temps) k.type g k.right k.same e st)
      (λ e st. value_lowers a w l (past n to.temps) g k.right e st) stand)
  form_object_lowers form s o w l n ty g h is struct stand = false_not_true (sym (other_form w.names form o refl h) ∙ ap is_struct is ∙ struct)

  pub place_lowers : (p : src.PlaceTree) (w : Setting) (l : Bool) (n : ℕ) (ty : VarTy) → Agrees w → place_fits w.names p ≡ true → place_type w.names p ≡ Some ty → Stand w.variables n (place_in (source w.names) p n).temps → PlaceFits w l ty (place_in (source w.names) p n)
  place_lowers (src.place root steps) w l n ty g h is stand =
      steps_lower steps w l n root [] (root_type w.names root) (root_in (source w.names) root n) ty g (both_hold_second (root_fits w.names root) (steps_fit w.names steps) h) is
      (λ z e st. root_lowers root w l n z g (both_hold_first (root_fits w.names root) (steps_fit w.names steps) h) e st) stand

  root_lowers : (root : RootTree) (w : Setting) (l : Bool) (n : ℕ) (ty : VarTy) → Agrees w → root_fits w.names root ≡ true → root_type w.names root ≡ Some ty → Stand w.variables n (root_in (source w.names) root n).temps → PlaceFits w l ty (root_in (source w.names) root n)
  root_lowers (src.local v) w l n ty g h is stand = variable_place_fits w l (src.local v) v.0 ty g is
  root_lowers (src.global v) w l n ty g h is stand = global_place_fits w l (src.global v) v.0 ty g is
  root_lowers (src.deref a s) w l n ty g h is stand =
      let o = pointee_of_pointer (ty_of a) ty is in
      subst (λ z. PlaceFits w l z (root_in (source w.names) (src.deref a s) n)) o.is
      (behind_fits w l o.elem o.fixed s a (value_in (source w.names) a n) (type_is a (Pointer o.elem o.fixed) o.from) (value_lowers a w l n g h (subst (λ z. is_struct z ≡ false) (sym o.from) refl) stand))
  root_lowers (src.assigned a) w l n ty g h is stand = let o = assigned_struct a ty is in object_lowers a w l n ty g h o.0 o.1 stand

  steps_lower : (steps : StepTrees) (w : Setting) (l : Bool) (n : ℕ) (root : RootTree) (before : List StepTree) (o : Option VarTy) (far : LoweredPlace) (ty : VarTy) → Agrees w → steps_fit w.names steps ≡ true → steps_type w.names.structs o steps ≡ Some ty →
      ((z : VarTy) → o ≡ Some z → Stand w.variables n far.temps → PlaceFits w l z far) → Stand w.variables n (steps_in (source w.names) steps root before far n).temps → PlaceFits w l ty (steps_in (source w.names) steps root before far n)
  steps_lower no_steps w l n root before o far ty g h is k stand = k ty is stand
  steps_lower (step_and (src.field j) rest) w l n root before o far ty g h is k stand =
      steps_lower rest w l n root (before ++ src.field j ∷ []) (field_type w.names.structs o j) (field_in (source w.names) j far) ty g h is (λ z e st. field_lowers w l j o z far g e (λ y d. k y d st)) stand
  steps_lower (step_and (src.item index s) rest) w l n root before o far ty g h is k stand =
      let first = decayed s (src.place root (step_trees before)) far in
      let waits = not (is_pure index) in
      let base = held_if waits n (holding (decayed_type far.fixed far.ty) first) (array_value far) in
      let v = value_in (source w.names) index (past n base.temps) in
      steps_lower rest w l n root (before ++ src.item index s ∷ []) (item_type o (integer_of (ty_of index))) (element_place s first index (decayed_type far.fixed far.ty) base v) ty g (both_hold_second (is_typed w.names index) (steps_fit w.names rest) h) is
      (λ z e st. item_fits w l n waits s first index o z far v e k (λ ns st1. value_lowers index w l (past n base.temps) g (both_hold_first (is_typed w.names index) (steps_fit w.names rest) h) ns st1) st) stand
