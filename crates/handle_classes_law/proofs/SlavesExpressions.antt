-- Expressions and places, lowered, are of the classes that marks give: by induction on the tree.
use Rattle.std.proofs.Common.{◌≡◌, ◌∙◌, ℕ, suc, ◌+◌, refl, ap, sym, subst, arith, true, false, Option, None, Some, List, [], ◌∷◌, ◌++◌, if◌then◌else◌}
use Rattle.std.specs.Prelude.{is_none, is_some, not, slice_get, ◌&&◌, ◌||◌}
use Rattle.std.specs.Option.{option_map}
use Rattle.flow_edges.specs.Edges.{assigned_edges}
use Rattle.handle_classes.specs.Classes.{number_class}
use Rattle.lowered_code_law.proofs.FormsExpressions.{place_lowers, value_lowers}
use Rattle.lowered_code_law.proofs.FormLemmas.{argument_no_struct, argument_scalar, arm_scalar, arm_type, called_is as signature_of, so_far_scalar}
use Rattle.lowered_code_law.proofs.FormsParts.{array_value, field_lowers, held_stand, item_fits, placed}
use Rattle.lowered_code_law.proofs.FormsPlaces.{fixed_if_fits}
use Rattle.lowered_code_law.proofs.FormsRules.{array_of, assign_rules, assigned_struct, chain_scalar, compound_rules, count_rules, element_of_array, no_struct, object_of, other_form, pointee_of_pointer, some_type, type_is, value_scalar, value_type}
use Rattle.lowered_code_law.proofs.FormsSameTypes.{stands_pointer}
use Rattle.lowered_code_law.proofs.FormsSettings.{PlaceFits, Stand, context, source}
use Rattle.lowered_code_law.proofs.FormsStanding.{stand_first}
use Rattle.lowered_code_law.proofs.FormsSteps.{convert_known, integer_is, one_type, step_operands, unary_operand}
use Rattle.lowering.specs.Expressions.{arguments_in, assigned, chain_so_far, compounded, counted, counted_after, decayed, decayed_type, effects_in, element_place, field_in, fixed_if, form_effects, form_in, form_object, is_struct, left_place, linked, links_in, object_in, operands_in, place_in, root_in, started, steps_in, value_at, value_in, with_operand}
use Rattle.lowering.specs.Lowered.{Effects, Lowered, LoweredPlace, held_if, holding, int, past, temp}
use Rattle.lowering.specs.Purity.{are_pure, is_pure, takes_left_first}
use Rattle.pt_base.specs.declared.ids.FnId.{FnId}
use Rattle.pt_base.specs.declared.span.Span.{Span}
use Rattle.pt_base.proofs.Booleans.{both_hold, both_hold_first, both_hold_second, false_not_true}
use Rattle.pt_base.proofs.Numbers.{as_plus_zero, zero_plus}
use Rattle.pt_core.specs.CodeTree.{read}
use Rattle.pt_core.specs.Types as core
use Rattle.pt_core.specs.WellFormedExpression.{stands_for}
use Rattle.pt_tree.specs.declared.signature.Param.{Param}
use Rattle.pt_tree.specs.declared.signature.Signature.{Signature}
use Rattle.sides.specs.Carried.{carried, form_slots, linked_slots, links_slots, place_slots, root_slots, start_of}
use Rattle.sides.specs.Carried as slots
use Rattle.usages.specs.Usages.{argument_usages, converted as conversion, evaluated, form_usages, link_usages, operand_usages, place_usages, root_usages, step_usages}
use Rattle.usages.specs.declared.usage.How.{How}
use Rattle.usages.specs.declared.usage.How.TheVariants.{Kept, Operated, Passed}
use Rattle.source_meaning.specs.Expressions.{type_of, type_or_int}
use Rattle.typed_tree.proofs.SameTypes.{equal_options}
use Rattle.typed_tree.specs.ExpressionTree.{ExprTrees, FormTree, LinkTree, LinkTrees, OperandTrees, RootTree, StepTree, StepTrees, expr_and, link, link_and, link_trees, no_exprs, no_links, no_operands, no_steps, operand, operand_and, step_and, step_trees, typed}
use Rattle.typed_tree.specs.ExpressionTree as src
use Rattle.typed_tree.specs.TypeRules.{converts, is_arm, unary_fits}
use Rattle.typed_tree.specs.TypeRules as r
use Rattle.typed_tree.specs.TypeTests.{both_elem, element_of, integer_of, is_scalar, is_value, item_of, pointee_of, same_types, type_of_elem}
use Rattle.typed_tree.specs.WellFormedExpression.{all_typed, field_type, form_fits, has_links, is_addressed, is_typed, item_type, keeps_const, links_fit, place_const, place_fits, place_type, root_fits, root_type, steps_fit, steps_type, ty_of}
use Rattle.typed_tree.specs.WellFormedExpression as f
use Rattle.typed_tree.specs.declared.link.LogicalOp.{LogicalOp}
use Rattle.typed_tree.specs.declared.types.VarTy.{VarTy}
use Rattle.typed_tree.specs.declared.types.VarTy.TheVariants.{Array, Int, Pointer, Struct}
use Rattle.handle_classes_law.proofs.SlavesBench.{AreFine, Bench, Fits, Held, LoweredIs, PlainIf, ValueIs, constant_is, held_if_is, holding_keeps, null_is, number_by, read_is, seen, temp_is}
use Rattle.handle_classes_law.proofs.SlavesCalls.{ArgumentsAre, argued_is, call_drops, called_is}
use Rattle.handle_classes_law.proofs.SlavesClasses.{behind}
use Rattle.handle_classes_law.proofs.SlavesEdges.{AreClosed}
use Rattle.handle_classes_law.proofs.SlavesForms.{address_is, decay_is, deref_is, elem_object, global_is, local_is, prefixed_is, step_plain}
use Rattle.handle_classes_law.proofs.SlavesParts.{TruthIs, checked_is, choice_drops, choice_is, constant_int, convert_form, held_drops, linked_is, links_more, none_int, operand_is, operand_scalar, plain_when, so_far_slots, so_far_type, started_is, unary_scalar}
use Rattle.handle_classes_law.proofs.SlavesPlaces.{after, after_more, begins, behind_both, field_place, item_offset, item_place, no_shift, root_seen, slots_more}
use Rattle.handle_classes_law.proofs.SlavesQuiet.{ChangedPlain, Quiet, changed_plain, plain_here, quiet_at, quiet_first, quiet_here, quiet_rest, quiet_within, type_at}
use Rattle.handle_classes_law.proofs.SlavesRoots.{PlaceIs, fixed_if_is}
use Rattle.handle_classes_law.proofs.SlavesStores.{assignment_is, compound_placed, counted_after_is, counted_is, counted_value}

next_more : (k j : ℕ) → suc k + j ≡ k + suc j
next_more k j = omega arith

-- ---- by induction

mutual
  pub value_is : (a : src.ExprTree) (how : How) (b : Bench) (n : ℕ) → Fits b → is_typed b.w.names a ≡ true → is_struct (ty_of a) ≡ false → Quiet b (evaluated how a) → Stand b.w.variables n (value_in (source b.w.names) a n).temps → Held b n (value_in (source b.w.names) a n).temps →
      LoweredIs b (type_of a) (carried (seen b) a) (value_in (source b.w.names) a n)
  value_is (typed s t form) how b n g h ns q stand held = let own = quiet_here b how s t form q in form_is form s t b n g h ns own.changed own.assigned (quiet_within b how s t form q) stand held

  form_is : (form : FormTree) (s : Span) (ty : Option VarTy) (b : Bench) (n : ℕ) → Fits b → form_fits b.w.names form ty ≡ true → is_struct ty ≡ false → ChangedPlain b ty form → AreClosed b.marks (assigned_edges (seen b) form) → Quiet b (form_usages ty form) → Stand b.w.variables n (form_in (source b.w.names) form s ty n).temps → Held b n (form_in (source b.w.names) form s ty n).temps →
      LoweredIs b (type_or_int ty) (form_slots (seen b) ty form) (form_in (source b.w.names) form s ty n)
  form_is (src.constant v) s ty b n g h ns ch mv q stand held = record { stmts = tt; value = constant_is b (type_or_int ty) _ v (constant_int ty v h) }
  form_is src.null s (Some (Pointer elem c)) b n g h ns ch mv q stand held = record { stmts = tt; value = null_is b elem c }
  form_is src.null s None b n g h ns ch mv q stand held = false_not_true h
  form_is src.null s (Some (Int t)) b n g h ns ch mv q stand held = false_not_true h
  form_is src.null s (Some (Struct t)) b n g h ns ch mv q stand held = false_not_true h
  form_is src.null s (Some (Array elem c)) b n g h ns ch mv q stand held = false_not_true h
  form_is (src.read p) s ty b n g h ns ch mv q stand held =
      let fits = both_hold_first (place_fits b.w.names p) (same_types (place_type b.w.names p) ty && is_value ty) h in
      let rest = both_hold_second (place_fits b.w.names p) (same_types (place_type b.w.names p) ty && is_value ty) h in
      let value = both_hold_second (same_types (place_type b.w.names p) ty) (is_value ty) rest in
      let v = value_type ty value in
      let is = equal_options (place_type b.w.names p) ty (both_hold_first (same_types (place_type b.w.names p) ty) (is_value ty) rest) ∙ v.is in
      let scalar = value_scalar v.type (subst (λ z. is_value z ≡ true) v.is value) (subst (λ z. is_struct z ≡ false) v.is ns) in
      let at = place_is p b n v.type g fits is q stand held in
      subst (λ z. LoweredIs b (type_or_int z) (place_slots (seen b) p) (form_in (source b.w.names) (src.read p) s z n)) (sym v.is)
      (record { stmts = at.stmts; value = read_is b v.type (place_slots (seen b) p) (place_in (source b.w.names) p n).place scalar at.class })
  form_is (src.decay p) s ty b n g h ns ch mv q stand held =
      let fits = both_hold_first (place_fits b.w.names p) (both_elem (item_of (place_type b.w.names p)) (pointee_of ty) && keeps_const (place_const b.w.names p) ty) h in
      let rest = both_hold_second (place_fits b.w.names p) (both_elem (item_of (place_type b.w.names p)) (pointee_of ty) && keeps_const (place_const b.w.names p) ty) h in
      let o = array_of (place_type b.w.names p) ty (both_hold_first (both_elem (item_of (place_type b.w.names p)) (pointee_of ty)) (keeps_const (place_const b.w.names p) ty) rest) in
      let at = place_is p b n (Array o.elem o.count) g fits o.from q stand held in
      let low = place_lowers p b.w false n (Array o.elem o.count) g.agrees fits o.from stand in
      subst (λ z. LoweredIs b (type_or_int z) (place_slots (seen b) p) (form_in (source b.w.names) (src.decay p) s z n)) (sym o.to)
      (record { stmts = at.stmts; value = decay_is b o.elem o.count o.fixed (place_slots (seen b) p) (place_in (source b.w.names) p n).place g.agrees.structs low.known low.type at.class })
  form_is (src.address p) s ty b n g h ns ch mv q stand held =
      let fits = both_hold_first (place_fits b.w.names p) (is_addressed p && (both_elem (element_of (place_type b.w.names p)) (pointee_of ty) && keeps_const (place_const b.w.names p) ty)) h in
      let rest = both_hold_second (is_addressed p) (both_elem (element_of (place_type b.w.names p)) (pointee_of ty) && keeps_const (place_const b.w.names p) ty) (both_hold_second (place_fits b.w.names p) (is_addressed p && (both_elem (element_of (place_type b.w.names p)) (pointee_of ty) && keeps_const (place_const b.w.names p) ty)) h) in
      let o = object_of (place_type b.w.names p) ty (both_hold_first (both_elem (element_of (place_type b.w.names p)) (pointee_of ty)) (keeps_const (place_const b.w.names p) ty) rest) in
      let at = place_is p b n (type_of_elem o.elem) g fits o.from q stand held in
      let low = place_lowers p b.w false n (type_of_elem o.elem) g.agrees fits o.from stand in
      subst (λ z. LoweredIs b (type_or_int z) (place_slots (seen b) p) (form_in (source b.w.names) (src.address p) s z n)) (sym o.to)
      (record { stmts = at.stmts; value = address_is b o.elem o.fixed (place_slots (seen b) p) (place_in (source b.w.names) p n).place low.type at.class })
  form_is (src.unary op a) s ty b n g h ns ch mv q stand held =
      let typed_a = both_hold_first (is_typed b.w.names a) (unary_fits op (ty_of a) ty) h in
      let rule = both_hold_second (is_typed b.w.names a) (unary_fits op (ty_of a) ty) h in
      let scalar = unary_scalar op (ty_of a) ty rule in
      let v = value_is a Operated b n g typed_a (no_struct (ty_of a) scalar) q stand held in
      record { stmts = v.stmts; value = prefixed_is b op (type_of a) ty (carried (seen b) a) (value_in (source b.w.names) a n).value s (subst (λ z. unary_fits op z ty ≡ true) (some_type a scalar) rule) (plain_here b a scalar q) v.value }
  form_is (src.convert a) s ty b n g h ns ch mv q stand held =
      let typed_a = both_hold_first (is_typed b.w.names a) (converts (ty_of a) ty) h in
      let rule = both_hold_second (is_typed b.w.names a) (converts (ty_of a) ty) h in
      let no = no_struct (ty_of a) (convert_known 0 (ty_of a) ty rule).0 in
      let low = value_lowers a b.w false n g.agrees typed_a no stand in
      let v = value_is a (conversion (ty_of a) ty) b n g typed_a no q stand held in
      convert_form b (ty_of a) ty (carried (seen b) a) (value_in (source b.w.names) a n) rule (subst (λ z. conversion (ty_of a) ty ≡ Operated → PlainIf b z (carried (seen b) a)) (type_at a) (plain_when b (conversion (ty_of a) ty) a (convert_known 0 (ty_of a) ty rule).0 q))
      (subst (λ z. stands_for (core.type_of (context b.w) (value_in (source b.w.names) a n).value) z ≡ true) (type_at a) low.value.type) (subst (λ z. LoweredIs b z (carried (seen b) a) (value_in (source b.w.names) a n)) (type_at a) v)
  form_is (src.discard a) s ty b n g h ns ch mv q stand held =
      let int_is = none_int ty (both_hold_second (is_typed b.w.names a) (is_none ty) h) in
      record {
        stmts = effects_are a Kept b n g (both_hold_first (is_typed b.w.names a) (is_none ty) h) q stand held;
        value = record { fine = tt; is = number_by b (type_or_int ty) [] number_class int_is refl refl refl };
      }
  form_is (src.chain a ls) s ty b n g h ns ch mv q stand held =
      let rest = both_hold_second (is_typed b.w.names a) (has_links ls && links_fit b.w.names (ty_of a) ls ty) h in
      let links = both_hold_second (has_links ls) (links_fit b.w.names (ty_of a) ls ty) rest in
      let scalar = (chain_scalar b.w.names (ty_of a) ls ty (both_hold_first (has_links ls) (links_fit b.w.names (ty_of a) ls ty) rest) links).0 in
      let first = quiet_first b (evaluated Operated a) (link_usages ls) q in
      links_is ls b n a [] s (type_of a) ty (carried (seen b) a) (value_in (source b.w.names) a n) g (subst (λ z. links_fit b.w.names z ls ty ≡ true) (some_type a scalar) links) (quiet_rest b (evaluated Operated a) (link_usages ls) q)
      refl refl (plain_here b a scalar first)
      (λ st hl. value_is a Operated b n g (both_hold_first (is_typed b.w.names a) (has_links ls && links_fit b.w.names (ty_of a) ls ty) h) (no_struct (ty_of a) scalar) first st hl) stand held
  form_is (src.logical op a os) s ty b n g h ns ch mv q stand held =
      let first = both_hold_first (is_typed b.w.names a && is_scalar (ty_of a)) ((f.has_operands os && f.operands_fit b.w.names os) && same_types ty r.int) h in
      let rest = both_hold_second (is_typed b.w.names a && is_scalar (ty_of a)) ((f.has_operands os && f.operands_fit b.w.names os) && same_types ty r.int) h in
      let scalar = both_hold_second (is_typed b.w.names a) (is_scalar (ty_of a)) first in
      let int_is : type_or_int ty ≡ int = ap type_or_int (equal_options ty r.int (both_hold_second (f.has_operands os && f.operands_fit b.w.names os) (same_types ty r.int) rest)) in
      let whole = typed s ty (src.logical op a os) in
      let v = value_in (source b.w.names) a n in
      let j = past n v.temps in
      let qa = quiet_first b (evaluated Operated a) (operand_usages os) q in
      let keeps = holding_keeps b int int [] whole int_is refl in
      let done = operands_is os b n j op (started whole j (type_of a) s v) g (both_hold_second (f.has_operands os) (f.operands_fit b.w.names os) (both_hold_first (f.has_operands os && f.operands_fit b.w.names os) (same_types ty r.int) rest)) (quiet_rest b (evaluated Operated a) (operand_usages os) q)
      (λ st hl. started_is b n (type_of a) (carried (seen b) a) whole s v (subst (λ z. is_scalar z ≡ true) (some_type a scalar) scalar) (plain_here b a scalar qa) keeps
      (λ st1 hl1. value_is a Operated b n g (both_hold_first (is_typed b.w.names a) (is_scalar (ty_of a)) first) (no_struct (ty_of a) scalar) qa st1 hl1) st hl) stand held in
      record { stmts = done.stmts; value = subst (λ z. ValueIs b z [] (temp j)) (sym int_is) (temp_is b int [] j refl done.here) }
  form_is (src.choice a c d) s ty b n g h ns ch mv q stand held =
      let first = both_hold_first (is_typed b.w.names a && is_scalar (ty_of a)) ((is_typed b.w.names c && same_types (ty_of c) ty) && ((is_typed b.w.names d && same_types (ty_of d) ty) && is_arm ty)) h in
      let rest = both_hold_second (is_typed b.w.names a && is_scalar (ty_of a)) ((is_typed b.w.names c && same_types (ty_of c) ty) && ((is_typed b.w.names d && same_types (ty_of d) ty) && is_arm ty)) h in
      let yes = both_hold_first (is_typed b.w.names c && same_types (ty_of c) ty) ((is_typed b.w.names d && same_types (ty_of d) ty) && is_arm ty) rest in
      let more = both_hold_second (is_typed b.w.names c && same_types (ty_of c) ty) ((is_typed b.w.names d && same_types (ty_of d) ty) && is_arm ty) rest in
      let no = both_hold_first (is_typed b.w.names d && same_types (ty_of d) ty) (is_arm ty) more in
      let is = both_hold_second (is_typed b.w.names d && same_types (ty_of d) ty) (is_arm ty) more in
      let scalar = both_hold_second (is_typed b.w.names a) (is_scalar (ty_of a)) first in
      let same_c = both_hold_second (is_typed b.w.names c) (same_types (ty_of c) ty) yes in
      let same_d = both_hold_second (is_typed b.w.names d) (same_types (ty_of d) ty) no in
      let qa = quiet_first b (evaluated Operated a) (evaluated Kept c ++ evaluated Kept d) q in
      let qs = quiet_rest b (evaluated Operated a) (evaluated Kept c ++ evaluated Kept d) q in
      let test = value_in (source b.w.names) a n in
      let j = past n test.temps + 1 in
      let one = value_in (source b.w.names) c j in
      let two = value_in (source b.w.names) d (past j one.temps) in
      choice_is b n (type_of a) (type_or_int ty) (carried (seen b) a) (carried (seen b) c) (carried (seen b) d) (holding (type_or_int ty) (typed s ty (src.choice a c d))) test one two (arm_scalar ty is)
      (holding_keeps b (type_or_int ty) (type_or_int ty) (carried (seen b) c ++ carried (seen b) d) (typed s ty (src.choice a c d)) refl refl) (plain_here b a scalar qa)
      (λ st hl. value_is a Operated b n g (both_hold_first (is_typed b.w.names a) (is_scalar (ty_of a)) first) (no_struct (ty_of a) scalar) qa st hl)
      (λ st hl. subst (λ z. LoweredIs b z (carried (seen b) c) one) (arm_type c ty same_c) (value_is c Kept b j g (both_hold_first (is_typed b.w.names c) (same_types (ty_of c) ty) yes) (subst (λ z. is_struct z ≡ false) (sym (equal_options (ty_of c) ty same_c)) ns) (quiet_first b (evaluated Kept c) (evaluated Kept d) qs) st hl))
      (λ st hl. subst (λ z. LoweredIs b z (carried (seen b) d) two) (arm_type d ty same_d) (value_is d Kept b (past j one.temps) g (both_hold_first (is_typed b.w.names d) (same_types (ty_of d) ty) no) (subst (λ z. is_struct z ≡ false) (sym (equal_options (ty_of d) ty same_d)) ns) (quiet_rest b (evaluated Kept c) (evaluated Kept d) qs) st hl)) stand held
  form_is (src.assign p a) s ty b n g h ns ch mv q stand held =
      let k = assign_rules b.w.names p a ty h in
      let at = place_in (source b.w.names) p n in
      let to = left_place true a n at in
      let of = object_in (source b.w.names) a (past n to.temps) in
      let v = value_in (source b.w.names) a (past n to.temps) in
      let qa = quiet_rest b (place_usages p) (evaluated Kept a) q in
      let placed = assignment_is b n true p a ty at of v k g mv
      (λ st. place_lowers p b.w false n k.type g.agrees k.fits k.place st) (λ st hl. place_is p b n k.type g k.fits k.place (quiet_first b (place_usages p) (evaluated Kept a) q) st hl)
      (λ e st hl. object_is a Kept b (past n to.temps) k.type g k.right k.same e qa st hl) (λ e st hl. value_is a Kept b (past n to.temps) g k.right e qa st hl) stand held in
      subst (λ z. LoweredIs b z (place_slots (seen b) p) (value_at (assigned (is_struct ty) to of v))) (sym (ap type_or_int k.is))
      (record { stmts = placed.stmts; value = read_is b k.type (place_slots (seen b) p) (assigned (is_struct ty) to of v).place (value_scalar k.type k.value (subst (λ z. is_struct z ≡ false) k.is ns)) placed.class })
  form_is (src.compound p at op a) s ty b n g h ns ch mv q stand held =
      let k = compound_rules b.w.names p at op a ty h in
      let to = left_place true a n (place_in (source b.w.names) p n) in
      let v = value_in (source b.w.names) a (past n to.temps) in
      let px = changed_plain b ty k.type (place_slots (seen b) p) k.is k.scalar ch in
      let qa = quiet_rest b (place_usages p) (evaluated Operated a) q in
      let placed = compound_placed p op a s b n true ty k g px (place_in (source b.w.names) p n) v (plain_here b a (operand_scalar op k.type (ty_of a) k.stores) qa)
      (λ st. place_lowers p b.w false n k.type g.agrees k.fits k.place st) (λ st hl. place_is p b n k.type g k.fits k.place (quiet_first b (place_usages p) (evaluated Operated a) q) st hl)
      (λ st hl. value_is a Operated b (past n to.temps) g k.right (no_struct (ty_of a) (operand_scalar op k.type (ty_of a) k.stores)) qa st hl) stand held in
      subst (λ z. LoweredIs b z (place_slots (seen b) p) (value_at (compounded s op to v))) (sym (ap type_or_int k.is))
      (record { stmts = placed.stmts; value = read_is b k.type (place_slots (seen b) p) (compounded s op to v).place k.scalar placed.class })
  form_is (src.step p at back false) s ty b n g h ns ch mv q stand held =
      let k = count_rules b.w.names p at back false ty h in
      let to = fixed_if true n (place_in (source b.w.names) p n) in
      let px = changed_plain b ty k.type (place_slots (seen b) p) k.is k.scalar ch in
      let placed = counted_is b n s back k.type (place_slots (seen b) p) to k.scalar px (λ st. fixed_if_fits true b.w false k.type n (place_in (source b.w.names) p n) (λ st1. place_lowers p b.w false n k.type g.agrees k.fits k.place st1) st)
      (λ st hl. fixed_if_is true b n k.type (place_slots (seen b) p) (place_in (source b.w.names) p n) (λ st1 hl1. place_is p b n k.type g k.fits k.place q st1 hl1) st hl) stand held in
      subst (λ z. LoweredIs b (type_or_int z) (if is_some (pointee_of z) then place_slots (seen b) p else []) (value_at (counted s back to))) (sym k.is)
      (record { stmts = placed.stmts; value = counted_value b k.type (place_slots (seen b) p) (read (counted s back to).place) k.scalar px (read_is b k.type (place_slots (seen b) p) (counted s back to).place k.scalar placed.class) })
  form_is (src.step p at back true) s ty b n g h ns ch mv q stand held =
      let k = count_rules b.w.names p at back true ty h in
      let to = fixed_if true n (place_in (source b.w.names) p n) in
      let x = holding to.ty (typed at (Some to.ty) (src.read p)) in
      let px = changed_plain b ty k.type (place_slots (seen b) p) k.is k.scalar ch in
      let low : Stand b.w.variables n to.temps → PlaceFits b.w false k.type to = λ st. fixed_if_fits true b.w false k.type n (place_in (source b.w.names) p n) (λ st1. place_lowers p b.w false n k.type g.agrees k.fits k.place st1) st in
      let own = (low (stand_first b.w.variables n to.temps (x ∷ []) (stand_first b.w.variables n (to.temps ++ x ∷ []) [] stand))).own in
      let all = counted_after_is b n s back k.type (place_slots (seen b) p) x to k.scalar px (holding_keeps b k.type to.ty (place_slots (seen b) p) (typed at (Some to.ty) (src.read p)) own refl) low
      (λ st hl. fixed_if_is true b n k.type (place_slots (seen b) p) (place_in (source b.w.names) p n) (λ st1 hl1. place_is p b n k.type g k.fits k.place q st1 hl1) st hl) stand held in
      subst (λ z. LoweredIs b (type_or_int z) (if is_some (pointee_of z) then place_slots (seen b) p else []) (counted_after s back (past n to.temps) x to)) (sym k.is)
      (record { stmts = all.stmts; value = counted_value b k.type (place_slots (seen b) p) (temp (past n to.temps)) k.scalar px all.value })
  form_is (src.call fn arguments) s ty b n g h ns ch mv q stand held =
      let c = signature_of b.w fn.0 arguments ty g.agrees (both_hold_second (all_typed b.w.names arguments) (f.call_fits (slice_get b.w.names.signatures fn.0) arguments ty) h) in
      called_is b n fn.0 s (typed s ty (src.call fn arguments)) ty c.signature.result (arguments_in (source b.w.names) arguments n) g c.result refl refl
      (λ st hl. arguments_are arguments b n 0 fn c.signature c.signature.params g (both_hold_first (all_typed b.w.names arguments) (f.call_fits (slice_get b.w.names.signatures fn.0) arguments ty) h) c.given c.is (λ j. ap (λ m. slice_get c.signature.params m) (zero_plus j)) q st hl) stand held

  arguments_are : (as_given : ExprTrees) (b : Bench) (n k : ℕ) (fn : FnId) (x : Signature) (ps : List Param) → Fits b → all_typed b.w.names as_given ≡ true → f.arguments_fit ps as_given ≡ true → b.w.called fn.0 ≡ Some x → ((j : ℕ) → slice_get x.params (k + j) ≡ slice_get ps j) →
      Quiet b (argument_usages fn k as_given) → Stand b.w.variables n (arguments_in (source b.w.names) as_given n).temps → Held b n (arguments_in (source b.w.names) as_given n).temps → ArgumentsAre b (λ j. b.world.param fn.0 (k + j)) (arguments_in (source b.w.names) as_given n)
  arguments_are no_exprs b n k fn x ps g h fit called at q stand held = record { stmts = tt; values = tt }
  arguments_are (expr_and a rest) b n k fn x [] g h fit called at q stand held = false_not_true fit
  arguments_are (expr_and a rest) b n k fn x (p ∷ ps) g h fit called at q stand held =
      let same = both_hold_first (same_types (ty_of a) (Some (f.param_type p.kind))) (f.arguments_fit ps rest) fit in
      let waits = not (are_pure rest) in
      let y = holding (type_of a) a in
      let v = held_if waits n y (value_in (source b.w.names) a n) in
      let qa = quiet_first b (evaluated (Passed fn k) a) (argument_usages fn (suc k) rest) q in
      let passes = (quiet_at b (Passed fn k) a qa).passed fn k x p refl called (ap (λ m. slice_get x.params m) (as_plus_zero k) ∙ at 0) (equal_options (ty_of a) (Some (f.param_type p.kind)) same) in
      argued_is b n k fn.0 (type_of a) (carried (seen b) a) v (arguments_in (source b.w.names) rest (past n v.temps)) passes
      (λ st hl. held_if_is waits b (type_of a) (carried (seen b) a) n y (value_in (source b.w.names) a n) (argument_scalar a p.kind same) (holding_keeps b (type_of a) (type_of a) (carried (seen b) a) a refl refl)
      (λ hl1. value_is a (Passed fn k) b n g (both_hold_first (is_typed b.w.names a) (all_typed b.w.names rest) h) (argument_no_struct a p.kind same) qa (held_stand waits b.w.variables n y (value_in (source b.w.names) a n) st) hl1) hl)
      (λ st hl. arguments_are rest b (past n v.temps) (suc k) fn x ps g (both_hold_second (is_typed b.w.names a) (all_typed b.w.names rest) h) (both_hold_second (same_types (ty_of a) (Some (f.param_type p.kind))) (f.arguments_fit ps rest) fit) called (λ j. ap (λ m. slice_get x.params m) (next_more k j) ∙ at (suc j)) (quiet_rest b (evaluated (Passed fn k) a) (argument_usages fn (suc k) rest) q) st hl) stand held

  pub effects_are : (a : src.ExprTree) (how : How) (b : Bench) (n : ℕ) → Fits b → is_typed b.w.names a ≡ true → Quiet b (evaluated how a) → Stand b.w.variables n (effects_in (source b.w.names) a n).temps → Held b n (effects_in (source b.w.names) a n).temps → AreFine b (effects_in (source b.w.names) a n).stmts
  effects_are (typed s t form) how b n g h q stand held =
      let own = quiet_here b how s t form q in
      let within = quiet_within b how s t form q in
      form_effects_are form s t b n (form_in (source b.w.names) form s t n) g h own.changed own.assigned within (λ ns st hl. form_is form s t b n g h ns own.changed own.assigned within st hl) stand held

  form_effects_are : (form : FormTree) (s : Span) (ty : Option VarTy) (b : Bench) (n : ℕ) (v : Lowered) → Fits b → form_fits b.w.names form ty ≡ true → ChangedPlain b ty form → AreClosed b.marks (assigned_edges (seen b) form) → Quiet b (form_usages ty form) →
      (is_struct ty ≡ false → Stand b.w.variables n v.temps → Held b n v.temps → LoweredIs b (type_or_int ty) (form_slots (seen b) ty form) v) →
      Stand b.w.variables n (form_effects (source b.w.names) form s ty n v).temps → Held b n (form_effects (source b.w.names) form s ty n v).temps → AreFine b (form_effects (source b.w.names) form s ty n v).stmts
  form_effects_are (src.constant x) s ty b n v g h ch mv q k stand held = tt
  form_effects_are src.null s ty b n v g h ch mv q k stand held = tt
  form_effects_are (src.read p) s ty b n v g h ch mv q k stand held =
      let o = placed b.w p ty (both_hold_second (place_fits b.w.names p) (same_types (place_type b.w.names p) ty && is_value ty) h) in
      checked_is b o.type (place_slots (seen b) p) (place_in (source b.w.names) p n) (place_is p b n o.type g (both_hold_first (place_fits b.w.names p) (same_types (place_type b.w.names p) ty && is_value ty) h) o.is q stand held)
  form_effects_are (src.decay p) s ty b n v g h ch mv q k stand held =
      let rest = both_hold_second (place_fits b.w.names p) (both_elem (item_of (place_type b.w.names p)) (pointee_of ty) && keeps_const (place_const b.w.names p) ty) h in
      let o = array_of (place_type b.w.names p) ty (both_hold_first (both_elem (item_of (place_type b.w.names p)) (pointee_of ty)) (keeps_const (place_const b.w.names p) ty) rest) in
      checked_is b (Array o.elem o.count) (place_slots (seen b) p) (place_in (source b.w.names) p n) (place_is p b n (Array o.elem o.count) g (both_hold_first (place_fits b.w.names p) (both_elem (item_of (place_type b.w.names p)) (pointee_of ty) && keeps_const (place_const b.w.names p) ty) h) o.from q stand held)
  form_effects_are (src.address p) s ty b n v g h ch mv q k stand held =
      let rest = both_hold_second (place_fits b.w.names p) (is_addressed p && (both_elem (element_of (place_type b.w.names p)) (pointee_of ty) && keeps_const (place_const b.w.names p) ty)) h in
      let types = both_hold_second (is_addressed p) (both_elem (element_of (place_type b.w.names p)) (pointee_of ty) && keeps_const (place_const b.w.names p) ty) rest in
      let o = object_of (place_type b.w.names p) ty (both_hold_first (both_elem (element_of (place_type b.w.names p)) (pointee_of ty)) (keeps_const (place_const b.w.names p) ty) types) in
      checked_is b (type_of_elem o.elem) (place_slots (seen b) p) (place_in (source b.w.names) p n) (place_is p b n (type_of_elem o.elem) g (both_hold_first (place_fits b.w.names p) (is_addressed p && (both_elem (element_of (place_type b.w.names p)) (pointee_of ty) && keeps_const (place_const b.w.names p) ty)) h) o.from q stand held)
  form_effects_are (src.unary op a) s ty b n v g h ch mv q k stand held =
      let scalar = (unary_operand op (ty_of a) ty (both_hold_second (is_typed b.w.names a) (unary_fits op (ty_of a) ty) h)).1 in
      held_drops b n ty [] (typed s ty (src.unary op a)) v scalar refl refl (λ st hl. k (no_struct ty scalar) st hl) stand held
  form_effects_are (src.convert a) s ty b n v g h ch mv q k stand held = effects_are a (conversion (ty_of a) ty) b n g (both_hold_first (is_typed b.w.names a) (converts (ty_of a) ty) h) q stand held
  form_effects_are (src.discard a) s ty b n v g h ch mv q k stand held = effects_are a Kept b n g (both_hold_first (is_typed b.w.names a) (is_none ty) h) q stand held
  form_effects_are (src.chain a ls) s ty b n v g h ch mv q k stand held =
      let rest = both_hold_second (is_typed b.w.names a) (has_links ls && links_fit b.w.names (ty_of a) ls ty) h in
      let scalar = (chain_scalar b.w.names (ty_of a) ls ty (both_hold_first (has_links ls) (links_fit b.w.names (ty_of a) ls ty) rest) (both_hold_second (has_links ls) (links_fit b.w.names (ty_of a) ls ty) rest)).1 in
      held_drops b n ty (links_slots (seen b) (carried (seen b) a) ls) (typed s ty (src.chain a ls)) v scalar refl refl (λ st hl. k (no_struct ty scalar) st hl) stand held
  form_effects_are (src.logical op a os) s ty b n v g h ch mv q k stand held = (k (other_form b.w.names (src.logical op a os) ty refl h) stand held).stmts
  form_effects_are (src.choice a c d) s ty b n v g h ch mv q k stand held =
      let first = both_hold_first (is_typed b.w.names a && is_scalar (ty_of a)) ((is_typed b.w.names c && same_types (ty_of c) ty) && ((is_typed b.w.names d && same_types (ty_of d) ty) && is_arm ty)) h in
      let rest = both_hold_second (is_typed b.w.names a && is_scalar (ty_of a)) ((is_typed b.w.names c && same_types (ty_of c) ty) && ((is_typed b.w.names d && same_types (ty_of d) ty) && is_arm ty)) h in
      let yes = both_hold_first (is_typed b.w.names c && same_types (ty_of c) ty) ((is_typed b.w.names d && same_types (ty_of d) ty) && is_arm ty) rest in
      let no = both_hold_first (is_typed b.w.names d && same_types (ty_of d) ty) (is_arm ty) (both_hold_second (is_typed b.w.names c && same_types (ty_of c) ty) ((is_typed b.w.names d && same_types (ty_of d) ty) && is_arm ty) rest) in
      let scalar = both_hold_second (is_typed b.w.names a) (is_scalar (ty_of a)) first in
      let qa = quiet_first b (evaluated Operated a) (evaluated Kept c ++ evaluated Kept d) q in
      let qs = quiet_rest b (evaluated Operated a) (evaluated Kept c ++ evaluated Kept d) q in
      let test = value_in (source b.w.names) a n in
      let one = effects_in (source b.w.names) c (past n test.temps) in
      let two = effects_in (source b.w.names) d (past (past n test.temps) one.temps) in
      choice_drops b n (type_of a) (carried (seen b) a) test one two (plain_here b a scalar qa)
      (λ st hl. value_is a Operated b n g (both_hold_first (is_typed b.w.names a) (is_scalar (ty_of a)) first) (no_struct (ty_of a) scalar) qa st hl)
      (λ st hl. effects_are c Kept b (past n test.temps) g (both_hold_first (is_typed b.w.names c) (same_types (ty_of c) ty) yes) (quiet_first b (evaluated Kept c) (evaluated Kept d) qs) st hl)
      (λ st hl. effects_are d Kept b (past (past n test.temps) one.temps) g (both_hold_first (is_typed b.w.names d) (same_types (ty_of d) ty) no) (quiet_rest b (evaluated Kept c) (evaluated Kept d) qs) st hl) stand held
  form_effects_are (src.assign p a) s ty b n v g h ch mv q k stand held =
      let m = assign_rules b.w.names p a ty h in
      let at = place_in (source b.w.names) p n in
      let to = left_place false a n at in
      let qa = quiet_rest b (place_usages p) (evaluated Kept a) q in
      (assignment_is b n false p a ty at (object_in (source b.w.names) a (past n to.temps)) (value_in (source b.w.names) a (past n to.temps)) m g mv
      (λ st. place_lowers p b.w false n m.type g.agrees m.fits m.place st) (λ st hl. place_is p b n m.type g m.fits m.place (quiet_first b (place_usages p) (evaluated Kept a) q) st hl)
      (λ e st hl. object_is a Kept b (past n to.temps) m.type g m.right m.same e qa st hl) (λ e st hl. value_is a Kept b (past n to.temps) g m.right e qa st hl) stand held).stmts
  form_effects_are (src.compound p at op a) s ty b n v g h ch mv q k stand held =
      let m = compound_rules b.w.names p at op a ty h in
      let px = changed_plain b ty m.type (place_slots (seen b) p) m.is m.scalar ch in
      let to = left_place false a n (place_in (source b.w.names) p n) in
      let qa = quiet_rest b (place_usages p) (evaluated Operated a) q in
      (compound_placed p op a s b n false ty m g px (place_in (source b.w.names) p n) (value_in (source b.w.names) a (past n to.temps)) (plain_here b a (operand_scalar op m.type (ty_of a) m.stores) qa)
      (λ st. place_lowers p b.w false n m.type g.agrees m.fits m.place st) (λ st hl. place_is p b n m.type g m.fits m.place (quiet_first b (place_usages p) (evaluated Operated a) q) st hl)
      (λ st hl. value_is a Operated b (past n to.temps) g m.right (no_struct (ty_of a) (operand_scalar op m.type (ty_of a) m.stores)) qa st hl) stand held).stmts
  form_effects_are (src.step p at back postfix) s ty b n v g h ch mv q k stand held =
      let m = count_rules b.w.names p at back postfix ty h in
      let px = changed_plain b ty m.type (place_slots (seen b) p) m.is m.scalar ch in
      (counted_is b n s back m.type (place_slots (seen b) p) (place_in (source b.w.names) p n) m.scalar px (λ st. place_lowers p b.w false n m.type g.agrees m.fits m.place st) (λ st hl. place_is p b n m.type g m.fits m.place q st hl) stand held).stmts
  form_effects_are (src.call fn arguments) s ty b n v g h ch mv q k stand held =
      let c = signature_of b.w fn.0 arguments ty g.agrees (both_hold_second (all_typed b.w.names arguments) (f.call_fits (slice_get b.w.names.signatures fn.0) arguments ty) h) in
      call_drops b n fn.0 s (arguments_in (source b.w.names) arguments n)
      (λ st hl. arguments_are arguments b n 0 fn c.signature c.signature.params g (both_hold_first (all_typed b.w.names arguments) (f.call_fits (slice_get b.w.names.signatures fn.0) arguments ty) h) c.given c.is (λ j. ap (λ m. slice_get c.signature.params m) (zero_plus j)) q st hl) stand held

  pub object_is : (a : src.ExprTree) (how : How) (b : Bench) (n : ℕ) (ty : VarTy) → Fits b → is_typed b.w.names a ≡ true → ty_of a ≡ Some ty → is_struct (Some ty) ≡ true → Quiet b (evaluated how a) →
      Stand b.w.variables n (object_in (source b.w.names) a n).temps → Held b n (object_in (source b.w.names) a n).temps → PlaceIs b ty (carried (seen b) a) (object_in (source b.w.names) a n)
  object_is (typed s o form) how b n ty g h is struct q stand held = form_object_is form s o b n ty g h is struct (quiet_here b how s o form q).assigned (quiet_within b how s o form q) stand held

  form_object_is : (form : FormTree) (s : Span) (o : Option VarTy) (b : Bench) (n : ℕ) (ty : VarTy) → Fits b → form_fits b.w.names form o ≡ true → o ≡ Some ty → is_struct (Some ty) ≡ true → AreClosed b.marks (assigned_edges (seen b) form) → Quiet b (form_usages o form) →
      Stand b.w.variables n (form_object (source b.w.names) form s o n).temps → Held b n (form_object (source b.w.names) form s o n).temps → PlaceIs b ty (form_slots (seen b) o form) (form_object (source b.w.names) form s o n)
  form_object_is (src.read p) s o b n ty g h is struct mv q stand held =
      let rest = both_hold_second (place_fits b.w.names p) (same_types (place_type b.w.names p) o && is_value o) h in
      place_is p b n ty g (both_hold_first (place_fits b.w.names p) (same_types (place_type b.w.names p) o && is_value o) h) (equal_options (place_type b.w.names p) o (both_hold_first (same_types (place_type b.w.names p) o) (is_value o) rest) ∙ is) q stand held
  form_object_is (src.assign p a) s o b n ty g h is struct mv q stand held =
      let k = assign_rules b.w.names p a o h in
      let at = place_in (source b.w.names) p n in
      let to = left_place true a n at in
      let of = object_in (source b.w.names) a (past n to.temps) in
      let v = value_in (source b.w.names) a (past n to.temps) in
      let qa = quiet_rest b (place_usages p) (evaluated Kept a) q in
      subst (λ z. PlaceIs b z (place_slots (seen b) p) (assigned (is_struct o) to of v)) (one_type k.type ty (sym k.is ∙ is))
      (assignment_is b n true p a o at of v k g mv
      (λ st. place_lowers p b.w false n k.type g.agrees k.fits k.place st) (λ st hl. place_is p b n k.type g k.fits k.place (quiet_first b (place_usages p) (evaluated Kept a) q) st hl)
      (λ e st hl. object_is a Kept b (past n to.temps) k.type g k.right k.same e qa st hl) (λ e st hl. value_is a Kept b (past n to.temps) g k.right e qa st hl) stand held)
  form_object_is form s o b n ty g h is struct mv q stand held = false_not_true (sym (other_form b.w.names form o refl h) ∙ ap is_struct is ∙ struct)

  links_is : (ls : LinkTrees) (b : Bench) (n : ℕ) (first : src.ExprTree) (before : List LinkTree) (s : Span) (so_far : VarTy) (ty : Option VarTy) (slots : List ℕ) (far : Lowered) → Fits b → links_fit b.w.names (Some so_far) ls ty ≡ true → Quiet b (link_usages ls) →
      type_of (chain_so_far first before s so_far) ≡ so_far → links_slots (seen b) (carried (seen b) first) (link_trees before) ≡ slots → PlainIf b so_far slots →
      (Stand b.w.variables n far.temps → Held b n far.temps → LoweredIs b so_far slots far) → Stand b.w.variables n (links_in (source b.w.names) ls first before s so_far far n).temps → Held b n (links_in (source b.w.names) ls first before s so_far far n).temps →
      LoweredIs b (type_or_int ty) (links_slots (seen b) slots ls) (links_in (source b.w.names) ls first before s so_far far n)
  links_is no_links b n first before s so_far ty slots far g h q type from plain i stand held = subst (λ z. LoweredIs b z slots far) (ap type_or_int (equal_options (Some so_far) ty h)) (i stand held)
  links_is (link_and (link at to step c) rest) b n first before s so_far ty slots far g h q type from plain i stand held =
      let own = both_hold_second (is_typed b.w.names c) (same_types (r.stepped (Some so_far) step (ty_of c)) (Some to) && links_fit b.w.names (Some to) rest ty) h in
      let is = equal_options (r.stepped (Some so_far) step (ty_of c)) (Some to) (both_hold_first (same_types (r.stepped (Some so_far) step (ty_of c)) (Some to)) (links_fit b.w.names (Some to) rest ty) own) in
      let waits = not (takes_left_first step) || not (is_pure c) in
      let x = holding so_far (chain_so_far first before s so_far) in
      let ready = held_if waits n x far in
      let v = value_in (source b.w.names) c (past n ready.temps) in
      let o = step_operands step (Some so_far) (ty_of c) to is in
      let here = quiet_first b (evaluated Operated c) (link_usages rest) q in
      let keeps = holding_keeps b so_far so_far slots (chain_so_far first before s so_far) type (so_far_slots b first before s so_far ∙ from) in
      let of_c : (st : Stand b.w.variables (past n ready.temps) v.temps) → (hl : Held b (past n ready.temps) v.temps) → LoweredIs b (type_or_int (ty_of c)) (carried (seen b) c) v =
      λ st hl. subst (λ z. LoweredIs b z (carried (seen b) c) v) (type_at c) (value_is c Operated b (past n ready.temps) g (both_hold_first (is_typed b.w.names c) (same_types (r.stepped (Some so_far) step (ty_of c)) (Some to) && links_fit b.w.names (Some to) rest ty) h) (subst (λ z. is_struct z ≡ false) (sym o.by) (no_struct (Some o.right) o.right_scalar)) here st hl) in
      let plain_c = subst (λ z. PlainIf b z (carried (seen b) c)) (type_at c) (plain_here b c (subst (λ z. is_scalar z ≡ true) (sym o.by) o.right_scalar) here) in
      links_is rest b n first (before ++ link at to step c ∷ []) at to ty (linked_slots slots step (carried (seen b) c)) (linked so_far step at ready v) g (both_hold_second (same_types (r.stepped (Some so_far) step (ty_of c)) (Some to)) (links_fit b.w.names (Some to) rest ty) own)
      (quiet_rest b (evaluated Operated c) (link_usages rest) q) (so_far_type first before (link at to step c) at to)
      (links_more b (carried (seen b) first) before at to step c ∙ ap (λ z. linked_slots z step (carried (seen b) c)) from)
      (step_plain b step so_far to (ty_of c) slots (carried (seen b) c) is)
      (λ st hl. linked_is b n step so_far to (ty_of c) slots (carried (seen b) c) waits x far v at is plain plain_c (so_far_scalar step so_far to (ty_of c) is) keeps i (λ st2 hl2. of_c st2 hl2) st hl) stand held

  operands_is : (os : OperandTrees) (b : Bench) (n j : ℕ) (op : LogicalOp) (far : Effects) → Fits b → f.operands_fit b.w.names os ≡ true → Quiet b (operand_usages os) → (Stand b.w.variables n far.temps → Held b n far.temps → TruthIs b j far) →
      Stand b.w.variables n (operands_in (source b.w.names) os op j far n).temps → Held b n (operands_in (source b.w.names) os op j far n).temps → TruthIs b j (operands_in (source b.w.names) os op j far n)
  operands_is no_operands b n j op far g h q i stand held = i stand held
  operands_is (operand_and (operand s a) rest) b n j op far g h q i stand held =
      let own = both_hold_first (is_typed b.w.names a && is_scalar (ty_of a)) (f.operands_fit b.w.names rest) h in
      let scalar = both_hold_second (is_typed b.w.names a) (is_scalar (ty_of a)) own in
      let qa = quiet_first b (evaluated Operated a) (operand_usages rest) q in
      operands_is rest b n j op (with_operand op j (type_of a) s far (value_in (source b.w.names) a (past n far.temps))) g (both_hold_second (is_typed b.w.names a && is_scalar (ty_of a)) (f.operands_fit b.w.names rest) h) (quiet_rest b (evaluated Operated a) (operand_usages rest) q)
      (λ st hl. operand_is b n j op (type_of a) (carried (seen b) a) s far (value_in (source b.w.names) a (past n far.temps)) (subst (λ z. is_scalar z ≡ true) (some_type a scalar) scalar) (plain_here b a scalar qa) i
      (λ st1 hl1. value_is a Operated b (past n far.temps) g (both_hold_first (is_typed b.w.names a) (is_scalar (ty_of a)) own) (no_struct (ty_of a) scalar) qa st1 hl1) st hl) stand held

  pub place_is : (p : src.PlaceTree) (b : Bench) (n : ℕ) (ty : VarTy) → Fits b → place_fits b.w.names p ≡ true → place_type b.w.names p ≡ Some ty → Quiet b (place_usages p) → Stand b.w.variables n (place_in (source b.w.names) p n).temps → Held b n (place_in (source b.w.names) p n).temps →
      PlaceIs b ty (place_slots (seen b) p) (place_in (source b.w.names) p n)
  place_is (src.place root steps) b n ty g h is q stand held =
      let z = begins b.w.names.structs (root_type b.w.names root) steps ty is in
      let fits = both_hold_first (root_fits b.w.names root) (steps_fit b.w.names steps) h in
      let own = root_seen root b z.0 g z.1 in
      subst (λ o. PlaceIs b ty (behind (slots.steps_offset b.w.names.structs o steps) (root_slots (seen b) root)) (place_in (source b.w.names) (src.place root steps) n)) (sym own)
      (steps_is steps b n root [] z.0 (root_slots (seen b) root) (root_in (source b.w.names) root n) ty g (both_hold_second (root_fits b.w.names root) (steps_fit b.w.names steps) h) (subst (λ o. steps_type b.w.names.structs o steps ≡ Some ty) z.1 is) (quiet_rest b (root_usages root) (step_usages steps) q)
      (no_shift (root_slots (seen b) root)) own
      (λ st. place_lowers (src.place root no_steps) b.w false n z.0 g.agrees (both_hold (root_fits b.w.names root) true fits refl) z.1 st)
      (λ st hl. root_is root b n z.0 g fits z.1 (quiet_first b (root_usages root) (step_usages steps) q) st hl) stand held)

  steps_is : (steps : StepTrees) (b : Bench) (n : ℕ) (root : RootTree) (before : List StepTree) (z : VarTy) (xs : List ℕ) (far : LoweredPlace) (ty : VarTy) → Fits b → steps_fit b.w.names steps ≡ true → steps_type b.w.names.structs (Some z) steps ≡ Some ty → Quiet b (step_usages steps) →
      place_slots (seen b) (src.place root (step_trees before)) ≡ xs → after b.w.names.structs (slots.root_type (seen b) root) before ≡ Some z →
      (Stand b.w.variables n far.temps → PlaceFits b.w false z far) → (Stand b.w.variables n far.temps → Held b n far.temps → PlaceIs b z xs far) →
      Stand b.w.variables n (steps_in (source b.w.names) steps root before far n).temps → Held b n (steps_in (source b.w.names) steps root before far n).temps →
      PlaceIs b ty (behind (slots.steps_offset b.w.names.structs (Some z) steps) xs) (steps_in (source b.w.names) steps root before far n)
  steps_is no_steps b n root before z xs far ty g h is q from type low i stand held =
      subst (λ y. PlaceIs b ty y far) (sym (no_shift xs)) (subst (λ y. PlaceIs b y xs far) (ap type_or_int is) (i stand held))
  steps_is (step_and (src.field j) rest) b n root before z xs far ty g h is q from type low i stand held =
      let u = begins b.w.names.structs (field_type b.w.names.structs (Some z) j) rest ty is in
      let d = slots.step_offset b.w.names.structs (Some z) (src.field j) in
      subst (λ y. PlaceIs b ty y (steps_in (source b.w.names) rest root (before ++ src.field j ∷ []) (field_in (source b.w.names) j far) n)) (sym (ap (λ o. behind (d + slots.steps_offset b.w.names.structs o rest) xs) u.1 ∙ behind_both d (slots.steps_offset b.w.names.structs (Some u.0) rest) xs))
      (steps_is rest b n root (before ++ src.field j ∷ []) u.0 (behind d xs) (field_in (source b.w.names) j far) ty g h (subst (λ o. steps_type b.w.names.structs o rest ≡ Some ty) u.1 is) q
      (slots_more b root before (src.field j) xs z from type) (after_more b.w.names.structs (slots.root_type (seen b) root) before (src.field j) ∙ ap (λ o. slots.step_type b.w.names.structs o (src.field j)) type ∙ u.1)
      (λ st. field_lowers b.w false j (Some z) u.0 far g.agrees u.1 (λ a e. subst (λ y. PlaceFits b.w false y far) (ap type_or_int e) (low st)))
      (λ st hl. field_place b z u.0 j xs far g u.1 (low st) (i st hl)) stand held)
  steps_is (step_and (src.item index s) rest) b n root before z xs far ty g h is q from type low i stand held =
      let u = begins b.w.names.structs (item_type (Some z) (integer_of (ty_of index))) rest ty is in
      let el = element_of_array (Some z) (integer_of (ty_of index)) u.0 u.1 in
      let first = decayed s (src.place root (step_trees before)) far in
      let waits = not (is_pure index) in
      let base = held_if waits n (holding (decayed_type far.fixed far.ty) first) (array_value far) in
      let v = value_in (source b.w.names) index (past n base.temps) in
      let next : slots.step_type b.w.names.structs (Some z) (src.item index s) ≡ Some u.0 = ap (λ o. option_map type_of_elem (item_of o)) el.array ∙ ap Some el.is in
      let here = quiet_first b (evaluated Operated index) (step_usages rest) q in
      let typed_i = both_hold_first (is_typed b.w.names index) (steps_fit b.w.names rest) h in
      let zero_off : slots.step_offset b.w.names.structs (Some z) (src.item index s) ≡ 0 = item_offset b.w.names.structs z index s in
      let so_far = slots_more b root before (src.item index s) xs z from type ∙ ap (λ d. behind d xs) zero_off ∙ no_shift xs in
      subst (λ y. PlaceIs b ty y (steps_in (source b.w.names) rest root (before ++ src.item index s ∷ []) (element_place s first index (decayed_type far.fixed far.ty) base v) n))
      (sym ((λ i. behind (zero_off i + slots.steps_offset b.w.names.structs (next i) rest) xs) ∙ behind_both 0 (slots.steps_offset b.w.names.structs (Some u.0) rest) xs ∙ ap (λ y. behind (slots.steps_offset b.w.names.structs (Some u.0) rest) y) (no_shift xs)))
      (steps_is rest b n root (before ++ src.item index s ∷ []) u.0 xs (element_place s first index (decayed_type far.fixed far.ty) base v) ty g (both_hold_second (is_typed b.w.names index) (steps_fit b.w.names rest) h) (subst (λ o. steps_type b.w.names.structs o rest ≡ Some ty) u.1 is) (quiet_rest b (evaluated Operated index) (step_usages rest) q)
      so_far (after_more b.w.names.structs (slots.root_type (seen b) root) before (src.item index s) ∙ ap (λ o. slots.step_type b.w.names.structs o (src.item index s)) type ∙ next)
      (λ st. item_fits b.w false n waits s first index (Some z) u.0 far v u.1 (λ a e st1. subst (λ y. PlaceFits b.w false y far) (ap type_or_int e) (low st1)) (λ ns st1. value_lowers index b.w false (past n base.temps) g.agrees typed_i ns st1) st)
      (λ st hl. item_place b n waits s first index z u.0 xs far v g u.1 refl from low i (plain_here b index (subst (λ z. is_scalar z ≡ true) (sym (integer_is (ty_of index) el.by el.number)) refl) here) (λ ns st1 hl1. value_is index Operated b (past n base.temps) g typed_i ns here st1 hl1) st hl) stand held)

  root_is : (root : RootTree) (b : Bench) (n : ℕ) (ty : VarTy) → Fits b → root_fits b.w.names root ≡ true → root_type b.w.names root ≡ Some ty → Quiet b (root_usages root) → Stand b.w.variables n (root_in (source b.w.names) root n).temps → Held b n (root_in (source b.w.names) root n).temps →
      PlaceIs b ty (root_slots (seen b) root) (root_in (source b.w.names) root n)
  root_is (src.local v) b n ty g h is q stand held =
      let o = g.locals v.0 ty is in
      subst (λ z. PlaceIs b ty (start_of z) (root_in (source b.w.names) (src.local v) n)) (sym o.object) (record { stmts = tt; class = local_is b v.0 ty o; through = tt })
  root_is (src.global v) b n ty g h is q stand held =
      let o = g.globals v.0 ty is in
      subst (λ z. PlaceIs b ty (start_of z) (root_in (source b.w.names) (src.global v) n)) (sym o.object) (record { stmts = tt; class = global_is b v.0 ty o; through = tt })
  root_is (src.deref a s) b n ty g h is q stand held =
      let o = pointee_of_pointer (ty_of a) ty is in
      let ns = subst (λ z. is_struct z ≡ false) (sym o.from) refl in
      let own = type_is a (Pointer o.elem o.fixed) o.from in
      let v = value_is a Kept b n g h ns q stand held in
      let low = value_lowers a b.w false n g.agrees h ns stand in
      let points = stands_pointer (core.type_of (context b.w) (value_in (source b.w.names) a n).value) o.elem o.fixed (subst (λ z. stands_for (core.type_of (context b.w) (value_in (source b.w.names) a n).value) z ≡ true) own low.value.type) in
      let value = subst (λ z. ValueIs b z (carried (seen b) a) (value_in (source b.w.names) a n).value) own v.value in
      subst (λ z. PlaceIs b z (carried (seen b) a) (root_in (source b.w.names) (src.deref a s) n)) o.is
      (record {
        stmts = v.stmts;
        class = deref_is b o.elem o.fixed points.own (carried (seen b) a) (value_in (source b.w.names) a n).value s points.is value;
        through = (
          record { elem = o.elem; fixed = o.fixed; own = points.own; slots = carried (seen b) a; kept = own; keeps = holding_keeps b (Pointer o.elem o.fixed) (type_of a) (carried (seen b) a) a own refl; value = value; type = points.is },
          elem_object o.elem,
        );
      })
  root_is (src.assigned a) b n ty g h is q stand held = let o = assigned_struct a ty is in object_is a Kept b n ty g h o.0 o.1 q stand held
