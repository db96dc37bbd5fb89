-- Expressions and places, lowered, can be said: by induction on the tree.
use Rattle.std.proofs.Common.{◌≡◌, ◌∙◌, ℕ, ◌+◌, refl, ap, sym, subst, Bool, true, false, Option, None, Some, List, [], ◌∷◌, ◌++◌, if◌then◌else◌}
use Rattle.std.specs.Prelude.{◌&&◌, ◌||◌, not, slice_get, is_none}
use Rattle.std.proofs.lemmas.Bool.{or_right}
use Rattle.pt_base.specs.declared.int_type.IntType.{IntType}
use Rattle.pt_base.specs.declared.span.Span.{Span}
use Rattle.pt_base.proofs.Booleans.{both_hold_first, both_hold_second, false_not_true, from_not_true}
use Rattle.pt_tree.specs.declared.signature.Param.{Param}
use Rattle.typed_tree.specs.declared.types.StructInfo.{StructInfo}
use Rattle.typed_tree.specs.declared.types.VarTy.{VarTy}
use Rattle.typed_tree.specs.declared.types.VarTy.TheVariants.{Array}
use Rattle.typed_tree.specs.declared.link.LinkStep.{LinkStep}
use Rattle.typed_tree.specs.declared.link.LogicalOp.{LogicalOp}
use Rattle.typed_tree.specs.ExpressionTree as src
use Rattle.typed_tree.specs.ExpressionTree.{typed, FormTree, ExprTrees, no_exprs, expr_and, LinkTree, LinkTrees, no_links, link_and, link, OperandTrees, no_operands, operand_and, operand, RootTree, StepTree, StepTrees, no_steps, step_and, step_trees}
use Rattle.typed_tree.specs.TypeTests.{same_types, both_elem, integer_of, pointee_of, points_to_const, element_of, item_of, is_scalar, is_value, type_of_elem}
use Rattle.typed_tree.specs.TypeRules as r
use Rattle.typed_tree.specs.TypeRules.{unary_fits, converts, promoted_value, is_arm}
use Rattle.typed_tree.specs.WellFormedExpression as f
use Rattle.typed_tree.specs.WellFormedExpression.{Names, is_typed, form_fits, all_typed, links_fit, operands_fit, place_fits, root_fits, steps_fit, ty_of, root_type, step_type, steps_type, place_type, field_type, item_type, has_links, has_operands, is_addressed, is_written, keeps_const, root_const, place_const, is_assign, assigned_type, is_object}
use Rattle.pt_core.specs.Types as core
use Rattle.source_meaning.specs.Expressions.{type_or_int, type_of}
use Rattle.lowering.specs.Lowered.{Temp, Effects, Lowered, LoweredPlace, past, holding, held_if}
use Rattle.lowering.specs.Purity.{takes_left_first, is_pure, are_pure}
use Rattle.lowering.specs.Expressions.{is_struct, field_in, decayed, decayed_type, element_place, left_place, fixed_if, linked, chain_so_far, started, with_operand, counted_after, assigned, compounded, counted, value_at, value_in, form_in, effects_in, form_effects, links_in, operands_in, arguments_in, object_in, form_object, place_in, root_in, steps_in}
use Rattle.lowered_code_law.proofs.FormsSettings.{Agrees, Setting, Stand, context, source}
use Rattle.typed_tree.proofs.SameTypes.{equal_options}
use Rattle.lowered_code_law.proofs.FormsStanding.{stand_first}
use Rattle.lowered_code_law.proofs.FormsPlaces.{fixed_if_fits}
use Rattle.lowered_code_law.proofs.FormsRules.{array_of, assign_rules, chain_scalar, compound_rules, count_rules, object_of, some_type, value_type, type_is}
use Rattle.lowered_code_law.proofs.FormLemmas.{called_is}
use Rattle.lowered_code_law.proofs.FormsParts.{array_value, placed}
use Rattle.lowered_code_law.proofs.FormsExpressions.{place_lowers}
use Rattle.half_names_law.specs.SaidNulls.{is_null, is_null_form, is_compared, stands, form_stands, arguments_stand, links_stand, operands_stand, place_stands, root_stands, steps_stand}
use Rattle.half_names_law.proofs.SaidLemmas.{AreSaid, LoweredSaid, PlaceSaid, ArgumentsSaid, or_twice, weaker, said_as, held_said, held_if_said}
use Rattle.half_names_law.proofs.SaidPlaces.{field_said, behind_said, element_said, fixed_if_said, value_at_said, checked_said}
use Rattle.half_names_law.proofs.SaidForms.{TruthSaid, prefixed_said, converted_said, linked_said, started_said, operand_said, truth_said, choice_said, choice_drops, assigned_said, assigned_type as place_assigned, compounded_said, counted_said, counted_after_said, argued_said, call_drops, called_said}

-- ---- const

-- the object whose value the expression gives is known as const
abbrev form_const : Names → FormTree → Bool
form_const n (src.read p) = place_const n p
form_const n _ = false

abbrev pub object_const : Names → src.ExprTree → Bool
object_const n (typed p o form) = form_const n form

pub said_where : (w : Setting) (b d : Bool) (p : LoweredPlace) → b ≡ d → PlaceSaid w b p → PlaceSaid w d p
said_where w b d p e h = subst (λ z. PlaceSaid w z p) e h

-- what is written isn't const
assign_free : (n : Names) (p : src.PlaceTree) (a : src.ExprTree) (o : Option VarTy) → form_fits n (src.assign p a) o ≡ true → place_const n p ≡ false
assign_free n p a o h =
    from_not_true (place_const n p) (both_hold_second (is_object p) (not (place_const n p)) (both_hold_second (place_fits n p) (is_written n p) (both_hold_first (place_fits n p && is_written n p) ((same_types (place_type n p) o && is_value o) && (is_typed n a && same_types (ty_of a) o)) h)))

compound_free : (n : Names) (p : src.PlaceTree) (at : Span) (step : LinkStep) (a : src.ExprTree) (o : Option VarTy) → form_fits n (src.compound p at step a) o ≡ true → place_const n p ≡ false
compound_free n p at step a o h =
    from_not_true (place_const n p) (both_hold_second (is_object p) (not (place_const n p)) (both_hold_second (place_fits n p) (is_written n p) (both_hold_first (place_fits n p && is_written n p) (same_types (place_type n p) o && (is_typed n a && (r.is_compound step && converts (r.stepped (promoted_value o) step (ty_of a)) o))) h)))

count_free : (n : Names) (p : src.PlaceTree) (at : Span) (back postfix : Bool) (o : Option VarTy) → form_fits n (src.step p at back postfix) o ≡ true → place_const n p ≡ false
count_free n p at back postfix o h =
    from_not_true (place_const n p) (both_hold_second (is_object p) (not (place_const n p)) (both_hold_second (place_fits n p) (is_written n p) (both_hold_first (place_fits n p && is_written n p) (same_types (place_type n p) o && is_scalar o) h)))

-- an assignment as an object isn't const
assigned_free : (n : Names) (a : src.ExprTree) (z : VarTy) → assigned_type a ≡ Some z → object_const n a ≡ false
assigned_free n (typed p o (src.assign to a)) z h = refl
assigned_free n (typed p o form) z h = cc

-- an address, or an array as a pointer, points to const where what it points to is const
kept : (b : Bool) (o : Option VarTy) → keeps_const b o ≡ true → b ≡ true → points_to_const (Some (type_or_int o)) ≡ true
kept true (Some ty) h e = h
kept true None h e = false_not_true h
kept false o h e = false_not_true e

-- ---- types of places

no_step : (structs : List StructInfo) (steps : StepTrees) (ty : VarTy) → steps_type structs None steps ≡ Some ty → false ≡ true
no_step structs no_steps ty h = cc
no_step structs (step_and (src.field k) rest) ty h = no_step structs rest ty h
no_step structs (step_and (src.item a p) rest) ty h = go (λ k. no_step structs rest ty k) (integer_of (ty_of a)) h
  where
    go : (steps_type structs None rest ≡ Some ty → false ≡ true) → (o : Option IntType) → steps_type structs (item_type None o) rest ≡ Some ty → false ≡ true
    go later None k = later k
    go later (Some t) k = later k

-- what a place begins with has a type
begins : (structs : List StructInfo) (o : Option VarTy) (steps : StepTrees) (ty : VarTy) → steps_type structs o steps ≡ Some ty → (z : VarTy) × (o ≡ Some z)
begins structs None steps ty h = false_not_true (no_step structs steps ty h)
begins structs (Some z) steps ty h = (z, refl)

-- ---- links

left_null : (b nul o p : Bool) → (if b then o || (not nul && p) else not nul && o) ≡ true → (b || not nul) ≡ true
left_null true nul o p h = refl
left_null false true o p h = h
left_null false false o p h = refl

right_null : (b nul o p : Bool) → (if b then o || (not nul && p) else not nul && o) ≡ true → (((b && not nul) && p) || o) ≡ true
right_null true true true p h = refl
right_null true true false p h = false_not_true h
right_null true false o true h = refl
right_null true false true false h = refl
right_null true false false false h = false_not_true h
right_null false true o p h = false_not_true h
right_null false false o p h = h

-- ---- types of values

const_here : (a : src.ExprTree) → points_to_const (Some (type_of a)) ≡ points_to_const (ty_of a)
const_here (typed p (Some ty) form) = refl
const_here (typed p None form) = refl

compound_type : (w : Setting) (ty : VarTy) (n : ℕ) (s : Span) (step : LinkStep) (to : LoweredPlace) (v : Lowered) → (Stand w.variables n to.temps → core.place_type (context w) to.place ≡ ty) → Stand w.variables n (to.temps ++ v.temps) → core.place_type (context w) to.place ≡ ty
compound_type w ty n s step to v is stand = is (stand_first w.variables n to.temps v.temps stand)

count_type : (w : Setting) (ty : VarTy) (n : ℕ) (s : Span) (back : Bool) (to : LoweredPlace) → (Stand w.variables n to.temps → core.place_type (context w) to.place ≡ ty) → Stand w.variables n (to.temps ++ []) → core.place_type (context w) to.place ≡ ty
count_type w ty n s back to is stand = is (stand_first w.variables n to.temps [] stand)

kept_type : (w : Setting) (ty : VarTy) (n : ℕ) (to : LoweredPlace) (x : Temp) (s : Span) (back : Bool) → (Stand w.variables n to.temps → to.ty ≡ ty) → Stand w.variables n (to.temps ++ x ∷ [] ++ []) → to.ty ≡ ty
kept_type w ty n to x s back is stand = is (stand_first w.variables n to.temps (x ∷ []) (stand_first w.variables n (to.temps ++ x ∷ []) [] stand))

-- ---- by induction

mutual
  pub value_said : (a : src.ExprTree) (w : Setting) (nul : Bool) (n : ℕ) → Agrees w → is_typed w.names a ≡ true → ((nul && is_null a) || stands a) ≡ true → Stand w.variables n (value_in (source w.names) a n).temps → LoweredSaid w nul (type_of a) (value_in (source w.names) a n)
  value_said (typed p ty src.null) w true n g h k stand = record { stmts = tt; alone = refl; keeps = λ e. false_not_true e }
  value_said (typed p ty form) w true n g h k stand = weaker w true (type_or_int ty) (form_in (source w.names) form p ty n) (form_said form p ty w n g h k stand)
  value_said (typed p ty form) w false n g h k stand = form_said form p ty w n g h k stand

  form_said : (form : FormTree) (p : Span) (ty : Option VarTy) (w : Setting) (n : ℕ) → Agrees w → form_fits w.names form ty ≡ true → form_stands form ≡ true → Stand w.variables n (form_in (source w.names) form p ty n).temps → LoweredSaid w false (type_or_int ty) (form_in (source w.names) form p ty n)
  form_said (src.constant v) s ty w n g h k stand = record { stmts = tt; alone = refl; keeps = λ e. false_not_true e }
  form_said src.null s ty w n g h k stand = false_not_true k
  form_said (src.read p) s ty w n g h k stand =
      let fits = both_hold_first (place_fits w.names p) (same_types (place_type w.names p) ty && is_value ty) h in
      let rest = both_hold_second (place_fits w.names p) (same_types (place_type w.names p) ty && is_value ty) h in
      let v = value_type ty (both_hold_second (same_types (place_type w.names p) ty) (is_value ty) rest) in
      let is = equal_options (place_type w.names p) ty (both_hold_first (same_types (place_type w.names p) ty) (is_value ty) rest) ∙ v.is in
      said_as w false v.type (type_or_int ty) (value_at (place_in (source w.names) p n)) (sym (ap type_or_int v.is))
      (value_at_said w (place_const w.names p) v.type (place_in (source w.names) p n) (place_lowers p w false n v.type g fits is stand).type (place_said p w n v.type g fits is k stand))
  form_said (src.decay p) s ty w n g h k stand =
      let fits = both_hold_first (place_fits w.names p) (both_elem (item_of (place_type w.names p)) (pointee_of ty) && keeps_const (place_const w.names p) ty) h in
      let rest = both_hold_second (place_fits w.names p) (both_elem (item_of (place_type w.names p)) (pointee_of ty) && keeps_const (place_const w.names p) ty) h in
      let o = array_of (place_type w.names p) ty (both_hold_first (both_elem (item_of (place_type w.names p)) (pointee_of ty)) (keeps_const (place_const w.names p) ty) rest) in
      let at = place_said p w n (Array o.elem o.count) g fits o.from k stand in
      record { stmts = at.stmts; alone = at.alone; keeps = λ e. kept (place_const w.names p) ty (both_hold_second (both_elem (item_of (place_type w.names p)) (pointee_of ty)) (keeps_const (place_const w.names p) ty) rest) (at.own (at.keeps e)) }
  form_said (src.address p) s ty w n g h k stand =
      let fits = both_hold_first (place_fits w.names p) (is_addressed p && (both_elem (element_of (place_type w.names p)) (pointee_of ty) && keeps_const (place_const w.names p) ty)) h in
      let rest = both_hold_second (is_addressed p) (both_elem (element_of (place_type w.names p)) (pointee_of ty) && keeps_const (place_const w.names p) ty) (both_hold_second (place_fits w.names p) (is_addressed p && (both_elem (element_of (place_type w.names p)) (pointee_of ty) && keeps_const (place_const w.names p) ty)) h) in
      let o = object_of (place_type w.names p) ty (both_hold_first (both_elem (element_of (place_type w.names p)) (pointee_of ty)) (keeps_const (place_const w.names p) ty) rest) in
      let at = place_said p w n (type_of_elem o.elem) g fits o.from k stand in
      record { stmts = at.stmts; alone = at.alone; keeps = λ e. kept (place_const w.names p) ty (both_hold_second (both_elem (element_of (place_type w.names p)) (pointee_of ty)) (keeps_const (place_const w.names p) ty) rest) (at.own (at.keeps e)) }
  form_said (src.unary op a) s ty w n g h k stand =
      prefixed_said w op a ty s (value_in (source w.names) a n) (both_hold_second (is_typed w.names a) (unary_fits op (ty_of a) ty) h) (value_said a w false n g (both_hold_first (is_typed w.names a) (unary_fits op (ty_of a) ty) h) k stand)
  form_said (src.convert a) s ty w n g h k stand =
      converted_said w a ty (value_in (source w.names) a n) (both_hold_second (is_typed w.names a) (converts (ty_of a) ty) h) (value_said a w false n g (both_hold_first (is_typed w.names a) (converts (ty_of a) ty) h) k stand)
  form_said (src.discard a) s ty w n g h k stand =
      record { stmts = effects_said a w n g (both_hold_first (is_typed w.names a) (is_none ty) h) (or_right (is_null a) (stands a) k) stand; alone = refl; keeps = λ e. false_not_true e }
  form_said (src.chain a ls) s ty w n g h k stand =
      let rest = both_hold_second (is_typed w.names a) (has_links ls && links_fit w.names (ty_of a) ls ty) h in
      let links = both_hold_second (has_links ls) (links_fit w.names (ty_of a) ls ty) rest in
      let scalar = (chain_scalar w.names (ty_of a) ls ty (both_hold_first (has_links ls) (links_fit w.names (ty_of a) ls ty) rest) links).0 in
      links_said ls w n (is_null a) a [] s (type_of a) ty (value_in (source w.names) a n) g (subst (λ z. links_fit w.names z ls ty ≡ true) (some_type a scalar) links) (both_hold_second (is_null a || stands a) (links_stand (is_null a) ls) k)
      (λ st. value_said a w (is_null a) n g (both_hold_first (is_typed w.names a) (has_links ls && links_fit w.names (ty_of a) ls ty) h) (or_twice (is_null a) (stands a) (both_hold_first (is_null a || stands a) (links_stand (is_null a) ls) k)) st) stand
  form_said (src.logical op a os) s ty w n g h k stand =
      let first = both_hold_first (is_typed w.names a && is_scalar (ty_of a)) ((has_operands os && operands_fit w.names os) && same_types ty r.int) h in
      let rest = both_hold_second (is_typed w.names a && is_scalar (ty_of a)) ((has_operands os && operands_fit w.names os) && same_types ty r.int) h in
      let scalar = both_hold_second (is_typed w.names a) (is_scalar (ty_of a)) first in
      let v = value_in (source w.names) a n in
      let far = started (typed s ty (src.logical op a os)) (past n v.temps) (type_of a) s v in
      truth_said w (past n v.temps) (operands_in (source w.names) os op (past n v.temps) far n) ty (both_hold_second (has_operands os && operands_fit w.names os) (same_types ty r.int) rest)
      (operands_said os w n (past n v.temps) op far g (both_hold_second (has_operands os) (operands_fit w.names os) (both_hold_first (has_operands os && operands_fit w.names os) (same_types ty r.int) rest)) (both_hold_second (stands a) (operands_stand os) k)
      (λ st. started_said w n (typed s ty (src.logical op a os)) a s v scalar (λ st1. value_said a w false n g (both_hold_first (is_typed w.names a) (is_scalar (ty_of a)) first) (both_hold_first (stands a) (operands_stand os) k) st1) st) stand)
  form_said (src.choice a b d) s ty w n g h k stand =
      let first = both_hold_first (is_typed w.names a && is_scalar (ty_of a)) ((is_typed w.names b && same_types (ty_of b) ty) && ((is_typed w.names d && same_types (ty_of d) ty) && is_arm ty)) h in
      let rest = both_hold_second (is_typed w.names a && is_scalar (ty_of a)) ((is_typed w.names b && same_types (ty_of b) ty) && ((is_typed w.names d && same_types (ty_of d) ty) && is_arm ty)) h in
      let yes = both_hold_first (is_typed w.names b && same_types (ty_of b) ty) ((is_typed w.names d && same_types (ty_of d) ty) && is_arm ty) rest in
      let no = both_hold_first (is_typed w.names d && same_types (ty_of d) ty) (is_arm ty) (both_hold_second (is_typed w.names b && same_types (ty_of b) ty) ((is_typed w.names d && same_types (ty_of d) ty) && is_arm ty) rest) in
      let arms = both_hold_second (stands a) ((is_null b || stands b) && (is_null d || stands d)) k in
      let test = value_in (source w.names) a n in
      let j = past n test.temps in
      let v = value_in (source w.names) b (j + 1) in
      choice_said w n a b d (typed s ty (src.choice a b d)) ty test v (value_in (source w.names) d (past (j + 1) v.temps)) (both_hold_second (is_typed w.names b) (same_types (ty_of b) ty) yes) (both_hold_second (is_typed w.names d) (same_types (ty_of d) ty) no)
      (λ st. value_said a w false n g (both_hold_first (is_typed w.names a) (is_scalar (ty_of a)) first) (both_hold_first (stands a) ((is_null b || stands b) && (is_null d || stands d)) k) st)
      (λ st. value_said b w true (j + 1) g (both_hold_first (is_typed w.names b) (same_types (ty_of b) ty) yes) (both_hold_first (is_null b || stands b) (is_null d || stands d) arms) st)
      (λ st. value_said d w true (past (j + 1) v.temps) g (both_hold_first (is_typed w.names d) (same_types (ty_of d) ty) no) (both_hold_second (is_null b || stands b) (is_null d || stands d) arms) st) stand
  form_said (src.assign p a) s ty w n g h k stand =
      let m = assign_rules w.names p a ty h in
      let at = place_in (source w.names) p n in
      let to = left_place true a n at in
      let of = object_in (source w.names) a (past n to.temps) in
      let v = value_in (source w.names) a (past n to.temps) in
      let is : Stand w.variables n to.temps → core.place_type (context w) to.place ≡ m.type = λ st. (fixed_if_fits (true || not (is_pure a)) w false m.type n at (λ st1. place_lowers p w false n m.type g m.fits m.place st1) st).type in
      said_as w false m.type (type_or_int ty) (value_at (assigned (is_struct ty) to of v)) (sym (ap type_or_int m.is))
      (value_at_said w false m.type (assigned (is_struct ty) to of v) (place_assigned (is_struct ty) w m.type n to of v is stand)
      (assigned_said (is_struct ty) w true (object_const w.names a) m.type n to of v (λ e. subst (λ z. is_struct z ≡ true) m.is e)
      (λ st. fixed_if_said (true || not (is_pure a)) w false n at (λ st1. said_where w (place_const w.names p) false at (assign_free w.names p a ty h) (place_said p w n m.type g m.fits m.place (both_hold_first (place_stands p) (is_null a || stands a) k) st1)) st) is
      (λ st. object_said a w (past n to.temps) g m.right (both_hold_second (place_stands p) (is_null a || stands a) k) st)
      (λ st. said_as w true (type_of a) m.type v (type_is a m.type m.same) (value_said a w true (past n to.temps) g m.right (both_hold_second (place_stands p) (is_null a || stands a) k) st)) stand))
  form_said (src.compound p at step a) s ty w n g h k stand =
      let m = compound_rules w.names p at step a ty h in
      let low = place_in (source w.names) p n in
      let to = left_place true a n low in
      let v = value_in (source w.names) a (past n to.temps) in
      let own = compounded_said w (type_of a) n s step to v m.comp
      (λ st. fixed_if_said (true || not (is_pure a)) w false n low (λ st1. said_where w (place_const w.names p) false low (compound_free w.names p at step a ty h) (place_said p w n m.type g m.fits m.place (both_hold_first (place_stands p) (stands a) k) st1)) st)
      (λ st. value_said a w false (past n to.temps) g m.right (both_hold_second (place_stands p) (stands a) k) st) stand in
      said_as w false m.type (type_or_int ty) (value_at (compounded s step to v)) (sym (ap type_or_int m.is))
      (value_at_said w false m.type (compounded s step to v) (compound_type w m.type n s step to v (λ st. (fixed_if_fits (true || not (is_pure a)) w false m.type n low (λ st1. place_lowers p w false n m.type g m.fits m.place st1) st).type) stand) own)
  form_said (src.step p at back false) s ty w n g h k stand =
      let m = count_rules w.names p at back false ty h in
      let low = place_in (source w.names) p n in
      let to = fixed_if true n low in
      let own = counted_said w n s back to (λ st. fixed_if_said true w false n low (λ st1. said_where w (place_const w.names p) false low (count_free w.names p at back false ty h) (place_said p w n m.type g m.fits m.place k st1)) st) stand in
      said_as w false m.type (type_or_int ty) (value_at (counted s back to)) (sym (ap type_or_int m.is))
      (value_at_said w false m.type (counted s back to) (count_type w m.type n s back to (λ st. (fixed_if_fits true w false m.type n low (λ st1. place_lowers p w false n m.type g m.fits m.place st1) st).type) stand) own)
  form_said (src.step p at back true) s ty w n g h k stand =
      let m = count_rules w.names p at back true ty h in
      let low = place_in (source w.names) p n in
      let to = fixed_if true n low in
      let x = holding to.ty (typed at (Some to.ty) (src.read p)) in
      said_as w false m.type (type_or_int ty) (counted_after s back (past n to.temps) x to) (sym (ap type_or_int m.is))
      (counted_after_said w m.type n s back x to (kept_type w m.type n to x s back (λ st. (fixed_if_fits true w false m.type n low (λ st1. place_lowers p w false n m.type g m.fits m.place st1) st).own) stand)
      (λ st. fixed_if_said true w false n low (λ st1. said_where w (place_const w.names p) false low (count_free w.names p at back true ty h) (place_said p w n m.type g m.fits m.place k st1)) st)
      (λ st. (fixed_if_fits true w false m.type n low (λ st1. place_lowers p w false n m.type g m.fits m.place st1) st).type) stand)
  form_said (src.call fn arguments) s ty w n g h k stand =
      let c = called_is w fn.0 arguments ty g (both_hold_second (all_typed w.names arguments) (f.call_fits (slice_get w.names.signatures fn.0) arguments ty) h) in
      called_said w n fn.0 s (typed s ty (src.call fn arguments)) arguments ty (arguments_in (source w.names) arguments n) c
      (λ st. arguments_said arguments w n c.signature.params g (both_hold_first (all_typed w.names arguments) (f.call_fits (slice_get w.names.signatures fn.0) arguments ty) h) c.given k st) stand

  pub effects_said : (a : src.ExprTree) (w : Setting) (n : ℕ) → Agrees w → is_typed w.names a ≡ true → (is_null a || stands a) ≡ true → Stand w.variables n (effects_in (source w.names) a n).temps → AreSaid w (effects_in (source w.names) a n).stmts
  effects_said (typed p ty src.null) w n g h k stand = tt
  effects_said (typed p ty form) w n g h k stand = form_effects_said form p ty w n (form_in (source w.names) form p ty n) g h k (λ st. form_said form p ty w n g h k st) stand

  form_effects_said : (form : FormTree) (p : Span) (ty : Option VarTy) (w : Setting) (n : ℕ) (v : Lowered) → Agrees w → form_fits w.names form ty ≡ true → form_stands form ≡ true → (Stand w.variables n v.temps → LoweredSaid w false (type_or_int ty) v) →
      Stand w.variables n (form_effects (source w.names) form p ty n v).temps → AreSaid w (form_effects (source w.names) form p ty n v).stmts
  form_effects_said (src.constant x) s ty w n v g h k i stand = tt
  form_effects_said src.null s ty w n v g h k i stand = tt
  form_effects_said (src.read p) s ty w n v g h k i stand =
      let fits = both_hold_first (place_fits w.names p) (same_types (place_type w.names p) ty && is_value ty) h in
      let o = placed w p ty (both_hold_second (place_fits w.names p) (same_types (place_type w.names p) ty && is_value ty) h) in
      checked_said w (place_const w.names p) (place_in (source w.names) p n) (place_said p w n o.type g fits o.is k stand)
  form_effects_said (src.decay p) s ty w n v g h k i stand =
      let fits = both_hold_first (place_fits w.names p) (both_elem (item_of (place_type w.names p)) (pointee_of ty) && keeps_const (place_const w.names p) ty) h in
      let rest = both_hold_second (place_fits w.names p) (both_elem (item_of (place_type w.names p)) (pointee_of ty) && keeps_const (place_const w.names p) ty) h in
      let o = array_of (place_type w.names p) ty (both_hold_first (both_elem (item_of (place_type w.names p)) (pointee_of ty)) (keeps_const (place_const w.names p) ty) rest) in
      checked_said w (place_const w.names p) (place_in (source w.names) p n) (place_said p w n (Array o.elem o.count) g fits o.from k stand)
  form_effects_said (src.address p) s ty w n v g h k i stand =
      let fits = both_hold_first (place_fits w.names p) (is_addressed p && (both_elem (element_of (place_type w.names p)) (pointee_of ty) && keeps_const (place_const w.names p) ty)) h in
      let rest = both_hold_second (is_addressed p) (both_elem (element_of (place_type w.names p)) (pointee_of ty) && keeps_const (place_const w.names p) ty) (both_hold_second (place_fits w.names p) (is_addressed p && (both_elem (element_of (place_type w.names p)) (pointee_of ty) && keeps_const (place_const w.names p) ty)) h) in
      let o = object_of (place_type w.names p) ty (both_hold_first (both_elem (element_of (place_type w.names p)) (pointee_of ty)) (keeps_const (place_const w.names p) ty) rest) in
      checked_said w (place_const w.names p) (place_in (source w.names) p n) (place_said p w n (type_of_elem o.elem) g fits o.from k stand)
  form_effects_said (src.unary op a) s ty w n v g h k i stand = (held_said w false (type_or_int ty) n (holding (type_or_int ty) (typed s ty (src.unary op a))) v refl i stand).stmts
  form_effects_said (src.convert a) s ty w n v g h k i stand = effects_said a w n g (both_hold_first (is_typed w.names a) (converts (ty_of a) ty) h) (or_right (is_null a) (stands a) k) stand
  form_effects_said (src.discard a) s ty w n v g h k i stand = effects_said a w n g (both_hold_first (is_typed w.names a) (is_none ty) h) (or_right (is_null a) (stands a) k) stand
  form_effects_said (src.chain a ls) s ty w n v g h k i stand = (held_said w false (type_or_int ty) n (holding (type_or_int ty) (typed s ty (src.chain a ls))) v refl i stand).stmts
  form_effects_said (src.logical op a os) s ty w n v g h k i stand = (i stand).stmts
  form_effects_said (src.choice a b d) s ty w n v g h k i stand =
      let first = both_hold_first (is_typed w.names a && is_scalar (ty_of a)) ((is_typed w.names b && same_types (ty_of b) ty) && ((is_typed w.names d && same_types (ty_of d) ty) && is_arm ty)) h in
      let rest = both_hold_second (is_typed w.names a && is_scalar (ty_of a)) ((is_typed w.names b && same_types (ty_of b) ty) && ((is_typed w.names d && same_types (ty_of d) ty) && is_arm ty)) h in
      let yes = both_hold_first (is_typed w.names b && same_types (ty_of b) ty) ((is_typed w.names d && same_types (ty_of d) ty) && is_arm ty) rest in
      let no = both_hold_first (is_typed w.names d && same_types (ty_of d) ty) (is_arm ty) (both_hold_second (is_typed w.names b && same_types (ty_of b) ty) ((is_typed w.names d && same_types (ty_of d) ty) && is_arm ty) rest) in
      let arms = both_hold_second (stands a) ((is_null b || stands b) && (is_null d || stands d)) k in
      let test = value_in (source w.names) a n in
      let one = effects_in (source w.names) b (past n test.temps) in
      let two = effects_in (source w.names) d (past (past n test.temps) one.temps) in
      choice_drops w (type_of a) n test one two
      (λ st. value_said a w false n g (both_hold_first (is_typed w.names a) (is_scalar (ty_of a)) first) (both_hold_first (stands a) ((is_null b || stands b) && (is_null d || stands d)) k) st)
      (λ st. effects_said b w (past n test.temps) g (both_hold_first (is_typed w.names b) (same_types (ty_of b) ty) yes) (both_hold_first (is_null b || stands b) (is_null d || stands d) arms) st)
      (λ st. effects_said d w (past (past n test.temps) one.temps) g (both_hold_first (is_typed w.names d) (same_types (ty_of d) ty) no) (both_hold_second (is_null b || stands b) (is_null d || stands d) arms) st) stand
  form_effects_said (src.assign p a) s ty w n v g h k i stand =
      let m = assign_rules w.names p a ty h in
      let at = place_in (source w.names) p n in
      let to = left_place false a n at in
      let of = object_in (source w.names) a (past n to.temps) in
      let y = value_in (source w.names) a (past n to.temps) in
      (assigned_said (is_struct ty) w true (object_const w.names a) m.type n to of y (λ e. subst (λ z. is_struct z ≡ true) m.is e)
      (λ st. fixed_if_said (false || not (is_pure a)) w false n at (λ st1. said_where w (place_const w.names p) false at (assign_free w.names p a ty h) (place_said p w n m.type g m.fits m.place (both_hold_first (place_stands p) (is_null a || stands a) k) st1)) st)
      (λ st. (fixed_if_fits (false || not (is_pure a)) w false m.type n at (λ st1. place_lowers p w false n m.type g m.fits m.place st1) st).type)
      (λ st. object_said a w (past n to.temps) g m.right (both_hold_second (place_stands p) (is_null a || stands a) k) st)
      (λ st. said_as w true (type_of a) m.type y (type_is a m.type m.same) (value_said a w true (past n to.temps) g m.right (both_hold_second (place_stands p) (is_null a || stands a) k) st)) stand).stmts
  form_effects_said (src.compound p at step a) s ty w n v g h k i stand =
      let m = compound_rules w.names p at step a ty h in
      let low = place_in (source w.names) p n in
      let to = left_place false a n low in
      (compounded_said w (type_of a) n s step to (value_in (source w.names) a (past n to.temps)) m.comp
      (λ st. fixed_if_said (false || not (is_pure a)) w false n low (λ st1. said_where w (place_const w.names p) false low (compound_free w.names p at step a ty h) (place_said p w n m.type g m.fits m.place (both_hold_first (place_stands p) (stands a) k) st1)) st)
      (λ st. value_said a w false (past n to.temps) g m.right (both_hold_second (place_stands p) (stands a) k) st) stand).stmts
  form_effects_said (src.step p at back postfix) s ty w n v g h k i stand =
      let m = count_rules w.names p at back postfix ty h in
      let low = place_in (source w.names) p n in
      (counted_said w n s back low (λ st. said_where w (place_const w.names p) false low (count_free w.names p at back postfix ty h) (place_said p w n m.type g m.fits m.place k st)) stand).stmts
  form_effects_said (src.call fn arguments) s ty w n v g h k i stand =
      let c = called_is w fn.0 arguments ty g (both_hold_second (all_typed w.names arguments) (f.call_fits (slice_get w.names.signatures fn.0) arguments ty) h) in
      call_drops w n fn.0 s arguments ty (arguments_in (source w.names) arguments n) c
      (λ st. arguments_said arguments w n c.signature.params g (both_hold_first (all_typed w.names arguments) (f.call_fits (slice_get w.names.signatures fn.0) arguments ty) h) c.given k st) stand

  links_said : (ls : LinkTrees) (w : Setting) (n : ℕ) (nul : Bool) (first : src.ExprTree) (before : List LinkTree) (s : Span) (so_far : VarTy) (ty : Option VarTy) (far : Lowered) → Agrees w → links_fit w.names (Some so_far) ls ty ≡ true → links_stand nul ls ≡ true →
      (Stand w.variables n far.temps → LoweredSaid w nul so_far far) → Stand w.variables n (links_in (source w.names) ls first before s so_far far n).temps → LoweredSaid w false (type_or_int ty) (links_in (source w.names) ls first before s so_far far n)
  links_said no_links w n true first before s so_far ty far g h k i stand = false_not_true k
  links_said no_links w n false first before s so_far ty far g h k i stand = said_as w false so_far (type_or_int ty) far (ap type_or_int (equal_options (Some so_far) ty h)) (i stand)
  links_said (link_and (link at to step b) rest) w n nul first before s so_far ty far g h k i stand =
      let own = both_hold_second (is_typed w.names b) (same_types (r.stepped (Some so_far) step (ty_of b)) (Some to) && links_fit w.names (Some to) rest ty) h in
      let is = equal_options (r.stepped (Some so_far) step (ty_of b)) (Some to) (both_hold_first (same_types (r.stepped (Some so_far) step (ty_of b)) (Some to)) (links_fit w.names (Some to) rest ty) own) in
      let here = both_hold_first (if is_compared step then stands b || (not nul && is_null b) else not nul && stands b) (links_stand false rest) k in
      let waits = not (takes_left_first step) || not (is_pure b) in
      let x = holding so_far (chain_so_far first before s so_far) in
      let ready = held_if waits n x far in
      links_said rest w n false first (before ++ link at to step b ∷ []) at to ty (linked so_far step at ready (value_in (source w.names) b (past n ready.temps))) g
      (both_hold_second (same_types (r.stepped (Some so_far) step (ty_of b)) (Some to)) (links_fit w.names (Some to) rest ty) own)
      (both_hold_second (if is_compared step then stands b || (not nul && is_null b) else not nul && stands b) (links_stand false rest) k)
      (λ st. linked_said w nul n so_far to step at b ready (value_in (source w.names) b (past n ready.temps)) is (left_null (is_compared step) nul (stands b) (is_null b) here)
      (λ st1. held_if_said waits w nul so_far n x far refl i st1)
      (λ st1. value_said b w (is_compared step && not nul) (past n ready.temps) g (both_hold_first (is_typed w.names b) (same_types (r.stepped (Some so_far) step (ty_of b)) (Some to) && links_fit w.names (Some to) rest ty) h) (right_null (is_compared step) nul (stands b) (is_null b) here) st1) st) stand

  operands_said : (os : OperandTrees) (w : Setting) (n j : ℕ) (op : LogicalOp) (far : Effects) → Agrees w → operands_fit w.names os ≡ true → operands_stand os ≡ true → (Stand w.variables n far.temps → TruthSaid w j far) →
      Stand w.variables n (operands_in (source w.names) os op j far n).temps → TruthSaid w j (operands_in (source w.names) os op j far n)
  operands_said no_operands w n j op far g h k i stand = i stand
  operands_said (operand_and (operand s a) rest) w n j op far g h k i stand =
      let own = both_hold_first (is_typed w.names a && is_scalar (ty_of a)) (operands_fit w.names rest) h in
      let v = value_in (source w.names) a (past n far.temps) in
      operands_said rest w n j op (with_operand op j (type_of a) s far v) g (both_hold_second (is_typed w.names a && is_scalar (ty_of a)) (operands_fit w.names rest) h) (both_hold_second (stands a) (operands_stand rest) k)
      (λ st. operand_said w n j op a s far v (both_hold_second (is_typed w.names a) (is_scalar (ty_of a)) own) i (λ st1. value_said a w false (past n far.temps) g (both_hold_first (is_typed w.names a) (is_scalar (ty_of a)) own) (both_hold_first (stands a) (operands_stand rest) k) st1) st) stand

  arguments_said : (as_given : ExprTrees) (w : Setting) (n : ℕ) (ps : List Param) → Agrees w → all_typed w.names as_given ≡ true → f.arguments_fit ps as_given ≡ true → arguments_stand as_given ≡ true → Stand w.variables n (arguments_in (source w.names) as_given n).temps → ArgumentsSaid w ps (arguments_in (source w.names) as_given n)
  arguments_said no_exprs w n [] g h i k stand = record { stmts = tt; passed = refl }
  arguments_said no_exprs w n (p ∷ ps) g h i k stand = false_not_true i
  arguments_said (expr_and a rest) w n [] g h i k stand = false_not_true i
  arguments_said (expr_and a rest) w n (p ∷ ps) g h i k stand =
      let same = both_hold_first (same_types (ty_of a) (Some (f.param_type p.kind))) (f.arguments_fit ps rest) i in
      let waits = not (are_pure rest) in
      let x = holding (type_of a) a in
      let v = held_if waits n x (value_in (source w.names) a n) in
      argued_said w n p ps a v (arguments_in (source w.names) rest (past n v.temps)) same
      (λ st. held_if_said waits w true (type_of a) n x (value_in (source w.names) a n) refl (λ st1. value_said a w true n g (both_hold_first (is_typed w.names a) (all_typed w.names rest) h) (both_hold_first (is_null a || stands a) (arguments_stand rest) k) st1) st)
      (λ st. arguments_said rest w (past n v.temps) ps g (both_hold_second (is_typed w.names a) (all_typed w.names rest) h) (both_hold_second (same_types (ty_of a) (Some (f.param_type p.kind))) (f.arguments_fit ps rest) i) (both_hold_second (is_null a || stands a) (arguments_stand rest) k) st) stand

  pub object_said : (a : src.ExprTree) (w : Setting) (n : ℕ) → Agrees w → is_typed w.names a ≡ true → (is_null a || stands a) ≡ true → Stand w.variables n (object_in (source w.names) a n).temps → PlaceSaid w (object_const w.names a) (object_in (source w.names) a n)
  object_said (typed p o form) w n g h k stand = form_object_said form p o w n g h k stand

  form_object_said : (form : FormTree) (p : Span) (o : Option VarTy) (w : Setting) (n : ℕ) → Agrees w → form_fits w.names form o ≡ true → (is_null_form form || form_stands form) ≡ true → Stand w.variables n (form_object (source w.names) form p o n).temps →
      PlaceSaid w (form_const w.names form) (form_object (source w.names) form p o n)
  form_object_said (src.read p) s o w n g h k stand =
      let fits = both_hold_first (place_fits w.names p) (same_types (place_type w.names p) o && is_value o) h in
      let t = placed w p o (both_hold_second (place_fits w.names p) (same_types (place_type w.names p) o && is_value o) h) in
      place_said p w n t.type g fits t.is k stand
  form_object_said (src.assign p a) s o w n g h k stand =
      let m = assign_rules w.names p a o h in
      let at = place_in (source w.names) p n in
      let to = left_place true a n at in
      let of = object_in (source w.names) a (past n to.temps) in
      let y = value_in (source w.names) a (past n to.temps) in
      assigned_said (is_struct o) w true (object_const w.names a) m.type n to of y (λ e. subst (λ z. is_struct z ≡ true) m.is e)
      (λ st. fixed_if_said (true || not (is_pure a)) w false n at (λ st1. said_where w (place_const w.names p) false at (assign_free w.names p a o h) (place_said p w n m.type g m.fits m.place (both_hold_first (place_stands p) (is_null a || stands a) k) st1)) st)
      (λ st. (fixed_if_fits (true || not (is_pure a)) w false m.type n at (λ st1. place_lowers p w false n m.type g m.fits m.place st1) st).type)
      (λ st. object_said a w (past n to.temps) g m.right (both_hold_second (place_stands p) (is_null a || stands a) k) st)
      (λ st. said_as w true (type_of a) m.type y (type_is a m.type m.same) (value_said a w true (past n to.temps) g m.right (both_hold_second (place_stands p) (is_null a || stands a) k) st)) stand
  form_object_said form s o w n g h k stand = record { stmts = tt; alone = refl; keeps = λ e. false_not_true e; own = λ e. false_not_true e; through = tt }

  pub place_said : (p : src.PlaceTree) (w : Setting) (n : ℕ) (ty : VarTy) → Agrees w → place_fits w.names p ≡ true → place_type w.names p ≡ Some ty → place_stands p ≡ true → Stand w.variables n (place_in (source w.names) p n).temps → PlaceSaid w (place_const w.names p) (place_in (source w.names) p n)
  place_said (src.place root steps) w n ty g h is k stand =
      let z = begins w.names.structs (root_type w.names root) steps ty is in
      steps_said steps w n root [] (root_const w.names root) (root_in (source w.names) root n) g (both_hold_second (root_fits w.names root) (steps_fit w.names steps) h) (both_hold_second (root_stands root) (steps_stand steps) k)
      (λ st. root_said root w n z.0 g (both_hold_first (root_fits w.names root) (steps_fit w.names steps) h) z.1 (both_hold_first (root_stands root) (steps_stand steps) k) st) stand

  root_said : (root : RootTree) (w : Setting) (n : ℕ) (ty : VarTy) → Agrees w → root_fits w.names root ≡ true → root_type w.names root ≡ Some ty → root_stands root ≡ true → Stand w.variables n (root_in (source w.names) root n).temps → PlaceSaid w (root_const w.names root) (root_in (source w.names) root n)
  root_said (src.local v) w n ty g h is k stand = record { stmts = tt; alone = refl; keeps = λ e. false_not_true e; own = λ e. false_not_true e; through = tt }
  root_said (src.global v) w n ty g h is k stand = record { stmts = tt; alone = refl; keeps = λ e. false_not_true e; own = λ e. false_not_true e; through = tt }
  root_said (src.deref a s) w n ty g h is k stand =
      said_where w (points_to_const (Some (type_of a))) (points_to_const (ty_of a)) (root_in (source w.names) (src.deref a s) n) (const_here a) (behind_said w s a (value_in (source w.names) a n) (value_said a w false n g h k stand))
  root_said (src.assigned a) w n ty g h is k stand =
      said_where w (object_const w.names a) false (object_in (source w.names) a n) (assigned_free w.names a ty is) (object_said a w n g h (or_right (is_null a) (stands a) k) stand)

  steps_said : (steps : StepTrees) (w : Setting) (n : ℕ) (root : RootTree) (before : List StepTree) (fixed : Bool) (far : LoweredPlace) → Agrees w → steps_fit w.names steps ≡ true → steps_stand steps ≡ true → (Stand w.variables n far.temps → PlaceSaid w fixed far) →
      Stand w.variables n (steps_in (source w.names) steps root before far n).temps → PlaceSaid w fixed (steps_in (source w.names) steps root before far n)
  steps_said no_steps w n root before fixed far g h k i stand = i stand
  steps_said (step_and (src.field j) rest) w n root before fixed far g h k i stand =
      steps_said rest w n root (before ++ src.field j ∷ []) fixed (field_in (source w.names) j far) g h k (λ st. field_said w (source w.names) fixed j far (i st)) stand
  steps_said (step_and (src.item index s) rest) w n root before fixed far g h k i stand =
      let first = decayed s (src.place root (step_trees before)) far in
      let waits = not (is_pure index) in
      let base = held_if waits n (holding (decayed_type far.fixed far.ty) first) (array_value far) in
      let v = value_in (source w.names) index (past n base.temps) in
      steps_said rest w n root (before ++ src.item index s ∷ []) fixed (element_place s first index (decayed_type far.fixed far.ty) base v) g (both_hold_second (is_typed w.names index) (steps_fit w.names rest) h) (both_hold_second (stands index) (steps_stand rest) k)
      (λ st. element_said w fixed n s first index waits far v i (λ st1. value_said index w false (past n base.temps) g (both_hold_first (is_typed w.names index) (steps_fit w.names rest) h) (both_hold_first (stands index) (steps_stand rest) k) st1) st) stand
