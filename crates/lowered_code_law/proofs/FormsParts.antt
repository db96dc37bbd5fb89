-- Places, assignments and what is dropped, each by what is known of its parts.
use Rattle.std.proofs.Common.{◌≡◌, ◌∙◌, ℕ, pos, refl, ap, sym, subst, Bool, true, false, Option, Some, None, List, [], ◌∷◌, ◌++◌, length}
use Rattle.std.specs.Prelude.{◌&&◌, ◌||◌, not, is_none, nat_le}
use Rattle.pt_base.specs.declared.int_type.IntType.TheVariants as i
use Rattle.pt_base.specs.declared.span.Span.{Span}
use Rattle.pt_base.proofs.Booleans.{both_hold_first, both_hold_second, false_not_true}
use Rattle.pt_tree.specs.declared.signature.Elem.{Elem}
use Rattle.pt_tree.specs.declared.signature.Elem.TheVariants as e
use Rattle.typed_tree.specs.declared.types.VarTy.{VarTy}
use Rattle.typed_tree.specs.declared.types.VarTy.TheVariants.{Int, Array, Pointer}
use Rattle.typed_tree.specs.declared.link.LinkStep.{LinkStep}
use Rattle.typed_tree.specs.ExpressionTree as src
use Rattle.typed_tree.specs.ExpressionTree.{typed, FormTree, ExprTrees, no_exprs, expr_and, LinkTree, LinkTrees, no_links, link_and, link, OperandTrees, no_operands, operand_and, operand, RootTree, StepTree, StepTrees, no_steps, step_and, step_trees}
use Rattle.typed_tree.specs.TypeTests.{same_types, integer_of, is_scalar, is_value, type_of_elem}
use Rattle.typed_tree.specs.WellFormedExpression as f
use Rattle.typed_tree.specs.WellFormedExpression.{Names, is_typed, form_fits, all_typed, links_fit, operands_fit, place_fits, root_fits, steps_fit, ty_of, root_type, step_type, steps_type, place_type, field_type, item_type, has_links, has_operands, is_addressed, is_written, keeps_const, place_const, is_assign, assigned_type, is_named, ends_in_field, is_object}
use Rattle.typed_tree.specs.WellFormed.{is_variable_type}
use Rattle.pt_core.specs.CodeTree.{decay, address, constant}
use Rattle.pt_core.specs.WellFormedExpression as core
use Rattle.source_meaning.specs.Expressions.{type_or_int, type_of}
use Rattle.lowering.specs.Lowered.{Temp, Effects, Lowered, LoweredPlace, past, holding, held, held_if}
use Rattle.lowering.specs.Purity.{is_pure}
use Rattle.lowering.specs.Expressions.{Scope, is_struct, field_in, decayed, decayed_type, element_place, left_place, valued, assigned, compounded, value_at, value_in, place_in, root_in, steps_in}
use Rattle.lowered_code_law.proofs.FormsSettings.{Agrees, EffectsFit, LoweredFits, PlaceFits, Setting, Stand, context, source}
use Rattle.typed_tree.proofs.SameTypes.{equal_options}
use Rattle.lowered_code_law.proofs.FormsStanding.{held_fits, held_if_fits, stand_first}
use Rattle.lowered_code_law.proofs.FormsSteps.{integer_is}
use Rattle.lowered_code_law.proofs.FormsPlaces.{address_fits, decay_fits, element_fits, field_addressed, field_in_fits, field_is, fixed_if_fits}
use Rattle.lowered_code_law.proofs.FormsRules.{AssignRules, CompoundRules, Typed, element_of_array, type_is, value_scalar, value_type}
use Rattle.lowered_code_law.proofs.FormLemmas.{assigned_fits, compounded_fits, nothing_fits, struct_compound, value_at_fits}

-- ---- steps of places

-- what stands of a held value stands of the value
pub held_stand : (b : Bool) (vs : List VarTy) (n : ℕ) (y : Temp) (v : Lowered) → Stand vs n (held_if b n y v).temps → Stand vs n v.temps
held_stand true vs n y v h = stand_first vs n v.temps (y ∷ []) h
held_stand false vs n y v h = h

abbrev pub array_value : LoweredPlace → Lowered
array_value far = record { stmts = far.stmts; value = decay far.place; temps = far.temps }

-- an array as a pointer to its first element
pub array_decays : (w : Setting) (l : Bool) (elem : Elem) (count : ℕ) (g : Bool) (p : LoweredPlace) → PlaceFits w l (Array elem count) p → LoweredFits w l (Pointer elem g) (array_value p)
array_decays w l elem count g p h = record { stmts = h.stmts; value = decay_fits (context w) p.place elem count g h.place h.type; temps = h.temps; known = both_hold_first (f.is_elem (length w.names.structs) (Some elem)) (nat_le 1 count) h.known }

-- an index of an array
pub item_fits : (w : Setting) (l : Bool) (n : ℕ) (b : Bool) (s : Span) (first index : src.ExprTree) (o : Option VarTy) (u : VarTy) (far : LoweredPlace) (v : Lowered) → item_type o (integer_of (ty_of index)) ≡ Some u →
    ((a : VarTy) → o ≡ Some a → Stand w.variables n far.temps → PlaceFits w l a far) →
    (is_struct (ty_of index) ≡ false → Stand w.variables (past n (held_if b n (holding (decayed_type far.fixed far.ty) first) (array_value far)).temps) v.temps → LoweredFits w l (type_of index) v) →
    Stand w.variables n (element_place s first index (decayed_type far.fixed far.ty) (held_if b n (holding (decayed_type far.fixed far.ty) first) (array_value far)) v).temps →
    PlaceFits w l u (element_place s first index (decayed_type far.fixed far.ty) (held_if b n (holding (decayed_type far.fixed far.ty) first) (array_value far)) v)
item_fits w l n b s first index o u far v is h k stand =
    let y = holding (decayed_type far.fixed far.ty) first in
    let base = held_if b n y (array_value far) in
    let el = element_of_array o (integer_of (ty_of index)) u is in
    let all = h (Array el.elem el.count) el.array (held_stand b w.variables n y (array_value far) (stand_first w.variables n base.temps v.temps stand)) in
    let pointer : decayed_type far.fixed far.ty ≡ Pointer el.elem far.fixed = ap (λ z. decayed_type far.fixed z) all.own in
    let number = integer_is (ty_of index) el.by el.number in
    subst (λ z. PlaceFits w l z (element_place s first index (decayed_type far.fixed far.ty) base v)) el.is
    (element_fits w l el.elem far.fixed el.by n s first index (decayed_type far.fixed far.ty) base v pointer
    (λ st. held_if_fits b w l (Pointer el.elem far.fixed) n y (array_value far) pointer refl (λ st1. array_decays w l el.elem el.count far.fixed far (h (Array el.elem el.count) el.array st1)) st)
    (λ st. subst (λ z. LoweredFits w l z v) (type_is index (Int el.by) number) (k (subst (λ z. is_struct z ≡ false) (sym number) refl) st)) stand)

-- a place that `&` stands before
pub steps_addressed : (c : Scope) (steps : StepTrees) (root : RootTree) (before : List StepTree) (far : LoweredPlace) (n : ℕ) (start : Bool) → (start ≡ true → core.is_addressed far.place ≡ true) → ends_in_field start steps ≡ true → core.is_addressed (steps_in c steps root before far n).place ≡ true
steps_addressed c no_steps root before far n start h k = h k
steps_addressed c (step_and (src.field j) rest) root before far n start h k = steps_addressed c rest root (before ++ src.field j ∷ []) (field_in c j far) n true (λ e. field_addressed far.place j) k
steps_addressed c (step_and (src.item index s) rest) root before far n start h k =
    let first = decayed s (src.place root (step_trees before)) far in
    let ty = decayed_type far.fixed far.ty in
    let base = held_if (not (is_pure index)) n (holding ty first) (array_value far) in
    steps_addressed c rest root (before ++ src.item index s ∷ []) (element_place s first index ty base (value_in c index (past n base.temps))) n false (λ e. false_not_true e) k

pub root_addressed : (c : Scope) (root : RootTree) (n : ℕ) → is_named root ≡ true → core.is_addressed (root_in c root n).place ≡ true
root_addressed c (src.local v) n h = refl
root_addressed c (src.global g) n h = refl
root_addressed c (src.deref a s) n h = false_not_true h
root_addressed c (src.assigned a) n h = false_not_true h

pub place_addressed : (c : Scope) (p : src.PlaceTree) (n : ℕ) → is_addressed p ≡ true → core.is_addressed (place_in c p n).place ≡ true
place_addressed c (src.place root steps) n h =
    steps_addressed c steps root [] (root_in c root n) n (is_named root) (root_addressed c root n) (both_hold_second (is_object (src.place root steps)) (ends_in_field (is_named root) steps) h)

-- ---- forms by their parts

-- a read of a value that is no struct
pub read_lowers : (w : Setting) (l : Bool) (n : ℕ) (p : src.PlaceTree) (t : Option VarTy) (v : LoweredPlace) → (same_types (place_type w.names p) t && is_value t) ≡ true → is_struct t ≡ false →
    ((ty : VarTy) → place_type w.names p ≡ Some ty → PlaceFits w l ty v) → LoweredFits w l (type_or_int t) (value_at v)
read_lowers w l n p None v h ns k = false_not_true (both_hold_second (same_types (place_type w.names p) None) false h)
read_lowers w l n p (Some ty) v h ns k =
    value_at_fits w l ty v (value_scalar ty (both_hold_second (same_types (place_type w.names p) (Some ty)) (is_value (Some ty)) h) ns) (k ty (equal_options (place_type w.names p) (Some ty) (both_hold_first (same_types (place_type w.names p) (Some ty)) (is_value (Some ty)) h)))

-- a place of some type
pub placed : (w : Setting) (p : src.PlaceTree) (t : Option VarTy) → (same_types (place_type w.names p) t && is_value t) ≡ true → Typed (place_type w.names p)
placed w p t h =
    let v = value_type t (both_hold_second (same_types (place_type w.names p) t) (is_value t) h) in
    record { type = v.type; is = equal_options (place_type w.names p) t (both_hold_first (same_types (place_type w.names p) t) (is_value t) h) ∙ v.is }

pub assignment_fits : (w : Setting) (l : Bool) (n : ℕ) (used : Bool) (p : src.PlaceTree) (a : src.ExprTree) (t : Option VarTy) (at of : LoweredPlace) (v : Lowered) (k : AssignRules w.names p a t) → (Stand w.variables n at.temps → PlaceFits w l k.type at) →
    (is_struct (Some k.type) ≡ true → Stand w.variables (past n (left_place used a n at).temps) of.temps → PlaceFits w l k.type of) →
    (is_struct (ty_of a) ≡ false → Stand w.variables (past n (left_place used a n at).temps) v.temps → LoweredFits w l (type_of a) v) →
    Stand w.variables n (assigned (is_struct t) (left_place used a n at) of v).temps → PlaceFits w l k.type (assigned (is_struct t) (left_place used a n at) of v)
assignment_fits w l n used p a t at of v k h i j stand = assigned_fits (is_struct t) w l k.type n (left_place used a n at) of v
    (λ e. struct_compound k.type (subst (λ z. is_struct z ≡ true) k.is e)) (λ e. value_scalar k.type k.value (subst (λ z. is_struct z ≡ false) k.is e))
    (λ st. fixed_if_fits (used || not (is_pure a)) w l k.type n at h st)
    (λ e st. i (subst (λ z. is_struct z ≡ true) k.is e) st)
    (λ e st. subst (λ z. LoweredFits w l z v) (type_is a k.type k.same) (j (subst (λ z. is_struct z ≡ false) (sym k.same) (subst (λ z. is_struct z ≡ false) k.is e)) st)) stand

pub compound_assignment_fits : (w : Setting) (l : Bool) (n : ℕ) (used : Bool) (p : src.PlaceTree) (step : LinkStep) (a : src.ExprTree) (t : Option VarTy) (s : Span) (at : LoweredPlace) (v : Lowered) (k : CompoundRules w.names p step a t) → (Stand w.variables n at.temps → PlaceFits w l k.type at) →
    (is_struct (ty_of a) ≡ false → Stand w.variables (past n (left_place used a n at).temps) v.temps → LoweredFits w l (type_of a) v) →
    Stand w.variables n (compounded s step (left_place used a n at) v).temps → PlaceFits w l k.type (compounded s step (left_place used a n at) v)
compound_assignment_fits w l n used p step a t s at v k h j stand =
    compounded_fits w l k.type n s step a (left_place used a n at) v k.comp k.stores (λ st. fixed_if_fits (used || not (is_pure a)) w l k.type n at h st) j stand

-- what has this type has it as the type that was asked for
pub at_type : (w : Setting) (l : Bool) (t : Option VarTy) (ty : VarTy) (v : Lowered) → t ≡ Some ty → LoweredFits w l ty v → LoweredFits w l (type_or_int t) v
at_type w l t ty v is h = subst (λ z. LoweredFits w l z v) (sym (ap type_or_int is)) h

-- ---- more forms by their parts

abbrev pub address_value : LoweredPlace → Lowered
address_value p = record { stmts = p.stmts; value = address p.place; temps = p.temps }

pub address_lowers : (w : Setting) (l : Bool) (elem : Elem) (g : Bool) (p : LoweredPlace) → core.is_addressed p.place ≡ true → PlaceFits w l (type_of_elem elem) p → LoweredFits w l (Pointer elem g) (address_value p)
address_lowers w l elem g p there h = record { stmts = h.stmts; value = address_fits (context w) p.place elem g h.place h.type there; temps = h.temps; known = known_elem (length w.names.structs) elem h.known }
  where
    known_elem : (n : ℕ) (elem : Elem) → is_variable_type n (type_of_elem elem) ≡ true → is_variable_type n (Pointer elem g) ≡ true
    known_elem n (e.Int a) h = refl
    known_elem n (e.Struct m) h = h

pub discard_lowers : (w : Setting) (l : Bool) (t : Option VarTy) (d : Effects) → is_none t ≡ true → EffectsFit w l d.stmts d.temps → LoweredFits w l (type_or_int t) (valued d (constant i.Int (pos 0)))
discard_lowers w l None d h k = nothing_fits w l d k
discard_lowers w l (Some ty) d h k = false_not_true h

-- a value that is held and dropped
pub held_effects : (w : Setting) (l : Bool) (t : Option VarTy) (n : ℕ) (whole : src.ExprTree) (v : Lowered) → is_scalar t ≡ true → (Stand w.variables n v.temps → LoweredFits w l (type_or_int t) v) →
    Stand w.variables n (held n (holding (type_or_int t) whole) v).temps → EffectsFit w l (held n (holding (type_or_int t) whole) v).stmts (held n (holding (type_or_int t) whole) v).temps
held_effects w l None n whole v h k stand = false_not_true h
held_effects w l (Some ty) n whole v h k stand = let all = held_fits w l ty n (holding ty whole) v refl h k stand in record { stmts = all.stmts; temps = all.temps }

pub field_lowers : (w : Setting) (l : Bool) (j : ℕ) (o : Option VarTy) (u : VarTy) (far : LoweredPlace) → Agrees w → field_type w.names.structs o j ≡ Some u → ((a : VarTy) → o ≡ Some a → PlaceFits w l a far) → PlaceFits w l u (field_in (source w.names) j far)
field_lowers w l j None u far g h k = cc
field_lowers w l j (Some a) u far g h k = field_in_fits w l a u j far (field_is w.names.structs a u j g.structs h) (k a refl)
