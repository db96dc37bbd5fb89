-- Expressions give values of their sizes, and places lie within: by induction on the tree.
use Rattle.std.proofs.Common.{◌≡◌, ◌∙◌, ℕ, pos, refl, ap, sym, subst, Bool, true, false, Option, Some, None, List, [], ◌∷◌, Result, Ok, Err, if◌then◌else◌}
use Rattle.std.specs.Prelude.{IsTrue, ◌&&◌, not, is_none, slice_get, option_map}
use Rattle.std.proofs.lemmas.Option.{get_or_from_slice_get}
use Rattle.pt_base.specs.declared.int_type.IntType.{IntType}
use Rattle.pt_base.specs.declared.int_type.IntType.TheVariants as i
use Rattle.pt_base.specs.declared.ids.FnId.{FnId}
use Rattle.pt_base.specs.declared.span.Span.{Span}
use Rattle.pt_base.specs.declared.trap.Trap.{Trap}
use Rattle.pt_base.proofs.Booleans.{both_hold_first, both_hold_second, false_not_true}
use Rattle.pt_base.proofs.Places.{get_map}
use Rattle.pt_tree.specs.declared.signature.Elem.{Elem}
use Rattle.pt_tree.specs.declared.signature.Param.{Param}
use Rattle.pt_tree.specs.declared.signature.Signature.{Signature}
use Rattle.runs.specs.State.{gives, trapped, spent, ◌>>=◌}
use Rattle.typed_tree.specs.declared.types.VarTy.{VarTy}
use Rattle.typed_tree.specs.declared.types.VarTy.TheVariants.{Int, Struct, Array, Pointer}
use Rattle.typed_tree.specs.declared.variable.Var.{Var}
use Rattle.typed_tree.specs.declared.variable.TypedGlobal.{TypedGlobal}
use Rattle.typed_tree.specs.declared.link.LinkStep.{LinkStep}
use Rattle.typed_tree.specs.declared.link.LogicalOp.{LogicalOp}
use Rattle.typed_tree.specs.ExpressionTree as t
use Rattle.typed_tree.specs.ExpressionTree.{ExprTree, typed, FormTree, ExprTrees, no_exprs, expr_and, LinkTrees, no_links, link_and, link, OperandTrees, no_operands, operand_and, operand, PlaceTree, place, RootTree, StepTree, StepTrees, no_steps, step_and}
use Rattle.typed_tree.specs.TypeTests.{same_types, both_elem, integer_of, pointee_of, element_of, item_of, is_scalar, is_value, type_of_elem}
use Rattle.typed_tree.specs.TypeRules as r
use Rattle.typed_tree.specs.TypeRules.{unary_fits, converts, promoted_value, is_compound, is_arm}
use Rattle.typed_tree.specs.WellFormedExpression as f
use Rattle.typed_tree.specs.WellFormedExpression.{Names, is_typed, form_fits, all_typed, links_fit, operands_fit, place_fits, root_fits, steps_fit, ty_of, assigned_type, root_type, steps_type, place_type, item_type, has_links, has_operands, is_addressed, is_written, keeps_const, place_const, param_type, arguments_fit, call_fits, is_main}
use Rattle.source_meaning.specs.Memory.{local, global, Cell, number, read}
use Rattle.source_meaning.specs.State.{State, Outcome}
use Rattle.source_meaning.specs.Values.{Value, holds, nothing, cell_of, number_of, is_true, truth_value, converted_cell, converted, moved_cell, Location, unary_cell, stepped, unit_step}
use Rattle.source_meaning.specs.Expressions as x
use Rattle.source_meaning.specs.Expressions.{Context, sizes, or_trap, type_at, field_at, decayed, address_of, dereferenced, indexed, loaded, stored_in, store, compounded, cell_or_trap, step_gives, counted, is_decided, type_or_int, type_of, value_of, form_value, values_of, links_value, link_value, operands_value, location_of, root_location, assigned_location, steps_location, step_location}
use Rattle.source_soundness.specs.Worlds.{World, Fits, ValueFits, LocationFits}
use Rattle.source_soundness.specs.Laws.{Keeps, ArgumentsFit, ContextFits}
use Rattle.source_soundness.specs.Sizes.{PointsWithin, Sized, KeepsSizes, ValueSized, LiesWithin, ArgumentsSized}
use Rattle.typed_tree.proofs.SameTypes.{equal_options}
use Rattle.source_soundness.proofs.Memories.{type_is}
use Rattle.source_soundness.proofs.Operators.{Gives, FitsAs}
use Rattle.source_soundness.proofs.Soundness.{keeps_bind, keeps_or_trap, some_of, scalar_value, array_of, object_of, read_promoted, Storable, stepped_storable, converts_scalar, unit_storable, names_live, entry_type, field_lies, element_lies, given_struct, steps_none, element_step, PointerTo, pointer_to_type, value_fits, arguments_keep, place_keeps, root_keeps}
use Rattle.source_soundness.proofs.SizedObjects.{whole_within, moves_within, within_of_pointer, pointee_within, loaded_sized, stored_sized}
use Rattle.source_soundness.proofs.SizedSteps.{SizedAs, number_sized, null_sized, unary_sized, converted_sized, step_sized, StorableSized, stepped_sized, unit_sized, read_sized, array_within, object_within, Setup, field_sized}

-- ---- parts of a run

-- one part after another, where the first also gives what fits
pub sizes_bind : {A B : Type 0} (w : World) (ss : List ℕ) (Q P : A → Type 0) (R : B → Type 0) (o : Outcome A) (next : A → State → Outcome B) → Keeps w Q o → KeepsSizes w ss P o →
    ((a : A) (st : State) → Q a → P a → Fits w st.memory → Sized w ss st.memory → KeepsSizes w ss R (next a st)) → KeepsSizes w ss R (o >>= next)
sizes_bind w ss Q P R (gives a st) next h p k = k a st h.0 p.0 h.1 p.1
sizes_bind w ss Q P R (trapped trap s st) next h p k = tt
sizes_bind w ss Q P R (spent st) next h p k = tt

pub sizes_then : {A B : Type 0} (w : World) (ss : List ℕ) (P : A → Type 0) (R : B → Type 0) (o : Outcome A) (next : A → State → Outcome B) → KeepsSizes w ss P o →
    ((a : A) (st : State) → P a → Sized w ss st.memory → KeepsSizes w ss R (next a st)) → KeepsSizes w ss R (o >>= next)
sizes_then w ss P R (gives a st) next p k = k a st p.0 p.1
sizes_then w ss P R (trapped trap s st) next p k = tt
sizes_then w ss P R (spent st) next p k = tt

pub sizes_weaker : {A : Type 0} (w : World) (ss : List ℕ) (P R : A → Type 0) (o : Outcome A) → KeepsSizes w ss P o → ((a : A) → P a → R a) → KeepsSizes w ss R o
sizes_weaker w ss P R (gives a st) h k = (k a h.0, h.1)
sizes_weaker w ss P R (trapped trap s st) h k = tt
sizes_weaker w ss P R (spent st) h k = tt

sizes_or_trap : {A : Type 0} (w : World) (ss : List ℕ) (P : A → Type 0) (s : Span) (o : Result A Trap) (st : State) → Gives P o → Sized w ss st.memory → KeepsSizes w ss P (or_trap s o st)
sizes_or_trap w ss P s (Ok a) st h z = (h, z)
sizes_or_trap w ss P s (Err trap) st h z = tt

sizes_cell : (w : World) (ss : List ℕ) (ty : Option VarTy) (s : Span) (o : Result Cell Trap) (st : State) → Gives (SizedAs w ss ty) o → Sized w ss st.memory → KeepsSizes w ss (ValueSized w ss ty) (cell_or_trap s o st)
sizes_cell w ss ty s (Ok c) st h z = (h, z)
sizes_cell w ss ty s (Err trap) st h z = tt

sizes_either : {A : Type 0} (w : World) (ss : List ℕ) (P : A → Type 0) (b : Bool) (first second : State → Outcome A) (st : State) → KeepsSizes w ss P (first st) → KeepsSizes w ss P (second st) → KeepsSizes w ss P ((if b then first else second) st)
sizes_either w ss P true first second st h k = h
sizes_either w ss P false first second st h k = k

sizes_branch : {A : Type 0} (w : World) (ss : List ℕ) (P : A → Type 0) (b : Bool) (first second : Outcome A) → KeepsSizes w ss P first → KeepsSizes w ss P second → KeepsSizes w ss P (if b then first else second)
sizes_branch w ss P true first second h k = h
sizes_branch w ss P false first second h k = k

any_cell : (w : World) (ss : List ℕ) (ty : Option VarTy) (o : Result Cell Trap) → ((v : Value) → ValueSized w ss ty v) → Gives (SizedAs w ss ty) o
any_cell w ss ty (Ok c) h = h (holds c)
any_cell w ss ty (Err trap) h = tt

-- ---- stores

pub sizes_store : (w : World) (ss : List ℕ) (at : Location) (v : Value) (ty : VarTy) (st : State) → LocationFits w (Some ty) at → ValueFits w (Some ty) v → ValueSized w ss (Some ty) v → Sized w ss st.memory → KeepsSizes w ss (ValueSized w ss (Some ty)) (store at v st)
sizes_store w ss at v ty st l fit size z = (size, stored_sized w ss st.memory at v ty l fit size z)

sizes_compounded : (w : World) (c : Context) (s : Span) (at : Location) (step : LinkStep) (v : Value) (ty : VarTy) (st : State) → LocationFits w (Some ty) at →
    Gives (Storable w ty) (stepped (sizes c) ty step (read st.memory at.block at.cell) (cell_of v)) → Gives (StorableSized w (sizes c) ty) (stepped (sizes c) ty step (read st.memory at.block at.cell) (cell_of v)) →
    Fits w st.memory → Sized w (sizes c) st.memory → KeepsSizes w (sizes c) (ValueSized w (sizes c) (Some ty)) (compounded c s at step v st)
sizes_compounded w c s at step v ty st l h p m z =
    sizes_bind w (sizes c) (Storable w at.ty) (StorableSized w (sizes c) at.ty) (ValueSized w (sizes c) (Some ty)) (or_trap s (stepped (sizes c) at.ty step (read st.memory at.block at.cell) (cell_of v)) st) (λ cell. store at (holds (converted_cell at.ty cell)))
    (keeps_or_trap w (Storable w at.ty) s (stepped (sizes c) at.ty step (read st.memory at.block at.cell) (cell_of v)) st (subst (λ y. Gives (Storable w y) (stepped (sizes c) y step (read st.memory at.block at.cell) (cell_of v))) (type_is ty at.ty l.has) h) m)
    (sizes_or_trap w (sizes c) (StorableSized w (sizes c) at.ty) s (stepped (sizes c) at.ty step (read st.memory at.block at.cell) (cell_of v)) st (subst (λ y. Gives (StorableSized w (sizes c) y) (stepped (sizes c) y step (read st.memory at.block at.cell) (cell_of v))) (type_is ty at.ty l.has) p) z)
    (λ cell st1 q p1 m1 z1. sizes_store w (sizes c) at (holds (converted_cell at.ty cell)) ty st1 l
    (subst (λ y. FitsAs w (Some y) (converted_cell at.ty cell)) (sym (type_is ty at.ty l.has)) q) (subst (λ y. SizedAs w (sizes c) (Some y) (converted_cell at.ty cell)) (sym (type_is ty at.ty l.has)) p1) z1)

-- `++` and `--`
sizes_counted : (w : World) (c : Context) (s : Span) (back postfix : Bool) (at : Location) (ty : VarTy) (st : State) → LocationFits w (Some ty) at → LiesWithin w (sizes c) at → IsTrue (is_scalar (Some ty)) → Fits w st.memory → Sized w (sizes c) st.memory →
    KeepsSizes w (sizes c) (ValueSized w (sizes c) (Some ty)) (counted c s back postfix at st)
sizes_counted w c s back postfix at ty st l lies h m z =
    sizes_then w (sizes c) (ValueSized w (sizes c) (Some ty)) (ValueSized w (sizes c) (Some ty)) (compounded c s at (unit_step at.ty back) (holds (number (pos 1))) st) (λ v. gives (step_gives postfix (loaded c at at.ty st) v))
    (sizes_compounded w c s at (unit_step at.ty back) (holds (number (pos 1))) ty st l
    (subst (λ y. Gives (Storable w ty) (stepped (sizes c) ty (unit_step y back) (read st.memory at.block at.cell) (number (pos 1)))) (type_is ty at.ty l.has) (unit_storable w (sizes c) ty back (read st.memory at.block at.cell) h (read_promoted w c at st ty l h m)))
    (subst (λ y. Gives (StorableSized w (sizes c) ty) (stepped (sizes c) ty (unit_step y back) (read st.memory at.block at.cell) (number (pos 1)))) (type_is ty at.ty l.has) (unit_sized w (sizes c) ty back (read st.memory at.block at.cell) h (read_sized w c at st ty l lies h z))) m z)
    (λ v st1 q z1. (either postfix (loaded c at at.ty st) v (loaded_sized w c at st ty l lies z) q, z1))
  where
    either : (b : Bool) (old new : Value) → ValueSized w (sizes c) (Some ty) old → ValueSized w (sizes c) (Some ty) new → ValueSized w (sizes c) (Some ty) (step_gives b old new)
    either true old new h k = h
    either false old new h k = k

-- ---- places

variable_within : (w : World) (n : Names) (c : Context) (v : ℕ) (ty : VarTy) → ContextFits w n c → option_map (λ (y : Var). y.ty) (slice_get n.vars v) ≡ Some ty →
    LiesWithin w (sizes c) (record { block = local c.frame.depth v; cell = 0; ty = type_at c.variables v })
variable_within w n c v ty k is = whole_within w (sizes c) (local c.frame.depth v) (type_at c.variables v) ty (get_or_from_slice_get c.variables v ty (Int i.Int) (entry_type w n c v ty k is)) (names_live w n c v ty k is)

global_within : (w : World) (n : Names) (c : Context) (g : ℕ) (ty : VarTy) → ContextFits w n c → option_map (λ (y : TypedGlobal). y.var.ty) (slice_get n.globals g) ≡ Some ty →
    LiesWithin w (sizes c) (record { block = global g; cell = 0; ty = type_at c.globals g })
global_within w n c g ty k is =
    let entry : slice_get c.globals g ≡ Some ty = ap (λ xs. slice_get xs g) k.globals ∙ get_map (λ (y : TypedGlobal). y.var.ty) n.globals g ∙ is in
    whole_within w (sizes c) (global g) (type_at c.globals g) ty (get_or_from_slice_get c.globals g ty (Int i.Int) entry) (ap (λ xs. slice_get xs g) k.known ∙ entry)

-- an element of an array
element_within : (w : World) (c : Context) (s : Span) (at : Location) (elem : Elem) (count : ℕ) (index : Value) (st : State) → LocationFits w (Some (Array elem count)) at → LiesWithin w (sizes c) at → Sized w (sizes c) st.memory → KeepsSizes w (sizes c) (LiesWithin w (sizes c)) (indexed c s at index st)
element_within w c s at elem count index st l lies z =
    subst (λ y. KeepsSizes w (sizes c) (LiesWithin w (sizes c)) (or_trap s (moved_cell (number_of index) (decayed at y)) st >>= λ cell. or_trap s (dereferenced c (x.element_of y) cell))) (type_is (Array elem count) at.ty l.has)
    (sizes_then w (sizes c) (PointsWithin w (sizes c) elem) (LiesWithin w (sizes c)) (or_trap s (moved_cell (number_of index) (decayed at (Array elem count))) st) (λ cell. or_trap s (dereferenced c (Pointer elem false) cell))
    (sizes_or_trap w (sizes c) (PointsWithin w (sizes c) elem) s (moved_cell (number_of index) (decayed at (Array elem count))) st
    (moves_within w (sizes c) elem (number_of index) (decayed at (Array elem count)) (subst (λ y. PointsWithin w (sizes c) elem (decayed at y)) (sym (type_is (Array elem count) at.ty l.has)) (array_within w (sizes c) at elem count l lies))) z)
    (λ cell st1 q z1. sizes_or_trap w (sizes c) (LiesWithin w (sizes c)) s (dereferenced c (Pointer elem false) cell) st1 (pointee_within w c elem false cell q) z1))

leads_within : (w : World) (n : Names) (c : Context) (root : RootTree) (steps : StepTrees) (st : State) (ty : VarTy) →
    ((a : VarTy) → root_type n root ≡ Some a → Keeps w (LocationFits w (Some a)) (root_location root c st)) →
    ((a : VarTy) → root_type n root ≡ Some a → KeepsSizes w (sizes c) (LiesWithin w (sizes c)) (root_location root c st)) →
    ((a : VarTy) (at : Location) (st1 : State) → steps_type n.structs (Some a) steps ≡ Some ty → LocationFits w (Some a) at → LiesWithin w (sizes c) at → Fits w st1.memory → Sized w (sizes c) st1.memory → KeepsSizes w (sizes c) (LiesWithin w (sizes c)) (steps_location steps at c st1)) →
    steps_type n.structs (root_type n root) steps ≡ Some ty → KeepsSizes w (sizes c) (LiesWithin w (sizes c)) (root_location root c st >>= λ at. steps_location steps at c)
leads_within w n c root steps st ty first first_lies then_on is = go (root_type n root) refl is
  where
    none_leads : None ≡ Some ty → KeepsSizes w (sizes c) (LiesWithin w (sizes c)) (root_location root c st >>= λ at. steps_location steps at c)
    none_leads h = cc

    go : (o : Option VarTy) → root_type n root ≡ o → steps_type n.structs o steps ≡ Some ty → KeepsSizes w (sizes c) (LiesWithin w (sizes c)) (root_location root c st >>= λ at. steps_location steps at c)
    go None e is = none_leads (sym (steps_none n.structs steps) ∙ is)
    go (Some a) e is = sizes_bind w (sizes c) (LocationFits w (Some a)) (LiesWithin w (sizes c)) (LiesWithin w (sizes c)) (root_location root c st) (λ at. steps_location steps at c) (first a e) (first_lies a e) (λ at st1 l lies m1 z1. then_on a at st1 is l lies m1 z1)

field_leads : (w : World) (n : Names) (c : Context) (rest : StepTrees) (at : Location) (j : ℕ) (a : VarTy) (st : State) (ty : VarTy) →
    ((b : VarTy) → steps_type n.structs (Some b) rest ≡ Some ty → f.field_type n.structs (Some a) j ≡ Some b → KeepsSizes w (sizes c) (LiesWithin w (sizes c)) (steps_location rest (field_at c j at) c st)) →
    steps_type n.structs (f.field_type n.structs (Some a) j) rest ≡ Some ty → KeepsSizes w (sizes c) (LiesWithin w (sizes c)) (steps_location rest (field_at c j at) c st)
field_leads w n c rest at j a st ty on is = go (f.field_type n.structs (Some a) j) refl is
  where
    none_leads : None ≡ Some ty → KeepsSizes w (sizes c) (LiesWithin w (sizes c)) (steps_location rest (field_at c j at) c st)
    none_leads h = cc

    go : (o : Option VarTy) → f.field_type n.structs (Some a) j ≡ o → steps_type n.structs o rest ≡ Some ty → KeepsSizes w (sizes c) (LiesWithin w (sizes c)) (steps_location rest (field_at c j at) c st)
    go None e is = none_leads (sym (steps_none n.structs rest) ∙ is)
    go (Some b) e is = on b is e

item_leads : (w : World) (n : Names) (c : Context) (rest : StepTrees) (at : Location) (b : ExprTree) (s : Span) (a : VarTy) (st : State) (ty : VarTy) → Keeps w (ValueFits w (ty_of b)) (value_of b c st) → KeepsSizes w (sizes c) (ValueSized w (sizes c) (ty_of b)) (value_of b c st) →
    LocationFits w (Some a) at → LiesWithin w (sizes c) at →
    ((d : VarTy) (next : Location) (st1 : State) → steps_type n.structs (Some d) rest ≡ Some ty → LocationFits w (Some d) next → LiesWithin w (sizes c) next → Fits w st1.memory → Sized w (sizes c) st1.memory → KeepsSizes w (sizes c) (LiesWithin w (sizes c)) (steps_location rest next c st1)) →
    steps_type n.structs (item_type (Some a) (integer_of (ty_of b))) rest ≡ Some ty → KeepsSizes w (sizes c) (LiesWithin w (sizes c)) (step_location (t.item b s) at c st >>= λ next. steps_location rest next c)
item_leads w n c rest at b s a st ty index index_size l lies on is = go (item_type (Some a) (integer_of (ty_of b))) refl is
  where
    none_leads : None ≡ Some ty → KeepsSizes w (sizes c) (LiesWithin w (sizes c)) (step_location (t.item b s) at c st >>= λ next. steps_location rest next c)
    none_leads h = cc

    go : (o : Option VarTy) → item_type (Some a) (integer_of (ty_of b)) ≡ o → steps_type n.structs o rest ≡ Some ty → KeepsSizes w (sizes c) (LiesWithin w (sizes c)) (step_location (t.item b s) at c st >>= λ next. steps_location rest next c)
    go None e is = none_leads (sym (steps_none n.structs rest) ∙ is)
    go (Some d) e is =
        let el = element_step (Some a) (integer_of (ty_of b)) d e in
        sizes_bind w (sizes c) (LocationFits w (Some d)) (LiesWithin w (sizes c)) (LiesWithin w (sizes c)) (step_location (t.item b s) at c st) (λ next. steps_location rest next c)
        (keeps_bind w (ValueFits w (ty_of b)) (LocationFits w (Some d)) (value_of b c st) (indexed c s at) index
        (λ v st1 q m1. subst (λ y. Keeps w (LocationFits w y) (indexed c s at v st1)) (sym el.to) (element_lies w c s at el.elem el.count v st1 (subst (λ y. LocationFits w y at) el.from l) m1)))
        (sizes_then w (sizes c) (ValueSized w (sizes c) (ty_of b)) (LiesWithin w (sizes c)) (value_of b c st) (indexed c s at) index_size
        (λ v st1 q z1. element_within w c s at el.elem el.count v st1 (subst (λ y. LocationFits w y at) el.from l) lies z1))
        (λ next st1 l1 lies1 m1 z1. on d next st1 is l1 lies1 m1 z1)

-- ---- forms with parts

no_conversion : (a : Option VarTy) → converts a None ≡ true → false ≡ true
no_conversion None h = h
no_conversion (Some (Int t)) h = h
no_conversion (Some (Struct j)) h = h
no_conversion (Some (Array elem count)) h = h
no_conversion (Some (Pointer elem fixed)) h = h

-- a compound assignment, by its place and its right side
compound_sized : (p : PlaceTree) (step : LinkStep) (a : ExprTree) (s : Span) (ty : Option VarTy) (w : World) (c : Context) (st : State) →
    ((z : VarTy) → ty ≡ Some z → Keeps w (LocationFits w (Some z)) (location_of p c st)) → ((z : VarTy) → ty ≡ Some z → KeepsSizes w (sizes c) (LiesWithin w (sizes c)) (location_of p c st)) →
    ((st1 : State) → Fits w st1.memory → Keeps w (ValueFits w (ty_of a)) (value_of a c st1)) → ((st1 : State) → Fits w st1.memory → Sized w (sizes c) st1.memory → KeepsSizes w (sizes c) (ValueSized w (sizes c) (ty_of a)) (value_of a c st1)) →
    IsTrue (converts (r.stepped (promoted_value ty) step (ty_of a)) ty) → KeepsSizes w (sizes c) (ValueSized w (sizes c) ty) (location_of p c st >>= λ at st1. value_of a c st1 >>= compounded c s at step)
compound_sized p step a s None w c st first lying second sized stores = false_not_true (no_conversion (r.stepped (promoted_value None) step (ty_of a)) stores)
compound_sized p step a s (Some ty) w c st first lying second sized stores =
    let scalar = converts_scalar (r.stepped (promoted_value (Some ty)) step (ty_of a)) ty stores in
    sizes_bind w (sizes c) (LocationFits w (Some ty)) (LiesWithin w (sizes c)) (ValueSized w (sizes c) (Some ty)) (location_of p c st) (λ at st1. value_of a c st1 >>= compounded c s at step) (first ty refl) (lying ty refl)
    (λ at st1 l lies m1 z1. sizes_bind w (sizes c) (ValueFits w (ty_of a)) (ValueSized w (sizes c) (ty_of a)) (ValueSized w (sizes c) (Some ty)) (value_of a c st1) (compounded c s at step) (second st1 m1) (sized st1 m1 z1)
    (λ v st2 q p2 m2 z2. sizes_compounded w c s at step v ty st2 l
    (stepped_storable w (sizes c) ty (ty_of a) step (read st2.memory at.block at.cell) v stores (read_promoted w c at st2 ty l scalar m2) q)
    (stepped_sized w (sizes c) ty (ty_of a) step (read st2.memory at.block at.cell) v stores (read_sized w c at st2 ty l lies scalar z2) p2) m2 z2))

-- a link of a chain, and then the rest
link_leads : (s : Span) (to : VarTy) (step : LinkStep) (b : ExprTree) (rest : LinkTrees) (so_far : VarTy) (a ty : Option VarTy) (v : Value) (w : World) (c : Context) (st : State) → r.stepped a step (ty_of b) ≡ Some to → ValueSized w (sizes c) a v →
    Keeps w (ValueFits w (ty_of b)) (value_of b c st) → KeepsSizes w (sizes c) (ValueSized w (sizes c) (ty_of b)) (value_of b c st) →
    ((y : Value) (st1 : State) → ValueSized w (sizes c) (Some to) y → Fits w st1.memory → Sized w (sizes c) st1.memory → KeepsSizes w (sizes c) (ValueSized w (sizes c) ty) (links_value rest to y c st1)) →
    KeepsSizes w (sizes c) (ValueSized w (sizes c) ty) (link_value (link s to step b) so_far v c st >>= λ y. links_value rest to y c)
link_leads s to step b rest so_far a ty v w c st is p fit size on = go (value_of b c st) fit size
  where
    of_cell : (o : Result Cell Trap) (st1 : State) → Gives (SizedAs w (sizes c) (Some to)) o → Fits w st1.memory → Sized w (sizes c) st1.memory → KeepsSizes w (sizes c) (ValueSized w (sizes c) ty) (cell_or_trap s o st1 >>= λ y. links_value rest to y c)
    of_cell (Ok d) st1 g m1 z1 = on (holds d) st1 g m1 z1
    of_cell (Err trap) st1 g m1 z1 = tt

    go : (o : Outcome Value) → Keeps w (ValueFits w (ty_of b)) o → KeepsSizes w (sizes c) (ValueSized w (sizes c) (ty_of b)) o →
        KeepsSizes w (sizes c) (ValueSized w (sizes c) ty) ((o >>= λ y. cell_or_trap s (stepped (sizes c) so_far step (cell_of v) (cell_of y))) >>= λ y. links_value rest to y c)
    go (gives y st1) fit size = of_cell (stepped (sizes c) so_far step (cell_of v) (cell_of y)) st1 (step_sized w (sizes c) so_far a (ty_of b) to step v y is p size.0) fit.1 size.1
    go (trapped trap s1 st1) fit size = tt
    go (spent st1) fit size = tt

-- a result is an integer, or there is none
result_sized : (w : World) (ss : List ℕ) (result : Option IntType) (v : Value) → ValueSized w ss (option_map Int result) v
result_sized w ss None v = tt
result_sized w ss (Some t) v = tt

-- a call, by its arguments
call_sized : (g : FnId) (arguments : ExprTrees) (s : Span) (ty : Option VarTy) (w : World) (n : Names) (c : Context) (st : State) → Setup w n c →
    ((ps : List Param) → IsTrue (arguments_fit ps arguments) → Keeps w (ArgumentsFit w ps) (values_of arguments c st)) → ((ps : List Param) → IsTrue (arguments_fit ps arguments) → KeepsSizes w (sizes c) (ArgumentsSized w (sizes c) ps) (values_of arguments c st)) →
    (o : Option Signature) → slice_get n.signatures g.0 ≡ o → IsTrue (call_fits o arguments ty) → KeepsSizes w (sizes c) (ValueSized w (sizes c) ty) (values_of arguments c st >>= c.calls c.frame s g.0)
call_sized g arguments s ty w n c st u first sized None is h = false_not_true h
call_sized g arguments s ty w n c st u first sized (Some signature) is h =
    let rest = both_hold_second (not (is_main signature)) (arguments_fit signature.params arguments && same_types ty (option_map Int signature.result)) h in
    let fit = both_hold_first (arguments_fit signature.params arguments) (same_types ty (option_map Int signature.result)) rest in
    let result_is = equal_options ty (option_map Int signature.result) (both_hold_second (arguments_fit signature.params arguments) (same_types ty (option_map Int signature.result)) rest) in
    sizes_bind w (sizes c) (ArgumentsFit w signature.params) (ArgumentsSized w (sizes c) signature.params) (ValueSized w (sizes c) ty) (values_of arguments c st) (c.calls c.frame s g.0) (first signature.params fit) (sized signature.params fit)
    (λ vs st1 q p m1 z1. sizes_weaker w (sizes c) (λ v. Unit {0}) (ValueSized w (sizes c) ty) (c.calls c.frame s g.0 vs st1) (u.calls s g.0 vs st1 signature is q p m1 z1)
    (λ v h. subst (λ y. ValueSized w (sizes c) y v) (sym result_is) (result_sized w (sizes c) signature.result v)))

-- ---- the induction

mutual
  pub value_sized : (a : ExprTree) (w : World) (n : Names) (c : Context) (st : State) → Setup w n c → IsTrue (is_typed n a) → Fits w st.memory → Sized w (sizes c) st.memory → KeepsSizes w (sizes c) (ValueSized w (sizes c) (ty_of a)) (value_of a c st)
  value_sized (typed s ty form) w n c st u h m z = form_sized form s ty w n c st u h m z

  form_sized : (form : FormTree) (s : Span) (ty : Option VarTy) (w : World) (n : Names) (c : Context) (st : State) → Setup w n c → IsTrue (form_fits n form ty) → Fits w st.memory → Sized w (sizes c) st.memory → KeepsSizes w (sizes c) (ValueSized w (sizes c) ty) (form_value form s ty c st)
  form_sized (t.constant v) s ty w n c st u h m z = (number_sized w (sizes c) ty v, z)
  form_sized t.null s ty w n c st u h m z = (null_sized w (sizes c) ty, z)
  form_sized (t.read p) s ty w n c st u h m z =
      let there = both_hold_first (place_fits n p) (same_types (place_type n p) ty && is_value ty) h in
      let is = both_hold_second (place_fits n p) (same_types (place_type n p) ty && is_value ty) h in
      let value = both_hold_second (same_types (place_type n p) ty) (is_value ty) is in
      let some = some_of ty value in
      let place_is = equal_options (place_type n p) ty (both_hold_first (same_types (place_type n p) ty) (is_value ty) is) ∙ some.1 in
      sizes_bind w (sizes c) (LocationFits w (Some some.0)) (LiesWithin w (sizes c)) (ValueSized w (sizes c) ty) (location_of p c st) (λ at st1. gives (loaded c at at.ty st1) st1) (place_keeps p w n c st some.0 u.fits there place_is m) (place_sized p w n c st some.0 u there place_is m z)
      (λ at st1 l lies m1 z1. (subst (λ y. ValueSized w (sizes c) y (loaded c at at.ty st1)) (sym some.1) (loaded_sized w c at st1 some.0 l lies z1), z1))
  form_sized (t.decay p) s ty w n c st u h m z =
      let there = both_hold_first (place_fits n p) (both_elem (item_of (place_type n p)) (pointee_of ty) && keeps_const (place_const n p) ty) h in
      let is = both_hold_first (both_elem (item_of (place_type n p)) (pointee_of ty)) (keeps_const (place_const n p) ty) (both_hold_second (place_fits n p) (both_elem (item_of (place_type n p)) (pointee_of ty) && keeps_const (place_const n p) ty) h) in
      let array = array_of (place_type n p) ty is in
      sizes_bind w (sizes c) (LocationFits w (Some (Array array.elem array.count))) (LiesWithin w (sizes c)) (ValueSized w (sizes c) ty) (location_of p c st) (λ at. gives (holds (decayed at at.ty))) (place_keeps p w n c st (Array array.elem array.count) u.fits there array.from m) (place_sized p w n c st (Array array.elem array.count) u there array.from m z)
      (λ at st1 l lies m1 z1. (subst (λ y. ValueSized w (sizes c) y (holds (decayed at at.ty))) (sym array.to) (array_within w (sizes c) at array.elem array.count l lies), z1))
  form_sized (t.address p) s ty w n c st u h m z =
      let rest = both_hold_second (place_fits n p) (is_addressed p && (both_elem (element_of (place_type n p)) (pointee_of ty) && keeps_const (place_const n p) ty)) h in
      let there = both_hold_first (place_fits n p) (is_addressed p && (both_elem (element_of (place_type n p)) (pointee_of ty) && keeps_const (place_const n p) ty)) h in
      let is = both_hold_first (both_elem (element_of (place_type n p)) (pointee_of ty)) (keeps_const (place_const n p) ty) (both_hold_second (is_addressed p) (both_elem (element_of (place_type n p)) (pointee_of ty) && keeps_const (place_const n p) ty) rest) in
      let object = object_of (place_type n p) ty is in
      sizes_bind w (sizes c) (LocationFits w (Some (type_of_elem object.elem))) (LiesWithin w (sizes c)) (ValueSized w (sizes c) ty) (location_of p c st) (λ at. gives (holds (address_of at))) (place_keeps p w n c st (type_of_elem object.elem) u.fits there object.from m) (place_sized p w n c st (type_of_elem object.elem) u there object.from m z)
      (λ at st1 l lies m1 z1. (subst (λ y. ValueSized w (sizes c) y (holds (address_of at))) (sym object.to) (object_within w (sizes c) at object.elem l lies), z1))
  form_sized (t.unary op a) s ty w n c st u h m z =
      sizes_then w (sizes c) (ValueSized w (sizes c) (ty_of a)) (ValueSized w (sizes c) ty) (value_of a c st) (λ v. cell_or_trap s (unary_cell op (type_of a) (cell_of v))) (value_sized a w n c st u (both_hold_first (is_typed n a) (unary_fits op (ty_of a) ty) h) m z)
      (λ v st1 q z1. sizes_cell w (sizes c) ty s (unary_cell op (type_of a) (cell_of v)) st1 (any_cell w (sizes c) ty (unary_cell op (type_of a) (cell_of v)) (λ y. unary_sized w (sizes c) op (ty_of a) ty y (both_hold_second (is_typed n a) (unary_fits op (ty_of a) ty) h))) z1)
  form_sized (t.convert a) s ty w n c st u h m z =
      sizes_then w (sizes c) (ValueSized w (sizes c) (ty_of a)) (ValueSized w (sizes c) ty) (value_of a c st) (λ v. gives (converted (type_or_int ty) v)) (value_sized a w n c st u (both_hold_first (is_typed n a) (converts (ty_of a) ty) h) m z)
      (λ v st1 q z1. (converted_sized w (sizes c) (ty_of a) ty v (both_hold_second (is_typed n a) (converts (ty_of a) ty) h) q, z1))
  form_sized (t.discard a) s ty w n c st u h m z =
      sizes_then w (sizes c) (ValueSized w (sizes c) (ty_of a)) (ValueSized w (sizes c) ty) (value_of a c st) (λ v. gives nothing) (value_sized a w n c st u (both_hold_first (is_typed n a) (is_none ty) h) m z)
      (λ v st1 q z1. (void_is ty (both_hold_second (is_typed n a) (is_none ty) h), z1))
    where
      void_is : (ty : Option VarTy) → IsTrue (is_none ty) → ValueSized w (sizes c) ty nothing
      void_is None h = tt
      void_is (Some y) h = false_not_true h
  form_sized (t.chain a links) s ty w n c st u h m z =
      let is = both_hold_second (is_typed n a) (has_links links && links_fit n (ty_of a) links ty) h in
      let first = both_hold_first (is_typed n a) (has_links links && links_fit n (ty_of a) links ty) h in
      sizes_bind w (sizes c) (ValueFits w (ty_of a)) (ValueSized w (sizes c) (ty_of a)) (ValueSized w (sizes c) ty) (value_of a c st) (λ v. links_value links (type_of a) v c) (value_fits a w n c st u.fits first m) (value_sized a w n c st u first m z)
      (λ v st1 q p m1 z1. links_sized links (type_of a) (ty_of a) v ty w n c st1 u (both_hold_second (has_links links) (links_fit n (ty_of a) links ty) is) p m1 z1)
  form_sized (t.logical op a others) s ty w n c st u h m z =
      let first = both_hold_first (is_typed n a) (is_scalar (ty_of a)) (both_hold_first (is_typed n a && is_scalar (ty_of a)) ((has_operands others && operands_fit n others) && same_types ty r.int) h) in
      let rest = both_hold_second (is_typed n a && is_scalar (ty_of a)) ((has_operands others && operands_fit n others) && same_types ty r.int) h in
      let all = both_hold_first (has_operands others && operands_fit n others) (same_types ty r.int) rest in
      let is = equal_options ty r.int (both_hold_second (has_operands others && operands_fit n others) (same_types ty r.int) rest) in
      sizes_bind w (sizes c) (ValueFits w (ty_of a)) (ValueSized w (sizes c) (ty_of a)) (ValueSized w (sizes c) ty) (value_of a c st) (λ v. operands_value others op (is_true v) c) (value_fits a w n c st u.fits first m) (value_sized a w n c st u first m z)
      (λ v st1 q p m1 z1. subst (λ y. KeepsSizes w (sizes c) (ValueSized w (sizes c) y) (operands_value others op (is_true v) c st1)) (sym is) (operands_sized others op (is_true v) w n c st1 u (both_hold_second (has_operands others) (operands_fit n others) all) m1 z1))
  form_sized (t.choice a b d) s ty w n c st u h m z =
      let test = both_hold_first (is_typed n a) (is_scalar (ty_of a)) (both_hold_first (is_typed n a && is_scalar (ty_of a)) ((is_typed n b && same_types (ty_of b) ty) && ((is_typed n d && same_types (ty_of d) ty) && is_arm ty)) h) in
      let arms = both_hold_second (is_typed n a && is_scalar (ty_of a)) ((is_typed n b && same_types (ty_of b) ty) && ((is_typed n d && same_types (ty_of d) ty) && is_arm ty)) h in
      let first = both_hold_first (is_typed n b && same_types (ty_of b) ty) ((is_typed n d && same_types (ty_of d) ty) && is_arm ty) arms in
      let second = both_hold_first (is_typed n d && same_types (ty_of d) ty) (is_arm ty) (both_hold_second (is_typed n b && same_types (ty_of b) ty) ((is_typed n d && same_types (ty_of d) ty) && is_arm ty) arms) in
      sizes_bind w (sizes c) (ValueFits w (ty_of a)) (ValueSized w (sizes c) (ty_of a)) (ValueSized w (sizes c) ty) (value_of a c st) (λ v. if is_true v then value_of b c else value_of d c) (value_fits a w n c st u.fits test m) (value_sized a w n c st u test m z)
      (λ v st1 q p m1 z1. sizes_either w (sizes c) (ValueSized w (sizes c) ty) (is_true v) (value_of b c) (value_of d c) st1
      (subst (λ y. KeepsSizes w (sizes c) (ValueSized w (sizes c) y) (value_of b c st1)) (equal_options (ty_of b) ty (both_hold_second (is_typed n b) (same_types (ty_of b) ty) first)) (value_sized b w n c st1 u (both_hold_first (is_typed n b) (same_types (ty_of b) ty) first) m1 z1))
      (subst (λ y. KeepsSizes w (sizes c) (ValueSized w (sizes c) y) (value_of d c st1)) (equal_options (ty_of d) ty (both_hold_second (is_typed n d) (same_types (ty_of d) ty) second)) (value_sized d w n c st1 u (both_hold_first (is_typed n d) (same_types (ty_of d) ty) second) m1 z1)))
  form_sized (t.assign p a) s ty w n c st u h m z =
      let there = both_hold_first (place_fits n p) (is_written n p) (both_hold_first (place_fits n p && is_written n p) ((same_types (place_type n p) ty && is_value ty) && (is_typed n a && same_types (ty_of a) ty)) h) in
      let rest = both_hold_second (place_fits n p && is_written n p) ((same_types (place_type n p) ty && is_value ty) && (is_typed n a && same_types (ty_of a) ty)) h in
      let own = both_hold_first (same_types (place_type n p) ty && is_value ty) (is_typed n a && same_types (ty_of a) ty) rest in
      let of = both_hold_second (same_types (place_type n p) ty && is_value ty) (is_typed n a && same_types (ty_of a) ty) rest in
      let some = some_of ty (both_hold_second (same_types (place_type n p) ty) (is_value ty) own) in
      let place_is = equal_options (place_type n p) ty (both_hold_first (same_types (place_type n p) ty) (is_value ty) own) ∙ some.1 in
      let of_is = equal_options (ty_of a) ty (both_hold_second (is_typed n a) (same_types (ty_of a) ty) of) ∙ some.1 in
      let from = both_hold_first (is_typed n a) (same_types (ty_of a) ty) of in
      sizes_bind w (sizes c) (LocationFits w (Some some.0)) (LiesWithin w (sizes c)) (ValueSized w (sizes c) ty) (location_of p c st) (λ at st1. value_of a c st1 >>= store at) (place_keeps p w n c st some.0 u.fits there place_is m) (place_sized p w n c st some.0 u there place_is m z)
      (λ at st1 l lies m1 z1. sizes_bind w (sizes c) (ValueFits w (ty_of a)) (ValueSized w (sizes c) (ty_of a)) (ValueSized w (sizes c) ty) (value_of a c st1) (store at) (value_fits a w n c st1 u.fits from m1) (value_sized a w n c st1 u from m1 z1)
      (λ v st2 q p2 m2 z2. subst (λ y. KeepsSizes w (sizes c) (ValueSized w (sizes c) y) (store at v st2)) (sym some.1) (sizes_store w (sizes c) at v some.0 st2 l (subst (λ y. ValueFits w y v) of_is q) (subst (λ y. ValueSized w (sizes c) y v) of_is p2) z2)))
  form_sized (t.compound p at step a) s ty w n c st u h m z =
      let there = both_hold_first (place_fits n p) (is_written n p) (both_hold_first (place_fits n p && is_written n p) (same_types (place_type n p) ty && (is_typed n a && (is_compound step && converts (r.stepped (promoted_value ty) step (ty_of a)) ty))) h) in
      let rest = both_hold_second (place_fits n p && is_written n p) (same_types (place_type n p) ty && (is_typed n a && (is_compound step && converts (r.stepped (promoted_value ty) step (ty_of a)) ty))) h in
      let of = both_hold_second (same_types (place_type n p) ty) (is_typed n a && (is_compound step && converts (r.stepped (promoted_value ty) step (ty_of a)) ty)) rest in
      let stores = both_hold_second (is_compound step) (converts (r.stepped (promoted_value ty) step (ty_of a)) ty) (both_hold_second (is_typed n a) (is_compound step && converts (r.stepped (promoted_value ty) step (ty_of a)) ty) of) in
      let place_is = equal_options (place_type n p) ty (both_hold_first (same_types (place_type n p) ty) (is_typed n a && (is_compound step && converts (r.stepped (promoted_value ty) step (ty_of a)) ty)) rest) in
      let from = both_hold_first (is_typed n a) (is_compound step && converts (r.stepped (promoted_value ty) step (ty_of a)) ty) of in
      compound_sized p step a s ty w c st (λ y is. place_keeps p w n c st y u.fits there (place_is ∙ is) m) (λ y is. place_sized p w n c st y u there (place_is ∙ is) m z)
      (λ st1 m1. value_fits a w n c st1 u.fits from m1) (λ st1 m1 z1. value_sized a w n c st1 u from m1 z1) stores
  form_sized (t.step p at back postfix) s ty w n c st u h m z =
      let there = both_hold_first (place_fits n p) (is_written n p) (both_hold_first (place_fits n p && is_written n p) (same_types (place_type n p) ty && is_scalar ty) h) in
      let rest = both_hold_second (place_fits n p && is_written n p) (same_types (place_type n p) ty && is_scalar ty) h in
      let scalar = both_hold_second (same_types (place_type n p) ty) (is_scalar ty) rest in
      let some = some_of ty (scalar_value ty scalar) in
      let place_is = equal_options (place_type n p) ty (both_hold_first (same_types (place_type n p) ty) (is_scalar ty) rest) ∙ some.1 in
      sizes_bind w (sizes c) (LocationFits w (Some some.0)) (LiesWithin w (sizes c)) (ValueSized w (sizes c) ty) (location_of p c st) (counted c s back postfix) (place_keeps p w n c st some.0 u.fits there place_is m) (place_sized p w n c st some.0 u there place_is m z)
      (λ at st1 l lies m1 z1. subst (λ y. KeepsSizes w (sizes c) (ValueSized w (sizes c) y) (counted c s back postfix at st1)) (sym some.1) (sizes_counted w c s back postfix at some.0 st1 l lies (subst (λ y. IsTrue (is_scalar y)) some.1 scalar) m1 z1))
  form_sized (t.call g arguments) s ty w n c st u h m z =
      let all = both_hold_first (all_typed n arguments) (call_fits (slice_get n.signatures g.0) arguments ty) h in
      call_sized g arguments s ty w n c st u (λ ps fit. arguments_keep arguments ps w n c st u.fits all fit m) (λ ps fit. arguments_sized arguments ps w n c st u all fit m z)
      (slice_get n.signatures g.0) refl (both_hold_second (all_typed n arguments) (call_fits (slice_get n.signatures g.0) arguments ty) h)

  arguments_sized : (arguments : ExprTrees) (ps : List Param) (w : World) (n : Names) (c : Context) (st : State) → Setup w n c → IsTrue (all_typed n arguments) → IsTrue (arguments_fit ps arguments) → Fits w st.memory → Sized w (sizes c) st.memory → KeepsSizes w (sizes c) (ArgumentsSized w (sizes c) ps) (values_of arguments c st)
  arguments_sized no_exprs [] w n c st u all h m z = (tt, z)
  arguments_sized no_exprs (p ∷ ps) w n c st u all h m z = false_not_true h
  arguments_sized (expr_and a rest) [] w n c st u all h m z = false_not_true h
  arguments_sized (expr_and a rest) (p ∷ ps) w n c st u all h m z =
      let is = equal_options (ty_of a) (Some (param_type p.kind)) (both_hold_first (same_types (ty_of a) (Some (param_type p.kind))) (arguments_fit ps rest) h) in
      let first = both_hold_first (is_typed n a) (all_typed n rest) all in
      sizes_bind w (sizes c) (ValueFits w (ty_of a)) (ValueSized w (sizes c) (ty_of a)) (ArgumentsSized w (sizes c) (p ∷ ps)) (value_of a c st) (λ v st1. values_of rest c st1 >>= λ vs. gives (v ∷ vs)) (value_fits a w n c st u.fits first m) (value_sized a w n c st u first m z)
      (λ v st1 q p1 m1 z1. sizes_then w (sizes c) (ArgumentsSized w (sizes c) ps) (ArgumentsSized w (sizes c) (p ∷ ps)) (values_of rest c st1) (λ vs. gives (v ∷ vs))
      (arguments_sized rest ps w n c st1 u (both_hold_second (is_typed n a) (all_typed n rest) all) (both_hold_second (same_types (ty_of a) (Some (param_type p.kind))) (arguments_fit ps rest) h) m1 z1)
      (λ vs st2 qs z2. ((subst (λ y. ValueSized w (sizes c) y v) is p1, qs), z2)))

  links_sized : (links : LinkTrees) (so_far : VarTy) (a : Option VarTy) (v : Value) (ty : Option VarTy) (w : World) (n : Names) (c : Context) (st : State) → Setup w n c → IsTrue (links_fit n a links ty) → ValueSized w (sizes c) a v → Fits w st.memory → Sized w (sizes c) st.memory → KeepsSizes w (sizes c) (ValueSized w (sizes c) ty) (links_value links so_far v c st)
  links_sized no_links so_far a v ty w n c st u h p m z = (subst (λ y. ValueSized w (sizes c) y v) (equal_options a ty h) p, z)
  links_sized (link_and (link s to step b) rest) so_far a v ty w n c st u h p m z =
      let first = both_hold_first (is_typed n b) (same_types (r.stepped a step (ty_of b)) (Some to) && links_fit n (Some to) rest ty) h in
      let more = both_hold_second (is_typed n b) (same_types (r.stepped a step (ty_of b)) (Some to) && links_fit n (Some to) rest ty) h in
      let is = equal_options (r.stepped a step (ty_of b)) (Some to) (both_hold_first (same_types (r.stepped a step (ty_of b)) (Some to)) (links_fit n (Some to) rest ty) more) in
      link_leads s to step b rest so_far a ty v w c st is p (value_fits b w n c st u.fits first m) (value_sized b w n c st u first m z)
      (λ y st1 p1 m1 z1. links_sized rest to (Some to) y ty w n c st1 u (both_hold_second (same_types (r.stepped a step (ty_of b)) (Some to)) (links_fit n (Some to) rest ty) more) p1 m1 z1)

  operands_sized : (others : OperandTrees) (op : LogicalOp) (b : Bool) (w : World) (n : Names) (c : Context) (st : State) → Setup w n c → IsTrue (operands_fit n others) → Fits w st.memory → Sized w (sizes c) st.memory → KeepsSizes w (sizes c) (ValueSized w (sizes c) r.int) (operands_value others op b c st)
  operands_sized no_operands op b w n c st u h m z = (tt, z)
  operands_sized (operand_and (operand s a) rest) op b w n c st u h m z =
      let first = both_hold_first (is_typed n a) (is_scalar (ty_of a)) (both_hold_first (is_typed n a && is_scalar (ty_of a)) (operands_fit n rest) h) in
      sizes_branch w (sizes c) (ValueSized w (sizes c) r.int) (is_decided op b) (gives (truth_value b) st) (value_of a c st >>= λ v. operands_value rest op (is_true v) c)
      (tt, z)
      (sizes_bind w (sizes c) (ValueFits w (ty_of a)) (ValueSized w (sizes c) (ty_of a)) (ValueSized w (sizes c) r.int) (value_of a c st) (λ v. operands_value rest op (is_true v) c) (value_fits a w n c st u.fits first m) (value_sized a w n c st u first m z)
      (λ v st1 q p m1 z1. operands_sized rest op (is_true v) w n c st1 u (both_hold_second (is_typed n a && is_scalar (ty_of a)) (operands_fit n rest) h) m1 z1))

  pub place_sized : (p : PlaceTree) (w : World) (n : Names) (c : Context) (st : State) (ty : VarTy) → Setup w n c → IsTrue (place_fits n p) → place_type n p ≡ Some ty → Fits w st.memory → Sized w (sizes c) st.memory → KeepsSizes w (sizes c) (LiesWithin w (sizes c)) (location_of p c st)
  place_sized (place root steps) w n c st ty u h is m z =
      let first = both_hold_first (root_fits n root) (steps_fit n steps) h in
      leads_within w n c root steps st ty (λ a e. root_keeps root w n c st a u.fits first e m) (λ a e. root_sized root w n c st a u first e m z)
      (λ a at st1 e l lies m1 z1. steps_sized steps a at w n c st1 ty u (both_hold_second (root_fits n root) (steps_fit n steps) h) e l lies m1 z1) is

  root_sized : (root : RootTree) (w : World) (n : Names) (c : Context) (st : State) (a : VarTy) → Setup w n c → IsTrue (root_fits n root) → root_type n root ≡ Some a → Fits w st.memory → Sized w (sizes c) st.memory → KeepsSizes w (sizes c) (LiesWithin w (sizes c)) (root_location root c st)
  root_sized (t.local v) w n c st a u h is m z = (variable_within w n c v.0 a u.fits is, z)
  root_sized (t.global g) w n c st a u h is m z = (global_within w n c g.0 a u.fits is, z)
  root_sized (t.deref b s) w n c st a u h is m z =
      sizes_then w (sizes c) (ValueSized w (sizes c) (ty_of b)) (LiesWithin w (sizes c)) (value_of b c st) (λ v. or_trap s (dereferenced c (type_of b) (cell_of v))) (value_sized b w n c st u h m z)
      (λ v st1 q z1. sizes_or_trap w (sizes c) (LiesWithin w (sizes c)) s (dereferenced c (type_of b) (cell_of v)) st1 (pointed b (pointer_to_type (ty_of b) a is) v q) z1)
    where
      pointed : (b : ExprTree) → PointerTo (ty_of b) a → (v : Value) → ValueSized w (sizes c) (ty_of b) v → Gives (LiesWithin w (sizes c)) (dereferenced c (type_of b) (cell_of v))
      pointed (typed s' ty' form) p v q =
          subst (λ y. Gives (LiesWithin w (sizes c)) (dereferenced c (type_or_int y) (cell_of v))) (sym p.from)
          (pointee_within w c p.elem p.fixed (cell_of v) (within_of_pointer w (sizes c) p.elem p.fixed v (subst (λ y. ValueSized w (sizes c) y v) p.from q)))
  root_sized (t.assigned b) w n c st a u h is m z = assigned_sized b w n c st a u h is m z

  -- the left object of an assignment of structs
  assigned_sized : (b : ExprTree) (w : World) (n : Names) (c : Context) (st : State) (a : VarTy) → Setup w n c → IsTrue (is_typed n b) → assigned_type b ≡ Some a → Fits w st.memory → Sized w (sizes c) st.memory → KeepsSizes w (sizes c) (LiesWithin w (sizes c)) (assigned_location b c st)
  assigned_sized (typed s ty (t.assign p d)) w n c st a u h is m z =
      let there = both_hold_first (place_fits n p) (is_written n p) (both_hold_first (place_fits n p && is_written n p) ((same_types (place_type n p) ty && is_value ty) && (is_typed n d && same_types (ty_of d) ty)) h) in
      let rest = both_hold_second (place_fits n p && is_written n p) ((same_types (place_type n p) ty && is_value ty) && (is_typed n d && same_types (ty_of d) ty)) h in
      let own = both_hold_first (same_types (place_type n p) ty && is_value ty) (is_typed n d && same_types (ty_of d) ty) rest in
      let of = both_hold_second (same_types (place_type n p) ty && is_value ty) (is_typed n d && same_types (ty_of d) ty) rest in
      let ty_is = given_struct ty a is in
      let place_is = equal_options (place_type n p) ty (both_hold_first (same_types (place_type n p) ty) (is_value ty) own) ∙ ty_is in
      let of_is = equal_options (ty_of d) ty (both_hold_second (is_typed n d) (same_types (ty_of d) ty) of) ∙ ty_is in
      let from = both_hold_first (is_typed n d) (same_types (ty_of d) ty) of in
      sizes_bind w (sizes c) (LocationFits w (Some a)) (LiesWithin w (sizes c)) (LiesWithin w (sizes c)) (location_of p c st) (λ at st1. value_of d c st1 >>= λ v st2. store at v st2 >>= λ y. gives at) (place_keeps p w n c st a u.fits there place_is m) (place_sized p w n c st a u there place_is m z)
      (λ at st1 l lies m1 z1. sizes_bind w (sizes c) (ValueFits w (ty_of d)) (ValueSized w (sizes c) (ty_of d)) (LiesWithin w (sizes c)) (value_of d c st1) (λ v st2. store at v st2 >>= λ y. gives at) (value_fits d w n c st1 u.fits from m1) (value_sized d w n c st1 u from m1 z1)
      (λ v st2 q p2 m2 z2. (lies, stored_sized w (sizes c) st2.memory at v a l (subst (λ y. ValueFits w y v) of_is q) (subst (λ y. ValueSized w (sizes c) y v) of_is p2) z2)))
  assigned_sized (typed s ty (t.constant v)) w n c st a u h is m z = cc
  assigned_sized (typed s ty t.null) w n c st a u h is m z = cc
  assigned_sized (typed s ty (t.read p)) w n c st a u h is m z = cc
  assigned_sized (typed s ty (t.decay p)) w n c st a u h is m z = cc
  assigned_sized (typed s ty (t.address p)) w n c st a u h is m z = cc
  assigned_sized (typed s ty (t.unary op b)) w n c st a u h is m z = cc
  assigned_sized (typed s ty (t.convert b)) w n c st a u h is m z = cc
  assigned_sized (typed s ty (t.discard b)) w n c st a u h is m z = cc
  assigned_sized (typed s ty (t.chain b links)) w n c st a u h is m z = cc
  assigned_sized (typed s ty (t.logical op b others)) w n c st a u h is m z = cc
  assigned_sized (typed s ty (t.choice b d e)) w n c st a u h is m z = cc
  assigned_sized (typed s ty (t.compound p at step b)) w n c st a u h is m z = cc
  assigned_sized (typed s ty (t.step p at back postfix)) w n c st a u h is m z = cc
  assigned_sized (typed s ty (t.call g arguments)) w n c st a u h is m z = cc

  steps_sized : (steps : StepTrees) (a : VarTy) (at : Location) (w : World) (n : Names) (c : Context) (st : State) (ty : VarTy) → Setup w n c → IsTrue (steps_fit n steps) → steps_type n.structs (Some a) steps ≡ Some ty → LocationFits w (Some a) at → LiesWithin w (sizes c) at → Fits w st.memory → Sized w (sizes c) st.memory → KeepsSizes w (sizes c) (LiesWithin w (sizes c)) (steps_location steps at c st)
  steps_sized no_steps a at w n c st ty u h is l lies m z = (lies, z)
  steps_sized (step_and (t.field j) rest) a at w n c st ty u h is l lies m z =
      field_leads w n c rest at j a st ty (λ b e' e. steps_sized rest b (field_at c j at) w n c st ty u h e' (field_lies w n c j a at b u.fits l e) (field_sized w n c j a at b u l lies e) m z) is
  steps_sized (step_and (t.item b s) rest) a at w n c st ty u h is l lies m z =
      let first = both_hold_first (is_typed n b) (steps_fit n rest) h in
      item_leads w n c rest at b s a st ty (value_fits b w n c st u.fits first m) (value_sized b w n c st u first m z) l lies
      (λ d next st1 e l1 lies1 m1 z1. steps_sized rest d next w n c st1 ty u (both_hold_second (is_typed n b) (steps_fit n rest) h) e l1 lies1 m1 z1) is
