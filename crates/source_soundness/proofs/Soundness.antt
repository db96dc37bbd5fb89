-- Expressions give values of their types, and places lie in live objects: by induction on the tree.
use Rattle.std.proofs.Common.{◌≡◌, ◌∙◌, ◌≤◌, ℕ, ◌+◌, pos, ℤ, refl, ap, sym, subst, arith, Bool, true, false, Option, Some, None, List, [], ◌∷◌, Result, Ok, Err, if◌then◌else◌, nat_le}
use Rattle.std.specs.Prelude.{IsTrue, ◌&&◌, not, is_none, slice_get, option_map}
use Rattle.std.proofs.lemmas.Bool.Decides.{nat_tests}
use Rattle.std.proofs.lemmas.Option.{get_or_from_slice_get}
use Rattle.pt_base.specs.declared.int_type.IntType.{IntType}
use Rattle.pt_base.specs.declared.int_type.IntType.TheVariants as i
use Rattle.pt_base.specs.declared.ids.FnId.{FnId}
use Rattle.pt_base.specs.declared.span.Span.{Span}
use Rattle.pt_int.specs.declared.operator.UnOp.{UnOp}
use Rattle.pt_base.specs.declared.trap.Trap.{Trap}
use Rattle.pt_base.specs.IntTypes.{usual}
use Rattle.pt_base.proofs.Booleans.{both_hold_first, both_hold_second, false_not_true}
use Rattle.pt_base.proofs.Places.{get_map}
use Rattle.pt_int.specs.declared.operator.BinOp.TheVariants.{Add, Sub}
use Rattle.pt_int.specs.Conversion.{conv}
use Rattle.pt_int.specs.Operator.{binary_of}
use Rattle.runs.specs.Pointers.{directed}
use Rattle.pt_tree.specs.declared.signature.Elem.{Elem}
use Rattle.pt_tree.specs.declared.signature.Elem.TheVariants as e
use Rattle.pt_tree.specs.declared.signature.Param.{Param}
use Rattle.pt_tree.specs.declared.signature.Signature.{Signature}
use Rattle.runs.specs.State.{gives, trapped, spent, ◌>>=◌}
use Rattle.typed_tree.specs.declared.types.VarTy.{VarTy}
use Rattle.typed_tree.specs.declared.types.VarTy.TheVariants.{Int, Struct, Array, Pointer}
use Rattle.typed_tree.specs.declared.variable.Var.{Var}
use Rattle.typed_tree.specs.declared.variable.TypedGlobal.{TypedGlobal}
use Rattle.typed_tree.specs.declared.link.LinkStep.{LinkStep}
use Rattle.typed_tree.specs.declared.link.LogicalOp.{LogicalOp}
use Rattle.typed_tree.specs.Sizes.{offset_of}
use Rattle.typed_tree.specs.ExpressionTree as t
use Rattle.typed_tree.specs.ExpressionTree.{ExprTree, typed, FormTree, ExprTrees, no_exprs, expr_and, LinkTrees, no_links, link_and, link, OperandTrees, no_operands, operand_and, operand, PlaceTree, place, RootTree, StepTree, StepTrees, no_steps, step_and}
use Rattle.typed_tree.specs.TypeTests.{same_types, both_elem, integer_of, pointee_of, element_of, item_of, is_scalar, is_value, type_of_elem}
use Rattle.typed_tree.specs.TypeRules as r
use Rattle.typed_tree.specs.TypeRules.{unary_fits, converts, promoted_value, is_compound, is_arm}
use Rattle.typed_tree.specs.WellFormedExpression as f
use Rattle.typed_tree.specs.WellFormedExpression.{Names, is_typed, form_fits, all_typed, links_fit, operands_fit, place_fits, root_fits, steps_fit, ty_of, constant_fits, is_elem, is_assign, is_struct, assigned_type, root_type, step_type, steps_type, place_type, item_type, has_links, has_operands, is_addressed, is_written, keeps_const, place_const, param_type, arguments_fit, call_fits, is_main}
use Rattle.source_meaning.specs.Memory.{local, global, Cell, number, null, pointer, read}
use Rattle.source_meaning.specs.State.{State, Outcome}
use Rattle.source_meaning.specs.Values.{Value, holds, nothing, cell_of, number_of, number_in, is_true, truth_value, converted_cell, converted, moved_cell, Location, unary_cell, stepped, unit_step}
use Rattle.source_meaning.specs.Expressions as x
use Rattle.source_meaning.specs.Expressions.{Frame, Calls, Context, sizes, or_trap, type_at, field_at, decayed, address_of, dereferenced, indexed, loaded, stored_in, store, compounded, cell_or_trap, step_gives, counted, is_decided, type_or_int, type_of, value_of, form_value, values_of, links_value, link_value, operands_value, operand_value, location_of, root_location, assigned_location, form_location, steps_location, step_location}
use Rattle.source_soundness.specs.Worlds.{World, type_in, is_pointer, IsNumber, IsScoped, Fits, ValueFits, PartFits, LocationFits}
use Rattle.source_soundness.specs.Laws.{Keeps, ArgumentsFit, ContextFits}
use Rattle.typed_tree.proofs.SameTypes.{equal_options, equal_elems}
use Rattle.source_soundness.proofs.Memories.{type_is}
use Rattle.source_soundness.proofs.Objects.{plain_part, loaded_fits, stored_fits}
use Rattle.source_soundness.proofs.Operators.{Gives, FitsAs, gives_number, moves, scoped_of_pointer, unary_gives, converted_fits}
use Rattle.source_soundness.proofs.Steps.{step_fits, plain_elem, plain_in, whole_part, pointee_fits, field_is}

-- ---- parts of a run

pub keeps_bind : {A B : Type 0} (w : World) (Q : A → Type 0) (R : B → Type 0) (o : Outcome A) (next : A → State → Outcome B) → Keeps w Q o → ((a : A) (st : State) → Q a → Fits w st.memory → Keeps w R (next a st)) → Keeps w R (o >>= next)
keeps_bind w Q R (gives a st) next h k = k a st h.0 h.1
keeps_bind w Q R (trapped trap s st) next h k = tt
keeps_bind w Q R (spent st) next h k = tt

pub keeps_or_trap : {A : Type 0} (w : World) (Q : A → Type 0) (s : Span) (o : Result A Trap) (st : State) → Gives Q o → Fits w st.memory → Keeps w Q (or_trap s o st)
keeps_or_trap w Q s (Ok a) st h m = (h, m)
keeps_or_trap w Q s (Err trap) st h m = tt

keeps_cell : (w : World) (ty : Option VarTy) (s : Span) (o : Result Cell Trap) (st : State) → Gives (FitsAs w ty) o → Fits w st.memory → Keeps w (ValueFits w ty) (cell_or_trap s o st)
keeps_cell w ty s (Ok c) st h m = (h, m)
keeps_cell w ty s (Err trap) st h m = tt

pub keeps_either : {A : Type 0} (w : World) (Q : A → Type 0) (b : Bool) (first second : State → Outcome A) (st : State) → Keeps w Q (first st) → Keeps w Q (second st) → Keeps w Q ((if b then first else second) st)
keeps_either w Q true first second st h k = h
keeps_either w Q false first second st h k = k

pub keeps_branch : {A : Type 0} (w : World) (Q : A → Type 0) (b : Bool) (first second : Outcome A) → Keeps w Q first → Keeps w Q second → Keeps w Q (if b then first else second)
keeps_branch w Q true first second h k = h
keeps_branch w Q false first second h k = k

-- ---- types

-- a type that is there
pub some_of : (t : Option VarTy) → IsTrue (is_value t) → (ty : VarTy) × (t ≡ Some ty)
some_of None h = false_not_true h
some_of (Some ty) h = (ty, refl)

pub scalar_value : (t : Option VarTy) → IsTrue (is_scalar t) → IsTrue (is_value t)
scalar_value (Some (Int t)) h = refl
scalar_value (Some (Pointer elem fixed)) h = refl
scalar_value None h = cc
scalar_value (Some (Struct n)) h = cc
scalar_value (Some (Array elem count)) h = cc

pub record ArrayOf (p t : Option VarTy) : Type 0 where
  pub elem : Elem
  pub count : ℕ
  pub fixed : Bool
  pub from : p ≡ Some (Array elem count)
  pub to : t ≡ Some (Pointer elem fixed)

pub array_of : (p t : Option VarTy) → IsTrue (both_elem (item_of p) (pointee_of t)) → ArrayOf p t
array_of (Some (Array a count)) (Some (Pointer b fixed)) h =
    record { elem = a; count = count; fixed = fixed; from = refl; to = ap (λ z. Some (Pointer z fixed)) (sym (equal_elems a b h)) }
array_of None t h = false_not_true h
array_of (Some (Int a)) t h = false_not_true h
array_of (Some (Struct n)) t h = false_not_true h
array_of (Some (Pointer a g)) t h = false_not_true h
array_of (Some (Array a count)) None h = false_not_true h
array_of (Some (Array a count)) (Some (Int b)) h = false_not_true h
array_of (Some (Array a count)) (Some (Struct n)) h = false_not_true h
array_of (Some (Array a count)) (Some (Array b n)) h = false_not_true h

pub record ObjectOf (p t : Option VarTy) : Type 0 where
  pub elem : Elem
  pub fixed : Bool
  pub from : p ≡ Some (type_of_elem elem)
  pub to : t ≡ Some (Pointer elem fixed)

pub object_of : (p t : Option VarTy) → IsTrue (both_elem (element_of p) (pointee_of t)) → ObjectOf p t
object_of (Some (Int a)) (Some (Pointer b fixed)) h = record { elem = e.Int a; fixed = fixed; from = refl; to = ap (λ z. Some (Pointer z fixed)) (sym (equal_elems (e.Int a) b h)) }
object_of (Some (Struct a)) (Some (Pointer b fixed)) h = record { elem = e.Struct a; fixed = fixed; from = refl; to = ap (λ z. Some (Pointer z fixed)) (sym (equal_elems (e.Struct a) b h)) }
object_of None t h = false_not_true h
object_of (Some (Array a n)) t h = false_not_true h
object_of (Some (Pointer a g)) t h = false_not_true h
object_of (Some (Int a)) None h = false_not_true h
object_of (Some (Int a)) (Some (Int b)) h = false_not_true h
object_of (Some (Int a)) (Some (Struct n)) h = false_not_true h
object_of (Some (Int a)) (Some (Array b n)) h = false_not_true h
object_of (Some (Struct a)) None h = false_not_true h
object_of (Some (Struct a)) (Some (Int b)) h = false_not_true h
object_of (Some (Struct a)) (Some (Struct n)) h = false_not_true h
object_of (Some (Struct a)) (Some (Array b n)) h = false_not_true h

-- ---- values

truth_fits : (w : World) (b : Bool) → ValueFits w r.int (truth_value b)
truth_fits w b = tt

constant_is : (w : World) (v : ℤ) (t : Option VarTy) → IsTrue (constant_fits v (integer_of t)) → ValueFits w t (holds (number v))
constant_is w v (Some (Int t)) h = tt
constant_is w v None h = false_not_true h
constant_is w v (Some (Struct n)) h = false_not_true h
constant_is w v (Some (Array a n)) h = false_not_true h
constant_is w v (Some (Pointer a g)) h = false_not_true h

null_is : (w : World) (n : ℕ) (t : Option VarTy) → IsTrue (is_elem n (pointee_of t)) → ValueFits w t (holds null)
null_is w n (Some (Pointer a g)) h = (null, refl, tt)
null_is w n None h = false_not_true h
null_is w n (Some (Int t)) h = false_not_true h
null_is w n (Some (Struct k)) h = false_not_true h
null_is w n (Some (Array a k)) h = false_not_true h

-- a pointer to the first element of an array, or to an object
array_decays : (w : World) (at : Location) (elem : Elem) (count : ℕ) → LocationFits w (Some (Array elem count)) at → IsScoped w w.depth (decayed at at.ty)
array_decays w at elem count l = subst (λ ty. IsScoped w w.depth (decayed at ty)) (type_is (Array elem count) at.ty l.has) (l.in_, l.live, plain_part at.cell l.in_ at.ty l.part (ap is_pointer (sym (type_is (Array elem count) at.ty l.has))), l.shallow)

object_addressed : (w : World) (at : Location) (elem : Elem) → LocationFits w (Some (type_of_elem elem)) at → IsScoped w w.depth (address_of at)
object_addressed w at elem l = (l.in_, l.live, plain_part at.cell l.in_ at.ty l.part (ap is_pointer (sym (type_is (type_of_elem elem) at.ty l.has)) ∙ plain_elem elem), l.shallow)

-- ---- stores

pub keeps_store : (w : World) (at : Location) (v : Value) (ty : VarTy) (st : State) → LocationFits w (Some ty) at → ValueFits w (Some ty) v → Fits w st.memory → Keeps w (ValueFits w (Some ty)) (store at v st)
keeps_store w at v ty st l fit m = (fit, stored_fits w st.memory at v ty l fit m)

-- what is read of an integer or a pointer, as its promoted type
pub read_promoted : (w : World) (c : Context) (at : Location) (st : State) (ty : VarTy) → LocationFits w (Some ty) at → IsTrue (is_scalar (Some ty)) → Fits w st.memory → FitsAs w (promoted_value (Some ty)) (read st.memory at.block at.cell)
read_promoted w c at st (Int t) l h m = let fit = loaded_fits w c at st (Int t) l refl m in number_is (at.ty) (type_is (Int t) at.ty l.has) fit
  where
    number_is : (ty : VarTy) → Int t ≡ ty → ValueFits w (Some (Int t)) (loaded c at ty st) → FitsAs w (promoted_value (Some (Int t))) (read st.memory at.block at.cell)
    number_is ty is fit = subst (λ z. ValueFits w (Some (Int t)) (loaded c at z st)) (sym is) fit
read_promoted w c at st (Pointer elem fixed) l h m = let fit = loaded_fits w c at st (Pointer elem fixed) l refl m in pointer_is (at.ty) (type_is (Pointer elem fixed) at.ty l.has) fit
  where
    pointer_is : (ty : VarTy) → Pointer elem fixed ≡ ty → ValueFits w (Some (Pointer elem fixed)) (loaded c at ty st) → FitsAs w (Some (Pointer elem fixed)) (read st.memory at.block at.cell)
    pointer_is ty is fit = subst (λ z. ValueFits w (Some (Pointer elem fixed)) (loaded c at z st)) (sym is) fit
read_promoted w c at st (Struct n) l h m = false_not_true h
read_promoted w c at st (Array elem n) l h m = false_not_true h

-- what a compound assignment stores
abbrev pub Storable : World → VarTy → Cell → Type 0
Storable w ty cell = FitsAs w (Some ty) (converted_cell ty cell)

keeps_compounded : (w : World) (c : Context) (s : Span) (at : Location) (step : LinkStep) (v : Value) (ty : VarTy) (st : State) → LocationFits w (Some ty) at → Gives (Storable w ty) (stepped (sizes c) ty step (read st.memory at.block at.cell) (cell_of v)) → Fits w st.memory → Keeps w (ValueFits w (Some ty)) (compounded c s at step v st)
keeps_compounded w c s at step v ty st l h m =
    keeps_bind w (Storable w at.ty) (ValueFits w (Some ty)) (or_trap s (stepped (sizes c) at.ty step (read st.memory at.block at.cell) (cell_of v)) st) (λ cell. store at (holds (converted_cell at.ty cell)))
    (keeps_or_trap w (Storable w at.ty) s (stepped (sizes c) at.ty step (read st.memory at.block at.cell) (cell_of v)) st (subst (λ z. Gives (Storable w z) (stepped (sizes c) z step (read st.memory at.block at.cell) (cell_of v))) (type_is ty at.ty l.has) h) m)
    (λ cell st1 q m1. keeps_store w at (holds (converted_cell at.ty cell)) ty st1 l (subst (λ z. FitsAs w (Some z) (converted_cell at.ty cell)) (sym (type_is ty at.ty l.has)) q) m1)

-- a step whose result is converted to the type of the place
pub stepped_storable : (w : World) (ss : List ℕ) (ty : VarTy) (b : Option VarTy) (step : LinkStep) (old : Cell) (v : Value) → IsTrue (converts (r.stepped (promoted_value (Some ty)) step b) (Some ty)) → FitsAs w (promoted_value (Some ty)) old → ValueFits w b v → Gives (Storable w ty) (stepped ss ty step old (cell_of v))
stepped_storable w ss ty b step old v h fit fit' = go (r.stepped (promoted_value (Some ty)) step b) refl h
  where
    each : (u : VarTy) (o : Result Cell Trap) → IsTrue (converts (Some u) (Some ty)) → Gives (FitsAs w (Some u)) o → Gives (Storable w ty) o
    each u (Ok cell) h k = converted_fits w (Some u) (Some ty) (holds cell) h k
    each u (Err trap) h k = tt

    go : (u : Option VarTy) → r.stepped (promoted_value (Some ty)) step b ≡ u → IsTrue (converts u (Some ty)) → Gives (Storable w ty) (stepped ss ty step old (cell_of v))
    go None is h = false_not_true h
    go (Some u) is h = each u (stepped ss ty step old (cell_of v)) h (step_fits w ss ty (promoted_value (Some ty)) b u step (holds old) v is fit fit')

pub converts_scalar : (u : Option VarTy) (ty : VarTy) → IsTrue (converts u (Some ty)) → IsTrue (is_scalar (Some ty))
converts_scalar (Some (Int a)) (Int b) h = refl
converts_scalar (Some (Pointer a g)) (Pointer b k) h = refl
converts_scalar None ty h = false_not_true h
converts_scalar (Some (Struct n)) ty h = false_not_true h
converts_scalar (Some (Array a n)) ty h = false_not_true h
converts_scalar (Some (Int a)) (Struct n) h = false_not_true h
converts_scalar (Some (Int a)) (Array b n) h = false_not_true h
converts_scalar (Some (Int a)) (Pointer b g) h = false_not_true h
converts_scalar (Some (Pointer a g)) (Int b) h = false_not_true h
converts_scalar (Some (Pointer a g)) (Struct n) h = false_not_true h
converts_scalar (Some (Pointer a g)) (Array b n) h = false_not_true h

number_of_step : (w : World) (ss : List ℕ) (t : IntType) (back : Bool) (old : Cell) → Gives IsNumber (stepped ss (Int t) (unit_step (Int t) back) old (number (pos 1)))
number_of_step w ss t back old = gives_number (binary_of (if back then Sub else Add) (usual t i.Int) (conv (usual t i.Int) (number_in old)) (conv (usual t i.Int) (pos 1))) number (λ v. tt)

pointer_of_step : (w : World) (ss : List ℕ) (elem : Elem) (fixed back : Bool) (old : Cell) → FitsAs w (Some (Pointer elem fixed)) old → Gives (IsScoped w w.depth) (stepped ss (Pointer elem fixed) (unit_step (Pointer elem fixed) back) old (number (pos 1)))
pointer_of_step w ss elem fixed back old fit = moves w w.depth (directed back (pos 1)) old (scoped_of_pointer w elem fixed (holds old) fit)

-- 1 is added or subtracted
pub unit_storable : (w : World) (ss : List ℕ) (ty : VarTy) (back : Bool) (old : Cell) → IsTrue (is_scalar (Some ty)) → FitsAs w (promoted_value (Some ty)) old → Gives (Storable w ty) (stepped ss ty (unit_step ty back) old (number (pos 1)))
unit_storable w ss (Int t) back old h fit = each (stepped ss (Int t) (unit_step (Int t) back) old (number (pos 1))) (number_of_step w ss t back old)
  where
    each : (o : Result Cell Trap) → Gives IsNumber o → Gives (Storable w (Int t)) o
    each (Ok (number v)) k = tt
    each (Ok null) k = absurd k
    each (Ok (pointer block base count index)) k = absurd k
    each (Err trap) k = tt
unit_storable w ss (Pointer elem fixed) back old h fit = each (stepped ss (Pointer elem fixed) (unit_step (Pointer elem fixed) back) old (number (pos 1))) (pointer_of_step w ss elem fixed back old fit)
  where
    each : (o : Result Cell Trap) → Gives (IsScoped w w.depth) o → Gives (Storable w (Pointer elem fixed)) o
    each (Ok cell) k = (cell, refl, k)
    each (Err trap) k = tt
unit_storable w ss (Struct n) back old h fit = false_not_true h
unit_storable w ss (Array elem n) back old h fit = false_not_true h

-- ---- where names lie

own_live : (w : World) (x : ℕ) (ty : VarTy) → 1 ≤ w.depth → slice_get (w.frames w.depth) x ≡ Some ty → type_in w (local w.depth x) ≡ Some ty
own_live w x ty active h = go (nat_le 1 w.depth) (nat_le w.depth w.depth) (grind (arith, nat_tests)) (grind (arith, nat_tests)) h
  where
    go : (a b : Bool) → a ≡ true → b ≡ true → slice_get (w.frames w.depth) x ≡ Some ty → (if a && b then slice_get (w.frames w.depth) x else None) ≡ Some ty
    go true true p q h = h
    go false b p q h = cc
    go true false p q h = cc

-- the type of a variable among those of its function
pub entry_type : (w : World) (n : Names) (c : Context) (x : ℕ) (ty : VarTy) → ContextFits w n c → option_map (λ (y : Var). y.ty) (slice_get n.vars x) ≡ Some ty → slice_get c.variables x ≡ Some ty
entry_type w n c x ty k is = ap (λ xs. slice_get xs x) k.variables ∙ get_map (λ (y : Var). y.ty) n.vars x ∙ is

-- a variable of the function that runs is live
pub names_live : (w : World) (n : Names) (c : Context) (x : ℕ) (ty : VarTy) → ContextFits w n c → option_map (λ (y : Var). y.ty) (slice_get n.vars x) ≡ Some ty → type_in w (local c.frame.depth x) ≡ Some ty
names_live w n c x ty k is = subst (λ d. type_in w (local d x) ≡ Some ty) (sym k.at_depth) (own_live w x ty k.active (ap (λ xs. slice_get xs x) k.own ∙ entry_type w n c x ty k is))

pub names_variable : (w : World) (n : Names) (c : Context) (x : ℕ) (ty : VarTy) → ContextFits w n c → option_map (λ (y : Var). y.ty) (slice_get n.vars x) ≡ Some ty →
    LocationFits w (Some ty) (record { block = local c.frame.depth x; cell = 0; ty = type_at c.variables x })
names_variable w n c x ty k is =
    let ty_is : type_at c.variables x ≡ ty = get_or_from_slice_get c.variables x ty (Int i.Int) (entry_type w n c x ty k is) in
    record {
      has = ap Some (sym ty_is);
      in_ = ty;
      live = names_live w n c x ty k is;
      shallow = subst (λ d. d ≤ w.depth) (sym k.at_depth) (omega arith);
      part = subst (λ z. PartFits 0 ty z) (sym ty_is) (whole_part ty);
      own = λ p. k.at_depth;
    }

names_global : (w : World) (n : Names) (c : Context) (g : ℕ) (ty : VarTy) → ContextFits w n c → option_map (λ (y : TypedGlobal). y.var.ty) (slice_get n.globals g) ≡ Some ty →
    LocationFits w (Some ty) (record { block = global g; cell = 0; ty = type_at c.globals g })
names_global w n c g ty k is =
    let entry : slice_get c.globals g ≡ Some ty = ap (λ xs. slice_get xs g) k.globals ∙ get_map (λ (y : TypedGlobal). y.var.ty) n.globals g ∙ is in
    let ty_is : type_at c.globals g ≡ ty = get_or_from_slice_get c.globals g ty (Int i.Int) entry in
    record {
      has = ap Some (sym ty_is);
      in_ = ty;
      live = ap (λ xs. slice_get xs g) k.known ∙ entry;
      shallow = omega arith;
      part = subst (λ z. PartFits 0 ty z) (sym ty_is) (whole_part ty);
      own = λ p. false_not_true (sym (k.plain_globals g ty entry) ∙ ap is_pointer (sym ty_is) ∙ p);
    }

-- a field of a struct that is live
pub field_lies : (w : World) (n : Names) (c : Context) (k : ℕ) (a : VarTy) (at : Location) (ty : VarTy) → ContextFits w n c → LocationFits w (Some a) at → f.field_type n.structs (Some a) k ≡ Some ty → LocationFits w (Some ty) (field_at c k at)
field_lies w n c k (Struct m) at ty fit l h = go at.ty (type_is (Struct m) at.ty l.has) l.part
  where
    new_is : x.field_type c.structs m k ≡ ty
    new_is = ap (λ ss. x.field_type ss m k) fit.structs ∙ field_is n.structs m k ty h

    plain : is_pointer ty ≡ false
    plain = fit.plain m k ty h

    go : (b : VarTy) → Struct m ≡ b → PartFits at.cell l.in_ b → LocationFits w (Some ty) (x.field_of c k at b)
    go (Struct j) is part = struct_field j (number_is is)
      where
        number_is : Struct m ≡ Struct j → m ≡ j
        number_is e = cc

        struct_field : (j : ℕ) → m ≡ j → LocationFits w (Some ty) (x.field_of c k at (Struct j))
        struct_field j e = subst (λ z. LocationFits w (Some ty) (x.field_of c k at (Struct z))) e
            (record {
              has = ap Some (sym new_is);
              in_ = l.in_;
              live = l.live;
              shallow = l.shallow;
              part = subst (λ z. PartFits (at.cell + offset_of c.structs m k) l.in_ z) (sym new_is) (plain_in (at.cell + offset_of c.structs m k) l.in_ ty (plain_part at.cell l.in_ (Struct m) (subst (λ z. PartFits at.cell l.in_ z) (sym is) part) refl) plain);
              own = λ p. false_not_true (sym plain ∙ ap is_pointer (sym new_is) ∙ p);
            })
    go (Int t) is part = cc
    go (Array elem count) is part = cc
    go (Pointer elem fixed) is part = cc
field_lies w n c k (Int t) at ty fit l h = cc
field_lies w n c k (Array elem count) at ty fit l h = cc
field_lies w n c k (Pointer elem fixed) at ty fit l h = cc

-- an element of an array that is live
pub element_lies : (w : World) (c : Context) (s : Span) (at : Location) (elem : Elem) (count : ℕ) (index : Value) (st : State) → LocationFits w (Some (Array elem count)) at → Fits w st.memory → Keeps w (LocationFits w (Some (type_of_elem elem))) (indexed c s at index st)
element_lies w c s at elem count index st l m = subst (λ z. Keeps w (LocationFits w (Some (type_of_elem elem))) (or_trap s (moved_cell (number_of index) (decayed at z)) st >>= λ cell. or_trap s (dereferenced c (x.element_of z) cell))) (type_is (Array elem count) at.ty l.has)
    (keeps_bind w (IsScoped w w.depth) (LocationFits w (Some (type_of_elem elem))) (or_trap s (moved_cell (number_of index) (decayed at (Array elem count))) st) (λ cell. or_trap s (dereferenced c (Pointer elem false) cell))
    (keeps_or_trap w (IsScoped w w.depth) s (moved_cell (number_of index) (decayed at (Array elem count))) st (moves w w.depth (number_of index) (decayed at (Array elem count)) (subst (λ z. IsScoped w w.depth (decayed at z)) (sym (type_is (Array elem count) at.ty l.has)) (array_decays w at elem count l))) m)
    (λ cell st1 q m1. keeps_or_trap w (LocationFits w (Some (type_of_elem elem))) s (dereferenced c (Pointer elem false) cell) st1 (pointee_fits w c elem false cell q) m1))

-- `++` and `--`
counted_keeps : (w : World) (c : Context) (s : Span) (back postfix : Bool) (at : Location) (ty : VarTy) (st : State) → LocationFits w (Some ty) at → IsTrue (is_scalar (Some ty)) → Fits w st.memory → Keeps w (ValueFits w (Some ty)) (counted c s back postfix at st)
counted_keeps w c s back postfix at ty st l h m =
    keeps_bind w (ValueFits w (Some ty)) (ValueFits w (Some ty)) (compounded c s at (unit_step at.ty back) (holds (number (pos 1))) st) (λ v. gives (step_gives postfix (loaded c at at.ty st) v))
    (keeps_compounded w c s at (unit_step at.ty back) (holds (number (pos 1))) ty st l (subst (λ z. Gives (Storable w ty) (stepped (sizes c) ty (unit_step z back) (read st.memory at.block at.cell) (number (pos 1)))) (type_is ty at.ty l.has) (unit_storable w (sizes c) ty back (read st.memory at.block at.cell) h (read_promoted w c at st ty l h m))) m)
    (λ v st1 q m1. (either postfix (loaded c at at.ty st) v (loaded_fits w c at st ty l (scalar_value (Some ty) h) m) q, m1))
  where
    either : (b : Bool) (old new : Value) → ValueFits w (Some ty) old → ValueFits w (Some ty) new → ValueFits w (Some ty) (step_gives b old new)
    either true old new h k = h
    either false old new h k = k

-- ---- the induction

-- the arguments of a call fit its parameters
abbrev TakesAll : World → List Param → List Value → Type 0
TakesAll w ps vs = ArgumentsFit w ps vs

pub given_struct : (ty : Option VarTy) (a : VarTy) → (if is_assign (t.assign (place (t.local (record { 0 = 0 })) no_steps) (typed (record { from = 0; to = 0 }) None t.null)) && is_struct ty then ty else None) ≡ Some a → ty ≡ Some a
given_struct (Some (Struct n)) a h = h
given_struct None a h = cc
given_struct (Some (Int z)) a h = cc
given_struct (Some (Array elem count)) a h = cc
given_struct (Some (Pointer elem fixed)) a h = cc

pub steps_none : (ss : _) (steps : StepTrees) → steps_type ss None steps ≡ None
steps_none ss no_steps = refl
steps_none ss (step_and (t.field k) rest) = steps_none ss rest
steps_none ss (step_and (t.item a s) rest) = go (integer_of (ty_of a)) (steps_none ss rest)
  where
    go : (o : Option IntType) → steps_type ss None rest ≡ None → steps_type ss (item_type None o) rest ≡ None
    go None h = h
    go (Some u) h = h

pub record ElementStep (a b : Option VarTy) : Type 0 where
  pub elem : Elem
  pub count : ℕ
  pub from : a ≡ Some (Array elem count)
  pub to : b ≡ Some (type_of_elem elem)

pub element_step : (a : Option VarTy) (index : Option IntType) (b : VarTy) → item_type a index ≡ Some b → ElementStep a (Some b)
element_step (Some (Array elem count)) (Some u) b h = record { elem = elem; count = count; from = refl; to = sym h }
element_step a None b h = cc
element_step None (Some u) b h = cc
element_step (Some (Int z)) (Some u) b h = cc
element_step (Some (Struct n)) (Some u) b h = cc
element_step (Some (Pointer elem fixed)) (Some u) b h = cc

pub record PointerTo (a : Option VarTy) (b : VarTy) : Type 0 where
  pub elem : Elem
  pub fixed : Bool
  pub from : a ≡ Some (Pointer elem fixed)
  pub to : type_of_elem elem ≡ b

pub pointer_to_type : (a : Option VarTy) (b : VarTy) → option_map type_of_elem (pointee_of a) ≡ Some b → PointerTo a b
pointer_to_type (Some (Pointer elem fixed)) b h = record { elem = elem; fixed = fixed; from = refl; to = cc }
pointer_to_type None b h = cc
pointer_to_type (Some (Int z)) b h = cc
pointer_to_type (Some (Struct n)) b h = cc
pointer_to_type (Some (Array elem count)) b h = cc

-- a place is that of its root, and then of its steps
leads_on : (w : World) (n : Names) (c : Context) (root : RootTree) (steps : StepTrees) (st : State) (ty : VarTy) →
    ((a : VarTy) → root_type n root ≡ Some a → Keeps w (LocationFits w (Some a)) (root_location root c st)) →
    ((a : VarTy) (at : Location) (st1 : State) → steps_type n.structs (Some a) steps ≡ Some ty → LocationFits w (Some a) at → Fits w st1.memory → Keeps w (LocationFits w (Some ty)) (steps_location steps at c st1)) →
    steps_type n.structs (root_type n root) steps ≡ Some ty → Keeps w (LocationFits w (Some ty)) (root_location root c st >>= λ at. steps_location steps at c)
leads_on w n c root steps st ty first then_on is = go (root_type n root) refl is
  where
    none_leads : None ≡ Some ty → Keeps w (LocationFits w (Some ty)) (root_location root c st >>= λ at. steps_location steps at c)
    none_leads h = cc

    go : (o : Option VarTy) → root_type n root ≡ o → steps_type n.structs o steps ≡ Some ty → Keeps w (LocationFits w (Some ty)) (root_location root c st >>= λ at. steps_location steps at c)
    go None e is = none_leads (sym (steps_none n.structs steps) ∙ is)
    go (Some a) e is = keeps_bind w (LocationFits w (Some a)) (LocationFits w (Some ty)) (root_location root c st) (λ at. steps_location steps at c) (first a e) (λ at st1 l m1. then_on a at st1 is l m1)

to_field : (w : World) (n : Names) (c : Context) (rest : StepTrees) (at : Location) (j : ℕ) (a : VarTy) (st : State) (ty : VarTy) →
    ((b : VarTy) → steps_type n.structs (Some b) rest ≡ Some ty → f.field_type n.structs (Some a) j ≡ Some b → Keeps w (LocationFits w (Some ty)) (steps_location rest (field_at c j at) c st)) →
    steps_type n.structs (f.field_type n.structs (Some a) j) rest ≡ Some ty → Keeps w (LocationFits w (Some ty)) (steps_location rest (field_at c j at) c st)
to_field w n c rest at j a st ty on is = go (f.field_type n.structs (Some a) j) refl is
  where
    none_leads : None ≡ Some ty → Keeps w (LocationFits w (Some ty)) (steps_location rest (field_at c j at) c st)
    none_leads h = cc

    go : (o : Option VarTy) → f.field_type n.structs (Some a) j ≡ o → steps_type n.structs o rest ≡ Some ty → Keeps w (LocationFits w (Some ty)) (steps_location rest (field_at c j at) c st)
    go None e is = none_leads (sym (steps_none n.structs rest) ∙ is)
    go (Some b) e is = on b is e

to_item : (w : World) (n : Names) (c : Context) (rest : StepTrees) (at : Location) (b : ExprTree) (s : Span) (a : VarTy) (st : State) (ty : VarTy) → Keeps w (ValueFits w (ty_of b)) (value_of b c st) → LocationFits w (Some a) at →
    ((d : VarTy) (next : Location) (st1 : State) → steps_type n.structs (Some d) rest ≡ Some ty → LocationFits w (Some d) next → Fits w st1.memory → Keeps w (LocationFits w (Some ty)) (steps_location rest next c st1)) →
    steps_type n.structs (item_type (Some a) (integer_of (ty_of b))) rest ≡ Some ty → Keeps w (LocationFits w (Some ty)) (step_location (t.item b s) at c st >>= λ next. steps_location rest next c)
to_item w n c rest at b s a st ty index l on is = go (item_type (Some a) (integer_of (ty_of b))) refl is
  where
    none_leads : None ≡ Some ty → Keeps w (LocationFits w (Some ty)) (step_location (t.item b s) at c st >>= λ next. steps_location rest next c)
    none_leads h = cc

    go : (o : Option VarTy) → item_type (Some a) (integer_of (ty_of b)) ≡ o → steps_type n.structs o rest ≡ Some ty → Keeps w (LocationFits w (Some ty)) (step_location (t.item b s) at c st >>= λ next. steps_location rest next c)
    go None e is = none_leads (sym (steps_none n.structs rest) ∙ is)
    go (Some d) e is =
        let el = element_step (Some a) (integer_of (ty_of b)) d e in
        keeps_bind w (LocationFits w (Some d)) (LocationFits w (Some ty)) (step_location (t.item b s) at c st) (λ next. steps_location rest next c)
        (keeps_bind w (ValueFits w (ty_of b)) (LocationFits w (Some d)) (value_of b c st) (indexed c s at) index
        (λ v st1 q m1. subst (λ z. Keeps w (LocationFits w z) (indexed c s at v st1)) (sym el.to) (element_lies w c s at el.elem el.count v st1 (subst (λ z. LocationFits w z at) el.from l) m1)))
        (λ next st1 l1 m1. on d next st1 is l1 m1)

-- a compound assignment, by its place and its right side
compound_from : (p : PlaceTree) (step : LinkStep) (a : ExprTree) (s : Span) (ty : Option VarTy) (w : World) (c : Context) (st : State) →
    ((z : VarTy) → ty ≡ Some z → Keeps w (LocationFits w (Some z)) (location_of p c st)) → ((st1 : State) → Fits w st1.memory → Keeps w (ValueFits w (ty_of a)) (value_of a c st1)) →
    IsTrue (converts (r.stepped (promoted_value ty) step (ty_of a)) ty) → Keeps w (ValueFits w ty) (location_of p c st >>= λ at st1. value_of a c st1 >>= compounded c s at step)
compound_from p step a s None w c st first second stores = false_not_true (no_conversion (r.stepped (promoted_value None) step (ty_of a)) stores)
  where
    no_conversion : (u : Option VarTy) → converts u None ≡ true → false ≡ true
    no_conversion None h = h
    no_conversion (Some (Int t)) h = h
    no_conversion (Some (Struct j)) h = h
    no_conversion (Some (Array elem count)) h = h
    no_conversion (Some (Pointer elem fixed)) h = h
compound_from p step a s (Some ty) w c st first second stores =
    let scalar = converts_scalar (r.stepped (promoted_value (Some ty)) step (ty_of a)) ty stores in
    keeps_bind w (LocationFits w (Some ty)) (ValueFits w (Some ty)) (location_of p c st) (λ at st1. value_of a c st1 >>= compounded c s at step) (first ty refl)
    (λ at st1 l m1. keeps_bind w (ValueFits w (ty_of a)) (ValueFits w (Some ty)) (value_of a c st1) (compounded c s at step) (second st1 m1)
    (λ v st2 q m2. keeps_compounded w c s at step v ty st2 l (stepped_storable w (sizes c) ty (ty_of a) step (read st2.memory at.block at.cell) v stores (read_promoted w c at st2 ty l scalar m2) q) m2))

-- a call, by its arguments
call_from : (g : FnId) (arguments : ExprTrees) (s : Span) (ty : Option VarTy) (w : World) (n : Names) (c : Context) (st : State) → ContextFits w n c →
    ((ps : List Param) → IsTrue (arguments_fit ps arguments) → Keeps w (ArgumentsFit w ps) (values_of arguments c st)) →
    (o : Option Signature) → slice_get n.signatures g.0 ≡ o → IsTrue (call_fits o arguments ty) → Keeps w (ValueFits w ty) (values_of arguments c st >>= c.calls c.frame s g.0)
call_from g arguments s ty w n c st k first None is h = false_not_true h
call_from g arguments s ty w n c st k first (Some signature) is h =
    let rest = both_hold_second (not (is_main signature)) (arguments_fit signature.params arguments && same_types ty (option_map Int signature.result)) h in
    let result_is = equal_options ty (option_map Int signature.result) (both_hold_second (arguments_fit signature.params arguments) (same_types ty (option_map Int signature.result)) rest) in
    keeps_bind w (ArgumentsFit w signature.params) (ValueFits w ty) (values_of arguments c st) (c.calls c.frame s g.0)
    (first signature.params (both_hold_first (arguments_fit signature.params arguments) (same_types ty (option_map Int signature.result)) rest))
    (λ vs st1 q m1. subst (λ z. Keeps w (ValueFits w z) (c.calls c.frame s g.0 vs st1)) (sym result_is) (k.calls s g.0 vs st1 signature is q m1))

mutual
  pub value_fits : (a : ExprTree) (w : World) (n : Names) (c : Context) (st : State) → ContextFits w n c → IsTrue (is_typed n a) → Fits w st.memory → Keeps w (ValueFits w (ty_of a)) (value_of a c st)
  value_fits (typed s ty form) w n c st k h m = form_keeps form s ty w n c st k h m

  form_keeps : (form : FormTree) (s : Span) (ty : Option VarTy) (w : World) (n : Names) (c : Context) (st : State) → ContextFits w n c → IsTrue (form_fits n form ty) → Fits w st.memory → Keeps w (ValueFits w ty) (form_value form s ty c st)
  form_keeps (t.constant v) s ty w n c st k h m = (constant_is w v ty h, m)
  form_keeps t.null s ty w n c st k h m = (null_is w _ ty h, m)
  form_keeps (t.read p) s ty w n c st k h m =
      let there = both_hold_first (place_fits n p) (same_types (place_type n p) ty && is_value ty) h in
      let is = both_hold_second (place_fits n p) (same_types (place_type n p) ty && is_value ty) h in
      let value = both_hold_second (same_types (place_type n p) ty) (is_value ty) is in
      let some = some_of ty value in
      let place_is = equal_options (place_type n p) ty (both_hold_first (same_types (place_type n p) ty) (is_value ty) is) ∙ some.1 in
      keeps_bind w (LocationFits w (Some some.0)) (ValueFits w ty) (location_of p c st) (λ at st1. gives (loaded c at at.ty st1) st1) (place_keeps p w n c st some.0 k there place_is m)
      (λ at st1 l m1. (subst (λ z. ValueFits w z (loaded c at at.ty st1)) (sym some.1) (loaded_fits w c at st1 some.0 l (subst (λ z. IsTrue (is_value z)) some.1 value) m1), m1))
  form_keeps (t.decay p) s ty w n c st k h m =
      let there = both_hold_first (place_fits n p) (both_elem (item_of (place_type n p)) (pointee_of ty) && keeps_const (place_const n p) ty) h in
      let is = both_hold_first (both_elem (item_of (place_type n p)) (pointee_of ty)) (keeps_const (place_const n p) ty) (both_hold_second (place_fits n p) (both_elem (item_of (place_type n p)) (pointee_of ty) && keeps_const (place_const n p) ty) h) in
      let array = array_of (place_type n p) ty is in
      keeps_bind w (LocationFits w (Some (Array array.elem array.count))) (ValueFits w ty) (location_of p c st) (λ at. gives (holds (decayed at at.ty))) (place_keeps p w n c st (Array array.elem array.count) k there array.from m)
      (λ at st1 l m1. (subst (λ z. ValueFits w z (holds (decayed at at.ty))) (sym array.to) (decayed at at.ty, refl, array_decays w at array.elem array.count l), m1))
  form_keeps (t.address p) s ty w n c st k h m =
      let rest = both_hold_second (place_fits n p) (is_addressed p && (both_elem (element_of (place_type n p)) (pointee_of ty) && keeps_const (place_const n p) ty)) h in
      let there = both_hold_first (place_fits n p) (is_addressed p && (both_elem (element_of (place_type n p)) (pointee_of ty) && keeps_const (place_const n p) ty)) h in
      let is = both_hold_first (both_elem (element_of (place_type n p)) (pointee_of ty)) (keeps_const (place_const n p) ty) (both_hold_second (is_addressed p) (both_elem (element_of (place_type n p)) (pointee_of ty) && keeps_const (place_const n p) ty) rest) in
      let object = object_of (place_type n p) ty is in
      keeps_bind w (LocationFits w (Some (type_of_elem object.elem))) (ValueFits w ty) (location_of p c st) (λ at. gives (holds (address_of at))) (place_keeps p w n c st (type_of_elem object.elem) k there object.from m)
      (λ at st1 l m1. (subst (λ z. ValueFits w z (holds (address_of at))) (sym object.to) (address_of at, refl, object_addressed w at object.elem l), m1))
  form_keeps (t.unary op a) s ty w n c st k h m =
      keeps_bind w (ValueFits w (ty_of a)) (ValueFits w ty) (value_of a c st) (λ v. cell_or_trap s (unary_cell op (type_of a) (cell_of v))) (value_fits a w n c st k (both_hold_first (is_typed n a) (unary_fits op (ty_of a) ty) h) m)
      (λ v st1 q m1. keeps_cell w ty s (unary_cell op (type_of a) (cell_of v)) st1 (unary_of_type op a ty (cell_of v) (both_hold_second (is_typed n a) (unary_fits op (ty_of a) ty) h)) m1)
    where
      unary_of_type : (op : UnOp) (a : ExprTree) (ty : Option VarTy) (cell : Cell) → unary_fits op (ty_of a) ty ≡ true → Gives (FitsAs w ty) (unary_cell op (type_of a) cell)
      unary_of_type op (typed s' ty' form) ty cell h = unary_gives w op ty' ty cell h
  form_keeps (t.convert a) s ty w n c st k h m =
      keeps_bind w (ValueFits w (ty_of a)) (ValueFits w ty) (value_of a c st) (λ v. gives (converted (type_or_int ty) v)) (value_fits a w n c st k (both_hold_first (is_typed n a) (converts (ty_of a) ty) h) m)
      (λ v st1 q m1. (converted_fits w (ty_of a) ty v (both_hold_second (is_typed n a) (converts (ty_of a) ty) h) q, m1))
  form_keeps (t.discard a) s ty w n c st k h m =
      keeps_bind w (ValueFits w (ty_of a)) (ValueFits w ty) (value_of a c st) (λ v. gives nothing) (value_fits a w n c st k (both_hold_first (is_typed n a) (is_none ty) h) m)
      (λ v st1 q m1. (void_is ty (both_hold_second (is_typed n a) (is_none ty) h), m1))
    where
      void_is : (ty : Option VarTy) → IsTrue (is_none ty) → ValueFits w ty nothing
      void_is None h = tt
      void_is (Some z) h = false_not_true h
  form_keeps (t.chain a links) s ty w n c st k h m =
      let is = both_hold_second (is_typed n a) (has_links links && links_fit n (ty_of a) links ty) h in
      keeps_bind w (ValueFits w (ty_of a)) (ValueFits w ty) (value_of a c st) (λ v. links_value links (type_of a) v c) (value_fits a w n c st k (both_hold_first (is_typed n a) (has_links links && links_fit n (ty_of a) links ty) h) m)
      (λ v st1 q m1. links_keep links (type_of a) (ty_of a) v ty w n c st1 k (both_hold_second (has_links links) (links_fit n (ty_of a) links ty) is) q m1)
  form_keeps (t.logical op a operands) s ty w n c st k h m =
      let first = both_hold_first (is_typed n a && is_scalar (ty_of a)) ((has_operands operands && operands_fit n operands) && same_types ty r.int) h in
      let rest = both_hold_second (is_typed n a && is_scalar (ty_of a)) ((has_operands operands && operands_fit n operands) && same_types ty r.int) h in
      let all = both_hold_first (has_operands operands && operands_fit n operands) (same_types ty r.int) rest in
      let is = equal_options ty r.int (both_hold_second (has_operands operands && operands_fit n operands) (same_types ty r.int) rest) in
      keeps_bind w (ValueFits w (ty_of a)) (ValueFits w ty) (value_of a c st) (λ v. operands_value operands op (is_true v) c) (value_fits a w n c st k (both_hold_first (is_typed n a) (is_scalar (ty_of a)) first) m)
      (λ v st1 q m1. subst (λ z. Keeps w (ValueFits w z) (operands_value operands op (is_true v) c st1)) (sym is) (operands_keep operands op (is_true v) w n c st1 k (both_hold_second (has_operands operands) (operands_fit n operands) all) m1))
  form_keeps (t.choice a b d) s ty w n c st k h m =
      let test = both_hold_first (is_typed n a && is_scalar (ty_of a)) ((is_typed n b && same_types (ty_of b) ty) && ((is_typed n d && same_types (ty_of d) ty) && is_arm ty)) h in
      let arms = both_hold_second (is_typed n a && is_scalar (ty_of a)) ((is_typed n b && same_types (ty_of b) ty) && ((is_typed n d && same_types (ty_of d) ty) && is_arm ty)) h in
      let first = both_hold_first (is_typed n b && same_types (ty_of b) ty) ((is_typed n d && same_types (ty_of d) ty) && is_arm ty) arms in
      let second = both_hold_first (is_typed n d && same_types (ty_of d) ty) (is_arm ty) (both_hold_second (is_typed n b && same_types (ty_of b) ty) ((is_typed n d && same_types (ty_of d) ty) && is_arm ty) arms) in
      keeps_bind w (ValueFits w (ty_of a)) (ValueFits w ty) (value_of a c st) (λ v. if is_true v then value_of b c else value_of d c) (value_fits a w n c st k (both_hold_first (is_typed n a) (is_scalar (ty_of a)) test) m)
      (λ v st1 q m1. keeps_either w (ValueFits w ty) (is_true v) (value_of b c) (value_of d c) st1
      (subst (λ z. Keeps w (ValueFits w z) (value_of b c st1)) (equal_options (ty_of b) ty (both_hold_second (is_typed n b) (same_types (ty_of b) ty) first)) (value_fits b w n c st1 k (both_hold_first (is_typed n b) (same_types (ty_of b) ty) first) m1))
      (subst (λ z. Keeps w (ValueFits w z) (value_of d c st1)) (equal_options (ty_of d) ty (both_hold_second (is_typed n d) (same_types (ty_of d) ty) second)) (value_fits d w n c st1 k (both_hold_first (is_typed n d) (same_types (ty_of d) ty) second) m1)))
  form_keeps (t.assign p a) s ty w n c st k h m =
      let there = both_hold_first (place_fits n p) (is_written n p) (both_hold_first (place_fits n p && is_written n p) ((same_types (place_type n p) ty && is_value ty) && (is_typed n a && same_types (ty_of a) ty)) h) in
      let rest = both_hold_second (place_fits n p && is_written n p) ((same_types (place_type n p) ty && is_value ty) && (is_typed n a && same_types (ty_of a) ty)) h in
      let own = both_hold_first (same_types (place_type n p) ty && is_value ty) (is_typed n a && same_types (ty_of a) ty) rest in
      let of = both_hold_second (same_types (place_type n p) ty && is_value ty) (is_typed n a && same_types (ty_of a) ty) rest in
      let some = some_of ty (both_hold_second (same_types (place_type n p) ty) (is_value ty) own) in
      let place_is = equal_options (place_type n p) ty (both_hold_first (same_types (place_type n p) ty) (is_value ty) own) ∙ some.1 in
      let of_is = equal_options (ty_of a) ty (both_hold_second (is_typed n a) (same_types (ty_of a) ty) of) ∙ some.1 in
      keeps_bind w (LocationFits w (Some some.0)) (ValueFits w ty) (location_of p c st) (λ at st1. value_of a c st1 >>= store at) (place_keeps p w n c st some.0 k there place_is m)
      (λ at st1 l m1. keeps_bind w (ValueFits w (ty_of a)) (ValueFits w ty) (value_of a c st1) (store at) (value_fits a w n c st1 k (both_hold_first (is_typed n a) (same_types (ty_of a) ty) of) m1)
      (λ v st2 q m2. subst (λ z. Keeps w (ValueFits w z) (store at v st2)) (sym some.1) (keeps_store w at v some.0 st2 l (subst (λ z. ValueFits w z v) of_is q) m2)))
  form_keeps (t.compound p at step a) s ty w n c st k h m =
      let there = both_hold_first (place_fits n p) (is_written n p) (both_hold_first (place_fits n p && is_written n p) (same_types (place_type n p) ty && (is_typed n a && (is_compound step && converts (r.stepped (promoted_value ty) step (ty_of a)) ty))) h) in
      let rest = both_hold_second (place_fits n p && is_written n p) (same_types (place_type n p) ty && (is_typed n a && (is_compound step && converts (r.stepped (promoted_value ty) step (ty_of a)) ty))) h in
      let of = both_hold_second (same_types (place_type n p) ty) (is_typed n a && (is_compound step && converts (r.stepped (promoted_value ty) step (ty_of a)) ty)) rest in
      let stores = both_hold_second (is_compound step) (converts (r.stepped (promoted_value ty) step (ty_of a)) ty) (both_hold_second (is_typed n a) (is_compound step && converts (r.stepped (promoted_value ty) step (ty_of a)) ty) of) in
      let place_is = equal_options (place_type n p) ty (both_hold_first (same_types (place_type n p) ty) (is_typed n a && (is_compound step && converts (r.stepped (promoted_value ty) step (ty_of a)) ty)) rest) in
      compound_from p step a s ty w c st (λ z is. place_keeps p w n c st z k there (place_is ∙ is) m)
      (λ st1 m1. value_fits a w n c st1 k (both_hold_first (is_typed n a) (is_compound step && converts (r.stepped (promoted_value ty) step (ty_of a)) ty) of) m1) stores
  form_keeps (t.step p at back postfix) s ty w n c st k h m =
      let there = both_hold_first (place_fits n p) (is_written n p) (both_hold_first (place_fits n p && is_written n p) (same_types (place_type n p) ty && is_scalar ty) h) in
      let rest = both_hold_second (place_fits n p && is_written n p) (same_types (place_type n p) ty && is_scalar ty) h in
      let scalar = both_hold_second (same_types (place_type n p) ty) (is_scalar ty) rest in
      let some = some_of ty (scalar_value ty scalar) in
      let place_is = equal_options (place_type n p) ty (both_hold_first (same_types (place_type n p) ty) (is_scalar ty) rest) ∙ some.1 in
      keeps_bind w (LocationFits w (Some some.0)) (ValueFits w ty) (location_of p c st) (counted c s back postfix) (place_keeps p w n c st some.0 k there place_is m)
      (λ at st1 l m1. subst (λ z. Keeps w (ValueFits w z) (counted c s back postfix at st1)) (sym some.1) (counted_keeps w c s back postfix at some.0 st1 l (subst (λ z. IsTrue (is_scalar z)) some.1 scalar) m1))
  form_keeps (t.call g arguments) s ty w n c st k h m =
      call_from g arguments s ty w n c st k (λ ps fit. arguments_keep arguments ps w n c st k (both_hold_first (all_typed n arguments) (call_fits (slice_get n.signatures g.0) arguments ty) h) fit m)
      (slice_get n.signatures g.0) refl (both_hold_second (all_typed n arguments) (call_fits (slice_get n.signatures g.0) arguments ty) h)

  pub arguments_keep : (arguments : ExprTrees) (ps : List Param) (w : World) (n : Names) (c : Context) (st : State) → ContextFits w n c → IsTrue (all_typed n arguments) → IsTrue (arguments_fit ps arguments) → Fits w st.memory → Keeps w (ArgumentsFit w ps) (values_of arguments c st)
  arguments_keep no_exprs [] w n c st k all h m = (tt, m)
  arguments_keep no_exprs (p ∷ ps) w n c st k all h m = false_not_true h
  arguments_keep (expr_and a rest) [] w n c st k all h m = false_not_true h
  arguments_keep (expr_and a rest) (p ∷ ps) w n c st k all h m =
      let is = equal_options (ty_of a) (Some (param_type p.kind)) (both_hold_first (same_types (ty_of a) (Some (param_type p.kind))) (arguments_fit ps rest) h) in
      keeps_bind w (ValueFits w (ty_of a)) (ArgumentsFit w (p ∷ ps)) (value_of a c st) (λ v st1. values_of rest c st1 >>= λ vs. gives (v ∷ vs)) (value_fits a w n c st k (both_hold_first (is_typed n a) (all_typed n rest) all) m)
      (λ v st1 q m1. keeps_bind w (ArgumentsFit w ps) (ArgumentsFit w (p ∷ ps)) (values_of rest c st1) (λ vs. gives (v ∷ vs))
      (arguments_keep rest ps w n c st1 k (both_hold_second (is_typed n a) (all_typed n rest) all) (both_hold_second (same_types (ty_of a) (Some (param_type p.kind))) (arguments_fit ps rest) h) m1)
      (λ vs st2 qs m2. ((subst (λ z. ValueFits w z v) is q, qs), m2)))

  links_keep : (links : LinkTrees) (so_far : VarTy) (a : Option VarTy) (v : Value) (ty : Option VarTy) (w : World) (n : Names) (c : Context) (st : State) → ContextFits w n c → IsTrue (links_fit n a links ty) → ValueFits w a v → Fits w st.memory → Keeps w (ValueFits w ty) (links_value links so_far v c st)
  links_keep no_links so_far a v ty w n c st k h fit m = (subst (λ z. ValueFits w z v) (equal_options a ty h) fit, m)
  links_keep (link_and (link s to step b) rest) so_far a v ty w n c st k h fit m =
      let more = both_hold_second (is_typed n b) (same_types (r.stepped a step (ty_of b)) (Some to) && links_fit n (Some to) rest ty) h in
      let is = equal_options (r.stepped a step (ty_of b)) (Some to) (both_hold_first (same_types (r.stepped a step (ty_of b)) (Some to)) (links_fit n (Some to) rest ty) more) in
      keeps_bind w (ValueFits w (Some to)) (ValueFits w ty) (link_value (link s to step b) so_far v c st) (λ u. links_value rest to u c)
      (keeps_bind w (ValueFits w (ty_of b)) (ValueFits w (Some to)) (value_of b c st) (λ u. cell_or_trap s (stepped (sizes c) so_far step (cell_of v) (cell_of u)))
      (value_fits b w n c st k (both_hold_first (is_typed n b) (same_types (r.stepped a step (ty_of b)) (Some to) && links_fit n (Some to) rest ty) h) m)
      (λ u st1 q m1. keeps_cell w (Some to) s (stepped (sizes c) so_far step (cell_of v) (cell_of u)) st1 (step_fits w (sizes c) so_far a (ty_of b) to step v u is fit q) m1))
      (λ u st1 q m1. links_keep rest to (Some to) u ty w n c st1 k (both_hold_second (same_types (r.stepped a step (ty_of b)) (Some to)) (links_fit n (Some to) rest ty) more) q m1)

  operands_keep : (operands : OperandTrees) (op : LogicalOp) (b : Bool) (w : World) (n : Names) (c : Context) (st : State) → ContextFits w n c → IsTrue (operands_fit n operands) → Fits w st.memory → Keeps w (ValueFits w r.int) (operands_value operands op b c st)
  operands_keep no_operands op b w n c st k h m = (truth_fits w b, m)
  operands_keep (operand_and (operand s a) rest) op b w n c st k h m =
      let first = both_hold_first (is_typed n a && is_scalar (ty_of a)) (operands_fit n rest) h in
      keeps_branch w (ValueFits w r.int) (is_decided op b) (gives (truth_value b) st) (value_of a c st >>= λ v. operands_value rest op (is_true v) c)
      (truth_fits w b, m)
      (keeps_bind w (ValueFits w (ty_of a)) (ValueFits w r.int) (value_of a c st) (λ v. operands_value rest op (is_true v) c) (value_fits a w n c st k (both_hold_first (is_typed n a) (is_scalar (ty_of a)) first) m)
      (λ v st1 q m1. operands_keep rest op (is_true v) w n c st1 k (both_hold_second (is_typed n a && is_scalar (ty_of a)) (operands_fit n rest) h) m1))

  pub place_keeps : (p : PlaceTree) (w : World) (n : Names) (c : Context) (st : State) (ty : VarTy) → ContextFits w n c → IsTrue (place_fits n p) → place_type n p ≡ Some ty → Fits w st.memory → Keeps w (LocationFits w (Some ty)) (location_of p c st)
  place_keeps (place root steps) w n c st ty k h is m =
      leads_on w n c root steps st ty (λ a e. root_keeps root w n c st a k (both_hold_first (root_fits n root) (steps_fit n steps) h) e m)
      (λ a at st1 e l m1. steps_keep steps a at w n c st1 ty k (both_hold_second (root_fits n root) (steps_fit n steps) h) e l m1) is

  pub root_keeps : (root : RootTree) (w : World) (n : Names) (c : Context) (st : State) (a : VarTy) → ContextFits w n c → IsTrue (root_fits n root) → root_type n root ≡ Some a → Fits w st.memory → Keeps w (LocationFits w (Some a)) (root_location root c st)
  root_keeps (t.local v) w n c st a k h is m = (names_variable w n c v.0 a k is, m)
  root_keeps (t.global g) w n c st a k h is m = (names_global w n c g.0 a k is, m)
  root_keeps (t.deref b s) w n c st a k h is m =
      let p = pointer_to_type (ty_of b) a is in
      keeps_bind w (ValueFits w (ty_of b)) (LocationFits w (Some a)) (value_of b c st) (λ v. or_trap s (dereferenced c (type_of b) (cell_of v))) (value_fits b w n c st k h m)
      (λ v st1 q m1. keeps_or_trap w (LocationFits w (Some a)) s (dereferenced c (type_of b) (cell_of v)) st1 (pointed b p v q) m1)
    where
      pointed : (b : ExprTree) → PointerTo (ty_of b) a → (v : Value) → ValueFits w (ty_of b) v → Gives (LocationFits w (Some a)) (dereferenced c (type_of b) (cell_of v))
      pointed (typed s' ty' form) p v q =
          subst (λ z. Gives (LocationFits w (Some a)) (dereferenced c (type_or_int z) (cell_of v))) (sym p.from)
          (subst (λ z. Gives (LocationFits w (Some z)) (dereferenced c (Pointer p.elem p.fixed) (cell_of v))) p.to
          (pointee_fits w c p.elem p.fixed (cell_of v) (scoped_of_pointer w p.elem p.fixed v (subst (λ z. ValueFits w z v) p.from q))))
  root_keeps (t.assigned b) w n c st a k h is m = assigned_keeps b w n c st a k h is m

  -- the left object of an assignment of structs
  assigned_keeps : (b : ExprTree) (w : World) (n : Names) (c : Context) (st : State) (a : VarTy) → ContextFits w n c → IsTrue (is_typed n b) → assigned_type b ≡ Some a → Fits w st.memory → Keeps w (LocationFits w (Some a)) (assigned_location b c st)
  assigned_keeps (typed s ty (t.assign p d)) w n c st a k h is m =
      let there = both_hold_first (place_fits n p) (is_written n p) (both_hold_first (place_fits n p && is_written n p) ((same_types (place_type n p) ty && is_value ty) && (is_typed n d && same_types (ty_of d) ty)) h) in
      let rest = both_hold_second (place_fits n p && is_written n p) ((same_types (place_type n p) ty && is_value ty) && (is_typed n d && same_types (ty_of d) ty)) h in
      let own = both_hold_first (same_types (place_type n p) ty && is_value ty) (is_typed n d && same_types (ty_of d) ty) rest in
      let of = both_hold_second (same_types (place_type n p) ty && is_value ty) (is_typed n d && same_types (ty_of d) ty) rest in
      let ty_is = given_struct ty a is in
      let place_is = equal_options (place_type n p) ty (both_hold_first (same_types (place_type n p) ty) (is_value ty) own) ∙ ty_is in
      let of_is = equal_options (ty_of d) ty (both_hold_second (is_typed n d) (same_types (ty_of d) ty) of) ∙ ty_is in
      keeps_bind w (LocationFits w (Some a)) (LocationFits w (Some a)) (location_of p c st) (λ at st1. value_of d c st1 >>= λ v st2. store at v st2 >>= λ u. gives at) (place_keeps p w n c st a k there place_is m)
      (λ at st1 l m1. keeps_bind w (ValueFits w (ty_of d)) (LocationFits w (Some a)) (value_of d c st1) (λ v st2. store at v st2 >>= λ u. gives at) (value_fits d w n c st1 k (both_hold_first (is_typed n d) (same_types (ty_of d) ty) of) m1)
      (λ v st2 q m2. (l, stored_fits w st2.memory at v a l (subst (λ z. ValueFits w z v) of_is q) m2)))
  assigned_keeps (typed s ty (t.constant v)) w n c st a k h is m = cc
  assigned_keeps (typed s ty t.null) w n c st a k h is m = cc
  assigned_keeps (typed s ty (t.read p)) w n c st a k h is m = cc
  assigned_keeps (typed s ty (t.decay p)) w n c st a k h is m = cc
  assigned_keeps (typed s ty (t.address p)) w n c st a k h is m = cc
  assigned_keeps (typed s ty (t.unary op b)) w n c st a k h is m = cc
  assigned_keeps (typed s ty (t.convert b)) w n c st a k h is m = cc
  assigned_keeps (typed s ty (t.discard b)) w n c st a k h is m = cc
  assigned_keeps (typed s ty (t.chain b links)) w n c st a k h is m = cc
  assigned_keeps (typed s ty (t.logical op b others)) w n c st a k h is m = cc
  assigned_keeps (typed s ty (t.choice b d e)) w n c st a k h is m = cc
  assigned_keeps (typed s ty (t.compound p at step b)) w n c st a k h is m = cc
  assigned_keeps (typed s ty (t.step p at back postfix)) w n c st a k h is m = cc
  assigned_keeps (typed s ty (t.call g arguments)) w n c st a k h is m = cc

  steps_keep : (steps : StepTrees) (a : VarTy) (at : Location) (w : World) (n : Names) (c : Context) (st : State) (ty : VarTy) → ContextFits w n c → IsTrue (steps_fit n steps) → steps_type n.structs (Some a) steps ≡ Some ty → LocationFits w (Some a) at → Fits w st.memory → Keeps w (LocationFits w (Some ty)) (steps_location steps at c st)
  steps_keep no_steps a at w n c st ty k h is l m = (subst (λ z. LocationFits w z at) is l, m)
  steps_keep (step_and (t.field j) rest) a at w n c st ty k h is l m =
      to_field w n c rest at j a st ty (λ b e' e. steps_keep rest b (field_at c j at) w n c st ty k h e' (field_lies w n c j a at b k l e) m) is
  steps_keep (step_and (t.item b s) rest) a at w n c st ty k h is l m =
      to_item w n c rest at b s a st ty (value_fits b w n c st k (both_hold_first (is_typed n b) (steps_fit n rest) h) m) l
      (λ d next st1 e l1 m1. steps_keep rest d next w n c st1 ty k (both_hold_second (is_typed n b) (steps_fit n rest) h) e l1 m1) is
