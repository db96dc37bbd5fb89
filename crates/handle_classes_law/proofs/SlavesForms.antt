-- The forms of pure expressions and of places.
use Rattle.std.proofs.Common.{◌≡◌, ◌∙◌, ◌≤◌, ◌<◌, ℕ, ◌+◌, refl, ap, sym, subst, arith, Bool, true, false, Option, Some, None, List, [], ◌∷◌, ◌++◌, length, if◌then◌else◌}
use Rattle.std.specs.Prelude.{◌||◌, ◌&&◌, is_some}
use Rattle.pt_base.specs.declared.int_type.IntType.{IntType}
use Rattle.pt_base.specs.declared.span.Span.{Span}
use Rattle.pt_int.specs.declared.operator.UnOp.{UnOp}
use Rattle.pt_int.specs.declared.operator.UnOp.TheVariants as u
use Rattle.pt_tree.specs.declared.signature.Elem.{Elem}
use Rattle.pt_tree.specs.declared.signature.Elem.TheVariants as e
use Rattle.typed_tree.specs.declared.types.VarTy.{VarTy}
use Rattle.typed_tree.specs.declared.types.VarTy.TheVariants.{Int, Struct, Array, Pointer}
use Rattle.typed_tree.specs.declared.link.LinkStep.{LinkStep}
use Rattle.typed_tree.specs.declared.link.LinkStep.TheVariants.{Arithmetic, Shift, Move, MoveBy, Difference, Compare}
use Rattle.typed_tree.specs.Sizes.{sizes_of, elem_cells, cells_by}
use Rattle.typed_tree.specs.TypeTests.{is_scalar, same_int, same_types, both_elem, integer_of, pointee_of, type_of_elem}
use Rattle.typed_tree.specs.WellFormed.{is_plain_type, structs_sound}
use Rattle.typed_tree.specs.TypeRules as r
use Rattle.pt_core.specs.CodeTree.{PlaceTree, place, local, global, deref, ExprTree, convert, address, decay}
use Rattle.pt_core.specs.Types as core
use Rattle.pt_core.specs.Values.{is_type}
use Rattle.source_meaning.specs.Expressions.{type_or_int}
use Rattle.sides.specs.declared.objects.Object.{Object}
use Rattle.sides.specs.Carried.{linked_slots}
use Rattle.lowering.specs.Lowered.{Lowered, hold}
use Rattle.lowering.specs.Operators.{prefixed, stepped, promoted_of}
use Rattle.lowered_code_law.proofs.FormsSettings.{context}
use Rattle.typed_tree.proofs.SameTypes.{equal_options}
use Rattle.handle_classes.specs.Classes.{Class, number_class, class_of, place_class, element_cells}
use Rattle.lowering.specs.Expressions.{arm}
use Rattle.std.specs.List.{list_any, list_all}
use Rattle.std.proofs.lemmas.List.Folds.{list_all-append, list_any-append}
use Rattle.pt_base.proofs.Booleans.{and_true_first, and_true_second, false_not_true, or_with_true}
use Rattle.lowered_code_law.proofs.FormsPlaces.{elem_of_type}
use Rattle.handle_classes.specs.Judgment.{IsFine, IsFinePlace, HasElements, IsAnArray, Goes}
use Rattle.handle_classes_law.specs.ObjectsCells.{is_pointer}
use Rattle.handle_classes_law.specs.SlavesMarked.{kept_class}
use Rattle.handle_classes_law.proofs.SlavesClasses.{IsBy, PlaceClass, at_equal, deref_class, address_class, decay_class, array_alike, elem_pointee, elem_size}
use Rattle.handle_classes_law.proofs.SlavesBench.{Bench, judged, kept_of, at_slots, IsObject, AreFine, fine_both, ValueIs, LoweredIs, is_int, scalar_room, number_by, PlainIf, plain_value, as_int_fine}

-- ---- types

pub promoted_int : (o ty : Option VarTy) → r.is_same_promoted o ty ≡ true → is_int (type_or_int ty) ≡ true
promoted_int None ty h = false_not_true h
promoted_int (Some (Int a)) None h = refl
promoted_int (Some (Int a)) (Some (Int b)) h = refl
promoted_int (Some (Int a)) (Some (Struct n)) h = false_not_true h
promoted_int (Some (Int a)) (Some (Array elem n)) h = false_not_true h
promoted_int (Some (Int a)) (Some (Pointer elem f)) h = false_not_true h
promoted_int (Some (Struct n)) ty h = false_not_true h
promoted_int (Some (Array elem n)) ty h = false_not_true h
promoted_int (Some (Pointer elem f)) ty h = false_not_true h

pub truth_int : (ty : Option VarTy) → same_types ty r.int ≡ true → is_int (type_or_int ty) ≡ true
truth_int ty h = subst (λ z. is_int (type_or_int z) ≡ true) (sym (equal_options ty r.int h)) refl

pub unary_int : (op : UnOp) (o ty : Option VarTy) → r.unary_fits op o ty ≡ true → is_int (type_or_int ty) ≡ true
unary_int u.Minus o ty h = promoted_int o ty h
unary_int u.Plus o ty h = promoted_int o ty h
unary_int u.Flip o ty h = promoted_int o ty h
unary_int u.Not o ty h = truth_int ty (and_true_second (is_scalar o) (same_types ty r.int) h)

pub pointer_kind : (ty : VarTy) → is_some (pointee_of (Some ty)) ≡ true → is_pointer ty ≡ true
pointer_kind (Int t) h = false_not_true h
pointer_kind (Struct n) h = false_not_true h
pointer_kind (Array elem n) h = false_not_true h
pointer_kind (Pointer elem f) h = refl

pub int_kind : (o : Option VarTy) → is_some (integer_of o) ≡ true → is_int (type_or_int o) ≡ true
int_kind None h = refl
int_kind (Some (Int t)) h = refl
int_kind (Some (Struct n)) h = false_not_true h
int_kind (Some (Array elem n)) h = false_not_true h
int_kind (Some (Pointer elem f)) h = false_not_true h

pub pointers_kind : (o q : Option VarTy) → both_elem (pointee_of o) (pointee_of q) ≡ true → (is_pointer (type_or_int o) ≡ true) × (is_pointer (type_or_int q) ≡ true)
pointers_kind (Some (Pointer a f)) (Some (Pointer c g)) h = (refl, refl)
pointers_kind (Some (Pointer a f)) None h = false_not_true h
pointers_kind (Some (Pointer a f)) (Some (Int t)) h = false_not_true h
pointers_kind (Some (Pointer a f)) (Some (Struct n)) h = false_not_true h
pointers_kind (Some (Pointer a f)) (Some (Array elem n)) h = false_not_true h
pointers_kind None q h = false_not_true h
pointers_kind (Some (Int t)) q h = false_not_true h
pointers_kind (Some (Struct n)) q h = false_not_true h
pointers_kind (Some (Array elem n)) q h = false_not_true h

when : (c : Bool) (x y : VarTy) → (if c then Some x else None) ≡ Some y → (c ≡ true) × (x ≡ y)
when true x y h = (refl, inner x y h)
  where
    inner : (x y : VarTy) → Some x ≡ Some y → x ≡ y
    inner x y h = cc
when false x y h = cc

record Ints (p q : Option IntType) (to : VarTy) : Type 0 where
  first : is_some p ≡ true
  second : is_some q ≡ true
  gives : is_int to ≡ true

arithmetic_ints : (op : _) (t : IntType) (p q : Option IntType) (to : VarTy) → r.arithmetic_type op t p q ≡ Some to → Ints p q to
arithmetic_ints op t (Some a) (Some c) to h = record { first = refl; second = refl; gives = subst (λ z. is_int z ≡ true) (when _ _ to h).1 refl }
arithmetic_ints op t (Some a) None to h = cc
arithmetic_ints op t None q to h = cc

shift_ints : (p q : Option IntType) (to : VarTy) → r.shift_type p q ≡ Some to → Ints p q to
shift_ints (Some a) (Some c) to h = record { first = refl; second = refl; gives = subst (λ z. is_int z ≡ true) (when _ _ to h).1 refl }
shift_ints (Some a) None to h = cc
shift_ints None q to h = cc

record Moves (pointer by : Option VarTy) (to : VarTy) : Type 0 where
  pointer_is : is_some (pointee_of pointer) ≡ true
  by_int : is_some (integer_of by) ≡ true
  same : pointer ≡ Some to

moves : (pointer by : Option VarTy) (to : VarTy) → r.moved_type pointer by ≡ Some to → Moves pointer by to
moves pointer by to h = go (is_some (pointee_of pointer)) (is_some (integer_of by)) refl refl h
  where
    go : (x y : Bool) → is_some (pointee_of pointer) ≡ x → is_some (integer_of by) ≡ y → (if x && y then pointer else None) ≡ Some to → Moves pointer by to
    go true true p q k = record { pointer_is = p; by_int = q; same = k }
    go true false p q k = cc
    go false y p q k = cc

pointer_object : (ty : VarTy) → is_pointer ty ≡ true → is_int ty ≡ false
pointer_object (Pointer elem f) h = refl
pointer_object (Int t) h = false_not_true h
pointer_object (Struct n) h = false_not_true h
pointer_object (Array elem n) h = false_not_true h

-- ---- operators before

pub prefixed_is : (b : Bench) (op : UnOp) (ty : VarTy) (to : Option VarTy) (slots : List ℕ) (a : ExprTree) (s : Span) → r.unary_fits op (Some ty) to ≡ true → PlainIf b ty slots → ValueIs b ty slots a → ValueIs b (type_or_int to) [] (prefixed op ty a s)
prefixed_is b op (Int t) to slots a s rule plain h = record { fine = (h.fine, plain_value b (Int t) slots a refl plain h); is = number_by b (type_or_int to) [] number_class (unary_int op (Some (Int t)) to rule) refl refl refl }
prefixed_is b u.Not (Pointer elem f) to slots a s rule plain h = record { fine = (h.fine, tt, h.is.kind, refl); is = number_by b (type_or_int to) [] number_class (unary_int u.Not (Some (Pointer elem f)) to rule) refl refl refl }
prefixed_is b u.Minus (Pointer elem f) to slots a s rule plain h = false_not_true rule
prefixed_is b u.Plus (Pointer elem f) to slots a s rule plain h = false_not_true rule
prefixed_is b u.Flip (Pointer elem f) to slots a s rule plain h = false_not_true rule
prefixed_is b u.Not (Struct n) to slots a s rule plain h = false_not_true rule
prefixed_is b u.Minus (Struct n) to slots a s rule plain h = false_not_true rule
prefixed_is b u.Plus (Struct n) to slots a s rule plain h = false_not_true rule
prefixed_is b u.Flip (Struct n) to slots a s rule plain h = false_not_true rule
prefixed_is b u.Not (Array elem n) to slots a s rule plain h = false_not_true rule
prefixed_is b u.Minus (Array elem n) to slots a s rule plain h = false_not_true rule
prefixed_is b u.Plus (Array elem n) to slots a s rule plain h = false_not_true rule
prefixed_is b u.Flip (Array elem n) to slots a s rule plain h = false_not_true rule

-- ---- conversions

pub convert_is : (b : Bench) (from to : IntType) (slots : List ℕ) (a : ExprTree) → core.type_of (context b.w) a ≡ Int from → (same_int from to ≡ false → PlainIf b (Int from) slots) → ValueIs b (Int from) slots a →
    ValueIs b (Int to) (if same_int from to then slots else []) (convert to a)
convert_is b from to slots a type plain h = go (same_int from to) refl
  where
    test : is_type (core.type_of (context b.w) a) to ≡ same_int from to
    test = ap (λ z. is_type z to) type

    go : (x : Bool) → same_int from to ≡ x → ValueIs b (Int to) (if x then slots else []) (convert to a)
    go true is = record {
      fine = (h.fine, h.is.kind, λ no. false_not_true (sym no ∙ (test ∙ is)));
      is = record {
        kind = refl;
        size = refl;
        number = λ p m. h.is.number refl (and_true_second (is_type (core.type_of (context b.w) a) to) ((class_of (judged b) a).may 0) m);
        may = λ p n less. false_not_true p;
        must = λ p n less. false_not_true p;
      };
    }
    go false is =
        let no = (plain_value b (Int from) slots a refl (plain is) h).number in
        record {
          fine = (h.fine, h.is.kind, λ q. no);
          is = number_by b (Int to) [] (class_of (judged b) (convert to a)) refl refl refl (none (is_type (core.type_of (context b.w) a) to) ((class_of (judged b) a).may 0) no);
        }
      where
        none : (x y : Bool) → y ≡ false → (x && y) ≡ false
        none true y h = h
        none false y h = refl

-- ---- steps of chains

pub record StepIs (b : Bench) (to : VarTy) (slots : List ℕ) (a : ExprTree) : Type 0 where
  pub value : ValueIs b to slots a
  pub plain : PlainIf b to slots

step_number : (b : Bench) (to : VarTy) (a : ExprTree) → is_int to ≡ true → IsFine (judged b) a → IsBy (class_of (judged b) a) (at_slots b to []) → StepIs b to [] a
step_number b to a int fine is = record { value = record { fine = fine; is = is }; plain = λ p. refl }

pub step_is : (b : Bench) (step : LinkStep) (ty to : VarTy) (o : Option VarTy) (xs ys : List ℕ) (a v : ExprTree) (s : Span) → r.stepped (Some ty) step o ≡ Some to → PlainIf b ty xs → PlainIf b (type_or_int o) ys →
    ValueIs b ty xs a → ValueIs b (type_or_int o) ys v → StepIs b to (linked_slots xs step ys) (stepped ty step a v s)
step_is b (Arithmetic op t) ty to o xs ys a v s is pa pv ha hv =
    let ints = arithmetic_ints op t (integer_of (Some ty)) (integer_of o) to is in
    let one = as_int_fine b ty t a (int_kind (Some ty) ints.first) ha.fine (plain_value b ty xs a (int_kind (Some ty) ints.first) pa ha) in
    step_number b to (stepped ty (Arithmetic op t) a v s) ints.gives (one.0, hv.fine, one.1, plain_value b (type_or_int o) ys v (int_kind o ints.second) pv hv) (number_by b to [] number_class ints.gives refl refl refl)
step_is b (Shift to_left) ty to o xs ys a v s is pa pv ha hv =
    let ints = shift_ints (integer_of (Some ty)) (integer_of o) to is in
    let one = as_int_fine b ty (promoted_of ty) a (int_kind (Some ty) ints.first) ha.fine (plain_value b ty xs a (int_kind (Some ty) ints.first) pa ha) in
    step_number b to (stepped ty (Shift to_left) a v s) ints.gives (one.0, hv.fine, one.1, plain_value b (type_or_int o) ys v (int_kind o ints.second) pv hv) (number_by b to [] number_class ints.gives refl refl refl)
step_is b (Move back) ty to o xs ys a v s is pa pv ha hv =
    let m = moves (Some ty) o to is in
    let kind = pointer_kind ty m.pointer_is in
    let same : ty ≡ to = ap type_or_int m.same in
    record {
      value = record { fine = (ha.fine, hv.fine, ha.is.kind ∙ kind, plain_value b (type_or_int o) ys v (int_kind o m.by_int) pv hv); is = subst (λ z. IsBy (class_of (judged b) a) (at_slots b z xs)) same ha.is };
      plain = λ p. false_not_true (sym p ∙ (ap is_pointer (sym same) ∙ kind));
    }
step_is b MoveBy ty to o xs ys a v s is pa pv ha hv =
    let m = moves o (Some ty) to is in
    let same : type_or_int o ≡ to = ap type_or_int m.same in
    let kind = pointer_kind to (subst (λ z. is_some (pointee_of z) ≡ true) m.same m.pointer_is) in
    record {
      value = record { fine = (hv.fine, ha.fine, hv.is.kind ∙ ap is_pointer same ∙ kind, plain_value b ty xs a (int_kind (Some ty) m.by_int) pa ha); is = subst (λ z. IsBy (class_of (judged b) v) (at_slots b z ys)) same hv.is };
      plain = λ p. false_not_true (sym p ∙ kind);
    }
step_is b Difference ty to o xs ys a v s is pa pv ha hv =
    let w = when (both_elem (pointee_of (Some ty)) (pointee_of o)) _ to is in
    let k = pointers_kind (Some ty) o w.0 in
    let int : is_int to ≡ true = subst (λ z. is_int z ≡ true) w.1 refl in
    step_number b to (stepped ty Difference a v s) int (ha.fine, hv.fine, ha.is.kind ∙ k.0, hv.is.kind ∙ k.1) (number_by b to [] number_class int refl refl refl)
step_is b (Compare op) ty to o xs ys a v s is pa pv ha hv =
    let w = when (r.is_comparison op && both_elem (pointee_of (Some ty)) (pointee_of o)) _ to is in
    let k = pointers_kind (Some ty) o (and_true_second (r.is_comparison op) (both_elem (pointee_of (Some ty)) (pointee_of o)) w.0) in
    let int : is_int to ≡ true = subst (λ z. is_int z ≡ true) w.1 refl in
    step_number b to (stepped ty (Compare op) a v s) int (ha.fine, hv.fine, ha.is.kind ∙ k.0, hv.is.kind ∙ k.1) (number_by b to [] number_class int refl refl refl)

-- what a step gives is plain where it is an integer
pub step_plain : (b : Bench) (step : LinkStep) (ty to : VarTy) (o : Option VarTy) (xs ys : List ℕ) → r.stepped (Some ty) step o ≡ Some to → PlainIf b to (linked_slots xs step ys)
step_plain b (Arithmetic op t) ty to o xs ys is = λ p. refl
step_plain b (Shift to_left) ty to o xs ys is = λ p. refl
step_plain b (Move back) ty to o xs ys is = let m = moves (Some ty) o to is in λ p. false_not_true (sym p ∙ (ap is_pointer (sym (ap type_or_int m.same)) ∙ pointer_kind ty m.pointer_is))
step_plain b MoveBy ty to o xs ys is = let m = moves o (Some ty) to is in λ p. false_not_true (sym p ∙ pointer_kind to (subst (λ z. is_some (pointee_of z) ≡ true) m.same m.pointer_is))
step_plain b Difference ty to o xs ys is = λ p. refl
step_plain b (Compare op) ty to o xs ys is = λ p. refl

-- ---- places

object_pointee : (ty : VarTy) → is_pointer ty ≡ false → core.pointee_type ty ≡ ty
object_pointee (Int t) h = refl
object_pointee (Struct n) h = refl
object_pointee (Array elem n) h = refl
object_pointee (Pointer elem f) h = false_not_true (sym h)

variable_class_is : (b : Bench) (objects : List Object) (n : ℕ) (ty : VarTy) (c : Class) (p : PlaceTree) → IsFinePlace (judged b) p → place_class (judged b) p ≡ c → (o : IsObject b objects n ty c) →
    ((is_pointer ty ≡ false → c.pointer ≡ false) → (is_pointer ty ≡ false → 0 + cells_by (sizes_of b.w.names.structs) ty ≤ c.size) → PlaceClass b.marks (judged b) ty (o.start ∷ []) p) → PlaceClass b.marks (judged b) ty (o.start ∷ []) p
variable_class_is b objects n ty c p fine is o make =
    make (λ q. ap (λ (z : Class). z.pointer) o.class ∙ q) (λ q. let s = ap (λ (z : Class). z.size) o.class in let t = ap (λ z. cells_by (sizes_of b.w.names.structs) z) (object_pointee ty q) in omega (arith, s, t))

pub local_is : (b : Bench) (x : ℕ) (ty : VarTy) → (o : IsObject b b.variables x ty (b.world.variable b.function x)) → PlaceClass b.marks (judged b) ty (o.start ∷ []) (place (local x) [])
local_is b x ty o = variable_class_is b b.variables x ty (b.world.variable b.function x) (place (local x) []) (tt, tt) refl o
    (λ object room. record { fine = (tt, tt); is = at_equal (b.world.variable b.function x) (at_slots b ty (o.start ∷ [])) o.class; object = object; room = room })

pub global_is : (b : Bench) (x : ℕ) (ty : VarTy) → (o : IsObject b b.globals x ty (b.world.global x)) → PlaceClass b.marks (judged b) ty (o.start ∷ []) (place (global x) [])
global_is b x ty o = variable_class_is b b.globals x ty (b.world.global x) (place (global x) []) (tt, tt) refl o
    (λ object room. record { fine = (tt, tt); is = at_equal (b.world.global x) (at_slots b ty (o.start ∷ [])) o.class; object = object; room = room })

pub deref_is : (b : Bench) (elem : Elem) (fixed own : Bool) (slots : List ℕ) (a : ExprTree) (s : Span) → core.type_of (context b.w) a ≡ Pointer elem own → ValueIs b (Pointer elem fixed) slots a → PlaceClass b.marks (judged b) (type_of_elem elem) slots (place (deref a s) [])
deref_is b elem fixed own slots a s type h =
    let size = h.is.size ∙ elem_size b.w.names.structs elem in
    let is = deref_class b.marks b.w.names.structs elem fixed slots (class_of (judged b) a) h.is in
    record {
      fine = ((h.fine, h.is.kind, subst (λ z. HasElements (context b.w) z (class_of (judged b) a).size) (sym type) (sym size)), tt);
      is = is;
      object = λ q. refl;
      room = λ q. let z = elem_size b.w.names.structs elem in omega (arith, z, size);
    }

pub elem_object : (elem : Elem) → is_pointer (type_of_elem elem) ≡ false
elem_object (e.Int t) = refl
elem_object (e.Struct n) = refl

pub decay_is : (b : Bench) (elem : Elem) (count : ℕ) (fixed : Bool) (slots : List ℕ) (p : PlaceTree) → structs_sound b.w.names.structs 0 b.w.names.structs ≡ true → is_plain_type (length b.w.names.structs) (Array elem count) ≡ true →
    core.place_type (context b.w) p ≡ Array elem count → PlaceClass b.marks (judged b) (Array elem count) slots p → ValueIs b (Pointer elem fixed) slots (decay p)
decay_is b elem count fixed slots p sound plain type h = record {
  fine = (h.fine, h.is.kind, subst (λ z. IsAnArray (place_class (judged b) p) (elem_cells (sizes_of b.w.names.structs) (core.element_of z)) z) (sym type) (array_alike b.marks b.w.names.structs elem count slots (place_class (judged b) p) sound plain h.is));
  is = decay_class b.marks b.w.names.structs elem count fixed slots (place_class (judged b) p) (element_cells (context b.w) p) sound plain (ap (λ z. elem_cells (sizes_of b.w.names.structs) (core.element_of z)) type) h.is;
}

pub address_is : (b : Bench) (elem : Elem) (fixed : Bool) (slots : List ℕ) (p : PlaceTree) → core.place_type (context b.w) p ≡ type_of_elem elem → PlaceClass b.marks (judged b) (type_of_elem elem) slots p → ValueIs b (Pointer elem fixed) slots (address p)
address_is b elem fixed slots p type h =
    let cells : element_cells (context b.w) p ≡ elem_cells (sizes_of b.w.names.structs) elem = ap (λ z. elem_cells (sizes_of b.w.names.structs) (core.element_of z)) type ∙ ap (λ z. elem_cells (sizes_of b.w.names.structs) z) (elem_of_type elem) in
    let size = h.is.size ∙ ap (λ z. cells_by (sizes_of b.w.names.structs) z) (elem_pointee elem) ∙ elem_size b.w.names.structs elem in
    record {
      fine = (h.fine, h.is.kind ∙ elem_object elem, omega (arith, cells, size));
      is = address_class b.marks b.w.names.structs elem fixed slots (place_class (judged b) p) (element_cells (context b.w) p) cells h.is;
    }

-- ---- choices

-- what goes into a temporary that may hold another value too
pub record Into (k more : Class) : Type 0 where
  pub kind : k.pointer ≡ more.pointer
  pub size : k.size ≡ more.size
  pub may : (n : ℕ) → k.may n ≡ true → more.may n ≡ true
  pub must : (n : ℕ) → more.must n ≡ true → k.must n ≡ true

pub kept_more : (v k more : Class) → IsBy v k → Into k more → (more.pointer ≡ false → 0 < more.size) → Goes v (kept_class more)
unfolding kept_of
kept_more v k more h into room = go more.pointer refl
  where
    go : (x : Bool) → more.pointer ≡ x → Goes v (kept_of x more)
    go true is = record {
      kind = h.kind ∙ into.kind;
      room = λ p. false_not_true (sym p ∙ is);
      sealed = λ p. false_not_true (sym p ∙ is);
      flows = λ p. record {
        kind = h.kind ∙ into.kind;
        first = λ q m. into.may 0 (h.number (into.kind ∙ q) m);
        size = λ q. h.size ∙ into.size;
        may = λ q n less m. into.may n (sym (h.may (into.kind ∙ q) n (let s = into.size in omega (arith, less, s))) ∙ m);
        must = λ q n less m. h.must (into.kind ∙ q) n (let s = into.size in omega (arith, less, s)) ∙ into.must n m;
      };
    }
    go false is = record { kind = h.kind ∙ into.kind; room = room; sealed = λ q m. into.may 0 (h.number (into.kind ∙ q) m); flows = λ p. false_not_true (sym is ∙ p) }

some_first : (f : ℕ → Bool) (xs ys : List ℕ) → list_any f xs ≡ true → list_any f (xs ++ ys) ≡ true
some_first f xs ys h = list_any-append f xs ys ∙ ap (λ z. z || list_any f ys) h

some_second : (f : ℕ → Bool) (xs ys : List ℕ) → list_any f ys ≡ true → list_any f (xs ++ ys) ≡ true
some_second f xs ys h = list_any-append f xs ys ∙ ap (λ z. list_any f xs || z) h ∙ or_with_true (list_any f xs)

every_first : (f : ℕ → Bool) (xs ys : List ℕ) → list_all f (xs ++ ys) ≡ true → list_all f xs ≡ true
every_first f xs ys h = and_true_first (list_all f xs) (list_all f ys) (sym (list_all-append f xs ys) ∙ h)

every_second : (f : ℕ → Bool) (xs ys : List ℕ) → list_all f (xs ++ ys) ≡ true → list_all f ys ≡ true
every_second f xs ys h = and_true_second (list_all f xs) (list_all f ys) (sym (list_all-append f xs ys) ∙ h)

pub into_first : (b : Bench) (ty : VarTy) (xs ys : List ℕ) → Into (at_slots b ty xs) (at_slots b ty (xs ++ ys))
into_first b ty xs ys = record { kind = refl; size = refl; may = λ n h. some_first _ xs ys h; must = λ n h. every_first _ xs ys h }

pub into_second : (b : Bench) (ty : VarTy) (xs ys : List ℕ) → Into (at_slots b ty ys) (at_slots b ty (xs ++ ys))
into_second b ty xs ys = record { kind = refl; size = refl; may = λ n h. some_second _ xs ys h; must = λ n h. every_second _ xs ys h }

-- an arm's value, held
pub arm_is : (b : Bench) (ty : VarTy) (xs all : List ℕ) (k : ℕ) (v : Lowered) → is_scalar (Some ty) ≡ true → b.world.variable b.function k ≡ kept_class (at_slots b ty all) → Into (at_slots b ty xs) (at_slots b ty all) → LoweredIs b ty xs v → AreFine b (arm k v)
arm_is b ty xs all k v scalar is into h =
    fine_both b v.stmts (hold k v.value ∷ []) h.stmts
    (((tt, tt), h.value.fine, subst (λ z. Goes (class_of (judged b) v.value) z) (sym is) (kept_more (class_of (judged b) v.value) (at_slots b ty xs) (at_slots b ty all) h.value.is into (λ p. scalar_room b ty all scalar p))), tt)
