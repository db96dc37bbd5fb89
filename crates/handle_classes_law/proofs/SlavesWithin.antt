-- The slots that an expression carries are some of the program's, with all leaves of its type.
use Rattle.std.proofs.Common.{◌≡◌, ◌∙◌, ◌≤◌, ◌<◌, ℕ, zero, suc, ◌+◌, refl, ap, sym, subst, arith, Bool, true, false, Option, None, Some, List, [], ◌∷◌, ◌++◌, length, map, if◌then◌else◌}
use Rattle.std.specs.Prelude.{◌&&◌, ◌||◌, not, slice_get, get_or, is_none, is_some, option_map, option_and_then}
use Rattle.std.specs.List.{AllByRecursion}
use Rattle.pt_base.specs.declared.ids.FnId.{FnId}
use Rattle.pt_base.specs.declared.int_type.IntType.{IntType}
use Rattle.pt_base.proofs.Booleans.{both_hold_first as and_left, both_hold_second, false_not_true}
use Rattle.pt_base.proofs.Numbers.{as_zero_plus}
use Rattle.pt_tree.specs.declared.signature.Elem.{Elem}
use Rattle.pt_tree.specs.declared.signature.Elem.TheVariants as e
use Rattle.pt_tree.specs.declared.signature.Param.{Param}
use Rattle.pt_tree.specs.declared.signature.Signature.{Signature}
use Rattle.typed_tree.specs.declared.types.VarTy.{VarTy}
use Rattle.typed_tree.specs.declared.types.VarTy.TheVariants.{Int, Struct, Array, Pointer}
use Rattle.typed_tree.specs.declared.types.Field.{Field}
use Rattle.typed_tree.specs.declared.types.StructInfo.{StructInfo}
use Rattle.typed_tree.specs.declared.link.LinkStep.{LinkStep}
use Rattle.typed_tree.specs.declared.link.LinkStep.TheVariants.{Arithmetic, Shift, Move, MoveBy, Difference, Compare}
use Rattle.typed_tree.specs.ExpressionTree as src
use Rattle.typed_tree.specs.ExpressionTree.{typed, FormTree, ExprTrees, no_exprs, expr_and, LinkTrees, no_links, link_and, link, OperandTrees, no_operands, operand_and, operand, RootTree, StepTrees, no_steps, step_and}
use Rattle.typed_tree.specs.Sizes.{fields_of}
use Rattle.typed_tree.specs.TypeTests.{same_int, same_elem, same_types, both_elem, integer_of, pointee_of, element_of, item_of, is_scalar, is_value, type_of_elem}
use Rattle.typed_tree.specs.TypeRules as r
use Rattle.typed_tree.specs.TypeRules.{converts, is_arm}
use Rattle.typed_tree.specs.WellFormed.{structs_sound}
use Rattle.typed_tree.specs.WellFormedExpression.{Names, param_type, has_operands, operands_fit, is_typed, form_fits, all_typed, call_fits, arguments_fit, is_main, has_links, links_fit, place_fits, root_fits, steps_fit, ty_of, root_type, steps_type, place_type, field_type, item_type, is_addressed, keeps_const, place_const}
use Rattle.typed_tree.proofs.SameTypes.{equal_elems, equal_options}
use Rattle.sides.specs.declared.objects.Object.{Object}
use Rattle.usages.specs.declared.usage.How.{How}
use Rattle.usages.specs.declared.usage.How.TheVariants.{Kept, Operated, Passed, Begins, Returned}
use Rattle.usages.specs.Usages.{UsageTree, used, keeps_value, converted as conversion, evaluated, form_usages, argument_usages, link_usages, operand_usages, place_usages, root_usages, step_usages}
use Rattle.sides.specs.Leaves.{leaves_of, leaf_count, field_starts, field_start, value_count}
use Rattle.sides.specs.Carried as slots
use Rattle.sides.specs.Carried.{carried, form_slots, links_slots, linked_slots, place_slots, root_slots, start_of}
use Rattle.lowered_code_law.proofs.FormsRules.{array_of, object_of, pointee_of_pointer, assigned_struct, assign_rules, compound_rules, count_rules, value_type}
use Rattle.lowered_code_law.proofs.FormsSteps.{one_type}
use Rattle.handle_classes_law.proofs.ObjectsItems.{all_leaves, array_leaves, pointer_leaves, struct_leaves}
use Rattle.handle_classes_law.proofs.SlavesPlaces.{root_seen}
use Rattle.handle_classes_law.proofs.SlavesBench.{Bench, seen, Fits}

-- ---- slots from which on so many leaves are within

abbrev pub AllRoom : ℕ → ℕ → List ℕ → Type 0
AllRoom top k [] = Unit {0}
AllRoom top k (x ∷ xs) = (x + k ≤ top) × AllRoom top k xs

pub room_both : (top k : ℕ) (xs ys : List ℕ) → AllRoom top k xs → AllRoom top k ys → AllRoom top k (xs ++ ys)
room_both top k [] ys h j = j
room_both top k (x ∷ xs) ys h j = (h.0, room_both top k xs ys h.1 j)

room_as : (top k l : ℕ) (xs : List ℕ) → k ≡ l → AllRoom top k xs → AllRoom top l xs
room_as top k l xs is h = subst (λ z. AllRoom top z xs) is h

-- a part of what begins there
room_behind : (top k l n : ℕ) (xs : List ℕ) → n + k ≤ l → AllRoom top l xs → AllRoom top k (map (λ x. x + n) xs)
room_behind top k l n [] less h = tt
room_behind top k l n (x ∷ xs) less h = (within x k l n top less h.0, room_behind top k l n xs less h.1)
  where
    within : (x k l n top : ℕ) → n + k ≤ l → x + l ≤ top → x + n + k ≤ top
    within x k l n top less h = omega (arith, less, h)

-- what is behind nothing needs no room
room_less : (top k l : ℕ) (xs : List ℕ) → k ≤ l → AllRoom top l xs → AllRoom top k xs
room_less top k l [] less h = tt
room_less top k l (x ∷ xs) less h = (let a = h.0 in omega (arith, less, a), room_less top k l xs less h.1)

-- ---- leaves of types

pub int_leaf : (structs : List StructInfo) (t : IntType) → leaf_count structs (Int t) ≡ 1
unfolding leaves_of
int_leaf structs t = refl

-- a field's leaves are among those of the struct
field_within : (structs : List StructInfo) (start : ℕ) (fs : List Field) (k : ℕ) (x : Field) → slice_get fs k ≡ Some x → get_or (field_starts (leaf_count structs) start fs) k 0 + leaf_count structs x.ty ≤ start + all_leaves structs fs
field_within structs start [] k x h = cc
field_within structs start (f ∷ fs) zero x h = subst (λ (z : Field). start + leaf_count structs z.ty ≤ start + (leaf_count structs f.ty + all_leaves structs fs)) (same f x h) (first start (leaf_count structs f.ty) (all_leaves structs fs))
  where
    same : (f x : Field) → Some f ≡ Some x → f ≡ x
    same f x h = cc

    first : (s a b : ℕ) → s + a ≤ s + (a + b)
    first s a b = omega arith
field_within structs start (f ∷ fs) (suc k) x h = let rest = field_within structs (start + leaf_count structs f.ty) fs k x h in omega (arith, rest)

field_room : (structs : List StructInfo) (n k : ℕ) (u : VarTy) → structs_sound structs 0 structs ≡ true → field_type structs (Some (Struct n)) k ≡ Some u → field_start structs n k + leaf_count structs u ≤ leaf_count structs (Struct n)
field_room structs n k u sound h = go (slice_get structs n) refl h
  where
    field : (s : StructInfo) (o : Option Field) → slice_get s.fields k ≡ o → option_map (λ (f : Field). f.ty) o ≡ Some u → get_or (field_starts (leaf_count structs) 0 s.fields) k 0 + leaf_count structs u ≤ 0 + all_leaves structs s.fields
    field s None is e = cc
    field s (Some x) is e = subst (λ z. get_or (field_starts (leaf_count structs) 0 s.fields) k 0 + leaf_count structs z ≤ 0 + all_leaves structs s.fields) (same x.ty u e) (field_within structs 0 s.fields k x is)
      where
        same : (a c : VarTy) → Some a ≡ Some c → a ≡ c
        same a c h = cc

    go : (o : Option StructInfo) → slice_get structs n ≡ o → option_and_then (λ (s : StructInfo). option_map (λ (f : Field). f.ty) (slice_get s.fields k)) o ≡ Some u → field_start structs n k + leaf_count structs u ≤ leaf_count structs (Struct n)
    go None is e = cc
    go (Some s) is e =
        let here : fields_of structs n ≡ s.fields = found structs n s is in
        let all = struct_leaves structs n sound (listed structs n s is) in
        let one = subst (λ fs. get_or (field_starts (leaf_count structs) 0 fs) k 0 + leaf_count structs u ≤ 0 + all_leaves structs fs) (sym here) (field s (slice_get s.fields k) refl e) in
        omega (arith, all, one)
      where
        found : (ss : List StructInfo) (n : ℕ) (s : StructInfo) → slice_get ss n ≡ Some s → fields_of ss n ≡ s.fields
        found [] n s is = cc
        found (x ∷ xs) zero s is = ap (λ (z : StructInfo). z.fields) (one x s is)
          where
            one : (x s : StructInfo) → Some x ≡ Some s → x ≡ s
            one x s h = cc
        found (x ∷ xs) (suc n) s is = found xs n s is

        listed : (ss : List StructInfo) (n : ℕ) (s : StructInfo) → slice_get ss n ≡ Some s → n < length ss
        listed [] n s is = cc
        listed (x ∷ xs) zero s is = omega arith
        listed (x ∷ xs) (suc n) s is = let rest = listed xs n s is in omega (arith, rest)

-- ---- steps of places

no_item : {X : Type 0} (structs : List StructInfo) (rest : StepTrees) (z : VarTy) → (steps_type structs None rest ≡ Some z → X) → (o : Option IntType) → steps_type structs (item_type None o) rest ≡ Some z → X
no_item structs rest z later None k = later k
no_item structs rest z later (Some t) k = later k

-- what begins with no type leads to none
nowhere : {X : Type 0} (structs : List StructInfo) (steps : StepTrees) (z : VarTy) → steps_type structs None steps ≡ Some z → X
nowhere structs no_steps z h = cc
nowhere structs (step_and (src.field k) rest) z h = nowhere structs rest z h
nowhere structs (step_and (src.item a s) rest) z h = no_item structs rest z (λ k. nowhere structs rest z k) (integer_of (ty_of a)) h

-- how far behind an object's first leaf a part begins, and that it lies within
steps_room : (structs : List StructInfo) (steps : StepTrees) (z u : VarTy) → structs_sound structs 0 structs ≡ true → steps_type structs (Some z) steps ≡ Some u → slots.steps_offset structs (Some z) steps + leaf_count structs u ≤ leaf_count structs z
steps_room structs no_steps z u sound h = subst (λ w. 0 + leaf_count structs w ≤ leaf_count structs z) (one_type z u h) (omega arith)
steps_room structs (step_and (src.field k) rest) (Struct n) u sound h = go (λ w e. steps_room structs rest w u sound e) (field_type structs (Some (Struct n)) k) refl h
  where
    go : ((w : VarTy) → steps_type structs (Some w) rest ≡ Some u → slots.steps_offset structs (Some w) rest + leaf_count structs u ≤ leaf_count structs w) → (o : Option VarTy) → field_type structs (Some (Struct n)) k ≡ o → steps_type structs o rest ≡ Some u → field_start structs n k + slots.steps_offset structs (field_type structs (Some (Struct n)) k) rest + leaf_count structs u ≤ leaf_count structs (Struct n)
    go more None is e = nowhere structs rest u e
    go more (Some w) is e =
        let later = more w e in
        let here = field_room structs n k w sound is in
        subst (λ o. field_start structs n k + slots.steps_offset structs o rest + leaf_count structs u ≤ leaf_count structs (Struct n)) (sym is) (omega (arith, later, here))
steps_room structs (step_and (src.field k) rest) (Int t) u sound h = nowhere structs rest u h
steps_room structs (step_and (src.field k) rest) (Array elem count) u sound h = nowhere structs rest u h
steps_room structs (step_and (src.field k) rest) (Pointer elem fixed) u sound h = nowhere structs rest u h
steps_room structs (step_and (src.item a s) rest) (Array elem count) u sound h = go (λ e. steps_room structs rest (type_of_elem elem) u sound e) (integer_of (ty_of a)) h
  where
    go : (steps_type structs (Some (type_of_elem elem)) rest ≡ Some u → slots.steps_offset structs (Some (type_of_elem elem)) rest + leaf_count structs u ≤ leaf_count structs (type_of_elem elem)) → (o : Option IntType) → steps_type structs (item_type (Some (Array elem count)) o) rest ≡ Some u → 0 + slots.steps_offset structs (Some (type_of_elem elem)) rest + leaf_count structs u ≤ leaf_count structs (Array elem count)
    go more None e = nowhere structs rest u e
    go more (Some t) e =
        let later = more e in
        let same = array_leaves structs elem count in
        omega (arith, later, same)
steps_room structs (step_and (src.item a s) rest) (Int t) u sound h = go (integer_of (ty_of a)) h
  where
    go : (o : Option IntType) → steps_type structs (item_type (Some (Int t)) o) rest ≡ Some u → slots.steps_offset structs (Some (Int t)) (step_and (src.item a s) rest) + leaf_count structs u ≤ leaf_count structs (Int t)
    go None e = nowhere structs rest u e
    go (Some i) e = nowhere structs rest u e
steps_room structs (step_and (src.item a s) rest) (Struct n) u sound h = go (integer_of (ty_of a)) h
  where
    go : (o : Option IntType) → steps_type structs (item_type (Some (Struct n)) o) rest ≡ Some u → slots.steps_offset structs (Some (Struct n)) (step_and (src.item a s) rest) + leaf_count structs u ≤ leaf_count structs (Struct n)
    go None e = nowhere structs rest u e
    go (Some i) e = nowhere structs rest u e
steps_room structs (step_and (src.item a s) rest) (Pointer elem fixed) u sound h = go (integer_of (ty_of a)) h
  where
    go : (o : Option IntType) → steps_type structs (item_type (Some (Pointer elem fixed)) o) rest ≡ Some u → slots.steps_offset structs (Some (Pointer elem fixed)) (step_and (src.item a s) rest) + leaf_count structs u ≤ leaf_count structs (Pointer elem fixed)
    go None e = nowhere structs rest u e
    go (Some i) e = nowhere structs rest u e

-- ---- what a body names

-- the slots of its objects, and of results, are below this number
pub record Rooms (top : ℕ) (b : Bench) : Type 0 where
  pub locals : (x start : ℕ) (ty : VarTy) → slice_get b.variables x ≡ Some (record { ty = ty; start = start }) → start + leaf_count b.w.names.structs ty ≤ top
  pub globals : (x start : ℕ) (ty : VarTy) → slice_get b.globals x ≡ Some (record { ty = ty; start = start }) → start + leaf_count b.w.names.structs ty ≤ top
  pub results : (g : ℕ) (s : Signature) → slice_get b.w.names.signatures g ≡ Some s → b.results + g < top

-- how many leaves a value of this type has
abbrev pub count : Bench → Option VarTy → ℕ
count b o = value_count (leaf_count b.w.names.structs) o

-- ---- chains

moved_same : (pointer by : Option VarTy) (to : VarTy) → r.moved_type pointer by ≡ Some to → pointer ≡ Some to
moved_same pointer by to h = go (is_some (pointee_of pointer)) (is_some (integer_of by)) h
  where
    go : (x y : Bool) → (if x && y then pointer else None) ≡ Some to → pointer ≡ Some to
    go true true k = k
    go true false k = cc
    go false y k = cc

linked_room : (op : LinkStep) (b : Bench) (top : ℕ) (o q : Option VarTy) (to : VarTy) (xs ys : List ℕ) → r.stepped o op q ≡ Some to → AllRoom top (count b o) xs → AllRoom top (count b q) ys → AllRoom top (count b (Some to)) (linked_slots xs op ys)
linked_room (Arithmetic op t) b top o q to xs ys is h k = tt
linked_room (Shift dir) b top o q to xs ys is h k = tt
linked_room (Move back) b top o q to xs ys is h k = room_as top (count b o) (count b (Some to)) xs (ap (count b) (moved_same o q to is)) h
linked_room MoveBy b top o q to xs ys is h k = room_as top (count b q) (count b (Some to)) ys (ap (count b) (moved_same q o to is)) k
linked_room Difference b top o q to xs ys is h k = tt
linked_room (Compare op) b top o q to xs ys is h k = tt

-- ---- conversions

converted_room : (b : Bench) (top : ℕ) (o ty : Option VarTy) (xs : List ℕ) → converts o ty ≡ true → AllRoom top (count b o) xs → AllRoom top (count b ty) (if keeps_value o ty then xs else [])
converted_room b top (Some (Int x)) (Some (Int y)) xs rule h = go (same_int x y)
  where
    go : (c : Bool) → AllRoom top (leaf_count b.w.names.structs (Int y)) (if c then xs else [])
    go true = room_as top (leaf_count b.w.names.structs (Int x)) (leaf_count b.w.names.structs (Int y)) xs (int_leaf b.w.names.structs x ∙ sym (int_leaf b.w.names.structs y)) h
    go false = tt
converted_room b top (Some (Pointer x c)) (Some (Pointer y d)) xs rule h =
    room_as top (leaf_count b.w.names.structs (Pointer x c)) (leaf_count b.w.names.structs (Pointer y d)) xs
    (pointer_leaves b.w.names.structs x c ∙ ap (λ z. leaf_count b.w.names.structs (type_of_elem z)) (equal_elems x y (and_left (same_elem x y) (not c || d) rule)) ∙ sym (pointer_leaves b.w.names.structs y d)) h
converted_room b top None ty xs rule h = false_not_true rule
converted_room b top (Some (Struct m)) ty xs rule h = false_not_true rule
converted_room b top (Some (Array elem m)) ty xs rule h = false_not_true rule
converted_room b top (Some (Int x)) None xs rule h = false_not_true rule
converted_room b top (Some (Int x)) (Some (Struct m)) xs rule h = false_not_true rule
converted_room b top (Some (Int x)) (Some (Array elem m)) xs rule h = false_not_true rule
converted_room b top (Some (Int x)) (Some (Pointer elem m)) xs rule h = false_not_true rule
converted_room b top (Some (Pointer x c)) None xs rule h = false_not_true rule
converted_room b top (Some (Pointer x c)) (Some (Int m)) xs rule h = false_not_true rule
converted_room b top (Some (Pointer x c)) (Some (Struct m)) xs rule h = false_not_true rule
converted_room b top (Some (Pointer x c)) (Some (Array elem m)) xs rule h = false_not_true rule

-- ---- calls

-- a result has a leaf at most
result_room : (b : Bench) (top g : ℕ) (s : Signature) (arguments : ExprTrees) (ty : Option VarTy) → Rooms top b → slice_get b.w.names.signatures g ≡ Some s → call_fits (Some s) arguments ty ≡ true → AllRoom top (count b ty) ((b.results + g) ∷ [])
result_room b top g s arguments ty rooms is h =
    let same = equal_options ty (option_map Int s.result) (both_hold_second (arguments_fit s.params arguments) (same_types ty (option_map Int s.result)) (both_hold_second (not (is_main s)) (arguments_fit s.params arguments && same_types ty (option_map Int s.result)) h)) in
    let few = one s.result in
    let less = rooms.results g s is in
    (subst (λ o. b.results + g + count b o ≤ top) (sym same) (omega (arith, few, less)), tt)
  where
    one : (o : Option IntType) → count b (option_map Int o) ≤ 1
    one None = omega arith
    one (Some t) = let l = int_leaf b.w.names.structs t in omega (arith, l)

pointed : (c : Bool) (k : ℕ) (xs : List ℕ) (top : ℕ) → AllRoom top k xs → AllRoom top k (if c then xs else [])
pointed true k xs top h = h
pointed false k xs top h = tt

-- a place, by where it begins
from_root : (b : Bench) (root : RootTree) (steps : StepTrees) (top : ℕ) (z : VarTy) → Fits b → ((w : VarTy) → root_type b.w.names root ≡ Some w → AllRoom top (leaf_count b.w.names.structs w) (root_slots (seen b) root)) →
    (o : Option VarTy) → root_type b.w.names root ≡ o → steps_type b.w.names.structs o steps ≡ Some z → AllRoom top (leaf_count b.w.names.structs z) (place_slots (seen b) (src.place root steps))
from_root b root steps top z g room None e is = nowhere b.w.names.structs steps z is
from_root b root steps top z g room (Some w) e is =
    subst (λ o. AllRoom top (leaf_count b.w.names.structs z) (map (λ x. x + slots.steps_offset b.w.names.structs o steps) (root_slots (seen b) root))) (sym (root_seen root b w g e))
    (room_behind top (leaf_count b.w.names.structs z) (leaf_count b.w.names.structs w) (slots.steps_offset b.w.names.structs (Some w) steps) (root_slots (seen b) root) (steps_room b.w.names.structs steps w z g.agrees.structs is) (room w e))

-- ---- by induction

-- of a type that is known
typed_as : (b : Bench) (top : ℕ) (z : VarTy) (ty : Option VarTy) (xs : List ℕ) → ty ≡ Some z → AllRoom top (leaf_count b.w.names.structs z) xs → AllRoom top (count b ty) xs
typed_as b top z ty xs e h = room_as top (leaf_count b.w.names.structs z) (count b ty) xs (ap (count b) (sym e)) h

mutual
  pub carried_room : (a : src.ExprTree) (b : Bench) (top : ℕ) → Fits b → Rooms top b → is_typed b.w.names a ≡ true → AllRoom top (count b (ty_of a)) (carried (seen b) a)
  carried_room (typed s ty form) b top g rooms h = form_room form ty b top g rooms h

  form_room : (form : FormTree) (ty : Option VarTy) (b : Bench) (top : ℕ) → Fits b → Rooms top b → form_fits b.w.names form ty ≡ true → AllRoom top (count b ty) (form_slots (seen b) ty form)
  form_room (src.constant v) ty b top g rooms h = tt
  form_room src.null ty b top g rooms h = tt
  form_room (src.read p) ty b top g rooms h =
      let rest = both_hold_second (place_fits b.w.names p) (same_types (place_type b.w.names p) ty && is_value ty) h in
      let v = value_type ty (both_hold_second (same_types (place_type b.w.names p) ty) (is_value ty) rest) in
      typed_as b top v.type ty (place_slots (seen b) p) v.is (place_room p b top v.type g rooms (and_left (place_fits b.w.names p) (same_types (place_type b.w.names p) ty && is_value ty) h)
      (equal_options (place_type b.w.names p) ty (and_left (same_types (place_type b.w.names p) ty) (is_value ty) rest) ∙ v.is))
  form_room (src.decay p) ty b top g rooms h =
      let rest = both_hold_second (place_fits b.w.names p) (both_elem (item_of (place_type b.w.names p)) (pointee_of ty) && keeps_const (place_const b.w.names p) ty) h in
      let o = array_of (place_type b.w.names p) ty (and_left (both_elem (item_of (place_type b.w.names p)) (pointee_of ty)) (keeps_const (place_const b.w.names p) ty) rest) in
      room_as top (leaf_count b.w.names.structs (Array o.elem o.count)) (count b ty) (place_slots (seen b) p)
      (array_leaves b.w.names.structs o.elem o.count ∙ sym (pointer_leaves b.w.names.structs o.elem o.fixed) ∙ ap (count b) (sym o.to))
      (place_room p b top (Array o.elem o.count) g rooms (and_left (place_fits b.w.names p) (both_elem (item_of (place_type b.w.names p)) (pointee_of ty) && keeps_const (place_const b.w.names p) ty) h) o.from)
  form_room (src.address p) ty b top g rooms h =
      let rest = both_hold_second (place_fits b.w.names p) (is_addressed p && (both_elem (element_of (place_type b.w.names p)) (pointee_of ty) && keeps_const (place_const b.w.names p) ty)) h in
      let more = both_hold_second (is_addressed p) (both_elem (element_of (place_type b.w.names p)) (pointee_of ty) && keeps_const (place_const b.w.names p) ty) rest in
      let o = object_of (place_type b.w.names p) ty (and_left (both_elem (element_of (place_type b.w.names p)) (pointee_of ty)) (keeps_const (place_const b.w.names p) ty) more) in
      room_as top (leaf_count b.w.names.structs (type_of_elem o.elem)) (count b ty) (place_slots (seen b) p) (sym (pointer_leaves b.w.names.structs o.elem o.fixed) ∙ ap (count b) (sym o.to))
      (place_room p b top (type_of_elem o.elem) g rooms (and_left (place_fits b.w.names p) (is_addressed p && (both_elem (element_of (place_type b.w.names p)) (pointee_of ty) && keeps_const (place_const b.w.names p) ty)) h) o.from)
  form_room (src.unary op a) ty b top g rooms h = tt
  form_room (src.convert a) ty b top g rooms h =
      converted_room b top (ty_of a) ty (carried (seen b) a) (both_hold_second (is_typed b.w.names a) (converts (ty_of a) ty) h) (carried_room a b top g rooms (and_left (is_typed b.w.names a) (converts (ty_of a) ty) h))
  form_room (src.discard a) ty b top g rooms h = tt
  form_room (src.chain a ls) ty b top g rooms h =
      let rest = both_hold_second (is_typed b.w.names a) (has_links ls && links_fit b.w.names (ty_of a) ls ty) h in
      links_room ls b top (ty_of a) (carried (seen b) a) ty g rooms (both_hold_second (has_links ls) (links_fit b.w.names (ty_of a) ls ty) rest) (carried_room a b top g rooms (and_left (is_typed b.w.names a) (has_links ls && links_fit b.w.names (ty_of a) ls ty) h))
  form_room (src.logical op a os) ty b top g rooms h = tt
  form_room (src.choice a c d) ty b top g rooms h =
      let arms = both_hold_second (is_typed b.w.names a && is_scalar (ty_of a)) ((is_typed b.w.names c && same_types (ty_of c) ty) && ((is_typed b.w.names d && same_types (ty_of d) ty) && is_arm ty)) h in
      let one = and_left (is_typed b.w.names c && same_types (ty_of c) ty) ((is_typed b.w.names d && same_types (ty_of d) ty) && is_arm ty) arms in
      let two = and_left (is_typed b.w.names d && same_types (ty_of d) ty) (is_arm ty) (both_hold_second (is_typed b.w.names c && same_types (ty_of c) ty) ((is_typed b.w.names d && same_types (ty_of d) ty) && is_arm ty) arms) in
      room_both top (count b ty) (carried (seen b) c) (carried (seen b) d)
      (room_as top (count b (ty_of c)) (count b ty) (carried (seen b) c) (ap (count b) (equal_options (ty_of c) ty (both_hold_second (is_typed b.w.names c) (same_types (ty_of c) ty) one))) (carried_room c b top g rooms (and_left (is_typed b.w.names c) (same_types (ty_of c) ty) one)))
      (room_as top (count b (ty_of d)) (count b ty) (carried (seen b) d) (ap (count b) (equal_options (ty_of d) ty (both_hold_second (is_typed b.w.names d) (same_types (ty_of d) ty) two))) (carried_room d b top g rooms (and_left (is_typed b.w.names d) (same_types (ty_of d) ty) two)))
  form_room (src.assign p a) ty b top g rooms h = let o = assign_rules b.w.names p a ty h in typed_as b top o.type ty (place_slots (seen b) p) o.is (place_room p b top o.type g rooms o.fits o.place)
  form_room (src.compound p at op a) ty b top g rooms h = let o = compound_rules b.w.names p at op a ty h in typed_as b top o.type ty (place_slots (seen b) p) o.is (place_room p b top o.type g rooms o.fits o.place)
  form_room (src.step p at back postfix) ty b top g rooms h =
      let o = count_rules b.w.names p at back postfix ty h in
      pointed (is_some (pointee_of ty)) (count b ty) (place_slots (seen b) p) top (typed_as b top o.type ty (place_slots (seen b) p) o.is (place_room p b top o.type g rooms o.fits o.place))
  form_room (src.call f arguments) ty b top g rooms h = called (slice_get b.w.names.signatures f.0) refl (both_hold_second (all_typed b.w.names arguments) (call_fits (slice_get b.w.names.signatures f.0) arguments ty) h)
    where
      called : (o : Option Signature) → slice_get b.w.names.signatures f.0 ≡ o → call_fits o arguments ty ≡ true → AllRoom top (count b ty) ((b.results + f.0) ∷ [])
      called None is k = false_not_true k
      called (Some s) is k = result_room b top f.0 s arguments ty rooms is k

  links_room : (ls : LinkTrees) (b : Bench) (top : ℕ) (o : Option VarTy) (xs : List ℕ) (ty : Option VarTy) → Fits b → Rooms top b → links_fit b.w.names o ls ty ≡ true → AllRoom top (count b o) xs → AllRoom top (count b ty) (links_slots (seen b) xs ls)
  links_room no_links b top o xs ty g rooms h k = room_as top (count b o) (count b ty) xs (ap (count b) (equal_options o ty h)) k
  links_room (link_and (link s t op a) rest) b top o xs ty g rooms h k =
      let own = both_hold_second (is_typed b.w.names a) (same_types (r.stepped o op (ty_of a)) (Some t) && links_fit b.w.names (Some t) rest ty) h in
      let is = equal_options (r.stepped o op (ty_of a)) (Some t) (and_left (same_types (r.stepped o op (ty_of a)) (Some t)) (links_fit b.w.names (Some t) rest ty) own) in
      links_room rest b top (Some t) (linked_slots xs op (carried (seen b) a)) ty g rooms (both_hold_second (same_types (r.stepped o op (ty_of a)) (Some t)) (links_fit b.w.names (Some t) rest ty) own)
      (linked_room op b top o (ty_of a) t xs (carried (seen b) a) is k (carried_room a b top g rooms (and_left (is_typed b.w.names a) (same_types (r.stepped o op (ty_of a)) (Some t) && links_fit b.w.names (Some t) rest ty) h)))

  pub place_room : (p : src.PlaceTree) (b : Bench) (top : ℕ) (z : VarTy) → Fits b → Rooms top b → place_fits b.w.names p ≡ true → place_type b.w.names p ≡ Some z → AllRoom top (leaf_count b.w.names.structs z) (place_slots (seen b) p)
  place_room (src.place root steps) b top z g rooms h is =
      from_root b root steps top z g (λ w e. root_room root b top w g rooms (and_left (root_fits b.w.names root) (steps_fit b.w.names steps) h) e) (root_type b.w.names root) refl is

  root_room : (root : RootTree) (b : Bench) (top : ℕ) (z : VarTy) → Fits b → Rooms top b → root_fits b.w.names root ≡ true → root_type b.w.names root ≡ Some z → AllRoom top (leaf_count b.w.names.structs z) (root_slots (seen b) root)
  root_room (src.local v) b top z g rooms h is =
      let o = g.locals v.0 z is in
      subst (λ x. AllRoom top (leaf_count b.w.names.structs z) (start_of x)) (sym o.object) (rooms.locals v.0 o.start z o.object, tt)
  root_room (src.global v) b top z g rooms h is =
      let o = g.globals v.0 z is in
      subst (λ x. AllRoom top (leaf_count b.w.names.structs z) (start_of x)) (sym o.object) (rooms.globals v.0 o.start z o.object, tt)
  root_room (src.deref a s) b top z g rooms h is =
      let o = pointee_of_pointer (ty_of a) z is in
      room_as top (count b (ty_of a)) (leaf_count b.w.names.structs z) (carried (seen b) a)
      (ap (count b) o.from ∙ pointer_leaves b.w.names.structs o.elem o.fixed ∙ ap (leaf_count b.w.names.structs) o.is) (carried_room a b top g rooms h)
  root_room (src.assigned a) b top z g rooms h is =
      room_as top (count b (ty_of a)) (leaf_count b.w.names.structs z) (carried (seen b) a) (ap (count b) (assigned_struct a z is).0) (carried_room a b top g rooms h)

-- ---- what is evaluated for an expression is typed

-- an argument has its parameter's type
pub record Passes (n : Names) (g : FnId) (k : ℕ) (o : Option VarTy) : Type 0 where
  pub signature : Signature
  pub param : Param
  pub is : slice_get n.signatures g.0 ≡ Some signature
  pub at : slice_get signature.params k ≡ Some param
  pub same : o ≡ Some (param_type param.kind)

-- what the value of a part of an expression is used for
abbrev pub IsInner : How → Type 0
IsInner Kept = Unit {0}
IsInner Operated = Unit {0}
IsInner (Passed g k) = Unit {0}
IsInner (Begins v k) = false ≡ true
IsInner Returned = false ≡ true

pub record IsRight (n : Names) (u : UsageTree) : Type 0 where
  pub typed : is_typed n u.value ≡ true
  pub inner : IsInner u.how
  pub passes : (g : FnId) (k : ℕ) → u.how ≡ Passed g k → Passes n g k (ty_of u.value)

right_both : (n : Names) (us vs : List UsageTree) → AllByRecursion (IsRight n) us → AllByRecursion (IsRight n) vs → AllByRecursion (IsRight n) (us ++ vs)
right_both n [] vs h k = k
right_both n (u ∷ us) vs h k = (h.0, right_both n us vs h.1 k)

-- what is no argument
abbrev pub NoArgument : How → Type 0
NoArgument how = (g : FnId) (k : ℕ) → how ≡ Passed g k → false ≡ true

pub kept_free : NoArgument Kept
kept_free g k h = cc

pub operated_free : NoArgument Operated
operated_free g k h = cc

converted_free : (o t : Option VarTy) → NoArgument (conversion o t)
converted_free o t = go (keeps_value o t)
  where
    go : (c : Bool) → NoArgument (if c then Kept else Operated)
    go true = kept_free
    go false = operated_free

-- a call's arguments, by the signature of what is called
call_right : (f : FnId) (arguments : ExprTrees) (ty : Option VarTy) (n : Names) (o : Option Signature) → slice_get n.signatures f.0 ≡ o → call_fits o arguments ty ≡ true →
    ((s : Signature) → slice_get n.signatures f.0 ≡ Some s → arguments_fit s.params arguments ≡ true → AllByRecursion (IsRight n) (argument_usages f 0 arguments)) → AllByRecursion (IsRight n) (argument_usages f 0 arguments)
call_right f arguments ty n None is h make = false_not_true h
call_right f arguments ty n (Some s) is h make =
    make s is (and_left (arguments_fit s.params arguments) (same_types ty (option_map Int s.result)) (both_hold_second (not (is_main s)) (arguments_fit s.params arguments && same_types ty (option_map Int s.result)) h))

same_argument : (f g : FnId) (k m : ℕ) → Passed f k ≡ Passed g m → (f ≡ g) × (k ≡ m)
same_argument f g k m h = (cc, cc)

passes_as : (n : Names) (f g : FnId) (k m : ℕ) (o : Option VarTy) → Passes n f k o → Passed f k ≡ Passed g m → Passes n g m o
passes_as n f g k m o h e = let same = same_argument f g k m e in subst (λ z. Passes n g z o) same.1 (subst (λ z. Passes n z k o) same.0 h)

converted_inner : (o t : Option VarTy) → IsInner (conversion o t)
converted_inner o t = go (keeps_value o t)
  where
    go : (c : Bool) → IsInner (if c then Kept else Operated)
    go true = tt
    go false = tt

mutual
  right_as : (a : src.ExprTree) (n : Names) (how : How) → IsInner how → is_typed n a ≡ true → ((g : FnId) (k : ℕ) → how ≡ Passed g k → Passes n g k (ty_of a)) → AllByRecursion (IsRight n) (evaluated how a)
  right_as (typed s ty form) n how inner h passes = right_both n (form_usages ty form) (used how (typed s ty form) ∷ []) (form_right form ty n h) (record { typed = h; inner = inner; passes = passes }, tt)

  pub form_right : (form : FormTree) (ty : Option VarTy) (n : Names) → form_fits n form ty ≡ true → AllByRecursion (IsRight n) (form_usages ty form)
  form_right (src.constant v) ty n h = tt
  form_right src.null ty n h = tt
  form_right (src.read p) ty n h = place_right p n (and_left (place_fits n p) (same_types (place_type n p) ty && is_value ty) h)
  form_right (src.decay p) ty n h = place_right p n (and_left (place_fits n p) (both_elem (item_of (place_type n p)) (pointee_of ty) && keeps_const (place_const n p) ty) h)
  form_right (src.address p) ty n h = place_right p n (and_left (place_fits n p) (is_addressed p && (both_elem (element_of (place_type n p)) (pointee_of ty) && keeps_const (place_const n p) ty)) h)
  form_right (src.unary op a) ty n h = right_as a n Operated tt (and_left (is_typed n a) (r.unary_fits op (ty_of a) ty) h) (λ g k e. false_not_true (operated_free g k e))
  form_right (src.convert a) ty n h = right_as a n (conversion (ty_of a) ty) (converted_inner (ty_of a) ty) (and_left (is_typed n a) (converts (ty_of a) ty) h) (λ g k e. false_not_true (converted_free (ty_of a) ty g k e))
  form_right (src.discard a) ty n h = right_as a n Kept tt (and_left (is_typed n a) (is_none ty) h) (λ g k e. false_not_true (kept_free g k e))
  form_right (src.chain a ls) ty n h =
      let rest = both_hold_second (is_typed n a) (has_links ls && links_fit n (ty_of a) ls ty) h in
      right_both n (evaluated Operated a) (link_usages ls) (right_as a n Operated tt (and_left (is_typed n a) (has_links ls && links_fit n (ty_of a) ls ty) h) (λ g k e. false_not_true (operated_free g k e)))
      (links_right ls n (ty_of a) ty (both_hold_second (has_links ls) (links_fit n (ty_of a) ls ty) rest))
  form_right (src.logical op a os) ty n h =
      let first = and_left (is_typed n a && is_scalar (ty_of a)) ((has_operands os && operands_fit n os) && same_types ty r.int) h in
      let rest = both_hold_second (is_typed n a && is_scalar (ty_of a)) ((has_operands os && operands_fit n os) && same_types ty r.int) h in
      right_both n (evaluated Operated a) (operand_usages os) (right_as a n Operated tt (and_left (is_typed n a) (is_scalar (ty_of a)) first) (λ g k e. false_not_true (operated_free g k e)))
      (operands_right os n (both_hold_second (has_operands os) (operands_fit n os) (and_left (has_operands os && operands_fit n os) (same_types ty r.int) rest)))
  form_right (src.choice a c d) ty n h =
      let first = and_left (is_typed n a && is_scalar (ty_of a)) ((is_typed n c && same_types (ty_of c) ty) && ((is_typed n d && same_types (ty_of d) ty) && is_arm ty)) h in
      let arms = both_hold_second (is_typed n a && is_scalar (ty_of a)) ((is_typed n c && same_types (ty_of c) ty) && ((is_typed n d && same_types (ty_of d) ty) && is_arm ty)) h in
      let one = and_left (is_typed n c && same_types (ty_of c) ty) ((is_typed n d && same_types (ty_of d) ty) && is_arm ty) arms in
      let two = and_left (is_typed n d && same_types (ty_of d) ty) (is_arm ty) (both_hold_second (is_typed n c && same_types (ty_of c) ty) ((is_typed n d && same_types (ty_of d) ty) && is_arm ty) arms) in
      right_both n (evaluated Operated a) (evaluated Kept c ++ evaluated Kept d) (right_as a n Operated tt (and_left (is_typed n a) (is_scalar (ty_of a)) first) (λ g k e. false_not_true (operated_free g k e)))
      (right_both n (evaluated Kept c) (evaluated Kept d) (right_as c n Kept tt (and_left (is_typed n c) (same_types (ty_of c) ty) one) (λ g k e. false_not_true (kept_free g k e))) (right_as d n Kept tt (and_left (is_typed n d) (same_types (ty_of d) ty) two) (λ g k e. false_not_true (kept_free g k e))))
  form_right (src.assign p a) ty n h =
      let o = assign_rules n p a ty h in
      right_both n (place_usages p) (evaluated Kept a) (place_right p n o.fits) (right_as a n Kept tt o.right (λ g k e. false_not_true (kept_free g k e)))
  form_right (src.compound p at op a) ty n h =
      let o = compound_rules n p at op a ty h in
      right_both n (place_usages p) (evaluated Operated a) (place_right p n o.fits) (right_as a n Operated tt o.right (λ g k e. false_not_true (operated_free g k e)))
  form_right (src.step p at back postfix) ty n h = place_right p n (count_rules n p at back postfix ty h).fits
  form_right (src.call f arguments) ty n h =
      call_right f arguments ty n (slice_get n.signatures f.0) refl (both_hold_second (all_typed n arguments) (call_fits (slice_get n.signatures f.0) arguments ty) h)
      (λ s is fit. arguments_right arguments n f s 0 s.params is fit (λ i q at. subst (λ m. slice_get s.params m ≡ Some q) (as_zero_plus i) at) (and_left (all_typed n arguments) (call_fits (slice_get n.signatures f.0) arguments ty) h))

  arguments_right : (arguments : ExprTrees) (n : Names) (f : FnId) (s : Signature) (k : ℕ) (ps : List Param) → slice_get n.signatures f.0 ≡ Some s → arguments_fit ps arguments ≡ true → ((i : ℕ) (q : Param) → slice_get ps i ≡ Some q → slice_get s.params (k + i) ≡ Some q) →
      all_typed n arguments ≡ true → AllByRecursion (IsRight n) (argument_usages f k arguments)
  arguments_right no_exprs n f s k ps is fit at h = tt
  arguments_right (expr_and a rest) n f s k [] is fit at h = false_not_true fit
  arguments_right (expr_and a rest) n f s k (q ∷ qs) is fit at h =
      let own : ty_of a ≡ Some (param_type q.kind) = equal_options (ty_of a) (Some (param_type q.kind)) (and_left (same_types (ty_of a) (Some (param_type q.kind))) (arguments_fit qs rest) fit) in
      let here : slice_get s.params k ≡ Some q = subst (λ m. slice_get s.params m ≡ Some q) (first k) (at 0 q refl) in
      right_both n (evaluated (Passed f k) a) (argument_usages f (suc k) rest)
      (right_as a n (Passed f k) tt (and_left (is_typed n a) (all_typed n rest) h) (λ g m e. passes_as n f g k m (ty_of a) (record { signature = s; param = q; is = is; at = here; same = own }) e))
      (arguments_right rest n f s (suc k) qs is (both_hold_second (same_types (ty_of a) (Some (param_type q.kind))) (arguments_fit qs rest) fit)
      (λ i p e. subst (λ m. slice_get s.params m ≡ Some p) (next k i) (at (suc i) p e)) (both_hold_second (is_typed n a) (all_typed n rest) h))
    where
      first : (k : ℕ) → k + 0 ≡ k
      first k = omega arith

      next : (k i : ℕ) → k + suc i ≡ suc k + i
      next k i = omega arith

  links_right : (ls : LinkTrees) (n : Names) (o t : Option VarTy) → links_fit n o ls t ≡ true → AllByRecursion (IsRight n) (link_usages ls)
  links_right no_links n o t h = tt
  links_right (link_and (link s ty op a) rest) n o t h =
      let own = both_hold_second (is_typed n a) (same_types (r.stepped o op (ty_of a)) (Some ty) && links_fit n (Some ty) rest t) h in
      right_both n (evaluated Operated a) (link_usages rest) (right_as a n Operated tt (and_left (is_typed n a) (same_types (r.stepped o op (ty_of a)) (Some ty) && links_fit n (Some ty) rest t) h) (λ g k e. false_not_true (operated_free g k e)))
      (links_right rest n (Some ty) t (both_hold_second (same_types (r.stepped o op (ty_of a)) (Some ty)) (links_fit n (Some ty) rest t) own))

  operands_right : (os : OperandTrees) (n : Names) → operands_fit n os ≡ true → AllByRecursion (IsRight n) (operand_usages os)
  operands_right no_operands n h = tt
  operands_right (operand_and (operand s a) rest) n h =
      let first = and_left (is_typed n a && is_scalar (ty_of a)) (operands_fit n rest) h in
      right_both n (evaluated Operated a) (operand_usages rest) (right_as a n Operated tt (and_left (is_typed n a) (is_scalar (ty_of a)) first) (λ g k e. false_not_true (operated_free g k e)))
      (operands_right rest n (both_hold_second (is_typed n a && is_scalar (ty_of a)) (operands_fit n rest) h))

  place_right : (p : src.PlaceTree) (n : Names) → place_fits n p ≡ true → AllByRecursion (IsRight n) (place_usages p)
  place_right (src.place root steps) n h = right_both n (root_usages root) (step_usages steps) (root_right root n (and_left (root_fits n root) (steps_fit n steps) h)) (steps_right steps n (both_hold_second (root_fits n root) (steps_fit n steps) h))

  root_right : (root : RootTree) (n : Names) → root_fits n root ≡ true → AllByRecursion (IsRight n) (root_usages root)
  root_right (src.local v) n h = tt
  root_right (src.global g) n h = tt
  root_right (src.deref a s) n h = right_as a n Kept tt h (λ g k e. false_not_true (kept_free g k e))
  root_right (src.assigned a) n h = right_as a n Kept tt h (λ g k e. false_not_true (kept_free g k e))

  steps_right : (steps : StepTrees) (n : Names) → steps_fit n steps ≡ true → AllByRecursion (IsRight n) (step_usages steps)
  steps_right no_steps n h = tt
  steps_right (step_and (src.field k) rest) n h = steps_right rest n h
  steps_right (step_and (src.item a s) rest) n h =
      right_both n (evaluated Operated a) (step_usages rest) (right_as a n Operated tt (and_left (is_typed n a) (steps_fit n rest) h) (λ g k e. false_not_true (operated_free g k e))) (steps_right rest n (both_hold_second (is_typed n a) (steps_fit n rest) h))
