-- Places, step by step, against the slots that they have.
use Rattle.std.proofs.Common.{◌≡◌, ◌∙◌, ℕ, ◌+◌, refl, ap, sym, subst, arith, Bool, true, false, Option, None, Some, List, [], ◌∷◌, ◌++◌, length, map}
use Rattle.std.specs.Option.{option_map}
use Rattle.lowered_code_law.proofs.FormsParts.{array_decays, array_value, held_stand}
use Rattle.lowered_code_law.proofs.FormsPlaces.{field_in_fits, field_is}
use Rattle.lowered_code_law.proofs.FormsRules.{assigned_struct, element_of_array, pointee_of_pointer, type_is}
use Rattle.lowered_code_law.proofs.FormsSameTypes.{stands_pointer}
use Rattle.lowered_code_law.proofs.FormsSettings.{PlaceFits, Stand, context, source}
use Rattle.lowered_code_law.proofs.FormsStanding.{held_if_fits, stand_first, stand_rest}
use Rattle.lowered_code_law.proofs.FormsSteps.{integer_is, one_type}
use Rattle.lowering.specs.Expressions.{decayed_type, element_place, field_in, is_struct, moved_to}
use Rattle.lowering.specs.Lowered.{Lowered, LoweredPlace, held_if, holding, past}
use Rattle.handle_classes_law.proofs.ObjectsItems.{field_plain}
use Rattle.handle_classes_law.specs.ObjectsCells.{is_pointer}
use Rattle.pt_base.specs.declared.int_type.IntType.{IntType}
use Rattle.pt_base.specs.declared.span.Span.{Span}
use Rattle.pt_base.proofs.Booleans.{false_not_true}
use Rattle.pt_core.specs.CodeTree.{move}
use Rattle.pt_core.specs.Types as core
use Rattle.sides.specs.Carried.{carried, place_slots, root_slots, start_of}
use Rattle.sides.specs.Carried as slots
use Rattle.sides.specs.declared.objects.Object.{Object}
use Rattle.source_meaning.specs.Expressions.{type_of, type_or_int}
use Rattle.typed_tree.specs.ExpressionTree.{RootTree, StepTree, StepTrees, no_steps, step_and, step_trees}
use Rattle.typed_tree.specs.ExpressionTree as src
use Rattle.typed_tree.specs.TypeTests.{integer_of}
use Rattle.typed_tree.specs.WellFormed.{is_plain_type, structs_sound}
use Rattle.typed_tree.specs.WellFormedExpression.{field_type, item_type, place_type, root_type, steps_type, ty_of}
use Rattle.typed_tree.specs.declared.types.StructInfo.{StructInfo}
use Rattle.typed_tree.specs.declared.types.VarTy.{VarTy}
use Rattle.typed_tree.specs.declared.types.VarTy.TheVariants.{Array, Int, Pointer, Struct}
use Rattle.handle_classes_law.proofs.SlavesBench.{Bench, Fits, Held, LoweredIs, PlainIf, ValueIs, fine_both, held_first, held_if_is, held_rest, holding_keeps, judged, plain_value, seen}
use Rattle.handle_classes_law.proofs.SlavesClasses.{PlaceClass, behind, field_class, plain_object}
use Rattle.handle_classes_law.proofs.SlavesForms.{decay_is, deref_is, elem_object}
use Rattle.handle_classes_law.proofs.SlavesRoots.{PlaceIs, field_leads}

pub no_shift : (xs : List ℕ) → map (λ s. s + 0) xs ≡ xs
no_shift [] = refl
no_shift (x ∷ xs) = (λ i. (same x i) ∷ (no_shift xs i))
  where
    same : (x : ℕ) → x + 0 ≡ x
    same x = omega arith

-- ---- steps of places

pub no_step : (structs : List StructInfo) (steps : StepTrees) (ty : VarTy) → steps_type structs None steps ≡ Some ty → false ≡ true
no_step structs no_steps ty h = cc
no_step structs (step_and (src.field k) rest) ty h = no_step structs rest ty h
no_step structs (step_and (src.item a p) rest) ty h = go (λ k. no_step structs rest ty k) (integer_of (ty_of a)) h
  where
    go : (steps_type structs None rest ≡ Some ty → false ≡ true) → (o : Option IntType) → steps_type structs (item_type None o) rest ≡ Some ty → false ≡ true
    go later None k = later k
    go later (Some t) k = later k

-- what a place begins with has a type
pub begins : (structs : List StructInfo) (o : Option VarTy) (steps : StepTrees) (ty : VarTy) → steps_type structs o steps ≡ Some ty → (z : VarTy) × (o ≡ Some z)
begins structs None steps ty h = false_not_true (no_step structs steps ty h)
begins structs (Some z) steps ty h = (z, refl)

-- the type behind these steps
abbrev pub after : List StructInfo → Option VarTy → List StepTree → Option VarTy
after structs o [] = o
after structs o (s ∷ rest) = after structs (slots.step_type structs o s) rest

pub after_more : (structs : List StructInfo) (o : Option VarTy) (before : List StepTree) (s : StepTree) → after structs o (before ++ s ∷ []) ≡ slots.step_type structs (after structs o before) s
after_more structs o [] s = refl
after_more structs o (x ∷ xs) s = after_more structs (slots.step_type structs o x) xs s

pub offset_more : (structs : List StructInfo) (o : Option VarTy) (before : List StepTree) (s : StepTree) → slots.steps_offset structs o (step_trees (before ++ s ∷ [])) ≡ slots.steps_offset structs o (step_trees before) + slots.step_offset structs (after structs o before) s
offset_more structs o [] s = (let e : slots.step_offset structs o s + 0 ≡ 0 + slots.step_offset structs o s = omega arith in e)
offset_more structs o (x ∷ xs) s =
    ap (λ z. slots.step_offset structs o x + z) (offset_more structs (slots.step_type structs o x) xs s)
    ∙ regroup (slots.step_offset structs o x) (slots.steps_offset structs (slots.step_type structs o x) (step_trees xs)) (slots.step_offset structs (after structs (slots.step_type structs o x) xs) s)
  where
    regroup : (a c d : ℕ) → a + (c + d) ≡ a + c + d
    regroup a c d = omega arith

pub behind_both : (a c : ℕ) (xs : List ℕ) → behind (a + c) xs ≡ behind c (behind a xs)
behind_both a c [] = refl
behind_both a c (x ∷ xs) = (λ i. (same x a c i) ∷ (behind_both a c xs i))
  where
    same : (x a c : ℕ) → x + (a + c) ≡ x + a + c
    same x a c = omega arith

-- the slots of the place so far, with one step more
pub slots_more : (b : Bench) (root : RootTree) (before : List StepTree) (s : StepTree) (xs : List ℕ) (z : VarTy) → place_slots (seen b) (src.place root (step_trees before)) ≡ xs → after b.w.names.structs (slots.root_type (seen b) root) before ≡ Some z →
    place_slots (seen b) (src.place root (step_trees (before ++ s ∷ []))) ≡ behind (slots.step_offset b.w.names.structs (Some z) s) xs
slots_more b root before s xs z from type =
    ap (λ n. behind n (root_slots (seen b) root)) (offset_more b.w.names.structs (slots.root_type (seen b) root) before s ∙ ap (λ o. slots.steps_offset b.w.names.structs (slots.root_type (seen b) root) (step_trees before) + slots.step_offset b.w.names.structs o s) type)
    ∙ behind_both (slots.steps_offset b.w.names.structs (slots.root_type (seen b) root) (step_trees before)) (slots.step_offset b.w.names.structs (Some z) s) (root_slots (seen b) root)
    ∙ ap (λ ys. behind (slots.step_offset b.w.names.structs (Some z) s) ys) from

-- a field is no pointer
pub field_object : (structs : List StructInfo) (z u : VarTy) (k : ℕ) → structs_sound structs 0 structs ≡ true → field_type structs (Some z) k ≡ Some u → is_pointer u ≡ false
field_object structs (Struct m) u k sound is =
    let f = field_is structs (Struct m) u k sound is in
    plain_object (length structs) u (subst (λ z. is_plain_type (length structs) z ≡ true) f.type (field_plain structs m k sound f.field))
field_object structs (Int t) u k sound is = cc
field_object structs (Array elem c) u k sound is = cc
field_object structs (Pointer elem c) u k sound is = cc

-- a field
pub field_place : (b : Bench) (z u : VarTy) (k : ℕ) (xs : List ℕ) (far : LoweredPlace) → Fits b → field_type b.w.names.structs (Some z) k ≡ Some u → PlaceFits b.w false z far → PlaceIs b z xs far →
    PlaceIs b u (behind (slots.step_offset b.w.names.structs (Some z) (src.field k)) xs) (field_in (source b.w.names) k far)
field_place b (Struct m) u k xs far g is low h =
    let f = field_is b.w.names.structs (Struct m) u k g.agrees.structs is in
    record {
      stmts = h.stmts;
      through = field_leads b (Struct m) u far.place k far.through (field_object b.w.names.structs (Struct m) u k g.agrees.structs is) h.through;
      class = field_class b.marks (judged b) m k u xs far.place g.agrees.structs f.field f.type (subst (λ z. is_plain_type (length b.w.names.structs) z ≡ true) f.type (field_plain b.w.names.structs m k g.agrees.structs f.field)) low.type (field_in_fits b.w false (Struct m) u k far f low).type h.class;
    }
field_place b (Int t) u k xs far g is low h = cc
field_place b (Array elem c) u k xs far g is low h = cc
field_place b (Pointer elem c) u k xs far g is low h = cc

-- an element
pub item_place : (b : Bench) (n : ℕ) (waits : Bool) (s : Span) (first index : src.ExprTree) (z u : VarTy) (xs : List ℕ) (far : LoweredPlace) (v : Lowered) → Fits b → item_type (Some z) (integer_of (ty_of index)) ≡ Some u →
    type_of first ≡ decayed_type far.fixed far.ty → carried (seen b) first ≡ xs →
    (Stand b.w.variables n far.temps → PlaceFits b.w false z far) → (Stand b.w.variables n far.temps → Held b n far.temps → PlaceIs b z xs far) →
    PlainIf b (type_of index) (carried (seen b) index) →
    (is_struct (ty_of index) ≡ false → Stand b.w.variables (past n (held_if waits n (holding (decayed_type far.fixed far.ty) first) (array_value far)).temps) v.temps → Held b (past n (held_if waits n (holding (decayed_type far.fixed far.ty) first) (array_value far)).temps) v.temps → LoweredIs b (type_of index) (carried (seen b) index) v) →
    Stand b.w.variables n (element_place s first index (decayed_type far.fixed far.ty) (held_if waits n (holding (decayed_type far.fixed far.ty) first) (array_value far)) v).temps →
    Held b n (element_place s first index (decayed_type far.fixed far.ty) (held_if waits n (holding (decayed_type far.fixed far.ty) first) (array_value far)) v).temps →
    PlaceIs b u xs (element_place s first index (decayed_type far.fixed far.ty) (held_if waits n (holding (decayed_type far.fixed far.ty) first) (array_value far)) v)
item_place b n waits s first index z u xs far v g is of from low i plain j stand held =
    let y = holding (decayed_type far.fixed far.ty) first in
    let base = held_if waits n y (array_value far) in
    let el = element_of_array (Some z) (integer_of (ty_of index)) u is in
    let same : z ≡ Array el.elem el.count = ap type_or_int el.array in
    let low2 : Stand b.w.variables n far.temps → PlaceFits b.w false (Array el.elem el.count) far = λ st. subst (λ q. PlaceFits b.w false q far) same (low st) in
    let st = stand_first b.w.variables n base.temps v.temps stand in
    let st0 = held_stand waits b.w.variables n y (array_value far) st in
    let own : decayed_type far.fixed far.ty ≡ Pointer el.elem far.fixed = ap (λ q. decayed_type far.fixed q) (low2 st0).own in
    let number = integer_is (ty_of index) el.by el.number in
    let by : type_of index ≡ Int el.by = type_is index (Int el.by) number in
    let one : LoweredIs b (Pointer el.elem far.fixed) xs base = held_if_is waits b (Pointer el.elem far.fixed) xs n y (array_value far) refl (holding_keeps b (Pointer el.elem far.fixed) (decayed_type far.fixed far.ty) xs first (of ∙ own) from)
    (λ hl. let p = i st0 hl in record { stmts = p.stmts; value = decay_is b el.elem el.count far.fixed xs far.place g.agrees.structs (low2 st0).known (low2 st0).type (subst (λ q. PlaceClass b.marks (judged b) q xs far.place) same p.class) }) (held_first b n base.temps v.temps held) in
    let fits = held_if_fits waits b.w false (Pointer el.elem far.fixed) n y (array_value far) own refl (λ st1. array_decays b.w false el.elem el.count far.fixed far (low2 st1)) st in
    let points = stands_pointer (core.type_of (context b.w) base.value) el.elem far.fixed fits.value.type in
    let two = j (subst (λ q. is_struct q ≡ false) (sym number) refl) (stand_rest b.w.variables n base.temps v.temps stand) (held_rest b n base.temps v.temps held) in
    let two_is : ValueIs b (Int el.by) (carried (seen b) index) v.value = subst (λ q. ValueIs b q (carried (seen b) index) v.value) by two.value in
    let plain_is : PlainIf b (Int el.by) (carried (seen b) index) = subst (λ q. PlainIf b q (carried (seen b) index)) by plain in
    let moved : ValueIs b (Pointer el.elem far.fixed) xs (move base.value v.value false s) = record { fine = (one.value.fine, two_is.fine, one.value.is.kind, plain_value b (Int el.by) (carried (seen b) index) v.value refl plain_is two_is); is = one.value.is } in
    let ty = decayed_type far.fixed far.ty in
    subst (λ q. PlaceIs b q xs (element_place s first index ty base v)) el.is
    (record {
      stmts = fine_both b base.stmts v.stmts one.stmts two.stmts;
      class = deref_is b el.elem far.fixed points.own xs (move base.value v.value false s) s points.is moved;
      through = (
        record {
          elem = el.elem;
          fixed = far.fixed;
          own = points.own;
          slots = xs;
          kept = own;
          keeps = holding_keeps b (Pointer el.elem far.fixed) ty xs (moved_to s first index ty) own from;
          value = moved;
          type = points.is;
        },
        elem_object el.elem,
      );
    })

pub item_offset : (structs : List StructInfo) (z : VarTy) (a : src.ExprTree) (s : Span) → slots.step_offset structs (Some z) (src.item a s) ≡ 0
item_offset structs (Int t) a s = refl
item_offset structs (Struct m) a s = refl
item_offset structs (Array elem c) a s = refl
item_offset structs (Pointer elem c) a s = refl

-- what carries slots knows a root's type
pub root_seen : (root : RootTree) (b : Bench) (z : VarTy) → Fits b → root_type b.w.names root ≡ Some z → slots.root_type (seen b) root ≡ Some z
root_seen (src.local v) b z g is = ap (λ o. option_map (λ (x : Object). x.ty) o) (g.locals v.0 z is).object
root_seen (src.global v) b z g is = ap (λ o. option_map (λ (x : Object). x.ty) o) (g.globals v.0 z is).object
root_seen (src.deref a s) b z g is = is
root_seen (src.assigned a) b z g is = is

-- ---- a place of a pointer is one variable

struct_object : (z : VarTy) → is_struct (Some z) ≡ true → is_pointer z ≡ false
struct_object (Struct n) h = refl
struct_object (Int t) h = refl
struct_object (Array elem n) h = refl
struct_object (Pointer elem g) h = false_not_true h

-- a part of an object is none
part_object : (structs : List StructInfo) (steps : StepTrees) (z ty : VarTy) → structs_sound structs 0 structs ≡ true → is_pointer z ≡ false → steps_type structs (Some z) steps ≡ Some ty → is_pointer ty ≡ false
part_object structs no_steps z ty sound h is = subst (λ q. is_pointer q ≡ false) (one_type z ty is) h
part_object structs (step_and (src.field k) rest) z ty sound h is =
    let u = begins structs (field_type structs (Some z) k) rest ty is in
    part_object structs rest u.0 ty sound (field_object structs z u.0 k sound u.1) (subst (λ o. steps_type structs o rest ≡ Some ty) u.1 is)
part_object structs (step_and (src.item a s) rest) z ty sound h is =
    let u = begins structs (item_type (Some z) (integer_of (ty_of a))) rest ty is in
    let el = element_of_array (Some z) (integer_of (ty_of a)) u.0 u.1 in
    part_object structs rest u.0 ty sound (subst (λ q. is_pointer q ≡ false) el.is (elem_object el.elem)) (subst (λ o. steps_type structs o rest ≡ Some ty) u.1 is)

one_root : (root : RootTree) (b : Bench) (z : VarTy) → Fits b → root_type b.w.names root ≡ Some z → is_pointer z ≡ true → (s : ℕ) × (root_slots (seen b) root ≡ s ∷ [])
one_root (src.local v) b z g is q = let o = g.locals v.0 z is in (o.start, ap start_of o.object)
one_root (src.global v) b z g is q = let o = g.globals v.0 z is in (o.start, ap start_of o.object)
one_root (src.deref a s) b z g is q = let o = pointee_of_pointer (ty_of a) z is in false_not_true (sym (subst (λ y. is_pointer y ≡ false) o.is (elem_object o.elem)) ∙ q)
one_root (src.assigned a) b z g is q = false_not_true (sym (struct_object z (assigned_struct a z is).1) ∙ q)

pub one_place : (p : src.PlaceTree) (b : Bench) (ty : VarTy) → Fits b → place_type b.w.names p ≡ Some ty → is_pointer ty ≡ true → (s : ℕ) × (place_slots (seen b) p ≡ s ∷ [])
one_place (src.place root steps) b ty g is q =
    let z = begins b.w.names.structs (root_type b.w.names root) steps ty is in
    go z.0 z.1 (is_pointer z.0) refl
  where
    go : (z : VarTy) → root_type b.w.names root ≡ Some z → (c : Bool) → is_pointer z ≡ c → (s : ℕ) × (place_slots (seen b) (src.place root steps) ≡ s ∷ [])
    go z from false kind = false_not_true (sym (part_object b.w.names.structs steps z ty g.agrees.structs kind (subst (λ o. steps_type b.w.names.structs o steps ≡ Some ty) from is)) ∙ q)
    go z from true kind = let o = one_root root b z g from kind in (o.0 + slots.steps_offset b.w.names.structs (slots.root_type (seen b) root) steps, ap (λ xs. behind (slots.steps_offset b.w.names.structs (slots.root_type (seen b) root) steps) xs) o.1)
