-- Assignments: what is stored may go where it is stored.
use Rattle.std.proofs.Common.{◌≡◌, ◌∙◌, ◌<◌, ℕ, pos, refl, sym, subst, arith, Bool, true, false, Option, None, Some, List, [], ◌∷◌, ◌++◌, if◌then◌else◌}
use Rattle.std.specs.Prelude.{is_some, not, ◌&&◌, ◌||◌}
use Rattle.handle_classes.specs.Classes.{Class, class_of, number_class, place_class}
use Rattle.handle_classes.specs.Judgment.{Copies, Goes, IsFine, IsPlain}
use Rattle.lowered_code_law.proofs.FormsPlaces.{fixed_if_fits}
use Rattle.lowered_code_law.proofs.FormsRules.{AssignRules, CompoundRules, type_is, value_scalar}
use Rattle.lowered_code_law.proofs.FormsSettings.{PlaceFits, Stand, context}
use Rattle.lowered_code_law.proofs.FormsStanding.{stand_first, stand_rest}
use Rattle.lowered_code_law.proofs.FormsSteps.{arithmetic_step, shift_step}
use Rattle.lowering.specs.Expressions.{assigned, compounded, copied, counted, counted_after, given, is_struct, left_place}
use Rattle.lowering.specs.Lowered.{Lowered, LoweredPlace, Temp, hold, past}
use Rattle.lowering.specs.Operators.{as_int, shift_of, stepped, stored, unit_of, unit_step}
use Rattle.lowering.specs.Purity.{is_pure}
use Rattle.handle_classes_law.specs.ObjectsCells.{is_pointer}
use Rattle.pt_base.specs.IntTypes.{promoted, usual}
use Rattle.pt_base.specs.declared.int_type.IntType.{IntType}
use Rattle.pt_base.specs.declared.int_type.IntType.TheVariants as i
use Rattle.pt_base.specs.declared.span.Span.{Span}
use Rattle.pt_base.proofs.Booleans.{false_not_true}
use Rattle.pt_core.specs.CodeTree.{ExprTree, StmtTree, assign, binary, constant, convert, copy, read}
use Rattle.pt_core.specs.Types as core
use Rattle.pt_core.specs.Values.{is_type}
use Rattle.pt_int.specs.declared.operator.BinOp.{BinOp}
use Rattle.pt_int.specs.declared.operator.BinOp.TheVariants.{Add, Sub}
use Rattle.sides.specs.Carried.{carried, place_slots}
use Rattle.usages.specs.Usages.{used}
use Rattle.source_meaning.specs.Expressions.{type_of, type_or_int}
use Rattle.typed_tree.specs.ExpressionTree as src
use Rattle.typed_tree.specs.Sizes.{cells_by, sizes_of}
use Rattle.typed_tree.specs.TypeRules.{converts, promoted_value}
use Rattle.typed_tree.specs.TypeRules as r
use Rattle.typed_tree.specs.TypeTests.{is_scalar, pointee_of, same_int}
use Rattle.typed_tree.specs.WellFormedExpression.{ty_of}
use Rattle.typed_tree.specs.declared.link.LinkStep.{LinkStep}
use Rattle.typed_tree.specs.declared.link.LinkStep.TheVariants.{Arithmetic, Compare, Difference, Move, MoveBy, Shift}
use Rattle.typed_tree.specs.declared.types.VarTy.{VarTy}
use Rattle.typed_tree.specs.declared.types.VarTy.TheVariants.{Array, Int, Pointer, Struct}
use Rattle.handle_classes_law.proofs.SlavesBench.{AreFine, Bench, Fits, Held, Keeps, LoweredIs, PlainIf, ValueIs, as_int_fine, at_slots, constant_is, fine_both, held_first, held_rest, hold_is, is_int, judged, number_by, plain_value, read_is, scalar_room, seen, temp_is}
use Rattle.handle_classes_law.proofs.SlavesClasses.{IsAt, IsBy, PlaceClass}
use Rattle.handle_classes_law.proofs.SlavesEdges.{Moves}
use Rattle.handle_classes_law.proofs.SlavesMoves.{struct_copies, value_goes}
use Rattle.handle_classes_law.proofs.SlavesPlaces.{one_place}
use Rattle.handle_classes_law.proofs.SlavesQuiet.{type_at}
use Rattle.handle_classes_law.proofs.SlavesRoots.{LeadsIf, PlaceIs, fixed_if_is}

-- ---- values and objects

pub given_is : (b : Bench) (n : ℕ) (a : src.ExprTree) (z : VarTy) (ys : List ℕ) (to : LoweredPlace) (v : Lowered) → Fits b → is_scalar (Some z) ≡ true → ty_of a ≡ Some z → (is_pointer z ≡ true → (s : ℕ) × (ys ≡ s ∷ [])) → Moves b a ys →
    (Stand b.w.variables n to.temps → PlaceFits b.w false z to) → (Stand b.w.variables n to.temps → Held b n to.temps → PlaceIs b z ys to) →
    (Stand b.w.variables (past n to.temps) v.temps → Held b (past n to.temps) v.temps → LoweredIs b (type_of a) (carried (seen b) a) v) →
    Stand b.w.variables n (given to v).temps → Held b n (given to v).temps → PlaceIs b z ys (given to v)
given_is b n a z ys to v g scalar is one moves low h k stand held =
    let st = stand_first b.w.variables n to.temps v.temps stand in
    let p = h st (held_first b n to.temps v.temps held) in
    let y = k (stand_rest b.w.variables n to.temps v.temps stand) (held_rest b n to.temps v.temps held) in
    let by = subst (λ q. IsBy (class_of (judged b) v.value) (at_slots b q (carried (seen b) a))) (type_is a z is) y.value.is in
    record {
      stmts = fine_both b (to.stmts ++ v.stmts) (assign to.place v.value ∷ []) (fine_both b to.stmts v.stmts p.stmts y.stmts)
          ((p.class.fine, y.value.fine, value_goes b a z ys (class_of (judged b) v.value) (place_class (judged b) to.place) g.agrees.structs (low st).known scalar is one moves by p.class.is), tt);
      class = p.class;
      through = p.through;
    }

pub copied_is : (b : Bench) (n : ℕ) (a : src.ExprTree) (m : ℕ) (ys : List ℕ) (to of : LoweredPlace) → Fits b → ty_of a ≡ Some (Struct m) → Moves b a ys →
    (Stand b.w.variables n to.temps → PlaceFits b.w false (Struct m) to) → (Stand b.w.variables n to.temps → Held b n to.temps → PlaceIs b (Struct m) ys to) →
    (Stand b.w.variables (past n to.temps) of.temps → Held b (past n to.temps) of.temps → PlaceIs b (Struct m) (carried (seen b) a) of) →
    Stand b.w.variables n (copied to of).temps → Held b n (copied to of).temps → PlaceIs b (Struct m) ys (copied to of)
copied_is b n a m ys to of g is moves low h k stand held =
    let st = stand_first b.w.variables n to.temps of.temps stand in
    let p = h st (held_first b n to.temps of.temps held) in
    let q = k (stand_rest b.w.variables n to.temps of.temps stand) (held_rest b n to.temps of.temps held) in
    let all = struct_copies b a m ys (place_class (judged b) to.place) (place_class (judged b) of.place) g.agrees.structs (low st).known is moves p.class.is q.class.is in
    record {
      stmts = fine_both b (to.stmts ++ of.stmts) (copy to.place of.place ∷ []) (fine_both b to.stmts of.stmts p.stmts q.stmts)
          ((p.class.fine, q.class.fine, subst (λ u. Copies (place_class (judged b) to.place) (place_class (judged b) of.place) (cells_by (sizes_of b.w.names.structs) u)) (sym (low st).type) all), tt);
      class = p.class;
      through = p.through;
    }

pub assigned_is : (whole : Bool) (b : Bench) (n : ℕ) (a : src.ExprTree) (z : VarTy) (ys : List ℕ) (to of : LoweredPlace) (v : Lowered) → Fits b → (whole ≡ true → is_struct (Some z) ≡ true) → (whole ≡ false → is_scalar (Some z) ≡ true) → ty_of a ≡ Some z → (is_pointer z ≡ true → (s : ℕ) × (ys ≡ s ∷ [])) → Moves b a ys →
    (Stand b.w.variables n to.temps → PlaceFits b.w false z to) → (Stand b.w.variables n to.temps → Held b n to.temps → PlaceIs b z ys to) →
    (whole ≡ true → Stand b.w.variables (past n to.temps) of.temps → Held b (past n to.temps) of.temps → PlaceIs b z (carried (seen b) a) of) →
    (whole ≡ false → Stand b.w.variables (past n to.temps) v.temps → Held b (past n to.temps) v.temps → LoweredIs b (type_of a) (carried (seen b) a) v) →
    Stand b.w.variables n (assigned whole to of v).temps → Held b n (assigned whole to of v).temps → PlaceIs b z ys (assigned whole to of v)
assigned_is true b n a (Struct m) ys to of v g many scalar is one moves low h i j stand held = copied_is b n a m ys to of g is moves low h (i refl) stand held
assigned_is true b n a (Int t) ys to of v g many scalar is one moves low h i j stand held = false_not_true (many refl)
assigned_is true b n a (Array elem t) ys to of v g many scalar is one moves low h i j stand held = false_not_true (many refl)
assigned_is true b n a (Pointer elem t) ys to of v g many scalar is one moves low h i j stand held = false_not_true (many refl)
assigned_is false b n a z ys to of v g many scalar is one moves low h i j stand held = given_is b n a z ys to v g (scalar refl) is one moves low h (j refl) stand held

-- an assignment, by its place and its right side
pub assignment_is : (b : Bench) (n : ℕ) (used : Bool) (p : src.PlaceTree) (a : src.ExprTree) (t : Option VarTy) (at of : LoweredPlace) (v : Lowered) (k : AssignRules b.w.names p a t) → Fits b → Moves b a (place_slots (seen b) p) →
    (Stand b.w.variables n at.temps → PlaceFits b.w false k.type at) → (Stand b.w.variables n at.temps → Held b n at.temps → PlaceIs b k.type (place_slots (seen b) p) at) →
    (is_struct (Some k.type) ≡ true → Stand b.w.variables (past n (left_place used a n at).temps) of.temps → Held b (past n (left_place used a n at).temps) of.temps → PlaceIs b k.type (carried (seen b) a) of) →
    (is_struct (ty_of a) ≡ false → Stand b.w.variables (past n (left_place used a n at).temps) v.temps → Held b (past n (left_place used a n at).temps) v.temps → LoweredIs b (type_of a) (carried (seen b) a) v) →
    Stand b.w.variables n (assigned (is_struct t) (left_place used a n at) of v).temps → Held b n (assigned (is_struct t) (left_place used a n at) of v).temps → PlaceIs b k.type (place_slots (seen b) p) (assigned (is_struct t) (left_place used a n at) of v)
assignment_is b n used p a t at of v k g moves low h i j stand held =
    assigned_is (is_struct t) b n a k.type (place_slots (seen b) p) (left_place used a n at) of v g
    (λ e. subst (λ z. is_struct z ≡ true) k.is e) (λ e. value_scalar k.type k.value (subst (λ z. is_struct z ≡ false) k.is e)) k.same (λ q. one_place p b k.type g k.place q) moves
    (λ st. fixed_if_fits (used || not (is_pure a)) b.w false k.type n at low st)
    (λ st hl. fixed_if_is (used || not (is_pure a)) b n k.type (place_slots (seen b) p) at h st hl)
    (λ e st hl. i (subst (λ z. is_struct z ≡ true) k.is e) st hl)
    (λ e st hl. j (subst (λ z. is_struct z ≡ false) (sym k.same) (subst (λ z. is_struct z ≡ false) k.is e)) st hl) stand held

-- ---- compound assignments

-- a value of the place's own class may be stored there, where it is no handle
pub back_goes : (b : Bench) (ty : VarTy) (slots : List ℕ) (v k : Class) → is_scalar (Some ty) ≡ true → PlainIf b ty slots → IsBy v (at_slots b ty slots) → IsAt k (at_slots b ty slots) → Goes v k
back_goes b ty slots v k scalar plain h at = record {
  kind = h.kind ∙ sym at.kind;
  room = λ q. let s = at.size in let room = scalar_room b ty slots scalar (sym at.kind ∙ q) in omega (arith, s, room);
  sealed = λ q m. false_not_true (sym (plain (sym at.kind ∙ q)) ∙ h.number (sym at.kind ∙ q) m);
  flows = λ q. record {
    kind = h.kind ∙ sym at.kind;
    first = λ no m. false_not_true (sym no ∙ q);
    size = λ w. h.size ∙ sym at.size;
    may = λ w n less m. let l = inside n less in at.may n l ∙ (sym (h.may (sym at.kind ∙ q) n l) ∙ m);
    must = λ w n less m. let l = inside n less in h.must (sym at.kind ∙ q) n l ∙ (sym (at.must n l) ∙ m);
  };
}
  where
    inside : (n : ℕ) → n < k.size → n < (at_slots b ty slots).size
    inside n less = let s = at.size in omega (arith, less, s)

-- an integer in another type
int_is : (b : Bench) (from to : IntType) (xs ys : List ℕ) (a : ExprTree) → PlainIf b (Int from) xs → ValueIs b (Int from) xs a → ValueIs b (Int to) ys (as_int (Int from) to a)
int_is b from to xs ys a plain h = go (same_int from to)
  where
    own : IsFine (judged b) (as_int (Int from) to a) × IsPlain (class_of (judged b) (as_int (Int from) to a))
    own = as_int_fine b (Int from) to a refl h.fine (plain_value b (Int from) xs a refl plain h)

    none : (x y : Bool) → y ≡ false → (x && y) ≡ false
    none true y e = e
    none false y e = refl

    go : (x : Bool) → ValueIs b (Int to) ys (if x then a else convert to a)
    go true = record { fine = h.fine; is = let p = plain_value b (Int from) xs a refl plain h in number_by b (Int to) ys (class_of (judged b) a) refl p.integer h.is.size p.number }
    go false = let p = plain_value b (Int from) xs a refl plain h in
        record {
          fine = (h.fine, p.integer, λ e. p.number);
          is = number_by b (Int to) ys (class_of (judged b) (convert to a)) refl refl refl (none (is_type (core.type_of (context b.w) a) to) ((class_of (judged b) a).may 0) p.number);
        }

-- what a step computes of two numbers, in the type of the place
computed_is : (b : Bench) (op : BinOp) (t u m : IntType) (xs ys : List ℕ) (o : Option VarTy) (x v : ExprTree) (s : Span) → is_int (type_or_int o) ≡ true → PlainIf b (Int t) xs → PlainIf b (type_or_int o) ys → ValueIs b (Int t) xs x → ValueIs b (type_or_int o) ys v →
    ValueIs b (Int t) xs (as_int (Int m) t (binary op u (as_int (Int t) u x) v s))
computed_is b op t u m xs ys o x v s int px pv hx hv =
    let one = as_int_fine b (Int t) u x refl hx.fine (plain_value b (Int t) xs x refl px hx) in
    int_is b m t [] xs (binary op u (as_int (Int t) u x) v s) (λ q. refl)
    (record { fine = (one.0, hv.fine, one.1, plain_value b (type_or_int o) ys v int pv hv); is = number_by b (Int m) [] number_class refl refl refl refl })

-- what is stored of a compound assignment
pub compound_is : (b : Bench) (step : LinkStep) (ty : VarTy) (o : Option VarTy) (xs ys : List ℕ) (x v : ExprTree) (s : Span) → r.is_compound step ≡ true → converts (r.stepped (promoted_value (Some ty)) step o) (Some ty) ≡ true → PlainIf b ty xs → PlainIf b (type_or_int o) ys →
    ValueIs b ty xs x → ValueIs b (type_or_int o) ys v → ValueIs b ty xs (stored ty step (stepped ty step x v s))
compound_is b (Arithmetic op u) (Int t) o xs ys x v s comp h px pv hx hv = go (r.stepped (Some (Int (promoted t))) (Arithmetic op u) o) refl h
  where
    go : (q : Option VarTy) → r.stepped (Some (Int (promoted t))) (Arithmetic op u) o ≡ q → converts q (Some (Int t)) ≡ true → ValueIs b (Int t) xs (stored (Int t) (Arithmetic op u) (stepped (Int t) (Arithmetic op u) x v s))
    go None e k = false_not_true k
    go (Some m) e k = let a = arithmetic_step op u (Some (Int (promoted t))) o m e in computed_is b op t u u xs ys o x v s (subst (λ z. is_int (type_or_int z) ≡ true) (sym a.right) refl) px pv hx hv
compound_is b (Shift to_left) (Int t) o xs ys x v s comp h px pv hx hv = go (r.stepped (Some (Int (promoted t))) (Shift to_left) o) refl h
  where
    go : (q : Option VarTy) → r.stepped (Some (Int (promoted t))) (Shift to_left) o ≡ q → converts q (Some (Int t)) ≡ true → ValueIs b (Int t) xs (stored (Int t) (Shift to_left) (stepped (Int t) (Shift to_left) x v s))
    go None e k = false_not_true k
    go (Some m) e k = let a = shift_step (Some (Int (promoted t))) o m e in computed_is b (shift_of to_left) t (promoted t) (promoted t) xs ys o x v s (subst (λ z. is_int (type_or_int z) ≡ true) (sym a.right) refl) px pv hx hv
compound_is b (Move back) (Int t) o xs ys x v s comp h px pv hx hv = false_not_true h
compound_is b (Arithmetic op u) (Pointer e f) o xs ys x v s comp h px pv hx hv = false_not_true h
compound_is b (Shift to_left) (Pointer e f) o xs ys x v s comp h px pv hx hv = false_not_true h
compound_is b (Move back) (Pointer e f) (Some (Int u)) xs ys x v s comp h px pv hx hv = record { fine = (hx.fine, hv.fine, hx.is.kind, plain_value b (Int u) ys v refl pv hv); is = hx.is }
compound_is b (Move back) (Pointer e f) None xs ys x v s comp h px pv hx hv = false_not_true h
compound_is b (Move back) (Pointer e f) (Some (Struct n)) xs ys x v s comp h px pv hx hv = false_not_true h
compound_is b (Move back) (Pointer e f) (Some (Array d n)) xs ys x v s comp h px pv hx hv = false_not_true h
compound_is b (Move back) (Pointer e f) (Some (Pointer d n)) xs ys x v s comp h px pv hx hv = false_not_true h
compound_is b (Arithmetic op u) (Struct n) o xs ys x v s comp h px pv hx hv = false_not_true h
compound_is b (Shift to_left) (Struct n) o xs ys x v s comp h px pv hx hv = false_not_true h
compound_is b (Move back) (Struct n) o xs ys x v s comp h px pv hx hv = false_not_true h
compound_is b (Arithmetic op u) (Array e n) o xs ys x v s comp h px pv hx hv = false_not_true h
compound_is b (Shift to_left) (Array e n) o xs ys x v s comp h px pv hx hv = false_not_true h
compound_is b (Move back) (Array e n) o xs ys x v s comp h px pv hx hv = false_not_true h
compound_is b MoveBy ty o xs ys x v s comp h px pv hx hv = false_not_true comp
compound_is b Difference ty o xs ys x v s comp h px pv hx hv = false_not_true comp
compound_is b (Compare op) ty o xs ys x v s comp h px pv hx hv = false_not_true comp

-- 1 is added or subtracted
pub unit_is : (b : Bench) (ty : VarTy) (back : Bool) (xs : List ℕ) (x : ExprTree) (s : Span) → is_scalar (Some ty) ≡ true → PlainIf b ty xs → ValueIs b ty xs x → ValueIs b ty xs (stored ty (unit_step ty back) (stepped ty (unit_step ty back) x (unit_of ty) s))
unit_is b (Int t) true xs x s h px hx = computed_is b Sub t (usual t i.Int) (usual t i.Int) xs [] (Some (Int (usual t i.Int))) x (constant (usual t i.Int) (pos 1)) s refl px (λ q. refl) hx (constant_is b (Int (usual t i.Int)) (usual t i.Int) (pos 1) refl)
unit_is b (Int t) false xs x s h px hx = computed_is b Add t (usual t i.Int) (usual t i.Int) xs [] (Some (Int (usual t i.Int))) x (constant (usual t i.Int) (pos 1)) s refl px (λ q. refl) hx (constant_is b (Int (usual t i.Int)) (usual t i.Int) (pos 1) refl)
unit_is b (Pointer e f) back xs x s h px hx = record { fine = (hx.fine, tt, hx.is.kind, record { integer = refl; number = refl }); is = hx.is }
unit_is b (Struct n) back xs x s h px hx = false_not_true h
unit_is b (Array e n) back xs x s h px hx = false_not_true h

-- the place with a new value
pub stored_is : (b : Bench) (ty : VarTy) (slots : List ℕ) (to : LoweredPlace) (stmts : List StmtTree) (a : ExprTree) → is_scalar (Some ty) ≡ true → PlainIf b ty slots → AreFine b stmts → PlaceClass b.marks (judged b) ty slots to.place → LeadsIf b ty to.place to.through → ValueIs b ty slots a →
    (temps : List Temp) → PlaceIs b ty slots (record to { stmts = stmts ++ assign to.place a ∷ []; temps = temps })
stored_is b ty slots to stmts a scalar plain fine class through value temps = record {
  stmts = fine_both b stmts (assign to.place a ∷ []) fine ((class.fine, value.fine, back_goes b ty slots (class_of (judged b) a) (place_class (judged b) to.place) scalar plain value.is class.is), tt);
  class = class;
  through = through;
}

pub compounded_is : (b : Bench) (n : ℕ) (s : Span) (step : LinkStep) (a : src.ExprTree) (ty : VarTy) (xs : List ℕ) (to : LoweredPlace) (v : Lowered) → is_scalar (Some ty) ≡ true → r.is_compound step ≡ true → converts (r.stepped (promoted_value (Some ty)) step (ty_of a)) (Some ty) ≡ true → PlainIf b ty xs → PlainIf b (type_of a) (carried (seen b) a) →
    (Stand b.w.variables n to.temps → PlaceFits b.w false ty to) → (Stand b.w.variables n to.temps → Held b n to.temps → PlaceIs b ty xs to) →
    (Stand b.w.variables (past n to.temps) v.temps → Held b (past n to.temps) v.temps → LoweredIs b (type_of a) (carried (seen b) a) v) →
    Stand b.w.variables n (compounded s step to v).temps → Held b n (compounded s step to v).temps → PlaceIs b ty xs (compounded s step to v)
compounded_is b n s step a ty xs to v scalar comp conv px pa low h k stand held =
    let st = stand_first b.w.variables n to.temps v.temps stand in
    let p = h st (held_first b n to.temps v.temps held) in
    let y = k (stand_rest b.w.variables n to.temps v.temps stand) (held_rest b n to.temps v.temps held) in
    let own = (low st).own in
    let new = compound_is b step ty (ty_of a) xs (carried (seen b) a) (read to.place) v.value s comp conv px (subst (λ z. PlainIf b z (carried (seen b) a)) (type_at a) pa) (read_is b ty xs to.place scalar p.class) (subst (λ z. ValueIs b z (carried (seen b) a) v.value) (type_at a) y.value) in
    stored_is b ty xs to (to.stmts ++ v.stmts) (stored to.ty step (stepped to.ty step (read to.place) v.value s)) scalar px (fine_both b to.stmts v.stmts p.stmts y.stmts) p.class p.through
    (subst (λ z. ValueIs b ty xs (stored z step (stepped z step (read to.place) v.value s))) (sym own) new) (to.temps ++ v.temps)

-- by its place and its right side
pub compound_placed : (p : src.PlaceTree) (op : LinkStep) (a : src.ExprTree) (s : Span) (b : Bench) (n : ℕ) (again : Bool) (ty : Option VarTy) (k : CompoundRules b.w.names p op a ty) → Fits b → PlainIf b k.type (place_slots (seen b) p) → (at : LoweredPlace) (v : Lowered) → PlainIf b (type_of a) (carried (seen b) a) →
    (Stand b.w.variables n at.temps → PlaceFits b.w false k.type at) → (Stand b.w.variables n at.temps → Held b n at.temps → PlaceIs b k.type (place_slots (seen b) p) at) →
    (Stand b.w.variables (past n (left_place again a n at).temps) v.temps → Held b (past n (left_place again a n at).temps) v.temps → LoweredIs b (type_of a) (carried (seen b) a) v) →
    Stand b.w.variables n (compounded s op (left_place again a n at) v).temps → Held b n (compounded s op (left_place again a n at) v).temps → PlaceIs b k.type (place_slots (seen b) p) (compounded s op (left_place again a n at) v)
compound_placed p op a s b n again ty k g px at v pa low h i stand held =
    compounded_is b n s op a k.type (place_slots (seen b) p) (left_place again a n at) v k.scalar k.comp k.stores px pa
    (λ st. fixed_if_fits (again || not (is_pure a)) b.w false k.type n at low st)
    (λ st hl. fixed_if_is (again || not (is_pure a)) b n k.type (place_slots (seen b) p) at h st hl) i stand held

-- `++` and `--`
pub counted_is : (b : Bench) (n : ℕ) (s : Span) (back : Bool) (ty : VarTy) (xs : List ℕ) (to : LoweredPlace) → is_scalar (Some ty) ≡ true → PlainIf b ty xs → (Stand b.w.variables n to.temps → PlaceFits b.w false ty to) → (Stand b.w.variables n to.temps → Held b n to.temps → PlaceIs b ty xs to) →
    Stand b.w.variables n (counted s back to).temps → Held b n (counted s back to).temps → PlaceIs b ty xs (counted s back to)
counted_is b n s back ty xs to scalar px low h stand held =
    let st = stand_first b.w.variables n to.temps [] stand in
    let p = h st (held_first b n to.temps [] held) in
    let own = (low st).own in
    let new = unit_is b ty back xs (read to.place) s scalar px (read_is b ty xs to.place scalar p.class) in
    stored_is b ty xs to (to.stmts ++ []) (stored to.ty (unit_step to.ty back) (stepped to.ty (unit_step to.ty back) (read to.place) (unit_of to.ty) s)) scalar px (fine_both b to.stmts [] p.stmts tt) p.class p.through
    (subst (λ z. ValueIs b ty xs (stored z (unit_step z back) (stepped z (unit_step z back) (read to.place) (unit_of z) s))) (sym own) new) (to.temps ++ [])

-- behind its operand the value before it
pub counted_after_is : (b : Bench) (n : ℕ) (s : Span) (back : Bool) (ty : VarTy) (xs : List ℕ) (x : Temp) (to : LoweredPlace) → is_scalar (Some ty) ≡ true → PlainIf b ty xs → Keeps b ty xs x → (Stand b.w.variables n to.temps → PlaceFits b.w false ty to) → (Stand b.w.variables n to.temps → Held b n to.temps → PlaceIs b ty xs to) →
    Stand b.w.variables n (counted_after s back (past n to.temps) x to).temps → Held b n (counted_after s back (past n to.temps) x to).temps → LoweredIs b ty xs (counted_after s back (past n to.temps) x to)
counted_after_is b n s back ty xs x to scalar px keeps low h stand held =
    let k = past n to.temps in
    let st1 = stand_first b.w.variables n (to.temps ++ x ∷ []) [] stand in
    let hl1 = held_first b n (to.temps ++ x ∷ []) [] held in
    let st = stand_first b.w.variables n to.temps (x ∷ []) st1 in
    let p = h st (held_first b n to.temps (x ∷ []) hl1) in
    let own = (low st).own in
    let here = (held_rest b n to.temps (x ∷ []) hl1).0 ∙ keeps.class in
    let old = read_is b ty xs to.place scalar p.class in
    let new = unit_is b ty back xs (read to.place) s scalar px old in
    let kept = record to { stmts = to.stmts ++ hold k (read to.place) ∷ []; temps = to.temps ++ x ∷ [] } in
    let done = stored_is b ty xs to (to.stmts ++ hold k (read to.place) ∷ [] ++ []) (stored to.ty (unit_step to.ty back) (stepped to.ty (unit_step to.ty back) (read to.place) (unit_of to.ty) s)) scalar px
    (fine_both b (to.stmts ++ hold k (read to.place) ∷ []) [] (fine_both b to.stmts (hold k (read to.place) ∷ []) p.stmts (hold_is b ty xs k (read to.place) scalar here old, tt)) tt) p.class p.through
    (subst (λ z. ValueIs b ty xs (stored z (unit_step z back) (stepped z (unit_step z back) (read to.place) (unit_of z) s))) (sym own) new) (kept.temps ++ []) in
    record { stmts = done.stmts; value = temp_is b ty xs k scalar here }

-- of an integer the value is a new number
pub counted_value : (b : Bench) (ty : VarTy) (xs : List ℕ) (a : ExprTree) → is_scalar (Some ty) ≡ true → PlainIf b ty xs → ValueIs b ty xs a → ValueIs b ty (if is_some (pointee_of (Some ty)) then xs else []) a
counted_value b (Int t) xs a h px v = record { fine = v.fine; is = let p = plain_value b (Int t) xs a refl px v in number_by b (Int t) [] (class_of (judged b) a) refl p.integer v.is.size p.number }
counted_value b (Pointer e f) xs a h px v = v
counted_value b (Struct n) xs a h px v = false_not_true h
counted_value b (Array e n) xs a h px v = false_not_true h
