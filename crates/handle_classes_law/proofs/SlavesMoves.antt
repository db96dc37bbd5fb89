-- Where marks are closed, a value that moves may go to its target: an integer, a pointer, a struct.
use Rattle.std.proofs.Common.{◌≡◌, ◌∙◌, ◌<◌, ℕ, ◌+◌, refl, sym, subst, arith, Bool, true, false, Some, List, [], ◌∷◌, length}
use Rattle.std.specs.Prelude.{◌&&◌, ◌||◌, is_some}
use Rattle.std.specs.List.{list_any, list_all}
use Rattle.pt_base.proofs.Booleans.{false_not_true}
use Rattle.pt_tree.specs.declared.signature.Elem.{Elem}
use Rattle.pt_tree.specs.declared.signature.Elem.TheVariants as e
use Rattle.typed_tree.specs.declared.types.VarTy.{VarTy}
use Rattle.typed_tree.specs.declared.types.VarTy.TheVariants.{Int, Struct, Array, Pointer}
use Rattle.typed_tree.specs.declared.types.StructInfo.{StructInfo}
use Rattle.typed_tree.specs.ExpressionTree as src
use Rattle.typed_tree.specs.Sizes.{sizes_of, cells_by}
use Rattle.typed_tree.specs.TypeTests.{is_scalar, pointee_of, type_of_elem}
use Rattle.typed_tree.specs.WellFormed.{is_plain_type, is_variable_type, structs_sound}
use Rattle.typed_tree.specs.WellFormedExpression.{ty_of, is_elem}
use Rattle.pt_core.specs.Types.{pointee_type}
use Rattle.sides.specs.Carried.{carried}
use Rattle.sides.specs.Leaves.{leaves_of, leaf_count, value_count}
use Rattle.flow_edges.specs.Edges.{moved_to}
use Rattle.handle_classes.specs.Classes.{Class}
use Rattle.handle_classes.specs.Judgment.{Flows, Goes, Copies}
use Rattle.handle_classes_law.specs.ObjectsCells.{is_pointer, leaf_under}
use Rattle.handle_classes_law.proofs.ObjectsItems.{leaves_are_own, pointer_leaves}
use Rattle.handle_classes_law.proofs.SlavesClasses.{IsBy, IsAt}
use Rattle.handle_classes_law.proofs.SlavesBench.{Bench, seen, at_slots, scalar_room}
use Rattle.handle_classes_law.proofs.SlavesEdges.{Moves, moved_on, moved_back, any_of_each, all_of_each}

pub forward : (b : Bench) (a : src.ExprTree) (z : VarTy) (ys : List ℕ) (j : ℕ) → Moves b a ys → ty_of a ≡ Some z → j < leaf_count b.w.names.structs z → list_any (λ s. b.marks (s + j)) (carried (seen b) a) ≡ true → list_all (λ s. b.marks (s + j)) ys ≡ true
forward b a z ys j h is less some =
    all_of_each (λ s. b.marks (s + j)) ys
    (moved_on b.marks (moved_to (seen b) a ys) j h (subst (λ o. j < value_count (leaf_count b.w.names.structs) o) (sym is) less) (any_of_each (λ s. b.marks (s + j)) (carried (seen b) a) some))

backward : (b : Bench) (a : src.ExprTree) (z : VarTy) (ys : List ℕ) (j : ℕ) → Moves b a ys → ty_of a ≡ Some z → is_some (pointee_of (Some z)) ≡ true → j < leaf_count b.w.names.structs z → list_any (λ s. b.marks (s + j)) ys ≡ true → list_all (λ s. b.marks (s + j)) (carried (seen b) a) ≡ true
backward b a z ys j h is points less some =
    all_of_each (λ s. b.marks (s + j)) (carried (seen b) a)
    (moved_back b.marks (moved_to (seen b) a ys) j (subst (λ o. is_some (pointee_of o) ≡ true) (sym is) points) h (subst (λ o. j < value_count (leaf_count b.w.names.structs) o) (sym is) less) (any_of_each (λ s. b.marks (s + j)) ys some))

-- the leaf of a cell, of an object or of what is pointed to
pub elem_plain : (n : ℕ) (elem : Elem) → is_elem n (Some elem) ≡ true → is_plain_type n (type_of_elem elem) ≡ true
elem_plain n (e.Int t) h = refl
elem_plain n (e.Struct k) h = h

pub own_leaf : (structs : List StructInfo) (z : VarTy) (n : ℕ) → structs_sound structs 0 structs ≡ true → is_variable_type (length structs) z ≡ true → n < cells_by (sizes_of structs) (pointee_type z) → leaf_under structs (pointee_type z) n < leaf_count structs z
own_leaf structs (Int t) n sound known less = leaves_are_own structs (Int t) n sound refl less
own_leaf structs (Struct k) n sound known less = leaves_are_own structs (Struct k) n sound known less
own_leaf structs (Array elem count) n sound known less = leaves_are_own structs (Array elem count) n sound known less
own_leaf structs (Pointer elem fixed) n sound known less =
    subst (λ q. leaf_under structs (type_of_elem elem) n < q) (sym (pointer_leaves structs elem fixed)) (leaves_are_own structs (type_of_elem elem) n sound (elem_plain (length structs) elem known) less)

some_of_one : (f : ℕ → Bool) (s : ℕ) → list_any f (s ∷ []) ≡ list_all f (s ∷ [])
some_of_one f s = go (f s)
  where
    go : (c : Bool) → (c || false) ≡ (c && true)
    go true = refl
    go false = refl

first_cell : (b : Bench) (z : VarTy) → is_scalar (Some z) ≡ true → is_pointer z ≡ false → 0 < cells_by (sizes_of b.w.names.structs) (pointee_type z)
first_cell b z scalar p = scalar_room b z [] scalar p

-- An assignment's value may go to its place. A place of a pointer is one variable.
pub value_goes : (b : Bench) (a : src.ExprTree) (z : VarTy) (ys : List ℕ) (v k : Class) → structs_sound b.w.names.structs 0 b.w.names.structs ≡ true → is_variable_type (length b.w.names.structs) z ≡ true → is_scalar (Some z) ≡ true → ty_of a ≡ Some z →
    (is_pointer z ≡ true → (s : ℕ) × (ys ≡ s ∷ [])) → Moves b a ys → IsBy v (at_slots b z (carried (seen b) a)) → IsAt k (at_slots b z ys) → Goes v k
value_goes b a z ys v k sound known scalar is one h hv hk = record {
  kind = hv.kind ∙ sym hk.kind;
  room = λ p. let s = hk.size in let r = first_cell b z scalar (sym hk.kind ∙ p) in omega (arith, s, r);
  sealed = λ p m. let q = sym hk.kind ∙ p in hk.must 0 (first_cell b z scalar q) ∙ forward b a z ys (leaf_under b.w.names.structs (pointee_type z) 0) h is (own_leaf b.w.names.structs z 0 sound known (first_cell b z scalar q)) (hv.number q m);
  flows = λ p. let q = sym hk.kind ∙ p in record {
    kind = hv.kind ∙ sym hk.kind;
    first = λ no m. false_not_true (sym no ∙ p);
    size = λ w. hv.size ∙ sym hk.size;
    may = λ w n less m. let l = inside n less in
        hk.may n l ∙ single q (leaf_under b.w.names.structs (pointee_type z) n) ∙ forward b a z ys (leaf_under b.w.names.structs (pointee_type z) n) h is (own_leaf b.w.names.structs z n sound known l) (sym (hv.may q n l) ∙ m);
    must = λ w n less m. let l = inside n less in
        hv.must q n l ∙ backward b a z ys (leaf_under b.w.names.structs (pointee_type z) n) h is (points z q) (own_leaf b.w.names.structs z n sound known l) (single q (leaf_under b.w.names.structs (pointee_type z) n) ∙ (sym (hk.must n l) ∙ m));
  };
}
  where
    inside : (n : ℕ) → n < k.size → n < cells_by (sizes_of b.w.names.structs) (pointee_type z)
    inside n less = let s = hk.size in omega (arith, less, s)

    single : is_pointer z ≡ true → (j : ℕ) → list_any (λ s. b.marks (s + j)) ys ≡ list_all (λ s. b.marks (s + j)) ys
    single q j = let o = one q in subst (λ xs. list_any (λ s. b.marks (s + j)) xs ≡ list_all (λ s. b.marks (s + j)) xs) (sym o.1) (some_of_one (λ s. b.marks (s + j)) o.0)

    points : (z : VarTy) → is_pointer z ≡ true → is_some (pointee_of (Some z)) ≡ true
    points (Pointer elem fixed) q = refl
    points (Int t) q = false_not_true q
    points (Struct n) q = false_not_true q
    points (Array elem n) q = false_not_true q

-- a struct may be copied, also where some of its fields alone are marked
pub struct_copies : (b : Bench) (a : src.ExprTree) (m : ℕ) (ys : List ℕ) (to from : Class) → structs_sound b.w.names.structs 0 b.w.names.structs ≡ true → is_variable_type (length b.w.names.structs) (Struct m) ≡ true → ty_of a ≡ Some (Struct m) →
    Moves b a ys → IsAt to (at_slots b (Struct m) ys) → IsAt from (at_slots b (Struct m) (carried (seen b) a)) → Copies to from (cells_by (sizes_of b.w.names.structs) (Struct m))
struct_copies b a m ys to from sound known is h ht hf = record {
  to_object = ht.kind;
  from_object = hf.kind;
  to_room = let s = ht.size in omega (arith, s);
  from_room = let s = hf.size in omega (arith, s);
  sealed = λ n less may. ht.must n less ∙ forward b a (Struct m) ys (leaf_under b.w.names.structs (Struct m) n) h is (own_leaf b.w.names.structs (Struct m) n sound known less) (sym (hf.may n less) ∙ may);
}

-- what may go to an object of one slot may be a parameter's value
pub one_flows : (b : Bench) (z : VarTy) (s : ℕ) (v : Class) → Goes v (at_slots b z (s ∷ [])) → Flows v (at_slots b z (s ∷ []))
one_flows b z s v h = record {
  kind = h.kind;
  first = λ p m. (some_of_one (λ x. b.marks (x + leaf_under b.w.names.structs (pointee_type z) 0)) s) ∙ h.sealed p m;
  size = λ p. (h.flows p).size p;
  may = λ p n less m. (h.flows p).may p n less m;
  must = λ p n less m. (h.flows p).must p n less m;
}
