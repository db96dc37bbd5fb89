-- The pointer through which a place leads, held: the place stays what it is.
use Rattle.std.proofs.Common.{◌≡◌, ◌∙◌, ◌≤◌, ◌<◌, ℕ, ◌+◌, refl, ap, sym, subst, arith, Bool, true, false, Option, Some, None, List, [], ◌∷◌, ◌++◌}
use Rattle.std.specs.Prelude.{slice_get}
use Rattle.std.proofs.lemmas.Option.{get_or_from_slice_get}
use Rattle.pt_base.specs.declared.int_type.IntType.TheVariants as i
use Rattle.pt_base.specs.declared.span.Span.{Span}
use Rattle.pt_base.proofs.Booleans.{false_not_true}
use Rattle.pt_tree.specs.declared.signature.Elem.{Elem}
use Rattle.typed_tree.specs.declared.types.VarTy.{VarTy}
use Rattle.typed_tree.specs.declared.types.VarTy.TheVariants.{Int, Struct, Array, Pointer}
use Rattle.typed_tree.specs.Sizes.{sizes_of, cells_by}
use Rattle.typed_tree.specs.TypeTests.{type_of_elem}
use Rattle.pt_core.specs.CodeTree.{RootTree, local, global, deref, PlaceTree, place, ExprTree, check}
use Rattle.pt_core.specs.Types as core
use Rattle.pt_core.specs.Types.{Context, pointee_type}
use Rattle.lowering.specs.Lowered.{Temp, LoweredPlace, past, temp, hold}
use Rattle.lowering.specs.Expressions.{fixed_root, fixed_through, fixed_if, place_with_field}
use Rattle.lowered_code_law.proofs.FormsSettings.{Stand, context}
use Rattle.lowered_code_law.proofs.FormsStanding.{stand_first, stand_rest}
use Rattle.handle_classes.specs.Classes.{Class, Scope, path_offset, along_class, root_class}
use Rattle.handle_classes.specs.Judgment.{IsWithin, IsFineRoot}
use Rattle.handle_classes_law.specs.ObjectsCells.{is_pointer, class_at}
use Rattle.handle_classes_law.proofs.SlavesClasses.{IsAt, PlaceClass, along_may, along_must}
use Rattle.handle_classes_law.proofs.SlavesBench.{Bench, judged, at_slots, Held, held_first, held_rest, AreFine, fine_both, ValueIs, Keeps, temp_is, hold_is}
use Rattle.handle_classes_law.proofs.SlavesForms.{deref_is}

pub object_pointee : (ty : VarTy) → is_pointer ty ≡ false → pointee_type ty ≡ ty
object_pointee (Int t) h = refl
object_pointee (Struct n) h = refl
object_pointee (Array elem n) h = refl
object_pointee (Pointer elem f) h = false_not_true (sym h)

along_kind : (c : Context) (rt inner : VarTy) (path : List ℕ) (v k : Class) → v.pointer ≡ k.pointer → (along_class c rt inner path v).pointer ≡ (along_class c rt inner path k).pointer
along_kind c rt inner [] v k h = h
along_kind c rt inner (j ∷ js) v k h = refl

along_size : (c : Context) (rt inner : VarTy) (path : List ℕ) (v k : Class) → v.size ≡ k.size → (along_class c rt inner path v).size ≡ (along_class c rt inner path k).size
along_size c rt inner [] v k h = h
along_size c rt inner (j ∷ js) v k h = refl

within_too : (c : Context) (rt inner : VarTy) (path : List ℕ) (v k : Class) → v.pointer ≡ k.pointer → v.size ≡ k.size → IsWithin c rt inner path v → IsWithin c rt inner path k
within_too c rt inner [] v k p s h = tt
within_too c rt inner (j ∷ js) v k p s h = (sym p ∙ h.0, let r = h.1 in omega (arith, r, s))

-- two roots of one type and of one class have the same objects in them
pub root_swap : (m : ℕ → Bool) (s : Scope) (ty rt : VarTy) (slots : List ℕ) (root other : RootTree) (path : List ℕ) (k : Class) → is_pointer ty ≡ false → core.root_type s.context root ≡ rt → core.root_type s.context other ≡ rt → IsFineRoot s other →
    IsAt (root_class s root) k → IsAt (root_class s other) k → PlaceClass m s ty slots (place root path) → PlaceClass m s ty slots (place other path)
root_swap m s ty rt slots root other path k object at1 at2 fine h1 h2 h = record {
  fine = (fine, subst (λ z. IsWithin s.context z (core.path_type s.context.structs z path) path (root_class s other)) (sym at2) (within_too s.context rt (core.path_type s.context.structs rt path) path (root_class s root) (root_class s other) (h1.kind ∙ sym h2.kind) sizes (subst (λ z. IsWithin s.context z (core.path_type s.context.structs z path) path (root_class s root)) at1 h.fine.1)));
  is = subst (λ z. IsAt (along_class s.context z (core.path_type s.context.structs z path) path (root_class s other)) (class_at m s.context.structs ty slots)) (sym at2) swapped;
  object = λ q. h2.kind ∙ (sym h1.kind ∙ h.object q);
  room = λ q. subst (λ z. path_offset s.context.structs z path + cells_by (sizes_of s.context.structs) ty ≤ (root_class s other).size) (sym at2) (let r = room q in omega (arith, r, sizes));
}
  where
    sizes : (root_class s root).size ≡ (root_class s other).size
    sizes = h1.size ∙ sym h2.size

    room : is_pointer ty ≡ false → path_offset s.context.structs rt path + cells_by (sizes_of s.context.structs) ty ≤ (root_class s root).size
    room q = subst (λ z. path_offset s.context.structs z path + cells_by (sizes_of s.context.structs) ty ≤ (root_class s root).size) at1 (h.room q)

    first : IsAt (along_class s.context rt (core.path_type s.context.structs rt path) path (root_class s root)) (class_at m s.context.structs ty slots)
    first = subst (λ z. IsAt (along_class s.context z (core.path_type s.context.structs z path) path (root_class s root)) (class_at m s.context.structs ty slots)) at1 h.is

    inside : (n : ℕ) → n < cells_by (sizes_of s.context.structs) (pointee_type ty) → path_offset s.context.structs rt path + n < k.size
    inside n less = let r = room object in let z = h1.size in let t = ap (λ u. cells_by (sizes_of s.context.structs) u) (object_pointee ty object) in omega (arith, r, z, t, less)

    swapped : IsAt (along_class s.context rt (core.path_type s.context.structs rt path) path (root_class s other)) (class_at m s.context.structs ty slots)
    swapped = record {
      kind = sym (along_kind s.context rt (core.path_type s.context.structs rt path) path (root_class s root) (root_class s other) (h1.kind ∙ sym h2.kind)) ∙ first.kind;
      size = sym (along_size s.context rt (core.path_type s.context.structs rt path) path (root_class s root) (root_class s other) sizes) ∙ first.size;
      may = λ n less. along_may s.context rt (core.path_type s.context.structs rt path) path (root_class s other) n ∙ h2.may (path_offset s.context.structs rt path + n) (inside n less) ∙ sym (h1.may (path_offset s.context.structs rt path + n) (inside n less))
          ∙ sym (along_may s.context rt (core.path_type s.context.structs rt path) path (root_class s root) n) ∙ first.may n less;
      must = λ n less. along_must s.context rt (core.path_type s.context.structs rt path) path (root_class s other) n ∙ h2.must (path_offset s.context.structs rt path + n) (inside n less) ∙ sym (h1.must (path_offset s.context.structs rt path + n) (inside n less))
          ∙ sym (along_must s.context rt (core.path_type s.context.structs rt path) path (root_class s root) n) ∙ first.must n less;
    }

-- ---- the pointer is held, and dereferenced once

-- what a temporary would hold that keeps the pointer
pub record Leads (b : Bench) (x : Temp) (a : ExprTree) : Type 0 where
  pub elem : Elem
  pub fixed : Bool
  pub own : Bool
  pub slots : List ℕ
  pub kept : x.ty ≡ Pointer elem fixed
  pub keeps : Keeps b (Pointer elem fixed) slots x
  pub value : ValueIs b (Pointer elem fixed) slots a
  pub type : core.type_of (context b.w) a ≡ Pointer elem own

-- where a place leads through a pointer, that; what lies there is no pointer
abbrev pub LeadsIf : Bench → VarTy → PlaceTree → Option Temp → Type 0
LeadsIf b ty (place (deref a s) path) (Some x) = Leads b x a × (is_pointer ty ≡ false)
LeadsIf b ty _ _ = Unit {0}

-- a place of this type, with these slots
pub record PlaceIs (b : Bench) (ty : VarTy) (slots : List ℕ) (p : LoweredPlace) : Type 0 where
  pub stmts : AreFine b p.stmts
  pub class : PlaceClass b.marks (judged b) ty slots p.place
  pub through : LeadsIf b ty p.place p.through

held_pointer : (b : Bench) (k : ℕ) (x : Temp) (ty : VarTy) → slice_get b.w.variables k ≡ Some x.ty → x.ty ≡ ty → core.type_of (context b.w) (temp k) ≡ ty
held_pointer b k x ty here is = get_or_from_slice_get b.w.variables k x.ty (Int i.Int) here ∙ is

fixed_place : (b : Bench) (n : ℕ) (ty : VarTy) (slots : List ℕ) (x : Temp) (p : LoweredPlace) (a : ExprTree) (s : Span) (path : List ℕ) → p.place ≡ place (deref a s) path → p.through ≡ Some x →
    (Stand b.w.variables n p.temps → Held b n p.temps → PlaceIs b ty slots p) → Stand b.w.variables n (p.temps ++ x ∷ []) → Held b n (p.temps ++ x ∷ []) → PlaceIs b ty slots (fixed_root n x p (place (deref a s) path))
fixed_place b n ty slots x p a s path is by h stand held =
    let k = past n p.temps in
    let all = h (stand_first b.w.variables n p.temps (x ∷ []) stand) (held_first b n p.temps (x ∷ []) held) in
    let leads : LeadsIf b ty (place (deref a s) path) (Some x) = subst (λ o. LeadsIf b ty (place (deref a s) path) o) by (subst (λ z. LeadsIf b ty z p.through) is all.through) in
    let old : PlaceClass b.marks (judged b) ty slots (place (deref a s) path) = subst (λ z. PlaceClass b.marks (judged b) ty slots z) is all.class in
    let l : Leads b x a = leads.0 in
    let here = (held_rest b n p.temps (x ∷ []) held).0 ∙ l.keeps.class in
    let type = held_pointer b k x (Pointer l.elem l.fixed) (stand_rest b.w.variables n p.temps (x ∷ []) stand).0 l.kept in
    let kept = temp_is b (Pointer l.elem l.fixed) l.slots k refl here in
    let before = deref_is b l.elem l.fixed l.own l.slots a s l.type l.value in
    let after = deref_is b l.elem l.fixed l.fixed l.slots (temp k) s type kept in
    let there = root_swap b.marks (judged b) ty (type_of_elem l.elem) slots (deref a s) (deref (temp k) s) path (at_slots b (type_of_elem l.elem) l.slots) leads.1 (ap pointee_type l.type) (ap pointee_type type) after.fine.0 before.is after.is old in
    record {
      stmts = fine_both b p.stmts (hold k a ∷ check (place (deref (temp k) s) path) ∷ []) all.stmts (hold_is b (Pointer l.elem l.fixed) l.slots k a refl here l.value, (there.fine, tt));
      class = there;
      through = subst (λ o. LeadsIf b ty (place (deref (temp k) s) path) o) (sym by) (record { elem = l.elem; fixed = l.fixed; own = l.fixed; slots = l.slots; kept = l.kept; keeps = l.keeps; value = kept; type = type }, leads.1);
    }

fixed_root_is : (b : Bench) (n : ℕ) (ty : VarTy) (slots : List ℕ) (x : Temp) (p : LoweredPlace) (q : PlaceTree) → p.place ≡ q → p.through ≡ Some x → (Stand b.w.variables n p.temps → Held b n p.temps → PlaceIs b ty slots p) →
    Stand b.w.variables n (fixed_root n x p q).temps → Held b n (fixed_root n x p q).temps → PlaceIs b ty slots (fixed_root n x p q)
fixed_root_is b n ty slots x p (place (deref a s) path) is by h stand held = fixed_place b n ty slots x p a s path is by h stand held
fixed_root_is b n ty slots x p (place (local v) path) is by h stand held = h stand held
fixed_root_is b n ty slots x p (place (global g) path) is by h stand held = h stand held

fixed_through_is : (b : Bench) (n : ℕ) (ty : VarTy) (slots : List ℕ) (o : Option Temp) (p : LoweredPlace) → p.through ≡ o → (Stand b.w.variables n p.temps → Held b n p.temps → PlaceIs b ty slots p) →
    Stand b.w.variables n (fixed_through n o p).temps → Held b n (fixed_through n o p).temps → PlaceIs b ty slots (fixed_through n o p)
fixed_through_is b n ty slots None p by h stand held = h stand held
fixed_through_is b n ty slots (Some x) p by h stand held = fixed_root_is b n ty slots x p p.place refl by h stand held

-- the place stays what it is
pub fixed_if_is : (waits : Bool) (b : Bench) (n : ℕ) (ty : VarTy) (slots : List ℕ) (p : LoweredPlace) → (Stand b.w.variables n p.temps → Held b n p.temps → PlaceIs b ty slots p) →
    Stand b.w.variables n (fixed_if waits n p).temps → Held b n (fixed_if waits n p).temps → PlaceIs b ty slots (fixed_if waits n p)
fixed_if_is true b n ty slots p h stand held = fixed_through_is b n ty slots p.through p refl h stand held
fixed_if_is false b n ty slots p h stand held = h stand held

-- a place that is no pointer's
pub named_leads : (b : Bench) (ty : VarTy) (p : PlaceTree) → LeadsIf b ty p None
named_leads b ty (place (local v) path) = tt
named_leads b ty (place (global g) path) = tt
named_leads b ty (place (deref a s) path) = tt

-- a field of what a pointer leads to
pub field_leads : (b : Bench) (ty u : VarTy) (p : PlaceTree) (k : ℕ) (o : Option Temp) → is_pointer u ≡ false → LeadsIf b ty p o → LeadsIf b u (place_with_field p k) o
field_leads b ty u (place (deref a s) path) k (Some x) is h = (h.0, is)
field_leads b ty u (place (deref a s) path) k None is h = tt
field_leads b ty u (place (local v) path) k o is h = tt
field_leads b ty u (place (global g) path) k o is h = tt
