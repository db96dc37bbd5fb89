-- Places: variables and globals, what pointers point to, fields, and places whose pointer is held.
use Rattle.std.proofs.Common.{◌≡◌, ◌∙◌, ◌≤◌, ℕ, zero, suc, ◌+◌, refl, ap, sym, subst, arith, Bool, true, false, Option, Some, None, List, [], ◌∷◌, ◌++◌, length}
use Rattle.std.specs.Prelude.{◌&&◌, ◌||◌, not, slice_get, get_or, option_map, option_and_then, map, nat_lt, nat_le, nat_eq, is_some, is_none, unwrap_or}
use Rattle.std.specs.List.{list_all}
use Rattle.std.specs.Map.{lookup}
use Rattle.std.proofs.lemmas.Bool.Decides.{nat_tests}
use Rattle.std.proofs.lemmas.Option.{get_or_from_slice_get}
use Rattle.pt_base.specs.declared.int_type.IntType.{IntType}
use Rattle.pt_base.specs.declared.int_type.IntType.TheVariants as i
use Rattle.pt_base.specs.declared.span.Span.{Span}
use Rattle.pt_base.proofs.Booleans.{both_hold, both_hold_first, both_hold_second, false_not_true}
use Rattle.pt_base.proofs.Members.{all_true_at}
use Rattle.pt_base.proofs.Places.{get_map}
use Rattle.pt_tree.specs.declared.signature.Elem.{Elem}
use Rattle.pt_tree.specs.declared.signature.Elem.TheVariants as e
use Rattle.typed_tree.specs.declared.types.VarTy.{VarTy}
use Rattle.typed_tree.specs.declared.types.VarTy.TheVariants.{Int, Struct, Array, Pointer}
use Rattle.typed_tree.specs.declared.types.Field.{Field}
use Rattle.typed_tree.specs.declared.types.StructInfo.{StructInfo}
use Rattle.typed_tree.specs.declared.variable.Var.{Var}
use Rattle.typed_tree.specs.declared.variable.TypedGlobal.{TypedGlobal}
use Rattle.typed_tree.specs.ExpressionTree as t
use Rattle.typed_tree.specs.Cells.{leaves_of}
use Rattle.typed_tree.specs.Sizes.{fields_of}
use Rattle.typed_tree.specs.TypeTests.{type_of_elem, same_elem, pointee_of, item_of, element_of, is_scalar}
use Rattle.typed_tree.specs.WellFormedExpression as f
use Rattle.typed_tree.specs.WellFormedExpression.{is_elem, ty_of}
use Rattle.typed_tree.specs.WellFormed.{is_plain_type, is_variable_type, is_small, field_sound, struct_sound, structs_sound, cells_fit, variable_sound, global_sound}
use Rattle.pt_core.specs.CodeTree.{ExprTree, local, global, deref, PlaceTree, place, check, decay, address, move}
use Rattle.pt_core.specs.Types as core
use Rattle.pt_core.specs.Types.{Context, type_of, type_at, place_type, root_type, path_type, field_type, pointee_type, global_type}
use Rattle.pt_core.specs.WellFormedExpression.{stands_for, is_field, is_path, is_addressed, expr_fits, place_fits, root_fits}
use Rattle.source_meaning.specs.Expressions as x
use Rattle.lowering.specs.Lowered.{Temp, Lowered, LoweredPlace, past, temp, hold}
use Rattle.lowering.specs.Expressions.{place_with_field, field_in, behind, fixed_root, fixed_through, fixed_if, named_place, element_place}
use Rattle.lowered_code_law.proofs.FormsSettings.{Agrees, Leads, LoweredFits, PlaceFits, Setting, Stand, ValueFits, context, is_known, scope, source}
use Rattle.typed_tree.proofs.SameTypes.{equal_elems}
use Rattle.lowered_code_law.proofs.FormsSameTypes.{points, stands_pointer}
use Rattle.lowered_code_law.proofs.FormsStanding.{fit_both, hold_fits, in_list, known_both, stand_first, stand_rest, temp_value}
use Rattle.lowered_code_law.proofs.FormsSteps.{move_fits, one_type}

-- ---- what is known of what there is

pub elem_more : (a b : ℕ) (elem : Elem) → a ≤ b → is_elem a (Some elem) ≡ true → is_elem b (Some elem) ≡ true
elem_more a b (e.Int t) k h = refl
elem_more a b (e.Struct n) k h = grind (arith, nat_tests)

-- what a field or global may be, a variable may be
pub plain_variable : (a b : ℕ) (ty : VarTy) → a ≤ b → is_plain_type a ty ≡ true → is_variable_type b ty ≡ true
plain_variable a b (Int t) k h = refl
plain_variable a b (Struct n) k h = grind (arith, nat_tests)
plain_variable a b (Array elem count) k h = both_hold (is_elem b (Some elem)) (nat_le 1 count) (elem_more a b elem k (both_hold_first (is_elem a (Some elem)) (nat_le 1 count) h)) (both_hold_second (is_elem a (Some elem)) (nat_le 1 count) h)
plain_variable a b (Pointer elem fixed) k h = false_not_true h

struct_at : (structs rest : List StructInfo) (earlier k : ℕ) (s : StructInfo) → structs_sound structs earlier rest ≡ true → slice_get rest k ≡ Some s → (n : ℕ) × (n ≤ earlier + length rest) × (struct_sound structs n s ≡ true)
struct_at structs [] earlier k s h is = cc
struct_at structs (y ∷ rest) earlier zero s h is = (earlier, omega arith, subst (λ z. struct_sound structs earlier z ≡ true) (same is) (both_hold_first (struct_sound structs earlier y) (structs_sound structs (suc earlier) rest) h))
  where
    same : Some y ≡ Some s → y ≡ s
    same e = cc
struct_at structs (y ∷ rest) earlier (suc k) s h is =
    let there = struct_at structs rest (suc earlier) k s (both_hold_second (struct_sound structs earlier y) (structs_sound structs (suc earlier) rest) h) is in
    let bound = there.1 in
    (there.0, more earlier there.0 (length rest) bound, there.2)
  where
    more : (a n m : ℕ) → n ≤ suc a + m → n ≤ a + suc m
    more a n m h = omega (arith, h)

-- a field that the rules of types find
pub record FieldIs (structs : List StructInfo) (ty u : VarTy) (k : ℕ) : Type 0 where
  pub field : is_field structs ty k ≡ true
  pub type : field_type structs ty k ≡ u
  pub known : is_variable_type (length structs) u ≡ true

abbrev no_field : Field
no_field = record { name = []; ty = Int i.Int; marked = false }

abbrev no_struct : StructInfo
no_struct = record { name = []; fields = [] }

pub field_in_struct : (structs : List StructInfo) (n k : ℕ) (s : StructInfo) (y : Field) → structs_sound structs 0 structs ≡ true → slice_get structs n ≡ Some s → slice_get s.fields k ≡ Some y → FieldIs structs (Struct n) y.ty k
field_in_struct structs n k s y sound p q =
    let fields : fields_of structs n ≡ s.fields = ap (λ z. z.fields) (get_or_from_slice_get structs n s no_struct p) in
    let there = struct_at structs structs 0 n s sound p in
    let bound = there.1 in
    let one = all_true_at (field_sound structs there.0) s.fields k y (both_hold_second (nat_le 1 (length s.fields)) (list_all (field_sound structs there.0) s.fields) there.2) q in
    record {
      field = subst (λ fs. nat_lt k (length fs) ≡ true) (sym fields) (in_list s.fields k y q);
      type = ap (λ fs. (get_or fs k no_field).ty) fields ∙ ap (λ z. z.ty) (get_or_from_slice_get s.fields k y no_field q);
      known = plain_variable there.0 (length structs) y.ty (below there.0 (length structs) bound) (both_hold_first (is_plain_type there.0 y.ty) (is_small structs y.ty) one);
    }
  where
    below : (a b : ℕ) → a ≤ 0 + b → a ≤ b
    below a b h = omega (arith, h)

pub field_is : (structs : List StructInfo) (ty u : VarTy) (k : ℕ) → structs_sound structs 0 structs ≡ true → f.field_type structs (Some ty) k ≡ Some u → FieldIs structs ty u k
field_is structs (Struct n) u k sound h = at_struct (slice_get structs n) refl h
  where
    at_field : (s : StructInfo) → slice_get structs n ≡ Some s → (o : Option Field) → slice_get s.fields k ≡ o → option_map (λ y. y.ty) o ≡ Some u → FieldIs structs (Struct n) u k
    at_field s p None q h = cc
    at_field s p (Some y) q h = subst (λ z. FieldIs structs (Struct n) z k) (one_type y.ty u h) (field_in_struct structs n k s y sound p q)

    at_struct : (o : Option StructInfo) → slice_get structs n ≡ o → option_and_then (λ s. option_map (λ y. y.ty) (slice_get s.fields k)) o ≡ Some u → FieldIs structs (Struct n) u k
    at_struct None p h = cc
    at_struct (Some s) p h = at_field s p (slice_get s.fields k) refl h
field_is structs (Int t) u k sound h = cc
field_is structs (Array elem n) u k sound h = cc
field_is structs (Pointer elem g) u k sound h = cc

-- ---- paths

path_with : (structs : List StructInfo) (ty : VarTy) (path : List ℕ) (k : ℕ) → is_path structs ty path ≡ true → is_field structs (path_type structs ty path) k ≡ true → is_path structs ty (path ++ k ∷ []) ≡ true
path_with structs ty [] k h i = both_hold (is_field structs ty k) true i refl
path_with structs ty (j ∷ js) k h i =
    both_hold (is_field structs ty j) (is_path structs (field_type structs ty j) (js ++ k ∷ [])) (both_hold_first (is_field structs ty j) (is_path structs (field_type structs ty j) js) h)
    (path_with structs (field_type structs ty j) js k (both_hold_second (is_field structs ty j) (is_path structs (field_type structs ty j) js) h) i)

type_with : (structs : List StructInfo) (ty : VarTy) (path : List ℕ) (k : ℕ) → path_type structs ty (path ++ k ∷ []) ≡ field_type structs (path_type structs ty path) k
type_with structs ty [] k = refl
type_with structs ty (j ∷ js) k = type_with structs (field_type structs ty j) js k

-- a field of a place
pub field_fits : (c : Context) (p : PlaceTree) (k : ℕ) → place_fits c p ≡ true → is_field c.structs (place_type c p) k ≡ true → place_fits c (place_with_field p k) ≡ true
field_fits c (place root path) k h i =
    both_hold (root_fits c root) (is_path c.structs (root_type c root) (path ++ k ∷ [])) (both_hold_first (root_fits c root) (is_path c.structs (root_type c root) path) h)
    (path_with c.structs (root_type c root) path k (both_hold_second (root_fits c root) (is_path c.structs (root_type c root) path) h) i)

pub field_typed : (c : Context) (p : PlaceTree) (k : ℕ) → place_type c (place_with_field p k) ≡ field_type c.structs (place_type c p) k
field_typed c (place root path) k = type_with c.structs (root_type c root) path k

field_leads : (w : Setting) (p : PlaceTree) (k : ℕ) (o : Option Temp) → Leads w p o → Leads w (place_with_field p k) o
field_leads w (place (deref a s) path) k (Some y) h = h
field_leads w (place (deref a s) path) k None h = tt
field_leads w (place (local v) path) k o h = tt
field_leads w (place (global g) path) k o h = tt

pub field_in_fits : (w : Setting) (l : Bool) (ty u : VarTy) (k : ℕ) (p : LoweredPlace) → FieldIs w.names.structs ty u k → PlaceFits w l ty p → PlaceFits w l u (field_in (source w.names) k p)
field_in_fits w l ty u k p is h = record {
  stmts = h.stmts;
  place = field_fits (context w) p.place k h.place (subst (λ z. is_field w.names.structs z k ≡ true) (sym h.type) is.field);
  type = field_typed (context w) p.place k ∙ ap (λ z. field_type w.names.structs z k) h.type ∙ is.type;
  own = ap (λ z. field_type w.names.structs z k) h.own ∙ is.type;
  through = field_leads w p.place k p.through h.through;
  temps = h.temps;
  known = is.known;
}

-- ---- variables and globals

pub variable_known : (structs : List StructInfo) (vars : List Var) (k : ℕ) (ty : VarTy) → list_all (variable_sound structs) vars ≡ true → option_map (λ (y : Var). y.ty) (slice_get vars k) ≡ Some ty → (is_variable_type (length structs) ty && is_small structs ty) ≡ true
variable_known structs vars k ty h is = go (slice_get vars k) refl is
  where
    go : (o : Option Var) → slice_get vars k ≡ o → option_map (λ (y : Var). y.ty) o ≡ Some ty → (is_variable_type (length structs) ty && is_small structs ty) ≡ true
    go None p q = cc
    go (Some y) p q =
        let sound = all_true_at (variable_sound structs) vars k y h p in
        let type = both_hold_first (is_variable_type (length structs) y.ty) (is_small structs y.ty && is_none y.holds) sound in
        let small = both_hold_first (is_small structs y.ty) (is_none y.holds) (both_hold_second (is_variable_type (length structs) y.ty) (is_small structs y.ty && is_none y.holds) sound) in
        subst (λ z. (is_variable_type (length structs) z && is_small structs z) ≡ true) (one_type y.ty ty q) (both_hold (is_variable_type (length structs) y.ty) (is_small structs y.ty) type small)

global_known : (structs : List StructInfo) (globals : List TypedGlobal) (k : ℕ) (ty : VarTy) → list_all (global_sound structs) globals ≡ true → option_map (λ (y : TypedGlobal). y.var.ty) (slice_get globals k) ≡ Some ty → is_variable_type (length structs) ty ≡ true
global_known structs globals k ty h is = go (slice_get globals k) refl is
  where
    go : (o : Option TypedGlobal) → slice_get globals k ≡ o → option_map (λ (y : TypedGlobal). y.var.ty) o ≡ Some ty → is_variable_type (length structs) ty ≡ true
    go None p q = cc
    go (Some y) p q =
        let sound = both_hold_first (is_plain_type (length structs) y.var.ty && is_small structs y.var.ty) (is_none y.var.holds && cells_fit (leaves_of structs y.var.ty) y.cells) (all_true_at (global_sound structs) globals k y h p) in
        subst (λ z. is_variable_type (length structs) z ≡ true) (one_type y.var.ty ty q)
        (plain_variable (length structs) (length structs) y.var.ty (omega arith) (both_hold_first (is_plain_type (length structs) y.var.ty) (is_small structs y.var.ty) sound))

pub variable_fits : (w : Setting) (v : ℕ) (ty : VarTy) → Agrees w → option_map (λ (y : Var). y.ty) (slice_get w.names.vars v) ≡ Some ty → place_fits (context w) (place (local v) []) ≡ true
variable_fits w v ty a is = both_hold (nat_lt v (length w.variables)) true (in_list w.variables v ty (a.variables v ty is)) refl

pub variable_place_fits : (w : Setting) (l : Bool) (r : t.RootTree) (v : ℕ) (ty : VarTy) → Agrees w → option_map (λ (y : Var). y.ty) (slice_get w.names.vars v) ≡ Some ty →
    PlaceFits w l ty (named_place r (type_at (source w.names).variables v) (place (local v) []))
variable_place_fits w l r v ty a is = record {
  stmts = tt;
  place = variable_fits w v ty a is;
  type = get_or_from_slice_get w.variables v ty (Int i.Int) (a.variables v ty is);
  own = get_or_from_slice_get (map (λ (y : Var). y.ty) w.names.vars) v ty (Int i.Int) (get_map (λ (y : Var). y.ty) w.names.vars v ∙ is);
  through = tt;
  temps = tt;
  known = both_hold_first (is_variable_type (length w.names.structs) ty) (is_small w.names.structs ty) (variable_known w.names.structs w.names.vars v ty a.vars is);
}

pub global_place_fits : (w : Setting) (l : Bool) (r : t.RootTree) (g : ℕ) (ty : VarTy) → Agrees w → option_map (λ (y : TypedGlobal). y.var.ty) (slice_get w.names.globals g) ≡ Some ty →
    PlaceFits w l ty (named_place r (type_at (source w.names).globals g) (place (global g) []))
global_place_fits w l r g ty a is = record {
  stmts = tt;
  place = both_hold (is_some (lookup (nat_eq g) w.globals)) true (subst (λ z. is_some z ≡ true) (sym (a.globals g ty is)) refl) refl;
  type = ap (λ z. unwrap_or z (Int i.Int)) (a.globals g ty is);
  own = get_or_from_slice_get (map (λ (y : TypedGlobal). y.var.ty) w.names.globals) g ty (Int i.Int) (get_map (λ (y : TypedGlobal). y.var.ty) w.names.globals g ∙ is);
  through = tt;
  temps = tt;
  known = global_known w.names.structs w.names.globals g ty a.plain is;
}

-- ---- what pointers point to

pub elem_known : (n : ℕ) (elem : Elem) → is_elem n (Some elem) ≡ true → is_variable_type n (type_of_elem elem) ≡ true
elem_known n (e.Int t) h = refl
elem_known n (e.Struct k) h = h

pub deref_fits : (c : Context) (elem : Elem) (g : Bool) (a : ExprTree) (s : Span) → ValueFits c (Pointer elem g) a → place_fits c (place (deref a s) []) ≡ true
deref_fits c elem g a s v =
    let p = stands_pointer (type_of c a) elem g v.type in
    both_hold (expr_fits c a && is_some (pointee_of (Some (type_of c a)))) true (both_hold (expr_fits c a) (is_some (pointee_of (Some (type_of c a)))) v.fits (subst (λ z. is_some (pointee_of (Some z)) ≡ true) (sym p.is) refl)) refl

pub deref_type : (c : Context) (elem : Elem) (g : Bool) (a : ExprTree) (s : Span) → ValueFits c (Pointer elem g) a → place_type c (place (deref a s) []) ≡ type_of_elem elem
deref_type c elem g a s v = ap pointee_type (stands_pointer (type_of c a) elem g v.type).is

pub behind_fits : (w : Setting) (l : Bool) (elem : Elem) (g : Bool) (s : Span) (p : t.ExprTree) (v : Lowered) → x.type_of p ≡ Pointer elem g → LoweredFits w l (x.type_of p) v → PlaceFits w l (type_of_elem elem) (behind s p v)
behind_fits w l elem g s p v is h =
    let value = subst (λ z. ValueFits (context w) z v.value) is h.value in
    let known = subst (λ z. is_variable_type (length w.names.structs) z ≡ true) is h.known in
    record {
      stmts = h.stmts;
      place = deref_fits (context w) elem g v.value s value;
      type = deref_type (context w) elem g v.value s value;
      own = ap pointee_type is;
      through = (h.value.type, subst (λ z. is_known w.names.structs z ≡ true) (sym is) known);
      temps = h.temps;
      known = elem_known (length w.names.structs) elem known;
    }

-- an array's element
pub element_fits : (w : Setting) (l : Bool) (elem : Elem) (g : Bool) (u : IntType) (n : ℕ) (s : Span) (first index : t.ExprTree) (ty : VarTy) (base v : Lowered) → ty ≡ Pointer elem g →
    (Stand w.variables n base.temps → LoweredFits w l (Pointer elem g) base) → (Stand w.variables (past n base.temps) v.temps → LoweredFits w l (Int u) v) →
    Stand w.variables n (element_place s first index ty base v).temps → PlaceFits w l (type_of_elem elem) (element_place s first index ty base v)
element_fits w l elem g u n s first index ty base v is h k stand =
    let b = h (stand_first w.variables n base.temps v.temps stand) in
    let y = k (stand_rest w.variables n base.temps v.temps stand) in
    let moved = move_fits (context w) elem g u base.value v.value false s b.value y.value in
    record {
      stmts = fit_both (scope w) l base.stmts v.stmts b.stmts y.stmts;
      place = deref_fits (context w) elem g (move base.value v.value false s) s moved;
      type = deref_type (context w) elem g (move base.value v.value false s) s moved;
      own = ap pointee_type is;
      through = (subst (λ z. stands_for (type_of (context w) base.value) z ≡ true) (sym is) b.value.type, subst (λ z. is_known w.names.structs z ≡ true) (sym is) b.known);
      temps = known_both w.names.structs base.temps v.temps b.temps y.temps;
      known = elem_known (length w.names.structs) elem b.known;
    }

-- ---- places whose pointer is held

record Lead (a b : VarTy) : Type 0 where
  elem : Elem
  own : Bool
  held : Bool
  from : a ≡ Pointer elem own
  to : b ≡ Pointer elem held

lead : (a b : VarTy) → is_some (pointee_of (Some a)) ≡ true → stands_for a b ≡ true → Lead a b
lead (Pointer elem g) (Pointer d k) h i = record { elem = elem; own = g; held = k; from = refl; to = ap (λ z. Pointer z k) (sym (equal_elems elem d (both_hold_first (same_elem elem d) (not g || k) i))) }
lead (Pointer elem g) (Int t) h i = false_not_true i
lead (Pointer elem g) (Struct n) h i = false_not_true i
lead (Pointer elem g) (Array d n) h i = false_not_true i
lead (Int t) b h i = false_not_true h
lead (Struct n) b h i = false_not_true h
lead (Array d n) b h i = false_not_true h

-- the same place through a temporary that holds its pointer
fixed_place : (w : Setting) (l : Bool) (ty : VarTy) (n : ℕ) (y : Temp) (p : LoweredPlace) (a : ExprTree) (s : Span) (path : List ℕ) → p.place ≡ place (deref a s) path → p.through ≡ Some y →
    (Stand w.variables n p.temps → PlaceFits w l ty p) → Stand w.variables n (p.temps ++ y ∷ []) → PlaceFits w l ty (fixed_root n y p (place (deref a s) path))
fixed_place w l ty n y p a s path is by h stand =
    let all = h (stand_first w.variables n p.temps (y ∷ []) stand) in
    let here = (stand_rest w.variables n p.temps (y ∷ []) stand).0 in
    let old : place_fits (context w) (place (deref a s) path) ≡ true = subst (λ z. place_fits (context w) z ≡ true) is all.place in
    let kind : place_type (context w) (place (deref a s) path) ≡ ty = subst (λ z. place_type (context w) z ≡ ty) is all.type in
    let leads : Leads w (place (deref a s) path) (Some y) = subst (λ o. Leads w (place (deref a s) path) o) by (subst (λ z. Leads w z p.through) is all.through) in
    let root = both_hold_first (root_fits (context w) (deref a s)) (is_path w.names.structs (root_type (context w) (deref a s)) path) old in
    let way = both_hold_second (root_fits (context w) (deref a s)) (is_path w.names.structs (root_type (context w) (deref a s)) path) old in
    let two = lead (type_of (context w) a) y.ty (both_hold_second (expr_fits (context w) a) (is_some (pointee_of (Some (type_of (context w) a)))) root) leads.0 in
    let scalar : is_scalar (Some y.ty) ≡ true = subst (λ z. is_scalar (Some z) ≡ true) (sym two.to) refl in
    let value = temp_value w (past n p.temps) y.ty here scalar in
    let held_is : type_of (context w) (temp (past n p.temps)) ≡ y.ty = get_or_from_slice_get w.variables (past n p.temps) y.ty (Int i.Int) here in
    let same : root_type (context w) (deref a s) ≡ root_type (context w) (deref (temp (past n p.temps)) s) =
    ap pointee_type two.from ∙ sym (ap pointee_type (held_is ∙ two.to)) in
    let there : place_fits (context w) (place (deref (temp (past n p.temps)) s) path) ≡ true =
    both_hold (root_fits (context w) (deref (temp (past n p.temps)) s)) (is_path w.names.structs (root_type (context w) (deref (temp (past n p.temps)) s)) path)
    (both_hold (expr_fits (context w) (temp (past n p.temps))) (is_some (pointee_of (Some (type_of (context w) (temp (past n p.temps)))))) value.fits (subst (λ z. is_some (pointee_of (Some z)) ≡ true) (sym (held_is ∙ two.to)) refl))
    (subst (λ z. is_path w.names.structs z path ≡ true) same way) in
    record {
      stmts = fit_both (scope w) l p.stmts (hold (past n p.temps) a ∷ check (place (deref (temp (past n p.temps)) s) path) ∷ []) all.stmts
          (hold_fits w l (past n p.temps) y.ty a here scalar (record { fits = both_hold_first (expr_fits (context w) a) (is_some (pointee_of (Some (type_of (context w) a)))) root; type = leads.0 }), (there, tt));
      place = there;
      type = sym (ap (λ z. path_type w.names.structs z path) same) ∙ kind;
      own = all.own;
      through = subst (λ o. Leads w (place (deref (temp (past n p.temps)) s) path) o) (sym by) (value.type, leads.1);
      temps = known_both w.names.structs p.temps (y ∷ []) all.temps (leads.1, tt);
      known = all.known;
    }

fixed_root_fits : (w : Setting) (l : Bool) (ty : VarTy) (n : ℕ) (y : Temp) (p : LoweredPlace) (q : PlaceTree) → p.place ≡ q → p.through ≡ Some y → (Stand w.variables n p.temps → PlaceFits w l ty p) →
    Stand w.variables n (fixed_root n y p q).temps → PlaceFits w l ty (fixed_root n y p q)
fixed_root_fits w l ty n y p (place (deref a s) path) is by h stand = fixed_place w l ty n y p a s path is by h stand
fixed_root_fits w l ty n y p (place (local v) path) is by h stand = h stand
fixed_root_fits w l ty n y p (place (global g) path) is by h stand = h stand

fixed_through_fits : (w : Setting) (l : Bool) (ty : VarTy) (n : ℕ) (o : Option Temp) (p : LoweredPlace) → p.through ≡ o → (Stand w.variables n p.temps → PlaceFits w l ty p) →
    Stand w.variables n (fixed_through n o p).temps → PlaceFits w l ty (fixed_through n o p)
fixed_through_fits w l ty n None p by h stand = h stand
fixed_through_fits w l ty n (Some y) p by h stand = fixed_root_fits w l ty n y p p.place refl by h stand

pub fixed_if_fits : (b : Bool) (w : Setting) (l : Bool) (ty : VarTy) (n : ℕ) (p : LoweredPlace) → (Stand w.variables n p.temps → PlaceFits w l ty p) → Stand w.variables n (fixed_if b n p).temps → PlaceFits w l ty (fixed_if b n p)
fixed_if_fits true w l ty n p h stand = fixed_through_fits w l ty n p.through p refl h stand
fixed_if_fits false w l ty n p h stand = h stand

-- ---- arrays and addresses

pub decay_fits : (c : Context) (p : PlaceTree) (elem : Elem) (count : ℕ) (g : Bool) → place_fits c p ≡ true → place_type c p ≡ Array elem count → ValueFits c (Pointer elem g) (decay p)
decay_fits c p elem count g h is = record {
  fits = both_hold (place_fits c p) (is_some (item_of (Some (place_type c p)))) h (subst (λ z. is_some (item_of (Some z)) ≡ true) (sym is) refl);
  type = subst (λ z. stands_for (Pointer (core.element_of z) false) (Pointer elem g) ≡ true) (sym is) (points elem false g refl);
}

pub elem_of_type : (elem : Elem) → core.element_of (type_of_elem elem) ≡ elem
elem_of_type (e.Int t) = refl
elem_of_type (e.Struct n) = refl

elem_is_some : (elem : Elem) → is_some (element_of (Some (type_of_elem elem))) ≡ true
elem_is_some (e.Int t) = refl
elem_is_some (e.Struct n) = refl

pub address_fits : (c : Context) (p : PlaceTree) (elem : Elem) (g : Bool) → place_fits c p ≡ true → place_type c p ≡ type_of_elem elem → is_addressed p ≡ true → ValueFits c (Pointer elem g) (address p)
address_fits c p elem g h is k = record {
  fits = both_hold (place_fits c p) (is_addressed p && is_some (element_of (Some (place_type c p)))) h
      (both_hold (is_addressed p) (is_some (element_of (Some (place_type c p)))) k (subst (λ z. is_some (element_of (Some z)) ≡ true) (sym is) (elem_is_some elem)));
  type = subst (λ z. stands_for (Pointer (core.element_of z) false) (Pointer elem g) ≡ true) (sym is) (subst (λ z. stands_for (Pointer z false) (Pointer elem g) ≡ true) (sym (elem_of_type elem)) (points elem false g refl));
}

pub field_addressed : (p : PlaceTree) (k : ℕ) → is_addressed (place_with_field p k) ≡ true
field_addressed (place (local v) path) k = refl
field_addressed (place (global g) path) k = refl
field_addressed (place (deref a s) []) k = refl
field_addressed (place (deref a s) (j ∷ js)) k = refl
