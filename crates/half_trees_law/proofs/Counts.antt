-- No array has more elements than an object may have cells, wherever code names one.
use Rattle.std.proofs.Common.{◌≡◌, ℕ, suc, ◌+◌, ◌≤◌, Bool, true, false, List, [], ◌∷◌, Some, refl, ap, length, arith, nat_eq}
use Rattle.std.specs.Prelude.{IsTrue, nat_le, unwrap_or}
use Rattle.std.specs.List.{list_all}
use Rattle.std.specs.Map.{lookup}
use Rattle.std.proofs.lemmas.Bool.{and_parts, cond_both, leb-true, ltb-true, le-leb}
use Rattle.pt_base.specs.declared.int_type.IntType.TheVariants as i
use Rattle.pt_tree.specs.declared.signature.Elem.{Elem}
use Rattle.pt_tree.specs.declared.signature.Elem.TheVariants as e
use Rattle.typed_tree.specs.declared.types.Field.{Field}
use Rattle.typed_tree.specs.declared.types.StructInfo.{StructInfo}
use Rattle.typed_tree.specs.declared.types.VarTy.{VarTy}
use Rattle.typed_tree.specs.declared.types.VarTy.TheVariants.{Int, Struct, Array, Pointer}
use Rattle.typed_tree.specs.Cells.{repeated, leaves_of}
use Rattle.typed_tree.specs.Sizes.{fields_of}
use Rattle.typed_tree.specs.TypeTests.{type_of_elem}
use Rattle.typed_tree.specs.WellFormed.{is_plain_type, is_variable_type, is_small, field_sound, struct_sound, structs_sound}
use Rattle.typed_tree.specs.WellFormedExpression.{is_elem}
use Rattle.typed_tree.proofs.LeavesLemmas.{leaves_of_int, leaves_of_array}
use Rattle.pt_core.specs.CodeTree.{RootTree, local, global, deref, PlaceTree, place, ExprTree, constant, read, unary, binary, convert, null, address, decay, move, compare, difference}
use Rattle.pt_core.specs.Types.{Context, type_at, field_type, path_type, pointee_type, type_of, place_type, root_type}
use Rattle.core_soundness_law.proofs.Leaves.{struct_leaf, many}
use Rattle.core_soundness_law.proofs.Objects.{plain_variable}
use Rattle.half_trees_law.proofs.Tests.{both, all_got}

-- as many elements as an object may have cells
abbrev pub is_counted : VarTy → Bool
is_counted (Int t) = true
is_counted (Struct n) = true
is_counted (Array elem count) = nat_le count 65_536
is_counted (Pointer elem fixed) = true

abbrev pub are_counted : List Field → Bool
are_counted fields = list_all (λ f. is_counted f.ty) fields

abbrev pub structs_counted : List StructInfo → Bool
structs_counted structs = list_all (λ s. are_counted s.fields) structs

-- all arrays that numbers name
pub record AreCounted (c : Context) : Type 0 where
  pub structs : structs_counted c.structs ≡ true
  pub globals : list_all (λ g. is_counted g.1) c.globals ≡ true
  pub variables : list_all is_counted c.variables ≡ true

-- ---- of what code names

pub fields_counted : (structs : List StructInfo) (n : ℕ) → structs_counted structs ≡ true → are_counted (fields_of structs n) ≡ true
fields_counted structs n h = all_got (λ (s : StructInfo). are_counted s.fields) structs n (record { name = []; fields = [] }) h refl

field_counted : (structs : List StructInfo) (ty : VarTy) (k : ℕ) → structs_counted structs ≡ true → is_counted ty ≡ true → is_counted (field_type structs ty k) ≡ true
field_counted structs (Struct n) k h is = all_got (λ (f : Field). is_counted f.ty) (fields_of structs n) k (record { name = []; ty = Int i.Int; marked = false }) (fields_counted structs n h) refl
field_counted structs (Int t) k h is = is
field_counted structs (Array elem count) k h is = is
field_counted structs (Pointer elem fixed) k h is = is

path_counted : (structs : List StructInfo) (ty : VarTy) (path : List ℕ) → structs_counted structs ≡ true → is_counted ty ≡ true → is_counted (path_type structs ty path) ≡ true
path_counted structs ty [] h is = is
path_counted structs ty (k ∷ ks) h is = path_counted structs (field_type structs ty k) ks h (field_counted structs ty k h is)

pub variable_counted : (c : Context) (v : ℕ) → AreCounted c → is_counted (type_at c.variables v) ≡ true
variable_counted c v h = all_got is_counted c.variables v (Int i.Int) h.variables refl

found_counted : (test : ℕ → Bool) (globals : List (ℕ × VarTy)) → list_all (λ g. is_counted g.1) globals ≡ true → is_counted (unwrap_or (lookup test globals) (Int i.Int)) ≡ true
found_counted test [] h = refl
found_counted test (g ∷ gs) h =
    let parts = and_parts (is_counted g.1) (list_all (λ g. is_counted g.1) gs) h in
    cond_both (test g.0) (Some g.1) (lookup test gs) (λ o. is_counted (unwrap_or o (Int i.Int)) ≡ true) (λ e. parts.0) (λ e. found_counted test gs parts.1)

elem_counted : (elem : Elem) → is_counted (type_of_elem elem) ≡ true
elem_counted (e.Int t) = refl
elem_counted (e.Struct n) = refl

pointee_counted : (ty : VarTy) → is_counted ty ≡ true → is_counted (pointee_type ty) ≡ true
pointee_counted (Pointer elem fixed) h = elem_counted elem
pointee_counted (Int t) h = h
pointee_counted (Struct n) h = h
pointee_counted (Array elem count) h = h

mutual
  type_counted : (a : ExprTree) (c : Context) → AreCounted c → is_counted (type_of c a) ≡ true
  type_counted (constant t v) c h = refl
  type_counted (read p) c h = place_counted p c h
  type_counted (unary op t a s) c h = refl
  type_counted (binary op t a b s) c h = refl
  type_counted (convert t a) c h = refl
  type_counted (null elem) c h = refl
  type_counted (address p) c h = refl
  type_counted (decay p) c h = refl
  type_counted (move a b back s) c h = type_counted a c h
  type_counted (compare op a b s) c h = refl
  type_counted (difference a b s) c h = refl

  pub place_counted : (p : PlaceTree) (c : Context) → AreCounted c → is_counted (place_type c p) ≡ true
  place_counted (place root path) c h = path_counted c.structs (root_type c root) path h.structs (root_counted root c h)

  root_counted : (root : RootTree) (c : Context) → AreCounted c → is_counted (root_type c root) ≡ true
  root_counted (local v) c h = variable_counted c v h
  root_counted (global g) c h = found_counted (nat_eq g) c.globals h.globals
  root_counted (deref a s) c h = pointee_counted (type_of c a) (type_counted a c h)

-- ---- of what is well formed

-- an object with no array of its own has an integer
elem_leaf : (structs : List StructInfo) → IsTrue (structs_sound structs 0 structs) → (n : ℕ) → n ≤ length structs → (elem : Elem) → IsTrue (is_elem n (Some elem)) → 1 ≤ length (leaves_of structs (type_of_elem elem))
elem_leaf structs sound n low (e.Int t) h = let one : length (leaves_of structs (Int t)) ≡ 1 = ap length (leaves_of_int structs t) in omega (arith, one)
elem_leaf structs sound n low (e.Struct m) h = let below = ltb-true m n h in struct_leaf structs sound m (omega (arith, low, below))

array_length : (structs : List StructInfo) → IsTrue (structs_sound structs 0 structs) → (n : ℕ) → n ≤ length structs → (elem : Elem) (count : ℕ) → IsTrue (is_elem n (Some elem)) → count ≤ length (leaves_of structs (Array elem count))
array_length structs sound n low elem count h =
    let all : length (leaves_of structs (Array elem count)) ≡ length (repeated count (leaves_of structs (type_of_elem elem))) = ap length (leaves_of_array structs elem count) in
    let long = many count (leaves_of structs (type_of_elem elem)) (elem_leaf structs sound n low elem h) in
    omega (arith, all, long)

pub typed_counted : (structs : List StructInfo) → IsTrue (structs_sound structs 0 structs) → (n : ℕ) → n ≤ length structs → (ty : VarTy) → IsTrue (is_variable_type n ty) → IsTrue (is_small structs ty) → is_counted ty ≡ true
typed_counted structs sound n low (Int t) h small = refl
typed_counted structs sound n low (Struct m) h small = refl
typed_counted structs sound n low (Pointer elem fixed) h small = refl
typed_counted structs sound n low (Array elem count) h small =
    let long = array_length structs sound n low elem count (and_parts (is_elem n (Some elem)) (nat_le 1 count) h).0 in
    let most = leb-true (length (leaves_of structs (Array elem count))) 65_536 small in
    le-leb count 65_536 (omega (arith, long, most))

-- an object that is no pointer has an integer
pub plain_leaf : (structs : List StructInfo) → IsTrue (structs_sound structs 0 structs) → (ty : VarTy) → IsTrue (is_plain_type (length structs) ty) → 1 ≤ length (leaves_of structs ty)
plain_leaf structs sound (Int t) h = let one : length (leaves_of structs (Int t)) ≡ 1 = ap length (leaves_of_int structs t) in omega (arith, one)
plain_leaf structs sound (Struct n) h = struct_leaf structs sound n (ltb-true n (length structs) h)
plain_leaf structs sound (Array elem count) h =
    let parts = and_parts (is_elem (length structs) (Some elem)) (nat_le 1 count) h in
    let some = leb-true 1 count parts.1 in
    let long = array_length structs sound (length structs) (omega arith) elem count parts.0 in
    omega (arith, some, long)
plain_leaf structs sound (Pointer elem fixed) h = grind (arith, h)

sound_fields_counted : (structs : List StructInfo) → IsTrue (structs_sound structs 0 structs) → (n : ℕ) → n ≤ length structs → (fields : List Field) → IsTrue (list_all (field_sound structs n) fields) → are_counted fields ≡ true
sound_fields_counted structs sound n low [] h = refl
sound_fields_counted structs sound n low (f ∷ fs) h =
    let parts = and_parts (field_sound structs n f) (list_all (field_sound structs n) fs) h in
    let own = and_parts (is_plain_type n f.ty) (is_small structs f.ty) parts.0 in
    both (typed_counted structs sound n low f.ty (plain_variable n f.ty own.0) own.1) (sound_fields_counted structs sound n low fs parts.1)

-- the structs of a list, of which so many stand before
rest_counted : (structs : List StructInfo) → IsTrue (structs_sound structs 0 structs) → (n : ℕ) (rest : List StructInfo) → n + length rest ≤ length structs → IsTrue (structs_sound structs n rest) → structs_counted rest ≡ true
rest_counted structs sound n [] low h = refl
rest_counted structs sound n (s ∷ ss) low h =
    let parts = and_parts (struct_sound structs n s) (structs_sound structs (suc n) ss) h in
    let own = and_parts (nat_le 1 (length s.fields)) (list_all (field_sound structs n) s.fields) parts.0 in
    both (sound_fields_counted structs sound n (omega (arith, low)) s.fields own.1) (rest_counted structs sound (suc n) ss (omega (arith, low)) parts.1)

pub sound_structs_counted : (structs : List StructInfo) → IsTrue (structs_sound structs 0 structs) → structs_counted structs ≡ true
sound_structs_counted structs sound = rest_counted structs sound 0 structs (omega arith) sound
