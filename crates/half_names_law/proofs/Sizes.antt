-- In the table of a half's structs an object has no more cells than in the half.
use Rattle.std.proofs.Common.{◌≡◌, ◌<◌, ◌≤◌, ◌+◌, ◌*◌, ap, ℕ, zero, suc, true, List, [], ◌∷◌, length, Some, arith}
use Rattle.std.specs.Prelude.{nat_le, nat_lt, sum_by}
use Rattle.std.specs.List.{flat_map, list_all}
use Rattle.std.proofs.lemmas.Bool.Decides.{nat_tests}
use Rattle.std.proofs.lemmas.List.{length-append}
use Rattle.std.proofs.lemmas.List.Sums.{sum_by-cons}
use Rattle.pt_base.specs.declared.int_type.IntType.{IntType}
use Rattle.pt_base.proofs.Booleans.{and_parts}
use Rattle.pt_tree.specs.declared.signature.Elem.{Elem}
use Rattle.pt_tree.specs.declared.signature.Elem.TheVariants as elem
use Rattle.typed_tree.specs.declared.types.Field.{Field}
use Rattle.typed_tree.specs.declared.types.StructInfo.{StructInfo}
use Rattle.typed_tree.specs.declared.types.VarTy.{VarTy}
use Rattle.typed_tree.specs.declared.types.VarTy.TheVariants.{Int, Struct, Array, Pointer}
use Rattle.typed_tree.specs.Cells.{leaves_of, repeated}
use Rattle.typed_tree.specs.TypeTests.{type_of_elem}
use Rattle.typed_tree.specs.WellFormed.{is_plain_type, is_small, field_sound, structs_sound}
use Rattle.typed_tree.specs.WellFormedExpression.{is_elem}
use Rattle.typed_tree.proofs.LeavesLemmas.{leaves_of_int, leaves_of_array}
use Rattle.core_soundness_law.proofs.Leaves.{struct_leaf, many}
use Rattle.check_declarations.specs.Cells.{counted, cells_of, cells_of_elem}
use Rattle.check_declarations.specs.NameTables.{values}
use Rattle.check_declarations.specs.Structs.{Structs}
use Rattle.half_meaning_law.specs.Known.{type_as}
use Rattle.half_names_law.proofs.Tables.{listed}
use Rattle.half_names_law.proofs.Structs.{entry_of}

-- the structs before this number have no more cells than integers
abbrev pub CellsFew : Structs → List StructInfo → ℕ → Type 0
CellsFew structs infos n = (m : ℕ) → m < n → cells_of_elem structs (elem.Struct m) ≤ length (leaves_of infos (Struct m))

counted_less : (n : ℕ) → counted n ≤ n
counted_less n = omega arith

rows_few : (count c : ℕ) (ts : List IntType) → c ≤ length ts → count * c ≤ length (repeated count ts)
rows_few zero c ts h = omega arith
rows_few (suc n) c ts h =
    let again = rows_few n c ts h in
    let more = length-append ts (repeated n ts) in
    let first : suc n * c ≡ c + n * c = omega arith in
    omega (arith, again, more, first, h)

elem_few : (structs : Structs) (infos : List StructInfo) (n : ℕ) (el : Elem) → CellsFew structs infos n → is_elem n (Some el) ≡ true → cells_of_elem structs el ≤ length (leaves_of infos (type_of_elem el))
elem_few structs infos n (elem.Int t) few h = let one : length (leaves_of infos (Int t)) ≡ 1 = ap length (leaves_of_int infos t) in omega (arith, one)
elem_few structs infos n (elem.Struct m) few h = few m (grind (arith, nat_tests, h))

pub object_few : (structs : Structs) (infos : List StructInfo) (n : ℕ) (u : VarTy) → CellsFew structs infos n → is_plain_type n u ≡ true → cells_of structs (type_as u) ≤ length (leaves_of infos u)
object_few structs infos n (Int t) few h = let one : length (leaves_of infos (Int t)) ≡ 1 = ap length (leaves_of_int infos t) in omega (arith, one)
object_few structs infos n (Struct m) few h = few m (grind (arith, nat_tests, h))
object_few structs infos n (Array el count) few h =
    let parts = and_parts (is_elem n (Some el)) (nat_le 1 count) h in
    let all : length (leaves_of infos (Array el count)) ≡ length (repeated count (leaves_of infos (type_of_elem el))) = ap length (leaves_of_array infos el count) in
    let rows = rows_few count (cells_of_elem structs el) (leaves_of infos (type_of_elem el)) (elem_few structs infos n el few parts.0) in
    let less = counted_less (count * cells_of_elem structs el) in
    omega (arith, all, rows, less)
object_few structs infos n (Pointer el fixed) few h = cc

fields_few : (structs : Structs) (infos : List StructInfo) (n : ℕ) (all : List Field) (k : ℕ) (fs : List Field) → CellsFew structs infos n → list_all (field_sound infos n) fs ≡ true
    → sum_by (λ f. cells_of structs f.ty) (values (listed (entry_of all) k fs)) ≤ length (flat_map (λ f. leaves_of infos f.ty) fs)
fields_few structs infos n all k [] few h = omega arith
fields_few structs infos n all k (f ∷ fs) few h =
    let parts = and_parts (field_sound infos n f) (list_all (field_sound infos n) fs) h in
    let own = and_parts (is_plain_type n f.ty) (is_small infos f.ty) parts.0 in
    let one = object_few structs infos n f.ty few own.0 in
    let rest = fields_few structs infos n all (suc k) fs few parts.1 in
    let sums = sum_by-cons (λ g. cells_of structs g.ty) (entry_of all k f).1 (values (listed (entry_of all) (suc k) fs)) in
    let long = length-append (leaves_of infos f.ty) (flat_map (λ g. leaves_of infos g.ty) fs) in
    omega (arith, one, rest, sums, long)

-- a struct whose fields are these
pub struct_few : (structs : Structs) (infos : List StructInfo) (n : ℕ) (all : List Field) → CellsFew structs infos n → list_all (field_sound infos n) all ≡ true
    → counted (sum_by (λ f. cells_of structs f.ty) (values (listed (entry_of all) 0 all))) ≤ length (flat_map (λ f. leaves_of infos f.ty) all)
struct_few structs infos n all few h =
    let sum = fields_few structs infos n all 0 all few h in
    let less = counted_less (sum_by (λ f. cells_of structs f.ty) (values (listed (entry_of all) 0 all))) in
    omega (arith, sum, less)

-- ---- an array that isn't too large has no more elements than an object may have cells

one_leaf : (infos : List StructInfo) → structs_sound infos 0 infos ≡ true → (n : ℕ) → n ≤ length infos → (el : Elem) → is_elem n (Some el) ≡ true → 1 ≤ length (leaves_of infos (type_of_elem el))
one_leaf infos sound n low (elem.Int t) h = let one : length (leaves_of infos (Int t)) ≡ 1 = ap length (leaves_of_int infos t) in omega (arith, one)
one_leaf infos sound n low (elem.Struct m) h = struct_leaf infos sound m (below m n (length infos) h low)
  where
    below : (m n all : ℕ) → nat_lt m n ≡ true → n ≤ all → m < all
    below m n all h low = let less : m < n = grind (arith, nat_tests, h) in omega (arith, less, low)

pub array_few : (infos : List StructInfo) → structs_sound infos 0 infos ≡ true → (n : ℕ) → n ≤ length infos → (el : Elem) (count : ℕ) → is_elem n (Some el) ≡ true → is_small infos (Array el count) ≡ true → nat_le count 65_536 ≡ true
array_few infos sound n low el count h small =
    let all : length (leaves_of infos (Array el count)) ≡ length (repeated count (leaves_of infos (type_of_elem el))) = ap length (leaves_of_array infos el count) in
    let long = many count (leaves_of infos (type_of_elem el)) (one_leaf infos sound n low el h) in
    let most = at_most (length (leaves_of infos (Array el count))) small in
    fewer count (omega (arith, all, long, most))
  where
    at_most : (k : ℕ) → nat_le k 65_536 ≡ true → k ≤ 65536
    at_most k h = grind (arith, nat_tests, h)

    fewer : (k : ℕ) → k ≤ 65536 → nat_le k 65_536 ≡ true
    fewer k h = grind (arith, nat_tests, h)
