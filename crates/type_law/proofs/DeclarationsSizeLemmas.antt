-- The cells of an object are counted alike in the table and in the typed tree.
use Rattle.std.proofs.Common.{◌≡◌, ◌≤◌, ◌<◌, ◌+◌, ◌*◌, ◌++◌, ◌∙◌, sym, ap, subst, refl, ℕ, zero, suc, List, [], ◌∷◌, length, arith, Some}
use Rattle.std.specs.Prelude.{IsTrue, nat_lt, nat_le, slice_get, option_map, sum_by}
use Rattle.std.specs.Option.{option_map_or}
use Rattle.std.specs.List.{list_all, flat_map}
use Rattle.std.proofs.lemmas.Bool.Decides.{nat_tests}
use Rattle.std.proofs.lemmas.List.{length-append}
use Rattle.std.proofs.lemmas.List.Sums.{sum_by-cons}
use Rattle.pt_base.specs.declared.int_type.IntType.{IntType}
use Rattle.pt_base.proofs.Booleans.{both_hold_first, both_hold_second}
use Rattle.pt_base.proofs.Places.{get_there}
use Rattle.pt_tree.specs.declared.signature.Elem.TheVariants as elem
use Rattle.type_rules.specs.declared.types.Type.{«Type»}
use Rattle.type_rules.specs.declared.types.Type.TheVariants.{Bad, Void, Int, Struct, Array, Pointer}
use Rattle.typed_tree.specs.declared.types.VarTy.TheVariants as v
use Rattle.typed_tree.specs.Cells as typed
use Rattle.typed_tree.proofs.LeavesLemmas.{leaves_of_int, leaves_of_array}
use Rattle.check_declarations.specs.declared.structs.FieldEntry.{FieldEntry}
use Rattle.check_declarations.specs.declared.structs.StructEntry.{StructEntry}
use Rattle.check_declarations.specs.declared.fault.FaultKind.TheVariants.{TooLarge}
use Rattle.check_declarations.specs.Cells.{counted, cells_of, cells_of_elem, object_limit}
use Rattle.check_declarations.specs.NameTables.{values}
use Rattle.check_declarations.specs.Structs.{Structs}
use Rattle.check_expressions.specs.Operands.{var_type}
use Rattle.check_expressions.specs.StructInfos.{object_type_of, infos_of}
use Rattle.type_law.specs.DeclarationsTypes.{is_plain}
use Rattle.type_law.specs.DeclarationsSound.{SoundStructs}
use Rattle.type_law.specs.DeclarationsLaws.{SizesAreSound}
use Rattle.type_law.proofs.DeclarationsFaultLemmas.{no_fault}
use Rattle.type_law.proofs.DeclarationsTableLemmas.{cells_before, field_at, sound_at}
use Rattle.type_law.proofs.DeclarationsTypedLeaves.{leaves_of_struct}

-- the integers of an object of this type in the typed tree
abbrev pub integers_of : Structs → «Type» → List IntType
integers_of all t = typed.leaves_of (infos_of all) (object_type_of t)

length_repeated : {X : Type 0} (n : ℕ) (xs : List X) → length (typed.repeated n xs) ≡ n * length xs
length_repeated zero xs = omega arith
length_repeated (suc n) xs =
    let more = length-append xs (typed.repeated n xs) in
    let rest = length_repeated n xs in
    more ∙ ap (λ k. length xs + k) rest ∙ omega arith

pub integers_of_int : (all : Structs) (t : IntType) → integers_of all (Int t) ≡ t ∷ []
unfolding var_type
integers_of_int all t = leaves_of_int (infos_of all) t

pub integers_of_ints : (all : Structs) (t : IntType) (count : ℕ) → integers_of all (Array (elem.Int t) count) ≡ typed.repeated count (t ∷ [])
unfolding var_type
integers_of_ints all t count = leaves_of_array (infos_of all) (elem.Int t) count ∙ ap (typed.repeated count) (leaves_of_int (infos_of all) t)

pub integers_of_struct : (all : Structs) (n : ℕ) → integers_of all (Struct n) ≡ typed.leaves_of (infos_of all) (v.Struct n)
unfolding var_type
integers_of_struct all n = refl

pub integers_of_structs : (all : Structs) (n count : ℕ) → integers_of all (Array (elem.Struct n) count) ≡ typed.repeated count (integers_of all (Struct n))
unfolding var_type
integers_of_structs all n count = leaves_of_array (infos_of all) (elem.Struct n) count

pub integers_in_struct : (all : Structs) (n : ℕ) (s : List ℕ × StructEntry) → SoundStructs all → slice_get all n ≡ Some s
    → integers_of all (Struct n) ≡ flat_map (λ f. integers_of all f.ty) (values s.1.fields)
integers_in_struct all n s h e = integers_of_struct all n ∙ leaves_of_struct all n s h e

-- the structs before this number have as many integers as cells, as far as cells are counted
abbrev pub Counts : Structs → ℕ → Type 0
Counts all n = (m : ℕ) → m < n → counted (length (integers_of all (Struct m))) ≡ cells_of_elem all (elem.Struct m)

-- what isn't clipped is exact
unclipped : (n c : ℕ) → counted n ≡ c → c ≤ 65536 → n ≡ c
unclipped n c e h = omega arith

-- the cells of one element of an array that isn't too large are few as well
elements_few : (count c : ℕ) → 1 ≤ count → counted (count * c) ≤ 65536 → c ≤ 65536
elements_few zero c h k = absurd (omega (arith, h))
elements_few (suc n) c h k =
    let exact : suc n * c ≤ 65536 = omega (arith, k) in
    let first : suc n * c ≡ c + n * c = omega arith in
    omega (arith, exact, first)

-- an object that isn't too large has as many integers as cells
pub object_counts : (all : Structs) (n : ℕ) (t : «Type») → Counts all n → IsTrue (is_plain n t) → cells_of all t ≤ 65536 → length (integers_of all t) ≡ cells_of all t
object_counts all n Bad counts h few = cc
object_counts all n Void counts h few = cc
object_counts all n (Int t) counts h few = ap length (integers_of_int all t)
object_counts all n (Struct m) counts h few = unclipped _ _ (counts m (grind (arith, nat_tests, h))) few
object_counts all n (Array (elem.Int t) count) counts h few =
    ap length (integers_of_ints all t count) ∙ length_repeated count (t ∷ []) ∙ omega (arith, few)
object_counts all n (Array (elem.Struct m) count) counts h few =
    let below = both_hold_first (nat_lt m n) (nat_le 1 count) h in
    let some = both_hold_second (nat_lt m n) (nat_le 1 count) h in
    let cells = elements_few count (cells_of_elem all (elem.Struct m)) (grind (arith, nat_tests, some)) few in
    let one = unclipped _ _ (counts m (grind (arith, nat_tests, below))) cells in
    ap length (integers_of_structs all m count) ∙ length_repeated count (integers_of all (Struct m)) ∙ ap (λ k. count * k) one ∙ omega (arith, few)
object_counts all n (Pointer e fixed) counts h few = cc

fields_count : (all : Structs) (n : ℕ) (fs : List FieldEntry) → Counts all n → IsTrue (list_all (field_at all n) fs)
    → length (flat_map (λ f. integers_of all f.ty) fs) ≡ sum_by (λ f. cells_of all f.ty) fs
fields_count all n [] counts h = refl
fields_count all n (f ∷ fs) counts h =
    let here = both_hold_first (field_at all n f) (list_all (field_at all n) fs) h in
    let plain = both_hold_first (is_plain n f.ty) (nat_le (cells_of all f.ty) object_limit) here in
    let small = both_hold_second (is_plain n f.ty) (nat_le (cells_of all f.ty) object_limit) here in
    let one = object_counts all n f.ty counts plain (grind (arith, nat_tests, small)) in
    let rest = fields_count all n fs counts (both_hold_second (field_at all n f) (list_all (field_at all n) fs) h) in
    let parts = length-append (integers_of all f.ty) (flat_map (λ g. integers_of all g.ty) fs) in
    let sums = sum_by-cons (λ g. cells_of all g.ty) f fs in
    parts ∙ ap (λ k. k + length (flat_map (λ g. integers_of all g.ty) fs)) one ∙ ap (λ k. cells_of all f.ty + k) rest ∙ sym sums

struct_counts : (all : Structs) (depth m : ℕ) → SoundStructs all → m < depth → m < length all
    → counted (length (integers_of all (Struct m))) ≡ cells_of_elem all (elem.Struct m)
struct_counts all zero m h deep within = absurd (omega (arith, deep))
struct_counts all (suc depth) m h deep within =
    let found = get_there all m within in
    let sound = sound_at all m found.0 h found.1 in
    let counts : Counts all m = λ k below. struct_counts all depth k h (omega (arith, below, deep)) (omega (arith, below, within)) in
    ap (λ xs. counted (length xs)) (integers_in_struct all m found.0 h found.1)
    ∙ ap counted (fields_count all m (values found.0.1.fields) counts sound.fields)
    ∙ sym sound.cells
    ∙ sym (ap (λ o. option_map_or (λ s. s.cells) (option_map (λ e. e.1) o) 0) found.1)

-- in a sound table each struct has as many integers as cells, as far as cells are counted
pub all_count : (all : Structs) → SoundStructs all → Counts all (length all)
all_count all h m within = struct_counts all (suc m) m h (omega arith) within

pub sizes_are_sound : SizesAreSound
sizes_are_sound structs more t at h plain none =
    let before = cells_before structs more t plain in
    let few = no_fault (nat_lt object_limit (cells_of structs t)) TooLarge at none in
    let small : cells_of structs t ≤ 65536 = grind (arith, nat_tests, few) in
    let counts : Counts (structs ++ more) (length structs) = λ m below. all_count (structs ++ more) h m (omega (arith, below, length-append structs more)) in
    let exact = object_counts (structs ++ more) (length structs) t counts plain (omega (arith, before, small)) ∙ before in
    (exact, subst (λ k. IsTrue (nat_le k 65536)) (sym exact) (grind (arith, nat_tests, small)))
