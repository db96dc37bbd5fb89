-- A brace list fills the same integers as an object has in the typed tree.
use Rattle.std.proofs.Common.{◌≡◌, ◌≤◌, ◌<◌, ◌++◌, ◌∙◌, sym, ap, refl, ℕ, zero, suc, Bool, true, false, List, [], ◌∷◌, length, map, arith}
use Rattle.std.specs.Prelude.{IsTrue, nat_lt, nat_le, option_map, if◌then◌else◌}
use Rattle.std.specs.Option.{option_map_or}
use Rattle.std.specs.List.{list_all, flat_map}
use Rattle.std.proofs.lemmas.Bool.Decides.{nat_tests}
use Rattle.std.proofs.lemmas.List.{length-append, map-append}
use Rattle.pt_base.proofs.Booleans.{both_hold_first, both_hold_second}
use Rattle.pt_base.proofs.Lists.{nil_of_length}
use Rattle.pt_base.proofs.Places.{get_before, get_there}
use Rattle.pt_tree.specs.declared.signature.Elem.TheVariants as elem
use Rattle.type_rules.specs.declared.types.Type.{«Type»}
use Rattle.type_rules.specs.declared.types.Type.TheVariants.{Bad, Void, Int, Struct, Array, Pointer}
use Rattle.typed_tree.specs.Cells as typed
use Rattle.check_declarations.specs.declared.structs.FieldEntry.{FieldEntry}
use Rattle.check_declarations.specs.Cells.{cells_of, object_limit}
use Rattle.check_declarations.specs.NameTables.{values}
use Rattle.check_declarations.specs.Structs.{Structs}
use Rattle.check_statements.specs.Leaves.{object_leaves, field_leaves, struct_leaves}
use Rattle.type_law.specs.DeclarationsTypes.{is_plain}
use Rattle.type_law.specs.DeclarationsSound.{SoundStructs}
use Rattle.type_law.specs.DeclarationsLaws.{LeavesAreSound}
use Rattle.type_law.proofs.DeclarationsGoodTypes.{plain_more}
use Rattle.type_law.proofs.DeclarationsTableLemmas.{cells_before, field_at, sound_at, sound_prefix}
use Rattle.type_law.proofs.DeclarationsSizeLemmas.{integers_of, integers_of_int, integers_of_ints, integers_of_structs, integers_in_struct, Counts, object_counts, all_count}

map_repeated : {X Y : Type 0} (f : X → Y) (n : ℕ) (xs : List X) → map f (typed.repeated n xs) ≡ typed.repeated n (map f xs)
map_repeated f zero xs = refl
map_repeated f (suc n) xs = map-append f xs (typed.repeated n xs) ∙ ap (λ ys. map f xs ++ ys) (map_repeated f n xs)

-- a function gives the integers of each struct before this number
abbrev Gives : Structs → (ℕ → List «Type») → ℕ → Type 0
Gives all within n = (m : ℕ) → m < n → within m ≡ map Int (integers_of all (Struct m))

object_gives : (all : Structs) (within : ℕ → List «Type») (n : ℕ) (t : «Type») → Gives all within n → IsTrue (is_plain n t) → object_leaves within t ≡ map Int (integers_of all t)
object_gives all within n Bad gives h = cc
object_gives all within n Void gives h = cc
object_gives all within n (Int t) gives h = sym (ap (map Int) (integers_of_int all t))
object_gives all within n (Struct m) gives h = gives m (grind (arith, nat_tests, h))
object_gives all within n (Array (elem.Int t) count) gives h =
    sym (map_repeated Int count (t ∷ [])) ∙ sym (ap (map Int) (integers_of_ints all t count))
object_gives all within n (Array (elem.Struct m) count) gives h =
    let below = both_hold_first (nat_lt m n) (nat_le 1 count) h in
    ap (typed.repeated count) (gives m (grind (arith, nat_tests, below)))
    ∙ sym (map_repeated Int count (integers_of all (Struct m)))
    ∙ sym (ap (map Int) (integers_of_structs all m count))
object_gives all within n (Pointer e fixed) gives h = cc

-- a field without cells has no integers
field_gives : (structs more : Structs) (within : ℕ → List «Type») (n : ℕ) (f : FieldEntry) → n ≤ length structs → Gives (structs ++ more) within n → Counts (structs ++ more) n
    → IsTrue (is_plain n f.ty) → IsTrue (is_plain (length structs) f.ty) → cells_of structs f.ty ≤ 65536
    → field_leaves within structs f ≡ map Int (integers_of (structs ++ more) f.ty)
field_gives structs more within n f long gives counts plain plain' few = go (nat_lt 0 (cells_of structs f.ty)) refl
  where
    before : cells_of (structs ++ more) f.ty ≡ cells_of structs f.ty
    before = cells_before structs more f.ty plain'

    go : (b : Bool) → nat_lt 0 (cells_of structs f.ty) ≡ b → (if b then object_leaves within f.ty else []) ≡ map Int (integers_of (structs ++ more) f.ty)
    go true e = object_gives (structs ++ more) within n f.ty gives plain
    go false e =
        let exact = object_counts (structs ++ more) n f.ty counts plain (omega (arith, before, few)) in
        let none : cells_of structs f.ty ≡ 0 = grind (arith, nat_tests, e) in
        sym (ap (map Int) (nil_of_length (integers_of (structs ++ more) f.ty) (exact ∙ before ∙ none)))

fields_give : (structs more : Structs) (within : ℕ → List «Type») (n : ℕ) (fs : List FieldEntry) → n ≤ length structs → Gives (structs ++ more) within n → Counts (structs ++ more) n
    → IsTrue (list_all (field_at structs n) fs)
    → flat_map (λ f. field_leaves within structs f) fs ≡ map Int (flat_map (λ f. integers_of (structs ++ more) f.ty) fs)
fields_give structs more within n [] long gives counts h = refl
fields_give structs more within n (f ∷ fs) long gives counts h =
    let here = both_hold_first (field_at structs n f) (list_all (field_at structs n) fs) h in
    let plain = both_hold_first (is_plain n f.ty) (nat_le (cells_of structs f.ty) object_limit) here in
    let small = both_hold_second (is_plain n f.ty) (nat_le (cells_of structs f.ty) object_limit) here in
    let one = field_gives structs more within n f long gives counts plain (plain_more n (length structs) f.ty long plain) (grind (arith, nat_tests, small)) in
    let rest = fields_give structs more within n fs long gives counts (both_hold_second (field_at structs n f) (list_all (field_at structs n) fs) h) in
    ap (λ xs. xs ++ flat_map (λ g. field_leaves within structs g) fs) one
    ∙ ap (λ xs. map Int (integers_of (structs ++ more) f.ty) ++ xs) rest
    ∙ sym (map-append Int (integers_of (structs ++ more) f.ty) (flat_map (λ g. integers_of (structs ++ more) g.ty) fs))

struct_gives : (structs more : Structs) (depth n : ℕ) → SoundStructs (structs ++ more) → n < depth → n < length structs
    → struct_leaves depth structs n ≡ map Int (integers_of (structs ++ more) (Struct n))
struct_gives structs more zero n h deep within = absurd (omega (arith, deep))
struct_gives structs more (suc depth) n h deep within =
    let found = get_there structs n within in
    let sound = sound_at structs n found.0 (sound_prefix structs more h) found.1 in
    let gives : Gives (structs ++ more) (struct_leaves depth structs) n = λ m below. struct_gives structs more depth m h (omega (arith, below, deep)) (omega (arith, below, within)) in
    let counts : Counts (structs ++ more) n = λ m below. all_count (structs ++ more) h m (omega (arith, below, within, length-append structs more)) in
    ap (λ o. flat_map (λ f. field_leaves (struct_leaves depth structs) structs f) (option_map_or (λ s. values s.fields) (option_map (λ e. e.1) o) [])) found.1
    ∙ fields_give structs more (struct_leaves depth structs) n (values found.0.1.fields) (omega (arith, within)) gives counts sound.fields
    ∙ sym (ap (map Int) (integers_in_struct (structs ++ more) n found.0 h (get_before structs more n within ∙ found.1)))

pub leaves_are_sound : LeavesAreSound
leaves_are_sound structs more t at h plain none =
    object_gives (structs ++ more) (struct_leaves (length structs) structs) (length structs) t (λ m below. struct_gives structs more (length structs) m h below below) plain
