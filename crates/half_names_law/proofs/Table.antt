-- The table of a half's structs: all of them, under their names, and nothing in them is const.
use Rattle.std.proofs.Common.{◌≡◌, ◌++◌, ◌∙◌, ◌<◌, ◌≤◌, ◌+◌, sym, ap, refl, subst, ℕ, zero, suc, Bool, true, false, List, [], ◌∷◌, length, map, Option, Some, None, arith}
use Rattle.std.specs.Prelude.{◌&&◌, ◌||◌, nat_le, nat_lt, slice_get, get_or, option_map}
use Rattle.std.specs.Option.{option_map_or}
use Rattle.std.specs.List.{list_all, range_with_len}
use Rattle.std.proofs.lemmas.Bool.Decides.{nat_tests}
use Rattle.std.proofs.lemmas.List.{length-append}
use Rattle.std.proofs.lemmas.Bool.{and_from as both_so}
use Rattle.std.proofs.lemmas.Option.{slice_get-get_or}
use Rattle.pt_base.proofs.Booleans.{and_parts}
use Rattle.pt_base.proofs.Places.{each_pushed, get_below_length, get_pushed, get_there}
use Rattle.pt_tree.specs.declared.signature.Elem.{Elem}
use Rattle.pt_tree.specs.declared.signature.Elem.TheVariants as elem
use Rattle.pt_tree.specs.ProgramTree.{ItemTree}
use Rattle.typed_tree.specs.declared.types.Field.{Field}
use Rattle.typed_tree.specs.declared.types.StructInfo.{StructInfo}
use Rattle.typed_tree.specs.declared.types.VarTy.{VarTy}
use Rattle.typed_tree.specs.declared.types.VarTy.TheVariants.{Int, Struct, Array, Pointer}
use Rattle.typed_tree.specs.Cells.{leaves_of}
use Rattle.typed_tree.specs.Sizes.{fields_of}
use Rattle.typed_tree.specs.WellFormed.{is_plain_type, is_small, field_sound, structs_sound}
use Rattle.typed_tree.specs.WellFormedExpression.{is_elem}
use Rattle.typed_tree.proofs.LeavesLemmas.{leaves_of_struct}
use Rattle.check_declarations.specs.declared.structs.StructEntry.{StructEntry}
use Rattle.check_declarations.specs.Cells.{cells_of, cells_of_elem, object_limit}
use Rattle.check_declarations.specs.NameTables.{number_of, is_new, values}
use Rattle.check_declarations.specs.Structs.{Structs, struct_of, has_const_field, has_const_part, has_const}
use Rattle.type_law.specs.DeclarationsTypes.{is_plain}
use Rattle.type_law.specs.DeclarationsSound as law
use Rattle.type_law.specs.DeclarationsSound.{SoundStructs}
use Rattle.type_law.proofs.DeclarationsTableLemmas.{elem_cells_before, sound_push}
use Rattle.check_programs.specs.Functions.{Checked}
use Rattle.check_programs.specs.Programs.{checked_items}
use Rattle.check_programs.specs.Progress.{Progress}
use Rattle.core_soundness_law.proofs.Leaves.{sound_at}
use Rattle.pt_core.specs.Types.{element_of}
use Rattle.half_trees.specs.Names.{struct_name, field_by}
use Rattle.half_trees.specs.Declarations.{is_pointer, struct_item}
use Rattle.half_meaning_law.specs.Known.{type_as}
use Rattle.half_names_law.specs.Standing.{Marks}
use Rattle.half_names_law.proofs.Tables.{Differ, listed, listed_length, found, sought_first, is_new_where}
use Rattle.half_names_law.proofs.Specifiers.{IsNamed}
use Rattle.half_names_law.proofs.Objects.{Fits, is_dense}
use Rattle.half_names_law.proofs.Structs.{entry_of, field_entry, fields_as, AllFit, behind, struct_added}
use Rattle.half_names_law.proofs.Sizes.{CellsFew, object_few, struct_few, array_few}

-- ---- the table of so many structs

-- an entry is that of the struct with its number
pub record IsEntry (infos : List StructInfo) (n : ℕ) (x : List ℕ × StructEntry) : Type 0 where
  pub named : x.0 ≡ struct_name infos n
  pub fields : x.1.fields ≡ fields_as (fields_of infos n)
  pub changes : x.1.has_const ≡ false

pub record IsTable (structs : Structs) (infos : List StructInfo) (n : ℕ) : Type 0 where
  pub long : length structs ≡ n
  pub entries : (j : ℕ) (x : List ℕ × StructEntry) → slice_get structs j ≡ Some x → IsEntry infos j x
  pub cells : CellsFew structs infos n
  pub sound : SoundStructs structs

-- each struct stands under its name
pub struct_found : (structs : Structs) (infos : List StructInfo) (n m : ℕ) → IsTable structs infos n → Differ (struct_name infos) n → m < n → number_of structs (struct_name infos m) ≡ Some m
struct_found structs infos n m table differ low =
    let long = table.long in
    let there = get_there structs m (omega (arith, low, long)) in
    let own = table.entries m there.0 there.1 in
    subst (λ name. number_of structs name ≡ Some m) own.named
    (found structs there.0.0 ∙ sought_first structs m there.0 there.1
    (λ j y less at same. let equal = differ m j low (omega (arith, less, low)) (sym own.named ∙ same ∙ (table.entries j y at).named) in omega (arith, less, equal)))

pub struct_new : (structs : Structs) (infos : List StructInfo) (n : ℕ) → IsTable structs infos n → Differ (struct_name infos) (suc n) → is_new structs (struct_name infos n) ≡ true
struct_new structs infos n table differ =
    is_new_where structs (struct_name infos n)
    (λ j x there same. let long = table.long in let near = get_below_length structs j x there in
    let equal = differ n j (omega arith) (omega (arith, near, long)) (same ∙ (table.entries j x there).named) in omega (arith, near, long, equal))

pub named_elem : (structs : Structs) (infos : List StructInfo) (n : ℕ) (el : Elem) → IsTable structs infos n → Differ (struct_name infos) n → is_elem n (Some el) ≡ true → IsNamed structs infos el
named_elem structs infos n (elem.Int t) table differ h = tt {0}
named_elem structs infos n (elem.Struct m) table differ h = struct_found structs infos n m table differ (grind (arith, nat_tests, h))

-- ---- types that name structs of the table alone

plain_named : (structs : Structs) (infos : List StructInfo) (n : ℕ) (u : VarTy) → IsTable structs infos n → Differ (struct_name infos) n → is_plain_type n u ≡ true → IsNamed structs infos (element_of u)
plain_named structs infos n (Int t) table differ h = tt {0}
plain_named structs infos n (Struct m) table differ h = struct_found structs infos n m table differ (grind (arith, nat_tests, h))
plain_named structs infos n (Array el count) table differ h = named_elem structs infos n el table differ (and_parts (is_elem n (Some el)) (nat_le 1 count) h).0
plain_named structs infos n (Pointer el fixed) table differ h = cc

plain_dense : (infos : List StructInfo) (n : ℕ) (u : VarTy) → structs_sound infos 0 infos ≡ true → n ≤ length infos → is_plain_type n u ≡ true → is_small infos u ≡ true → is_dense u ≡ true
plain_dense infos n (Int t) sound low h small = refl
plain_dense infos n (Struct m) sound low h small = refl
plain_dense infos n (Array el count) sound low h small =
    both_so (nat_le 1 count) (nat_le count 65_536) (and_parts (is_elem n (Some el)) (nat_le 1 count) h).1 (array_few infos sound n low el count (and_parts (is_elem n (Some el)) (nat_le 1 count) h).0 small)
  where
    both_so : (a b : Bool) → a ≡ true → b ≡ true → (a && b) ≡ true
    both_so a b p q = λ i. p i && q i
plain_dense infos n (Pointer el fixed) sound low h small = cc

pub small_is : (k : ℕ) → nat_le k 65_536 ≡ true → k ≤ 65536
small_is k h = grind (arith, nat_tests, h)

pub plain_fits : (structs : Structs) (infos : List StructInfo) (n : ℕ) (u : VarTy) → structs_sound infos 0 infos ≡ true → n ≤ length infos → IsTable structs infos n → Differ (struct_name infos) n → is_plain_type n u ≡ true → is_small infos u ≡ true → Fits structs infos u
plain_fits structs infos n u sound low table differ h small =
    let few = object_few structs infos n u table.cells h in
    let most = small_is (length (leaves_of infos u)) small in
    record { named = plain_named structs infos n u table differ h; dense = plain_dense infos n u sound low h small; small = omega (arith, few, most) }

pub plain_is_none : (n : ℕ) (u : VarTy) → is_plain_type n u ≡ true → is_pointer u ≡ false
plain_is_none n (Int t) h = refl
plain_is_none n (Struct m) h = refl
plain_is_none n (Array el count) h = refl
plain_is_none n (Pointer el fixed) h = cc

all_fit : (structs : Structs) (infos : List StructInfo) (n : ℕ) (fs : List Field) → structs_sound infos 0 infos ≡ true → n ≤ length infos → IsTable structs infos n → Differ (struct_name infos) n → list_all (field_sound infos n) fs ≡ true → AllFit structs infos fs
all_fit structs infos n [] sound low table differ h = tt {0}
all_fit structs infos n (f ∷ fs) sound low table differ h =
    let parts = and_parts (field_sound infos n f) (list_all (field_sound infos n) fs) h in
    let own = and_parts (is_plain_type n f.ty) (is_small infos f.ty) parts.0 in
    (record { fits = plain_fits structs infos n f.ty sound low table differ own.0 own.1; plain = plain_is_none n f.ty own.0 }, all_fit structs infos n fs sound low table differ parts.1)

-- ---- nothing is const

fixed_none : (structs : Structs) (u : VarTy) → ((m : ℕ) → has_const_part structs m ≡ false) → is_pointer u ≡ false → has_const structs (type_as u) ≡ false
fixed_none structs (Int t) none h = refl
fixed_none structs (Struct m) none h = none m
fixed_none structs (Array (elem.Int t) count) none h = refl
fixed_none structs (Array (elem.Struct m) count) none h = none m
fixed_none structs (Pointer el fixed) none h = refl

no_const_field : (structs : Structs) (all : List Field) (k : ℕ) (fs : List Field) (infos : List StructInfo) → ((m : ℕ) → has_const_part structs m ≡ false) → AllFit structs infos fs → has_const_field structs (listed (entry_of all) k fs) ≡ false
no_const_field structs all k [] infos none fit = refl
no_const_field structs all k (f ∷ fs) infos none fit = go (has_const structs (type_as f.ty)) _ (fixed_none structs f.ty none fit.0.plain) (no_const_field structs all (suc k) fs infos none fit.1)
  where
    go : (a b : Bool) → a ≡ false → b ≡ false → ((false || a) || b) ≡ false
    go a b p q = λ i. (false || p i) || q i

pub none_const : (structs : Structs) (infos : List StructInfo) (n m : ℕ) → IsTable structs infos n → has_const_part structs m ≡ false
none_const structs infos n m table = go (slice_get structs m) refl
  where
    go : (o : Option (List ℕ × StructEntry)) → slice_get structs m ≡ o → option_map_or (λ s. s.has_const) (option_map (λ e. e.1) o) false ≡ false
    go None is = refl
    go (Some x) is = (table.entries m x is).changes

-- ---- one struct more

-- what soundness says of a struct's fields
pub fields_sound : (infos : List StructInfo) (n : ℕ) → structs_sound infos 0 infos ≡ true → n < length infos → (nat_le 1 (length (fields_of infos n)) ≡ true) × (list_all (field_sound infos n) (fields_of infos n) ≡ true)
fields_sound infos n sound low =
    and_parts (nat_le 1 (length (fields_of infos n))) (list_all (field_sound infos n) (fields_of infos n))
    (sound_at infos n (get_or infos n (record { name = []; fields = [] })) sound (slice_get-get_or infos n (record { name = []; fields = [] }) low))

abbrev struct_entry : Structs → List StructInfo → ℕ → List ℕ × StructEntry
struct_entry structs infos n = (struct_name infos n, struct_of structs (fields_as (fields_of infos n)))

entry_is : (structs : Structs) (infos : List StructInfo) (n : ℕ) → structs_sound infos 0 infos ≡ true → n < length infos → Differ (struct_name infos) n → IsTable structs infos n → IsEntry infos n (struct_entry structs infos n)
entry_is structs infos n sound low differ table = record {
  named = refl;
  fields = refl;
  changes = no_const_field structs (fields_of infos n) 0 (fields_of infos n) infos (λ m. none_const structs infos n m table)
      (all_fit structs infos n (fields_of infos n) sound (omega (arith, low)) table differ (fields_sound infos n sound low).1);
}

cells_pushed : (structs : Structs) (infos : List StructInfo) (n : ℕ) → structs_sound infos 0 infos ≡ true → n < length infos → IsTable structs infos n → CellsFew (structs ++ struct_entry structs infos n ∷ []) infos (n + 1)
cells_pushed structs infos n sound low table m near = go (nat_lt m n) refl
  where
    long : length structs ≡ n
    long = table.long

    last : m ≡ n → cells_of_elem (structs ++ struct_entry structs infos n ∷ []) (elem.Struct m) ≤ length (leaves_of infos (Struct m))
    last is =
        let there : slice_get (structs ++ struct_entry structs infos n ∷ []) m ≡ Some (struct_entry structs infos n) = ap (slice_get (structs ++ struct_entry structs infos n ∷ [])) (is ∙ sym long) ∙ get_pushed structs (struct_entry structs infos n) in
        let here = ap (λ o. option_map_or (λ s. s.cells) (option_map (λ e. e.1) o) 0) there in
        let few = struct_few structs infos n (fields_of infos n) table.cells (fields_sound infos n sound low).1 in
        let leaves = ap length (leaves_of_struct infos n (get_or infos n (record { name = []; fields = [] })) sound (slice_get-get_or infos n (record { name = []; fields = [] }) low)) in
        subst (λ k. cells_of_elem (structs ++ struct_entry structs infos n ∷ []) (elem.Struct m) ≤ length (leaves_of infos (Struct k))) (sym is) (joined _ _ _ _ here few leaves)
      where
        joined : (a b c d : ℕ) → a ≡ b → b ≤ c → d ≡ c → a ≤ d
        joined a b c d p q r = omega (arith, p, q, r)

    go : (b : Bool) → nat_lt m n ≡ b → cells_of_elem (structs ++ struct_entry structs infos n ∷ []) (elem.Struct m) ≤ length (leaves_of infos (Struct m))
    go true is =
        let less : m < n = grind (arith, nat_tests, is) in
        let same = elem_cells_before structs (struct_entry structs infos n ∷ []) (elem.Struct m) (grind (arith, nat_tests, less, long)) in
        let few = table.cells m less in omega (arith, same, few)
    go false is = last (grind (arith, nat_tests, is, near))

pub plain_as : (n : ℕ) (u : VarTy) → is_plain_type n u ≡ true → is_plain n (type_as u) ≡ true
plain_as n (Int t) h = h
plain_as n (Struct m) h = h
plain_as n (Array el count) h = h
plain_as n (Pointer el fixed) h = h

fields_stay_sound : (structs : Structs) (infos : List StructInfo) (n : ℕ) (all : List Field) (k : ℕ) (fs : List Field) → length structs ≡ n → CellsFew structs infos n → list_all (field_sound infos n) fs ≡ true
    → list_all (law.field_sound structs) (values (listed (entry_of all) k fs)) ≡ true
fields_stay_sound structs infos n all k [] long few h = refl
fields_stay_sound structs infos n all k (f ∷ fs) long few h =
    let parts = and_parts (field_sound infos n f) (list_all (field_sound infos n) fs) h in
    let own = and_parts (is_plain_type n f.ty) (is_small infos f.ty) parts.0 in
    let less = object_few structs infos n f.ty few own.0 in
    let most = small_is (length (leaves_of infos f.ty)) own.1 in
    both_so (law.field_sound structs (field_entry f)) (list_all (law.field_sound structs) (values (listed (entry_of all) (suc k) fs)))
    (both_so (is_plain (length structs) (type_as f.ty)) (nat_le (cells_of structs (type_as f.ty)) object_limit)
    (subst (λ m. is_plain m (type_as f.ty) ≡ true) (sym long) (plain_as n f.ty own.0)) (few_is (cells_of structs (type_as f.ty)) (omega (arith, less, most))))
    (fields_stay_sound structs infos n all (suc k) fs long few parts.1)
  where
    few_is : (c : ℕ) → c ≤ 65536 → nat_le c 65536 ≡ true
    few_is c h = grind (arith, nat_tests, h)

sound_pushed : (structs : Structs) (infos : List StructInfo) (n : ℕ) → structs_sound infos 0 infos ≡ true → n < length infos → IsTable structs infos n → SoundStructs (structs ++ struct_entry structs infos n ∷ [])
sound_pushed structs infos n sound low table =
    let own = fields_sound infos n sound low in
    sound_push structs (struct_entry structs infos n) table.sound
    (record { some = filled (fields_of infos n) own.0; fields = fields_stay_sound structs infos n (fields_of infos n) 0 (fields_of infos n) table.long table.cells own.1; cells = refl })
  where
    filled : (fs : List Field) → nat_le 1 (length fs) ≡ true → 1 ≤ length (fields_as fs)
    filled fs h = let long = listed_length (entry_of fs) 0 fs in let some : 1 ≤ length fs = grind (arith, nat_tests, h) in omega (arith, long, some)

pub table_pushed : (structs : Structs) (infos : List StructInfo) (n : ℕ) → structs_sound infos 0 infos ≡ true → n < length infos → Differ (struct_name infos) n → IsTable structs infos n
    → IsTable (behind structs (struct_name infos n) (fields_of infos n)) infos (n + 1)
table_pushed structs infos n sound low differ table =
    let long = table.long in
    let more = length-append structs (struct_entry structs infos n ∷ []) in
    record {
      long = omega (arith, long, more);
      entries = each_pushed (IsEntry infos) structs (struct_entry structs infos n) table.entries (subst (λ k. IsEntry infos k (struct_entry structs infos n)) (sym table.long) (entry_is structs infos n sound low differ table));
      cells = cells_pushed structs infos n sound low table;
      sound = sound_pushed structs infos n sound low table;
    }

-- ---- all struct declarations

-- the table with so many structs from this one on behind it
abbrev pub table_to : List StructInfo → Structs → ℕ → ℕ → Structs
table_to infos structs n zero = structs
table_to infos structs n (suc count) = table_to infos (behind structs (struct_name infos n) (fields_of infos n)) (n + 1) count

-- what is asked of the names
pub record NamesDiffer (infos : List StructInfo) : Type 0 where
  pub structs : Differ (struct_name infos) (length infos)
  pub fields : (n : ℕ) → n < length infos → Differ (field_by (fields_of infos n)) (length (fields_of infos n))

pub first_differ : (name : ℕ → List ℕ) (m n : ℕ) → m ≤ n → Differ name n → Differ name m
first_differ name m n less differ j k low high = differ j k (omega (arith, less, low)) (omega (arith, less, high))

pub table_grown : (infos : List StructInfo) (structs : Structs) (n count : ℕ) → structs_sound infos 0 infos ≡ true → n + count ≤ length infos → NamesDiffer infos → IsTable structs infos n → IsTable (table_to infos structs n count) infos (n + count)
table_grown infos structs n zero sound low differ table = let same : n ≡ n + 0 = omega arith in subst (λ k. IsTable structs infos k) same table
table_grown infos structs n (suc count) sound low differ table =
    let same : n + 1 + count ≡ n + suc count = omega arith in
    subst (λ k. IsTable (table_to infos structs n (suc count)) infos k) same
    (table_grown infos (behind structs (struct_name infos n) (fields_of infos n)) (n + 1) count sound (omega (arith, low)) differ
    (table_pushed structs infos n sound (omega (arith, low)) (first_differ (struct_name infos) n (length infos) (omega (arith, low)) differ.structs) table))

-- the items behind one
abbrev pub then_rest : Marks → List ItemTree → Checked → Checked
then_rest marks items one = let rest = checked_items marks one.progress items in record { progress = rest.progress; faults = one.faults ++ rest.faults }

-- the items of the structs add them to the table, and do nothing else
pub structs_added : (marks : Marks) (infos : List StructInfo) (st : Progress) (n count : ℕ) → structs_sound infos 0 infos ≡ true → n + count ≤ length infos → NamesDiffer infos → IsTable st.structs infos n
    → checked_items marks st (map (struct_item infos) (range_with_len n count)) ≡ record { progress = record st { structs = table_to infos st.structs n count }; faults = [] }
structs_added marks infos st n zero sound low differ table = refl
structs_added marks infos st n (suc count) sound low differ table =
    let here : n < length infos = omega (arith, low) in
    let some : 1 ≤ length (fields_of infos n) = at_least (length (fields_of infos n)) (fields_sound infos n sound here).0 in
    let own = first_differ (struct_name infos) n (length infos) (omega (arith, low)) differ.structs in
    ap (then_rest marks (map (struct_item infos) (range_with_len (n + 1) count)))
    (struct_added (marks []) st infos n some (all_fit st.structs infos n (fields_of infos n) sound (omega (arith, low)) table own (fields_sound infos n sound here).1) (differ.fields n here)
    (struct_new st.structs infos n table (first_differ (struct_name infos) (suc n) (length infos) (omega (arith, low)) differ.structs)))
    ∙ structs_added marks infos (record st { structs = behind st.structs (struct_name infos n) (fields_of infos n) }) (n + 1) count sound (omega (arith, low)) differ (table_pushed st.structs infos n sound here own table)
  where
    at_least : (k : ℕ) → nat_le 1 k ≡ true → 1 ≤ k
    at_least k h = grind (arith, nat_tests, h)
