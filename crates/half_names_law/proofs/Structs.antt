-- What the struct declarations of a half add to the table of structs, and that they have no fault.
use Rattle.std.proofs.Common.{◌≡◌, ◌++◌, ◌∙◌, ◌<◌, ◌≤◌, ◌+◌, sym, ap, refl, subst, ℕ, zero, suc, Bool, true, false, List, [], ◌∷◌, length, Some, arith}
use Rattle.std.specs.Prelude.{not, ◌||◌, nat_eq, slice_get, if◌then◌else◌}
use Rattle.std.proofs.lemmas.Bool.Decides.{nat_tests}
use Rattle.std.proofs.lemmas.List.{append_assoc, length-append}
use Rattle.pt_tree.specs.SpecifierTree.{FieldTrees, field_trees, structure, no_specs, spec_and, spec_trees}
use Rattle.pt_tree.specs.ProgramTree as parsed
use Rattle.pt_tree.specs.ProgramTree.{ItemTree}
use Rattle.type_rules.specs.declared.types.Type.{«Type»}
use Rattle.typed_tree.specs.declared.types.Field.{Field}
use Rattle.typed_tree.specs.declared.types.StructInfo.{StructInfo}
use Rattle.typed_tree.specs.declared.types.VarTy.{VarTy}
use Rattle.typed_tree.specs.declared.types.VarTy.TheVariants.{Int, Struct, Array, Pointer}
use Rattle.typed_tree.specs.Sizes.{fields_of}
use Rattle.check_declarations.specs.declared.fault.FaultKind.TheVariants.{Redeclared, OutOfProfile}
use Rattle.check_declarations.specs.declared.fault.TypeFault.{TypeFault}
use Rattle.check_declarations.specs.declared.marks.Carrier.TheVariants as carrier
use Rattle.check_declarations.specs.declared.marks.Marks.{Marks}
use Rattle.check_declarations.specs.declared.objects.ObjectKind.TheVariants as kind
use Rattle.check_declarations.specs.declared.structs.FieldEntry.{FieldEntry}
use Rattle.check_declarations.specs.Faults.{fault_if}
use Rattle.check_declarations.specs.Fields.{declared}
use Rattle.check_declarations.specs.Marks.{mark_faults}
use Rattle.check_declarations.specs.NameTables.{is_new}
use Rattle.check_declarations.specs.Objects.{object_type}
use Rattle.check_declarations.specs.Specifiers as spec
use Rattle.check_declarations.specs.Specifiers.{Body, body_of, with_field, judged, defined, defined_by, specified}
use Rattle.check_declarations.specs.Structs.{Fields, Structs, struct_of}
use Rattle.check_declarations.specs.Words.{same_words}
use Rattle.check_programs.specs.Functions.{Checked}
use Rattle.check_programs.specs.declared.function_marks.FunctionMarks.{FunctionMarks}
use Rattle.check_programs.specs.Programs.{checked_item}
use Rattle.check_programs.specs.Progress.{Progress}
use Rattle.half_trees.specs.Names.{nowhere, word, struct_name, field_by}
use Rattle.half_trees.specs.Declarations.{is_pointer, suffix_of, field_tree, fields_from, struct_item, declarator_of}
use Rattle.half_meaning_law.specs.Known.{type_as}
use Rattle.half_names_law.proofs.Tables.{Differ, listed, listed_more, listed_back, listed_length, is_new_where}
use Rattle.half_names_law.proofs.Specifiers.{marks_list, object_says, marks_are, marks_stand}
use Rattle.half_names_law.proofs.Objects.{may_be, Fits, declares, given_as, sized}

-- ---- fields

abbrev pub field_entry : Field → FieldEntry
field_entry f = record { ty = type_as f.ty; fixed = false; marked = f.marked }

-- a field with its number, of all that its struct has
abbrev pub entry_of : List Field → ℕ → Field → List ℕ × FieldEntry
entry_of all k f = (field_by all k, field_entry f)

abbrev pub fields_as : List Field → Fields
fields_as all = listed (entry_of all) 0 all

-- a field's declaration, by what its parts are
abbrev field_by_parts : Structs → Fields → List ℕ → «Type» → Bool → Marks → List TypeFault → List TypeFault → List TypeFault → Bool → Body
field_by_parts structs fields name t x m mf of sf new = record {
  structs = structs;
  fields = if new then fields ++ (name, record { ty = t; fixed = x; marked = m.marked }) ∷ [] else fields;
  faults = [] ++ mf ++ ((of ++ sf ++ fault_if (not new) Redeclared nowhere) ++ []);
}

-- a judged field's declaration
abbrev field_by_specs : Structs → Fields → List ℕ → VarTy → spec.Judged → Body
field_by_specs structs fields name u j =
    let d = declared j.structs j.given fields (declarator_of u name ∷ []) in
    record { structs = j.structs; fields = d.fields; faults = j.faults ++ mark_faults carrier.Field j.given.attributes ++ d.faults }

pub field_added : (structs : Structs) (infos : List StructInfo) (fields : Fields) (name : List ℕ) (f : Field) → Fits structs infos f.ty → is_pointer f.ty ≡ false → is_new fields name ≡ true
    → with_field structs fields (field_tree infos name f) ≡ record { structs = structs; fields = fields ++ (name, field_entry f) ∷ []; faults = [] }
field_added structs infos fields name f fits plain new =
    let marks = marks_list f.marked false false in
    let d = declares kind.Field f.ty marks (may f.ty plain) fits.dense in
    ap (field_by_specs structs fields name f.ty) (object_says false structs infos f.marked false false f.ty fits.named)
    ∙ (λ i. field_by_parts structs fields name (d.typed i) (d.changes i) (marks_are f.marked false false i)
    (marks_stand carrier.Field f.marked false false (λ e. refl) (λ e. cc) (λ e. cc) i) (d.fine i) (sized structs (object_type kind.Field (given_as f.ty marks) (is_pointer f.ty) (suffix_of f.ty)) f.ty d.typed fits.small i) (new i))
  where
    may : (u : VarTy) → is_pointer u ≡ false → may_be kind.Field u ≡ true
    may (Int t) h = refl
    may (Struct n) h = refl
    may (Array elem count) h = refl
    may (Pointer elem fixed) h = cc

-- the fields of a struct fit, and none is a pointer
pub record FieldFits (structs : Structs) (infos : List StructInfo) (f : Field) : Type 0 where
  pub fits : Fits structs infos f.ty
  pub plain : is_pointer f.ty ≡ false

abbrev pub AllFit : Structs → List StructInfo → List Field → Type 0
AllFit structs infos [] = Unit {0}
AllFit structs infos (f ∷ fs) = FieldFits structs infos f × AllFit structs infos fs

-- the name is new behind the fields before it
field_new : (all : List Field) (done : List Field) (n : ℕ) → Differ (field_by all) n → length done < n → is_new (listed (entry_of all) 0 done) (field_by all (length done)) ≡ true
field_new all done n differ low =
    is_new_where (listed (entry_of all) 0 done) (field_by all (length done))
    (λ j x there same. let back = listed_back (entry_of all) 0 j done x there in
    let near = got_below done j back.0 back.1 in
    let equal = differ (length done) j low (omega (arith, near, low)) (same ∙ ap (λ z. z.0) back.2 ∙ ap (field_by all) (none_before j)) in omega (arith, near, equal))
  where
    none_before : (j : ℕ) → 0 + j ≡ j
    none_before j = omega arith

    got_below : (xs : List Field) (j : ℕ) (y : Field) → slice_get xs j ≡ Some y → j < length xs
    got_below [] j y h = cc
    got_below (x ∷ xs) zero y h = omega arith
    got_below (x ∷ xs) (suc j) y h = let again = got_below xs j y h in omega (arith, again)

abbrev more : FieldTrees → Body → Body
more fs one =
    let rest = body_of one.structs one.fields fs in
    record { structs = rest.structs; fields = rest.fields; faults = one.faults ++ rest.faults }

-- the declarations of a struct's fields from this one on
fields_added : (structs : Structs) (infos : List StructInfo) (all done rest : List Field) (k : ℕ) → k ≡ length done → Differ (field_by all) (k + length rest) → AllFit structs infos rest
    → body_of structs (listed (entry_of all) 0 done) (field_trees (fields_from infos all k rest)) ≡ record { structs = structs; fields = listed (entry_of all) 0 (done ++ rest); faults = [] }
fields_added structs infos all done [] k at differ fit = ap (λ fs. record { structs = structs; fields = listed (entry_of all) 0 fs; faults = [] }) (sym (nothing_more done))
  where
    nothing_more : {A : Type 0} (xs : List A) → xs ++ [] ≡ xs
    nothing_more [] = refl
    nothing_more (x ∷ xs) = ap (λ ys. x ∷ ys) (nothing_more xs)
fields_added structs infos all done (f ∷ rest) k at differ fit =
    ap (more (field_trees (fields_from infos all (suc k) rest)))
    (field_added structs infos (listed (entry_of all) 0 done) (field_by all k) f fit.0.fits fit.0.plain
    (subst (λ n. is_new (listed (entry_of all) 0 done) (field_by all n) ≡ true) (sym at) (field_new all done (k + suc (length rest)) differ (omega (arith, at)))))
    ∙ ap (λ fs. body_of structs fs (field_trees (fields_from infos all (suc k) rest))) (sym (listed_more (entry_of all) 0 k done (f ∷ []) (omega (arith, at))))
    ∙ fields_added structs infos all (done ++ f ∷ []) rest (suc k) (longer done k at) (λ i j low high. differ i j (omega (arith, low)) (omega (arith, high))) fit.1
    ∙ ap (λ fs. record { structs = structs; fields = listed (entry_of all) 0 fs; faults = [] }) (append_assoc done (f ∷ []) rest)
  where
    longer : (xs : List Field) (n : ℕ) → n ≡ length xs → suc n ≡ length (xs ++ f ∷ [])
    longer xs n h = let two = length-append xs (f ∷ []) in omega (arith, h, two)

-- ---- a struct

-- the item of a struct with this name and these fields
abbrev item_of : List StructInfo → List ℕ → List Field → ItemTree
item_of infos name all = parsed.declares (record {
  span = nowhere;
  specs = spec_trees (structure nowhere (word name) (field_trees (fields_from infos all 0 all)) ∷ []);
  declarators = [];
})

-- the table with this struct behind it
abbrev pub behind : Structs → List ℕ → List Field → Structs
behind structs name all = structs ++ (name, struct_of structs (fields_as all)) ∷ []

-- the declaration, by the struct's body
abbrev by_body : Progress → List ℕ → FieldTrees → Body → Checked
by_body st name fs body =
    let n = defined_by true nowhere (word name) body in
    let j = judged true (spec_and (structure nowhere (word name) fs) no_specs) (record { structs = n.structs; types = n.types ++ []; faults = n.faults ++ [] }) in
    record { progress = record st { structs = j.structs }; faults = j.faults ++ mark_faults carrier.Nothing j.given.attributes ++ [] }

-- and by whether the name is new and the body empty
abbrev by_tests : Progress → List ℕ → Fields → Bool → Bool → Checked
by_tests st name fields new empty = record {
  progress = record st { structs = if new then st.structs ++ (name, struct_of st.structs fields) ∷ [] else st.structs };
  faults = ((((fault_if (not new) Redeclared nowhere ++ fault_if (false || empty) OutOfProfile nowhere) ++ []) ++ []) ++ []) ++ [];
}

item_added : (marks : FunctionMarks) (st : Progress) (infos : List StructInfo) (name : List ℕ) (all : List Field) → 1 ≤ length all → AllFit st.structs infos all → Differ (field_by all) (length all) → is_new st.structs name ≡ true
    → checked_item marks st (item_of infos name all) ≡ record { progress = record st { structs = behind st.structs name all }; faults = [] }
unfolding defined same_words
item_added marks st infos name [] some fit differ new = absurd (omega (arith, some))
item_added marks st infos name (f ∷ fs) some fit differ new =
    ap (by_body st name (field_trees (fields_from infos (f ∷ fs) 0 (f ∷ fs)))) (fields_added st.structs infos (f ∷ fs) [] (f ∷ fs) 0 refl (λ j k low high. differ j k (omega (arith, low)) (omega (arith, high))) fit)
    ∙ (λ i. by_tests st name (fields_as (f ∷ fs)) (new i) (filled (f ∷ fs) some i))
  where
    filled : (all : List Field) → 1 ≤ length all → nat_eq (length (fields_as all)) 0 ≡ false
    filled all some = let long = listed_length (entry_of all) 0 all in let count : 1 ≤ length (fields_as all) = omega (arith, long, some) in grind (arith, nat_tests, count)

pub struct_added : (marks : FunctionMarks) (st : Progress) (infos : List StructInfo) (n : ℕ) → 1 ≤ length (fields_of infos n) → AllFit st.structs infos (fields_of infos n) → Differ (field_by (fields_of infos n)) (length (fields_of infos n)) → is_new st.structs (struct_name infos n) ≡ true
    → checked_item marks st (struct_item infos n) ≡ record { progress = record st { structs = behind st.structs (struct_name infos n) (fields_of infos n) }; faults = [] }
struct_added marks st infos n = item_added marks st infos (struct_name infos n) (fields_of infos n)
